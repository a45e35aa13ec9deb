-- What the reader of scripts answers.
use Rattle.std.specs.Prelude.{◌≡◌, ◌⊎◌, Ok, Err, Result, MatchResult}
use Rattle.opfs_script.specs.declared.refusal.ScriptRefusal.{ScriptRefusal}
use Rattle.opfs_script.specs.declared.refusal.ScriptRefusal.TheVariants.{NoMemory}
use Rattle.opfs_script.specs.Reading.{Read}

-- The answer is what the definition reads, but for want of memory.
abbrev pub Answers : {A : Type 0} → Result A ScriptRefusal → Read A → Type 0
Answers answer wanted = MatchResult answer (λ x. wanted ≡ Ok x) (λ why. (wanted ≡ Err why) ⊎ (why ≡ NoMemory))
