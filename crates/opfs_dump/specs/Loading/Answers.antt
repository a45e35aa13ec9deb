-- What a reader of a part answers. This project's own.
use Rattle.std.specs.Prelude.{◌≡◌, ◌⊎◌, Ok, Err, List, [], ◌∷◌, ◌++◌, Option, Some, None, Result, MatchResult}
use Rattle.serde_json.specs.Data.{Data}
use Rattle.opfs_base.specs.Places.{Place}
use Rattle.opfs_machine.specs.Openings.{Stored}
use Rattle.opfs_dump.specs.Text.Reading.{next_row}
use Rattle.opfs_dump.specs.declared.text.refusal.DumpRefusal.{DumpRefusal}
use Rattle.opfs_dump.specs.declared.text.refusal.DumpRefusal.TheVariants.{NoMemory}
use Rattle.opfs_dump.specs.declared.loading.fault.Fault.{Fault}
use Rattle.opfs_dump.specs.declared.loading.fault.Fault.TheVariants.{Form}

-- The answer, as it is seen, is what the definition finds, and a fault of form comes only where it finds nothing.
abbrev pub Reads : {A B : Type 0} → (A → B) → Result A Fault → Option B → Type 0
Reads view answer found = MatchResult answer (λ x. found ≡ Some (view x)) (λ fault. fault ≡ Form → found ≡ None)

-- A row was read that may follow others, and stands behind them.
pub record Follows (done : List (Place × Stored)) (value : Data) (new : List (Place × Stored)) : Type 0 where
  pub row : Place × Stored
  pub next : next_row done value ≡ Some row
  pub added : new ≡ done ++ row ∷ []

-- The answer, as it is seen, is what the definition reads, but for want of memory.
abbrev pub Answers : {A B : Type 0} → (A → B) → Result A DumpRefusal → Result B DumpRefusal → Type 0
Answers view answer wanted = MatchResult answer (λ x. wanted ≡ Ok (view x)) (λ why. (wanted ≡ Err why) ⊎ (why ≡ NoMemory))
