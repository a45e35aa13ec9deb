-- What a reader of a part answers.
use Rattle.std.specs.Prelude.{◌≡◌, Option, Some, None, Result, MatchResult}
use Rattle.opfs_script.specs.declared.fault.Fault.{Fault}
use Rattle.opfs_script.specs.declared.fault.Fault.TheVariants.{Shape}

-- The answer is what the definition finds, and a fault of shape comes only where it finds nothing.
abbrev pub Reads : {A : Type 0} → Result A Fault → Option A → Type 0
Reads answer found = MatchResult answer (λ x. found ≡ Some x) (λ fault. fault ≡ Shape → found ≡ None)

-- The answer is what the definition finds, and the fault is one of shape, exactly where it finds nothing.
abbrev pub Finds : {A : Type 0} → Result A Fault → Option A → Type 0
Finds answer found = MatchResult answer (λ x. found ≡ Some x) (λ fault. (fault ≡ Shape) × (found ≡ None))
