-- What is answered, or the first refusal that holds. `do` puts the tests in the order in which they are judged.
use Rattle.std.specs.Prelude.{⊤, Bool, if◌then◌else◌, Option, Some, None, Result, Ok, Err}
use Rattle.opfs_hist.specs.declared.reply.Refusal.{Refusal}

abbrev pub Ruled : Type 0 → Type 0
Ruled A = Result A Refusal

infixl 10 ◌>>=◌
unfoldable pub ◌>>=◌ : {A B : Type 0} → Ruled A → (A → Ruled B) → Ruled B
(Ok x) >>= next = next x
(Err refusal) >>= next = Err refusal

infixl 10 ◌>>◌
unfoldable pub ◌>>◌ : {B : Type 0} → Ruled (Unit {0}) → Ruled B → Ruled B
(Ok x) >> next = next
(Err refusal) >> next = Err refusal

-- Goes on where the test holds.
abbrev pub unless : Bool → Refusal → Ruled (Unit {0})
unless test refusal = if test then Ok tt else Err refusal

-- Goes on with what is there.
abbrev pub some_or : {A : Type 0} → Option A → Refusal → Ruled A
some_or (Some x) refusal = Ok x
some_or None refusal = Err refusal

-- One name that opens both to a proof.
unfoldable pub binding : ⊤
unfolding ◌>>=◌ ◌>>◌
binding = tt
