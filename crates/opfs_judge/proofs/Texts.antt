-- Texts that begin with others.
use Rattle.std.proofs.Common.{◌≡◌, ◌==◌, ◌&&◌, ℕ, Bool, true, false, [], ◌∷◌, ◌++◌, append_assoc, drop, length, refl, sym, ap, ◌∙◌, arith}
use Rattle.std.specs.List.{starts_with}
use Rattle.std.proofs.Math.Dec.{eqb}
use Rattle.std.proofs.lemmas.Bool.{false≢true, and_parts}
use Rattle.std.proofs.lemmas.Bool.Decides.{Decides-eqb, nat_tests}
use Rattle.std.proofs.lemmas.List.{append_cancel_left}
use Rattle.std.proofs.lemmas.Slice.Eq.{starts_is}
use Rattle.opfs_base.specs.Texts.{Text}
use Rattle.opfs_transcripts.specs.Told.Reading.{begins}
use Rattle.opfs_transcripts.proofs.told.Goes.{from-test}

itself : (c : ℕ) → (c == c) ≡ true
itself c = grind (arith, nat_tests)

pub begins-front : (front more : Text) → begins front (front ++ more) ≡ true
begins-front [] more = refl
begins-front (c ∷ front) more = λ i. itself c i && begins-front front more i

abbrev pub Behind : Text → Text → Type 0
Behind front text = (more : Text) × (text ≡ front ++ more)

pub begins-true : (front text : Text) → begins front text ≡ true → Behind front text
begins-true [] text h = (text, refl)
begins-true (c ∷ front) [] h = absurd (false≢true h)
begins-true (c ∷ front) (x ∷ text) h =
    let both = and_parts (c == x) (begins front text) h in
    let first = from-test c x both.0 in
    let rest = begins-true front text both.1 in
    (rest.0, λ i. sym first i ∷ rest.1 i)

-- What an answer of `starts_with` over bytes tells.
pub bytes-begin : (r : Bool) (front text : Text) → r ≡ starts_with eqb text front → r ≡ begins front text
bytes-begin r front text is =
    let told = starts_is Decides-eqb text front r is in
    elim r as (λ b. r ≡ b → b ≡ begins front text) [
      | true ↦ λ yes_is. sym (ap (begins front) (told.0 yes_is) ∙ begins-front front (drop (length front) text))
      | false ↦ λ no_is. elim (begins front text) as (λ b. begins front text ≡ b → false ≡ b) [
        | true ↦ λ begun. sym no_is ∙ told.1 (begins-true front text begun).0 (begins-true front text begun).1
        | false ↦ λ not_begun. refl
      ] refl
    ] refl

-- Texts with the same front.
pub same-front : (x a b m n : Text) → (x ++ a) ++ m ≡ (x ++ b) ++ n → a ++ m ≡ b ++ n
same-front x a b m n e = append_cancel_left x (a ++ m) (b ++ n) (sym (append_assoc x a m) ∙ e ∙ append_assoc x b n)
