-- The working copy that is left has the row's bytes.
use Rattle.std.proofs.Common.{◌≡◌, ℕ, ◌+◌, ◌/◌, min, max, List, [], ◌∷◌, length, refl, sym, ap, subst, ◌∙◌, arith}
use Rattle.opfs_pages.specs.Copies.{IsCopy, IsPageOf}
use Rattle.opfs_pages.specs.Stages.{changed}
use Rattle.opfs_pages.proofs.PageBytes.{copied_length}
use Rattle.opfs_pages.proofs.Rest.{written_is, resized_is}
use Rattle.opfs_splice.specs.Splicing.{splice, resize}
use Rattle.opfs_work.specs.Works.{WorkingCopy}
use Rattle.opfs_desk_bytes.specs.Writing.Leaving.{IsWritten, IsCut}
use Rattle.opfs_desk_bytes.specs.declared.writing.target.Target.{Target}

none-there : (xs : List ℕ) → length xs ≡ 0 → xs ≡ []
none-there [] is = refl
none-there (x ∷ xs) is = absurd (omega (arith, is))

pub written-copy : (bytes given page : List ℕ) (old new : WorkingCopy) (t : Target) (len : ℕ) → IsWritten old t len → length given ≡ len → IsCopy bytes old → IsPageOf (changed bytes t.at given t.size) (t.beside / 4096) page
    → ((was more : List ℕ) → length more ≡ len → IsCopy was old → IsPageOf (changed was t.at more (max old.length (t.at + len))) (t.beside / 4096) page → IsCopy (splice was t.at more) new)
    → IsCopy (changed bytes t.at given t.size) new
written-copy bytes given page old new t len is count copy whole left =
    let size : t.size ≡ max (length bytes) (t.at + length given) = is.size_is ∙ (λ i. max (sym (copied_length bytes old copy) i) (t.at + sym count i)) in
    let all : changed bytes t.at given t.size ≡ splice bytes t.at given = ap (λ (n : ℕ). changed bytes t.at given n) size ∙ written_is bytes given t.at in
    subst (λ (xs : List ℕ). IsCopy xs new) (sym all)
    (left bytes given count copy
    (subst (λ (n : ℕ). IsPageOf (changed bytes t.at given n) (t.beside / 4096) page) is.size_is whole))

pub cut-copy : (bytes given page : List ℕ) (old new : WorkingCopy) (t : Target) (len : ℕ) → IsCut old t len → length given ≡ len → IsCopy bytes old → IsPageOf (changed bytes t.at given t.size) (t.beside / 4096) page
    → ((was : List ℕ) → IsCopy was old → IsPageOf (changed was 0 [] t.size) (min old.position t.size / 4096) page → IsCopy (resize was t.size) new)
    → IsCopy (changed bytes t.at given t.size) new
cut-copy bytes given page old new t len is count copy whole left =
    let none : given ≡ [] = none-there given (count ∙ is.none) in
    let same : changed bytes t.at given t.size ≡ changed bytes 0 [] t.size = λ i. changed bytes (is.at_is i) (none i) t.size in
    subst (λ (xs : List ℕ). IsCopy xs new) (sym (same ∙ resized_is bytes t.size))
    (left bytes copy
    (subst (λ (xs : List ℕ). IsPageOf xs (min old.position t.size / 4096) page) same
    (subst (λ (n : ℕ). IsPageOf (changed bytes t.at given t.size) (n / 4096) page) is.beside_is whole)))
