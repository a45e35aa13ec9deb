-- Rows by their agents and numbers.
use Rattle.std.proofs.Common.{◌≡◌, ℕ, ◌<◌, ◌+◌, ◌-◌, ◌^◌, min, [], inl, inr, true, false, List, Option, Some, refl, sym, ap, ◌∙◌, arith, length, unwrap_or, get_or, subst, IsSome, Result, Ok, Err}
use Rattle.std.specs.Ordering.{nat_cmp, is_eq}
use Rattle.std.specs.declared.cmp.Ordering.{Ordering}
use Rattle.std.specs.declared.cmp.Ordering.TheVariants.{Less, Equal, Greater}
use Rattle.std.specs.Result.{OnErr}
use Rattle.std.specs.Map.{lookup}
use Rattle.std.specs.List.{sum_by}
use Rattle.std.specs.BTreeMap.{is_at}
use Rattle.std.proofs.lemmas.Bool.{false_from_ne_true, cases_eq}
use Rattle.std.proofs.lemmas.Map.Lookups.{exact_pairs, exact_unsigned}
use Rattle.opfs_data.specs.declared.page.Page.{Page}
use Rattle.opfs_data.specs.Pages.{RowSeen, blank, page_of, IsApart}
use Rattle.opfs_data.specs.Writes.{PageWrite}
use Rattle.opfs_data.specs.Rows.{Rows, AreFree, row_cmp, row_of, row_at, pages_at, page_at, no_row, kept_in, IsOther, OthersStay}

equal : (o : Ordering) → is_eq o ≡ true → o ≡ Equal
equal Less h = absurd (cc)
equal Equal h = refl
equal Greater h = absurd (cc)

-- the key of another row is another one
other_key : (agent row a r : ℕ) → IsOther agent row a r → is_at (row_cmp (agent, row)) (a, r) ≡ false
other_key agent row a r other = false_from_ne_true (is_at (row_cmp (agent, row)) (a, r)) (λ h.
    let same : (agent, row) ≡ (a, r) = exact_pairs nat_cmp nat_cmp exact_unsigned exact_unsigned (agent, row) (a, r) (equal (row_cmp (agent, row) (a, r)) h) in
    other (ap (λ (p : ℕ × ℕ). p.0) (sym same), ap (λ (p : ℕ × ℕ). p.1) (sym same)))

-- a change at one key leaves the other rows
pub others_stay : (agent row : ℕ) (old new : Rows) → ((q : ℕ × ℕ) → is_at (row_cmp (agent, row)) q ≡ false → lookup (is_at (row_cmp q)) new ≡ lookup (is_at (row_cmp q)) old) → OthersStay agent row old new
others_stay agent row old new same a r other = same (a, r) (other_key agent row a r other)

-- a row that was found is the row there
pub row_there : (agent row : ℕ) (inner rows : Rows) (found : RowSeen) → Some found ≡ row_of agent row inner → inner ≡ rows → row_at agent row rows ≡ found
row_there agent row inner rows found is view = ap (λ (o : Option RowSeen). unwrap_or o no_row) (ap (λ (es : Rows). row_of agent row es) (sym view) ∙ sym is)

-- what is written through a row that was found leaves the other rows
pub others_written : (agent row : ℕ) (inner rows new : Rows) (found : RowSeen) → Some found ≡ row_of agent row inner → inner ≡ rows
    → (IsSome (row_of agent row inner) → (q : ℕ × ℕ) → is_at (row_cmp (agent, row)) q ≡ false → lookup (is_at (row_cmp q)) new ≡ lookup (is_at (row_cmp q)) inner)
    → OthersStay agent row rows new
others_written agent row inner rows new found is view same =
    let before = same (subst IsSome is refl) in
    others_stay agent row rows new (λ q apart. before q apart ∙ ap (λ (es : Rows). lookup (is_at (row_cmp q)) es) view)

-- the row after what was written through it
pub row_written : (agent row : ℕ) (inner new : Rows) (found written : RowSeen) → Some found ≡ row_of agent row inner → (IsSome (row_of agent row inner) → row_of agent row new ≡ Some written) → row_at agent row new ≡ written
row_written agent row inner new found written is same = ap (λ (o : Option RowSeen). unwrap_or o no_row) (same (subst IsSome is refl))

-- the pages of the other rows read as before
pub others_read : (agent row base : ℕ) (c c' : List ℕ) (old new : Rows) (ws : List PageWrite) → OthersStay agent row old new → AreFree agent row old ws
    → ((page : Page) → IsApart page ws → page_of c' base page ≡ page_of c base page)
    → (a r : ℕ) → IsOther agent row a r → (j : ℕ) → j < length (pages_at a r old) → page_of c' base (page_at a r j new) ≡ page_of c base (page_at a r j old)
others_read agent row base c c' old new ws stay free apart a r other j lt =
    ap (λ (o : Option RowSeen). page_of c' base (get_or (unwrap_or o no_row).pages j blank)) (stay a r other)
    ∙ apart (page_at a r j old) (λ k d within kept block. free a r other k j d within lt block)

-- what holds of a row and of all others holds of all
pub every_row : (agent row : ℕ) (P : ℕ → ℕ → Type 0) → P agent row → ((a r : ℕ) → IsOther agent row a r → P a r) → (a r : ℕ) → P a r
every_row agent row P own others a r = elim (cases_eq a agent) [
  | inl e ↦ elim (cases_eq r row) [ inl f ↦ subst (λ (x : ℕ). P x r) (sym e) (subst (λ (y : ℕ). P agent y) (sym f) own) | inr g ↦ others a r (λ both. g both.1) ]
  | inr e ↦ others a r (λ both. e both.0)
]

-- the pages of a row read as those of one before
abbrev ReadsAs : ℕ → List ℕ → List ℕ → RowSeen → RowSeen → Type 0
ReadsAs base c c' old new = (j : ℕ) → j < length old.pages → page_of c' base (get_or new.pages j blank) ≡ page_of c base (get_or old.pages j blank)

-- after a write that failed each page of each row reads as before
pub all_read : (agent row base : ℕ) (c c' : List ℕ) (old new : Rows) (ws : List PageWrite) (found written : RowSeen) → row_at agent row old ≡ found → row_at agent row new ≡ written
    → ((j : ℕ) → j < length found.pages → page_of c' base (get_or written.pages j blank) ≡ page_of c base (get_or found.pages j blank))
    → OthersStay agent row old new → AreFree agent row old ws → ((page : Page) → IsApart page ws → page_of c' base page ≡ page_of c base page)
    → (a r j : ℕ) → j < length (pages_at a r old) → page_of c' base (page_at a r j new) ≡ page_of c base (page_at a r j old)
all_read agent row base c c' old new ws found written there after own stay free apart =
    let first : ReadsAs base c c' (row_at agent row old) written = subst (λ (r : RowSeen). ReadsAs base c c' r written) (sym there) own in
    let here : ReadsAs base c c' (row_at agent row old) (row_at agent row new) = subst (λ (r : RowSeen). ReadsAs base c c' (row_at agent row old) r) (sym after) first in
    every_row agent row (λ (a r : ℕ). ReadsAs base c c' (row_at a r old) (row_at a r new)) here (others_read agent row base c c' old new ws stay free apart)

pub on_err : {X E : Type 0} (result : Result X E) (P : Type 0) → P → OnErr result P
on_err (Ok x) P h = tt
on_err (Err e) P h = h

-- a count that stops at all ones, at its end
pub counted_all : (count total : ℕ) (rest : List RowSeen) → count < 2 ^ 64 → rest ≡ [] → min (count + sum_by kept_in rest) (2 ^ 64 - 1) ≡ min total (2 ^ 64 - 1) → count ≡ min total (2 ^ 64 - 1)
counted_all count total rest small ended so_far = omega (arith, small, ap (λ (l : List RowSeen). sum_by kept_in l) ended, so_far)
