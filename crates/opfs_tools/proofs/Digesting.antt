-- How far a check has come.
use Rattle.std.proofs.Common.{◌≡◌, ℕ, ◌+◌, ◌-◌, ◌<◌, ◌≤◌, List, [], ◌∷◌, ◌++◌, Option, Some, None, length, min, refl, sym, ap, subst, ◌∙◌, inl, inr, append_assoc, arith}
use Rattle.std.specs.Prelude.{Result, Ok, Err, IsErrOf, IfSome, IsSome, IsSomeAnd}
use Rattle.std.specs.Result.{IsErrAnd}
use Rattle.opfs_data.specs.declared.refusal.DataRefusal.{DataRefusal}
use Rattle.std.proofs.lemmas.List.{append-nil}
use Rattle.sha2.specs.declared.Sha256.{Sha256}
use Rattle.sha2.specs.Hashers.{Holds256}
use Rattle.opfs_base.specs.Texts.{Text}
use Rattle.opfs_base.specs.Places.{Place}
use Rattle.opfs_base.specs.declared.extents.Extent.{Extent}
use Rattle.opfs_outside.specs.Bytes.{window}
use Rattle.opfs_outside.specs.Windows.{window-append}
use Rattle.opfs_outside.specs.Faults.{Rose}
use Rattle.opfs_data.specs.Places.{run_place, run_room, bytes_of}
use Rattle.opfs_data.proofs.RunLemmas.{next_bytes}
use Rattle.opfs_image.specs.Filling.{filled_row}
use Rattle.opfs_tree.specs.Rows.{Rows, rows_above}
use Rattle.opfs_tree.specs.declared.row.Row.{Row}
use Rattle.opfs_tools.specs.Checking.{stored_line}
use Rattle.opfs_tools.specs.Reading.{Lies, RowsLie, stored_lines}

pub rose_since : (a b c : ℕ) → a ≤ b → Rose b c → Rose a c
rose_since a b c le rose = elim rose [ inl less ↦ inl (omega arith) | inr end ↦ inr end ]

-- an error that was handed on
pub same_error : {A : Type 0} (r : Result A DataRefusal) (e x : DataRefusal) → IsErrAnd r (λ y. y ≡ e) → IsErrOf r x → IsErrOf {T = Unit {0}} (Err e) x
same_error (Ok a) e x is failed = absurd is
same_error (Err y) e x is failed = ap Err (sym is ∙ (let same : y ≡ x = cc in same))

-- a piece more of a message
pub piece_more : (hasher : Sha256) (c c' m : List ℕ) (at from n k : ℕ) → c' ≡ c → k ≡ n → Holds256 hasher ((m ++ window c at from) ++ window c' (at + from) k) → Holds256 hasher (m ++ window c at (from + n))
piece_more hasher c c' m at from n k same size held =
    subst (λ (x : List ℕ). Holds256 hasher x)
    (append_assoc m (window c at from) (window c' (at + from) k)
    ∙ (ap (λ (x : List ℕ). m ++ (window c at from ++ window x (at + from) k)) same
    ∙ (ap (λ (x : ℕ). m ++ (window c at from ++ window c (at + from) x)) size
    ∙ ap (λ (x : List ℕ). m ++ x) (sym (window-append c at from n)))))
    held

-- a run more of a file
pub run_more : (c done : List ℕ) (base : ℕ) (e : Extent) (rest left_over whole : List Extent) (n left len : ℕ) → left_over ≡ e ∷ rest → n ≡ min (run_room e) left
    → done ++ bytes_of c base left_over left ≡ bytes_of c base whole len
    → (done ++ window c (run_place base e) n) ++ bytes_of c base rest (left - n) ≡ bytes_of c base whole len
run_more c done base e rest left_over whole n left len next is so_far =
    append_assoc done (window c (run_place base e) n) (bytes_of c base rest (left - n))
    ∙ (ap (λ (x : List ℕ). done ++ x) (sym (next_bytes c base e rest n left is)) ∙ (ap (λ (es : List Extent). done ++ bytes_of c base es left) (sym next) ∙ so_far))

-- one row more of a walk
pub stands : (new : Option Place) (above rows : Rows) (r : Row) → IsSomeAnd new (λ place. above ≡ (place, r) ∷ rows_above (Some place) rows) → IsSome new
stands None above rows r next = absurd next
stands (Some p) above rows r next = refl

pub fewer : (new : Option Place) (above rows : Rows) (r : Row) → IsSomeAnd new (λ place. above ≡ (place, r) ∷ rows_above (Some place) rows) → length (rows_above new rows) < length above
fewer None above rows r next = absurd next
fewer (Some p) above rows r next = omega (arith, ap (length {A = Place × Row}) next)

pub lies_next : (base end : ℕ) (new : Option Place) (above rows : Rows) (r : Row) → IsSomeAnd new (λ place. above ≡ (place, r) ∷ rows_above (Some place) rows) → RowsLie base end above
    → Lies base end r × RowsLie base end (rows_above new rows)
lies_next base end None above rows r next lies = absurd next
lies_next base end (Some p) above rows r next lies = subst (λ (x : Rows). RowsLie base end x) next lies

pub lines_more : (base : ℕ) (c : List ℕ) (new : Option Place) (above rows : Rows) (r : Row) (text text' whole : Text)
    → IsSomeAnd new (λ place. above ≡ (place, r) ∷ rows_above (Some place) rows) → IfSome new (λ place. text' ≡ text ++ stored_line (place, filled_row base c r))
    → text ++ stored_lines base c above ≡ whole → text' ++ stored_lines base c (rows_above new rows) ≡ whole
unfolding stored_lines
lines_more base c None above rows r text text' whole next added so_far = absurd next
lines_more base c (Some p) above rows r text text' whole next added so_far =
    ap (λ (x : Text). x ++ stored_lines base c (rows_above (Some p) rows)) added
    ∙ (append_assoc text (stored_line (p, filled_row base c r)) (stored_lines base c (rows_above (Some p) rows))
    ∙ (ap (λ (x : Rows). text ++ stored_lines base c x) (sym next) ∙ so_far))

pub lines_done : (base : ℕ) (c : List ℕ) (above : Rows) (text whole : Text) → above ≡ [] → text ++ stored_lines base c above ≡ whole → text ≡ whole
unfolding stored_lines
lines_done base c above text whole none so_far = sym (append-nil text) ∙ (ap (λ (x : Rows). text ++ stored_lines base c x) (sym none) ∙ so_far)
