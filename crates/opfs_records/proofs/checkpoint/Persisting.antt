-- What the bytes of persistent units build.
use Rattle.std.proofs.Common.{◌≡◌, ◌++◌, ℕ, List, [], ◌∷◌, Some, refl, sym, ap, subst, ◌∙◌, append_assoc}
use Rattle.std.proofs.lemmas.List.{append-nil}
use Rattle.std.specs.List.{AllByRecursion}
use Rattle.std.specs.List.Sorted.{IsStrictlySortedBy}
use Rattle.std.specs.FinMap.Entries.{by_order}
use Rattle.std.specs.Ordering.{ordering_reverse}
use Rattle.std.specs.declared.cmp.Ordering.TheVariants.{Less, Greater}
use Rattle.std.specs.Cmp.{IsTotalOrder}
use Rattle.std.specs.Cmp.Lexicographic.{nat_list_cmp_total}
use Rattle.opfs_base.specs.Texts.{Text}
use Rattle.opfs_shed.specs.Buckets.{text_cmp}
use Rattle.opfs_machine.specs.Ordered.{insert_by}
use Rattle.opfs_codec.specs.Spelling.{spelling, IsKey, IsChange}
use Rattle.opfs_codec.specs.declared.change.Format.TheVariants.{New}
use Rattle.opfs_codec.specs.declared.change.Change.TheVariants.{Persist}
use Rattle.opfs_tree.specs.Rows.{Rows}
use Rattle.opfs_records.specs.Replay.Built.{Built}
use Rattle.opfs_records.specs.Replay.Applying.{can_apply, applied, tried}
use Rattle.opfs_records.specs.Checkpoint.Written.{units_bytes}
use Rattle.opfs_records.proofs.checkpoint.Building.{Builds, builds_nothing, builds_one, builds_both, builds_same}

text_total : IsTotalOrder text_cmp
text_total = nat_list_cmp_total

all_at : (P : Text → Type 0) (done : List Text) (u : Text) (us : List Text) → AllByRecursion P (done ++ u ∷ us) → P u
all_at P [] u us all = all.0
all_at P (d ∷ ds) u us all = all_at P ds u us all.1

insert_last : (done : List Text) (u : Text) (us : List Text) → IsStrictlySortedBy text_cmp (done ++ u ∷ us) → insert_by text_cmp u done ≡ done ++ u ∷ []
unfolding IsStrictlySortedBy
insert_last [] u us sorted = refl
insert_last (d ∷ ds) u us sorted =
    let less = all_at (λ y. text_cmp d y ≡ Less) ds u us sorted.0 in
    let greater : text_cmp u d ≡ Greater = text_total.antisymm u d ∙ ap ordering_reverse less in
    ap (λ o. by_order o (u ∷ d ∷ ds) (d ∷ ds) (d ∷ insert_by text_cmp u ds)) greater ∙ ap (λ xs. d ∷ xs) (insert_last ds u us sorted.1)

abbrev built : Rows → List Text → Built
built rows units = record { rows = rows; persistent = units }

persists : (size : ℕ) (rows : Rows) (done : List Text) (u : Text) (us : List Text) → IsStrictlySortedBy text_cmp (done ++ u ∷ us) → tried New size (built rows done) (Persist u) ≡ Some (built rows (done ++ u ∷ []))
unfolding can_apply applied
persists size rows done u us sorted = ap (λ xs. Some (built rows xs)) (insert_last done u us sorted)

persist_again : (u : Text) → IsKey New u → IsChange New (Persist u)
unfolding IsChange
persist_again u good = good

-- Persistent units in order are built one after another.
pub builds_units : (size : ℕ) (rows : Rows) (done rest : List Text) → IsStrictlySortedBy text_cmp (done ++ rest) → AllByRecursion (IsKey New) rest → Builds size (units_bytes rest) (built rows done) (built rows (done ++ rest))
builds_units size rows done [] sorted good = builds_same size [] [] (built rows done) _ _ refl (ap (built rows) (sym (append-nil done))) (builds_nothing size (built rows done))
builds_units size rows done (u ∷ us) sorted good =
    let regroup = append_assoc done (u ∷ []) us in
    let first = builds_one size (Persist u) (built rows done) (built rows (done ++ u ∷ [])) (persist_again u good.0) (persists size rows done u us sorted) in
    let later = builds_units size rows (done ++ u ∷ []) us (subst (IsStrictlySortedBy text_cmp) (sym regroup) sorted) good.1 in
    builds_same size _ _ (built rows done) _ _ refl (ap (built rows) regroup) (builds_both size (spelling New (Persist u)) (units_bytes us) _ _ _ first later)
