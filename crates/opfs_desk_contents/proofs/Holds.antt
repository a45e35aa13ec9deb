-- The blocks of a row's pages are those of no other file, so its file can have them.
use Rattle.std.proofs.Common.{◌≡◌, ℕ, ◌+◌, ◌<◌, ◌≤◌, nat_eq, nat_lt, nat_le, not, cond, ◌||◌, Bool, true, false, List, [], ◌∷◌, ◌++◌, T, Option, Some, None, filter, refl, sym, ap, subst, ◌∙◌, arith}
use Rattle.std.specs.FinMap.Entries.{find-where_key, is_sorted-where_key}
use Rattle.std.specs.List.{AllByRecursion}
use Rattle.std.specs.Cmp.{tied_itself}
use Rattle.std.specs.Ordering.{is_eq}
use Rattle.std.specs.Prelude.{IsTrue}
use Rattle.std.proofs.lemmas.Bool.{and_from, eq-eqb, false≢true, le-leb, lt-ltb}
use Rattle.opfs_base.specs.Blocks.{blocks}
use Rattle.opfs_base.specs.Places.{Place, place_cmp}
use Rattle.opfs_base.specs.declared.extents.Extent.{Extent}
use Rattle.opfs_blocks.specs.Sets.{blocks_of}
use Rattle.opfs_blocks.proofs.SetLemmas.{blocks_of-append}
use Rattle.opfs_data.specs.Rows.{Rows}
use Rattle.opfs_pages.specs.HistoryLaws.Open.{open_at, file_in}
use Rattle.opfs_pages.specs.HistoryLaws.Spaced.{AreSpaced}
use Rattle.opfs_pages.proofs.history_laws.Holding.{spaced-blocks}
use Rattle.opfs_records.specs.Replay.Applying.{can_hold}
use Rattle.opfs_records.specs.Replay.Built.{all_extents, block_count, has_block, is_once, named, named_beside}
use Rattle.opfs_records.proofs.replay.Holding.{all_both, is_within_size, of_all}
use Rattle.opfs_pages.specs.RowCalls.Plans.{shelf}
use Rattle.opfs_records.specs.Checkpoint.Written.{stored_row, stored_rows}
use Rattle.opfs_space.specs.Files.{extents_in, file_has}
use Rattle.opfs_space.specs.Holders.{HasPage}
use Rattle.opfs_space.specs.Room.{Machine}
use Rattle.opfs_space.specs.Spaces.{SpaceSeen}
use Rattle.opfs_space.proofs.FileBlocks.{has_named, named_has}
use Rattle.opfs_laws.proofs.Spots.{exact_places}
use Rattle.opfs_tree.proofs.Orders.{place_total}
use Rattle.opfs_tree.specs.Rows.{Rows as Tree, IsInOrder, extents_of, row_at}
use Rattle.opfs_tree.specs.declared.row.Row.{Row}
use Rattle.opfs_tree.specs.declared.row.Row.TheVariants as row

abbrev test : Place → Place → Bool
test place x = not (is_eq (place_cmp place x))

stored-extents : (r : Row) → extents_of (stored_row r) ≡ extents_of r
stored-extents row.Dir = refl
stored-extents (row.File f) = refl

beside-stored : (place : Place) (t : Tree) → named_beside place (stored_rows t) ≡ named_beside place t
beside-stored place [] = refl
beside-stored place (e ∷ es) =
    let more = filter (λ (x : Place × Row). test place x.0) (stored_rows es) in
    let rest = filter (λ (x : Place × Row). test place x.0) es in
    elim (test place e.0) as (λ b. named (cond b ((e.0, stored_row e.1) ∷ more) more) ≡ named (cond b (e ∷ rest) rest)) [
      | true ↦
          blocks_of-append (extents_of (stored_row e.1)) (all_extents more)
          ∙ (λ i. blocks_of (stored-extents e.1 i) ++ beside-stored place es i)
          ∙ sym (blocks_of-append (extents_of e.1) (all_extents rest))
      | false ↦ beside-stored place es
    ]

tell : (b : Bool) → T b → b ≡ true
tell true h = refl
tell false h = absurd h

told : (b : Bool) → b ≡ true → T b
told true h = tt
told false h = absurd (false≢true h)

-- Another file has it.
record HasOther (place : Place) (t : Tree) (b : ℕ) : Type 0 where
  pub other : Place
  pub apart : test place other ≡ true
  pub has : file_has t (Some other) b ≡ true

row-kept : (place q : Place) (b : ℕ) (test_is : Bool) (o : Option Row) → has_block (blocks_of (extents_in (cond test_is o None))) b ≡ true → (test_is ≡ true) × (has_block (blocks_of (extents_in o)) b ≡ true)
row-kept place q b true o is = (refl, is)
row-kept place q b false o is = absurd (false≢true is)

other-in : (place : Place) (t : Tree) (b : ℕ) (f : Option Place) → file_has (filter (λ (x : Place × Row). test place x.0) t) f b ≡ true → HasOther place t b
other-in place t b None is = absurd (false≢true is)
other-in place t b (Some q) is =
    let found = find-where_key place_cmp (λ x. test place x) q (λ x same. ap (λ y. test place y) (sym (exact_places q x same))) t in
    let kept = row-kept place q b (test place q) (row_at q t) (ap (λ (o : Option Row). has_block (blocks_of (extents_in o)) b) (sym found) ∙ is) in
    record { other = q; apart = kept.0; has = kept.1 }

beside-other : (place : Place) (t : Tree) (b : ℕ) → IsInOrder t → has_block (named_beside place (stored_rows t)) b ≡ true → HasOther place t b
beside-other place t b order has =
    let rest = filter (λ (x : Place × Row). test place x.0) t in
    let found = named_has rest b (tell _ (is_sorted-where_key place_cmp (λ x. test place x) t (told _ order))) (ap (λ (xs : List ℕ). has_block xs b) (sym (beside-stored place t)) ∙ has) in
    other-in place t b found.0 found.1

not-true : (t : Bool) → (t ≡ true → ⊥) → not t ≡ true
not-true true never = absurd (never refl)
not-true false never = refl

module _ (m : Machine) (recorded t : Tree) (swap : Rows) (space : SpaceSeen) (agent row : ℕ) (place : Place) (spaced : AreSpaced m (shelf recorded t swap) space) (file : file_in (open_at m agent row) ≡ Some place) (order : IsInOrder t) where
  one : (a c : Place) → ◌≡◌ {A = Option Place} (Some a) (Some c) → a ≡ c
  one a c e = cc

  itself : (x : Place) → test x x ≡ true → ⊥
  itself x is = false≢true (sym (ap (λ o. not (is_eq o)) (tied_itself place_total x)) ∙ is)

  never-other : (i b : ℕ) → HasPage swap agent row i b → has_block (named_beside place (stored_rows t)) b ≡ true → ⊥
  never-other i b has named_there =
      let other = beside-other place t b order named_there in
      let are = spaced-blocks m (shelf recorded t swap) space spaced in
      let ground = are.inside b (has_named t (Some other.other) b other.has) in
      let mine : file_has t (Some place) b ≡ true = ap (λ (f : Option Place). file_has t f b) (sym file) ∙ are.of_file agent row i b has ground in
      let same = one other.other place (are.once (Some other.other) (Some place) b other.has mine) in
      itself place (subst (λ (x : Place). test place x ≡ true) same other.apart)

  no-other : (i b : ℕ) → HasPage swap agent row i b → not (has_block (named_beside place (stored_rows t)) b) ≡ true
  no-other i b has = not-true (has_block (named_beside place (stored_rows t)) b) (never-other i b has)

  pub apart-once : (i j b : ℕ) → HasPage swap agent row i b → HasPage swap agent row j b → i ≡ j
  apart-once i j b here there = (spaced-blocks m (shelf recorded t swap) space spaced).apart agent row i j b here there

  pub below-size : (i b : ℕ) → HasPage swap agent row i b → b < m.limits.blocks
  below-size i b has = let is = (spaced-blocks m (shelf recorded t swap) space spaced).pages agent row i b has in let size = spaced.size in omega (arith, is.0, size)

  or-right : (s u : Bool) → u ≡ true → (s || u) ≡ true
  or-right true u is = refl
  or-right false u is = is

  each : (bs : List ℕ) → ((b : ℕ) → has_block bs b ≡ true → not (has_block (named_beside place (stored_rows t)) b) ≡ true) → AllByRecursion (λ b. not (has_block (named_beside place (stored_rows t)) b) ≡ true) bs
  each [] all = tt
  each (b ∷ bs) all = (all b (ap (λ (x : Bool). x || has_block bs b) (eq-eqb b b refl)), each bs (λ x has. all x (or-right (nat_eq x b) (has_block bs x) has)))

  pub can-have : (size pages : ℕ) (runs : List Extent) → ((b : ℕ) → has_block (blocks_of runs) b ≡ true → (i : ℕ) × HasPage swap agent row i b) → IsTrue (is_once (blocks_of runs))
      → AllByRecursion (λ e. 0 < e.count) runs → AllByRecursion (λ e. e.start + e.count ≤ m.limits.blocks) runs → block_count runs ≡ pages → pages ≡ blocks size
      → can_hold m.limits.blocks (named_beside place (stored_rows t)) size runs ≡ true
  can-have size pages runs of_row once some below count many =
      and_from _ _
      (and_from _ _
      (and_from _ _
      (of_all (is_within_size m.limits.blocks) runs
      (all_both (λ (e : Extent). 0 < e.count) (λ (e : Extent). e.start + e.count ≤ m.limits.blocks) (λ (e : Extent). is_within_size m.limits.blocks e ≡ true)
      (λ e here end. and_from (nat_lt 0 e.count) (nat_le (e.start + e.count) m.limits.blocks) (lt-ltb 0 e.count here) (le-leb (e.start + e.count) m.limits.blocks end)) runs some below))
      (eq-eqb (block_count runs) (blocks size) (count ∙ many)))
      once)
      (of_all (λ b. not (has_block (named_beside place (stored_rows t)) b)) (blocks_of runs) (each (blocks_of runs) (λ b has. let page = of_row b has in no-other page.0 b page.1)))
