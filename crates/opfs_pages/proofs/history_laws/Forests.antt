-- Which blocks the files of a tree have after its changes.
use Rattle.std.proofs.Common.{◌≡◌, ℕ, cond, Bool, true, false, List, [], ◌∷◌, Option, Some, None, refl, sym, ap, ◌∙◌}
use Rattle.std.specs.FinMap.Entries.{put, find-put}
use Rattle.std.specs.Ordering.{is_eq, eq_by_cmp}
use Rattle.opfs_base.specs.Places.{Place, place_cmp}
use Rattle.opfs_base.specs.declared.extents.Extent.{Extent}
use Rattle.opfs_blocks.specs.Sets.{blocks_of}
use Rattle.opfs_records.specs.Replay.Built.{named, has_block}
use Rattle.opfs_space.specs.Files.{extents_in, file_has}
use Rattle.opfs_laws.proofs.Spots.{same_place}
use Rattle.opfs_space.proofs.FileBlocks.{has_named, named_has}
use Rattle.opfs_tree.proofs.Orders.{place_total}
use Rattle.opfs_tree.specs.Rows.{Rows, row_at, extents_of, change_at, changed_row, IsInOrder}
use Rattle.opfs_tree.specs.declared.row.FileRow.{FileRow}
use Rattle.opfs_tree.specs.declared.row.Row.{Row}
use Rattle.opfs_tree.specs.declared.row.Row.TheVariants as row
use Rattle.opfs_pages.specs.HistoryLaws.Shelves.{HasSameBlocks}

-- Two truths that follow each other are one.
same-truth : (a b : Bool) → (a ≡ true → b ≡ true) → (b ≡ true → a ≡ true) → a ≡ b
same-truth true true f g = refl
same-truth true false f g = sym (f refl)
same-truth false true f g = g refl
same-truth false false f g = refl

-- Trees whose files have the same blocks name the same.
pub same-blocks : (old new : Rows) → IsInOrder old → IsInOrder new → ((f : Option Place) (b : ℕ) → file_has new f b ≡ file_has old f b) → HasSameBlocks old new
same-blocks old new order order_now same = record {
  has = same;
  named = λ b.
      same-truth (has_block (named new) b) (has_block (named old) b)
      (λ is. let found = named_has new b order_now is in has_named old found.0 b (sym (same found.0 b) ∙ found.1))
      (λ is. let found = named_has old b order is in has_named new found.0 b (same found.0 b ∙ found.1));
}

-- A change that leaves the extents of a file.
changed-extents : (change : FileRow → FileRow) (r : Row) → ((f : FileRow) → (change f).extents ≡ f.extents) → extents_of (changed_row change r) ≡ extents_of r
changed-extents change row.Dir same = refl
changed-extents change (row.File f) same = same f

change-extents : (place q : Place) (change : FileRow → FileRow) (rows : Rows) → ((f : FileRow) → (change f).extents ≡ f.extents) → extents_in (row_at q (change_at place change rows)) ≡ extents_in (row_at q rows)
change-extents place q change [] same = refl
change-extents place q change (e ∷ es) same =
    elim (is_eq (place_cmp place e.0)) as (λ t. extents_in (row_at q (elim t as (λ x. Rows) [ true ↦ (e.0, changed_row change e.1) ∷ es | false ↦ e ∷ change_at place change es ])) ≡ extents_in (row_at q (e ∷ es))) [
      | true ↦
          elim (is_eq (place_cmp q e.0)) as (λ u. extents_in (cond u (Some (changed_row change e.1)) (row_at q es)) ≡ extents_in (cond u (Some e.1) (row_at q es))) [
            | true ↦ changed-extents change e.1 same
            | false ↦ refl
          ]
      | false ↦
          elim (is_eq (place_cmp q e.0)) as (λ u. extents_in (cond u (Some e.1) (row_at q (change_at place change es))) ≡ extents_in (cond u (Some e.1) (row_at q es))) [
            | true ↦ refl
            | false ↦ change-extents place q change es same
          ]
    ]

pub change-has : (place : Place) (change : FileRow → FileRow) (rows : Rows) → ((f : FileRow) → (change f).extents ≡ f.extents) → (f : Option Place) (b : ℕ) → file_has (change_at place change rows) f b ≡ file_has rows f b
change-has place change rows same None b = refl
change-has place change rows same (Some q) b = ap (λ (es : List Extent). has_block (blocks_of es) b) (change-extents place q change rows same)

-- A row that comes without bytes.
put-extents : (place q : Place) (r : Row) (rows : Rows) → row_at place rows ≡ None → extents_of r ≡ [] → extents_in (row_at q (put place_cmp place r rows)) ≡ extents_in (row_at q rows)
put-extents place q r rows free none =
    ap extents_in (find-put place_cmp place_total q place r rows)
    ∙ elim (eq_by_cmp place_cmp q place) as (λ t. eq_by_cmp place_cmp q place ≡ t → extents_in (cond t (Some r) (row_at q rows)) ≡ extents_in (row_at q rows)) [
      | true ↦ λ same. none ∙ sym (ap extents_in (ap (λ (p : Place). row_at p rows) (same_place q place same) ∙ free))
      | false ↦ λ apart. refl
    ] refl

pub put-has : (place : Place) (r : Row) (rows : Rows) → row_at place rows ≡ None → extents_of r ≡ [] → (f : Option Place) (b : ℕ) → file_has (put place_cmp place r rows) f b ≡ file_has rows f b
put-has place r rows free none None b = refl
put-has place r rows free none (Some q) b = ap (λ (es : List Extent). has_block (blocks_of es) b) (put-extents place q r rows free none)
