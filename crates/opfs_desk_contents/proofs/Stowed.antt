-- What a row's content is, once its pages were put.
use Rattle.std.proofs.Common.{◌≡◌, ℕ, ◌+◌, ◌*◌, ◌^◌, ◌<◌, ◌≤◌, nat_le, ◌&&◌, cond, Bool, true, false, List, [], ◌∷◌, length, unwrap_or, if◌then◌else◌, Option, Some, None, refl, sym, ap, subst, ◌∙◌, arith}
use Rattle.std.specs.List.{AllByRecursion, flat_map, sum_by}
use Rattle.std.specs.Ordering.{is_eq}
use Rattle.std.specs.declared.cmp.Ordering.{Ordering}
use Rattle.std.specs.declared.cmp.Ordering.TheVariants.{Less, Equal, Greater}
use Rattle.std.proofs.lemmas.Bool.{and_parts, leb-true}
use Rattle.opfs_base.specs.Blocks.{blocks}
use Rattle.opfs_base.specs.Places.{Place, place_cmp}
use Rattle.opfs_base.specs.Texts.{Text}
use Rattle.opfs_base.specs.declared.extents.Extent.{Extent}
use Rattle.opfs_books.specs.Stored.Spelled.{bytes_stored, content_spelled, flush_spelled, handle_spelled, spelled_by, stream_spelled, CanHold}
use Rattle.opfs_books.specs.Laws.Books.{Fixed}
use Rattle.opfs_books.specs.Laws.Commits.{StateLaws}
use Rattle.opfs_books.specs.Laws.Laws.{BooksKeepTheState}
use Rattle.opfs_books.specs.Seen.{BytesStand}
use Rattle.opfs_codec.specs.Spelling.{AreExtents, IsExtent}
use Rattle.opfs_codec.specs.declared.change.Change.TheVariants.{Content}
use Rattle.opfs_commit.specs.Making.{new_bytes, told_as}
use Rattle.opfs_data.specs.Places.{bytes_of}
use Rattle.opfs_data.specs.Rows.{page_at}
use Rattle.opfs_pages.specs.HistoryLaws.Open.{open_at, file_in}
use Rattle.opfs_hist.specs.declared.entry.Entry.{Entry}
use Rattle.opfs_hist.specs.declared.op.Op.{Op}
use Rattle.opfs_hist.specs.declared.op.Op.TheVariants as op
use Rattle.opfs_image.specs.Superblock.{is_between, is_in_range}
use Rattle.opfs_image.specs.declared.geometry.Geometry.{Geometry}
use Rattle.opfs_machine.specs.declared.own.HandleOutline.{HandleOutline}
use Rattle.opfs_machine.specs.declared.own.StreamOutline.{StreamOutline}
use Rattle.opfs_machine.specs.declared.own.Own.{Own}
use Rattle.opfs_machine.specs.declared.state.Sizes.{Sizes}
use Rattle.opfs_machine.specs.declared.state.State.{State}
use Rattle.opfs_machine.specs.Agents.{open_handle, open_stream}
use Rattle.opfs_machine.specs.Contents.{in_lengths}
use Rattle.opfs_machine.specs.Effects.{moment_of}
use Rattle.opfs_machine.specs.Histories.{state_after}
use Rattle.opfs_laws.specs.Lengths.Kept.{Kept}
use Rattle.opfs_machine.specs.Sums.{durable_blocks, reserve_of}
use Rattle.opfs_outside.specs.declared.disk.Disk.{Ghosts as DiskWords}
use Rattle.opfs_laws.proofs.Spots.{exact_places}
use Rattle.opfs_records.specs.Replay.Applying.{can_hold}
use Rattle.opfs_records.specs.Replay.Built.{Built, named_beside}
use Rattle.opfs_records.proofs.replay.Holding.{all_more}
use Rattle.opfs_pages.specs.RowCalls.Rows.{ArePlain}
use Rattle.opfs_records.specs.Checkpoint.Written.{IsWritablePlace, IsWritableRow, stored_row, stored_rows}
use Rattle.opfs_space.specs.Room.{Machine}
use Rattle.opfs_space.proofs.Others.{others_fewer}
use Rattle.opfs_tree.specs.Rows.{Rows as Tree, IsInOrder, file_at as file_in_tree, file_of, row_at}
use Rattle.opfs_tree.specs.declared.row.FileRow.{FileRow}
use Rattle.opfs_tree.specs.declared.row.Row.{Row}
use Rattle.opfs_tree.specs.declared.row.Row.TheVariants as row
use Rattle.opfs_desk_steps.specs.Parts.Held.{AreHeldWhole}
use Rattle.opfs_desk_steps.specs.Parts.Seen.{book_in, machine_in, tree_in}
use Rattle.opfs_desk_steps.specs.declared.parts.parts.Ledger.{Ledger}
use Rattle.opfs_desk_steps.specs.declared.parts.parts.OpenPages.{OpenPages}
use Rattle.opfs_desk_steps.proofs.row_laws.Inside.{size-is}
use Rattle.opfs_desk_contents.specs.Putting.{HasContent, KeepsEnough}
use Rattle.opfs_desk_contents.specs.Rows.{IsStreamOf, IsWriterOf, StoresFile}
use Rattle.opfs_desk_contents.specs.Storing.{AreRunsOf}
use Rattle.opfs_desk_contents.specs.Words.{size_stored, stamp_stored}
use Rattle.opfs_desk_contents.proofs.Holds.{apart-once, below-size, can-have}

-- ---- how it is spelled

stream-spelled : (m : Machine) (t : Tree) (k n : ℕ) (z : Sizes) (place : Place) (reserve : ℕ) (file : FileRow) (runs : Option (List Extent)) → IsStreamOf m k n place reserve → file_in_tree place t ≡ Some file
    → stream_spelled t z.size (moment_of m k) runs (open_stream in_lengths m k n) ≡ Some (Content place.0 place.1 (moment_of m k) z.size (unwrap_or runs file.extents))
stream-spelled m t k n z place reserve file runs is there =
    ap (λ (x : Option StreamOutline). stream_spelled t z.size (moment_of m k) runs x) is.there
    ∙ ap (λ (p : Place). content_spelled p z.size (moment_of m k) runs (file_in_tree p t)) is.file
    ∙ ap (λ (x : Option FileRow). content_spelled place z.size (moment_of m k) runs x) there

writer-spelled : (m : Machine) (t : Tree) (k n : ℕ) (place : Place) (reserve : ℕ) (file : FileRow) (runs : Option (List Extent)) → IsWriterOf m k n place reserve → file_in_tree place t ≡ Some file
    → handle_spelled t runs (open_handle in_lengths m k n) ≡ Some (Content place.0 place.1 file.present_stamp file.present (unwrap_or runs file.extents))
writer-spelled m t k n place reserve file runs is there =
    ap (λ (x : Option HandleOutline). handle_spelled t runs x) is.there
    ∙ ap (λ (b : Bool). if b then flush_spelled is.row.file runs (file_in_tree is.row.file t) else None) is.writes
    ∙ ap (λ (p : Place). flush_spelled p runs (file_in_tree p t)) is.file
    ∙ ap (λ (x : Option FileRow). flush_spelled place runs x) there

pub spelled-runs : (m : Machine) (t : Tree) (k : ℕ) (o : Op) (z : Sizes) (place : Place) (reserve : ℕ) (file : FileRow) (runs : Option (List Extent)) → StoresFile m k o place reserve → file_in_tree place t ≡ Some file
    → spelled_by m t k o z runs ≡ Some (Content place.0 place.1 (stamp_stored m k o file) (size_stored z o file) (unwrap_or runs file.extents))
unfolding spelled_by
spelled-runs m t k (op.Close n) z place reserve file runs is there = stream-spelled m t k n z place reserve file runs is there
spelled-runs m t k (op.SyncFlush n) z place reserve file runs is there = writer-spelled m t k n place reserve file runs is there
spelled-runs m t k (op.SyncClose n) z place reserve file runs is there = writer-spelled m t k n place reserve file runs is there
spelled-runs m t k o z place reserve file runs is there = absurd is

-- ---- where it is

place-in : (place : Place) (r : Row) → IsWritableRow place (stored_row r) → IsWritablePlace place
place-in place row.Dir h = h
place-in place (row.File f) h = h.0

equal-of : (o : Ordering) → is_eq o ≡ true → o ≡ Equal
equal-of Less is = cc
equal-of Equal is = refl
equal-of Greater is = cc

none-there : (file : FileRow) → file_of None ≡ Some file → ⊥
none-there file is = cc

pub written-there : (place : Place) (t : Tree) (file : FileRow) → AllByRecursion (λ e. IsWritableRow e.0 e.1) (stored_rows t) → file_in_tree place t ≡ Some file → IsWritablePlace place
written-there place [] file all there = absurd (none-there file there)
written-there place (e ∷ es) file all there =
    elim (is_eq (place_cmp place e.0)) as (λ b. is_eq (place_cmp place e.0) ≡ b → file_of (cond b (Some e.1) (row_at place es)) ≡ Some file → IsWritablePlace place) [
      | true ↦ λ same is. subst IsWritablePlace (sym (exact_places place e.0 (equal-of (place_cmp place e.0) same))) (place-in e.0 e.1 all.0)
      | false ↦ λ apart is. written-there place es file all.1 is
    ] refl there

-- ---- sizes

most-blocks : (g : Geometry) → is_in_range g ≡ true → g.blocks ≤ 65536
most-blocks g is =
    let all = and_parts (is_between 1 4096 g.areas && is_between 1 65536 g.blocks) (is_between 1 65536 g.quota) is in
    let two = and_parts (is_between 1 4096 g.areas) (is_between 1 65536 g.blocks) all.0 in
    leb-true g.blocks 65536 (and_parts (nat_le 1 g.blocks) (nat_le g.blocks 65536) two.1).1

module _ {D : Type 0} (w : DiskWords D) (states : StateLaws) (f : Fixed D) (recorded : Built) (l : Ledger D) (p : OpenPages) (are : AreHeldWhole w f recorded l p) where
  limit-is : (machine_in l).limits.blocks ≡ f.geometry.blocks
  limit-is = sym are.laid.spaced.size ∙ size-is states w f recorded l p are

  pub few-blocks : (machine_in l).limits.blocks ≤ 65536
  few-blocks = let range = most-blocks f.geometry are.tied.range in omega (arith, limit-is, range)

  module _ (agent row : ℕ) (place : Place) (file : file_in (open_at (machine_in l) agent row) ≡ Some place) (order : IsInOrder (tree_in l)) where
    pub small-blocks : (i b : ℕ) → (page_at agent row i p.swap).block ≡ Some b → b + 1 < 2 ^ 32
    small-blocks i b has =
        let below = below-size (machine_in l) recorded.rows (tree_in l) p.swap p.space agent row place are.laid.spaced file order i b has in
        omega (arith, below, few-blocks)

    module _ (pages : ℕ) (runs : List Extent) (runs_are : AreRunsOf p.swap agent row pages runs) (plain : ArePlain p.swap agent row pages) where
      below : AllByRecursion (λ e. e.start + e.count ≤ (machine_in l).limits.blocks) runs
      below = runs_are.below (machine_in l).limits.blocks (λ i b has. below-size (machine_in l) recorded.rows (tree_in l) p.swap p.space agent row place are.laid.spaced file order i b has)

      pub can-be-held : (stamp size : ℕ) → pages ≡ blocks size → CanHold f.geometry.blocks (Content place.0 place.1 stamp size runs) (book_in l).rows
      can-be-held stamp size many =
          subst (λ (n : ℕ). can_hold n (named_beside place (stored_rows (tree_in l))) size runs ≡ true) limit-is
          (can-have (machine_in l) recorded.rows (tree_in l) p.swap p.space agent row place are.laid.spaced file order size pages runs runs_are.of_row
          (runs_are.once (λ i j b here there. apart-once (machine_in l) recorded.rows (tree_in l) p.swap p.space agent row place are.laid.spaced file order i j b here there)) runs_are.some below (runs_are.count plain) many)

      pub runs-extents : pages < 2 ^ 32 → AreExtents runs
      runs-extents few =
          let most = few-blocks in
          let fewer = runs_are.few in (
            omega (arith, few, fewer),
            all_more (λ (e : Extent). e.start + e.count ≤ (machine_in l).limits.blocks) IsExtent (λ e end. (omega (arith, end, most), omega (arith, end, most))) runs below,
          )

      -- The disk has the row's bytes in them.
      pub bytes-stand : (e : Entry) (base : State Text Own) (stamp size : ℕ) (bytes : Text) → HasContent w.tells p.base (w.content l.journal.disk) p.swap agent row pages bytes → size ≡ length bytes → pages ≡ blocks size → bytes_stored base e.agent e.op ≡ bytes
          → BytesStand w f base [] l.journal e (Content place.0 place.1 stamp size runs)
      unfolding new_bytes
      bytes-stand e base stamp size bytes content size_is many stored t =
          let within : (i : ℕ) → 4096 * i < length bytes → i < pages = λ i less. omega (arith, less, many, ap blocks size_is) in
          let is : bytes_of (w.content l.journal.disk) p.base runs (length bytes) ≡ bytes = runs_are.bytes plain (w.content l.journal.disk) p.base bytes (many ∙ ap blocks size_is) (λ i less. content.told t i (within i less)) in
          ap (λ (b : Text). told_as b (Content place.0 place.1 stamp size runs))
          ((λ i. bytes_of (w.content l.journal.disk) (sym are.tied.base i) runs (size_is i)) ∙ is ∙ sym stored)

-- Fewer pages than a list may have runs.
pub few-pages : {D : Type 0} (w : DiskWords D) (states : StateLaws) (keeps : BooksKeepTheState w) (f : Fixed D) (recorded : Built) (l : Ledger D) (p : OpenPages) (are : AreHeldWhole w f recorded l p) (agent row pages : ℕ) → KeepsEnough l agent row pages → pages < 2 ^ 32
few-pages w states keeps f recorded l p are agent row pages enough =
    let m = machine_in l in
    let kept : Kept m = keeps.kept f recorded (state_after f.opening l.books.history) (book_in l) l.journal are.books in
    let mine = others_fewer p.swap m.agents agent row enough.own enough.there in
    let all : sum_by (λ e. durable_blocks in_lengths e.1) m.rows + sum_by reserve_of (flat_map (λ a. a.own) m.agents) ≤ m.limits.blocks = kept.pool in
    omega (arith, mine, all, enough.within, few-blocks w states f recorded l p are)
