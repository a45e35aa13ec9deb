-- A row that is opened with the blocks of its file.
use Rattle.std.proofs.Common.{◌≡◌, ℕ, ◌*◌, List, fold, length, Option, sym, ap, ◌∙◌, subst, arith}
use Rattle.std.specs.Prelude.{slice_index_or, unwrap_or}
use Rattle.opfs_base.specs.Texts.{Text}
use Rattle.opfs_data.specs.declared.page.Page.{Page}
use Rattle.opfs_data.specs.Pages.{RowSeen, page_of, blank}
use Rattle.opfs_data.specs.Places.{bytes_of, room_of}
use Rattle.opfs_data.specs.Rows.{Rows, row_of, pages_at, page_at, no_row}
use Rattle.opfs_pages.specs.HistoryLaws.Laws.{BlocksTellAFile, BlocksGoOn, CallsLeaveOtherRows}
use Rattle.opfs_pages.specs.HistoryLaws.Open.{OthersStayOpen}
use Rattle.opfs_laws.specs.Lengths.Outlines.{in_lengths_of}
use Rattle.opfs_machine.specs.Steps.{evicted, after_reply}
use Rattle.opfs_outside.specs.declared.disk.Disk.{Ghosts as DiskWords}
use Rattle.opfs_pages.specs.Copies.{IsBegun}
use Rattle.opfs_pages.specs.RowCalls.Plans.{shelf}
use Rattle.opfs_space.specs.Room.{Machine}
use Rattle.opfs_desk_steps.specs.Parts.Seen.{machine_in, shelf_in}
use Rattle.opfs_desk_steps.specs.RowLaws.Opening.{OpenedRowsAreLaid}
use Rattle.opfs_desk_steps.specs.RowLaws.InHand.{HasPages, RowsInHandAreLaid}

-- The pages of a row that is the same.
same-pages : (k n : ℕ) (old new : Rows) → row_of k n new ≡ row_of k n old → pages_at k n new ≡ pages_at k n old
same-pages k n old new same = ap (λ (r : Option RowSeen). (unwrap_or r no_row).pages) same

module _ (blocks : BlocksGoOn) (file : BlocksTellAFile) (calls : CallsLeaveOtherRows) {D : Type 0} (w : DiskWords D) (laid : RowsInHandAreLaid w) where
  pub opened-laid : OpenedRowsAreLaid w
  opened-laid f recorded base gone l p new e row extents bytes tree held opens is =
      let s = fold evicted base gone in
      let t = in_lengths_of (after_reply s e.agent e.op e.reply) in
      let c = w.content l.journal.disk in
      let others_open : OthersStayOpen (machine_in l) t e.agent row =
      subst (λ (m : Machine). OthersStayOpen m t e.agent row) (sym held.books.machine) (subst (λ (n : ℕ). OthersStayOpen (in_lengths_of s) t e.agent n) opens.in_hand (calls.called s e.agent e.op e.reply opens.live)) in
      let count : 4096 * length (pages_at e.agent row new.swap) ≡ room_of extents = ap (λ (ps : List Page). 4096 * length ps) is.pages ∙ file.count extents in
      let pages : HasPages w.tells p.base c c p.swap new.swap e.agent row bytes = record {
        others = is.others;
        read = λ tells k n j other below. ap (λ (ps : List Page). page_of c p.base (slice_index_or ps j blank)) (same-pages k n p.swap new.swap (is.others k n other));
        here = is.here;
        there = λ i below. omega (arith, below, is.room, count);
        told = λ tells i below. subst (λ (y : Text). IsBegun y i (page_of c p.base (page_at e.agent row i new.swap))) (is.told tells)
            (subst (λ (ps : List Page). IsBegun (bytes_of c p.base extents (length bytes)) i (page_of c p.base (slice_index_or ps i blank))) (sym is.pages) (file.begun c p.base extents (length bytes) i is.room below));
      } in
      let limits : t.limits ≡ (machine_in l).limits = opens.limits ∙ sym (ap (λ (m : Machine). m.limits) held.books.machine) in
      laid.open_row f recorded base gone l p c e row bytes (shelf recorded.rows tree new.swap) p.space held (record { plain = opens.plain; live = opens.live; in_hand = opens.in_hand }) opens.opened pages
      (blocks.opened (machine_in l) t (shelf_in recorded.rows l p) (shelf recorded.rows tree new.swap) p.space e.agent row extents held.laid.spaced others_open limits opens.files is.others is.pages opens.once opens.of_file opens.kept)
