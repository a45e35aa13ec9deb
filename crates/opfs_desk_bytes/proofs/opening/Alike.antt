-- What is held over pages is held over pages that are alike.
use Rattle.std.proofs.Common.{ℕ, ◌<◌, is_some, List, [], length, slice_index_or, unwrap_or, Option, refl, sym, ap, ◌∙◌, subst, append-nil, arith}
use Rattle.opfs_base.specs.Texts.{Text}
use Rattle.opfs_books.specs.Laws.Books.{Fixed}
use Rattle.opfs_data.specs.Pages.{RowSeen, page_of, blank}
use Rattle.opfs_data.specs.Rows.{no_row}
use Rattle.opfs_pages.specs.HistoryLaws.Laid.{AreLaid}
use Rattle.opfs_pages.specs.HistoryLaws.Laws.{BlocksGoOn}
use Rattle.opfs_pages.specs.HistoryLaws.Shelves.{HasSameBlocks, KeepsOpen}
use Rattle.opfs_pages.specs.HistoryLaws.Spaced.{AreSpaced}
use Rattle.opfs_hist.specs.declared.entry.Entry.{Entry}
use Rattle.opfs_machine.specs.declared.own.Own.{Own}
use Rattle.opfs_machine.specs.declared.state.State.{State}
use Rattle.opfs_outside.specs.declared.disk.Disk.{Ghosts as DiskWords}
use Rattle.opfs_records.specs.Replay.Built.{Built}
use Rattle.opfs_pages.specs.RowCalls.Plans.{shelf}
use Rattle.opfs_space.specs.Room.{Machine}
use Rattle.opfs_space.specs.Spaces.{SpaceSeen}
use Rattle.opfs_tree.specs.Rows.{Rows as Tree}
use Rattle.opfs_desk_steps.specs.Parts.Held.{AreHeldAt}
use Rattle.opfs_desk_steps.specs.Parts.Seen.{machine_in, tree_in}
use Rattle.opfs_desk_steps.specs.declared.parts.parts.Ledger.{Ledger}
use Rattle.opfs_desk_steps.specs.declared.parts.parts.OpenPages.{OpenPages}
use Rattle.opfs_desk_bytes.specs.Opening.Alike.{AreAlike}
use Rattle.opfs_desk_steps.proofs.book_steps.LaidStays.{LaidBeside}

all-open : (m : Machine) → KeepsOpen m m 0 0
all-open m = record {
  others = λ k n apart. refl;
  here = record { file = refl; reserve = omega arith; stream = refl };
  limits = refl;
}

all-blocks : (t : Tree) → HasSameBlocks t t
all-blocks t = record { named = λ b. refl; has = λ f b. refl }

module _ {D : Type 0} (w : DiskWords D) (beside : LaidBeside w.tells) (blocks : BlocksGoOn) (f : Fixed D) (recorded : Built) (base : State Text Own) (gone : List Text) (l : Ledger D) (p q : OpenPages) (same : AreAlike p q) where
  spaced : AreSpaced (machine_in l) (shelf recorded.rows (tree_in l) p.swap) p.space → AreSpaced (machine_in l) (shelf recorded.rows (tree_in l) q.swap) p.space
  spaced is =
      blocks.stays (machine_in l) (machine_in l) (shelf recorded.rows (tree_in l) p.swap) (shelf recorded.rows (tree_in l) q.swap) p.space 0 0 is (all-open (machine_in l))
      (record { recorded = all-blocks recorded.rows; tree = all-blocks (tree_in l) })
      (λ k n i b has. sym (ap (λ (x : Option RowSeen). (slice_index_or (unwrap_or x no_row).pages i blank).block) (same.rows k n)) ∙ has)

  pub alike-laid : AreLaid w.tells f.opening l.books.history p.base (w.content l.journal.disk) (machine_in l) (shelf recorded.rows (tree_in l) p.swap) p.space
      → AreLaid w.tells f.opening l.books.history q.base (w.content l.journal.disk) (machine_in l) (shelf recorded.rows (tree_in l) q.swap) q.space
  alike-laid laid =
      let c = w.content l.journal.disk in
      subst (λ (b : ℕ). AreLaid w.tells f.opening l.books.history b c (machine_in l) (shelf recorded.rows (tree_in l) q.swap) q.space) (sym same.base)
      (subst (λ (space : SpaceSeen). AreLaid w.tells f.opening l.books.history p.base c (machine_in l) (shelf recorded.rows (tree_in l) q.swap) space) (sym same.space)
      (subst (λ (es : List Entry). AreLaid w.tells f.opening es p.base c (machine_in l) (shelf recorded.rows (tree_in l) q.swap) p.space) (append-nil l.books.history)
      (beside f.opening l.books.history [] p.base c c (machine_in l) (machine_in l) (shelf recorded.rows (tree_in l) p.swap) (shelf recorded.rows (tree_in l) q.swap) p.space p.space
      (record {
        go_on = record { none = λ k n. tt; stay = λ k n i within. subst (λ (x : Option RowSeen). i < length (unwrap_or x no_row).pages) (sym (same.rows k n)) within };
        alike = λ t k n i within. ap (λ (x : Option RowSeen). page_of c p.base (slice_index_or (unwrap_or x no_row).pages i blank)) (same.rows k n);
        swap_rows = λ k n. ap (λ (x : Option RowSeen). is_some x) (same.rows k n);
        open_rows = λ k n. refl;
      })
      (spaced laid.spaced) laid)))

  pub alike-held : AreHeldAt w f recorded base gone l p → AreHeldAt w f recorded base gone l q
  alike-held held = record {
    books = held.books;
    laid = alike-laid held.laid;
    tied = record {
      range = held.tied.range;
      base = same.base ∙ held.tied.base;
      size = held.tied.size;
      freed = held.tied.freed;
      agents = held.tied.agents;
      keys = held.tied.keys;
      quota = held.tied.quota;
      few = λ none. omega (arith, same.kept, held.tied.few none);
    };
    fresh = held.fresh;
  }
