-- What is held is held where only what stands ready is another.
use Rattle.std.proofs.Common.{◌≡◌, [], sym, subst, ◌∙◌}
use Rattle.opfs_books.specs.Stored.Spelled.{stored_built}
use Rattle.opfs_books.specs.Laws.Books.{Fixed, AreBooksAt}
use Rattle.opfs_books.specs.Seen.{book}
use Rattle.opfs_pages.specs.HistoryLaws.Laid.{AreLaid}
use Rattle.opfs_machine.specs.Histories.{state_after}
use Rattle.opfs_outside.specs.declared.disk.Disk.{Ghosts as DiskWords}
use Rattle.opfs_records.specs.Replay.Built.{Built}
use Rattle.opfs_pages.specs.RowCalls.Plans.{shelf}
use Rattle.opfs_space.specs.Room.{Machine}
use Rattle.opfs_state.specs.Applied.{StateSeen}
use Rattle.opfs_tree.specs.Rows.{Rows as Tree}
use Rattle.opfs_desk_steps.specs.Parts.Held.{AreHeldWhole}
use Rattle.opfs_desk_steps.specs.Parts.Seen.{machine_in, tree_in}
use Rattle.opfs_desk_steps.specs.declared.parts.parts.Ledger.{Ledger}
use Rattle.opfs_desk_steps.specs.declared.parts.parts.OpenPages.{OpenPages}

abbrev pub with_state : {D : Type 0} → Ledger D → StateSeen → Ledger D
with_state l s = record l { books = record l.books { state = s } }

pub same-held : {D : Type 0} (w : DiskWords D) (f : Fixed D) (recorded : Built) (l : Ledger D) (p : OpenPages) (s : StateSeen) → s.store.machine ≡ machine_in l → s.store.tree ≡ tree_in l
    → AreHeldWhole w f recorded l p → AreHeldWhole w f recorded (with_state l s) p
same-held w f recorded l p s machine tree h = record {
  books =
      subst (λ (m : Machine). AreBooksAt w f recorded (state_after f.opening l.books.history) [] (book l.books.history m s.store.tree l.books.commits l.books.place) l.journal) (sym machine)
      (subst (λ (t : Tree). AreBooksAt w f recorded (state_after f.opening l.books.history) [] (book l.books.history (machine_in l) t l.books.commits l.books.place) l.journal) (sym tree) h.books);
  laid =
      subst (λ (m : Machine). AreLaid w.tells f.opening l.books.history p.base (w.content l.journal.disk) m (shelf recorded.rows s.store.tree p.swap) p.space) (sym machine)
      (subst (λ (t : Tree). AreLaid w.tells f.opening l.books.history p.base (w.content l.journal.disk) (machine_in l) (shelf recorded.rows t p.swap) p.space) (sym tree) h.laid);
  tied = record { range = h.tied.range; base = h.tied.base; size = h.tied.size; freed = h.tied.freed; agents = h.tied.agents; keys = h.tied.keys; quota = h.tied.quota; few = h.tied.few };
  fresh = λ none. h.fresh none ∙ (λ i. stored_built (sym tree i) (sym machine i).persistent);
}
