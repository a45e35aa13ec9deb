-- A call without units: nothing is to be cleared.
use Rattle.std.proofs.Common.{◌≡◌, List, [], ◌∷◌, ◌++◌, map, length, refl, sym, append-nil, arith}
use Rattle.opfs_books.specs.Laws.Books.{Fixed}
use Rattle.opfs_books.specs.Laws.Laws.{BooksShowTheirImages}
use Rattle.opfs_hist.specs.declared.entry.Entry.{Entry}
use Rattle.opfs_machine.specs.Histories.{state_after}
use Rattle.opfs_machine.specs.Runs.{eviction}
use Rattle.opfs_outside.specs.declared.disk.Disk.{Ghosts as DiskWords}
use Rattle.opfs_records.specs.Replay.Built.{Built}
use Rattle.opfs_desk_steps.specs.Parts.Acted.{AreCleared}
use Rattle.opfs_desk_steps.specs.Parts.Held.{AreHeldWhole}
use Rattle.opfs_desk_steps.specs.Parts.Seen.{units_in}
use Rattle.opfs_desk_steps.specs.declared.parts.call.Eviction.{Eviction}
use Rattle.opfs_desk_steps.specs.declared.parts.parts.Ledger.{Ledger}
use Rattle.opfs_desk_steps.specs.declared.parts.parts.OpenPages.{OpenPages}
use Rattle.opfs_desk_steps.proofs.book_steps.Ways.{way-here}

pub none-cleared : {D : Type 0} (w : DiskWords D) (show : BooksShowTheirImages w) (f : Fixed D) (recorded : Built) (l : Ledger D) (p : OpenPages) (items : List Eviction) → length items ≡ 0 → AreHeldWhole w f recorded l p
    → AreCleared w f (units_in items) l l p
none-cleared w show f recorded l p [] none held = record {
  recorded = recorded;
  are = held;
  way = way-here w f recorded (state_after f.opening l.books.history) [] l l _ show held.books refl;
}
none-cleared w show f recorded l p (x ∷ items) none held = absurd (omega (arith, none))

-- And nothing is added to the history.
pub none-added : (h : List Entry) (items : List Eviction) → length items ≡ 0 → h ≡ h ++ map eviction (units_in items)
none-added h [] none = sym (append-nil h)
none-added h (x ∷ items) none = absurd (omega (arith, none))
