-- A content is entered with its call, or the disk failed in its commit.
use Rattle.std.proofs.Common.{◌≡◌, ℕ, ◌<◌, ◌^◌, List, sym, subst}
use Rattle.opfs_base.specs.Places.{Place}
use Rattle.opfs_base.specs.declared.extents.Extent.{Extent}
use Rattle.opfs_books.specs.Stored.Spelled.{CanHold}
use Rattle.opfs_books.specs.Laws.Books.{Fixed}
use Rattle.opfs_books.specs.Seen.{MayStore}
use Rattle.opfs_codec.specs.Spelling.{IsChange, AreExtents}
use Rattle.opfs_codec.specs.declared.change.Change.{Change as Spelled}
use Rattle.opfs_codec.specs.declared.change.Change.TheVariants.{Content}
use Rattle.opfs_codec.specs.declared.change.Format.TheVariants.{New}
use Rattle.opfs_records.specs.Checkpoint.Written.{IsWritablePlace}
use Rattle.opfs_desk_steps.specs.Parts.Seen.{book_in}
use Rattle.opfs_desk_steps.specs.declared.parts.parts.Ledger.{Ledger}

pub content-again : (place : Place) (stamp size : ℕ) (runs : List Extent) → IsWritablePlace place → stamp < 2 ^ 64 → size < 2 ^ 64 → AreExtents runs → IsChange New (Content place.0 place.1 stamp size runs)
unfolding IsChange
content-again place stamp size runs written moment small are = (written.0, written.1, moment, small, are)

pub may-be-stored : {D : Type 0} (f : Fixed D) (l : Ledger D) (own now : Spelled) → own ≡ now → IsChange New own → CanHold f.geometry.blocks now (book_in l).rows → MayStore f (book_in l) own
may-be-stored f l own now same again holds = record { again = again; holds = subst (λ (x : Spelled). CanHold f.geometry.blocks x (book_in l).rows) (sym same) holds }
