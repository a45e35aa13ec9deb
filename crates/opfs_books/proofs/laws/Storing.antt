-- A change is committed, or its commit fails.
use Rattle.std.proofs.Common.{◌≡◌, ◌+◌, ◌-◌, ◌^◌, ◌≤◌, false, List, [], ◌∷◌, ◌++◌, ap, ◌∙◌}
use Rattle.opfs_base.specs.Texts.{Text}
use Rattle.opfs_codec.specs.declared.change.Change.{Change as Spelled}
use Rattle.opfs_codec.specs.declared.change.Format.TheVariants.{New}
use Rattle.opfs_commit.specs.Calls.{IsAnyOf, IsNoneOf, IsNext as IsNextRecord}
use Rattle.opfs_commit.specs.Images.{Account, AreImages, committed, doubting}
use Rattle.opfs_commit.specs.Making.{IsOwn, IsReadyFor, told_as, new_bytes}
use Rattle.opfs_commit.specs.Seen.{KeptBack, committing}
use Rattle.opfs_commit.specs.Trail.{IsTrail}
use Rattle.opfs_image.specs.Filling.{filled}
use Rattle.opfs_image.specs.Superblock.{area_bytes, data_base}
use Rattle.opfs_journal.specs.Format.{Stored}
use Rattle.opfs_journal.specs.Seen.{Seen, Stays}
use Rattle.opfs_machine.specs.declared.own.Own.{Own}
use Rattle.opfs_machine.specs.declared.state.State.{State}
use Rattle.opfs_machine.specs.Changes.{Change, changed, floor}
use Rattle.opfs_outside.specs.Faults.{Rose}
use Rattle.opfs_outside.specs.Moments.{Elapses}
use Rattle.opfs_outside.specs.declared.disk.Disk.{Ghosts as DiskWords}
use Rattle.opfs_records.specs.Replay.Built.{Built}
use Rattle.opfs_records.specs.Replay.Sums.{charge_of}
use Rattle.opfs_books.specs.Laws.Books.{Fixed, Book, HasRoom, account_of, AreBooksAt}
use Rattle.opfs_books.specs.Laws.Commits.{CommitLaws}
use Rattle.opfs_books.specs.Laws.Laws.{told, ShowsTold, IsMade}
use Rattle.opfs_books.proofs.laws.Counting.{rose-later}
use Rattle.opfs_books.proofs.laws.Sound.{next_good}

-- Nothing is in doubt: the books' account has no doubt.
module _ {D : Type 0} (w : DiskWords D) (laws : w.tells → CommitLaws w) (most : (d : D) → w.faults d ≤ 2 ^ 64 - 1) (f : Fixed D) (recorded : Built) (base : State Text Own) (gone : List Text) (b : Book) (old : Seen D)
    (are : AreBooksAt w f recorded base gone b old) (settled : old.in_doubt ≡ false) where
  abbrev account : Account
  account = account_of f recorded b

  module _ (spelled : Spelled) (next : Built) (change : Change) (made : IsMade f.geometry.blocks spelled b.rows next) (fits : charge_of New next + 7 ≤ area_bytes f.geometry)
      (same : w.tells → told_as (new_bytes (data_base f.geometry) (w.content old.disk) spelled) spelled ≡ change) where
    own : w.tells → IsOwn w account spelled change next old
    own t = record {
      again = made.again;
      found = made.found;
      fits = fits;
      makes =
          (laws t).filled f.geometry.blocks (data_base f.geometry) (w.content old.disk) b.rows next spelled made.order made.found
          ∙ ap (changed (filled (data_base f.geometry) (w.content old.disk) b.rows)) (same t);
    }

    ready : (t : w.tells) (record_next : Stored) → IsNextRecord b.rows spelled (committing old b.back) record_next → IsReadyFor w account (change ∷ []) record_next next (committing old b.back)
    ready t record_next kind = record {
      images = are.images t;
      settled = settled;
      to_store = (laws t).next account (committing old b.back) spelled change next record_next (are.images t) settled are.stored.sound (own t) kind;
    }

    -- What is left of the images where the commit succeeded, and the trail.
    module _ (j : Seen D) (back : KeptBack) (any : IsAnyOf w (IsNextRecord b.rows spelled (committing old b.back)) (committing old b.back) (committing j back)) where
      pub done-images : w.tells → AreImages w (committed account (change ∷ []) next) (committing j back)
      done-images t = (laws t).durable account (change ∷ []) any.next next (committing old b.back) (committing j back) (ready t any.next any.kind) any.committed

      pub done-shown : ShowsTold w f b (told f b ++ change ∷ []) old j
      done-shown t = (laws t).shown account (change ∷ []) any.next next (committing old b.back) (committing j back) (ready t any.next any.kind) any.committed.journal.stays (any.committed.journal.told t).written

      done-time : w.tells → Elapses w.moment w.since old.disk j.disk
      done-time t = (any.committed.journal.told t).written.time

      pub done-later : w.faults old.disk ≤ w.faults j.disk
      done-later = any.committed.journal.later

      pub done-trail : w.tells → (Rose (w.faults f.begun) (w.faults j.disk) → ⊥) → IsTrail w f.opening (told f b ++ change ∷ []) f.begun j.disk
      done-trail t steady =
          let before = are.trail t (λ rose. steady (rose-later (w.faults f.begun) (w.faults old.disk) (w.faults j.disk) (most j.disk) rose done-later)) in
          (laws t).trail_committed account change next (floor (told f b)) f.begun old.disk (committing j back) before (done-time t) (done-shown t) (done-images t)
          (ap (λ (k : KeptBack). k.count) any.committed.none) any.committed.journal.sure

      pub done-back : (back.room ≡ b.back.room) × (back.count ≡ 0)
      done-back = (ap (λ (k : KeptBack). k.room) any.committed.none, ap (λ (k : KeptBack). k.count) any.committed.none)

      pub done-sure : j.in_doubt ≡ false
      done-sure = any.committed.journal.sure

      pub done-stays : Stays w.size old j
      done-stays = any.committed.journal.stays

    -- And where it failed.
    module _ (j : Seen D) (back : KeptBack) (none : IsNoneOf w (IsNextRecord b.rows spelled (committing old b.back)) (committing old b.back) (committing j back)) where
      pub failed-images : w.tells → AreImages w (doubting account (change ∷ [])) (committing j back)
      failed-images t = (laws t).in_doubt account (change ∷ []) none.next next (committing old b.back) (committing j back) (ready t none.next none.kind) none.halted

      pub failed-shown : ShowsTold w f b (told f b ++ change ∷ []) old j
      failed-shown t = (laws t).shown account (change ∷ []) none.next next (committing old b.back) (committing j back) (ready t none.next none.kind) none.halted.journal.stays (none.halted.journal.told t).written

      pub failed-later : w.faults old.disk ≤ w.faults j.disk
      failed-later = none.halted.journal.later

      pub failed-stays : Stays w.size old j
      failed-stays = none.halted.journal.stays

      pub failed-back : back ≡ b.back
      failed-back = none.halted.same

    pub next-room : HasRoom f.geometry next
    next-room =
        let good = next_good f.geometry.blocks b.rows next spelled are.stored.sound are.stored.writable made.order made.again made.found in
        record { sound = good.0; writable = good.1; fits = fits }
