-- What is kept since an answer went out is kept to the end.
use Rattle.std.proofs.Common.{◌≡◌, List, length, sym, subst}
use Rattle.opfs_desk.specs.Keeping.{EndsKeeping, IsKept, KeepsAll, StaysKept}
use Rattle.opfs_desk.specs.Seen.{DeskSeen, entries_of}
use Rattle.opfs_hist.specs.declared.entry.Entry.{Entry}
use Rattle.opfs_machine.specs.Openings.{Opening}
use Rattle.opfs_outside.specs.declared.disk.Disk.{Ghosts as DiskWords}
use Rattle.opfs_serve_runs.specs.Conversations.{HasKept, moment_of}

module _ {D : Type 0} (w : DiskWords D) (store : DeskSeen D) (disk : D) (ends : EndsKeeping w store disk) where
  -- to the end of the run
  kept-end : (at : DeskSeen D) → KeepsAll w at → StaysKept w at store → w.tells → IsKept w store.fixed.opening (entries_of store) disk (length (entries_of at)) (moment_of w at)
  kept-end at keeps stays t = ends t (length (entries_of at)) (moment_of w at) (stays t (length (entries_of at)) (moment_of w at) (keeps t))

  -- in the words of the run
  pub has-kept : (o : Opening) (history : List Entry) → store.fixed.opening ≡ o → history ≡ entries_of store → (at : DeskSeen D) → KeepsAll w at → StaysKept w at store
      → w.tells → HasKept o history (w.moment disk) (w.since disk) (length (entries_of at)) (moment_of w at)
  has-kept o history opens same at keeps stays t =
      let kept = kept-end at keeps stays t in
      subst (λ (x : Opening). HasKept x history (w.moment disk) (w.since disk) (length (entries_of at)) (moment_of w at)) opens
      (subst (λ (es : List Entry). HasKept store.fixed.opening es (w.moment disk) (w.since disk) (length (entries_of at)) (moment_of w at)) (sym same)
      (record { within = kept.within; passed = kept.passed; since = kept.since }))
