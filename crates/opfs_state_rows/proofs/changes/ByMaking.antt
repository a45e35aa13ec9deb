-- What holds of each word that makes a row holds of any call that makes one.
use Rattle.std.proofs.Common.{◌≡◌, Bool, true, false}
use Rattle.std.proofs.lemmas.Bool.{false≢true}
use Rattle.opfs_base.specs.Texts.{Text}
use Rattle.opfs_base.specs.declared.locator.Locator.{Locator}
use Rattle.opfs_hist.specs.declared.op.Op.{Op}
use Rattle.opfs_hist.specs.declared.op.Op.TheVariants as op
use Rattle.opfs_state_rows.specs.Changes.Asking.{makes_row}

pub by-making : (P : Op → Type 0) → ((bucket : Text) → P (op.GetDirectory bucket))
    → ((dir : Locator) (name : Text) (create : Bool) → P (op.GetDirectoryHandle dir name create))
    → ((dir : Locator) (name : Text) (create : Bool) → P (op.GetFileHandle dir name create))
    → (o : Op) → makes_row o ≡ true → P o
by-making P root dir file (op.GetDirectory bucket) makes = root bucket
by-making P root dir file (op.GetDirectoryHandle at name create) makes = dir at name create
by-making P root dir file (op.GetFileHandle at name create) makes = file at name create
by-making P root dir file (op.RemoveEntry at name recursive) makes = absurd (false≢true makes)
by-making P root dir file (op.Values at) makes = absurd (false≢true makes)
by-making P root dir file (op.Next n at) makes = absurd (false≢true makes)
by-making P root dir file (op.Resolve at entry) makes = absurd (false≢true makes)
by-making P root dir file (op.IsSameEntry entry to) makes = absurd (false≢true makes)
by-making P root dir file (op.GetFile at) makes = absurd (false≢true makes)
by-making P root dir file (op.Slice n at len) makes = absurd (false≢true makes)
by-making P root dir file (op.CreateWritable at keep) makes = absurd (false≢true makes)
by-making P root dir file (op.Write n bytes position) makes = absurd (false≢true makes)
by-making P root dir file (op.Seek n position) makes = absurd (false≢true makes)
by-making P root dir file (op.Truncate n size) makes = absurd (false≢true makes)
by-making P root dir file (op.Close n) makes = absurd (false≢true makes)
by-making P root dir file (op.Abort n) makes = absurd (false≢true makes)
by-making P root dir file (op.CreateSyncAccessHandle at mode) makes = absurd (false≢true makes)
by-making P root dir file (op.SyncRead n len at) makes = absurd (false≢true makes)
by-making P root dir file (op.SyncWrite n bytes at) makes = absurd (false≢true makes)
by-making P root dir file (op.SyncTruncate n size) makes = absurd (false≢true makes)
by-making P root dir file (op.SyncGetSize n) makes = absurd (false≢true makes)
by-making P root dir file (op.SyncFlush n) makes = absurd (false≢true makes)
by-making P root dir file (op.SyncClose n) makes = absurd (false≢true makes)
by-making P root dir file (op.Persist bucket) makes = absurd (false≢true makes)
by-making P root dir file (op.Persisted bucket) makes = absurd (false≢true makes)
by-making P root dir file op.Estimate makes = absurd (false≢true makes)
by-making P root dir file (op.Moment ms) makes = absurd (false≢true makes)
by-making P root dir file (op.Post tag) makes = absurd (false≢true makes)
by-making P root dir file (op.Await tag) makes = absurd (false≢true makes)
by-making P root dir file (op.Wait tag) makes = absurd (false≢true makes)
by-making P root dir file (op.Discard n) makes = absurd (false≢true makes)
by-making P root dir file op.End makes = absurd (false≢true makes)
by-making P root dir file (op.Unbound word) makes = absurd (false≢true makes)
by-making P root dir file (op.Evict unit) makes = absurd (false≢true makes)
