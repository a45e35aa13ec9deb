-- Examples of faults of the disk.
use Rattle.std.specs.Prelude.{List, [], ◌∷◌, None, codes, true, false, ◌≡◌, Some}
use Rattle.opfs_base.specs.Texts.{Text}
use Rattle.opfs_base.specs.Units.{default_bucket}
use Rattle.opfs_hist.specs.declared.entry.Entry.{Entry}
use Rattle.opfs_hist.specs.declared.op.Op.TheVariants as op
use Rattle.opfs_hist.specs.declared.reply.Refusal.TheVariants as refusal
use Rattle.opfs_hist.specs.declared.reply.Reply.TheVariants as reply
use Rattle.opfs_examples.specs.Trying.{IsExample, try_opening, one_agent, file, root, by_one, refused, kept_at}

-- A close that the disk refuses stores nothing and leaves the stream open.
abbrev pub a_disk_fault_leaves_the_stream_open_history : List Entry
a_disk_fault_leaves_the_stream_open_history =
    by_one 1 (op.GetDirectory default_bucket) reply.Done
    ∷ by_one 2 (op.GetFileHandle root (codes "note") true) reply.Done
    ∷ by_one 3 (op.CreateWritable (file (codes "note" ∷ [])) false) reply.Done
    ∷ by_one 4 (op.Write 1 (codes "hello") None) reply.Done
    ∷ by_one 5 (op.Close 1) (refused refusal.DiskFault)
    ∷ by_one 6 (op.GetFile (file (codes "note" ∷ []))) (reply.FileInfo 0 0)
    ∷ by_one 7 (op.Abort 1) reply.Done
    ∷ by_one 8 op.End reply.Done
    ∷ []

abbrev pub a_disk_fault_leaves_the_stream_open_lines : List Text
a_disk_fault_leaves_the_stream_open_lines =
    codes "1.1 getDirectory ok"
    ∷ codes "1.2 getFileHandle ok"
    ∷ codes "1.3 createWritable ok"
    ∷ codes "1.4 write ok"
    ∷ codes "1.5 close DiskFault"
    ∷ codes "1.6 getFile ok 0 0"
    ∷ codes "1.7 abort ok"
    ∷ codes "1.8 end ok"
    ∷ []

abbrev pub ADiskFaultLeavesTheStreamOpen : Type 0
ADiskFaultLeavesTheStreamOpen =
    IsExample (try_opening one_agent) a_disk_fault_leaves_the_stream_open_history
    a_disk_fault_leaves_the_stream_open_lines 5 (reply.FileInfo 5 0)

-- Nothing is stored by a close that the disk refuses, nor by the abort after it.
abbrev pub AFaultStoresNothing : Type 0
AFaultStoresNothing =
    kept_at (try_opening one_agent) a_disk_fault_leaves_the_stream_open_history (file (codes "note" ∷ [])) ≡ Some ([], [])
