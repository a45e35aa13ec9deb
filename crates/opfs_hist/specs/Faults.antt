-- Which entries tell that the disk failed. This project's own.
use Rattle.std.specs.Prelude.{ℕ, Bool, true, false, List, count_by}
use Rattle.opfs_hist.specs.declared.entry.Entry.{Entry}
use Rattle.opfs_hist.specs.declared.reply.Refusal.{Refusal}
use Rattle.opfs_hist.specs.declared.reply.Refusal.TheVariants as refusal
use Rattle.opfs_hist.specs.declared.reply.Reply.{Reply}
use Rattle.opfs_hist.specs.declared.reply.Reply.TheVariants as reply

-- Whether a refusal, or a reply, says that the disk failed.
abbrev pub is_disk_refusal : Refusal → Bool
is_disk_refusal refusal.DiskFault = true
is_disk_refusal r = false

abbrev pub is_disk_fault : Reply → Bool
is_disk_fault (reply.No r) = is_disk_refusal r
is_disk_fault r = false

-- How many entries tell that the disk failed.
abbrev pub disk_faults : List Entry → ℕ
disk_faults es = count_by (λ e. is_disk_fault e.reply) es
