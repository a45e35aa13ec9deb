-- What a next answers and gives, by the rows of the tree. This project's own.
use Rattle.std.specs.Prelude.{◌≡◌, ◌++◌, Bool, true, false, List, Option, Some, None}
use Rattle.std.specs.List.{filter_map}
use Rattle.opfs_store.specs.declared.acts.acted.Gift.{Gift}
use Rattle.opfs_store.specs.declared.acts.acted.Gift.TheVariants as gift
use Rattle.opfs_base.specs.Places.{Place, child_name, child_of, place_of}
use Rattle.opfs_base.specs.Texts.{Text}
use Rattle.opfs_base.specs.declared.locator.Kind.{Kind}
use Rattle.opfs_base.specs.declared.locator.Locator.{Locator}
use Rattle.opfs_hist.specs.declared.entry.Entry.{Entry}
use Rattle.opfs_hist.specs.declared.op.Op.{Op}
use Rattle.opfs_hist.specs.declared.op.Op.TheVariants as op
use Rattle.opfs_hist.specs.declared.reply.Reply.{Reply}
use Rattle.opfs_hist.specs.declared.reply.Reply.TheVariants as reply
use Rattle.opfs_desk_steps.specs.Iterating.Reached.{IsUpTo}
use Rattle.opfs_machine.specs.Histories.{state_after}
use Rattle.opfs_machine.specs.Rows.{children_of as names_of}
use Rattle.opfs_outside.specs.declared.disk.Disk.{Ghosts as DiskWords}
use Rattle.opfs_state_rows.specs.Standing.Seen.{lines_of}
use Rattle.opfs_tree.specs.Rows.{Rows as Tree, children_of, least_not_in}
use Rattle.opfs_work.specs.Works.{WorkingCopy}
use Rattle.opfs_desk_steps.specs.Parts.Asked.{MayGo}
use Rattle.opfs_desk_steps.specs.declared.parts.call.ReadyCall.{ReadyCall}
use Rattle.opfs_desk_steps.specs.declared.parts.parts.DeskParts.{DeskParts}
use Rattle.opfs_desk_entries.specs.declared.answers.next.NextChild.{NextChild}

abbrev pub is_next : Op → Bool
is_next (op.Next n dir) = true
is_next o = false

abbrev pub found_reply : Option (Text × Kind) → Reply
found_reply None = reply.Last
found_reply (Some found) = reply.Child found.1 found.0

abbrev pub found_gift : Locator → Option (Text × Kind) → Gift
found_gift dir None = gift.Nothing
found_gift dir (Some found) = gift.Child (child_of dir found.0 found.1) found.0

-- The least child of its directory in the tree whose name is not among those given; and the gift of it.
abbrev pub next_least : Tree → Op → List Text → Option (Text × Kind)
next_least t (op.Next n dir) past = least_not_in past (children_of (place_of dir) t)
next_least t o past = None

abbrev pub next_gift : Tree → Op → List Text → Gift
next_gift t (op.Next n dir) past = found_gift dir (least_not_in past (children_of (place_of dir) t))
next_gift t o past = gift.Nothing

-- The reply, twice, and the gift.
pub record IsNextOf (t : Tree) (o : Op) (past : List Text) (next : NextChild) : Type 0 where
  pub reply : next.reply ≡ found_reply (next_least t o past)
  pub told : next.told ≡ found_reply (next_least t o past)
  pub gift : next.gift ≡ next_gift t o past

-- The names of a directory's children, by the rows of the tree.
abbrev pub names_in : Tree → Place → List Text
names_in t dir = filter_map (λ e. child_name dir e.0) (lines_of t)

-- A call may be made over parts that are kept, and its iterator has given all up to a name.
pub record MayGoFrom {D : Type 0} (w : DiskWords D) (p : DeskParts D) (c : ReadyCall) (calls : List Entry) (work : WorkingCopy) (past : List Text) (last : Option Text) : Type 0 where
  pub go : MayGo w p c calls work past
  pub reached : IsUpTo (names_of (state_after go.fixed.opening (p.ledger.books.history ++ calls))) c.op past last
