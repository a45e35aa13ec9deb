-- What is answered where nothing refuses is no refusal.
use Rattle.std.proofs.Common.{◌≡◌, ℕ, false, List, Option, Some, None, refl}
use Rattle.opfs_base.specs.Places.{Place, place_of, resolved}
use Rattle.opfs_base.specs.Texts.{Text}
use Rattle.opfs_hist.specs.declared.op.Op.{Op}
use Rattle.opfs_hist.specs.declared.op.Op.TheVariants as op
use Rattle.opfs_machine.specs.declared.own.Own.{Own}
use Rattle.opfs_machine.specs.declared.state.FileRow.{FileRow}
use Rattle.opfs_machine.specs.declared.state.Sizes.{Sizes}
use Rattle.opfs_machine.specs.declared.state.State.{State}
use Rattle.opfs_machine.specs.Agents.{agent_of, own_of}
use Rattle.opfs_machine.specs.Contents.{next_of}
use Rattle.opfs_machine.specs.Replies.{answer, child_reply, path_reply, file_reply, given_in}
use Rattle.opfs_machine.specs.Rows.{children_of, file_at}
use Rattle.opfs_machine.specs.Steps.{is_refusal}

child-accepted : (s : State Text Own) (dir : Place) (name : Option Text) → is_refusal (child_reply s dir name) ≡ false
child-accepted s dir None = refl
child-accepted s dir (Some name) = refl

path-accepted : (names : Option (List Text)) → is_refusal (path_reply names) ≡ false
path-accepted None = refl
path-accepted (Some names) = refl

file-accepted : (f : Option (FileRow Text)) → is_refusal (file_reply f) ≡ false
file-accepted None = refl
file-accepted (Some f) = refl

-- What is answered where nothing refuses is no refusal.
pub answer-accepted : (s : State Text Own) (z : Sizes) (k : ℕ) (o : Op) → is_refusal (answer s z k o) ≡ false
unfolding answer
answer-accepted s z k (op.Next n dir) = child-accepted s (place_of dir) (next_of (given_in (own_of (agent_of s k) n)) (children_of s (place_of dir)))
answer-accepted s z k (op.Resolve dir entry) = path-accepted (resolved dir entry)
answer-accepted s z k (op.GetFile at) = file-accepted (file_at s (place_of at))
answer-accepted s z k o = refl
