-- Calls that are answered by that they are done, word by word.
use Rattle.std.proofs.Common.{◌≡◌, ℕ, true, refl}
use Rattle.opfs_store.specs.Acts.Acting.{gift_of}
use Rattle.opfs_store.specs.declared.acts.acted.Gift.TheVariants as gift
use Rattle.opfs_hist.specs.declared.op.Op.{Op}
use Rattle.opfs_hist.specs.declared.op.Op.TheVariants as op
use Rattle.opfs_hist.specs.declared.reply.Reply.TheVariants as reply
use Rattle.opfs_machine.specs.declared.own.Own.{Own}
use Rattle.opfs_machine.specs.declared.state.Sizes.{Sizes}
use Rattle.opfs_machine.specs.declared.state.State.{State}
use Rattle.opfs_machine.specs.Replies.{answer}
use Rattle.opfs_base.specs.Texts.{Text}
use Rattle.opfs_desk_entries.specs.Answers.Telling.{is_done}

pub answers-done : (s : State Text Own) (z : Sizes) (k : ℕ) (o : Op) → is_done o ≡ true → answer s z k o ≡ reply.Done
unfolding answer
answers-done s z k (op.GetDirectory bucket) h = refl
answers-done s z k (op.GetDirectoryHandle dir name create) h = refl
answers-done s z k (op.GetFileHandle dir name create) h = refl
answers-done s z k (op.Post tag) h = refl
answers-done s z k (op.Await tag) h = refl
answers-done s z k (op.Wait tag) h = refl
answers-done s z k op.End h = refl
answers-done s z k o h = cc

pub no-gift : (s : State Text Own) (o : Op) → is_done o ≡ true → gift_of s o reply.Done ≡ gift.Nothing
unfolding gift_of
no-gift s (op.GetFile at) h = cc
no-gift s (op.Next n dir) h = cc
no-gift s o h = refl
