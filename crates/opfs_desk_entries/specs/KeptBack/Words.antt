-- What the calls have in common that change something which is no content. This project's own.
use Rattle.std.specs.Prelude.{◌≡◌, ℕ, false, None, IsTrue}
use Rattle.opfs_store.specs.Acts.Acting.{brings_position, gift_of, row_left}
use Rattle.opfs_store.specs.declared.acts.acted.Gift.TheVariants as gift
use Rattle.opfs_base.specs.Texts.{Text}
use Rattle.opfs_state_rows.specs.Changes.Allowed.{IsSized}
use Rattle.opfs_pages.specs.HistoryLaws.Hands.{row_in_hand}
use Rattle.opfs_hist.specs.declared.op.Op.{Op}
use Rattle.opfs_hist.specs.declared.reply.Reply.{Reply}
use Rattle.opfs_machine.specs.declared.own.Own.{Own}
use Rattle.opfs_machine.specs.declared.state.Sizes.{Sizes}
use Rattle.opfs_machine.specs.declared.state.State.{State}
use Rattle.opfs_machine.specs.Contents.{in_bytes, in_lengths}
use Rattle.opfs_machine.specs.Effects.{effect, refused}
use Rattle.opfs_machine.specs.Histories.{evicted_by, is_disk_op}
use Rattle.opfs_machine.specs.Steps.{is_refusal}
use Rattle.opfs_state_rows.specs.Standing.Seen.{Machine}

-- An agent's call with its answer, in whatever state it is made: the disk may fail in it, it asks nothing of the sizes, gives
-- nothing, has no row in hand and leaves none open, and leaves all agents and the limits as they are.
pub record IsQuietCall (k : ℕ) (o : Op) (r : Reply) : Type 0 where
  pub done : is_refusal r ≡ false
  pub disk : (s : State Text Own) → IsTrue (is_disk_op s k o)
  pub sized : (m : Machine) (z : Sizes) → IsSized m z k o
  pub gift : (s : State Text Own) → gift_of s o r ≡ gift.Nothing
  pub hand : (s : State Text Own) → row_in_hand s k o ≡ 0
  pub left : (rows : ℕ) → row_left rows o ≡ 0
  pub near : brings_position o ≡ false
  pub plain : evicted_by o ≡ None
  pub refused : (s : State Text Own) → refused s k o ≡ s
  pub agents : (s : State Text Own) (z : Sizes) → (effect in_bytes s z k o).agents ≡ s.agents
  pub outlines : (m : Machine) (z : Sizes) → (effect in_lengths m z k o).agents ≡ m.agents
  pub limits : (m : Machine) (z : Sizes) → (effect in_lengths m z k o).limits ≡ m.limits
