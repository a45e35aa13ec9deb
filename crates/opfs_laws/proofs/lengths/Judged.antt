-- A call is judged the same in the other form.
use Rattle.std.proofs.Common.{◌≡◌, ℕ, ap, ◌∙◌}
use Rattle.opfs_hist.specs.declared.op.Op.{Op}
use Rattle.opfs_machine.specs.declared.state.Sizes.{Sizes}
use Rattle.opfs_machine.specs.declared.state.State.{State}
use Rattle.opfs_machine.specs.Agents.{agent_of}
use Rattle.opfs_machine.specs.Contents.{Contents}
use Rattle.opfs_machine.specs.Ruled.{◌>>=◌}
use Rattle.opfs_machine.specs.Steps.{room_for}
use Rattle.opfs_laws.specs.Lengths.Bridge.{judged_in}
use Rattle.opfs_laws.specs.Lengths.Outlines.{on_state}
use Rattle.opfs_laws.proofs.lengths.Readers.{Fits, key-on}
use Rattle.opfs_laws.proofs.lengths.SameRoom.{room-on}
use Rattle.opfs_laws.proofs.lengths.SameRulings.{ruling-on}

module _ {F R G Q : Type 0} (c : Contents F R) (d : Contents G Q) (f : F → G) (g : R → Q) (fits : Fits c d f g) (s : State F R) where
  pub judged-on : (z : Sizes) (k : ℕ) (o : Op) → judged_in d (on_state f g s) z k o ≡ judged_in c s z k o
  unfolding judged_in
  judged-on z k o =
      let rooms : room_for d (on_state f g s) (agent_of (on_state f g s) k).key ≡ room_for c s (agent_of s k).key =
      ap (room_for d (on_state f g s)) (key-on f g s k) ∙ (λ i need. room-on c d f g fits s (agent_of s k).key need i)
      in
      λ i. ruling-on c d f g fits s k z o i >>= rooms i
