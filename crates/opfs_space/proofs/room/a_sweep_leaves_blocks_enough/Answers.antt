use Rattle.opfs_space.proofs.Enough.{blocks_suffice}
use Rattle.opfs_space.proofs.room.a_sweep_leaves_blocks_enough.Goals as goal

pub returns : goal.returns
returns c = λ s h rows used own then found agent row reserve need moves are is swept room exact moved.
    blocks_suffice s h rows used own then found agent row reserve need moves are is swept room exact moved
