use Rattle.opfs_space.proofs.Enough.{look_exact, exact_stays}
use Rattle.opfs_space.proofs.room.a_look_knows_own_blocks.Goals as goal

pub returns-clause-look : goal.returns-clause-look
returns-clause-look c = λ h used before then own agent row are swept. look_exact h used before own then are swept agent row

pub returns-clause-later : goal.returns-clause-later
returns-clause-later c = λ old new used own agent row are less fewer same exact. exact_stays old new used own are less fewer same agent row exact
