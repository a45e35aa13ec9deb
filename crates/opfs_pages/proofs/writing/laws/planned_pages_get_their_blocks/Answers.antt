use Rattle.opfs_pages.proofs.writing.Gotten.{gotten-placed, gotten-mine, taken-right}
use Rattle.opfs_pages.proofs.writing.laws.planned_pages_get_their_blocks.Goals as goal

pub returns-clause-placed : goal.returns-clause-placed
returns-clause-placed c = λ h old new base end agent row pages count w given extents are size plan many is fits small. gotten-placed h old new agent row pages count w given extents are size plan many is base end fits small

pub returns-clause-mine : goal.returns-clause-mine
returns-clause-mine c = λ h old new agent row pages count w given extents are size plan many is. gotten-mine h old new agent row pages count w given extents are size plan many is

pub returns-clause-right : goal.returns-clause-right
returns-clause-right c = λ h old new count extents are size is. taken-right h old new count extents are size is
