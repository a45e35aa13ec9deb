use Rattle.std.proofs.Common.{length}
use Rattle.opfs_machine.specs.Contents.{outline_of}
use Rattle.opfs_laws.proofs.lengths.Instance.{same_effect}
use Rattle.opfs_laws.proofs.lengths.SameEffects.{refused-on, counted-on}
use Rattle.opfs_laws.proofs.lengths.SameRoom.{evictions-on}
use Rattle.opfs_laws.proofs.lengths.bridge.lengths_follow_each_call.Goals as goal

pub returns : goal.returns
returns c = record {
  effect = same_effect;
  refused = refused-on length outline_of;
  counted = counted-on length outline_of;
  evictions = λ s gone. evictions-on length outline_of gone s;
}
