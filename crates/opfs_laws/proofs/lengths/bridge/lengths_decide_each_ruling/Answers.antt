use Rattle.std.proofs.Common.{length}
use Rattle.opfs_machine.specs.Contents.{in_bytes, in_lengths, outline_of}
use Rattle.opfs_laws.proofs.lengths.Instance.{lengths-fit}
use Rattle.opfs_laws.proofs.lengths.Judged.{judged-on}
use Rattle.opfs_laws.proofs.lengths.Readers.{stuck-on}
use Rattle.opfs_laws.proofs.lengths.SameRoom.{room-on, victims-on, candidates-on, usage-on, pool-on, charge-on}
use Rattle.opfs_laws.proofs.lengths.SameRulings.{ruling-on}
use Rattle.opfs_laws.proofs.lengths.bridge.lengths_decide_each_ruling.Goals as goal

pub returns : goal.returns
returns c = record {
  ruling = λ s z k o. ruling-on in_bytes in_lengths length outline_of lengths-fit s k z o;
  room = room-on in_bytes in_lengths length outline_of lengths-fit;
  victims = victims-on in_bytes in_lengths length outline_of lengths-fit;
  candidates = candidates-on length outline_of;
  judged = λ s z k o. judged-on in_bytes in_lengths length outline_of lengths-fit s z k o;
  stuck = stuck-on length outline_of;
  usage = usage-on in_bytes in_lengths length outline_of lengths-fit;
  pool = pool-on in_bytes in_lengths length outline_of lengths-fit;
  charge = charge-on in_bytes in_lengths length outline_of lengths-fit;
}
