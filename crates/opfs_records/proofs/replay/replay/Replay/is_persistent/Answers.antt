use Rattle.std.proofs.Common.{ap, ◌∙◌}
use Rattle.opfs_records.specs.Replay.Applying.{is_persistent}
use Rattle.opfs_records.specs.Replay.Replaying.{Replayed}
use Rattle.opfs_records.proofs.replay.Persistent.{mode_at}
use Rattle.opfs_records.proofs.replay.replay.Replay.is_persistent.Goals as goal

pub returns : goal.returns
returns c =
    c.is_persistent.ensures ∙ mode_at c.args.unit.now c.self.inside.shed.buckets c.self.invariant.modes
    ∙ ap (λ (r : Replayed). is_persistent r.built c.args.unit.now) c.self.view_is
