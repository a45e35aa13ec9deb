use Rattle.std.proofs.Common.{ap}
use Rattle.opfs_shed.specs.Buckets.{Storage}
use Rattle.opfs_shed.proofs.Usages.{usage_cleared}
use Rattle.opfs_shed.proofs.shed.Shed.clear.Goals as goal

pub returns-clause-usage : goal.returns-clause-usage
returns-clause-usage c = usage_cleared c.args.key.now c.args.self.now.buckets _ (ap (λ (s : Storage). s.buckets) c.put.ensures)
