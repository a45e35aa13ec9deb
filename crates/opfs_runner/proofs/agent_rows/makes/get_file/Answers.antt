use Rattle.std.proofs.Common.{refl}
use Rattle.opfs_runner.proofs.agent_rows.Grown.{snapshot-grown}
use Rattle.opfs_runner.proofs.agent_rows.makes.get_file.Goals as goal

pub returns-clause-made : goal.returns-clause-made
returns-clause-made g c =
    let h = c.in_ok-snapshot.ensures in
    record {
      more = snapshot-grown g.S.Store.tells c.args.agent.now c.get_file.new.self c.know_kept.ensures c.know_kept-2.ensures _ _ c.args.file.now h;
      agent_row = (h.gives.0, h.gives.2);
      kinds = λ kinds. refl;
    }
