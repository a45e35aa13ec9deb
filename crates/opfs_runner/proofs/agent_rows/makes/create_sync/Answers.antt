use Rattle.std.proofs.Common.{refl}
use Rattle.opfs_runner.proofs.agent_rows.Grown.{handle-grown}
use Rattle.opfs_runner.proofs.agent_rows.makes.create_sync.Goals as goal

pub returns-clause-made : goal.returns-clause-made
returns-clause-made g c =
    let h = c.in_ok-handle.ensures in
    record {
      more = handle-grown g.S.Store.tells c.args.agent.now c.create_sync.new.self c.know_kept.ensures c.know_kept-2.ensures _ _ c.args.file.now c.args.mode h;
      agent_row = (h.gives.0, h.gives.4);
      kinds = λ kinds. refl;
    }
