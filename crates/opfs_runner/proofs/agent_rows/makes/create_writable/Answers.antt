use Rattle.std.proofs.Common.{refl}
use Rattle.opfs_runner.proofs.agent_rows.Grown.{stream-grown}
use Rattle.opfs_runner.proofs.agent_rows.makes.create_writable.Goals as goal

pub returns-clause-made : goal.returns-clause-made
returns-clause-made g c =
    let h = c.in_ok-stream.ensures in
    record {
      more = stream-grown g.S.Store.tells c.args.agent.now c.create_writable.new.self c.know_kept.ensures c.know_kept-2.ensures _ _ c.args.file.now c.args.keep h;
      agent_row = (h.gives.0, h.gives.3);
      kinds = λ kinds. refl;
    }
