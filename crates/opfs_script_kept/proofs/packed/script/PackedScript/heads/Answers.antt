use Rattle.std.proofs.Common.{sym, subst}
use Rattle.std.specs.Prelude.{IsTrue}
use Rattle.opfs_script.specs.Limits.{fits_limits}
use Rattle.opfs_script_kept.proofs.packed.Heads.{fits-without}
use Rattle.opfs_script_kept.proofs.packed.script.PackedScript.heads.Goals as goal

pub make-requires : goal.make-requires
make-requires c =
    let is = rw c.agents.ensures.agents at c.in_ok-heads.ensures in
    subst (λ agents. IsTrue (fits_limits agents)) (sym is) (fits-without c.args.self.now c.agents.ensures.limits)
