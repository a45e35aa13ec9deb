use Rattle.std.proofs.Common.{◌≡◌, true, sym, subst}
use Rattle.opfs_script.specs.Limits.{fits_limits}
use Rattle.opfs_gen.proofs.Limits.{script-limits}
use Rattle.opfs_gen.proofs.making.make_script.Goals as goal

pub make-requires : goal.make-requires
make-requires c = subst (λ xs. fits_limits xs ≡ true) (sym c.in_ok-scripts.ensures) (script-limits c.args.seed c.args.agents c.args.rounds c.requires)
