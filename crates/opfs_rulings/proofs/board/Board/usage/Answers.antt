use Rattle.std.proofs.Common.{◌≡◌, Some, rules}
use Rattle.std.specs.FinMap.Entries.{find}
use Rattle.std.specs.Ordering.{nat_cmp}
use Rattle.std.specs.Cmp.Lexicographic.{slice_cmp}
use Rattle.opfs_rulings.proofs.Totals.{held_at, usage_found}
use Rattle.opfs_rulings.proofs.board.Board.usage.Goals as goal

pub returns-in-Some-use_of : goal.returns-in-Some-use_of
returns-in-Some-use_of c =
    let found : find (slice_cmp nat_cmp) c.args.origin.now c.in-Some.tally.uses ≡ Some c.in-Some-use_of.total = search rules in
    rw (← c.self.view_is) (usage_found c.self.inside.state c.in-Some.tally c.args.origin.now c.in-Some-use_of.total (held_at _ _ _ c.in-Some.is c.self.invariant.kept.tallied) found)
