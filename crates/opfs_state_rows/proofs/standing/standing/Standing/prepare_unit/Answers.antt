use Rattle.std.proofs.Common.{sym, ap, subst, ◌∙◌}
use Rattle.std.specs.Map.{keys_of}
use Rattle.opfs_pool.specs.Shares.{Blocks}
use Rattle.opfs_state_rows.specs.Standing.Seen.{Seen, machine_of, is_known, prepared_of}
use Rattle.opfs_state_rows.specs.Standing.Tied.{IsTied}
use Rattle.opfs_state_rows.proofs.standing.Touched.{on-err, pool-touched, touched-machine, shed-touched, known-here, known-kept}
use Rattle.opfs_state_rows.proofs.standing.standing.Standing.prepare_unit.Goals as goal

pub invariant_of-self-in_err-touch-2 : goal.invariant_of-self-in_err-touch-2
invariant_of-self-in_err-touch-2 c = subst (λ (p : Blocks). IsTied (machine_of c.self.inside.tree.rows c.touch.new.self.buckets c.self.inside.register) c.touch.new.self p c.self.inside.fixed c.self.inside.root) (sym c.in_err-touch-2.ensures.err) (shed-touched c.self.inside.shed c.touch.new.self c.args.unit.now c.in_ok-touch.ensures.touched c.self.inside.tree.rows c.self.inside.register c.self.inside.pool c.self.inside.fixed c.self.inside.root c.self.invariant c.touch.ensures.usage)

pub invariant_of-self-2 : goal.invariant_of-self-2
invariant_of-self-2 c =
    pool-touched c.self.inside.pool c.touch-2.new.self c.args.unit.now c.in_ok-touch-2.ensures.touched (machine_of c.self.inside.tree.rows c.touch.new.self.buckets c.self.inside.register) c.touch.new.self c.self.inside.fixed c.self.inside.root
    (shed-touched c.self.inside.shed c.touch.new.self c.args.unit.now c.in_ok-touch.ensures.touched c.self.inside.tree.rows c.self.inside.register c.self.inside.pool c.self.inside.fixed c.self.inside.root c.self.invariant c.touch.ensures.usage) c.in_ok-touch.ensures.there c.touch-2.ensures.held

pub returns-clause-rest : goal.returns-clause-rest
returns-clause-rest c =
    let machine = touched-machine c.self.inside.shed c.touch.new.self c.args.unit.now c.in_ok-touch.ensures.touched c.self.inside.tree.rows c.self.inside.register in
    (λ i. record { machine = machine i; tree = c.self.inside.tree.rows; prepared = prepared_of c.self.inside.tree.ready c.touch-2.new.self.shares c.self.inside.register })
    ∙ ap (λ (s : Seen). record s { prepared = record s.prepared { units = keys_of c.touch-2.new.self.shares } }) c.self.view_is

pub returns-in_err-touch-2-clause-rest : goal.returns-in_err-touch-2-clause-rest
returns-in_err-touch-2-clause-rest c =
    let machine = touched-machine c.self.inside.shed c.touch.new.self c.args.unit.now c.in_ok-touch.ensures.touched c.self.inside.tree.rows c.self.inside.register in
    (λ i. record { machine = machine i; tree = c.self.inside.tree.rows; prepared = prepared_of c.self.inside.tree.ready c.touch-2.new.self.shares c.self.inside.register })
    ∙ ap (λ (s : Seen). record s { prepared = record s.prepared { units = keys_of c.touch-2.new.self.shares } }) c.self.view_is

pub returns-in_err-touch-2-clause-err : goal.returns-in_err-touch-2-clause-err
returns-in_err-touch-2-clause-err c =
    let machine = touched-machine c.self.inside.shed c.touch.new.self c.args.unit.now c.in_ok-touch.ensures.touched c.self.inside.tree.rows c.self.inside.register in
    on-err c.from_residual-in_err-touch-2.result
    ((λ i. record { machine = machine i; tree = c.self.inside.tree.rows; prepared = prepared_of c.self.inside.tree.ready (c.in_err-touch-2.ensures.err i).shares c.self.inside.register }) ∙ c.self.view_is)

pub returns-clause-known : goal.returns-clause-known
returns-clause-known c = known-here c.self.inside.pool c.touch-2.new.self c.args.unit.now c.in_ok-touch-2.ensures.touched

pub returns-clause-kept : goal.returns-clause-kept
returns-clause-kept c = λ other was. known-kept c.self.inside.pool c.touch-2.new.self c.args.unit.now c.in_ok-touch-2.ensures.touched other (ap (λ (s : Seen). is_known other s.prepared) c.self.view_is ∙ was)
