use Rattle.opfs_base.specs.Units.{origin_of}
use Rattle.opfs_machine.specs.Contents.{in_lengths}
use Rattle.opfs_machine.specs.Sums.{usage}
use Rattle.opfs_tree.specs.declared.row.FileRow.{FileRow}
use Rattle.std.proofs.Common.{◌+◌, ◌<◌, ◌^◌, Option, IfSome, subst, refl, sym, ap, ◌∙◌, arith}
use Rattle.opfs_base.specs.Blocks.{blocks}
use Rattle.opfs_machine.specs.Rows.{with_file}
use Rattle.opfs_tree.specs.Rows.{written}
use Rattle.opfs_state_rows.specs.Standing.Contents.{showing}
use Rattle.opfs_state_rows.specs.Standing.Seen.{Seen, machine_of}
use Rattle.opfs_state_rows.proofs.standing.Content.{content-known, content-usage, content-quota, content-machine, content-tied}
use Rattle.opfs_state_rows.proofs.standing.Stores.{pool-kept, prepared-same, same-register}
use Rattle.opfs_state_rows.proofs.standing.standing.Standing.set_present.Goals as goal

pub exchange-requires-clause-there : goal.exchange-requires-clause-there
exchange-requires-clause-there c = (content-known c.self.inside.tree.rows c.self.inside.shed c.self.inside.pool c.self.inside.register c.self.inside.fixed c.self.inside.root c.args.unit.now c.args.path.now c.in-Some.file.now c.self.invariant (sym c.in-Some.ensures)).bucket

pub exchange-requires-clause-within : goal.exchange-requires-clause-within
exchange-requires-clause-within c = rw c.blocks-2.ensures (content-usage c.self.inside.tree.rows c.self.inside.shed c.self.inside.pool c.self.inside.register c.self.inside.fixed c.self.inside.root c.args.unit.now c.args.path.now c.in-Some.file.now c.self.invariant (sym c.in-Some.ensures))

pub exchange-requires-clause-fits : goal.exchange-requires-clause-fits
exchange-requires-clause-fits c =
    let is = content-quota c.self.inside.tree.rows c.self.inside.shed c.self.inside.pool c.self.inside.register c.self.inside.fixed c.self.inside.root c.args.unit.now c.args.path.now c.in-Some.file.now c.self.invariant (sym c.in-Some.ensures) in
    let fits : usage in_lengths (machine_of c.self.inside.tree.rows c.self.inside.shed.buckets c.self.inside.register) (origin_of c.args.unit.now) + blocks c.args.length < 2 ^ 64 + blocks c.in-Some.file.now.present =
    subst (λ (o : Option FileRow). IfSome o (λ f. usage in_lengths (machine_of c.self.inside.tree.rows c.self.inside.shed.buckets c.self.inside.register) (origin_of c.args.unit.now) + blocks c.args.length < 2 ^ 64 + blocks f.present)) (sym c.in-Some.ensures) (rw (← c.self.view_is) at c.requires.quota) in
    rw (c.blocks-2.ensures, c.blocks-3.ensures) (omega (arith, is, fits))

pub invariant_of-self : goal.invariant_of-self
invariant_of-self c =
    content-tied c.self.inside.tree.rows c.self.inside.shed c.self.inside.pool c.self.inside.register c.self.inside.fixed c.self.inside.root c.args.unit.now c.args.path.now c.in-Some.file.now c.self.invariant (sym c.in-Some.ensures) c.set_present.new.self.rows c.exchange.new.shed c.self.inside.pool (written c.args.length c.args.stamp) (showing c.args.length c.args.stamp) (λ f. refl) c.set_present.ensures.rows
    c.exchange.ensures.modes (λ f. refl)
    (rw (c.blocks-2.ensures, c.blocks-3.ensures) at c.exchange.ensures.moves)
    (pool-kept c.self.inside.pool c.args.unit.now (blocks c.in-Some.file.now.length)) refl

pub returns-clause-machine : goal.returns-clause-machine
returns-clause-machine c =
    content-machine c.self.inside.tree.rows c.self.inside.shed c.self.inside.pool c.self.inside.register c.self.inside.fixed c.self.inside.root c.args.unit.now c.args.path.now c.in-Some.file.now c.self.invariant (sym c.in-Some.ensures) c.set_present.new.self.rows c.exchange.new.shed c.self.inside.pool (written c.args.length c.args.stamp) (showing c.args.length c.args.stamp) (λ f. refl) c.set_present.ensures.rows
    c.exchange.ensures.modes
    ∙ ap (λ (s : Seen). with_file s.machine (c.args.unit.now, c.args.path.now) (showing c.args.length c.args.stamp)) c.self.view_is

pub returns-clause-prepared : goal.returns-clause-prepared
returns-clause-prepared c =
    prepared-same c.self.inside.tree.ready c.set_present.new.self.ready c.self.inside.pool.shares c.self.inside.pool.shares c.self.inside.register c.self.inside.register c.set_present.ensures.ready
    (refl)
    (same-register c.self.inside.register)
    ∙ ap (λ (s : Seen). s.prepared) c.self.view_is
