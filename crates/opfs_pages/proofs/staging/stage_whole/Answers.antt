use Rattle.std.proofs.Common.{◌*◌, ◌-◌, arith}
use Rattle.opfs_pages.specs.Stages.{changed}
use Rattle.opfs_pages.specs.Copies.{IsNamed}
use Rattle.opfs_pages.proofs.Named.{named_write, named_move, run_named, right_write, right_move, run_right, given_write, given_move, other_moves, other_writes}
use Rattle.opfs_pages.proofs.staging.stage_whole.Goals as goal

pub returns-in_ok-add-in-Some-clause-right : goal.returns-in_ok-add-in-Some-clause-right
returns-in_ok-add-in-Some-clause-right c = λ old was.
    right_write (changed old c.args.put.now.at c.args.put.now.given.now c.args.put.now.size) c.args.put.now.given.now c.args.writes.now c.add.new.self _ (given_write c.args.writes.now c.add.new.self c.args.put.now.given.now _ c.in_ok-add-in-Some.ensures.runs c.in_ok-add-in-Some.ensures.rest.1) (other_moves c.args.writes.now c.add.new.self c.args.put.now.given.now c.in_ok-add-in-Some.ensures.rest.0 c.in_ok-add-in-Some.ensures.rest.1) (run_right old c.args.put.now.given.now c.args.put.now.at c.args.page c.in-Some.block (c.args.page * 4096 - c.args.put.now.at) c.args.count c.args.put.now.size c.requires.begins (omega arith) c.requires.ends c.requires.stays) was

pub returns-in_ok-add-in-Some-clause-named : goal.returns-in_ok-add-in-Some-clause-named
returns-in_ok-add-in-Some-clause-named c = λ p named.
    named_write c.args.writes.now c.add.new.self c.args.put.now.given.now _ p (given_write c.args.writes.now c.add.new.self c.args.put.now.given.now _ c.in_ok-add-in-Some.ensures.runs c.in_ok-add-in-Some.ensures.rest.1) (other_moves c.args.writes.now c.add.new.self c.args.put.now.given.now c.in_ok-add-in-Some.ensures.rest.0 c.in_ok-add-in-Some.ensures.rest.1)
    (run_named c.args.put.now.given.now c.args.page c.in-Some.block (c.args.page * 4096 - c.args.put.now.at) c.args.count p (IsNamed c.args.writes.now c.args.put.now.given.now p) named)

pub returns-in_ok-add_move-in-None-clause-right : goal.returns-in_ok-add_move-in-None-clause-right
returns-in_ok-add_move-in-None-clause-right c = λ old was.
    right_move (changed old c.args.put.now.at c.args.put.now.given.now c.args.put.now.size) c.args.put.now.given.now c.args.writes.now c.add_move.new.self _ (given_move c.args.writes.now c.add_move.new.self c.args.put.now.given.now _ c.in_ok-add_move-in-None.ensures.moves c.in_ok-add_move-in-None.ensures.rest.1) (other_writes c.args.writes.now c.add_move.new.self c.args.put.now.given.now c.in_ok-add_move-in-None.ensures.rest.0 c.in_ok-add_move-in-None.ensures.rest.1) (run_right old c.args.put.now.given.now c.args.put.now.at c.args.page 0 (c.args.page * 4096 - c.args.put.now.at) c.args.count c.args.put.now.size c.requires.begins (omega arith) c.requires.ends c.requires.stays) was

pub returns-in_ok-add_move-in-None-clause-named : goal.returns-in_ok-add_move-in-None-clause-named
returns-in_ok-add_move-in-None-clause-named c = λ p named.
    named_move c.args.writes.now c.add_move.new.self c.args.put.now.given.now _ p (given_move c.args.writes.now c.add_move.new.self c.args.put.now.given.now _ c.in_ok-add_move-in-None.ensures.moves c.in_ok-add_move-in-None.ensures.rest.1) (other_writes c.args.writes.now c.add_move.new.self c.args.put.now.given.now c.in_ok-add_move-in-None.ensures.rest.0 c.in_ok-add_move-in-None.ensures.rest.1)
    (run_named c.args.put.now.given.now c.args.page 0 (c.args.page * 4096 - c.args.put.now.at) c.args.count p (IsNamed c.args.writes.now c.args.put.now.given.now p) named)
