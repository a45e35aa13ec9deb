use Rattle.std.proofs.Common.{arith}
use Rattle.opfs_notebook.proofs.Going.{goes-then, made-then}
use Rattle.opfs_library_tests.proofs.pipe.example.fill.Goals as goal

pub save-requires-clause-few : goal.save-requires-clause-few
save-requires-clause-few g c = made-then c.args.agent.now c.write_at.new.agent 50000001 1 50000002 (omega arith) c.requires.few c.write_at.ensures.goes

pub give_up-requires-clause-few : goal.give_up-requires-clause-few
give_up-requires-clause-few g c = made-then c.args.agent.now c.write_at.new.agent 50000001 1 50000003 (omega arith) c.requires.few c.write_at.ensures.goes

pub returns-in-Ok-clause-goes : goal.returns-in-Ok-clause-goes
returns-in-Ok-clause-goes g c = goes-then c.args.agent.now c.write_at.new.agent c.save.new.agent 1 2 3 (omega arith) c.write_at.ensures.goes c.save.ensures.goes

pub returns-in-Err-clause-goes : goal.returns-in-Err-clause-goes
returns-in-Err-clause-goes g c = goes-then c.args.agent.now c.write_at.new.agent c.give_up.new.agent 1 1 3 (omega arith) c.write_at.ensures.goes c.give_up.ensures.goes
