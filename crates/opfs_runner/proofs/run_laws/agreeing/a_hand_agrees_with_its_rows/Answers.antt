use Rattle.opfs_runner.proofs.run_laws.Stepped.{agree}
use Rattle.opfs_runner.proofs.run_laws.agreeing.a_hand_agrees_with_its_rows.Goals as goal

pub returns : goal.returns
returns c = agree
