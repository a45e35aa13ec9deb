use Rattle.std.proofs.Common.{rules, sym, subst}
use Rattle.opfs_outside.specs.Turns.{of_host, of_sink, of_source, ReadWhole}
use Rattle.opfs_top.specs.Answers.{SourceRan}
use Rattle.opfs_top.specs.Doing.{most_bytes}
use Rattle.opfs_top.proofs.Running.{source_left, source_told}
use Rattle.opfs_top.proofs.Telling.{told_none, told_nothing}
use Rattle.opfs_top.proofs.run.run_script_at.Goals as goal

pub returns-in-Whole-clause-told : goal.returns-in-Whole-clause-told
returns-in-Whole-clause-told g c = source_told (of_source g.S.Source c.args.source.now c.read_all.new.source) (of_host g.H.Host c.args.host.now c.run_bytes.new.host) c.args.path.now c.as_slice.result.now (subst (λ b. ReadWhole (of_source g.S.Source c.args.source.now c.read_all.new.source) most_bytes b) (sym c.as_slice.ensures) c.in-Whole.ensures) (of_sink g.K.Sink c.args.sink.now c.run_bytes.new.sink) c.run_bytes.result c.run_bytes.ensures.told

pub returns-in-Whole-clause-left : goal.returns-in-Whole-clause-left
returns-in-Whole-clause-left g c = source_left (of_source g.S.Source c.args.source.now c.read_all.new.source) (of_host g.H.Host c.args.host.now c.run_bytes.new.host) c.args.path.now c.as_slice.result.now (subst (λ b. ReadWhole (of_source g.S.Source c.args.source.now c.read_all.new.source) most_bytes b) (sym c.as_slice.ensures) c.in-Whole.ensures) c.run_bytes.ensures.left

pub returns-in_err-text-clause-told : goal.returns-in_err-text-clause-told
returns-in_err-text-clause-told g c = told_none g.K.Sink c.args.sink.now _ _ c.from_residual.result c.from_residual.ensures.0

pub returns-clause-told : goal.returns-clause-told
returns-clause-told g c = told_nothing g.K.Sink c.args.sink.now _ (SourceRan (of_source g.S.Source c.args.source.now c.read_all.new.source) (of_host g.H.Host c.args.host.now c.args.host.now) c.args.path.now) (λ t x. x) _ (search rules)
