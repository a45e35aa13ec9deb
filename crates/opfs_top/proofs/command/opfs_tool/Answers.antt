use Rattle.opfs_outside.specs.Turns.{of_host}
use Rattle.opfs_top.proofs.Telling.{cause_as, cut_as, front_as, never_as, puts_as, sink_after}
use Rattle.opfs_top.specs.declared.status.Status.TheVariants as status
use Rattle.opfs_top.proofs.Made.{leaves_wider, unmade_none, unmade_status}
use Rattle.opfs_top.proofs.command.opfs_tool.Goals as goal

pub returns-in_default-clause-memory : goal.returns-in_default-clause-memory
returns-in_default-clause-memory g c = λ is. record { front = c.answer_tool.ensures.told.front; took = c.answer_tool.ensures.told.took; begun = c.answer_tool.ensures.told.begun }

pub returns-in-Ok-put_all-clause-done : goal.returns-in-Ok-put_all-clause-done
returns-in-Ok-put_all-clause-done g c = λ is. puts_as g.K.Sink c.args.sink.now c.answer_tool.new.sink c.put_all.new.sink _ _ c.answer_tool.result c.answer_tool.ensures.told c.in-Ok.field-0 c.in-Ok.is _ c.as_slice.ensures status.Done (λ x. cc x) c.in-Ok-put_all.ensures.ok is

pub returns-in-Ok-put_all-clause-usage : goal.returns-in-Ok-put_all-clause-usage
returns-in-Ok-put_all-clause-usage g c = λ is. puts_as g.K.Sink c.args.sink.now c.answer_tool.new.sink c.put_all.new.sink _ _ c.answer_tool.result c.answer_tool.ensures.told c.in-Ok.field-0 c.in-Ok.is _ c.as_slice.ensures status.Usage (λ x. cc x) c.in-Ok-put_all.ensures.ok is

pub returns-in-Ok-put_all-clause-image : goal.returns-in-Ok-put_all-clause-image
returns-in-Ok-put_all-clause-image g c = λ is. puts_as g.K.Sink c.args.sink.now c.answer_tool.new.sink c.put_all.new.sink _ _ c.answer_tool.result c.answer_tool.ensures.told c.in-Ok.field-0 c.in-Ok.is _ c.as_slice.ensures status.Image (λ x. cc x) c.in-Ok-put_all.ensures.ok is

pub returns-in-Ok-put_all-clause-host : goal.returns-in-Ok-put_all-clause-host
returns-in-Ok-put_all-clause-host g c = λ is. puts_as g.K.Sink c.args.sink.now c.answer_tool.new.sink c.put_all.new.sink _ _ c.answer_tool.result c.answer_tool.ensures.told c.in-Ok.field-0 c.in-Ok.is _ c.as_slice.ensures status.Host (λ x. cc x) c.in-Ok-put_all.ensures.ok is

pub returns-in-Ok-put_all-clause-sink : goal.returns-in-Ok-put_all-clause-sink
returns-in-Ok-put_all-clause-sink g c = λ is. front_as g.K.Sink c.args.sink.now c.answer_tool.new.sink c.put_all.new.sink _ _ c.answer_tool.result c.answer_tool.ensures.told c.in-Ok.field-0 c.in-Ok.is _ c.as_slice.ensures _ (λ e t x. record { status = e; ended = x }) c.in-Ok-put_all.ensures.ok is

pub returns-in-Ok-put_all-clause-sink_cause : goal.returns-in-Ok-put_all-clause-sink_cause
returns-in-Ok-put_all-clause-sink_cause g c = λ is. cause_as g.K.Sink c.args.sink.now c.answer_tool.new.sink c.put_all.new.sink _ _ c.answer_tool.result c.answer_tool.ensures.told c.in-Ok.field-0 c.in-Ok.is _ c.as_slice.ensures c.put_all.ensures.later (g.met.K.Sink.counted _) is

pub returns-in-Ok-put_all-clause-memory : goal.returns-in-Ok-put_all-clause-memory
returns-in-Ok-put_all-clause-memory g c = λ is. absurd (never_as g.K.Sink c.args.sink.now c.answer_tool.new.sink c.put_all.new.sink _ _ c.answer_tool.result c.answer_tool.ensures.told c.in-Ok.field-0 c.in-Ok.is _ c.as_slice.ensures status.Memory (λ x. cc x) is)

pub returns-in-Ok-put_all-clause-no_script : goal.returns-in-Ok-put_all-clause-no_script
returns-in-Ok-put_all-clause-no_script g c = λ is. absurd (never_as g.K.Sink c.args.sink.now c.answer_tool.new.sink c.put_all.new.sink _ _ c.answer_tool.result c.answer_tool.ensures.told c.in-Ok.field-0 c.in-Ok.is _ c.as_slice.ensures status.Script (λ x. cc x) is)

pub returns-in-Ok-put_all-clause-no_source : goal.returns-in-Ok-put_all-clause-no_source
returns-in-Ok-put_all-clause-no_source g c = λ is. absurd (never_as g.K.Sink c.args.sink.now c.answer_tool.new.sink c.put_all.new.sink _ _ c.answer_tool.result c.answer_tool.ensures.told c.in-Ok.field-0 c.in-Ok.is _ c.as_slice.ensures status.Source (λ x. cc x) is)

pub returns-clause-sink : goal.returns-clause-sink
returns-clause-sink g c = λ is. cut_as g.K.Sink c.args.sink.now c.answer_tool.new.sink c.put_all.new.sink _ _ c.answer_tool.result c.answer_tool.ensures.told c.in-Ok.field-0 c.in-Ok.is _ c.as_slice.ensures _ (λ e t x. record { status = e; ended = x }) c.in-Err.ensures.err

pub returns-clause-sink_cause : goal.returns-clause-sink_cause
returns-clause-sink_cause g c = λ is. sink_after g.K.Sink c.args.sink.now c.answer_tool.new.sink c.put_all.new.sink c.answer_tool.ensures.later c.in-Err.ensures.cause

pub returns-in_default-clause-made : goal.returns-in_default-clause-made
returns-in_default-clause-made g c = λ told path is. leaves_wider (of_host g.H.Host c.args.host.now c.answer_tool.new.host) path _ _ _ _ (λ d made. made) (λ u. unmade_none c.answer_tool.result c.in_default.not-Ok) (c.answer_tool.ensures.made told path is)

pub returns-in-Ok-put_all-clause-made : goal.returns-in-Ok-put_all-clause-made
returns-in-Ok-put_all-clause-made g c = λ told path is. leaves_wider (of_host g.H.Host c.args.host.now c.answer_tool.new.host) path _ _ _ _ (λ d made. made) (λ u. unmade_status c.answer_tool.result c.in-Ok.field-0 c.in-Ok.is u) (c.answer_tool.ensures.made told path is)

pub returns-clause-made : goal.returns-clause-made
returns-clause-made g c = λ told path is. leaves_wider (of_host g.H.Host c.args.host.now c.answer_tool.new.host) path _ _ _ _ (λ d made. made) (λ u. absurd u) (c.answer_tool.ensures.made told path is)
