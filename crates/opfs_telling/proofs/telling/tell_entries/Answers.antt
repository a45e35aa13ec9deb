use Rattle.std.proofs.Common.{sym, subst, ◌∙◌}
use Rattle.opfs_telling.proofs.Fronts.{HasSaid, all-said, none-said, one-said}
use Rattle.opfs_telling.proofs.telling.tell_entries.Goals as goal

pub loop-entry-init : goal.loop-entry-init
loop-entry-init g c =
    subst (λ x. HasSaid g.K.Sink c.args.sink.now c.args.sink.now c.args.progress.now c.args.progress.now c.args.entries.now x) (sym (c.into_iter-entry-iterator.ensures.into_iter_gives ∙ c.iter-entry-items.ensures))
    (none-said g.K.Sink c.args.sink.now c.args.progress.now c.args.entries.now)

pub loop-entry-preserved : goal.loop-entry-preserved
loop-entry-preserved g c =
    one-said g.K.Sink c.args.sink.now c.args.progress.now c.args.entries.now c.loop-entry.sink c.tell_entry.new.sink c.loop-entry.progress c.tell_entry.new.progress c.loop-entry.entry-iterator c.next.new.self c.in-Some.entry.now
    c.loop-entry.invariant c.in-Some.ensures.steps c.tell_entry.ensures.told c.tell_entry.ensures.count

pub returns : goal.returns
returns g c = record {
  told = all-said g.K.Sink c.args.sink.now c.args.progress.now c.args.entries.now c.loop-entry.sink c.loop-entry.progress c.loop-entry.entry-iterator c.loop-entry.invariant c.in-None.ensures.steps.0;
}
