use Rattle.std.proofs.Common.{List, Some, refl, sym, ap, ◌∙◌}
use Rattle.opfs_base.specs.Texts.{Text}
use Rattle.opfs_records.specs.Replay.Applying.{is_persistent, can_apply, applied}
use Rattle.opfs_records.specs.Replay.Replaying.{Replayed}
use Rattle.opfs_records.proofs.replay.Persistent.{again_at}
use Rattle.opfs_records.proofs.replay.Writable.{key_in}
use Rattle.opfs_records.proofs.replay.replay.Replay.persist.Goals as goal

pub returns-then-is_persistent : goal.returns-then-is_persistent
unfolding can_apply applied
returns-then-is_persistent c =
    let unit = c.args.unit in
    let there = ap (λ (r : Replayed). is_persistent r.built unit) c.self.view_is ∙ sym c.is_persistent.ensures ∙ c.if-is_persistent.true in
    let same = again_at unit c.self.inside.shed.buckets c.self.invariant.modes c.self.invariant.ordered there in
    (rw (← c.is_unit_in.ensures, c.if-not-is_unit_in.false, ← c.self.view_is) (ap (λ (us : List Text). Some (record { rows = c.self.inside.tree; persistent = us })) same), refl, refl)

pub with_persistent-requires-clause-key : goal.with_persistent-requires-clause-key
with_persistent-requires-clause-key c = key_in c.args.format c.args.unit c.requires (sym c.is_unit_in.ensures ∙ c.if-not-is_unit_in.false)
