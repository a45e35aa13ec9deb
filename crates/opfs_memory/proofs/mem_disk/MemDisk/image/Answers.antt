use Rattle.std.proofs.Common.{◌≡◌, ◌<◌, ◌≤◌, length, take, sym, ◌∙◌, ap, subst, arith}
use Rattle.std.specs.Prelude.{slice_index_or}
use Rattle.std.proofs.lemmas.List.{get_or-take, take-map, take_all, length-take-le, length-map}
use Rattle.opfs_memory.specs.Drives.{Drive, replayed, IsImageOf}
use Rattle.opfs_memory.specs.DriveLaws.{sound_replayed}
use Rattle.opfs_memory.specs.KeptEvents.{event_of, events}
use Rattle.opfs_memory.specs.declared.mem_disk.Kept.TheVariants.{Nothing}
use Rattle.opfs_memory.proofs.mem_disk.MemDisk.image.Goals as goal

pub crash_after-requires-clause-inside : goal.crash_after-requires-clause-inside
crash_after-requires-clause-inside c =
    let d = c.self.inside in
    let log = c.deref-3.ensures.value in
    let room = ap (λ (v : Drive). length v.log) c.self.view_is in
    let sound = sound_replayed d.first.items (events d.bytes.items (take c.loop-kept.kept-index (take c.args.calls c.deref-3.result.now))) in
    let size : length c.deref_mut.result.now ≡ length d.first.items = ap length (c.deref_mut.ensures.value ∙ c.loop-kept.invariant.reads) ∙ sound.content in
    let fits : c.args.calls ≤ length d.log.items = omega (arith, c.requires.kept, room, length-map d.log.items (event_of d.bytes.items)) in
    let taken = length-take-le c.args.calls c.deref-3.result.now (omega (arith, fits, ap length log)) in
    let below : c.loop-kept.kept-index < c.args.calls = omega (arith, c.loop-kept-test.true, taken) in
    let at : slice_index_or (take c.args.calls c.deref-3.result.now) c.loop-kept.kept-index Nothing ≡ slice_index_or d.log.items c.loop-kept.kept-index Nothing =
    get_or-take c.args.calls c.deref-3.result.now c.loop-kept.kept-index Nothing below ∙ ap (λ l. slice_index_or l c.loop-kept.kept-index Nothing) log in
    rw (size, ap length c.deref-in-loop-kept.ensures.value, at) (c.self.invariant.inside c.loop-kept.kept-index Nothing (omega (arith, below, fits)))

pub crash_after-requires-clause-image : goal.crash_after-requires-clause-image
crash_after-requires-clause-image c =
    let d = c.self.inside in
    let sound = sound_replayed d.first.items (events d.bytes.items (take c.loop-kept.kept-index (take c.args.calls c.deref-3.result.now))) in
    ap length c.deref_mut-in-loop-kept.ensures.value ∙ c.loop-kept.invariant.leaves.size ∙ sound.synced ∙ sym sound.content ∙ sym (ap length (c.deref_mut.ensures.value ∙ c.loop-kept.invariant.reads))

pub crash_after-requires-clause-whole : goal.crash_after-requires-clause-whole
crash_after-requires-clause-whole c =
    let d = c.self.inside in
    let sound = sound_replayed d.first.items (events d.bytes.items (take c.loop-kept.kept-index (take c.args.calls c.deref-3.result.now))) in
    c.requires.whole ∙ sym (ap (λ (v : Drive). length v.first) c.self.view_is) ∙ sym sound.content ∙ sym (ap length (c.deref_mut.ensures.value ∙ c.loop-kept.invariant.reads))

pub returns : goal.returns
returns c =
    let d = c.self.inside in
    let all = take_all c.loop-kept.kept-index (take c.args.calls c.deref-3.result.now) c.loop-kept-test.false in
    let log : take c.loop-kept.kept-index (take c.args.calls c.deref-3.result.now) ≡ take c.args.calls d.log.items = all ∙ ap (λ l. take c.args.calls l) c.deref-3.ensures.value in
    rw (← c.self.view_is) (subst (λ es. IsImageOf (replayed d.first.items es) c.args.choice.now c.loop-kept.image.items)
    (ap (λ l. events d.bytes.items l) log ∙ sym (take-map (event_of d.bytes.items) c.args.calls d.log.items)) c.loop-kept.invariant.leaves)
