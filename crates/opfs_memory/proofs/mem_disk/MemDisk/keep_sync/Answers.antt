use Rattle.std.proofs.Common.{length, sym, ◌∙◌, ap, arith}
use Rattle.std.proofs.lemmas.List.{map_push, length_push}
use Rattle.std.proofs.lemmas.List.Elements.{All-push}
use Rattle.opfs_memory.specs.Drives.{Synced, replayed, Platter}
use Rattle.opfs_memory.specs.KeptEvents.{event_of, events, IsInside}
use Rattle.opfs_memory.specs.declared.mem_disk.Kept.TheVariants.{Sync}
use Rattle.opfs_memory.proofs.Keeping.{sizes, replayed_push, room_for}
use Rattle.opfs_memory.proofs.mem_disk.MemDisk.keep_sync.Goals as goal

pub copy_from_slice-requires : goal.copy_from_slice-requires
copy_from_slice-requires c =
    let size = sizes c.self.inside c.self.invariant in
    let value = ap length c.deref.ensures.value in
    let is = c.self.inside.synced.ok.0 in
    omega arith

pub invariant_of-self : goal.invariant_of-self
invariant_of-self c =
    let was = c.self.invariant in
    let pushed = rw c.unwrap.ensures at c.push.ensures.items in
    let room = rw (← c.self.view_is) at c.requires in
    let log = ap (λ log. events c.self.inside.bytes.items log) pushed ∙ map_push (event_of c.self.inside.bytes.items) c.self.inside.log.items Sync in
    let after = ap (λ log. replayed c.self.inside.first.items log) log ∙ replayed_push c.self.inside.first.items (events c.self.inside.bytes.items c.self.inside.log.items) Synced in
    record {
      content = was.content ∙ sym (ap (λ (p : Platter). p.content) after);
      synced = c.copy_from_slice.ensures.items ∙ c.deref.ensures.value ∙ was.content ∙ sym (ap (λ (p : Platter). p.synced) after);
      inside = rw pushed (All-push (IsInside (length c.self.inside.bytes.items) (length c.self.inside.first.items)) c.self.inside.log.items Sync was.inside (tt {0}));
      calls = omega (arith, ap length pushed, length_push c.self.inside.log.items Sync, (room_for c.self.inside 0 room).0);
      calls_fit = omega (arith, was.calls_fit, c.push.ensures.capacity);
      bytes = was.bytes;
      bytes_fit = was.bytes_fit;
    }
