use Rattle.std.proofs.Common.{◌≡◌, ◌+◌, ◌≤◌, length, sym, ◌∙◌, ap, subst, arith}
use Rattle.std.proofs.lemmas.List.{length_push, length-append, with_items_is}
use Rattle.opfs_memory.specs.Drives.{Drive, Wrote, over, after_event, replayed, Platter}
use Rattle.opfs_memory.specs.KeptEvents.{events}
use Rattle.opfs_memory.specs.KeptCalls.{drive_of}
use Rattle.opfs_memory.specs.declared.mem_disk.Kept.TheVariants.{Write}
use Rattle.opfs_memory.proofs.Keeping.{sizes, is_over, log_after, after_write, inside_after, room_for, same_drive}
use Rattle.opfs_memory.proofs.mem_disk.MemDisk.keep_write.Goals as goal

pub overwrite-requires : goal.overwrite-requires
overwrite-requires c =
    let size = sizes c.self.inside c.self.invariant in
    let value = ap length c.deref_mut.ensures.value in
    let first = ap (λ (d : Drive). length d.first) c.self.view_is in
    omega (arith, c.requires.fits)

pub invariant_of-self-else-done : goal.invariant_of-self-else-done
invariant_of-self-else-done c =
    let d = c.self.inside in
    let was = c.self.invariant in
    let first = ap (λ (d : Drive). length d.first) c.self.view_is in
    let fits : c.args.at + length c.args.bytes.now ≤ length d.first.items = omega (arith, c.requires.fits) in
    let room = room_for d (length c.args.bytes.now) (rw (← c.self.view_is) at c.requires.room) in
    let more = rw c.unwrap.ensures at c.extend_from_slice.ensures.items in
    let pushed = rw c.unwrap-2.ensures at c.push.ensures.items in
    let from : c.len-start.result ≡ length d.bytes.items = omega (arith, c.len-start.ensures, d.bytes.ok.0) in
    let after = after_write d was c.args.at c.len-start.result c.args.bytes.now c.args.done c.extend_from_slice.new.self.items c.push.new.self.items from more pushed fits in
    let done = c.if-done.false in
    record {
      content = was.content ∙ sym (ap (λ (p : Platter). p.content) (subst (λ b. replayed d.first.items (events c.extend_from_slice.new.self.items c.push.new.self.items) ≡ after_event (replayed d.first.items (events d.bytes.items d.log.items)) (Wrote c.args.at c.args.bytes.now b)) done after));
      synced = was.synced ∙ sym (ap (λ (p : Platter). p.synced) after);
      inside = inside_after d was c.args.at c.len-start.result c.args.bytes.now c.args.done c.extend_from_slice.new.self.items c.push.new.self.items from more pushed fits;
      calls = omega (arith, ap length pushed, length_push d.log.items (Write c.args.at c.len-start.result (length c.args.bytes.now) c.args.done), room.0);
      calls_fit = omega (arith, was.calls_fit, c.push.ensures.capacity);
      bytes = omega (arith, ap length more, length-append d.bytes.items c.args.bytes.now, room.1);
      bytes_fit = omega (arith, was.bytes_fit, c.extend_from_slice.ensures.capacity);
    }

pub invariant_of-self : goal.invariant_of-self
invariant_of-self c =
    let d = c.self.inside in
    let was = c.self.invariant in
    let first = ap (λ (d : Drive). length d.first) c.self.view_is in
    let fits : c.args.at + length c.args.bytes.now ≤ length d.first.items = omega (arith, c.requires.fits) in
    let room = room_for d (length c.args.bytes.now) (rw (← c.self.view_is) at c.requires.room) in
    let more = rw c.unwrap.ensures at c.extend_from_slice.ensures.items in
    let pushed = rw c.unwrap-2.ensures at c.push.ensures.items in
    let from : c.len-start.result ≡ length d.bytes.items = omega (arith, c.len-start.ensures, d.bytes.ok.0) in
    let after = after_write d was c.args.at c.len-start.result c.args.bytes.now c.args.done c.extend_from_slice.new.self.items c.push.new.self.items from more pushed fits in
    let done = c.if-done.true in
    record {
      content = with_items_is d.content c.overwrite.new.all (c.overwrite.ensures.size ∙ c.deref_mut.ensures.len)
          ∙ is_over c.args.at c.args.bytes.now c.deref_mut.result.now c.overwrite.new.all (omega (arith, fits, ap length c.deref_mut.ensures.value, sizes d was)) c.overwrite.ensures
          ∙ ap (λ c'. over c' c.args.at c.args.bytes.now) (c.deref_mut.ensures.value ∙ was.content)
          ∙ sym (ap (λ (p : Platter). p.content) (subst (λ b. replayed d.first.items (events c.extend_from_slice.new.self.items c.push.new.self.items) ≡ after_event (replayed d.first.items (events d.bytes.items d.log.items)) (Wrote c.args.at c.args.bytes.now b)) done after));
      synced = was.synced ∙ sym (ap (λ (p : Platter). p.synced) after);
      inside = inside_after d was c.args.at c.len-start.result c.args.bytes.now c.args.done c.extend_from_slice.new.self.items c.push.new.self.items from more pushed fits;
      calls = omega (arith, ap length pushed, length_push d.log.items (Write c.args.at c.len-start.result (length c.args.bytes.now) c.args.done), room.0);
      calls_fit = omega (arith, was.calls_fit, c.push.ensures.capacity);
      bytes = omega (arith, ap length more, length-append d.bytes.items c.args.bytes.now, room.1);
      bytes_fit = omega (arith, was.bytes_fit, c.extend_from_slice.ensures.capacity);
    }

pub returns-else-done : goal.returns-else-done
returns-else-done c =
    let d = c.self.inside in
    let first = ap (λ (d : Drive). length d.first) c.self.view_is in
    let fits : c.args.at + length c.args.bytes.now ≤ length d.first.items = omega (arith, c.requires.fits) in
    let more = rw c.unwrap.ensures at c.extend_from_slice.ensures.items in
    let pushed = rw c.unwrap-2.ensures at c.push.ensures.items in
    let from : c.len-start.result ≡ length d.bytes.items = omega (arith, c.len-start.ensures, d.bytes.ok.0) in
    rw (← c.self.view_is) (same_drive (drive_of d) _ _ _ _
    (log_after d c.self.invariant c.args.at c.len-start.result c.args.bytes.now c.args.done c.extend_from_slice.new.self.items c.push.new.self.items from more pushed fits)
    (ap length more ∙ length-append d.bytes.items c.args.bytes.now))

pub returns-then-done : goal.returns-then-done
returns-then-done c =
    let d = c.self.inside in
    let first = ap (λ (d : Drive). length d.first) c.self.view_is in
    let fits : c.args.at + length c.args.bytes.now ≤ length d.first.items = omega (arith, c.requires.fits) in
    let more = rw c.unwrap.ensures at c.extend_from_slice.ensures.items in
    let pushed = rw c.unwrap-2.ensures at c.push.ensures.items in
    let from : c.len-start.result ≡ length d.bytes.items = omega (arith, c.len-start.ensures, d.bytes.ok.0) in
    rw (← c.self.view_is) (same_drive (drive_of d) _ _ _ _
    (log_after d c.self.invariant c.args.at c.len-start.result c.args.bytes.now c.args.done c.extend_from_slice.new.self.items c.push.new.self.items from more pushed fits)
    (ap length more ∙ length-append d.bytes.items c.args.bytes.now))
