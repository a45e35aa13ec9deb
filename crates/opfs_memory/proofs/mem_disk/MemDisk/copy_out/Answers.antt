use Rattle.std.proofs.Common.{length, ap, arith, rules}
use Rattle.opfs_memory.specs.Drives.{Drive}
use Rattle.opfs_memory.specs.Overwrites.{is_window}
use Rattle.opfs_memory.proofs.Keeping.{sizes}
use Rattle.opfs_memory.proofs.mem_disk.MemDisk.copy_out.Goals as goal

pub slice_bounds-copy_from_slice-end : goal.slice_bounds-copy_from_slice-end
slice_bounds-copy_from_slice-end c =
    let size = sizes c.self.inside c.self.invariant in
    let first = ap (λ (d : Drive). length d.first) c.self.view_is in
    let value = ap length c.deref.ensures.value in
    search rules

pub returns : goal.returns
returns c =
    let size = (sizes c.self.inside c.self.invariant).0 in
    let first = ap (λ (d : Drive). length d.first) c.self.view_is in
    rw (← c.self.view_is, ← c.self.invariant.content, ← c.copy_from_slice.ensures.len)
    (is_window c.args.at (length c.args.buf.now) _ _ c.self.inside.content.items _ (omega (arith, c.requires)) c.deref.ensures.value (omega arith) c.copy_from_slice.ensures.len c.copy_from_slice.ensures.after)
