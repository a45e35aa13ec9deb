use Rattle.std.proofs.Common.{length, arith}
use Rattle.opfs_memory.specs.Overwrites.{is_window}
use Rattle.opfs_memory.proofs.Lengthened.{read-out, reaches, stays}
use Rattle.opfs_memory.proofs.ram_disk.RamDiskDisk.read.Goals as goal

pub returns-clause-bytes : goal.returns-clause-bytes
returns-clause-bytes c =
    read-out c.self.inside.len c.self.inside.bytes.items c.args.self.now c.self.invariant.0 c.self.view_is c.args.at (length c.args.buf.now) c.requires c.lengthen.new.all.items c.lengthen.ensures.items
    c.copy_from_slice.new.self (omega arith)
    (is_window c.args.at (length c.args.buf.now) _ _ c.lengthen.new.all.items _
    (reaches c.self.inside.len c.self.inside.bytes.items c.args.self.now c.self.invariant.0 c.self.view_is c.args.at (length c.args.buf.now) c.requires c.lengthen.new.all.items c.lengthen.ensures.items)
    c.deref.ensures.value (omega arith) c.copy_from_slice.ensures.len c.copy_from_slice.ensures.after)

pub returns-clause-same : goal.returns-clause-same
returns-clause-same c =
    stays c.self.inside.len c.self.inside.bytes.items c.args.self.now c.self.invariant.0 c.self.view_is c.args.at (length c.args.buf.now) c.requires c.lengthen.new.all.items c.lengthen.ensures.items
