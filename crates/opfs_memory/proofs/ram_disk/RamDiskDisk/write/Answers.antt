use Rattle.std.proofs.Common.{◌≡◌, ◌∙◌, List, length, refl, subst}
use Rattle.std.proofs.lemmas.List.{with_items_is}
use Rattle.opfs_memory.specs.Disks.{Overwritten}
use Rattle.opfs_memory.proofs.Lengthened.{write-in}
use Rattle.opfs_memory.proofs.ram_disk.RamDiskDisk.write.Goals as goal

pub returns-clause-written : goal.returns-clause-written
returns-clause-written c =
    let count : length c.overwrite.new.all ≡ c.lengthen.new.all.len = c.overwrite.ensures.size ∙ c.deref_mut.ensures.len in
    rw (with_items_is c.lengthen.new.all c.overwrite.new.all count)
    (write-in c.self.inside.len c.self.inside.bytes.items c.args.self.now c.self.invariant.0 c.self.view_is c.args.at (length c.args.bytes.now) c.requires c.lengthen.new.all.items c.lengthen.ensures.items
    c.args.bytes.now c.overwrite.new.all refl (subst (λ (xs : List _). Overwritten c.args.at c.args.bytes.now xs c.overwrite.new.all) c.deref_mut.ensures.value c.overwrite.ensures))
