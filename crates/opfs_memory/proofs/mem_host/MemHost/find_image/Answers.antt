use Rattle.std.proofs.Common.{false, sym, ◌∙◌}
use Rattle.opfs_memory.specs.Shelves.{has_image}
use Rattle.opfs_memory.proofs.Shelving.{as_first, as_missing}
use Rattle.opfs_memory.proofs.mem_host.MemHost.find_image.Goals as goal

pub returns-else-has_image : goal.returns-else-has_image
returns-else-has_image c =
    as_first has_image c.args.path.now c.args.self.now.places c.in-Some.at false (sym c.in-Some.ensures) (sym c.has_image.ensures ∙ c.if-has_image.false)

pub returns-in-None : goal.returns-in-None
returns-in-None c = as_missing has_image c.args.path.now c.args.self.now.places (sym c.in-None.ensures)
