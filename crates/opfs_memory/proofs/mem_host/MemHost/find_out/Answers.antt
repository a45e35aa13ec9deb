use Rattle.std.proofs.Common.{false, sym, ◌∙◌}
use Rattle.opfs_memory.specs.Shelves.{can_take}
use Rattle.opfs_memory.proofs.Shelving.{as_first, as_missing}
use Rattle.opfs_memory.proofs.mem_host.MemHost.find_out.Goals as goal

pub returns-else-is_out : goal.returns-else-is_out
returns-else-is_out c =
    as_first can_take c.args.path.now c.args.self.now.places c.in-Some.at false (sym c.in-Some.ensures) (sym c.is_out.ensures ∙ c.if-is_out.false)

pub returns-in-None : goal.returns-in-None
returns-in-None c = as_missing can_take c.args.path.now c.args.self.now.places (sym c.in-None.ensures)
