use Rattle.std.proofs.Common.{◌≡◌, Some, [], map}
use Rattle.opfs_memory.proofs.mem_host.MemHost.make.Given as goal

abbrev pub invariant-loop-path : goal.invariant-loop-path
invariant-loop-path l = l.places.items ≡ map (λ image. record { path = image.0.items; image = Some image.1.items; given = []; out = 0 }) l.yielded
