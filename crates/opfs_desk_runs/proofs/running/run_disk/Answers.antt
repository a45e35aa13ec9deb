use Rattle.opfs_desk_runs.proofs.Disks.{run-on}
use Rattle.opfs_desk_runs.proofs.running.run_disk.Goals as goal

pub returns-in-Ok-run_image-clause-run : goal.returns-in-Ok-run_image-clause-run
returns-in-Ok-run_image-clause-run g c =
    let laws = g.met.D.Disk g.world.𝓛 g.world.𝓜 g.world.𝓡 ((λ s x. x), (λ x. x), (λ x. x), λ x. x) in
    run-on g.D.Disk (λ t. laws.falls t) c.args.disk c.in-Ok.from c.args.scripts.now c.in-Ok-run_image.run' c.in-Ok.ensures.only_read c.in-Ok-run_image.ensures.run
