use Rattle.opfs_desk_runs.proofs.Disks.{run-on}
use Rattle.opfs_desk_runs.proofs.told.tell_disk.Goals as goal

pub returns-in-Ok-tell_image-clause-run : goal.returns-in-Ok-tell_image-clause-run
returns-in-Ok-tell_image-clause-run g c =
    let laws = g.met.D.Disk g.world.𝓛 g.world.𝓜 g.world.𝓡 ((λ s x. x), (λ x. x), (λ x. x), λ x. x) in
    let told = c.in-Ok-tell_image in
    run-on g.D.Disk (λ t. laws.falls t) c.args.disk c.in-Ok.from c.args.scripts.now told.told.run c.in-Ok.ensures.only_read told.ensures.run
