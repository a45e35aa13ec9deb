use Rattle.opfs_serve_runs.proofs.Held.{served-on}
use Rattle.opfs_serve_runs.proofs.disk.serve_disk.Goals as goal

pub returns-in-Ok-serve_image-clause-served : goal.returns-in-Ok-serve_image-clause-served
returns-in-Ok-serve_image-clause-served g c =
    served-on g.D.Disk g.P.Port.tells g.P.Port.said c.args.agents.now c.args.port.now c.serve_image.new.port c.in-Ok.from c.in-Ok-serve_image.served.run c.in-Ok-serve_image.served.state (λ t. g.met.D.Disk.falls t) c.args.disk
    c.in-Ok.ensures.only_read c.in-Ok-serve_image.ensures.served
