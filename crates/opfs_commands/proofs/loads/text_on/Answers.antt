use Rattle.std.proofs.Common.{◌∙◌}
use Rattle.opfs_commands.proofs.Loading.{read_told, refused_told}
use Rattle.opfs_commands.proofs.loads.text_on.Goals as goal

pub returns-in-Ok-clause-read : goal.returns-in-Ok-clause-read
returns-in-Ok-clause-read g c = read_told g.D.Disk.tells _ _ c.dump_in.result (λ told. c.deref.ensures.value ∙ c.in-Ok.ensures.bytes told) c.dump_in.ensures.read

pub returns-in-Ok-clause-not : goal.returns-in-Ok-clause-not
returns-in-Ok-clause-not g c = refused_told g.D.Disk.tells _ _ _ _ c.dump_in.result (λ told. c.deref.ensures.value ∙ c.in-Ok.ensures.bytes told) c.dump_in.ensures.not
