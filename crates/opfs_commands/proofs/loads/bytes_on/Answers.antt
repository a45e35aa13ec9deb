use Rattle.std.proofs.Common.{◌∙◌, arith}
use Rattle.std.proofs.lemmas.List.{with_items_is}
use Rattle.opfs_commands.proofs.Loading.{both_ok, host_answered, no_dump_told, too_long, whole_window}
use Rattle.opfs_commands.proofs.loads.bytes_on.Goals as goal

pub returns-then-len-gt-MOST_BYTES-clause-not : goal.returns-then-len-gt-MOST_BYTES-clause-not
returns-then-len-gt-MOST_BYTES-clause-not g c =
    let laws = g.met.D.Disk in
    no_dump_told g.D.Disk.tells _ (g.D.Disk.content c.args.disk.now) _ c.no_dump.result (λ told. too_long (g.D.Disk.content c.args.disk.now) (omega (arith, laws.full told c.args.disk.now, c.len-len.ensures, c.if-len-gt-MOST_BYTES.true))) c.no_dump.ensures.end c.no_dump.ensures.text

pub returns-in-Ok-read-clause-bytes : goal.returns-in-Ok-read-clause-bytes
returns-in-Ok-read-clause-bytes g c = λ told.
    let laws = g.met.D.Disk in
    with_items_is c.in-Ok.bytes c.read.new.buf (c.read.auto.buf ∙ c.deref_mut.ensures.len) ∙ c.in-Ok-read.ensures.bytes told ∙ whole_window (g.D.Disk.content c.args.disk.now) _ (omega (arith, laws.full told c.args.disk.now, c.len-len.ensures, c.in-Ok.ensures, c.read.auto.buf))

pub returns-in-Err-clause-not : goal.returns-in-Err-clause-not
returns-in-Err-clause-not g c =
    host_answered g.D.Disk.tells _ _ _ c.host_answer.result c.in-Err.ensures.cause (both_ok _ _ c.host_answer.result c.host_answer.ensures.end c.host_answer.ensures.text)
