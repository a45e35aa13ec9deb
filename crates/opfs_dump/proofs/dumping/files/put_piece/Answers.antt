use Rattle.std.proofs.Common.{ℕ, ap, ◌∙◌}
use Rattle.opfs_outside.specs.Bytes.{window}
use Rattle.opfs_dump.specs.Dumping.Pieces.{digits_text}
use Rattle.opfs_dump.proofs.dumping.Putting.{read_failed, read_put}
use Rattle.opfs_dump.proofs.dumping.files.put_piece.Goals as goal

pub returns-in-Ok : goal.returns-in-Ok
returns-in-Ok g c =
    let laws = g.met.D.Disk in
    let e = c.in-Ok.ensures in
    read_put g.D.Disk g.K.Sink laws.falls c.args.journal.now c.get.new.self c.args.sink.now c.put_digits.new.sink _ _ c.put_digits.result (record {
      stays = e.stays;
      tail = e.tail;
      format = e.format;
      in_doubt = e.in_doubt;
      later = e.later;
      told = λ told. record { records = e.records told; doubt = e.doubt told; same = e.same told; time = e.time told; moments = e.moments told };
    }) (λ told. ap digits_text (e.bytes told ∙ ap (λ (n : ℕ). window (g.D.Disk.content c.args.journal.now.disk) c.args.at n) c.get.auto.into)) c.put_digits.ensures

pub returns-in-Err : goal.returns-in-Err
returns-in-Err g c =
    let laws = g.met.D.Disk in
    let e = c.in-Err.ensures in
    read_failed g.D.Disk g.K.Sink laws.falls c.args.journal.now c.get.new.self c.args.sink.now _ (record {
      stays = e.stays;
      tail = e.tail;
      format = e.format;
      in_doubt = e.in_doubt;
      later = e.later;
      told = λ told. record { records = e.records told; doubt = e.doubt told; same = e.same told; time = e.time told; moments = e.moments told };
    }) e.cause
