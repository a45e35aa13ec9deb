use Rattle.std.proofs.Common.{◌+◌, ◌<◌, inl, inr, sym, ◌∙◌, ap, subst, arith}
use Rattle.std.specs.Prelude.{Ok, Err}
use Rattle.std.proofs.lemmas.Result.{err_from_is_err_and}
use Rattle.opfs_journal.specs.Format.{is_open, number_at}
use Rattle.opfs_journal.proofs.Walks.{only_more}
use Rattle.opfs_image.proofs.Yielding.{yields_shut, yields_long, record_bad, record_more}
use Rattle.opfs_image.proofs.records.replay_records.Goals as goal

pub returns-in_err-len-clause-only : goal.returns-in_err-len-clause-only
returns-in_err-len-clause-only g c =
    let laws = g.met.D.Disk in
    only_more g.D.Disk laws.falls c.args.disk.now c.gates.disk c.read_record.new.disk c.gates.invariant.only c.read_record.ensures.only

pub returns-in_err-len-clause-refused : goal.returns-in_err-len-clause-refused
returns-in_err-len-clause-refused g c =
    let p = err_from_is_err_and c.from_residual.result c.from_residual.ensures.1 in
    let at = c.gates.invariant in
    rw (p.1, p.2) (elim c.in_err-len.ensures.refused [
      | inl fault ↦ inl fault
      | inr (inl memory) ↦ inr (inl memory)
      | inr (inr bad) ↦ inr (inr (
        c.gates.gate,
        bad.0,
        λ told.
            let same = (at.only.told told).same in
            let long = bad.1 told in
            at.on told (Err c.gates.gate) (yields_long c.args.format c.args.replay.size (g.D.Disk.content c.args.disk.now) c.args.stop c.gates.skip c.gates.gate c.gates.replay.built at.inside
            (ap (λ c'. is_open c' c.gates.gate) (sym same) ∙ long.opened) (subst (λ c'. c.args.stop < c.gates.gate + 6 + number_at c' (c.gates.gate + 1)) same long.past)),
      ))
    ])

pub returns-in_default-clause-only : goal.returns-in_default-clause-only
returns-in_default-clause-only g c =
    let laws = g.met.D.Disk in
    only_more g.D.Disk laws.falls c.args.disk.now c.gates.disk c.read_record.new.disk c.gates.invariant.only c.read_record.ensures.only

pub returns-in_default-clause-built : goal.returns-in_default-clause-built
returns-in_default-clause-built g c = λ told.
    let at = c.gates.invariant in
    let same = (at.only.told told).same in
    let shut = rw c.in_default.is at (c.in_ok-len.ensures.shut told) in
    at.on told (Ok c.gates.replay.built) (yields_shut c.args.format c.args.replay.size (g.D.Disk.content c.args.disk.now) c.args.stop c.gates.skip c.gates.gate c.gates.replay.built at.inside (ap (λ c'. is_open c' c.gates.gate) (sym same) ∙ shut))

pub returns-in_err-replay-clause-only : goal.returns-in_err-replay-clause-only
returns-in_err-replay-clause-only g c =
    let laws = g.met.D.Disk in
    only_more g.D.Disk laws.falls c.args.disk.now c.gates.disk c.read_record.new.disk c.gates.invariant.only c.read_record.ensures.only

pub returns-in_err-replay-clause-refused : goal.returns-in_err-replay-clause-refused
returns-in_err-replay-clause-refused g c =
    let p = err_from_is_err_and c.from_residual-in_err-replay.result c.from_residual-in_err-replay.ensures.1 in
    let at = c.gates.invariant in
    let bytes_is = rw c.deref.ensures.value at c.behind.ensures in
    let record_is = rw c.in-Some.is at c.in_ok-len.ensures.record in
    let fits = rw c.in-Some.is at c.in_ok-len.ensures.fits in
    rw (p.1, p.2) (elim c.in_err-replay.ensures.refused [
      | inl memory ↦ inr (inl memory)
      | inr bad ↦ inr (inr (
        c.gates.gate,
        bad.0,
        λ told.
            at.on told (Err c.gates.gate) (record_bad c.args.format c.args.replay.size (g.D.Disk.content c.args.disk.now) (g.D.Disk.content c.gates.disk) (at.only.told told).same c.args.stop c.gates.skip c.gates.gate c.gates.replay.built at.inside
            c.in-Some.len c.read_record.new.buffer.items c.behind.result.now (record_is told) fits bytes_is c.gates.replay.size at.size bad.1),
      ))
    ])

pub gates-preserved : goal.gates-preserved
gates-preserved g c =
    let laws = g.met.D.Disk in
    let at = c.gates.invariant in
    let bytes_is = rw c.deref.ensures.value at c.behind.ensures in
    let record_is = rw c.in-Some.is at c.in_ok-len.ensures.record in
    let fits = rw c.in-Some.is at c.in_ok-len.ensures.fits in
    record {
      inside = omega (arith, fits);
      lies = omega (arith, at.lies, c.read_record.ensures.only.length);
      only = only_more g.D.Disk laws.falls c.args.disk.now c.gates.disk c.read_record.new.disk at.only c.read_record.ensures.only;
      size = c.in_ok-replay.ensures.same.0 ∙ at.size;
      quota = c.in_ok-replay.ensures.same.1 ∙ at.quota;
      on = λ told r then_yields. at.on told r (record_more c.args.format c.args.replay.size (g.D.Disk.content c.args.disk.now) (g.D.Disk.content c.gates.disk) (at.only.told told).same c.args.stop c.gates.skip c.gates.gate c.gates.replay.built at.inside
          c.in-Some.len c.read_record.new.buffer.items c.behind.result.now (record_is told) fits bytes_is c.gates.replay.size at.size c.in_ok-replay.replay.built r c.in_ok-replay.ensures.built then_yields);
    }
