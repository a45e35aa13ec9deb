use Rattle.std.proofs.Common.{inl, inr, sym, ◌∙◌, ap}
use Rattle.std.specs.Prelude.{Ok, Err}
use Rattle.std.proofs.lemmas.Result.{err_from_is_err_and}
use Rattle.opfs_image.proofs.Yielding.{area_is}
use Rattle.opfs_image.proofs.reading.rebuild.Goals as goal

pub returns-in_err-replay-clause-refused : goal.returns-in_err-replay-clause-refused
returns-in_err-replay-clause-refused g c =
    let p = err_from_is_err_and c.from_residual-in_err-replay.result c.from_residual-in_err-replay.ensures.1 in
    let n = c.in_ok-nothing.ensures in
    rw (p.1, p.2) (elim c.in_err-replay.ensures.refused [
      | inl fault ↦ inl fault
      | inr (inl memory) ↦ inr (inl memory)
      | inr (inr bad) ↦ inr (inr (
        bad.0,
        bad.1,
        λ told.
            area_is c.args.wanted c.args.geometry.blocks c.in_ok-nothing.nothing.size (g.D.Disk.content c.args.disk.now) c.journal_areas-areas.result _ c.args.second c.begin-begin.result c.in_ok-nothing.nothing.built (Err bad.0)
            c.journal_areas-areas.ensures c.begin-begin.ensures (ap (λ r. r.size) n) (ap (λ r. r.built) n) (bad.2 told),
      ))
    ])

pub returns-clause-built : goal.returns-clause-built
returns-clause-built g c = λ told.
    let n = c.in_ok-nothing.ensures in
    area_is c.args.wanted c.args.geometry.blocks c.in_ok-nothing.nothing.size (g.D.Disk.content c.args.disk.now) c.journal_areas-areas.result _ c.args.second c.begin-begin.result c.in_ok-nothing.nothing.built (Ok c.in_ok-replay.replay.built)
    c.journal_areas-areas.ensures c.begin-begin.ensures (ap (λ r. r.size) n) (ap (λ r. r.built) n) (c.in_ok-replay.ensures.built told)
    ∙ (λ i. Ok (record { rows = (sym c.in_ok-all.ensures.rows) i; persistent = (sym c.in_ok-all.ensures.shared.persistent) i }))
