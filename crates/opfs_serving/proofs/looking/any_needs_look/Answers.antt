use Rattle.std.proofs.Common.{◌≡◌, ◌∙◌, Some, arith, length, refl, sym}
use Rattle.std.specs.Prelude.{slice_get}
use Rattle.std.proofs.lemmas.Option.{slice_get_read}
use Rattle.opfs_serving.proofs.Quiet.{rest-all, rest-at, rest-more}
use Rattle.opfs_serving.proofs.looking.any_needs_look.Goals as goal

pub returns-then-needs_look-clause-look : goal.returns-then-needs_look-clause-look
returns-then-needs_look-clause-look g c = λ none.
    let at : slice_get c.args.seats.now c.loop-place.place ≡ Some c.index-seats-place.result = slice_get_read c.args.seats.now (length c.args.seats.now) c.loop-place.place _ refl (omega arith) c.index-seats-place.is in
    sym c.if-needs_look.true
    ∙ c.needs_look.ensures.look
    (rest-at (g.S.Store.opened (g.S.Chronicle.opening c.args.store.now)) (g.S.Chronicle.entries c.args.store.now) c.args.seats.now c.loop-place.place _ c.index-seats-place.result at (omega arith) none)

pub loop-place-preserved : goal.loop-place-preserved
loop-place-preserved g c =
    let at : slice_get c.args.seats.now c.loop-place.place ≡ Some c.index-seats-place.result = slice_get_read c.args.seats.now (length c.args.seats.now) c.loop-place.place _ refl (omega arith) c.index-seats-place.is in
    rest-more (g.S.Store.opened (g.S.Chronicle.opening c.args.store.now)) (g.S.Chronicle.entries c.args.store.now) c.args.seats.now c.loop-place.place c.index-seats-place.result at c.loop-place.invariant (c.needs_look.ensures.rest c.if-needs_look.false)

pub returns-clause-rest : goal.returns-clause-rest
returns-clause-rest g c = λ e.
    rest-all (g.S.Store.opened (g.S.Chronicle.opening c.args.store.now)) (g.S.Chronicle.entries c.args.store.now) c.args.seats.now c.loop-place.place (omega arith) c.loop-place.invariant
