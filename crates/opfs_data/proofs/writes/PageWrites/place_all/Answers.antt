use Rattle.std.proofs.Common.{List, length, vec_capacity, sym, ap, subst, ◌∙◌}
use Rattle.std.specs.List.{AllByRecursion}
use Rattle.opfs_data.specs.Writes.{Run, WriteList, writes_of, HasBytes, AreWithin, IsOwnWithin}
use Rattle.opfs_data.proofs.PlacingLemmas.{runs_length}
use Rattle.opfs_data.proofs.writes.PageWrites.place_all.Goals as goal

pub place_runs-requires-clause-blocks : goal.place_runs-requires-clause-blocks
place_runs-requires-clause-blocks c = λ own given.
    ap (λ (rs : List Run). length (writes_of own given rs)) (c.deref.ensures.value ∙ ap (λ (w : WriteList). w.moves) c.self.view_is)
    ∙ runs_length own given c.args.self.now.own given c.args.self.now.moves ∙ c.requires.blocks given

pub invariant_of-self : goal.invariant_of-self
invariant_of-self c = (
  c.place_runs.ensures.own c.self.inside.own.items c.self.invariant.0 (subst (AllByRecursion (IsOwnWithin c.self.inside.own.items)) (sym c.deref.ensures.value) c.self.invariant.1),
  subst (AllByRecursion (IsOwnWithin c.self.inside.own.items)) (sym c.clear.ensures.items) tt,
)

pub returns-clause-bytes : goal.returns-clause-bytes
returns-clause-bytes c = λ given has.
    let was : HasBytes (record { runs = c.self.inside.runs.items; moves = c.self.inside.moves.items; own = c.self.inside.own.items; room = vec_capacity c.self.inside.runs }) given =
    rw (← c.self.view_is) at has in
    record {
      runs = c.place_runs.ensures.within c.self.inside.own.items given was.runs (subst (AreWithin c.self.inside.own.items given) (sym c.deref.ensures.value) was.moves);
      moves = subst (AreWithin c.self.inside.own.items given) (sym c.clear.ensures.items) tt;
    }
