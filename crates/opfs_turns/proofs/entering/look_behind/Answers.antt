use Rattle.std.proofs.Common.{◌≡◌, ◌⊎◌, [], append-nil, refl, sym, ap, ◌∙◌}
use Rattle.std.proofs.lemmas.List.Elements.{All-nil}
use Rattle.opfs_hall.specs.Seen.{at_rest}
use Rattle.opfs_turns.specs.Agents.{IsAgent, seen}
use Rattle.opfs_turns.specs.Calls.{HasLooked}
use Rattle.opfs_turns.proofs.Acted.{unacted}
use Rattle.opfs_turns.proofs.entering.look_behind.Given.{Over}
use Rattle.opfs_turns.proofs.entering.look_behind.Goals as goal
use Rattle.opfs_turns.proofs.entering.look_behind.Goals.{After-leave}

pub leave-requires-clause-adds : goal.leave-requires-clause-adds
leave-requires-clause-adds g c = (
  [],
  ap (λ p. p.base) (sym c.enter_behind-turn.ensures.pass) ∙ sym (append-nil c.enter_behind-turn.new.pass.base),
  All-nil (λ e. (g.S.Chronicle.owner e ≡ c.enter_behind-turn.new.pass.agent) ⊎ (g.S.Chronicle.owner e ≡ 0)),
)

-- What the turn leaves.
left : (g : Over) (c : After-leave g) → IsAgent g.S.Store.tells (seen g.S.Store.opened c.leave.new.pass c.args.caller.now.notes)
    × HasLooked (seen g.S.Store.opened c.args.caller.now.pass c.args.caller.now.notes) (seen g.S.Store.opened c.leave.new.pass c.args.caller.now.notes)
left g c =
    unacted g.S.Store.tells g.S.Store.opened c.args.caller.now.pass c.args.caller.now.notes g.S.Chronicle.owner g.met.S.Store.owned c.requires.agent
    (g.S.Store.opened (g.S.Chronicle.opening c.enter_behind-turn.result.value)) (ap g.S.Store.opened (c.enter_behind-turn.ensures.opening ∙ ap (λ h. h.opening) (sym c.requires.own)))
    (g.S.Chronicle.entries c.enter_behind-turn.result.value) c.enter_behind-turn.ensures.grows c.know_legal.ensures
    (g.S.Chronicle.entries c.enter_behind-turn.result.value) refl
    c.leave.new.pass (c.leave.ensures ∙ ap (λ p. at_rest p (g.S.Chronicle.entries c.enter_behind-turn.result.value)) c.enter_behind-turn.ensures.pass)
    c.args.caller.now.notes.pending refl

pub returns-clause-agent : goal.returns-clause-agent
returns-clause-agent g c = (left g (goal.at.returns-clause-agent g c).After-leave).0

pub returns-clause-looked : goal.returns-clause-looked
returns-clause-looked g c = (left g (goal.at.returns-clause-looked g c).After-leave).1
