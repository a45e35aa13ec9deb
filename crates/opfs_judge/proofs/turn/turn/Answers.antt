use Rattle.opfs_judge.specs.Players.{goings_of}
use Rattle.opfs_judge.proofs.Grouping.{asked-none, none-by, told-again, turned-by}
use Rattle.opfs_judge.proofs.turn.turn.Goals as goal

pub returns-in_default-clause-none : goal.returns-in_default-clause-none
returns-in_default-clause-none c = λ is h.
    let s = c.args.state.now in
    let gs = c.args.players.now.items in
    let text = c.args.text.now in
    asked-none s (goings_of gs) text h c.in_ok-asking.field-0 (told-again s c.as_slice.result.now gs text c.in_ok-asking.field-0 c.as_slice.ensures.value c.in_ok-asking.ensures.told h) c.in_default.is

pub returns-clause-turned : goal.returns-clause-turned
returns-clause-turned c =
    turned-by c.args.state.now c.enter_group.new.state c.args.players.now.items c.enter_group.new.players.items c.as_slice.result.now c.in-Some.asking c.args.text.now c.in_ok-asking.field-0 c.in_ok-used.used
    c.as_slice.ensures.value c.requires.few c.in-Some.is c.in_ok-asking.ensures.found c.in_ok-used.ensures.entered

pub returns-clause-none : goal.returns-clause-none
returns-clause-none c =
    none-by c.args.state.now c.args.players.now.items c.as_slice.result.now c.in-Some.asking c.args.text.now c.in_ok-asking.field-0 c.in_ok-used.used c.as_slice.ensures.value c.in-Some.is
    c.in_ok-asking.ensures.found c.in_ok-asking.ensures.told c.in_ok-used.ensures.told
