use Rattle.std.proofs.Common.{List, sym, subst}
use Rattle.opfs_base.specs.Texts.{Text}
use Rattle.opfs_turns.specs.Asking.Rows.{HasIterator}
use Rattle.opfs_agent.proofs.Iterating.{iterator-stopped, next-gives, next-has}
use Rattle.opfs_agent.proofs.agent.Agent.next.Goals as goal

pub returns-in_err-acted-clause-iter : goal.returns-in_err-acted-clause-iter
returns-in_err-acted-clause-iter g c =
    let has = rw (← c.iter.view_is) at c.requires.iter in
    iterator-stopped g.S.Store.tells c.args.self.now c.ask_next.new.self c.iter.inside.row c.iter.inside.dir c.in_err-acted.field-0.0
    (record { row = c.iter.inside.row; dir = c.iter.inside.dir; given = c.reserve.new.self.items }) c.know_kept.ensures c.in_err-acted.ensures
    (subst (λ (names : List Text). HasIterator c.args.self.now (record { row = c.iter.inside.row; dir = c.iter.inside.dir; given = names })) (sym c.reserve.ensures.items) has)

pub returns-clause-shared : goal.returns-clause-shared
returns-clause-shared g c =
    let has = rw (← c.iter.view_is) at c.requires.iter in
    rw (← c.iter.view_is)
    (next-gives g.S.Store.tells c.args.self.now c.ask_next.new.self c.know_kept.ensures (record { row = c.iter.inside.row; dir = c.iter.inside.dir; given = c.reserve.new.self.items })
    (subst (λ (names : List Text). HasIterator c.args.self.now (record { row = c.iter.inside.row; dir = c.iter.inside.dir; given = names })) (sym c.reserve.ensures.items) has)
    c.in_ok-acted.acted c.note.new.given.items c.note.result c.in_ok-acted.ensures c.note.ensures)

pub returns-clause-iter : goal.returns-clause-iter
returns-clause-iter g c =
    let has = rw (← c.iter.view_is) at c.requires.iter in
    next-has g.S.Store.tells c.args.self.now c.ask_next.new.self c.know_kept.ensures (record { row = c.iter.inside.row; dir = c.iter.inside.dir; given = c.reserve.new.self.items })
    (subst (λ (names : List Text). HasIterator c.args.self.now (record { row = c.iter.inside.row; dir = c.iter.inside.dir; given = names })) (sym c.reserve.ensures.items) has)
    c.in_ok-acted.acted c.note.new.given.items c.note.result c.in_ok-acted.ensures c.note.ensures
