use Rattle.std.proofs.Common.{◌∙◌, ◌++◌, sym, ap}
use Rattle.opfs_machine.specs.Runs.{Call, group_of}
use Rattle.opfs_machine.specs.Steps.{step}
use Rattle.opfs_judge.proofs.Entering.{own-entered, told-own, told-fault-by}
use Rattle.opfs_judge.proofs.turn.enter_told.Goals as goal

pub returns-then-fails-clause-told : goal.returns-then-fails-clause-told
returns-then-fails-clause-told c =
    let call : Call = record { agent = c.args.caller.agent; number = c.args.caller.number; op = c.args.op } in
    told-fault-by c.args.state.now call c.requires.fitting c.requires.moves c.fault.new.state c.fault.result c.args.entries.now.items c.fault.new.entries.items c.args.evictions c.args.text.now
    (sym c.in_ok-fails.ensures ∙ c.if-fails.true) c.requires.first c.fault.ensures.stands c.fault.ensures.refused

pub returns-clause-entered : goal.returns-clause-entered
returns-clause-entered c = λ is.
    let call : Call = record { agent = c.args.caller.agent; number = c.args.caller.number; op = c.args.op } in
    let s = c.args.state.now in
    own-entered s c.enter.new.state call c.enter.new.entries.items c.requires.live c.requires.fitting c.in_ok-enter.ensures.state
    (c.in_ok-enter.ensures.told ∙ ap (λ es. es ++ group_of s call (step s call.agent call.op)) c.requires.first)

pub returns-clause-told : goal.returns-clause-told
returns-clause-told c =
    let call : Call = record { agent = c.args.caller.agent; number = c.args.caller.number; op = c.args.op } in
    let s = c.args.state.now in
    told-own s call c.requires.fitting c.requires.moves c.enter.new.entries.items c.args.evictions c.args.text.now (sym c.in_ok-fails.ensures ∙ c.if-fails.false)
    (c.in_ok-enter.ensures.told ∙ ap (λ es. es ++ group_of s call (step s call.agent call.op)) c.requires.first)
