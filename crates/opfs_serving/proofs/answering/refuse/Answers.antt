use Rattle.std.proofs.Common.{refl, ◌∙◌}
use Rattle.opfs_serving.proofs.Replies.{kept-silent, line-refused}
use Rattle.opfs_serving.specs.Served.{words}
use Rattle.opfs_serving.proofs.answering.refuse.Goals as goal

pub returns-in_default : goal.returns-in_default
returns-in_default g c = λ line before refusal came agents begun v.
    kept-silent (words g.S.Chronicle.opening g.S.Store.opened g.S.Chronicle.entries g.S.Store.keeps g.S.Chronicle.goes_on g.S.Store.tells g.P.Port.tells g.P.Port.said g.P.Port.faults) g.S.Chronicle.lasts g.S.Chronicle.stays
    c.args.hall.now agents begun before c.args.port.now c.args.watch c.args.table.now.seats.items c.args.table.now.progress v c.requires.on line came c.requires.quiet
    _ refl

pub returns : goal.returns
returns g c = λ line before refusal came agents begun v.
    line-refused (words g.S.Chronicle.opening g.S.Store.opened g.S.Chronicle.entries g.S.Store.keeps g.S.Chronicle.goes_on g.S.Store.tells g.P.Port.tells g.P.Port.said g.P.Port.faults) g.S.Chronicle.lasts g.S.Chronicle.stays
    c.args.hall.now agents begun before c.args.port.now c.args.watch c.args.table.now.seats.items c.args.table.now.progress v c.requires.on line came c.requires.quiet
    c.args.why refusal c.say_turn.new.port c.say_turn.result c.say_turn.new.progress c.as_slice.result.now (c.as_slice.ensures.value ∙ c.in-Ok.ensures)
    c.say_turn.ensures.turned c.say_turn.ensures.said
