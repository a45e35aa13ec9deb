use Rattle.std.proofs.Common.{◌∙◌}
use Rattle.opfs_serving.proofs.Greeting.{serving-greeted}
use Rattle.opfs_serving.specs.Served.{words}
use Rattle.opfs_serving.proofs.serving.greet.Goals as goal

pub returns : goal.returns
returns g c = λ agents is.
    let w = words g.S.Chronicle.opening g.S.Store.opened g.S.Chronicle.entries g.S.Store.keeps g.S.Chronicle.goes_on g.S.Store.tells g.P.Port.tells g.P.Port.said g.P.Port.faults in
    serving-greeted w g.S.Chronicle.lasts g.S.Chronicle.stays c.args.hall.now agents c.args.port.now c.args.watch c.args.table.now.seats.items c.args.table.now.progress is
    c.requires.on c.say_turn.new.port c.say_turn.result c.say_turn.new.progress c.as_bytes.result.now c.len.result (c.len.ensures ∙ c.args.table.now.seats.ok.0) (c.as_bytes.ensures.value ∙ c.in-Ok.ensures)
    c.say_turn.ensures.turned c.say_turn.ensures.said
