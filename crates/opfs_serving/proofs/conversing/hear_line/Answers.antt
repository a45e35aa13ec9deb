use Rattle.std.proofs.Common.{[], ◌∷◌, ◌++◌, Err, inl, refl, sym, ap, ◌∙◌}
use Rattle.opfs_port.specs.Said.{heard}
use Rattle.opfs_serving.specs.Requests.{long}
use Rattle.opfs_serving.specs.Served.{words}
use Rattle.opfs_serving.proofs.Faulted.{faults-on}
use Rattle.opfs_serving.proofs.Overlong.{overlong}
use Rattle.opfs_serving.proofs.Polls.{serving-stops, serving-waits}
use Rattle.opfs_serving.proofs.conversing.hear_line.Goals as goal

pub returns-in-Ok-Line-clause-on_with : goal.returns-in-Ok-Line-clause-on_with
returns-in-Ok-Line-clause-on_with g c =
    c.answer_line.ensures c.args.port.now
    (record {
      said = λ b. (c.in-Ok-Line.ensures.came c.in-Ok-Line.field-0-is b).said ∙ ap (λ l. g.P.Port.said c.args.port.now ++ heard l ∷ []) (sym c.as_slice.ensures.value);
      later = c.hear.ensures.later;
    })

pub returns-in-Ok-TooLong-clause-on_with : goal.returns-in-Ok-TooLong-clause-on_with
returns-in-Ok-TooLong-clause-on_with g c =
    let line = overlong 33555456 g.P.Port.tells (g.P.Port.said c.args.port.now) (g.P.Port.said c.hear.new.self) (g.P.Port.rest c.args.port.now) (g.P.Port.rest c.hear.new.self) (c.in-Ok-TooLong.ensures.long c.in-Ok-TooLong.field-0-is) in
    c.refuse.ensures line.0 c.args.port.now (long line.1) (record { said = line.2; later = c.hear.ensures.later })

pub returns-in-Ok-End-clause-on_with : goal.returns-in-Ok-End-clause-on_with
returns-in-Ok-End-clause-on_with g c = λ agents begun v.
    let w = words g.S.Chronicle.opening g.S.Store.opened g.S.Chronicle.entries g.S.Store.keeps g.S.Chronicle.goes_on g.S.Store.tells g.P.Port.tells g.P.Port.said g.P.Port.faults in
    serving-waits w g.S.Chronicle.lasts g.S.Chronicle.stays c.args.hall.now agents begun c.args.port.now c.args.watch c.args.table.now.seats.items c.args.table.now.progress v
    c.hear.new.self c.args.table.now.progress (λ b. (c.in-Ok-End.ensures.end c.in-Ok-End.field-0-is b).0) (λ on. on) (λ on. refl) (λ is. is)
    (faults-on (g.P.Port.faults c.args.port.now) (g.P.Port.faults c.hear.new.self) c.args.table.now.progress.state c.args.table.now.progress.state c.hear.ensures.later c.requires.on)

pub returns-clause-on_with : goal.returns-clause-on_with
returns-clause-on_with g c = λ agents begun v.
    let w = words g.S.Chronicle.opening g.S.Store.opened g.S.Chronicle.entries g.S.Store.keeps g.S.Chronicle.goes_on g.S.Store.tells g.P.Port.tells g.P.Port.said g.P.Port.faults in
    serving-stops w g.S.Chronicle.lasts g.S.Chronicle.stays c.args.hall.now agents begun c.args.port.now c.args.watch c.args.table.now.seats.items c.args.table.now.progress v
    c.hear.new.self _ (λ b. (c.in-Err.ensures.stays b).0) c.state_of-table.ensures.off refl
    (record { later = c.hear.ensures.later; cause = λ f. inl (c.in-Err.ensures.cause (ap Err (c.state_of-table.ensures.cause f))) })
