use Rattle.std.proofs.Common.{[], refl, subst}
use Rattle.opfs_serving.proofs.Replies.{kept-silent}
use Rattle.opfs_serving.specs.Requests.{AsksNothing, IsRefusedAt, IsRequest}
use Rattle.opfs_serving.specs.Served.{words}
use Rattle.opfs_serving.specs.declared.requests.Trouble.TheVariants as trouble
use Rattle.opfs_serving.proofs.answering.answer_line.Goals as goal

pub returns-in-Ok : goal.returns-in-Ok
returns-in-Ok g c = λ before came.
    c.answer_request.ensures c.args.line.now before
    (subst (λ seats. IsRequest c.args.line.now seats c.in-Ok.request.place c.in-Ok.request.asking) c.as_slice.ensures.value c.in-Ok.ensures.asked) came

pub returns-in-Err-Refused : goal.returns-in-Err-Refused
returns-in-Err-Refused g c = λ before came.
    let seen = g.S.Chronicle.entries c.args.watch.last in
    c.refuse.ensures c.args.line.now before
    (subst (λ seats. IsRefusedAt seen c.args.line.now seats c.in-Err-Refused.why) c.as_slice.ensures.value
    (subst (AsksNothing seen c.args.line.now c.as_slice.result.now) c.in-Err-Refused.field-0-is (c.in-Err-Refused.ensures.nothing seen))) came

pub refuse_waiting-requires-clause-awaits : goal.refuse_waiting-requires-clause-awaits
refuse_waiting-requires-clause-awaits g c =
    let found = subst (λ seats. AsksNothing [] c.args.line.now seats (trouble.Waits c.in-Err-Waits.place)) c.as_slice.ensures.value
    (subst (AsksNothing [] c.args.line.now c.as_slice.result.now) c.in-Err-Waits.field-0-is (c.in-Err-Waits.ensures.nothing [])) in
    (c.args.line.now, found.0, found.1, found.2, found.3)

pub returns-in-Err-Waits : goal.returns-in-Err-Waits
returns-in-Err-Waits g c = λ before came.
    let found = subst (λ seats. AsksNothing [] c.args.line.now seats (trouble.Waits c.in-Err-Waits.place)) c.as_slice.ensures.value
    (subst (AsksNothing [] c.args.line.now c.as_slice.result.now) c.in-Err-Waits.field-0-is (c.in-Err-Waits.ensures.nothing [])) in
    c.refuse_waiting.ensures c.args.line.now before found.0 found.1 found.2 found.3 came

pub returns-in-Err-NoMemory : goal.returns-in-Err-NoMemory
returns-in-Err-NoMemory g c = λ before came agents begun v.
    kept-silent (words g.S.Chronicle.opening g.S.Store.opened g.S.Chronicle.entries g.S.Store.keeps g.S.Chronicle.goes_on g.S.Store.tells g.P.Port.tells g.P.Port.said g.P.Port.faults) g.S.Chronicle.lasts g.S.Chronicle.stays
    c.args.hall.now agents begun before c.args.port.now c.args.watch c.args.table.now.seats.items c.args.table.now.progress v c.requires.on c.args.line.now came c.requires.quiet
    _ refl
