use Rattle.std.proofs.Common.{subst}
use Rattle.opfs_serving.specs.Requests.{IsRequest}
use Rattle.opfs_serving.proofs.answering.answer_request.Goals as goal

pub returns-in-Step : goal.returns-in-Step
returns-in-Step g c = λ line before request came.
    c.step_at-now.ensures line before (subst (IsRequest line c.args.table.now.seats.items c.args.request.place) c.in-Step.is request) came

pub returns-in-End : goal.returns-in-End
returns-in-End g c = λ line before request came.
    c.end_at.ensures line before (subst (IsRequest line c.args.table.now.seats.items c.args.request.place) c.in-End.is request) came
