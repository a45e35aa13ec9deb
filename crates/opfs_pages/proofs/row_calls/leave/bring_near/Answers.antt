use Rattle.opfs_pages.proofs.row_calls.Ways.{way-copy, way-near, way-stored}
use Rattle.opfs_pages.proofs.row_calls.leave.bring_near.Goals as goal

pub returns-clause-copy : goal.returns-clause-copy
returns-clause-copy c = λ row copy whole.
    way-copy c.args.work.now c.make_way.new.work c.bring.new.self c.args.page c.args.bytes.now c.make_way.ensures.rest c.make_way.ensures.others c.make_way.ensures.far c.bring.ensures row copy whole

pub returns-clause-near : goal.returns-clause-near
returns-clause-near c = way-near c.args.work.now c.make_way.new.work c.bring.new.self c.args.page c.args.bytes.now c.make_way.ensures.rest c.make_way.ensures.others c.make_way.ensures.far c.bring.ensures

pub returns-clause-stored : goal.returns-clause-stored
returns-clause-stored c = way-stored c.args.work.now c.make_way.new.work c.bring.new.self c.args.page c.args.bytes.now c.make_way.ensures.rest c.make_way.ensures.others c.make_way.ensures.far c.bring.ensures
