use Rattle.std.proofs.Common.{◌≡◌, refl, sym, subst}
use Rattle.opfs_port.specs.Said.{CameIn}
use Rattle.opfs_port.proofs.Talks.{nothing_said, one_said, none_left, stop_left, maybe_left, on_err}
use Rattle.opfs_port.proofs.conversing.turn.Goals as goal

pub returns-in_err-hear-clause-broke : goal.returns-in_err-hear-clause-broke
returns-in_err-hear-clause-broke g c = on_err _ g.P.Port.tells _ (λ t.
    let e = c.in_err-hear.ensures.stays t in
    none_left g.S.Session.step g.S.Session.stop c.args.session.now c.args.session.now (g.P.Port.said c.args.port.now) (g.P.Port.said c.hear.new.self) (g.P.Port.rest c.args.port.now) (g.P.Port.rest c.hear.new.self)
    (nothing_said g.S.Session.step c.args.session.now _ _ _ _ e.0 (sym e.1)))

pub returns-clause-talk : goal.returns-clause-talk
returns-clause-talk g c = λ t.
    let e = c.in_ok-hear.ensures.end c.in-End.is t in
    nothing_said _ _ _ _ _ _ e.0 (subst (λ x. g.P.Port.rest c.args.port.now ≡ x) (sym e.2) e.1)

pub returns-in-Line-clause-talk : goal.returns-in-Line-clause-talk
returns-in-Line-clause-talk g c = λ t.
    one_said g.S.Session.step c.args.session.now c.answer.new.self (g.P.Port.said c.args.port.now) (g.P.Port.said c.hear.new.self) (g.P.Port.said c.tell.new.self)
    (g.P.Port.rest c.args.port.now) (g.P.Port.rest c.hear.new.self) (g.P.Port.rest c.tell.new.self) c.as_slice.result.now c.as_slice-in-Line.result.now c.in_ok-at-in-Line.at.value
    (subst (λ x. g.S.Session.step c.args.session.now c.as_slice.result.now x c.in_ok-at-in-Line.at.value c.answer.new.self) (sym c.as_slice-in-Line.ensures.value) c.in_ok-at-in-Line.ensures.answered)
    (subst (λ x. CameIn x (g.P.Port.said c.args.port.now) (g.P.Port.said c.hear.new.self) (g.P.Port.rest c.args.port.now) (g.P.Port.rest c.hear.new.self)) (sym c.as_slice.ensures.value) (c.in_ok-hear.ensures.came c.in-Line.is t))
    (c.in_ok-tell-in-Line.ensures.went t)
    (c.in_ok-tell-in-Line.ensures.stays t)

pub returns-in_err-at-in-Line-clause-broke : goal.returns-in_err-at-in-Line-clause-broke
returns-in_err-at-in-Line-clause-broke g c = on_err _ g.P.Port.tells _ (λ t.
    stop_left g.S.Session.step g.S.Session.stop c.args.session.now c.answer.new.self (g.P.Port.said c.args.port.now) (g.P.Port.said c.hear.new.self)
    (g.P.Port.rest c.args.port.now) (g.P.Port.rest c.hear.new.self) c.hear.new.line.items c.in_err-at-in-Line.ensures.stopped (c.in_ok-hear.ensures.came c.in-Line.is t))

pub returns-in_err-tell-in-Line-clause-broke : goal.returns-in_err-tell-in-Line-clause-broke
returns-in_err-tell-in-Line-clause-broke g c = on_err _ g.P.Port.tells _ (λ t.
    maybe_left g.S.Session.step g.S.Session.stop c.args.session.now c.answer.new.self (g.P.Port.said c.args.port.now) (g.P.Port.said c.hear.new.self) (g.P.Port.said c.tell.new.self)
    (g.P.Port.rest c.args.port.now) (g.P.Port.rest c.hear.new.self) (g.P.Port.rest c.tell.new.self) c.as_slice.result.now c.as_slice-in-Line.result.now c.in_ok-at-in-Line.at.value
    (subst (λ x. g.S.Session.step c.args.session.now c.as_slice.result.now x c.in_ok-at-in-Line.at.value c.answer.new.self) (sym c.as_slice-in-Line.ensures.value) c.in_ok-at-in-Line.ensures.answered)
    (subst (λ x. CameIn x (g.P.Port.said c.args.port.now) (g.P.Port.said c.hear.new.self) (g.P.Port.rest c.args.port.now) (g.P.Port.rest c.hear.new.self)) (sym c.as_slice.ensures.value) (c.in_ok-hear.ensures.came c.in-Line.is t))
    (c.in_err-tell-in-Line.ensures.may_have t)
    (c.in_err-tell-in-Line.ensures.stays t))

pub returns-in-TooLong-clause-talk : goal.returns-in-TooLong-clause-talk
returns-in-TooLong-clause-talk g c = λ t.
    let long = c.in_ok-hear.ensures.long c.in-TooLong.is t in
    one_said g.S.Session.step c.args.session.now c.answer_long.new.self (g.P.Port.said c.args.port.now) (g.P.Port.said c.hear.new.self) (g.P.Port.said c.tell-in-TooLong.new.self)
    (g.P.Port.rest c.args.port.now) (g.P.Port.rest c.hear.new.self) (g.P.Port.rest c.tell-in-TooLong.new.self) long.0 c.as_slice-in-TooLong.result.now c.in_ok-now-in-TooLong.now.value
    (subst (λ x. g.S.Session.step c.args.session.now long.0 x c.in_ok-now-in-TooLong.now.value c.answer_long.new.self) (sym c.as_slice-in-TooLong.ensures.value) (c.in_ok-now-in-TooLong.ensures.answered long.0 long.1))
    long.2
    (c.in_ok-tell-in-TooLong.ensures.went t)
    (c.in_ok-tell-in-TooLong.ensures.stays t)

pub returns-in_err-now-in-TooLong-clause-broke : goal.returns-in_err-now-in-TooLong-clause-broke
returns-in_err-now-in-TooLong-clause-broke g c = on_err _ g.P.Port.tells _ (λ t.
    let long = c.in_ok-hear.ensures.long c.in-TooLong.is t in
    stop_left g.S.Session.step g.S.Session.stop c.args.session.now c.answer_long.new.self (g.P.Port.said c.args.port.now) (g.P.Port.said c.hear.new.self)
    (g.P.Port.rest c.args.port.now) (g.P.Port.rest c.hear.new.self) long.0 c.in_err-now-in-TooLong.ensures.stopped long.2)

pub returns-in_err-tell-in-TooLong-clause-broke : goal.returns-in_err-tell-in-TooLong-clause-broke
returns-in_err-tell-in-TooLong-clause-broke g c = on_err _ g.P.Port.tells _ (λ t.
    let long = c.in_ok-hear.ensures.long c.in-TooLong.is t in
    maybe_left g.S.Session.step g.S.Session.stop c.args.session.now c.answer_long.new.self (g.P.Port.said c.args.port.now) (g.P.Port.said c.hear.new.self) (g.P.Port.said c.tell-in-TooLong.new.self)
    (g.P.Port.rest c.args.port.now) (g.P.Port.rest c.hear.new.self) (g.P.Port.rest c.tell-in-TooLong.new.self) long.0 c.as_slice-in-TooLong.result.now c.in_ok-now-in-TooLong.now.value
    (subst (λ x. g.S.Session.step c.args.session.now long.0 x c.in_ok-now-in-TooLong.now.value c.answer_long.new.self) (sym c.as_slice-in-TooLong.ensures.value) (c.in_ok-now-in-TooLong.ensures.answered long.0 long.1))
    long.2
    (c.in_err-tell-in-TooLong.ensures.may_have t)
    (c.in_err-tell-in-TooLong.ensures.stays t))
