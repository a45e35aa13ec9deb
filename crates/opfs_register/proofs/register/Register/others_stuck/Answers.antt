use Rattle.std.proofs.Common.{◌+◌, ◌<◌, suc, length, refl, sym, ap, ◌∙◌, arith}
use Rattle.std.proofs.lemmas.List.{drop_all}
use Rattle.std.proofs.lemmas.List.FromFn.{length-enumerate_from}
use Rattle.std.specs.List.{list_all, enumerate_from}
use Rattle.opfs_machine.specs.Agents.{is_no_help, party_of, nobody}
use Rattle.opfs_register.specs.Registers.{bare}
use Rattle.opfs_register.proofs.Seated.{numbered, all-next, all-fails}
use Rattle.opfs_register.proofs.register.Register.others_stuck.Goals as goal

pub returns-then-not-is_no_help : goal.returns-then-not-is_no_help
returns-then-not-is_no_help c =
    let r = c.args.self.now in
    let k = c.loop-other.other in
    let test = is_no_help (bare r) (suc c.args.at) (party_of (bare r) (suc c.args.at)) in
    let inside : k < length r.agents = omega (arith, c.loop-other-test.true, c.agents-other-end.ensures.count) in
    let here = numbered 1 k (suc k) (suc k) r.agents nobody (omega arith) refl inside in
    sym (all-fails test (enumerate_from 1 r.agents) _ _ k here c.loop-other.invariant (sym c.is_no_help.ensures ∙ c.if-not-is_no_help.true))

pub loop-other-preserved : goal.loop-other-preserved
loop-other-preserved c =
    let r = c.args.self.now in
    let k = c.loop-other.other in
    let test = is_no_help (bare r) (suc c.args.at) (party_of (bare r) (suc c.args.at)) in
    let inside : k < length r.agents = omega (arith, c.loop-other-test.true, c.agents-other-end.ensures.count) in
    let here = numbered 1 k (suc k) (k + 1) r.agents nobody (omega arith) (omega arith) inside in
    all-next test (enumerate_from 1 r.agents) _ _ k here c.loop-other.invariant (sym c.is_no_help.ensures ∙ c.if-not-is_no_help.false)

pub returns : goal.returns
returns c =
    let r = c.args.self.now in
    let test = is_no_help (bare r) (suc c.args.at) (party_of (bare r) (suc c.args.at)) in
    sym (c.loop-other.invariant ∙ ap (list_all test) (drop_all c.loop-other.other (enumerate_from 1 r.agents) (omega (arith, c.loop-other-test.false, c.agents-other-end.ensures.count, length-enumerate_from 1 r.agents))))
