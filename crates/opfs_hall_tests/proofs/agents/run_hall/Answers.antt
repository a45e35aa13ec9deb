use Rattle.std.proofs.Common.{◌≡◌, rules, sym, ap, ◌∙◌, subst}
use Rattle.std.specs.Prelude.{All}
use Rattle.opfs_hall.specs.History.{HasEnded}
use Rattle.opfs_hall.specs.Seen.{HasAll, joined}
use Rattle.opfs_hall_tests.specs.declared.marks.Mark.{Mark}
use Rattle.opfs_hall_tests.specs.Runs.{Seen, pairs}
use Rattle.opfs_hall_tests.proofs.RunLemmas.{has_all_joined, has_run_end}
use Rattle.opfs_hall_tests.proofs.agents.run_hall.Goals as goal

pub close-requires-clause-all : goal.close-requires-clause-all
close-requires-clause-all g c =
    subst HasAll (sym (c.join.ensures ∙ ap (λ (p : Seen). joined p c.in-Some.run'.pass) c.owner_apart-owner.ensures.owner))
    (has_all_joined c.in-Ok.hall c.args.turns c.args.agents c.owner_apart-owner.result.1.items c.in-Some.run'.pass c.in-Some.run'.complete (search rules) c.in-Some.ensures.run
    c.owner_apart-owner.ensures.named)

pub returns : goal.returns
returns g c done k real small =
    let run = c.in-Some.ensures.run in
    let owner = c.join.ensures ∙ ap (λ (p : Seen). joined p c.in-Some.run'.pass) c.owner_apart-owner.ensures.owner in
    let ended : c.join.new.into.ended ≡ pairs c.in-Some.run'.pass = ap (λ (p : Seen). p.ended) owner in
    has_run_end c.args.turns k c.close.result.list.items (pairs c.in-Some.run'.pass)
    (subst (All (HasEnded (λ (m : Mark). m.agent) c.close.result.list.items)) ended c.close.ensures.ended)
    (run.own done) (run.named k (c.owner_apart-owner.ensures.named k real small))
