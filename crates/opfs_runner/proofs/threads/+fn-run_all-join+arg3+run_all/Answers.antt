use Rattle.std.proofs.Common.{◌≡◌, ℕ, ◌∷◌, [], ◌++◌, length, get_or, rules, ap, ◌∙◌, arith}
use Rattle.opfs_runner.specs.Runs.{HasRun, HasRunAll}
use Rattle.opfs_runner.proofs.Joining.{run-one, run-joined, rest-ready, last-ready, last-script, last-count}
use Rattle.opfs_runner.proofs.threads.+fn-run_all-join+arg3+run_all.Goals as goal

pub join-mine-requires-after_bounds : goal.join-mine-requires-after_bounds
join-mine-requires-after_bounds g t c κs within =
    let of = c.args.court.now in
    let scripts = c.args.scripts.now in
    let agents = c.args.agents.items in
    let rest = c.pop.new.self.items in
    let a = c.in_ok-agent.agent in
    let s = c.index-scripts-len.result in
    let split : agents ≡ rest ++ a ∷ [] = c.in_ok-agent.ensures.items in
    let long : c.len.result ≡ length rest = search rules in
    let there = last-script of scripts agents rest a split c.requires s s (c.index-scripts-len.is ∙ ap (λ (n : ℕ). get_or scripts n s) long) in
    let ready = (last-ready of scripts agents rest a split c.requires s there).1 in
    let more = rest-ready of scripts agents rest a split c.requires in
    ((ready, (search rules, search rules, search rules)), (search rules, (λ x m. m, (λ x m. m, (λ x m. m, (λ x m. m, ((search rules, search rules, search rules), (more, (search rules, search rules, search rules)))))))))

pub returns-in-Some-clause-run : goal.returns-in-Some-clause-run
returns-in-Some-clause-run g t c =
    let of = c.args.court.now in
    let scripts = c.args.scripts.now in
    let agents = c.args.agents.items in
    let rest = c.pop.new.self.items in
    let a = c.in_ok-agent.agent in
    let s = c.index-scripts-len.result in
    let mine = c.join-mine.result.0 in
    let others = c.in-Some.others in
    let split : agents ≡ rest ++ a ∷ [] = c.in_ok-agent.ensures.items in
    let long : c.len.result ≡ length rest = search rules in
    let there = last-script of scripts agents rest a split c.requires s s (c.index-scripts-len.is ∙ ap (λ (n : ℕ). get_or scripts n s) long) in
    let ran : HasRun of s a.pass.agent mine.pass mine.whole = search rules in
    let all : HasRunAll of scripts (length rest) others.pass others.whole = search rules in
    rw (c.join_runs.ensures.pass, c.join_runs.ensures.whole)
    (run-joined of scripts a s (length rest) there (last-ready of scripts agents rest a split c.requires s there).0 mine.pass mine.whole ran others.pass others.whole
    (length agents) (last-count of scripts agents rest a split c.requires) all)

pub returns-in-None-clause-run : goal.returns-in-None-clause-run
returns-in-None-clause-run g t c =
    let of = c.args.court.now in
    let scripts = c.args.scripts.now in
    let agents = c.args.agents.items in
    let rest = c.pop.new.self.items in
    let a = c.in_ok-agent.agent in
    let s = c.index-scripts-len.result in
    let mine = c.join-mine.result.0 in
    let split : agents ≡ rest ++ a ∷ [] = c.in_ok-agent.ensures.items in
    let long : c.len.result ≡ length rest = search rules in
    let there = last-script of scripts agents rest a split c.requires s s (c.index-scripts-len.is ∙ ap (λ (n : ℕ). get_or scripts n s) long) in
    let ran : HasRun of s a.pass.agent mine.pass mine.whole = search rules in
    let empty : rest ≡ [] = search rules in
    let none : length rest ≡ 0 = ap length empty in
    run-one of scripts a s (length rest) there (last-ready of scripts agents rest a split c.requires s there).0 mine.pass mine.whole ran
    (length agents) (omega (arith, none, last-count of scripts agents rest a split c.requires)) none
