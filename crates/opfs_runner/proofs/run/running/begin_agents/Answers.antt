use Rattle.std.proofs.Common.{◌≡◌, ◌+◌, [], length, map, rules}
use Rattle.opfs_hall.specs.Seen.{AreNew, new_pass}
use Rattle.opfs_runner.specs.Run.Begun.{AreAgentsOf}
use Rattle.opfs_runner.proofs.run.Begun.{agents-count, keys_of, may-begin, new-starters, ready}
use Rattle.opfs_runner.proofs.run.running.begin_agents.Goals as goal

pub begin_all-requires-clause-may : goal.begin_all-requires-clause-may
begin_all-requires-clause-may g c =
    let of = c.in_ok-court.court in
    let scripts = c.args.scripts.now in
    let starters = c.in-Ok.starters.items in
    let passes = c.in_ok-court.passes.items in
    let agents-of : AreAgentsOf (g.S.Store.opened of.opening) scripts = search rules in
    let same : keys_of starters ≡ map (λ s. s.key) scripts = search rules in
    let new : AreNew of (length scripts + 1) passes = search rules in
    may-begin g.S.Store.opened of scripts agents-of starters same passes new

pub unwrap-owner-requires : goal.unwrap-owner-requires
unwrap-owner-requires g c =
    let of = c.in_ok-court.court in
    let scripts = c.args.scripts.now in
    let starters = c.in-Ok.starters.items in
    let passes = c.in_ok-court.passes.items in
    let agents-of : AreAgentsOf (g.S.Store.opened of.opening) scripts = search rules in
    let same : keys_of starters ≡ map (λ s. s.key) scripts = search rules in
    let new : AreNew of (length scripts + 1) passes = search rules in
    let one = c.begin_all.ensures.owner of (new-starters g.S.Store.opened of scripts agents-of starters same passes new) in
    search (rules, one)

pub destroy_empty-requires : goal.destroy_empty-requires
destroy_empty-requires g c =
    let of = c.in_ok-court.court in
    let scripts = c.args.scripts.now in
    let starters = c.in-Ok.starters.items in
    let passes = c.in_ok-court.passes.items in
    let agents-of : AreAgentsOf (g.S.Store.opened of.opening) scripts = search rules in
    let same : keys_of starters ≡ map (λ s. s.key) scripts = search rules in
    let new : AreNew of (length scripts + 1) passes = search rules in
    let one = c.begin_all.ensures.owner of (new-starters g.S.Store.opened of scripts agents-of starters same passes new) in
    search (rules, one)

pub returns-clause-owner : goal.returns-clause-owner
returns-clause-owner g c =
    let of = c.in_ok-court.court in
    let scripts = c.args.scripts.now in
    let starters = c.in-Ok.starters.items in
    let passes = c.in_ok-court.passes.items in
    let agents-of : AreAgentsOf (g.S.Store.opened of.opening) scripts = search rules in
    let same : keys_of starters ≡ map (λ s. s.key) scripts = search rules in
    let new : AreNew of (length scripts + 1) passes = search rules in
    let one = c.begin_all.ensures.owner of (new-starters g.S.Store.opened of scripts agents-of starters same passes new) in
    let owner : c.unwrap-owner.result ≡ new_pass of 0 [] = search (rules, one) in
    owner

pub returns-clause-count : goal.returns-clause-count
returns-clause-count g c =
    let of = c.in_ok-court.court in
    let scripts = c.args.scripts.now in
    let starters = c.in-Ok.starters.items in
    let passes = c.in_ok-court.passes.items in
    let agents-of : AreAgentsOf (g.S.Store.opened of.opening) scripts = search rules in
    let same : keys_of starters ≡ map (λ s. s.key) scripts = search rules in
    let new : AreNew of (length scripts + 1) passes = search rules in
    agents-count g.S.Store.opened of scripts agents-of starters same passes new c.begin_all.new.agents.items c.begin_all.ensures.count

pub returns-clause-ready : goal.returns-clause-ready
returns-clause-ready g c =
    let of = c.in_ok-court.court in
    let scripts = c.args.scripts.now in
    let starters = c.in-Ok.starters.items in
    let passes = c.in_ok-court.passes.items in
    let agents-of : AreAgentsOf (g.S.Store.opened of.opening) scripts = search rules in
    let same : keys_of starters ≡ map (λ s. s.key) scripts = search rules in
    let new : AreNew of (length scripts + 1) passes = search rules in
    ready g.S.Store.opened of scripts agents-of starters same passes new c.begin_all.new.agents.items (c.begin_all.ensures.begun of (new-starters g.S.Store.opened of scripts agents-of starters same passes new))
