use Rattle.std.proofs.Common.{◌≡◌, ◌+◌, ◌<◌, ◌^◌, suc, true, [], ◌∷◌, ◌++◌, length, None, is_some, refl, sym, ap, ◌∙◌, arith}
use Rattle.opfs_base.specs.Units.{origin_of}
use Rattle.opfs_machine.specs.declared.own.Outline.{Outline}
use Rattle.opfs_machine.specs.declared.own.Outline.TheVariants as outline
use Rattle.opfs_machine.specs.declared.state.Agent.{Agent}
use Rattle.opfs_machine.specs.Agents.{agent_in, adds_own}
use Rattle.opfs_machine.specs.Contents.{in_lengths}
use Rattle.opfs_machine.specs.Rows.{row_at}
use Rattle.opfs_machine.specs.Sums.{usage}
use Rattle.opfs_register.specs.Registers.{Registered}
use Rattle.opfs_shed.specs.Buckets.{Storage}
use Rattle.opfs_state_rows.specs.Standing.Seen.{Seen, machine_of, persistent_in}
use Rattle.opfs_state_rows.specs.Standing.Tied.{IsKnown}
use Rattle.opfs_state_rows.proofs.standing.AgentMoves.{agent-set, opened-tied}
use Rattle.opfs_state_rows.proofs.standing.Counted.{usage-is}
use Rattle.opfs_state_rows.proofs.standing.Gone.{modes-machine}
use Rattle.opfs_state_rows.proofs.standing.SlotMoves.{stream-row}
use Rattle.opfs_state_rows.proofs.standing.Stores.{shed-added, pool-raised, mark-kept, modes-kept, units-kept, prepared-same}
use Rattle.opfs_state_rows.proofs.standing.standing.Standing.open_stream.Goals as goal

pub add-requires-clause-fits : goal.add-requires-clause-fits
add-requires-clause-fits c =
    let quota : usage in_lengths (machine_of c.self.inside.tree.rows c.self.inside.shed.buckets c.self.inside.register) (origin_of c.args.stream.file.0) + c.args.stream.reserve < 2 ^ 64 = rw (← c.self.view_is) at c.requires.quota in
    let sum = c.self.invariant.usages (origin_of c.args.stream.file.0) ∙ sym (usage-is (machine_of c.self.inside.tree.rows c.self.inside.shed.buckets c.self.inside.register) (origin_of c.args.stream.file.0)) in
    rw (c.outline.ensures, c.outline-2.ensures) (omega (arith, quota, sum))

pub invariant_of-self : goal.invariant_of-self
invariant_of-self c =
    let there : is_some (row_at (machine_of c.self.inside.tree.rows c.self.inside.shed.buckets c.self.inside.register) c.args.stream.file) ≡ true = ap (λ (s : Seen). is_some (row_at s.machine c.args.stream.file)) c.self.view_is ∙ c.requires.there in
    let known : IsKnown c.self.inside.shed c.self.inside.pool c.args.stream.file.0 = c.self.invariant.known c.args.stream.file there in
    let inside : c.args.at < length c.self.inside.register.agents = rw (← c.self.view_is) at c.requires.inside in
    let added = rw (c.outline.ensures, c.outline-2.ensures) at c.add.ensures.bucket in
    let modes : persistent_in c.add.new.self.buckets ≡ persistent_in c.self.inside.shed.buckets = ap (λ (s : Storage). persistent_in s.buckets) added ∙ modes-kept c.self.inside.shed.buckets c.args.stream.file.0 _ known.bucket refl in
    let raised = rw (c.outline.ensures, c.outline-3.ensures) at c.raise.ensures.share in
    opened-tied c.self.inside.tree.rows c.self.inside.shed c.add.new.self c.self.inside.pool c.raise.new.self c.self.inside.register c.add_stream.new.self c.self.inside.fixed c.self.inside.root c.args.at (outline.Stream c.args.stream) c.args.stream.file.0 inside
    (ap (λ (r : Registered). r.agents) c.add_stream.ensures) (ap (λ (r : Registered). r.limits) c.add_stream.ensures) modes c.self.invariant (stream-row c.args.stream) known
    (shed-added c.self.inside.shed c.add.new.self c.args.stream.file.0 c.args.stream.reserve known.bucket added (rw (c.outline.ensures, c.outline-2.ensures) at c.add.ensures.usage))
    (pool-raised c.self.inside.pool c.raise.new.self c.args.stream.file.0 c.args.stream.reserve known.share raised (rw c.outline.ensures at c.raise.ensures.held))
    (mark-kept c.self.inside.pool c.raise.new.self c.args.stream.file.0 _ known.share raised refl)

pub returns-clause-machine : goal.returns-clause-machine
returns-clause-machine c =
    let there : is_some (row_at (machine_of c.self.inside.tree.rows c.self.inside.shed.buckets c.self.inside.register) c.args.stream.file) ≡ true = ap (λ (s : Seen). is_some (row_at s.machine c.args.stream.file)) c.self.view_is ∙ c.requires.there in
    let known : IsKnown c.self.inside.shed c.self.inside.pool c.args.stream.file.0 = c.self.invariant.known c.args.stream.file there in
    let inside : c.args.at < length c.self.inside.register.agents = rw (← c.self.view_is) at c.requires.inside in
    let added = rw (c.outline.ensures, c.outline-2.ensures) at c.add.ensures.bucket in
    let modes : persistent_in c.add.new.self.buckets ≡ persistent_in c.self.inside.shed.buckets = ap (λ (s : Storage). persistent_in s.buckets) added ∙ modes-kept c.self.inside.shed.buckets c.args.stream.file.0 _ known.bucket refl in
    let agent : Agent Outline = record (agent_in c.self.inside.register.agents (suc c.args.at)) { own = (agent_in c.self.inside.register.agents (suc c.args.at)).own ++ outline.Stream c.args.stream ∷ [] } in
    modes-machine c.self.inside.tree.rows c.add_stream.new.self c.self.inside.shed c.add.new.self modes
    ∙ (ap (machine_of c.self.inside.tree.rows c.self.inside.shed.buckets) c.add_stream.ensures
    ∙ (agent-set (machine_of c.self.inside.tree.rows c.self.inside.shed.buckets c.self.inside.register) c.args.at agent
    ∙ ap (λ (s : Seen). adds_own s.machine (suc c.args.at) (outline.Stream c.args.stream)) c.self.view_is))

pub returns-clause-prepared : goal.returns-clause-prepared
returns-clause-prepared c =
    prepared-same c.self.inside.tree.ready c.self.inside.tree.ready c.self.inside.pool.shares c.raise.new.self.shares (record c.self.inside.register { room = None }) c.add_stream.new.self refl
    (units-kept c.self.inside.pool c.raise.new.self _ _ c.raise.ensures.share)
    (record { room = ap (λ (r : Registered). r.room) c.add_stream.ensures; ready = ap (λ (r : Registered). r.ready) c.add_stream.ensures })
    ∙ ap (λ (s : Seen). record s.prepared { room = None }) c.self.view_is
