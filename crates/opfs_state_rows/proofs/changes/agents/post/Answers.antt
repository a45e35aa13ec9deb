use Rattle.std.proofs.Common.{◌≡◌, ℕ, suc, ◌+◌, ◌-◌, ◌<◌, ◌≤◌, ◌^◌, Some, None, Option, List, length, refl, sym, ap, ◌∙◌, subst, arith}
use Rattle.opfs_hist.specs.declared.op.Op.TheVariants as op
use Rattle.opfs_state_rows.specs.Standing.Seen.{Machine, Seen}
use Rattle.opfs_state_rows.proofs.changes.Found.{place-number}
use Rattle.opfs_state_rows.specs.Changes.Changed.{IsDone}
use Rattle.opfs_machine.specs.Agents.{party_of}
use Rattle.opfs_state_rows.proofs.changes.Plainly.{post-done}
use Rattle.opfs_state_rows.proofs.changes.agents.post.Goals as goal

pub count-requires-clause-inside : goal.count-requires-clause-inside
count-requires-clause-inside c =
    let then = c.post.ensures (record { party = party_of c.args.store.now.machine c.args.agent; tag = c.args.tag.now }) c.requires.ready in
    omega (arith, ap (λ (x : Seen). length x.machine.agents) then, c.requires.may.within, c.requires.may.above)

pub count-requires-clause-entries : goal.count-requires-clause-entries
count-requires-clause-entries c =
    let then = c.post.ensures (record { party = party_of c.args.store.now.machine c.args.agent; tag = c.args.tag.now }) c.requires.ready in
    omega (arith, ap (λ (x : Seen). x.machine.entries) then, c.requires.may.entries)

pub returns-clause-done : goal.returns-clause-done
returns-clause-done c = λ z extents.
    let number = place-number c.args.agent c.requires.may.above in
    let then = c.post.ensures (record { party = party_of c.args.store.now.machine (suc (c.args.agent - 1)); tag = c.args.tag.now }) (c.requires.ready ∙ ap (λ k. Some (record { party = party_of c.args.store.now.machine k; tag = c.args.tag.now })) (sym number)) in
    subst (λ k. IsDone c.args.store.now c.count.new.self z k (op.Post c.args.tag.now) extents) number
    (post-done c.args.store.now c.post.new.self c.count.new.self z (c.args.agent - 1) extents c.count.ensures (ap (λ (x : Seen). x.tree) then) c.args.tag.now (ap (λ (x : Seen). x.machine) then))

pub returns-clause-place : goal.returns-clause-place
returns-clause-place c =
    let then = c.post.ensures (record { party = party_of c.args.store.now.machine c.args.agent; tag = c.args.tag.now }) c.requires.ready in
    ap (λ (x : Seen). x.prepared.place) c.count.ensures ∙ ap (λ (x : Seen). x.prepared.place) then
