-- What is stored of a file while an access handle of it stays open.
use Rattle.std.proofs.Common.{◌≡◌, ℕ, List, ◌++◌, fold, Some, sym, ap, ◌∙◌, subst}
use Rattle.std.proofs.lemmas.List.Sums.{fold-append}
use Rattle.opfs_base.specs.Places.{Place, place_of}
use Rattle.opfs_turns.specs.Asking.Rows.{HandleSeen, HasHandle}
use Rattle.opfs_laws.specs.Files.Staying.{kept_by, standing_at}
use Rattle.opfs_laws.proofs.files.Held.{open-file-stays}
use Rattle.opfs_agent.proofs.handle_calls.Facts.{HandleFacts, facts, row-is}
use Rattle.opfs_laws.proofs.histories.Adding.{changes-append}
use Rattle.opfs_machine.specs.declared.own.HandleRow.{HandleRow}
use Rattle.opfs_machine.specs.declared.own.Own.TheVariants as own
use Rattle.opfs_machine.specs.Agents.{agent_of, own_of, of_row}
use Rattle.opfs_machine.specs.Changes.{Change, changed, changes, changes_from}
use Rattle.opfs_machine.specs.Histories.{Legal, after_entry, state_after}
use Rattle.opfs_machine.specs.Openings.{Map, begun}
use Rattle.opfs_turns.specs.Agents.{AgentSeen, IsAgent, state_of}
use Rattle.opfs_sync_files.specs.Entries.{GoesOn}
use Rattle.opfs_sync_files.proofs.Holding.{file_held, held, held-row, pending-held}

-- The changes since, each front of which leaves the file but for its contents.
pub record StaysSince {O : Type 0} (tells : Type 0) (before after : AgentSeen O) (p : Place) : Type 0 where
  pub more : List Change
  pub grown : changes after.opening after.pass.base ≡ changes before.opening before.pass.base ++ more
  pub fronts : tells → (front rest : List Change) → more ≡ front ++ rest → (m : Map) → standing_at (fold changed m front) p ≡ fold (kept_by p) (standing_at m p) front

-- A handle that is open behind local calls was open before them.
pub base-held : {O : Type 0} (tells : Type 0) (a : AgentSeen O) (kept : IsAgent tells a) (x : HandleSeen) (has : HasHandle tells a x)
    → (h : HandleRow) × (own_of (agent_of (state_after a.opening a.pass.base) a.pass.agent) x.row ≡ Some (own.Handle h)) × (h.file ≡ place_of x.file)
base-held tells a kept x has =
    let f : HandleFacts tells (state_of a) has.stands.row x.work x.file x.mode = facts tells a x has in
    let there : held (state_after a.opening a.pass.base) a.pass.agent x.row ≡ Some (place_of x.file) =
    sym (pending-held tells (state_after a.opening a.pass.base) a.pass.agent x.row a.pending kept.local)
    ∙ ap (λ v. held v a.pass.agent x.row) (sym (fold-append after_entry (begun a.opening) a.pass.base a.pending))
    ∙ ap (of_row file_held) (row-is tells a x has)
    ∙ ap Some f.file_is
    in
    held-row (own_of (agent_of (state_after a.opening a.pass.base) a.pass.agent) x.row) (place_of x.file) there

pub stays-since : {O : Type 0} (tells : Type 0) (before after : AgentSeen O) (kept : IsAgent tells before) (later : IsAgent tells after) (x y : HandleSeen) (n : ℕ) → HasHandle tells before x → HasHandle tells after y → y.row ≡ x.row
    → GoesOn before after n → StaysSince tells before after (place_of x.file)
stays-since tells before after kept later x y n has had same goes =
    let o = before.opening in
    let first = base-held tells before kept x has in
    let last = base-held tells after later y had in
    let here : state_after after.opening after.pass.base ≡ state_after o (before.pass.base ++ goes.newer) = (λ i. state_after (goes.opening_is i) (goes.grown i)) in
    let there : own_of (agent_of (state_after o (before.pass.base ++ goes.newer)) before.pass.agent) x.row ≡ Some (own.Handle last.0) =
    (λ i. own_of (agent_of (sym here i) (sym goes.agent i)) (sym same i)) ∙ last.1
    in
    record {
      more = changes_from (state_after o before.pass.base) goes.newer;
      grown = (λ i. changes (goes.opening_is i) (goes.grown i)) ∙ changes-append (begun o) before.pass.base goes.newer;
      fronts = λ tell front rest split m.
          let told : after.pass.base ≡ later.legal.real = later.legal.told tell in
          let legal_after : Legal after.opening after.pass.base = subst (Legal after.opening) (sym told) later.legal.legal in
          let legal : Legal o (before.pass.base ++ goes.newer) = subst (λ es. Legal o es) goes.grown (subst (λ q. Legal q after.pass.base) goes.opening_is legal_after) in
          subst (λ (q : Place). standing_at (fold changed m front) q ≡ fold (kept_by q) (standing_at m q) front) first.2
          (open-file-stays o before.pass.base goes.newer before.pass.agent x.row first.0 last.0 legal first.1 there front rest split m);
    }
