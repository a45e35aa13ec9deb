-- An agent that ends, and what the end of a seat's agent leaves.
use Rattle.std.proofs.Common.{◌≡◌, ℕ, ◌&&◌, ◌||◌, Bool, true, false, List, [], ◌∷◌, ◌++◌, append_assoc, map, Some, refl, sym, ap, ◌∙◌, subst, arith, IsTrue}
use Rattle.std.proofs.lemmas.Bool.{eq-eqb}
use Rattle.opfs_hall.specs.History.{IsPrefix}
use Rattle.opfs_hall.specs.Seen.{HallSeen, PassSeen, WatchSeen, joined}
use Rattle.opfs_hist.specs.declared.entry.Entry.{Entry}
use Rattle.opfs_hist.specs.declared.op.Op.TheVariants as op
use Rattle.opfs_laws.proofs.Left.{may-left}
use Rattle.opfs_laws.specs.Histories.Opened.{added}
use Rattle.opfs_machine.specs.Histories.{may_enter}
use Rattle.opfs_machine.specs.Runs.{eviction}
use Rattle.opfs_runner.proofs.Counting.{ended-own, looked-own}
use Rattle.opfs_runner.proofs.Endings.{closes-last}
use Rattle.opfs_runner.specs.AgentRows.Tables.{kinds_of}
use Rattle.opfs_runner.specs.Ending.{Closes}
use Rattle.opfs_runner.specs.RunLaws.Kinds.{open_rows}
use Rattle.opfs_runner.specs.Runs.{HasEntries, HasRun}
use Rattle.opfs_runner.specs.Stepping.{own_entries}
use Rattle.opfs_runner.specs.declared.agent_rows.agent_row.AgentRow.{AgentRow}
use Rattle.opfs_script.specs.Scripts.{Asked}
use Rattle.opfs_script_run.specs.Runs.Running.{entries_of}
use Rattle.opfs_serving.specs.Endings.{EndsBehind, HasLeft}
use Rattle.opfs_serving.specs.Lines.{has_end}
use Rattle.opfs_serving.specs.Seats.{EndsAt, MayEnd, SeatSeen}
use Rattle.opfs_serving.proofs.Showing.{over-behind}
use Rattle.opfs_store.specs.Acts.Acting.{told_entry}
use Rattle.opfs_turns.specs.Agents.{AgentSeen, state_of}
use Rattle.opfs_turns.specs.Calls.{HasEnded, HasLooked, HasRoom, call_of}

some-same : {X : Type 0} {x y : X} → Some x ≡ Some y → x ≡ y
some-same e = cc

-- An agent that may end ends its rows, looks, and then ends itself.
module _ {O : Type 0} (tells : Type 0) (a mid last : AgentSeen O) (pass : PassSeen O Entry) (same : mid.pass ≡ record a.pass { base = mid.pass.base }) (looked : HasLooked mid last) (ended : HasEnded tells last pass) where
  looked-pass : last.pass ≡ record a.pass { base = last.pass.base }
  looked-pass = ap (λ (x : AgentSeen O). x.pass) looked.rest ∙ (λ i. record (same i) { base = last.pass.base })

  whole-pass : pass ≡ record a.pass { base = pass.base }
  whole-pass = ended.rest ∙ (λ i. record (looked-pass i) { base = pass.base })

  pub ends-agent : pass.agent ≡ a.pass.agent
  ends-agent = ap (λ (p : PassSeen O Entry). p.agent) whole-pass

  -- Its end is behind all that it had seen.
  pub ends-behind : (seen : List Entry) → IsPrefix seen last.pass.base → EndsBehind seen pass.agent pass.base
  ends-behind seen front =
      let k = last.pass.agent in
      let e = told_entry (call_of last op.End) ended.answered in
      let more = added last.pending ended.gone e in
      let base : pass.base ≡ seen ++ (front.0 ++ (ended.others ++ more)) =
      ended.grown
      ∙ ap (λ es. (es ++ ended.others) ++ more) front.1
      ∙ ap (λ es. es ++ more) (append_assoc seen front.0 ended.others)
      ∙ append_assoc seen (front.0 ++ ended.others) more
      ∙ ap (λ es. seen ++ es) (append_assoc front.0 ended.others more) in
      let one : has_end k (e ∷ []) ≡ true = ap (λ b. (b && true) || false) (eq-eqb k k refl) in
      let over : has_end k (front.0 ++ (ended.others ++ more)) ≡ true =
      over-behind k front.0 (ended.others ++ more) (over-behind k ended.others more (over-behind k last.pending (map eviction ended.gone ++ e ∷ []) (over-behind k (map eviction ended.gone) (e ∷ []) one))) in
      let agent : k ≡ pass.agent = sym (ap (λ (p : PassSeen O Entry). p.agent) ended.rest) in
      (front.0 ++ (ended.others ++ more), base, subst (λ n. has_end n (front.0 ++ (ended.others ++ more)) ≡ true) agent over)

  pub ends-run : (of : HallSeen O) (rows : List AgentRow) → ((asked : Asked) (whole : Bool) → Closes asked whole (own_entries a) a.number (open_rows 1 (kinds_of rows)) → Closes asked whole (own_entries mid) mid.number [])
      → (k : ℕ) (asked : Asked) (whole : Bool) → MayEnd tells of k asked whole a rows → HasRun of asked k pass whole
  ends-run of rows closes k asked whole may =
      let same_agent : last.pass.agent ≡ a.pass.agent = ap (λ (p : PassSeen O Entry). p.agent) looked-pass in
      let here : last.pass.agent ≡ k = same_agent ∙ may.agent in
      let closed : Closes asked whole (own_entries last) last.number [] =
      subst (λ (x : List Entry × ℕ). Closes asked whole x.0 x.1 []) (sym (λ i. (looked-own mid last looked i, (looked.rest i).number))) (closes asked whole may.closes) in
      record {
        hall = ap (λ (p : PassSeen O Entry). p.hall) whole-pass ∙ may.hall;
        agent_is = ends-agent ∙ may.agent;
        real = λ zero_is. may.kept.real (may.agent ∙ zero_is);
        ended = ap (λ (p : PassSeen O Entry). p.ended) whole-pass ∙ may.alone;
        idle = ap (λ (p : PassSeen O Entry). p.busy) whole-pass ∙ may.kept.idle;
        entries = subst (λ n. HasEntries asked whole (entries_of n pass.base)) here
            (closes-last tells asked whole last (entries_of last.pass.agent pass.base) (told_entry (call_of last op.End) ended.answered) closed refl refl
            (ended-own tells last pass ended (λ zero_is. may.kept.real (sym same_agent ∙ zero_is))));
      }

-- An agent that has looked may still end, and has room.
module _ {O : Type 0} (mid last : AgentSeen O) (looked : HasLooked mid last) where
  pub looked-may : IsTrue (may_enter (state_of mid) mid.pass.agent op.End) → IsTrue (may_enter (state_of last) last.pass.agent op.End)
  looked-may may =
      let agent : mid.pass.agent ≡ last.pass.agent = sym (ap (λ (x : AgentSeen O). x.pass.agent) looked.rest) in
      subst (λ k. IsTrue (may_enter (state_of last) k op.End)) agent (may-left (state_of last) (state_of mid) mid.pass.agent looked.own op.End refl ∙ may)

  pub looked-room : HasRoom mid → HasRoom last
  looked-room room =
      let rows = room.rows in
      let entries = room.entries in
      let same_rows = ap (λ (x : AgentSeen O). x.rows) looked.rest in
      let same_entries = ap (λ (x : AgentSeen O). x.entries) looked.rest in
      record { rows = omega (arith, rows, same_rows); entries = omega (arith, entries, same_entries) }

-- The agent of a seat, which ends with the seat's rows.
module _ {O : Type 0} (tells : Type 0) (of : HallSeen O) (x : SeatSeen O) (here : AgentSeen O) (rows : List AgentRow) (pass : PassSeen O Entry) (there : x.agent ≡ Some here) (rows_are : rows ≡ x.rows)
    (ran : (k : ℕ) (asked : Asked) (whole : Bool) → MayEnd tells of k asked whole here rows → HasRun of asked k pass whole) where
  pub seat-ran : (k : ℕ) (asked : Asked) (whole : Bool) (a : AgentSeen O) → x.agent ≡ Some a → EndsAt tells of k asked whole x a → HasRun of asked k pass whole
  seat-ran k asked whole a is ends =
      ran k asked whole (subst (λ (b : AgentSeen O). MayEnd tells of k asked whole b rows) (some-same (sym is ∙ there)) (subst (MayEnd tells of k asked whole a) (sym rows_are) ends))

  -- The owner's pass has learned, and collects it.
  pub has-left : {T : Type 0} (list : T → List Entry) (before now mid after : WatchSeen O Entry T) (from : PassSeen O Entry) → now ≡ before → EndsBehind (list before.last) pass.agent pass.base → pass.agent ≡ here.pass.agent → pass.ended ≡ [] → from ≡ pass → mid.pass ≡ record now.pass { base = pass.base }
      → mid.last ≡ now.last → after.pass ≡ joined mid.pass from → after.last ≡ mid.last → (a : AgentSeen O) → x.agent ≡ Some a → HasLeft list tells of x a before after
  has-left {T} list before now mid after from still over agent alone same learned kept collected last a is =
      let agent_is : pass.agent ≡ a.pass.agent = agent ∙ ap (λ (b : AgentSeen O). b.pass.agent) (some-same (sym there ∙ is)) in
      record {
        base = pass.base;
        last = last ∙ kept ∙ ap (λ (w : WatchSeen O Entry T). w.last) still;
        pass = collected ∙ (λ i. joined (learned i) (same i)) ∙ (λ i. record (still i).pass { base = pass.base; ended = (still i).pass.ended ++ (agent_is i, pass.base) ∷ alone i });
        entries = λ k asked whole ends. (seat-ran k asked whole a is ends).entries;
        over = subst (λ k. EndsBehind (list before.last) k pass.base) agent_is over;
      }
