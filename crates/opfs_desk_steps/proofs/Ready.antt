-- A call that is asked for: its agent's pending calls may be taken in, and then it is ready.
use Rattle.std.proofs.Common.{◌≡◌, ℕ, ◌≤◌, List, ◌++◌, length, sym, ap, ◌∙◌, subst, arith}
use Rattle.std.specs.Prelude.{count_by, ◌==◌, IsTrue}
use Rattle.opfs_base.specs.Texts.{Text}
use Rattle.opfs_books.specs.Laws.Books.{Fixed}
use Rattle.opfs_hist.specs.declared.entry.Entry.{Entry}
use Rattle.opfs_laws.specs.Histories.Unread.{ReadsLeaveTheState}
use Rattle.opfs_laws.specs.Lengths.Bridge.{LengthsFollowEachCall, LocalCallsAreKnownByTheirWord}
use Rattle.opfs_machine.specs.declared.own.Own.{Own}
use Rattle.opfs_machine.specs.declared.state.State.{State}
use Rattle.opfs_machine.specs.Agents.{agent_of}
use Rattle.opfs_machine.specs.Histories.{may_enter, state_after}
use Rattle.opfs_machine.specs.Replies.{sizes_of}
use Rattle.opfs_machine.specs.Steps.{judged}
use Rattle.opfs_outside.specs.declared.disk.Disk.{Ghosts as DiskWords}
use Rattle.opfs_records.specs.Replay.Built.{Built}
use Rattle.opfs_state_rows.specs.Standing.Seen.{Machine}
use Rattle.opfs_state.specs.Verdicts.Callers.{IsAgent}
use Rattle.opfs_desk_steps.specs.Parts.Held.{AreHeldWhole}
use Rattle.opfs_desk_steps.specs.Parts.Seen.{machine_in}
use Rattle.opfs_desk_steps.specs.declared.parts.parts.Ledger.{Ledger}
use Rattle.opfs_desk_steps.specs.declared.parts.parts.OpenPages.{OpenPages}
use Rattle.opfs_desk_steps.proofs.book_steps.Real.{real, real-legal, real-state, agent-there}
use Rattle.opfs_desk_steps.specs.Ready.{AskedCallsAreReady}
use Rattle.opfs_desk_steps.proofs.Numbers.{live-within}
use Rattle.opfs_desk_steps.proofs.Counts.{calls-less, pending-entries, live-before, own-length, pending-rows}

module _ {D : Type 0} (w : DiskWords D) (reads : ReadsLeaveTheState) (follow : LengthsFollowEachCall) (local : LocalCallsAreKnownByTheirWord) where
  -- There is an agent of the number, which is 64 at most.
  pub agent-of : (f : Fixed D) (recorded : Built) (l : Ledger D) (p : OpenPages) (k : ℕ) → AreHeldWhole w f recorded l p → IsTrue (agent_of (state_after f.opening l.books.history) k).live → IsAgent (machine_in l) k
  agent-of f recorded l p k held live = subst (λ (m : Machine). IsAgent m k) (sym held.books.machine) (agent-there (state_after f.opening l.books.history) k live)

  pub last-of : (f : Fixed D) (recorded : Built) (l : Ledger D) (p : OpenPages) (k : ℕ) → AreHeldWhole w f recorded l p → IsTrue (agent_of (state_after f.opening l.books.history) k).live → k ≤ 64
  last-of f recorded l p k held live =
      let h = l.books.history in
      let told = held.books.told in
      omega (
        arith,
        live-within f.opening (real w.tells f.opening h reads told) k (real-legal w.tells f.opening h reads told)
            (subst (λ (s : State Text Own). IsTrue (agent_of s k).live) (real-state w.tells f.opening h reads told) live),
        held.tied.agents,
      )

  pub asked-ready : AskedCallsAreReady w
  asked-ready = record {
    taken = λ f recorded l p calls c work past held asked.
        let h = l.books.history in
        let live = live-before w.tells f.opening h calls c.agent asked.may.pending asked.may.live in
        let agent = agent-of f recorded l p c.agent held live in
        record {
          fixed = f;
          recorded = recorded;
          pages = p;
          are = held;
          pending = asked.may.pending;
          agent = agent;
          last = last-of f recorded l p c.agent held live;
          entries = pending-entries w.tells f.opening h calls c.agent asked.may.pending asked.may.place.entries;
          rows = omega (arith, pending-rows follow local w.tells f.opening h calls c.agent asked.may.pending (machine_in l) held.books.machine agent, asked.may.place.rows);
        };
    rows = λ f recorded l p calls c work past held asked.
        let h = l.books.history in
        let live = live-before w.tells f.opening h calls c.agent asked.may.pending asked.may.live in
        pending-rows follow local w.tells f.opening h calls c.agent asked.may.pending (machine_in l) held.books.machine (agent-of f recorded l p c.agent held live);
    ready = λ f recorded l new p calls c work past held asked entries then prepared.
        let same = ap (λ (es : List Entry). state_after f.opening es) entries in
        let live = subst (λ (s : State Text Own). IsTrue (agent_of s c.agent).live) (sym same) asked.may.live in
        let agent = agent-of f recorded new p c.agent then live in
        let few = asked.may.place in
        record {
          live = live;
          fitting = subst (λ (s : State Text Own). IsTrue (may_enter s c.agent c.op)) (sym same) asked.may.fitting;
          sizes = asked.sizes ∙ ap (λ (s : State Text Own). sizes_of s c.agent c.op) (sym same);
          judged = ap (λ (s : State Text Own). judged s c.agent c.op) same ∙ asked.judged;
          evictions = asked.evictions;
          prepared = prepared;
          agent = agent;
          placed = record {
            first = omega (arith, agent.above);
            last = last-of f recorded new p c.agent then live;
            rest = let few = subst (λ (es : List Entry). count_by (λ e. e.agent == c.agent) es ≤ 60000001) (sym entries) asked.may.place.entries in omega (arith, calls-less c.agent new.books.history, few);
          };
          rows =
              let length-is : length (agent_of (machine_in new) c.agent).own ≡ length (agent_of (state_after f.opening (l.books.history ++ calls)) c.agent).own =
              ap (λ (m : Machine). length (agent_of m c.agent).own) then.books.machine ∙ (own-length (state_after f.opening new.books.history) c.agent ∙ ap (λ (s : State Text Own). length (agent_of s c.agent).own) same)
              in
              omega (arith, length-is, asked.may.place.rows);
        };
  }
