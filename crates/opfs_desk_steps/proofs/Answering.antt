-- Once the units of a call that is ready are cleared, its entry may come.
use Rattle.std.proofs.Common.{◌≡◌, ℕ, ◌==◌, ◌&&◌, not, List, [], ◌∷◌, ◌++◌, map, fold, length, refl, sym, ap, ◌∙◌, subst, inl, arith}
use Rattle.std.specs.Prelude.{Ok, IsTrue}
use Rattle.opfs_store.specs.Acts.Acting.{told_entry}
use Rattle.opfs_base.specs.Texts.{Text}
use Rattle.opfs_books.specs.Laws.Books.{Fixed, calls_of, is_eviction, IsNext}
use Rattle.opfs_books.proofs.laws.Counting.{count-append, count-cons}
use Rattle.opfs_state_rows.specs.Changes.Allowed.{MayApply}
use Rattle.opfs_hist.specs.declared.entry.Entry.{Entry}
use Rattle.opfs_hist.specs.declared.reply.Reply.{Reply}
use Rattle.opfs_laws.specs.Histories.Unread.{ReadsLeaveTheState, unread}
use Rattle.opfs_laws.specs.Counting.{AStateCountsItsHistory}
use Rattle.opfs_laws.specs.Lengths.Bridge.{LengthsDecideEachRuling}
use Rattle.opfs_laws.specs.Lengths.Kept.{Kept}
use Rattle.opfs_laws.specs.Lengths.Outlines.{in_lengths_of}
use Rattle.opfs_machine.specs.declared.own.Own.{Own}
use Rattle.opfs_machine.specs.declared.state.Sizes.{Sizes}
use Rattle.opfs_machine.specs.declared.state.State.{State}
use Rattle.opfs_machine.specs.Agents.{agent_of}
use Rattle.opfs_machine.specs.Histories.{may_enter, state_after}
use Rattle.opfs_machine.specs.Replies.{answer, sizes_of}
use Rattle.opfs_machine.specs.Runs.{eviction}
use Rattle.opfs_machine.specs.Steps.{evicted, step, judged}
use Rattle.opfs_outside.specs.declared.disk.Disk.{Ghosts as DiskWords}
use Rattle.opfs_state_rows.specs.Standing.Seen.{Machine}
use Rattle.opfs_state.specs.Laws.Room.{EvictionsMakeRoom, HasRoom}
use Rattle.opfs_state.specs.Verdicts.Callers.{IsAgent}
use Rattle.opfs_desk_steps.specs.Parts.Seen.{machine_in, call_in, units_in}
use Rattle.opfs_desk_steps.specs.Parts.Held.{AreHeldWhole}
use Rattle.opfs_desk_steps.specs.declared.parts.call.ReadyCall.{ReadyCall}
use Rattle.opfs_desk_steps.specs.declared.parts.parts.Ledger.{Ledger}
use Rattle.opfs_desk_steps.specs.declared.parts.parts.OpenPages.{OpenPages}
use Rattle.opfs_records.specs.Replay.Built.{Built}
use Rattle.opfs_desk_steps.proofs.book_steps.Real.{has-room, agent-there}
use Rattle.opfs_desk_steps.proofs.book_steps.Turns.{step-victims, step-answer}
use Rattle.opfs_desk_steps.specs.Answering.{IsReply, ReadyCallsAreAnswered}
use Rattle.opfs_desk_steps.specs.Ready.{IsReadyCall}
use Rattle.opfs_desk_steps.proofs.Counts.{own-length}
use Rattle.opfs_desk_steps.proofs.Numbers.{agent-stays}

-- Evictions are no agent's calls.
evictions-none : (k : ℕ) (units : List Text) → calls_of k (map eviction units) ≡ 0
evictions-none k [] = refl
evictions-none k (unit ∷ units) = omega (arith, count-cons (λ (e : Entry). not (is_eviction e) && (e.agent == k)) (eviction unit) (map eviction units), evictions-none k units)

pub calls-cleared : (k : ℕ) (h : List Entry) (units : List Text) → calls_of k (h ++ map eviction units) ≡ calls_of k h
calls-cleared k h units =
    let parts = count-append (λ (e : Entry). not (is_eviction e) && (e.agent == k)) h (map eviction units) in
    omega (arith, parts, evictions-none k units)

-- A call with the machine's reply is one that may come.
pub next-of : {D : Type 0} (w : DiskWords D) (s : State Text Own) (c : ReadyCall) (r : Reply) → IsTrue (agent_of s c.agent).live → IsTrue (may_enter s c.agent c.op) → judged s c.agent c.op ≡ Ok (units_in c.clearing.items)
    → c.sizes ≡ sizes_of s c.agent c.op → IsReply w.tells s c r → IsNext w.tells s (units_in c.clearing.items) (told_entry (call_in c) r)
next-of w s c r live fitting is sizes reply =
    let its : (step s c.agent c.op).answered ≡ answer s c.sizes c.agent c.op = step-answer s c.agent c.op (units_in c.clearing.items) is ∙ ap (λ (z : Sizes). answer s z c.agent c.op) (sym sizes) in
    record {
      real = told_entry (call_in c) (step s c.agent c.op).answered;
      call = record {
        live = live;
        fitting = fitting;
        agrees = inl (record { same_reply = refl; victims = sym (step-victims s c.agent c.op (units_in c.clearing.items) is) });
      };
      alike = ap (λ (x : Reply). told_entry (call_in c) x) (reply.alike ∙ ap unread (sym its));
      told = λ t. ap (λ (x : Reply). told_entry (call_in c) x) (reply.told t ∙ sym its);
    }

module _ {D : Type 0} (w : DiskWords D) (reads : ReadsLeaveTheState) (counts : AStateCountsItsHistory) (make : EvictionsMakeRoom) (decide : LengthsDecideEachRuling) where
  room-of : (f : Fixed D) (recorded : Built) (l : Ledger D) (p : OpenPages) (c : ReadyCall) → AreHeldWhole w f recorded l p → IsReadyCall (state_after f.opening l.books.history) l c
      → HasRoom (state_after f.opening l.books.history) c.agent c.op (units_in c.clearing.items)
  room-of f recorded l p c held ready =
      has-room w.tells f.opening l.books.history reads held.books.told counts held.tied.keys c.agent c.op ready.fitting make decide held.books.whole (units_in c.clearing.items) ready.judged

  pub ready-answered : ReadyCallsAreAnswered w
  ready-answered = record {
    clearing = λ f recorded l p c r held ready disk. record {
      fixed = f;
      recorded = recorded;
      pages = p;
      are = held;
      judged = record { live = ready.live; fitting = ready.fitting; judged = ready.judged; disk = disk };
      prepared = ready.prepared;
      evictions = ready.evictions;
      placed = ready.placed;
    };
    others = λ f recorded l p c front unit rest held ready split. (room-of f recorded l p c held ready).others front unit rest split;
    answered = λ f recorded next l new p q c r held ready cleared then reply sized.
        let base = state_after f.opening l.books.history in
        let units = units_in c.clearing.items in
        let room = room-of f recorded l p c held ready in
        let machine : machine_in new ≡ in_lengths_of (fold evicted base units) = then.books.machine in
        let same : sizes_of (fold evicted base units) c.agent c.op ≡ c.sizes = room.sizes ∙ sym ready.sizes in
        let stays = agent-stays base units c.agent in
        record {
          next = next-of w base c r ready.live ready.fitting ready.judged ready.sizes reply;
          turn = refl;
          sizes = sym same;
          change = record {
            agent = subst (λ (m : Machine). IsAgent m c.agent) (sym machine) (agent-there (fold evicted base units) c.agent (ap (λ a. a.live) stays ∙ ready.live));
            kept = subst Kept (sym machine) room.kept;
            may = subst (λ (m : Machine). MayApply m c.sizes c.agent c.op) (sym machine) (subst (λ (z : Sizes). MayApply (in_lengths_of (fold evicted base units)) z c.agent c.op) (sym ready.sizes) room.may);
            sized = sized;
            prepared = cleared.prepared;
            few =
                let after : length (agent_of (machine_in new) c.agent).own ≡ length (agent_of base c.agent).own =
                ap (λ (m : Machine). length (agent_of m c.agent).own) machine ∙ (own-length (fold evicted base units) c.agent ∙ ap (λ a. length a.own) stays)
                in
                let before : length (agent_of (machine_in l) c.agent).own ≡ length (agent_of base c.agent).own =
                ap (λ (m : Machine). length (agent_of m c.agent).own) held.books.machine ∙ own-length base c.agent
                in
                omega (arith, after, before, ready.rows);
            placed = record {
              first = ready.placed.first;
              last = ready.placed.last;
              rest = let same = ap (calls_of c.agent) cleared.entries ∙ calls-cleared c.agent l.books.history units in omega (arith, same, ready.placed.rest);
            };
          };
        };
  }
