-- A call that changes something which is no content, put together from its steps, whatever it is.
use Rattle.std.proofs.Common.{◌≡◌, ℕ, zero, suc, Bool, true, false, List, [], ◌++◌, fold, length, None, Some, refl, sym, ap, subst, ◌∙◌, append-nil}
use Rattle.std.proofs.lemmas.Bool.{false≢true, true≢false}
use Rattle.opfs_store.specs.Acts.Acting.{told_entry, row_left, StandsForLeft, unread_gift}
use Rattle.opfs_base.specs.Texts.{Text}
use Rattle.opfs_books.specs.Stored.Laws.{CallsAreSpelled, CallsMayFail}
use Rattle.opfs_books.specs.Stored.Spelled.{spelled_by}
use Rattle.opfs_books.specs.Laws.Books.{Fixed}
use Rattle.opfs_books.specs.Laws.Laws.{BooksKeepTheState, failed}
use Rattle.opfs_books.proofs.laws.Told.{next-state, next-reply}
use Rattle.opfs_state_rows.specs.Changes.Changed.{tree_by}
use Rattle.opfs_codec.specs.declared.change.Change.{Change as Spelled}
use Rattle.opfs_pages.specs.HistoryLaws.Laws.{BlocksGoOn}
use Rattle.opfs_hist.specs.Faults.{is_disk_fault}
use Rattle.opfs_hist.specs.declared.entry.Entry.{Entry}
use Rattle.opfs_hist.specs.declared.op.Op.{Op}
use Rattle.opfs_hist.specs.declared.reply.Refusal.TheVariants as refusal
use Rattle.opfs_hist.specs.declared.reply.Reply.{Reply}
use Rattle.opfs_hist.specs.declared.reply.Reply.TheVariants as reply
use Rattle.opfs_laws.proofs.histories.Adding.{calls-added}
use Rattle.opfs_machine.specs.declared.own.Own.{Own}
use Rattle.opfs_machine.specs.declared.state.Agent.{Agent}
use Rattle.opfs_machine.specs.declared.state.State.{State}
use Rattle.opfs_machine.specs.Agents.{agent_in, agent_of, counted}
use Rattle.opfs_machine.specs.Contents.{in_bytes}
use Rattle.opfs_machine.specs.Effects.{effect, refused}
use Rattle.opfs_machine.specs.Histories.{IsCall, state_after}
use Rattle.opfs_machine.specs.Replies.{sizes_of}
use Rattle.opfs_machine.specs.Steps.{evicted, after_reply, is_refusal}
use Rattle.opfs_outside.specs.declared.disk.Disk.{Ghosts as DiskWords}
use Rattle.opfs_records.specs.Replay.Built.{Built}
use Rattle.opfs_space.specs.Room.{Machine}
use Rattle.opfs_work.specs.Works.{WorkingCopy}
use Rattle.opfs_desk_steps.specs.Parts.Acted.{HasActed, HasFailed}
use Rattle.opfs_desk_steps.specs.Parts.Answered.{IsAnswered}
use Rattle.opfs_desk_steps.specs.Parts.Asked.{IsAsked}
use Rattle.opfs_desk_steps.specs.Parts.Held.{AreHeldWhole}
use Rattle.opfs_desk_steps.specs.Parts.Seen.{machine_in, tree_in, call_in, units_in}
use Rattle.opfs_desk_steps.specs.declared.parts.call.ReadyCall.{ReadyCall}
use Rattle.opfs_desk_steps.specs.declared.parts.parts.Ledger.{Ledger}
use Rattle.opfs_desk_steps.specs.declared.parts.parts.OpenPages.{OpenPages}
use Rattle.opfs_desk_steps.proofs.book_steps.LaidStays.{LaidBeside}
use Rattle.opfs_desk_steps.proofs.book_steps.Loop.{Falls}
use Rattle.opfs_desk_steps.specs.Acting.{CallsAreActed}
use Rattle.opfs_desk_steps.specs.Answering.{ReadyCallsAreAnswered, IsReply}
use Rattle.opfs_desk_steps.specs.Ready.{IsReadyCall, AskedCallsAreReady}
use Rattle.opfs_desk_steps.proofs.Counts.{own-length}
use Rattle.opfs_desk_steps.proofs.Numbers.{agent-stays}
use Rattle.opfs_desk_entries.specs.KeptBack.Changing.{HasChanged, HasNotChanged}
use Rattle.opfs_desk_steps.specs.Going.{HasTakenIn, HasMadeWay, IsTidy}
use Rattle.opfs_desk_entries.specs.KeptBack.Steps.{changed_act}
use Rattle.opfs_desk_entries.specs.KeptBack.Words.{IsQuietCall}
use Rattle.opfs_desk_entries.proofs.kept_back.Changed.{changed-held}
use Rattle.opfs_desk_entries.proofs.kept_back.Fewer.{HasNoMore}
use Rattle.opfs_desk_entries.proofs.kept_back.Shown.{way-ended, has-failed}

no-fault : (r : Reply) → is_refusal r ≡ false → is_disk_fault r ≡ false
no-fault (reply.No x) done = absurd (true≢false done)
no-fault r done = refl

-- The state after a call that is not refused.
abbrev state_by : Bool → State Text Own → ℕ → Op → State Text Own
state_by refuses s k o = elim refuses [ true ↦ refused s k o | false ↦ effect in_bytes s (sizes_of s k o) k o ]

after-done : (s : State Text Own) (k : ℕ) (o : Op) (r : Reply) → is_refusal r ≡ false → after_reply s k o r ≡ counted (effect in_bytes s (sizes_of s k o) k o) k
after-done s k o r done = ap (λ b. counted (state_by b s k o) k) done

module _ {D : Type 0} (w : DiskWords D) (asks : AskedCallsAreReady w) (answers : ReadyCallsAreAnswered w)
    (f : Fixed D) (recorded : Built) (l mid back : Ledger D) (p : OpenPages) (calls : List Entry) (c : ReadyCall) (work : WorkingCopy) (r : Reply)
    (held : AreHeldWhole w f recorded l p) (asked : IsAsked w.tells f.opening l.books.history calls l.books.state c work []) (took : HasTakenIn w f recorded l mid p calls c) (words : IsQuietCall c.agent c.op r) where
  abbrev pub base : State Text Own
  base = state_after f.opening mid.books.history

  abbrev pub units : List Text
  units = units_in c.clearing.items

  abbrev pub s : State Text Own
  s = fold evicted base units

  abbrev pub entry : Entry
  entry = told_entry (call_in c) r

  pub ready : IsReadyCall base mid c
  ready = asks.ready f recorded l mid p calls c work [] held asked took.taken.entries took.held took.prepared

  -- ---- its agent has as many rows as before

  rows-base : length (agent_of (machine_in mid) c.agent).own ≡ length (agent_of base c.agent).own
  rows-base = ap (λ (m : Machine). length (agent_of m c.agent).own) took.held.books.machine ∙ own-length base c.agent

  failed-agent : (new : Ledger D) (q : OpenPages) → HasFailed w f entry mid new q → agent_of (state_after f.opening new.books.history) c.agent ≡ agent_of base c.agent
  failed-agent new q fail =
      let e = failed entry in
      let gone = fail.gone in
      let t = fold evicted base gone in
      ap (λ (es : List Entry). agent_of (state_after f.opening es) c.agent) fail.grown
      ∙ ap (λ (x : State Text Own). agent_of x c.agent)
      (calls-added.state f.opening mid.books.history [] c.agent gone e tt (subst (λ (es : List Entry). IsCall (state_after f.opening es) gone e) (sym (append-nil mid.books.history)) fail.call)
      ∙ ap (λ (es : List Entry). after_reply (fold evicted (state_after f.opening es) gone) c.agent c.op (reply.No refusal.DiskFault)) (append-nil mid.books.history))
      ∙ ap (λ (agents : List (Agent Own)). agent_in agents c.agent) (ap (λ (x : State Text Own). x.agents) (words.refused t))
      ∙ agent-stays base gone c.agent

  pub rows-failed : (new : Ledger D) (q : OpenPages) → HasFailed w f entry mid new q → length (agent_of (machine_in mid) c.agent).own ≡ length (agent_of (state_after f.opening new.books.history) c.agent).own
  rows-failed new q fail = rows-base ∙ sym (ap (λ a. length a.own) (failed-agent new q fail))

  module _ (its : IsReply w.tells base c r) (way : HasMadeWay w f mid back p c) where
    pub answered : IsAnswered w base units back entry c.sizes
    answered =
        answers.answered f recorded way.cleared.recorded mid back p p c r took.held ready (record { entries = way.entries; prepared = way.prepared }) way.cleared.are its
        (words.sized (machine_in back) c.sizes)

    module _ (tidy : IsTidy back) (own : Spelled) (spelled : spelled_by (machine_in back) (tree_in back) c.agent c.op c.sizes None ≡ Some own) (states : BooksKeepTheState w) (spells : CallsAreSpelled) (fails : CallsMayFail w.tells) (falls : Falls w) (new : Ledger D) where
      -- ---- the disk failed in the commit

      pub failed-then : HasNotChanged w f way.cleared.recorded base units back new p entry own → HasFailed w f entry mid new p
      failed-then not = has-failed w f states spells fails falls mid back new p units entry c.sizes own way.entries way.cleared answered words.done tidy spelled words.plain not

      -- ---- the call was entered

      module _ (changed : HasChanged w f way.cleared.recorded base units back new p entry c.sizes own) (less : HasNoMore (machine_in back) (tree_in back) (tree_by (machine_in back) (tree_in back) c.agent c.op c.sizes None))
          (beside : LaidBeside w.tells) (blocks : BlocksGoOn) where
        held-now : AreHeldWhole w f changed.next new p
        held-now = changed-held w beside blocks f way.cleared.recorded base units back new p entry c.sizes own way.cleared.are words less changed

        state-is : state_after f.opening new.books.history ≡ counted (effect in_bytes s (sizes_of s c.agent c.op) c.agent c.op) c.agent
        state-is =
            ap (λ (es : List Entry). state_after f.opening es) changed.entries
            ∙ (next-state w.tells f.opening back.books.history base units way.cleared.are.books.told entry answered.next
            ∙ next-reply w.tells f.opening back.books.history base units way.cleared.are.books.told entry answered.next)
            ∙ after-done s c.agent c.op r words.done

        agent-now : agent_of (state_after f.opening new.books.history) c.agent ≡ agent_of base c.agent
        agent-now =
            ap (λ (x : State Text Own). agent_of x c.agent) state-is
            ∙ (ap (λ (agents : List (Agent Own)). agent_in agents c.agent) (words.agents s (sizes_of s c.agent c.op))
            ∙ agent-stays base units c.agent)

        rows-now : length (agent_of (machine_in mid) c.agent).own ≡ length (agent_of (state_after f.opening new.books.history) c.agent).own
        rows-now = rows-base ∙ sym (ap (λ a. length a.own) agent-now)

        none-left : (n : ℕ) → n ≡ 0 → StandsForLeft w.tells f.opening new.books.history c.agent n work
        none-left zero is = tt
        none-left (suc n) is = absurd (impossible n is)
          where
            impossible : (i : ℕ) → suc i ≡ 0 → ⊥
            impossible i e = cc

        pub has-acted : CallsAreActed w → (rows : ℕ) → rows ≡ length (agent_of (machine_in mid) c.agent).own
            → HasActed w f (record { ledger = l; pages = p }) (record { ledger = new; pages = p }) calls (call_in c) work work (changed_act r rows)
        has-acted acts rows rows_are = record {
          held = record { recorded = changed.next; are = held-now; idle = changed.idle };
          acted = acts.acted f l mid back new calls units c r took.taken (record { cleared = way.entries; added = changed.entries }) answered.next;
          left = record {
            refused = λ refuses. absurd (false≢true (sym words.done ∙ refuses));
            stands = λ yes_done. none-left (row_left (length (agent_of (state_after f.opening new.books.history) c.agent).own) c.op) (words.left _);
            near = λ yes_done brings. absurd (false≢true (sym words.near ∙ brings));
          };
          gift =
              let none = words.gift (state_after f.opening (l.books.history ++ calls)) in
              record { alike = ap unread_gift (sym none); told = λ t. sym none };
          rows = rows_are ∙ rows-now;
          fault = λ fault. absurd (false≢true (sym (no-fault r words.done) ∙ fault));
          way =
              acts.before f recorded l mid new p c.agent calls _ held asked.may.pending took.taken
              (way-ended w f states spells fails falls mid back new p units entry c.sizes own way.entries way.cleared answered words.done tidy spelled words.plain changed.entries changed.shown);
        }
