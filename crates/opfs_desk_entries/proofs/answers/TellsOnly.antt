-- A call that only tells, put together.
use Rattle.std.proofs.Common.{◌≡◌, ℕ, zero, suc, List, [], ◌++◌, length, None, refl, sym, ap, ◌∙◌, subst, arith}
use Rattle.std.specs.Prelude.{slice_get}
use Rattle.opfs_store.specs.Acts.Acting.{IsGift, told_entry}
use Rattle.opfs_store.specs.declared.acts.acted.Gift.{Gift}
use Rattle.opfs_base.specs.Texts.{Text}
use Rattle.opfs_books.specs.Laws.Books.{Fixed}
use Rattle.opfs_books.specs.Laws.Laws.{BooksShowTheirImages}
use Rattle.opfs_pages.specs.HistoryLaws.Laws.{BlocksGoOn}
use Rattle.opfs_pages.specs.HistoryLaws.Open.{if_open, open_at}
use Rattle.opfs_pages.specs.HistoryLaws.Spaced.{AreSpaced}
use Rattle.opfs_hist.specs.declared.entry.Entry.{Entry}
use Rattle.opfs_hist.specs.declared.reply.Reply.{Reply}
use Rattle.opfs_laws.specs.Leaving.{row_used}
use Rattle.opfs_laws.proofs.Numbers.{IsNumber}
use Rattle.opfs_laws.specs.Lengths.Bridge.{LengthsDecideEachRuling, LengthsFollowEachCall, LocalCallsAreKnownByTheirWord}
use Rattle.opfs_machine.specs.declared.own.Outline.{Outline}
use Rattle.opfs_machine.specs.declared.own.Own.{Own}
use Rattle.opfs_machine.specs.declared.state.Agent.{Agent}
use Rattle.opfs_machine.specs.declared.state.State.{State}
use Rattle.opfs_machine.specs.Agents.{agent_of, own_of}
use Rattle.opfs_machine.specs.Histories.{state_after}
use Rattle.opfs_outside.specs.declared.disk.Disk.{Ghosts as DiskWords}
use Rattle.opfs_records.specs.Replay.Built.{Built}
use Rattle.opfs_pages.specs.RowCalls.Plans.{shelf}
use Rattle.opfs_state_rows.specs.Standing.Seen.{Machine}
use Rattle.opfs_state.specs.Laws.Readied.{StaysReadyAsNoted}
use Rattle.opfs_tree.specs.Rows.{Rows as Tree}
use Rattle.opfs_state.specs.Verdicts.Callers.{IsAgent}
use Rattle.opfs_work.specs.Works.{WorkingCopy}
use Rattle.opfs_desk_steps.specs.Parts.Acted.{HasActed}
use Rattle.opfs_desk_steps.specs.Parts.Answered.{IsAnswered}
use Rattle.opfs_desk_steps.specs.Parts.Seen.{machine_in, tree_in, call_in, units_in}
use Rattle.opfs_desk_steps.specs.declared.parts.call.ReadyCall.{ReadyCall}
use Rattle.opfs_desk_steps.specs.declared.parts.parts.Ledger.{Ledger}
use Rattle.opfs_desk_steps.specs.declared.parts.parts.OpenPages.{OpenPages}
use Rattle.opfs_desk_steps.specs.declared.parts.parts.DeskParts.{DeskParts}
use Rattle.opfs_desk_steps.specs.RowLaws.InHand.{RowsInHandAreLaid}
use Rattle.opfs_desk_steps.specs.Acting.{CallsAreActed}
use Rattle.opfs_desk_steps.specs.Answering.{ReadyCallsAreAnswered, IsReply}
use Rattle.opfs_desk_steps.specs.Ready.{AskedCallsAreReady}
use Rattle.opfs_desk_steps.proofs.book_steps.LaidStays.{spaced-stays}
use Rattle.opfs_desk_steps.specs.Going.{HasTakenIn, HasTold}
use Rattle.opfs_desk_entries.specs.Answers.Silent.{BeginsCall, LeavesClosed, told_act}
use Rattle.opfs_desk_entries.specs.Answers.Telling.{IsTelling, TellsOnly}
use Rattle.opfs_desk_entries.proofs.answers.Closed.{none-rowed}
use Rattle.opfs_desk_entries.proofs.answers.Noted.{tells-mid}
use Rattle.opfs_desk_entries.proofs.answers.Silent.{ready, answered, has-acted}
use Rattle.opfs_desk_entries.proofs.answers.Words.{KeepsOwn, keeps-own, closed-row, in-hand, leaves-none, no-eviction, no-units, not-near, sized, tree-stays}

pub number-in : (m : Machine) (k : ℕ) → IsAgent m k → IsNumber m k
number-in m zero agent = absurd (omega (arith, agent.above))
number-in m (suc i) agent = record { index = i; is = refl; within = omega (arith, agent.within) }

same-open : (a b : Agent Outline) (n : ℕ) → b.own ≡ a.own → if_open (own_of b n) ≡ if_open (own_of a n)
same-open a b zero is = refl
same-open a b (suc n) is = ap (λ (xs : List Outline). if_open (slice_get xs n)) is

module _ {D : Type 0} (w : DiskWords D) (asks : AskedCallsAreReady w) (answers : ReadyCallsAreAnswered w) (decide : LengthsDecideEachRuling) (follow : LengthsFollowEachCall) (local : LocalCallsAreKnownByTheirWord) (noted : StaysReadyAsNoted)
    (f : Fixed D) (recorded : Built) (l mid : Ledger D) (p : OpenPages) (calls : List Entry) (c : ReadyCall) (work : WorkingCopy) (past : List Text) (r : Reply)
    (begins : BeginsCall w f recorded l p calls c work past) (telling : IsTelling w.tells f.opening l.books.history calls l.books.state c work past r) (took : HasTakenIn w f recorded l mid p calls c) where
  abbrev base : State Text Own
  base = state_after f.opening mid.books.history

  pub agent-was : IsAgent (machine_in l) c.agent
  agent-was = (asks.taken f recorded l p calls c work past begins.held begins.asked).agent

  pub only : TellsOnly (machine_in mid) c.agent c.op
  only = tells-mid w follow local f recorded l p calls c work past begins agent-was mid took noted telling.only

  pub agent-is : IsAgent (machine_in mid) c.agent
  agent-is = (ready w asks answers f recorded l mid p calls c work past begins took).agent

  none : units_in c.clearing.items ≡ []
  none =
      no-units decide base c.agent c.op (units_in c.clearing.items) (subst (λ (m : Machine). TellsOnly m c.agent c.op) took.held.books.machine only)
      (ready w asks answers f recorded l mid p calls c work past begins took).judged

  its : IsReply w.tells base c r
  its = subst (λ (es : List Entry). IsReply w.tells (state_after f.opening es) c r) (sym took.taken.entries) telling.reply

  pub may-come : IsAnswered w base [] mid (told_entry (call_in c) r) c.sizes
  may-come = answered w asks answers f recorded l mid p calls c work past begins took none r its (sized (machine_in mid) c.sizes c.agent c.op only.word)

  shut-mid : open_at (machine_in mid) c.agent (row_used c.op) ≡ None
  shut-mid =
      ap (λ (m : Machine). open_at m c.agent (row_used c.op)) took.held.books.machine
      ∙ closed-row base c.agent c.op only.word (ready w asks answers f recorded l mid p calls c work past begins took).fitting

  closed : LeavesClosed p p base c (row_used c.op)
  closed = record {
    plain = no-eviction c.op only.word;
    in_hand = in-hand base c.agent c.op only.word;
    left = λ rows. leaves-none rows c.op only.word;
    near = not-near c.op only.word;
    others = λ k n apart. refl;
    gone = none-rowed (machine_in mid) p.swap c.agent (row_used c.op) (took.held.laid.rows c.agent (row_used c.op)) shut-mid;
    base = refl;
    space = refl;
    kept = omega arith;
  }

  module _ (new : Ledger D) (told : HasTold w f recorded mid new p (told_entry (call_in c) r) c.sizes) where
    kept : KeepsOwn (machine_in mid) (machine_in new)
    kept =
        subst (λ (m : Machine). KeepsOwn (machine_in mid) m) (sym told.machine)
        (keeps-own (machine_in mid) c.sizes c.agent c.op (number-in (machine_in mid) c.agent agent-is) only)

    opened : (k n : ℕ) → open_at (machine_in new) k n ≡ open_at (machine_in mid) k n
    opened k n = same-open (agent_of (machine_in mid) k) (agent_of (machine_in new) k) n (kept.own k)

    tree-is : tree_in new ≡ tree_in mid
    tree-is = told.tree ∙ tree-stays (machine_in mid) (tree_in mid) c.agent c.op c.sizes only

    spaced : BlocksGoOn → AreSpaced (machine_in new) (shelf recorded.rows (tree_in new) p.swap) p.space
    spaced blocks =
        subst (λ (t : Tree). AreSpaced (machine_in new) (shelf recorded.rows t p.swap) p.space) (sym tree-is)
        (spaced-stays blocks (machine_in mid) (machine_in new) opened kept.limits recorded.rows (tree_in mid) p.swap p.space took.held.laid.spaced)

    pub tell-acted : RowsInHandAreLaid w → BlocksGoOn → CallsAreActed w → BooksShowTheirImages w → (gift : Gift) → IsGift w.tells (state_after f.opening (l.books.history ++ calls)) c.op r gift
        → (n : ℕ) → n ≡ length (agent_of (machine_in mid) c.agent).own → (old now : DeskParts D) → old.ledger ≡ l → now.ledger ≡ new → now.pages ≡ p
        → HasActed w f old now calls (call_in c) work work (told_act r gift n)
    tell-acted rows blocks acts shows gift given n count old now was is are =
        has-acted w asks answers f recorded l mid p calls c work past begins took none r its (sized (machine_in mid) c.sizes c.agent c.op only.word) telling.done new told p (row_used c.op) closed
        rows (opened c.agent (row_used c.op) ∙ shut-mid) (spaced blocks) acts shows gift given n (count ∙ ap (λ (xs : List Outline). length xs) (sym (kept.own c.agent))) work old now was is are
