-- A call that ends a row, put together.
use Rattle.std.proofs.Common.{◌≡◌, ℕ, ◌+◌, ◌≤◌, Bool, true, false, slice_index_or, List, [], ◌++◌, length, unwrap_or, Option, Some, None, refl, sym, ap, ◌∙◌, subst, inl, inr}
use Rattle.std.specs.Prelude.{◌⊎◌, IsTrue}
use Rattle.opfs_store.specs.Acts.Acting.{told_entry, unread_gift}
use Rattle.opfs_store.specs.Acts.Asking.{names_open}
use Rattle.opfs_store.specs.declared.acts.acted.Gift.TheVariants as gift
use Rattle.opfs_base.specs.Texts.{Text}
use Rattle.opfs_books.specs.Laws.Books.{Fixed}
use Rattle.opfs_books.specs.Laws.Laws.{BooksShowTheirImages}
use Rattle.opfs_data.specs.Pages.{blank}
use Rattle.opfs_data.specs.Rows.{Rows, row_of, no_row, kept_count, OthersStay}
use Rattle.opfs_pages.specs.HistoryLaws.Hands.{row_in_hand}
use Rattle.opfs_pages.specs.HistoryLaws.Laws.{BlocksGoOn, CallsLeaveOtherRows, TreesKeepBlocks}
use Rattle.opfs_pages.specs.HistoryLaws.Open.{open_at, OthersStayOpen}
use Rattle.opfs_pages.specs.HistoryLaws.RowsAfter.{CallsChangeTheirRow}
use Rattle.opfs_pages.specs.HistoryLaws.Shelves.{HasSameBlocks}
use Rattle.opfs_pages.specs.HistoryLaws.Spaced.{AreSpaced}
use Rattle.opfs_pages.proofs.history_laws.Begun.{other-or}
use Rattle.opfs_hist.specs.Sums.{asks_for_row}
use Rattle.opfs_hist.specs.declared.entry.Entry.{Entry}
use Rattle.opfs_hist.specs.declared.reply.Reply.TheVariants as reply
use Rattle.opfs_laws.specs.Histories.Unread.{unread}
use Rattle.opfs_laws.specs.Leaving.{ACallMovesItsAgent, IsMoved}
use Rattle.opfs_laws.specs.Lengths.Bridge.{LengthsDecideEachRuling, LengthsFollowEachCall, LocalCallsAreKnownByTheirWord}
use Rattle.opfs_laws.specs.Lengths.Outlines.{in_lengths_of}
use Rattle.opfs_machine.specs.declared.own.Own.{Own}
use Rattle.opfs_machine.specs.declared.state.State.{State}
use Rattle.opfs_machine.specs.Agents.{agent_of}
use Rattle.opfs_machine.specs.Histories.{state_after}
use Rattle.opfs_machine.specs.Replies.{row_named}
use Rattle.opfs_machine.specs.Steps.{after_reply}
use Rattle.opfs_outside.specs.declared.disk.Disk.{Ghosts as DiskWords}
use Rattle.opfs_records.specs.Replay.Built.{Built}
use Rattle.opfs_pages.specs.RowCalls.Plans.{shelf}
use Rattle.opfs_space.specs.Holders.{HasPage}
use Rattle.opfs_state_rows.specs.Standing.Seen.{Machine}
use Rattle.opfs_tree.specs.Rows.{Rows as Tree}
use Rattle.opfs_state.specs.Verdicts.Callers.{IsAgent}
use Rattle.opfs_work.specs.Works.{WorkingCopy}
use Rattle.opfs_desk_steps.specs.Parts.Acted.{HasActed}
use Rattle.opfs_desk_steps.specs.Parts.Answered.{IsAnswered}
use Rattle.opfs_desk_steps.specs.Parts.Seen.{machine_in, tree_in, call_in, units_in}
use Rattle.opfs_desk_steps.specs.declared.parts.call.ReadyCall.{ReadyCall}
use Rattle.opfs_desk_steps.specs.declared.parts.parts.Ledger.{Ledger}
use Rattle.opfs_desk_steps.specs.declared.parts.parts.OpenPages.{OpenPages}
use Rattle.opfs_desk_steps.specs.declared.parts.parts.DeskParts.{DeskParts}
use Rattle.opfs_desk_steps.specs.RowLaws.InHand.{RowsInHandAreLaid}
use Rattle.opfs_desk_steps.specs.Acting.{CallsAreActed}
use Rattle.opfs_desk_steps.specs.Answering.{ReadyCallsAreAnswered, IsReply}
use Rattle.opfs_desk_steps.specs.Ready.{AskedCallsAreReady}
use Rattle.opfs_desk_steps.proofs.Counts.{own-length}
use Rattle.opfs_desk_steps.specs.Going.{HasTakenIn, HasTold}
use Rattle.opfs_desk_entries.specs.Answers.Silent.{BeginsCall, LeavesClosed, told_act}
use Rattle.opfs_desk_entries.proofs.answers.Noted.{mid-noted, sum_of}
use Rattle.opfs_desk_entries.proofs.answers.Silent.{ready, answered, has-acted, machine-is}
use Rattle.opfs_desk_entries.specs.Releases.Leaving.{IsInOrderThrough, is_leaving, leaves_row}
use Rattle.opfs_desk_entries.proofs.releases.Words.{answers-done, has-same, in-hand, leaves-none, leaves-noted, limits-stay, makes-none, no-eviction, no-gift, no-units, not-near, row-closed, sized, word-is}

same-blocks : (t : Tree) → HasSameBlocks t t
same-blocks t = record { named = λ b. refl; has = λ f b. refl }

-- A row that is not there has no page.
none-some : (b : ℕ) → ◌≡◌ {A = Option ℕ} None (Some b) → ⊥
none-some b is = cc

no-page : (swap : Rows) (k n i b : ℕ) → row_of k n swap ≡ None → HasPage swap k n i b → ⊥
no-page swap k n i b gone has = none-some b (sym (ap (λ x. (slice_index_or (unwrap_or x no_row).pages i blank).block) gone) ∙ has)

no-more : (p q : Rows) (agent row : ℕ) → OthersStay agent row p q → row_of agent row q ≡ None → (k n i b : ℕ) → HasPage q k n i b → HasPage p k n i b
no-more p q agent row others gone k n i b has = elim (other-or agent row k n) [
  | inl apart ↦ sym (ap (λ x. (slice_index_or (unwrap_or x no_row).pages i blank).block) (others k n apart)) ∙ has
  | inr is ↦
      absurd
      (no-page q agent row i b gone
      (subst (λ (x : ℕ). HasPage q agent x i b) is.1 (subst (λ (x : ℕ). HasPage q x n i b) is.0 has)))
]

-- The pages with the row taken out.
pub record HasDropped (p q : OpenPages) (agent row : ℕ) : Type 0 where
  pub others : OthersStay agent row p.swap q.swap
  pub gone : row_of agent row q.swap ≡ None
  pub base : q.base ≡ p.base
  pub space : q.space ≡ p.space
  pub kept : kept_count q.swap ≤ kept_count p.swap

more-own : (a b : ℕ) (asks : Bool) → asks ≡ false → (b ≡ a) ⊎ ((b ≡ a + 1) × IsTrue asks) → b ≡ a
more-own a b asks none (inl same) = same
more-own a b asks none (inr more) = absurd (no-way (sym none ∙ more.1))
  where
    no-way : false ≡ true → ⊥
    no-way x = cc

module _ {D : Type 0} (w : DiskWords D) (asks : AskedCallsAreReady w) (answers : ReadyCallsAreAnswered w) (decide : LengthsDecideEachRuling) (follow : LengthsFollowEachCall) (local : LocalCallsAreKnownByTheirWord)
    (f : Fixed D) (recorded : Built) (l mid : Ledger D) (p : OpenPages) (calls : List Entry) (c : ReadyCall) (work : WorkingCopy) (past : List Text)
    (begins : BeginsCall w f recorded l p calls c work past) (word : leaves_row (machine_in l) c.agent c.op ≡ true) (took : HasTakenIn w f recorded l mid p calls c) where
  abbrev base : State Text Own
  base = state_after f.opening mid.books.history

  leaving : is_leaving c.op ≡ true
  leaving = word-is (machine_in l) c.agent c.op word

  agent-was : IsAgent (machine_in l) c.agent
  agent-was = (asks.taken f recorded l p calls c work past begins.held begins.asked).agent

  pub word-mid : leaves_row (machine_in mid) c.agent c.op ≡ true
  word-mid =
      subst (λ (m : Machine). leaves_row m c.agent c.op ≡ true) (sym (mid-noted w follow local f recorded l p calls c work past begins agent-was mid took))
      (leaves-noted (machine_in l) c.agent (sum_of calls) c.op agent-was word)

  pub agent-is : IsAgent (machine_in mid) c.agent
  agent-is = (ready w asks answers f recorded l mid p calls c work past begins took).agent

  none : units_in c.clearing.items ≡ []
  none = no-units decide base c.agent c.op (units_in c.clearing.items) leaving (ready w asks answers f recorded l mid p calls c work past begins took).judged

  its : IsReply w.tells base c reply.Done
  its =
      let done = answers-done base c.sizes c.agent c.op leaving in
      record { alike = ap unread (sym done); told = λ t. sym done }

  pub may-come : IsAnswered w base [] mid (told_entry (call_in c) reply.Done) c.sizes
  may-come = answered w asks answers f recorded l mid p calls c work past begins took none reply.Done its (sized (machine_in mid) c.sizes c.agent c.op leaving)

  module _ (new : Ledger D) (told : HasTold w f recorded mid new p (told_entry (call_in c) reply.Done) c.sizes) (q : OpenPages) (dropped : HasDropped p q c.agent (row_named c.op)) (order : IsInOrderThrough mid c.agent c.op c.sizes) where
    closed : LeavesClosed p q base c (row_named c.op)
    closed = record {
      plain = no-eviction c.op leaving;
      in_hand = in-hand base c.agent c.op leaving;
      left = λ rows. leaves-none rows c.op leaving;
      near = not-near c.op leaving;
      others = dropped.others;
      gone = dropped.gone;
      base = dropped.base;
      space = dropped.space;
      kept = dropped.kept;
    }

    abbrev after : State Text Own
    after = after_reply base c.agent c.op reply.Done

    machine-now : machine_in new ≡ in_lengths_of after
    machine-now = machine-is w asks answers f recorded l mid p calls c work past begins took none reply.Done its (sized (machine_in mid) c.sizes c.agent c.op leaving) refl new told q (row_named c.op) closed

    live : IsTrue (agent_of base c.agent).live
    live = (ready w asks answers f recorded l mid p calls c work past begins took).live

    opened : IsTrue (names_open base c.agent c.op)
    opened = subst (λ (es : List Entry). IsTrue (names_open (state_after f.opening es) c.agent c.op)) (sym took.taken.entries) begins.asked.may.opened

    shut : CallsChangeTheirRow → open_at (machine_in new) c.agent (row_named c.op) ≡ None
    shut changes =
        ap (λ (m : Machine). open_at m c.agent (row_named c.op)) machine-now
        ∙ row-closed changes base c.agent reply.Done (record { live = live; done = refl }) c.op leaving (ready w asks answers f recorded l mid p calls c work past begins took).fitting opened

    others-open : CallsLeaveOtherRows → OthersStayOpen (machine_in mid) (machine_in new) c.agent (row_named c.op)
    others-open leave =
        subst (λ (n : ℕ). OthersStayOpen (machine_in mid) (machine_in new) c.agent n) (in-hand base c.agent c.op leaving)
        (subst (λ (m : Machine). OthersStayOpen m (machine_in new) c.agent (row_in_hand base c.agent c.op)) (sym took.held.books.machine)
        (subst (λ (m : Machine). OthersStayOpen (in_lengths_of base) m c.agent (row_in_hand base c.agent c.op)) (sym machine-now)
        (leave.called base c.agent c.op reply.Done live)))

    limits : (machine_in new).limits ≡ (machine_in mid).limits
    limits = ap (λ (m : Machine). m.limits) told.machine ∙ limits-stay (machine_in mid) c.sizes c.agent c.op leaving

    trees-same : TreesKeepBlocks → HasSameBlocks (tree_in mid) (tree_in new)
    trees-same keep =
        subst (λ (t : Tree). HasSameBlocks (tree_in mid) t) (sym told.tree)
        (keep.same (tree_in mid) _ order.before order.after (λ x b. has-same keep (machine_in mid) (tree_in mid) c.agent c.op c.sizes leaving x b))

    spaced : BlocksGoOn → TreesKeepBlocks → CallsLeaveOtherRows → AreSpaced (machine_in new) (shelf recorded.rows (tree_in new) q.swap) p.space
    spaced blocks keep leave =
        blocks.dropped (machine_in mid) (machine_in new) (shelf recorded.rows (tree_in mid) p.swap) (shelf recorded.rows (tree_in new) q.swap) p.space c.agent (row_named c.op) took.held.laid.spaced
        (others-open leave) limits (record { recorded = same-blocks recorded.rows; tree = trees-same keep })
        (no-more p.swap q.swap c.agent (row_named c.op) dropped.others dropped.gone) (λ i b has. no-page q.swap c.agent (row_named c.op) i b dropped.gone has)

    count-is : ACallMovesItsAgent → length (agent_of (machine_in new) c.agent).own ≡ length (agent_of (machine_in mid) c.agent).own
    count-is moves =
        let moved : IsMoved (agent_of base c.agent) c.op (agent_of after c.agent) = moves base [] c.agent c.op reply.Done live in
        ap (λ (m : Machine). length (agent_of m c.agent).own) machine-now
        ∙ (own-length after c.agent
        ∙ (more-own _ _ (asks_for_row c.op) (makes-none c.op leaving) moved.more
        ∙ (sym (own-length base c.agent) ∙ ap (λ (m : Machine). length (agent_of m c.agent).own) (sym took.held.books.machine))))

    pub leave-acted : RowsInHandAreLaid w → BlocksGoOn → TreesKeepBlocks → CallsLeaveOtherRows → CallsChangeTheirRow → ACallMovesItsAgent → CallsAreActed w → BooksShowTheirImages w
        → (n : ℕ) → n ≡ length (agent_of (machine_in mid) c.agent).own → (old now : DeskParts D) → old.ledger ≡ l → now.ledger ≡ new → now.pages ≡ q
        → HasActed w f old now calls (call_in c) work work (told_act reply.Done gift.Nothing n)
    leave-acted rows blocks keep leave changes moves acts shows n count old now was is are =
        let given = no-gift (state_after f.opening (l.books.history ++ calls)) c.op leaving in
        has-acted w asks answers f recorded l mid p calls c work past begins took none reply.Done its (sized (machine_in mid) c.sizes c.agent c.op leaving) refl new told q (row_named c.op) closed
        rows (shut changes) (spaced blocks keep leave) acts shows gift.Nothing (record { alike = ap unread_gift (sym given); told = λ t. sym given }) n (count ∙ sym (count-is moves)) work old now was is are
