-- An estimate: its agent has a key, what is used is what it was before the agent's pending calls, and is small.
use Rattle.std.proofs.Common.{◌≡◌, ℕ, zero, suc, ◌-◌, ◌*◌, ◌<◌, ◌≤◌, true, is_some, List, length, Option, Some, Ok, refl, sym, ap, ◌∙◌, arith}
use Rattle.std.specs.Prelude.{replicate}
use Rattle.std.proofs.lemmas.Bool.{and_parts}
use Rattle.std.proofs.lemmas.List.Folds.{sum_by-replicate}
use Rattle.std.proofs.lemmas.List.Sums.{sum_by-append}
use Rattle.opfs_store.specs.Acts.Acting.{gift_of}
use Rattle.opfs_store.specs.declared.acts.acted.Gift.TheVariants as gift
use Rattle.opfs_base.specs.Keys.{is_origin}
use Rattle.opfs_base.specs.Texts.{Text}
use Rattle.opfs_base.specs.Units.{origin_of}
use Rattle.opfs_base.proofs.UnitLemmas.{origin_of-plain, plain-from_is_origin}
use Rattle.opfs_books.specs.Laws.Books.{Fixed}
use Rattle.opfs_books.specs.Laws.Commits.{StateLaws}
use Rattle.opfs_books.specs.Laws.Laws.{BooksKeepTheState}
use Rattle.opfs_state_rows.specs.Changes.Asking.{growth_of, made_at}
use Rattle.opfs_codec.specs.Spelling.{is_key_text}
use Rattle.opfs_hist.specs.declared.history.PendingSum.{PendingSum}
use Rattle.opfs_hist.specs.declared.op.Op.{Op}
use Rattle.opfs_hist.specs.declared.op.Op.TheVariants as op
use Rattle.opfs_hist.specs.declared.reply.Reply.TheVariants as reply
use Rattle.opfs_image.proofs.Formatted.{range_parts}
use Rattle.opfs_laws.proofs.Gone.{bind-gave}
use Rattle.opfs_laws.specs.Lengths.Bridge.{LengthsDecideEachRuling}
use Rattle.opfs_laws.specs.Lengths.Outlines.{in_lengths_of}
use Rattle.opfs_machine.specs.declared.own.Outline.TheVariants as outline
use Rattle.opfs_machine.specs.declared.own.Own.{Own}
use Rattle.opfs_machine.specs.declared.state.Limits.{Limits}
use Rattle.opfs_machine.specs.declared.state.Need.{Need}
use Rattle.opfs_machine.specs.declared.state.Sizes.{Sizes}
use Rattle.opfs_machine.specs.declared.state.State.{State}
use Rattle.opfs_machine.specs.Agents.{agent_of}
use Rattle.opfs_machine.specs.Contents.{in_bytes, in_lengths}
use Rattle.opfs_machine.specs.Histories.{state_after}
use Rattle.opfs_machine.specs.Replies.{answer, block_bytes, origin_in, sizes_of}
use Rattle.opfs_machine.specs.Rulings.{estimate_ruling, ruling}
use Rattle.opfs_machine.specs.Steps.{judged, room_for}
use Rattle.opfs_machine.specs.Sums.{row_reserve, usage}
use Rattle.opfs_outside.specs.declared.disk.Disk.{Ghosts as DiskWords}
use Rattle.opfs_records.specs.Replay.Built.{Built}
use Rattle.opfs_register.specs.Seating.{noted}
use Rattle.opfs_state_rows.proofs.standing.AgentMoves.{own-set}
use Rattle.opfs_state_rows.specs.Standing.Noted.{with_sum}
use Rattle.opfs_state_rows.specs.Standing.Seen.{Machine}
use Rattle.opfs_state.specs.Verdicts.Callers.{IsAgent}
use Rattle.opfs_desk_steps.specs.Parts.Held.{AreHeldWhole}
use Rattle.opfs_desk_steps.specs.Parts.Seen.{machine_in, book_in}
use Rattle.opfs_desk_steps.specs.declared.parts.parts.Ledger.{Ledger}
use Rattle.opfs_desk_steps.specs.declared.parts.parts.OpenPages.{OpenPages}
use Rattle.opfs_desk_entries.specs.Answers.Telling.{TellsOnly}
use Rattle.opfs_desk_entries.proofs.answers.Flags.{key-lengths, key-noted}
use Rattle.opfs_desk_entries.proofs.answers.Words.{before, from-some}
use Rattle.opfs_desk_steps.proofs.row_laws.Inside.{limits-are}
use Rattle.opfs_desk_entries.specs.KeptBack.Keeping.{HasOwnKey}
use Rattle.opfs_desk_entries.specs.Buckets.Estimating.{is_estimate, usage_of, estimate_answer}

-- ---- it only tells

pub tells-estimate : (m : Machine) (k : ℕ) (o : Op) → is_estimate o ≡ true → TellsOnly m k o
unfolding growth_of made_at
tells-estimate m k op.Estimate h = record { word = refl; nothing = refl }
tells-estimate m k o h = cc

pub no-gift : (s : State Text Own) (o : Op) (a b : ℕ) → is_estimate o ≡ true → gift_of s o (reply.Estimate a b) ≡ gift.Nothing
unfolding gift_of
no-gift s op.Estimate a b h = refl
no-gift s o a b h = cc

-- ---- its agent has a key

ruled-key : (s : State Text Own) (z : Sizes) (k : ℕ) (o : Op) (need : Need) → is_estimate o ≡ true → ruling in_bytes s z k o ≡ Ok need → is_some (agent_of s k).key ≡ true
unfolding ruling estimate_ruling
ruled-key s z k op.Estimate need h is = ap (λ (x : Option Text). is_some x) (from-some (agent_of s k).key _ _ need is).1
ruled-key s z k o need h is = cc

pub has-key : (s : State Text Own) (k : ℕ) (o : Op) (units : List Text) → is_estimate o ≡ true → judged s k o ≡ Ok units → is_some (agent_of s k).key ≡ true
unfolding judged
has-key s k o units h is =
    let both = bind-gave (ruling in_bytes s (sizes_of s k o) k o) (room_for in_bytes s (agent_of s k).key) units is in
    ruled-key s (sizes_of s k o) k o both.0 h both.1

-- That is an origin's, which names no bucket.
pub used-is : (m : Machine) (k : ℕ) (origin : Text) → HasOwnKey (agent_of m k).key → (agent_of m k).key ≡ Some origin → usage in_lengths m (origin_of origin) ≡ usage_of m k
used-is m k origin own is =
    ap (λ (x : Text). usage in_lengths m x)
    (origin_of-plain origin (plain-from_is_origin origin (and_parts (is_key_text origin) (is_origin origin) (own origin is).1).1) ∙ sym (ap (λ (key : Option Text). origin_in key) is))

-- ---- what it answers

usage-at : (m : Machine) (at : ℕ) (sum : PendingSum) (origin : Text) → at < length m.agents → usage in_lengths (with_sum m at sum) origin ≡ usage in_lengths m origin
unfolding row_reserve
usage-at m at sum origin inside =
    let f = row_reserve in_lengths origin in
    let own = (agent_of m (suc at)).own in
    let moved = own-set f m.agents at (noted (agent_of m (suc at)) sum.rows sum.moment) inside in
    let more = sum_by-append f own (replicate sum.rows outline.Iterator) in
    let none = sum_by-replicate f sum.rows outline.Iterator in
    omega (arith, moved, more, none)

usage-noted : (m : Machine) (k : ℕ) (sum : PendingSum) (origin : Text) → IsAgent m k → usage in_lengths (with_sum m (k - 1) sum) origin ≡ usage in_lengths m origin
usage-noted m zero sum origin agent = absurd (omega (arith, agent.above))
usage-noted m (suc at) sum origin agent = ap (λ (n : ℕ). usage in_lengths (with_sum m n sum) origin) (before at) ∙ usage-at m at sum origin (omega (arith, agent.within))

estimate-noted : (m : Machine) (k : ℕ) (sum : PendingSum) → IsAgent m k → estimate_answer (with_sum m (k - 1) sum) k ≡ estimate_answer m k
estimate-noted m k sum agent =
    ap (λ (u : ℕ). reply.Estimate (block_bytes * u) (block_bytes * m.limits.quota))
    (usage-noted m k sum (origin_in (agent_of (with_sum m (k - 1) sum) k).key) agent ∙ ap (λ (key : Option Text). usage in_lengths m (origin_in key)) (key-noted m k sum agent))

answers-estimate : LengthsDecideEachRuling → (s : State Text Own) (z : Sizes) (k : ℕ) (o : Op) → is_estimate o ≡ true → answer s z k o ≡ estimate_answer (in_lengths_of s) k
unfolding answer
answers-estimate decide s z k op.Estimate h =
    ap (λ (u : ℕ). reply.Estimate (block_bytes * u) (block_bytes * s.limits.quota))
    (sym (decide.usage s (origin_in (agent_of s k).key)) ∙ ap (λ (key : Option Text). usage in_lengths (in_lengths_of s) (origin_in key)) (sym (key-lengths s k)))
answers-estimate decide s z k o h = cc

pub estimate-answered : LengthsDecideEachRuling → (m : Machine) (s : State Text Own) (z : Sizes) (k : ℕ) (o : Op) (sum : PendingSum) (a b : ℕ) → IsAgent m k → is_estimate o ≡ true → in_lengths_of s ≡ with_sum m (k - 1) sum
    → a ≡ block_bytes * usage_of m k → b ≡ block_bytes * m.limits.quota → reply.Estimate a b ≡ answer s z k o
estimate-answered decide m s z k o sum a b agent h noted first second =
    (λ i. reply.Estimate (first i) (second i))
    ∙ (sym (estimate-noted m k sum agent)
    ∙ (ap (λ (n : Machine). estimate_answer n k) (sym noted)
    ∙ sym (answers-estimate decide s z k o h)))

-- ---- the numbers are small

module _ {D : Type 0} (w : DiskWords D) (states : StateLaws) (kept : BooksKeepTheState w) (f : Fixed D) (recorded : Built) (l : Ledger D) (p : OpenPages) (held : AreHeldWhole w f recorded l p) where
  pub few-used : (k : ℕ) → usage_of (machine_in l) k ≤ 65536
  few-used k =
      let keeps = kept.kept f recorded (state_after f.opening l.books.history) (book_in l) l.journal held.books in
      let most = ap (λ (x : Limits). x.blocks) (limits-are states w f recorded l p held) in
      let blocks-are = ap (λ (x : Limits). x.blocks) held.books.limits in
      omega (arith, keeps.usage (origin_in (agent_of (machine_in l) k).key), keeps.pool, most, blocks-are, (range_parts f.geometry held.tied.range).1)

  pub small-quota : (machine_in l).limits.quota ≤ 65536
  small-quota = omega (arith, ap (λ (x : Limits). x.quota) (limits-are states w f recorded l p held), held.tied.quota, (range_parts f.geometry held.tied.range).2)
