-- An iterator's row stays while it is not asked.
use Rattle.std.proofs.Common.{◌≡◌, ◌≢◌, ℕ, Bool, true, false, not, List, fold, Option, Some, None, refl, sym, ap, ◌∙◌, subst, eqb, IsTrue}
use Rattle.std.proofs.lemmas.Bool.{eqb-true, eqb-false, false≢true}
use Rattle.std.specs.Cmp.Lexicographic.{slice_cmp}
use Rattle.std.specs.List.{list_any}
use Rattle.std.specs.Ordering.{is_lt, nat_cmp}
use Rattle.opfs_base.specs.Places.{place_of}
use Rattle.opfs_base.specs.Texts.{Text, same_text}
use Rattle.opfs_hist.specs.declared.entry.Entry.{Entry}
use Rattle.opfs_hist.specs.declared.op.Op.{Op}
use Rattle.opfs_hist.specs.declared.op.Op.TheVariants as op
use Rattle.opfs_machine.specs.declared.own.Own.{Own}
use Rattle.opfs_machine.specs.declared.own.Own.TheVariants as own
use Rattle.opfs_machine.specs.declared.own.IteratorRow.{IteratorRow}
use Rattle.opfs_machine.specs.declared.state.State.{State}
use Rattle.opfs_machine.specs.Agents.{agent_of, own_of}
use Rattle.opfs_machine.specs.Histories.{is_handle, is_open_handle, is_stream, may_enter}
use Rattle.opfs_machine.specs.Steps.{after_reply, changed_by, evicted, is_refusal}
use Rattle.opfs_laws.specs.Leaving.{row_used}
use Rattle.opfs_laws.proofs.Acting.{acts-other, changed-acts}
use Rattle.opfs_laws.proofs.Allowed.{agent-stays}
use Rattle.opfs_laws.proofs.Moved.{call-moves}
use Rattle.opfs_laws.proofs.Numbers.{number-of}
use Rattle.opfs_desk_steps.specs.Iterating.Reached.{HasReached, asked_row, may_make}
use Rattle.opfs_desk_steps.proofs.iterating.Fewer.{HasChild, after-keeps}

-- A call that needs another kind of row uses another row.
module _ (s : State Text Own) (k n : ℕ) (i : IteratorRow) (there : own_of (agent_of s k) n ≡ Some (own.Iterator i)) where
  other-kind : (test : Option Own → Bool) (m : ℕ) → test (Some (own.Iterator i)) ≡ false → test (own_of (agent_of s k) m) ≡ true → n ≢ m
  other-kind test m never is same = false≢true (sym never ∙ (ap test (sym there) ∙ (ap (λ (j : ℕ). test (own_of (agent_of s k) j)) same ∙ is)))

  no-row : n ≢ 0
  no-row same = absurd (none (sym (ap (λ (j : ℕ). own_of (agent_of s k) j) same) ∙ there))
    where
      none : ◌≡◌ {A = Option Own} None (Some (own.Iterator i)) → ⊥
      none h = cc

  used-other : (o : Op) → may_enter s k o ≡ true → asked_row o ≢ n → n ≢ row_used o
  unfolding may_enter
  used-other (op.Next m dir) may other = λ same. other (sym same)
  used-other (op.Write m bytes position) may other = other-kind is_stream m refl may
  used-other (op.Seek m position) may other = other-kind is_stream m refl may
  used-other (op.Truncate m size) may other = other-kind is_stream m refl may
  used-other (op.Close m) may other = other-kind is_stream m refl may
  used-other (op.Abort m) may other = other-kind is_stream m refl may
  used-other (op.SyncRead m len at) may other = other-kind is_handle m refl may
  used-other (op.SyncWrite m bytes at) may other = other-kind is_handle m refl may
  used-other (op.SyncTruncate m size) may other = other-kind is_handle m refl may
  used-other (op.SyncGetSize m) may other = other-kind is_handle m refl may
  used-other (op.SyncFlush m) may other = other-kind is_handle m refl may
  used-other (op.SyncClose m) may other = other-kind is_handle m refl may
  used-other (op.Discard m) may other = other-kind is_open_handle m refl may
  used-other o may other = no-row

module _ (s : State Text Own) (gone : List Text) (e : Entry) (live : IsTrue (agent_of s e.agent).live) (may : may_enter s e.agent e.op ≡ true) where
  abbrev t : State Text Own
  t = fold evicted s gone

  abbrev after : State Text Own
  after = after_reply t e.agent e.op e.reply

  own-row : (n : ℕ) (i : IteratorRow) → own_of (agent_of s e.agent) n ≡ Some (own.Iterator i) → asked_row e.op ≢ n → own_of (agent_of after e.agent) n ≡ Some (own.Iterator i)
  own-row n i there other = (call-moves s gone e.agent e.op e.reply live).rows n (own.Iterator i) (used-other s e.agent n i there e.op may other) there

  live-now : IsTrue (agent_of t e.agent).live
  live-now = ap (λ a. a.live) (agent-stays gone s e.agent) ∙ live

  other-agent : (k : ℕ) → k ≢ e.agent → agent_of after k ≡ agent_of s k
  other-agent k apart =
      acts-other t e.agent (number-of t e.agent live-now) (changed_by t e.agent e.op e.reply) k (changed-acts t e.agent (number-of t e.agent live-now) e.op e.reply) apart
      ∙ agent-stays gone s k

  row-stays : (k n : ℕ) (i : IteratorRow) → own_of (agent_of s k) n ≡ Some (own.Iterator i) → (e.agent ≡ k → asked_row e.op ≢ n) → own_of (agent_of after k) n ≡ Some (own.Iterator i)
  row-stays k n i there beside =
      elim (eqb e.agent k) as (λ b. eqb e.agent k ≡ b → own_of (agent_of after k) n ≡ Some (own.Iterator i)) [
        | true ↦ λ is.
            let mine : e.agent ≡ k = eqb-true e.agent k is in
            subst (λ (j : ℕ). own_of (agent_of after j) n ≡ Some (own.Iterator i)) mine
            (own-row n i (subst (λ (j : ℕ). own_of (agent_of s j) n ≡ Some (own.Iterator i)) (sym mine) there) (beside mine))
        | false ↦ λ is. ap (λ a. own_of a n) (other-agent k (λ same. eqb-false e.agent k is (sym same))) ∙ there
      ] refl

  pub reached-stays : (k n : ℕ) (last : Text) → may_make e.op ≡ false → (is_refusal e.reply ≡ false → HasChild t e.op) → (e.agent ≡ k → asked_row e.op ≢ n) → HasReached s k n last → HasReached after k n last
  reached-stays k n last makes there beside has = record {
    dir = has.dir;
    given = has.given;
    there = row-stays k n (record { dir = has.dir; given = has.given }) has.there beside;
    up_to =
        after-keeps (place_of has.dir) (λ name. list_any (same_text name) has.given ≡ not (is_lt (slice_cmp nat_cmp last name))) s gone e.agent e.op e.reply makes there has.up_to;
  }
