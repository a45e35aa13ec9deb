-- The rows in an agent's agent_rows, behind a call.
use Rattle.std.proofs.Common.{◌≡◌, ◌≢◌, ◌⊎◌, ℕ, zero, suc, ◌+◌, true, false, List, [], ◌∷◌, ◌++◌, length, slice_set, Result, Ok, Err, Some, refl, sym, ap, ◌∙◌, subst, inl, inr, arith}
use Rattle.std.specs.Prelude.{slice_get}
use Rattle.std.proofs.lemmas.Bool.{false≢true}
use Rattle.std.proofs.lemmas.List.{length-append}
use lib.ListN.{length-set}
use Rattle.opfs_base.specs.Texts.{Text}
use Rattle.opfs_hist.specs.Sums.{asks_for_row}
use Rattle.opfs_hist.specs.declared.op.Op.{Op}
use Rattle.opfs_hist.specs.declared.op.Op.TheVariants as op
use Rattle.opfs_hist.specs.declared.reply.Refusal.{Refusal}
use Rattle.opfs_hist.specs.declared.reply.Reply.{Reply}
use Rattle.opfs_hist.specs.declared.reply.Reply.TheVariants as reply
use Rattle.opfs_machine.specs.declared.own.Own.{Own}
use Rattle.opfs_machine.specs.declared.state.Agent.{Agent}
use Rattle.opfs_machine.specs.Histories.{is_of_origin}
use Rattle.opfs_laws.specs.Leaving.{row_used, asks_nobody, IsMoved}
use Rattle.opfs_turns.specs.Agents.{AgentSeen, IsAgent, own_row}
use Rattle.opfs_turns.specs.Waiting.{HasBegun, HasWaited}
use Rattle.opfs_turns.specs.Asking.Rows.{IsStreamOn, IsHandleOn}
use Rattle.opfs_turns.specs.declared.asking.stop.Stop.{Stop}
use Rattle.opfs_turns.specs.declared.asking.stop.Stop.TheVariants as stop
use Rattle.opfs_turns.proofs.asking.Rowed.{own_agent, entered-moved, kept-moved, refused-own}
use Rattle.opfs_turns.proofs.other_rows.Awaits.{leaves-awaited, leaves-waited}
use Rattle.opfs_turns.proofs.other_rows.Leaving.{Leaves, leaves-self, leaves-entered, leaves-made, leaves-looked}
use Rattle.opfs_runner.specs.declared.agent_rows.agent_row.AgentRow.{AgentRow}
use Rattle.opfs_runner.specs.declared.agent_rows.agent_row.AgentRow.TheVariants as agent_row
use Rattle.opfs_runner.specs.AgentRows.Called.{Calls, IsCalled, IsStill}
use Rattle.opfs_runner.specs.AgentRows.Tables.{HasAgentRow, HasTable}
use Rattle.opfs_runner.proofs.agent_rows.Resting.{refused-rests}

some-same : {X : Type 0} {x y : X} → Some x ≡ Some y → x ≡ y
some-same e = cc

-- ---- one row

module _ {O : Type 0} (tells : Type 0) (a b : AgentSeen O) (kept : IsAgent tells a) (then : IsAgent tells b) (n : ℕ) (leaves : Leaves tells a b n) where
  pub agent_row-stays : (m : ℕ) (s : AgentRow) → m ≢ n → HasAgentRow tells a m s → HasAgentRow tells b m s
  agent_row-stays m (agent_row.Stream w) apart has =
      let other : w.row ≢ n = λ is. apart (sym has.0 ∙ is) in
      let stands = leaves.copy w.row w.work other has.1.stands in
      let there : own_row b w.row ≡ Some has.1.stands.row = leaves.row w.row has.1.stands.row other has.1.stands.there in
      let same : has.1.stands.row ≡ stands.row = some-same (sym there ∙ stands.there) in
      (has.0, record { stands = stands; is = subst (IsStreamOn w.file) same has.1.is })
  agent_row-stays m (agent_row.Handle h) apart has =
      let other : h.row ≢ n = λ is. apart (sym has.0 ∙ is) in
      let stands = leaves.copy h.row h.work other has.1.stands in
      let there : own_row b h.row ≡ Some has.1.stands.row = leaves.row h.row has.1.stands.row other has.1.stands.there in
      let same : has.1.stands.row ≡ stands.row = some-same (sym there ∙ stands.there) in
      (has.0, record { stands = stands; is = subst (IsHandleOn h.file h.mode) same has.1.is })
  agent_row-stays m (agent_row.ClosedStream c) apart has = (has.0, leaves.row c.row _ (λ is. apart (sym has.0 ∙ is)) has.1)
  agent_row-stays m (agent_row.ClosedHandle c) apart has = (has.0, leaves.row c.row _ (λ is. apart (sym has.0 ∙ is)) has.1)
  agent_row-stays m (agent_row.Snapshot x) apart has =
      (has.0, record { bytes = has.1.bytes; there = leaves.row x.row _ (λ is. apart (sym has.0 ∙ is)) has.1.there; size = has.1.size; told = has.1.told })
  agent_row-stays m agent_row.Gone apart has = (has.0, leaves.row m _ apart has.1)
  agent_row-stays m (agent_row.Iterator i) apart has = (
    has.0,
    record {
      there = leaves.row i.row _ (λ is. apart (sym has.0 ∙ is)) has.1.there;
      mine = ap (λ key. is_of_origin key i.dir) (then.own_key ∙ leaves.key ∙ sym kept.own_key) ∙ has.1.mine;
    },
  )
  agent_row-stays m agent_row.Taken apart has = absurd has

-- ---- lists

pub set-cases : {X : Type 0} (xs : List X) (i j : ℕ) (y t : X) → slice_get (slice_set xs i y) j ≡ Some t → ((j ≡ i) × (t ≡ y)) ⊎ ((j ≢ i) × (slice_get xs j ≡ Some t))
set-cases [] i j y t is = absurd cc
set-cases (x ∷ xs) zero zero y t is = inl (refl, sym (some-same is))
set-cases (x ∷ xs) zero (suc j) y t is = inr (λ e. absurd (omega (arith, e)), is)
set-cases (x ∷ xs) (suc i) zero y t is = inr (λ e. absurd (omega (arith, e)), is)
set-cases (x ∷ xs) (suc i) (suc j) y t is =
    elim (set-cases xs i j y t is) as (λ z. ((suc j ≡ suc i) × (t ≡ y)) ⊎ ((suc j ≢ suc i) × (slice_get xs j ≡ Some t))) [
      | inl same ↦ inl (ap suc same.0, same.1)
      | inr other ↦ inr (λ e. other.0 (omega (arith, e)), other.1)
    ]

more-cases : {X : Type 0} (xs : List X) (j : ℕ) (y t : X) → slice_get (xs ++ y ∷ []) j ≡ Some t → ((j ≡ length xs) × (t ≡ y)) ⊎ (slice_get xs j ≡ Some t)
more-cases [] zero y t is = inl (refl, sym (some-same is))
more-cases [] (suc j) y t is = absurd cc
more-cases (x ∷ xs) zero y t is = inr is
more-cases (x ∷ xs) (suc j) y t is =
    elim (more-cases xs j y t is) as (λ z. ((suc j ≡ suc (length xs)) × (t ≡ y)) ⊎ (slice_get xs j ≡ Some t)) [
      | inl same ↦ inl (ap suc same.0, same.1)
      | inr there ↦ inr there
    ]

-- ---- all rows

module _ {O : Type 0} (tells : Type 0) (a b : AgentSeen O) (kept : IsAgent tells a) (then : IsAgent tells b) (agent_rows : List AgentRow) (table : HasTable tells a agent_rows) where
  -- One row is put in its place again.
  pub table-set : (u i : ℕ) (s : AgentRow) → ((j : ℕ) → j ≢ i → suc j ≢ u) → Leaves tells a b u → b.rows ≡ a.rows → HasAgentRow tells b (suc i) s → HasTable tells b (slice_set agent_rows i s)
  table-set u i s apart leaves rows has = record {
    count = length-set agent_rows i s ∙ table.count ∙ sym rows;
    each = λ j t there.
        elim (set-cases agent_rows i j s t there) as (λ z. HasAgentRow tells b (suc j) t) [
          | inl same ↦ subst (HasAgentRow tells b (suc j)) (sym same.1) (subst (λ m. HasAgentRow tells b m s) (ap suc (sym same.0)) has)
          | inr other ↦ agent_row-stays tells a b kept then u leaves (suc j) t (apart j other.0) (table.each j t other.1)
        ];
  }

  pub table-same : Leaves tells a b 0 → b.rows ≡ a.rows → HasTable tells b agent_rows
  table-same leaves rows = record {
    count = table.count ∙ sym rows;
    each = λ j t there. agent_row-stays tells a b kept then 0 leaves (suc j) t (λ e. absurd (omega (arith, e))) (table.each j t there);
  }

  pub table-more : (s : AgentRow) → Leaves tells a b 0 → b.rows ≡ a.rows + 1 → HasAgentRow tells b b.rows s → HasTable tells b (agent_rows ++ s ∷ [])
  table-more s leaves rows has = record {
    count = let long = length-append agent_rows (s ∷ []) in omega (arith, long, table.count, rows);
    each = λ j t there.
        elim (more-cases agent_rows j s t there) as (λ z. HasAgentRow tells b (suc j) t) [
          | inl same ↦
              let place : b.rows ≡ suc j = omega (arith, rows, table.count, same.0) in
              subst (HasAgentRow tells b (suc j)) (sym same.1) (subst (λ m. HasAgentRow tells b m s) place has)
          | inr old ↦ agent_row-stays tells a b kept then 0 leaves (suc j) t (λ e. absurd (omega (arith, e))) (table.each j t old)
        ];
  }

-- ---- by the clause of a call

module _ {O : Type 0} (tells : Type 0) (a b : AgentSeen O) (kept : IsAgent tells a) (then : IsAgent tells b) (called : Op) where
  no-row : (tag : Text) → called ≡ op.Await tag → 0 ≡ row_used called
  no-row tag is = sym (ap row_used is)

  pub leaves-called : (answered : Reply) → IsCalled tells a b called answered → Leaves tells a b (row_used called)
  leaves-called answered (inl h) = leaves-entered tells a b kept then called answered h.0 h.1
  leaves-called answered (inr (inl h)) = leaves-made tells a b kept then called answered h.0 h.1
  leaves-called answered (inr (inr h)) = subst (Leaves tells a b) (no-row h.0 h.1) (leaves-awaited tells a b kept then h.0 answered h.2)

  leaves-still : IsStill tells a b called → Leaves tells a b (row_used called)
  leaves-still (inl h) = leaves-looked tells a b kept then (row_used called) h
  leaves-still (inr (inl h)) = leaves-self tells a b (row_used called) h
  leaves-still (inr (inr h)) = subst (Leaves tells a b) (no-row h.0 h.1) (leaves-waited tells a b kept then h.0 reply.Done h.2)

  pub leaves-calls : (r : Result Reply Stop) → Calls tells a b called r → Leaves tells a b (row_used called)
  leaves-calls (Ok answered) h = leaves-called answered h
  leaves-calls (Err (stop.No r)) h = leaves-called (reply.No r) h
  leaves-calls (Err stop.NoMemory) h = leaves-still h

  -- ---- as many rows

  moved-rows : IsMoved (own_agent a) called (own_agent b) → asks_for_row called ≡ false → b.rows ≡ a.rows
  moved-rows moved none =
      elim moved.more as (λ x. b.rows ≡ a.rows) [
        | inl same ↦ then.made ∙ same ∙ sym kept.made
        | inr more ↦ absurd (false≢true (sym none ∙ more.1))
      ]

  begun-rows : (mid : AgentSeen O) (tag : Text) → HasBegun tells a mid tag → mid.rows ≡ a.rows
  begun-rows mid tag h = ap (λ (x : AgentSeen O). x.rows) h.since.rest ∙ ap (λ (x : AgentSeen O). x.rows) h.wait.rest ∙ ap (λ (x : AgentSeen O). x.rows) h.looked.rest

  waited-rows : (mid : AgentSeen O) (tag : Text) → HasWaited tells a mid tag → mid.rows ≡ a.rows
  waited-rows mid tag (inl looked) = ap (λ (x : AgentSeen O). x.rows) looked.rest
  waited-rows mid tag (inr begun) = begun-rows mid tag begun

  rows-called : (answered : Reply) → IsCalled tells a b called answered → asks_for_row called ≡ false → b.rows ≡ a.rows
  rows-called answered (inl h) none = moved-rows (entered-moved tells a b kept called answered h.0 h.1) none
  rows-called answered (inr (inl h)) none = moved-rows (kept-moved tells a b kept called answered h.0 h.1.local h.1.kept) none
  rows-called answered (inr (inr h)) none = ap (λ (x : AgentSeen O). x.rows) h.2.awaited.rest ∙ waited-rows h.2.mid h.0 h.2.waited

  rows-still : IsStill tells a b called → b.rows ≡ a.rows
  rows-still (inl h) = ap (λ (x : AgentSeen O). x.rows) h.rest
  rows-still (inr (inl h)) = ap (λ (x : AgentSeen O). x.rows) h
  rows-still (inr (inr h)) = waited-rows b h.0 h.2

  pub rows-same : (r : Result Reply Stop) → Calls tells a b called r → asks_for_row called ≡ false → b.rows ≡ a.rows
  rows-same (Ok answered) h none = rows-called answered h none
  rows-same (Err (stop.No r)) h none = rows-called (reply.No r) h none
  rows-same (Err stop.NoMemory) h none = rows-still h

  -- What gives nothing makes no row.
  own-rows : own_agent b ≡ own_agent a → b.rows ≡ a.rows
  own-rows same = then.made ∙ ap (λ (x : Agent Own). length x.own) same ∙ sym kept.made

  refused-rows : (r : Refusal) → IsCalled tells a b called (reply.No r) → asks_nobody called ≡ true → b.rows ≡ a.rows
  refused-rows r (inl h) nobody = own-rows (refused-own tells a b kept called (reply.No r) h.0 h.1 refl nobody)
  refused-rows r (inr (inl h)) nobody = own-rows (refused-rests tells a b kept called (reply.No r) h.0 h.1 refl)
  refused-rows r (inr (inr h)) nobody = ap (λ (x : AgentSeen O). x.rows) h.2.awaited.rest ∙ waited-rows h.2.mid h.0 h.2.waited

  pub err-rows : (why : Stop) → Calls tells a b called (Err why) → asks_nobody called ≡ true → b.rows ≡ a.rows
  err-rows (stop.No r) h nobody = refused-rows r h nobody
  err-rows stop.NoMemory h nobody = rows-still h
