-- What calls leave of an agent's other own rows.
use Rattle.std.proofs.Common.{◌≡◌, ◌≢◌, ℕ, zero, suc, ◌+◌, ◌≤◌, ◌==◌, ◌||◌, not, true, false, List, [], ◌∷◌, get_or, Option, Some, None, Result, Ok, Err, refl, sym, ap, ◌∙◌, subst, arith}
use Rattle.std.specs.Prelude.{slice_get, IsTrue}
use Rattle.std.specs.List.{list_any}
use Rattle.std.proofs.lemmas.Bool.{eq-eqb, eqb-true}
use Rattle.std.proofs.lemmas.Option.{slice_get-get_or, slice_get_within}
use Rattle.opfs_store.specs.declared.acts.acted.Gift.{Gift}
use Rattle.opfs_turns.proofs.other_rows.Leaving.{Leaves, leaves-entered, leaves-made, leaves-looked}
use Rattle.opfs_turns.specs.Asking.Answers.{Shared}
use Rattle.opfs_turns.specs.Asking.Locals.{IsMade, Local}
use Rattle.opfs_turns.specs.declared.asking.stop.Stop.{Stop}
use Rattle.opfs_turns.specs.declared.asking.stop.Stop.TheVariants as stop
use Rattle.opfs_hist.specs.declared.op.Op.{Op}
use Rattle.opfs_hist.specs.declared.op.Op.TheVariants as op
use Rattle.opfs_hist.specs.declared.reply.Reply.{Reply}
use Rattle.opfs_hist.specs.declared.reply.Reply.TheVariants as reply
use Rattle.opfs_laws.specs.Leaving.{row_used}
use Rattle.opfs_machine.specs.declared.own.Own.{Own}
use Rattle.opfs_machine.specs.Agents.{agent_of, is_open_row}
use Rattle.opfs_machine.specs.Contents.{outline_of}
use Rattle.opfs_machine.specs.Histories.{may_enter}
use Rattle.opfs_turns.specs.Agents.{AgentSeen, IsAgent, own_row, state_of}
use Rattle.opfs_turns.specs.Calls.{IsEntered, HasLooked}
use Rattle.opfs_sync_files.specs.Resting.{LeavesRest, RestsBut}

rest-of : {O : Type 0} (tells : Type 0) (a b : AgentSeen O) (n : ℕ) → Leaves tells a b n → LeavesRest tells a b n
rest-of tells a b n h = record { row = h.row; copy = h.copy; key = h.key }

pub rest-none : {O : Type 0} (tells : Type 0) (a : AgentSeen O) (n : ℕ) → LeavesRest tells a a n
rest-none tells a n = record { row = λ m r apart is. is; copy = λ m work apart stands. stands; key = refl }

pub rest-then : {O : Type 0} (tells : Type 0) (a b c : AgentSeen O) (n : ℕ) → LeavesRest tells a b n → LeavesRest tells b c n → LeavesRest tells a c n
rest-then tells a b c n x y = record {
  row = λ m r apart is. y.row m r apart (x.row m r apart is);
  copy = λ m work apart stands. y.copy m work apart (x.copy m work apart stands);
  key = y.key ∙ x.key;
}

-- The same, where the second call was told of another name of the row.
pub rest-next : {O : Type 0} (tells : Type 0) (a b c : AgentSeen O) (n m : ℕ) → m ≡ n → LeavesRest tells a b n → LeavesRest tells b c m → LeavesRest tells a c n
rest-next tells a b c n m same x y = rest-then tells a b c n x (subst (LeavesRest tells b c) same y)

module _ {O : Type 0} (tells : Type 0) (a b : AgentSeen O) (kept : IsAgent tells a) (later : IsAgent tells b) where
  pub rest-looked : (n : ℕ) → HasLooked a b → LeavesRest tells a b n
  rest-looked n h = rest-of tells a b n (leaves-looked tells a b kept later n h)

  pub rest-entered : (called : Op) (answered : Reply) (given : Gift) → IsEntered tells a b called answered given → LeavesRest tells a b (row_used called)
  rest-entered called answered given h = rest-of tells a b (row_used called) (leaves-entered tells a b kept later called answered given h)

  pub rest-made : (called : Op) (answered : Reply) (made : ℕ) → IsMade tells a b called answered made → LeavesRest tells a b (row_used called)
  rest-made called answered made h = rest-of tells a b (row_used called) (leaves-made tells a b kept later called answered made h)

  -- Whatever a shared call answered.
  pub rest-shared : {T : Type 0} (called : Op) (Gives : T → Reply → Gift → Type 0) (r : Result T Stop) → Shared tells a b called Gives r → LeavesRest tells a b (row_used called)
  rest-shared called Gives (Ok x) h = rest-entered called h.answered h.given h.entered
  rest-shared called Gives (Err (stop.No r)) h = rest-entered called (reply.No r) h.given h.entered
  rest-shared called Gives (Err stop.NoMemory) h = rest-looked (row_used called) h

  -- Whatever a local one did.
  pub rest-local : {T : Type 0} (called : Op) (Gives : T → Reply → Type 0) (r : Result T Stop) → Local tells a b called 0 Gives r → LeavesRest tells a b (row_used called)
  rest-local called Gives (Ok x) h = rest-made called h.answered 0 h.entered
  rest-local called Gives (Err (stop.No r)) h = rest-made called (reply.No r) 0 h
  rest-local called Gives (Err stop.NoMemory) h = subst (λ (x : AgentSeen O). LeavesRest tells a x (row_used called)) (sym h) (rest-none tells a (row_used called))

  -- ---- what is not open

  some-same : {X : Type 0} {x y : X} → Some x ≡ Some y → x ≡ y
  some-same e = cc

  no-row : (r : Own) → ◌≡◌ {A = Option Own} None (Some r) → ⊥
  no-row r h = cc

  -- A row that was there before is as it was.
  was-there : (n : ℕ) → LeavesRest tells a b n → (m : ℕ) (r : Own) → m ≢ n → m ≤ a.rows → own_row b m ≡ Some r → own_row a m ≡ Some r
  was-there n left zero r apart few is = absurd (no-row r is)
  was-there n left (suc i) r apart few is =
      let rows = (agent_of (state_of a) a.pass.agent).own in
      let old : slice_get rows i ≡ Some (get_or rows i r) = slice_get-get_or rows i r (omega (arith, few, kept.made)) in
      let new : own_row b (suc i) ≡ Some (get_or rows i r) = left.row (suc i) (get_or rows i r) apart old in
      old ∙ sym new ∙ is

  within : (m : ℕ) (r : Own) → own_row b m ≡ Some r → m ≤ b.rows
  within zero r is = omega arith
  within (suc i) r is = let there = slice_get_within (agent_of (state_of b) b.pass.agent).own i r is in omega (arith, there, later.made)

  -- Calls that make no row leave nothing else open.
  pub rests-on : (n : ℕ) → b.rows ≡ a.rows → LeavesRest tells a b n → RestsBut a n → RestsBut b n
  rests-on n same left rests m r apart is =
      let few = within m r is in
      rests m r apart (was-there n left m r apart (omega (arith, few, same)) is)

  -- A call that makes a row leaves nothing open but it.
  pub rests-more : b.rows ≤ a.rows + 1 → LeavesRest tells a b 0 → RestsBut a 0 → RestsBut b b.rows
  rests-more more left rests zero r apart is = absurd (no-row r is)
  rests-more more left rests (suc i) r apart is =
      let few = within (suc i) r is in
      let real : suc i ≢ 0 = λ h. omega (arith, h) in
      let fewer : suc i ≤ a.rows = le-of (suc i) few apart in
      rests (suc i) r real (was-there 0 left (suc i) r real fewer is)
    where
      le-of : (m : ℕ) → m ≤ b.rows → m ≢ b.rows → m ≤ a.rows
      le-of m few apart = elim (m == b.rows) as (λ t. (m == b.rows) ≡ t → m ≤ a.rows) [
        | true ↦ λ h. absurd (apart (eqb-true m b.rows h))
        | false ↦ λ h. omega (arith, apart, few, more)
      ] refl

-- Where the one row that may be open is closed, nothing is.
pub rests-closed : {O : Type 0} (a : AgentSeen O) (n : ℕ) (c : Own) → RestsBut a n → own_row a n ≡ Some c → is_open_row (outline_of c) ≡ false → RestsBut a 0
rests-closed a n c rests there closed m r real is =
    elim (m == n) as (λ t. (m == n) ≡ t → is_open_row (outline_of r) ≡ false) [
      | true ↦ λ h. ap (λ x. is_open_row (outline_of x)) (some-is (sym is ∙ ap (own_row a) (eqb-true m n h) ∙ there)) ∙ closed
      | false ↦ λ h. rests m r (λ same. true-false (sym (eq-true same) ∙ h)) is
    ] refl
  where
    some-is : {X : Type 0} {x y : X} → Some x ≡ Some y → x ≡ y
    some-is e = cc

    true-false : true ≡ false → ⊥
    true-false h = cc

    eq-true : m ≡ n → (m == n) ≡ true
    eq-true same = eq-eqb m n same

-- ---- the end

none-open : (rows : List Own) → ((i : ℕ) (r : Own) → slice_get rows i ≡ Some r → is_open_row (outline_of r) ≡ false) → list_any (λ r. is_open_row (outline_of r)) rows ≡ false
none-open [] all = refl
none-open (r ∷ rows) all = (λ i. all 0 r refl i || none-open rows (λ j x is. all (suc j) x is) i)

-- An agent of which nothing is open may end.
pub rests-end : {O : Type 0} (a : AgentSeen O) → RestsBut a 0 → IsTrue (may_enter (state_of a) a.pass.agent op.End)
unfolding may_enter
rests-end a rests = ap not (none-open (agent_of (state_of a) a.pass.agent).own (λ i r is. rests (suc i) r (λ h. omega (arith, h)) is))
