-- Which rows a call leaves: all but the one that it has in hand.
use Rattle.std.proofs.Common.{◌≡◌, ◌≢◌, ◌⊎◌, ℕ, zero, suc, ◌+◌, ◌==◌, ◌≤◌, Bool, true, false, not, ◌&&◌, ◌||◌, cond, List, [], ◌∷◌, length, Some, None, refl, sym, ap, ◌∙◌, inl, inr, arith}
use Rattle.std.proofs.lemmas.Bool.{cases_eq}
use Rattle.std.proofs.lemmas.Bool.Decides.{nat_tests}
use Rattle.std.specs.Prelude.{slice_get}
use Rattle.opfs_data.specs.Rows.{IsOther}
use Rattle.opfs_hist.specs.Sums.{asks_for_row}
use Rattle.opfs_hist.specs.declared.entry.Entry.{Entry}
use Rattle.opfs_hist.specs.declared.op.Op.{Op}
use Rattle.opfs_hist.specs.declared.op.Op.TheVariants as op
use Rattle.opfs_laws.specs.Leaving.{row_used, IsMoved}
use Rattle.opfs_machine.specs.declared.own.Own.{Own}
use Rattle.opfs_machine.specs.declared.state.Agent.{Agent}
use Rattle.opfs_machine.specs.declared.state.State.{State}
use Rattle.opfs_base.specs.Texts.{Text}
use Rattle.opfs_machine.specs.Agents.{agent_of, own_of}
use Rattle.opfs_machine.specs.Replies.{row_named}
use Rattle.opfs_machine.specs.Steps.{is_refusal}
use Rattle.opfs_laws.specs.Steady.Steady.{concerns, settles}
use Rattle.opfs_laws.proofs.steady.Leaving.{other-leaves}
use Rattle.opfs_pages.specs.HistoryLaws.Hands.{row_in_hand}

not-equal : (a b : ℕ) → a ≢ b → (a == b) ≡ false
not-equal a b apart = grind (arith, nat_tests)

none-of-two : (a b : Bool) → b ≡ false → (a && b) ≡ false
none-of-two true b h = h
none-of-two false b h = refl

-- The row that a call names is the one that it uses, or it names none.
named-used : (o : Op) → (row_named o ≡ row_used o) ⊎ (row_named o ≡ 0)
named-used (op.Next n dir) = inr refl
named-used o = inl refl

-- A call that makes a row names none.
asks-names : (o : Op) → asks_for_row o ≡ true → row_named o ≡ 0
asks-names (op.Values dir) is = refl
asks-names (op.GetFile file) is = refl
asks-names (op.CreateWritable file keep) is = refl
asks-names (op.CreateSyncAccessHandle file mode) is = refl
asks-names o is = absurd cc

none-named : (n m len : ℕ) (asks : Bool) → m ≡ 0 → (asks ≡ true → n ≢ len + 1) → (not (n == 0) && (m == n || (asks && (len + 1 == n)))) ≡ false
none-named zero m len asks is apart = refl
none-named (suc n) m len true is apart = none-of-two (not (suc n == 0)) (m == suc n || (true && (len + 1 == suc n))) (ap (λ b. b || (true && (len + 1 == suc n))) (not-equal m (suc n) (λ e. apart_zero n (sym is ∙ e))) ∙ not-equal (len + 1) (suc n) (λ e. apart refl (sym e)))
  where
    apart_zero : (i : ℕ) → 0 ≡ suc i → ⊥
    apart_zero i e = omega arith
none-named (suc n) m len false is apart = none-of-two (not (suc n == 0)) (m == suc n || false) (ap (λ b. b || false) (not-equal m (suc n) (λ e. apart_zero n (sym is ∙ e))))
  where
    apart_zero : (i : ℕ) → 0 ≡ suc i → ⊥
    apart_zero i e = omega arith

other-named : (n m len : ℕ) → n ≢ m → (not (n == 0) && (m == n || (false && (len + 1 == n)))) ≡ false
other-named zero m len apart = refl
other-named (suc n) m len apart = none-of-two (not (suc n == 0)) (m == suc n || false) (ap (λ b. b || false) (not-equal m (suc n) (λ e. apart (sym e))))

-- An entry settles no row but the one in hand.
hand-concerns : (s : State Text Own) (k n : ℕ) (o : Op) → n ≢ row_in_hand s k o → concerns s k n o ≡ false
unfolding row_in_hand
hand-concerns s k n o apart =
    elim (asks_for_row o) as (λ b. asks_for_row o ≡ b → n ≢ cond b (length (agent_of s k).own + 1) (row_used o) → (not (n == 0) && (row_named o == n || (b && (length (agent_of s k).own + 1 == n)))) ≡ false) [
      | true ↦ λ asks far. none-named n (row_named o) (length (agent_of s k).own) true (asks-names o asks) (λ e. far)
      | false ↦ λ asks far. elim (named-used o) [
        | inl same ↦ other-named n (row_named o) (length (agent_of s k).own) (λ e. far (e ∙ same))
        | inr none ↦ none-named n (row_named o) (length (agent_of s k).own) false none (λ e. absurd cc)
      ]
    ] refl apart

pub hand-settles : (s : State Text Own) (e : Entry) (k n : ℕ) → IsOther e.agent (row_in_hand s e.agent e.op) k n → settles s k n e ≡ false
hand-settles s e k n apart = elim (cases_eq k e.agent) [
  | inr far ↦ other-leaves s k n e (λ is. far (sym is))
  | inl same ↦
      let here : n ≢ row_in_hand s k e.op = λ is. apart (same, is ∙ ap (λ j. row_in_hand s j e.op) same) in
      none-of-two (e.turn && not (is_refusal e.reply)) (e.agent == k && concerns s k n e.op) (none-of-two (e.agent == k) (concerns s k n e.op) (hand-concerns s k n e.op here))
]

-- ---- own rows by number

past-none : {X : Type 0} (xs : List X) (i : ℕ) → length xs ≤ i → slice_get xs i ≡ None
past-none [] i past = refl
past-none (x ∷ xs) zero past = absurd (omega arith)
past-none (x ∷ xs) (suc i) past = past-none xs i (omega arith)

none-past : {X : Type 0} (xs : List X) (i : ℕ) → slice_get xs i ≡ None → length xs ≤ i
none-past [] i is = omega arith
none-past (x ∷ xs) zero is = absurd cc
none-past (x ∷ xs) (suc i) is = let h = none-past xs i is in omega arith

pub moved-own : (a b : Agent Own) (o : Op) (n : ℕ) → IsMoved a o b → n ≢ cond (asks_for_row o) (length a.own + 1) (row_used o) → (asks_for_row o ≡ true → row_used o ≡ 0) → own_of b n ≡ own_of a n
moved-own a b o zero moved apart none = refl
moved-own a b o (suc i) moved apart none =
    elim (slice_get a.own i) as (λ x. slice_get a.own i ≡ x → slice_get b.own i ≡ x) [
      | Some r ↦ λ is. moved.rows (suc i) r (other (asks_for_row o) refl) is
      | None ↦ λ is. past-none b.own i (far (asks_for_row o) refl (none-past a.own i is))
    ] refl
  where
    other : (t : Bool) → asks_for_row o ≡ t → suc i ≢ row_used o
    other true asks = λ e. nonzero i (e ∙ none asks)
      where
        nonzero : (j : ℕ) → suc j ≡ 0 → ⊥
        nonzero j e = omega arith
    other false asks = λ e. apart (e ∙ sym (ap (λ t. cond t (length a.own + 1) (row_used o)) asks))

    far : (t : Bool) → asks_for_row o ≡ t → length a.own ≤ i → length b.own ≤ i
    far t asks past = elim moved.more [
      | inl same ↦ omega arith
      | inr more ↦
          let last : suc i ≢ length a.own + 1 = λ e. apart (e ∙ sym (ap (λ t. cond t (length a.own + 1) (row_used o)) more.1)) in
          below (length a.own) (length b.own) past more.0 last
    ]
      where
        below : (x y : ℕ) → x ≤ i → y ≡ x + 1 → suc i ≢ x + 1 → y ≤ i
        below x y past is last = omega arith
