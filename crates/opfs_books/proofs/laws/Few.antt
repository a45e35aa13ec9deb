-- Histories are short: of few agents each has few calls, and each eviction took out a root that was made.
use Rattle.std.proofs.Common.{◌≡◌, ℕ, zero, suc, ◌+◌, ◌*◌, ◌^◌, ◌<◌, ◌≤◌, Bool, true, false, not, ◌&&◌, List, [], ◌∷◌, ◌++◌, length, refl, sym, ap, ◌∙◌, subst, append_assoc, append-nil, arith}
use Rattle.std.specs.List.{count_by, AllByRecursion}
use Rattle.std.specs.Prelude.{◌==◌, nat_le}
use Rattle.std.proofs.lemmas.Bool.{eqb-true, eq-eqb, leb-true, leb-false, false≢true}
use Rattle.opfs_base.specs.Texts.{Text}
use Rattle.opfs_hist.specs.declared.entry.Entry.{Entry}
use Rattle.opfs_machine.specs.Runs.{eviction}
use Rattle.opfs_records.specs.Replay.Built.{Built}
use Rattle.opfs_books.specs.Laws.Books.{AreFew, IsPlaced, is_eviction, calls_of, calls, evictions, roots}
use Rattle.opfs_books.proofs.laws.Counting.{one_if, count-more, count-cons, one_true, one_false}

abbrev of_agent : ℕ → Entry → Bool
of_agent k e = not (is_eviction e) && (e.agent == k)

one-most : (t : Bool) → one_if t ≤ 1
one-most true = omega arith
one-most false = omega arith

and-false : (a b : Bool) → b ≡ false → (a && b) ≡ false
and-false true b h = h
and-false false b h = refl

and-both : (a b : Bool) → a ≡ true → b ≡ true → (a && b) ≡ true
and-both true b h g = g
and-both false b h g = absurd (false≢true h)

not-eq : (a b : ℕ) → (a ≡ b → ⊥) → (a == b) ≡ false
not-eq a b no-way = elim (a == b) as (λ t. (a == b) ≡ t → t ≡ false) [ true ↦ λ is. absurd (no-way (eqb-true a b is)) | false ↦ λ is. refl ] refl

module _ (h : List Entry) (e : Entry) (plain : is_eviction e ≡ false) where
  calls-same : (k : ℕ) → (e.agent ≡ k → ⊥) → calls_of k (h ++ e ∷ []) ≡ calls_of k h
  calls-same k other = omega (arith, count-more (of_agent k) h e, one_false (of_agent k e) (and-false (not (is_eviction e)) (e.agent == k) (not-eq e.agent k other)))

  calls-one : (k : ℕ) → calls_of k (h ++ e ∷ []) ≤ calls_of k h + 1
  calls-one k = omega (arith, count-more (of_agent k) h e, one-most (of_agent k e))

  calls-count : calls (h ++ e ∷ []) ≡ calls h + 1
  calls-count = omega (arith, count-more (λ x. not (is_eviction x)) h e, one_true (not (is_eviction e)) (ap not plain))

  evictions-same : evictions (h ++ e ∷ []) ≡ evictions h
  evictions-same = omega (arith, count-more is_eviction h e, one_false (is_eviction e) plain)

  -- A call more, by which at most one root comes.
  pub few-call : (rows next : Built) → AreFew h rows → IsPlaced h e.agent → roots next ≤ roots rows + 1 → AreFew (h ++ e ∷ []) next
  few-call rows next few place made = record {
    each = λ k. elim (e.agent == k) as (λ t. (e.agent == k) ≡ t → calls_of k (h ++ e ∷ []) ≤ 60000002) [
      | true ↦ λ is.
          let here : calls_of k h ≡ calls_of e.agent h = ap (λ n. calls_of n h) (sym (eqb-true e.agent k is)) in
          omega (arith, calls-one k, here, place.rest)
      | false ↦ λ is. omega (arith, calls-same k (λ same. false≢true (sym is ∙ eq-eqb e.agent k same)), few.each k)
    ] refl;
    agents = λ k far. calls-same k (λ same. absurd (omega (arith, same, far, place.last))) ∙ few.agents k far;
    none = calls-same 0 (λ same. absurd (omega (arith, same, place.first))) ∙ few.none;
    gone = omega (arith, few.gone, made, calls-count, evictions-same);
  }

-- An eviction more, which takes out a root.
pub few-eviction : (h : List Entry) (unit : Text) (rows next : Built) → AreFew h rows → roots next + 1 ≤ roots rows → AreFew (h ++ eviction unit ∷ []) next
few-eviction h unit rows next few less =
    let same : (k : ℕ) → calls_of k (h ++ eviction unit ∷ []) ≡ calls_of k h = λ k. omega (arith, count-more (of_agent k) h (eviction unit)) in
    record {
      each = λ k. omega (arith, same k, few.each k);
      agents = λ k far. same k ∙ few.agents k far;
      none = same 0 ∙ few.none;
      gone = omega (arith, few.gone, less, count-more (λ x. not (is_eviction x)) h (eviction unit), count-more is_eviction h (eviction unit));
    }

-- Several calls of one agent, by which no root comes.
pub few-calls : (h es : List Entry) (k : ℕ) (rows : Built) → AllByRecursion (λ e. (is_eviction e ≡ false) × (e.agent ≡ k)) es → AreFew h rows → 1 ≤ k → k ≤ 64 → calls_of k h + length es ≤ 60000002 → AreFew (h ++ es) rows
few-calls h [] k rows all few first last room = subst (λ xs. AreFew xs rows) (sym (append-nil h)) few
few-calls h (e ∷ es) k rows all few first last room =
    let here : calls_of e.agent h ≡ calls_of k h = ap (λ n. calls_of n h) all.0.1 in
    let next = few-call h e all.0.0 rows rows few (record { first = omega (arith, first, all.0.1); last = omega (arith, last, all.0.1); rest = omega (arith, room, here) }) (omega arith) in
    subst (λ xs. AreFew xs rows) (append_assoc h (e ∷ []) es) (few-calls (h ++ e ∷ []) es k rows all.1 next first last (omega (arith, room, calls-one h e all.0.0 k)))

-- ---- the length of the whole

abbrev below : ℕ → Entry → Bool
below n e = not (is_eviction e) && nat_le e.agent n

below-step : (t : Bool) (a n : ℕ) → one_if (t && nat_le a (suc n)) ≤ one_if (t && nat_le a n) + one_if (t && (a == suc n))
below-step false a n = omega arith
below-step true a n =
    elim (nat_le a n) as (λ x. nat_le a n ≡ x → one_if (nat_le a (suc n)) ≤ one_if x + one_if (a == suc n)) [
      | true ↦ λ is. omega (arith, one-most (nat_le a (suc n)))
      | false ↦ λ is.
          elim (a == suc n) as (λ y. (a == suc n) ≡ y → one_if (nat_le a (suc n)) ≤ 0 + one_if y) [
            | true ↦ λ same. omega (arith, one-most (nat_le a (suc n)))
            | false ↦ λ same.
                elim (nat_le a (suc n)) as (λ z. nat_le a (suc n) ≡ z → one_if z ≤ 0 + 0) [
                  | true ↦ λ le.
                      let equal : a ≡ suc n = omega (arith, leb-false a n is, leb-true a (suc n) le) in
                      absurd (false≢true (sym same ∙ eq-eqb a (suc n) equal))
                  | false ↦ λ le. omega arith
                ] refl
          ] refl
    ] refl

below-more : (n : ℕ) (h : List Entry) → count_by (below (suc n)) h ≤ count_by (below n) h + calls_of (suc n) h
below-more n [] = omega arith
below-more n (e ∷ es) =
    omega (arith, below-more n es, count-cons (below (suc n)) e es, count-cons (below n) e es, count-cons (of_agent (suc n)) e es, below-step (not (is_eviction e)) e.agent n)

zero-step : (t : Bool) (a : ℕ) → one_if (t && nat_le a 0) ≤ one_if (t && (a == 0))
zero-step false a = omega arith
zero-step true a =
    elim (nat_le a 0) as (λ x. nat_le a 0 ≡ x → one_if x ≤ one_if (a == 0)) [
      | true ↦ λ is. omega (arith, one_true (a == 0) (eq-eqb a 0 (omega (arith, leb-true a 0 is))))
      | false ↦ λ is. omega arith
    ] refl

below-none : (h : List Entry) → count_by (below 0) h ≤ calls_of 0 h
below-none [] = omega arith
below-none (e ∷ es) = omega (arith, below-none es, count-cons (below 0) e es, count-cons (of_agent 0) e es, zero-step (not (is_eviction e)) e.agent)

below-most : (n : ℕ) (h : List Entry) (most : ℕ) → calls_of 0 h ≡ 0 → ((k : ℕ) → calls_of k h ≤ most) → count_by (below n) h ≤ most * n
below-most zero h most none each = omega (arith, below-none h, none)
below-most (suc n) h most none each =
    let more : most * suc n ≡ most * n + most = nat_mul_suc most n in
    omega (arith, below-more n h, below-most n h most none each, each (suc n), more)
  where
    nat_mul_suc : (a b : ℕ) → a * suc b ≡ a * b + a
    nat_mul_suc a b = omega arith

far-step : (t : Bool) (a n : ℕ) → (n < a → one_if (t && (a == a)) ≡ 0) → one_if t ≤ one_if (t && nat_le a n)
far-step false a n far = omega arith
far-step true a n far =
    elim (nat_le a n) as (λ x. nat_le a n ≡ x → 1 ≤ one_if x) [
      | true ↦ λ is. omega arith
      | false ↦ λ is. absurd (omega (arith, far (leb-false a n is), one_true (a == a) (eq-eqb a a refl)))
    ] refl

all-below : (n : ℕ) (h : List Entry) → ((k : ℕ) → n < k → calls_of k h ≡ 0) → calls h ≤ count_by (below n) h
all-below n [] none = omega arith
all-below n (e ∷ es) none =
    let rest : (k : ℕ) → n < k → calls_of k es ≡ 0 = λ k far. omega (arith, none k far, count-cons (of_agent k) e es) in
    let here : n < e.agent → one_if (of_agent e.agent e) ≡ 0 = λ far. omega (arith, none e.agent far, count-cons (of_agent e.agent) e es) in
    omega (arith, all-below n es rest, count-cons (λ x. not (is_eviction x)) e es, count-cons (below n) e es, far-step (not (is_eviction e)) e.agent n here)

both-kinds : (h : List Entry) → evictions h + calls h ≡ length h
both-kinds [] = refl
both-kinds (e ∷ es) = omega (arith, both-kinds es, count-cons is_eviction e es, count-cons (λ x. not (is_eviction x)) e es, either (is_eviction e))
  where
    either : (t : Bool) → one_if t + one_if (not t) ≡ 1
    either true = refl
    either false = refl

-- A history of few calls has less than 2^34 entries.
pub short-history : (h : List Entry) (rows : Built) → AreFew h rows → length h < 2 ^ 34
short-history h rows few = omega (arith, both-kinds h, few.gone, all-below 64 h few.agents, below-most 64 h 60000002 few.none few.each)
