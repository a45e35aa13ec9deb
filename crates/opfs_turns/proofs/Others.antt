-- Entries of other agents leave an agent, also where the bytes of reads are not told.
use Rattle.std.proofs.Common.{◌≡◌, ◌≢◌, ℕ, Bool, true, false, ◌&&◌, All, List, [], ◌∷◌, ◌++◌, append-nil, drop, get_or, map, fold, Option, refl, sym, ap, ◌∙◌, subst}
use Rattle.std.proofs.lemmas.List.Elements.{All-head, All-tail, All-cons}
use Rattle.opfs_base.specs.Texts.{Text}
use Rattle.opfs_hist.specs.declared.entry.Entry.{Entry}
use Rattle.opfs_machine.specs.declared.own.Own.{Own}
use Rattle.opfs_machine.specs.declared.state.State.{State}
use Rattle.opfs_machine.specs.Histories.{Legal, after_entry, state_after}
use Rattle.opfs_machine.specs.Openings.{Opening}
use Rattle.opfs_machine.specs.Steps.{step}
use Rattle.opfs_laws.specs.GoingOn.{IsPending, ArePending}
use Rattle.opfs_laws.specs.Leaving.{seen_by}
use Rattle.opfs_laws.proofs.Left.{pending-left}
use Rattle.opfs_laws.proofs.Others.{others-left}
use Rattle.opfs_laws.specs.Histories.Unread.{unread, unread_entry, IsTold, IsPendingFor, ArePendingFor}
use Rattle.opfs_laws.proofs.histories.Reading.{entry-same, unread-state}
use Rattle.opfs_laws.specs.Steady.Settling.{BytesStay}
use Rattle.opfs_laws.specs.Steady.Steady.{row_bytes, settles, goes_on, steady_by, steady_from}
use Rattle.opfs_laws.proofs.steady.Leaving.{local-leave}
use Rattle.opfs_laws.proofs.steady.Others.{bytes-alike, others-stay}

-- ---- lists that are alike but for the bytes of reads

pub record Splits (h more real : List Entry) : Type 0 where
  pub front : List Entry
  pub rest : List Entry
  pub whole : real ≡ front ++ rest
  pub first : map unread_entry h ≡ map unread_entry front
  pub last : map unread_entry more ≡ map unread_entry rest

pub heads-alike : (e r : Entry) (xs ys : List Entry) → unread_entry e ∷ xs ≡ unread_entry r ∷ ys → unread_entry e ≡ unread_entry r
heads-alike e r xs ys h = ap (λ (zs : List Entry). get_or zs 0 (unread_entry e)) h

pub tails-alike : (e r : Entry) (xs ys : List Entry) → e ∷ xs ≡ r ∷ ys → xs ≡ ys
tails-alike e r xs ys h = ap (λ (zs : List Entry). drop 1 zs) h

no-cons : (e : Entry) (xs : List Entry) → e ∷ xs ≡ [] → ⊥
no-cons e xs h = cc

pub alike-split : (h more real : List Entry) → map unread_entry (h ++ more) ≡ map unread_entry real → Splits h more real
alike-split [] more real alike = record { front = []; rest = real; whole = refl; first = refl; last = alike }
alike-split (e ∷ h) more [] alike = absurd (no-cons (unread_entry e) (map unread_entry (h ++ more)) alike)
alike-split (e ∷ h) more (r ∷ real) alike =
    let s = alike-split h more real (tails-alike (unread_entry e) (unread_entry r) (map unread_entry (h ++ more)) (map unread_entry real) alike) in
    let here = heads-alike e r (map unread_entry (h ++ more)) (map unread_entry real) alike in
    record { front = r ∷ s.front; rest = s.rest; whole = ap (λ xs. r ∷ xs) s.whole; first = λ i. here i ∷ s.first i; last = s.last }

apart-alike : (k : ℕ) (more rest : List Entry) → map unread_entry more ≡ map unread_entry rest → All (λ e. e.agent ≢ k) more → All (λ e. e.agent ≢ k) rest
apart-alike k [] [] alike all = all
apart-alike k [] (r ∷ rest) alike all = absurd (no-cons (unread_entry r) (map unread_entry rest) (sym alike))
apart-alike k (e ∷ more) [] alike all = absurd (no-cons (unread_entry e) (map unread_entry more) alike)
apart-alike k (e ∷ more) (r ∷ rest) alike all =
    let here = ap (λ (x : Entry). x.agent) (heads-alike e r (map unread_entry more) (map unread_entry rest) alike) in
    All-cons (λ x. x.agent ≢ k) r rest (λ is. All-head (λ x. x.agent ≢ k) e more all (here ∙ is))
    (apart-alike k more rest (tails-alike (unread_entry e) (unread_entry r) (map unread_entry more) (map unread_entry rest) alike) (All-tail (λ x. x.agent ≢ k) e more all))

pub after-alike : (s : State Text Own) (e r : Entry) → unread_entry e ≡ unread_entry r → after_entry s e ≡ after_entry s r
after-alike s e r h = sym (entry-same s e) ∙ ap (after_entry s) h ∙ entry-same s r

stay-alike : (s : State Text Own) (k n : ℕ) (more rest : List Entry) → map unread_entry more ≡ map unread_entry rest → BytesStay s k n rest → BytesStay s k n more
stay-alike s k n [] rest alike stay = tt
stay-alike s k n (e ∷ more) [] alike stay = absurd (no-cons (unread_entry e) (map unread_entry more) alike)
stay-alike s k n (e ∷ more) (r ∷ rest) alike stay =
    let here = after-alike s e r (heads-alike e r (map unread_entry more) (map unread_entry rest) alike) in
    let then = stay-alike (after_entry s r) k n more rest (tails-alike (unread_entry e) (unread_entry r) (map unread_entry more) (map unread_entry rest) alike) stay.1 in
    (ap (λ t. row_bytes t k n) here ∙ stay.0, subst (λ t. BytesStay t k n more) (sym here) then)

-- ---- entries of others

module _ (tells : Type 0) (o : Opening) (base more : List Entry) (k : ℕ) (told : IsTold tells o (base ++ more)) (apart : All (λ e. e.agent ≢ k) more) where
  split : Splits base more told.real
  split = alike-split base more told.real told.alike

  legal : Legal o ((split.front ++ split.rest) ++ [])
  legal = subst (Legal o) (split.whole ∙ sym (append-nil (split.front ++ split.rest))) told.legal

  others : All (λ e. e.agent ≢ k) split.rest
  others = apart-alike k more split.rest split.last apart

  front : state_after o base ≡ state_after o split.front
  front = unread-state o base split.front split.first

  pub told-seen : seen_by (state_after o (base ++ more)) k ≡ seen_by (state_after o base) k
  told-seen =
      ap (λ s. seen_by s k) (unread-state o (base ++ more) told.real told.alike ∙ ap (state_after o) split.whole)
      ∙ others-left o split.front split.rest [] k legal others
      ∙ ap (λ s. seen_by s k) (sym front)

  pub told-stay : (n : ℕ) → BytesStay (state_after o base) k n more
  told-stay n =
      subst (λ s. BytesStay s k n more) (sym front)
      (stay-alike (state_after o split.front) k n more split.rest split.last (others-stay o split.front split.rest [] k n legal others).0)

-- ---- entries of others before a rest

module _ (tells : Type 0) (o : Opening) (h more rest : List Entry) (k : ℕ) (told : IsTold tells o ((h ++ more) ++ rest)) (apart : All (λ e. e.agent ≢ k) more) where
  outer : Splits (h ++ more) rest told.real
  outer = alike-split (h ++ more) rest told.real told.alike

  inner : Splits h more outer.front
  inner = alike-split h more outer.front outer.first

  legal-before : Legal o ((inner.front ++ inner.rest) ++ outer.rest)
  legal-before = subst (Legal o) (outer.whole ∙ ap (λ xs. xs ++ outer.rest) inner.whole) told.legal

  pub told-stay-before : (n : ℕ) → BytesStay (state_after o h) k n more
  told-stay-before n =
      subst (λ s. BytesStay s k n more) (sym (unread-state o h inner.front inner.first))
      (stay-alike (state_after o inner.front) k n more inner.rest inner.last (others-stay o inner.front inner.rest outer.rest k n legal-before (apart-alike k more inner.rest inner.last apart)).0)

-- ---- the agent's own calls that are not entered yet

abbrev pub own_entry : State Text Own → Entry → Entry
own_entry s e = record e { reply = (step s e.agent e.op).answered }

module _ (tells : Type 0) (s t : State Text Own) (k : ℕ) (same : seen_by s k ≡ seen_by t k) (e : Entry) (h : IsPendingFor tells s k e) where
  real : IsPending s k (own_entry s e)
  real = record { agent = h.agent; live = h.live; fitting = h.fitting; local = h.local; answered = refl; turn = h.turn }

  there : ArePending t k (own_entry s e ∷ []) × (seen_by (fold after_entry s (own_entry s e ∷ [])) k ≡ seen_by (fold after_entry t (own_entry s e ∷ [])) k)
  there = pending-left s t k (own_entry s e ∷ []) same (real, tt)

  pub one-pending : IsPendingFor tells t k e
  one-pending =
      let p = there.0.0 in
      record {
        agent = h.agent;
        live = p.live;
        fitting = p.fitting;
        local = p.local;
        alike = h.alike ∙ ap unread p.answered;
        answered = λ tell. h.answered tell ∙ p.answered;
        turn = h.turn;
      }

  pub one-after : seen_by (after_entry s e) k ≡ seen_by (after_entry t e) k
  one-after =
      let alike : unread_entry e ≡ unread_entry (own_entry s e) = ap (λ r. record e { reply = r }) h.alike in
      ap (λ x. seen_by x k) (after-alike s e (own_entry s e) alike)
      ∙ there.1
      ∙ ap (λ x. seen_by x k) (sym (after-alike t e (own_entry s e) alike))

pub pending-for : (tells : Type 0) (s t : State Text Own) (k : ℕ) (es : List Entry) → seen_by s k ≡ seen_by t k → ArePendingFor tells s k es
    → ArePendingFor tells t k es × (seen_by (fold after_entry s es) k ≡ seen_by (fold after_entry t es) k)
pending-for tells s t k [] same h = (tt, same)
pending-for tells s t k (e ∷ es) same h =
    let rest = pending-for tells (after_entry s e) (after_entry t e) k es (one-after tells s t k same e h.0) h.1 in
    ((one-pending tells s t k same e h.0, rest.0), rest.1)

-- ---- steady pages through them

both-true : (x y : Bool) → x && y ≡ true → (x ≡ true) × (y ≡ true)
both-true true y h = (refl, h)
both-true false y h = absurd cc

joined-true : (x y : Bool) → x ≡ true → y ≡ true → x && y ≡ true
joined-true x y a b = (λ i. a i && b i)

local-by : (x : Bool) (was : Bool) (a b : Option Text) (i : ℕ) → x ≡ false → steady_by x was a b i ≡ (was && goes_on a b i)
local-by x was a b i h = ap (λ y. steady_by y was a b i) h

pub steady-carried : (tells : Type 0) (s t : State Text Own) (k n i : ℕ) (was then : Bool) (es : List Entry) → seen_by s k ≡ seen_by t k → ArePendingFor tells s k es
    → (was ≡ true → then ≡ true) → steady_from s was k n i es ≡ true → steady_from t then k n i es ≡ true
steady-carried tells s t k n i was then [] same h goes is = goes is
steady-carried tells s t k n i was then (e ∷ es) same h goes is =
    let after = one-after tells s t k same e h.0 in
    let old : row_bytes s k n ≡ row_bytes t k n = bytes-alike s t k n (ap (λ x. x.1) same) in
    let new : row_bytes (after_entry s e) k n ≡ row_bytes (after_entry t e) k n = bytes-alike (after_entry s e) (after_entry t e) k n (ap (λ x. x.1) after) in
    let there : steady_by (settles s k n e) was (row_bytes s k n) (row_bytes (after_entry s e) k n) i ≡ true → steady_by (settles t k n e) then (row_bytes t k n) (row_bytes (after_entry t e) k n) i ≡ true = λ here.
    let parts = both-true was (goes_on (row_bytes s k n) (row_bytes (after_entry s e) k n) i) (sym (local-by (settles s k n e) was (row_bytes s k n) (row_bytes (after_entry s e) k n) i (local-leave s k n e h.0.turn)) ∙ here) in
    local-by (settles t k n e) then (row_bytes t k n) (row_bytes (after_entry t e) k n) i (local-leave t k n e h.0.turn)
    ∙ joined-true then (goes_on (row_bytes t k n) (row_bytes (after_entry t e) k n) i) (goes parts.0) ((λ j. goes_on (sym old j) (sym new j) i) ∙ parts.1)
    in
    steady-carried tells (after_entry s e) (after_entry t e) k n i _ _ es after h.1 there is
