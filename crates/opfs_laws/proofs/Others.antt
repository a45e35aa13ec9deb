-- What is an agent's own, over a legal history.
use Rattle.std.proofs.Common.{◌≡◌, ◌≢◌, ℕ, All, List, [], ◌∷◌, ◌++◌, fold, Option, Some, None, refl, sym, ap, ◌∙◌, subst, append_assoc, append-nil}
use Rattle.std.proofs.lemmas.List.Elements.{All-nil, All-cons, All-head, All-tail}
use Rattle.std.proofs.lemmas.List.Sums.{fold-append}
use Rattle.opfs_base.specs.Texts.{Text}
use Rattle.opfs_hist.specs.declared.entry.Entry.{Entry}
use Rattle.opfs_machine.specs.declared.own.Own.{Own}
use Rattle.opfs_machine.specs.declared.state.State.{State}
use Rattle.opfs_machine.specs.Agents.{counted}
use Rattle.opfs_machine.specs.Histories.{evicted_by, IsCall, LegalFrom, Legal, after_op, after_entry, state_after}
use Rattle.opfs_machine.specs.Openings.{Opening, begun}
use Rattle.opfs_machine.specs.OwnRows.{mine}
use Rattle.opfs_machine.specs.Steps.{evicted, after_reply, changed_by}
use Rattle.opfs_laws.specs.Holders.{AreLocksOfHolders}
use Rattle.opfs_laws.specs.Leaving.{seen_by}
use Rattle.opfs_laws.proofs.Apart.{IsApart, mine-apart, apart-evicted, changed-apart}
use Rattle.opfs_laws.proofs.Going.{NextFrom}
use Rattle.opfs_laws.proofs.LocksEffect.{Untaken, untaken-stays, locks-fold, gone-untaken, number-after, call-allowed, locks-kept, locks-begun}

all-front : (P : Text → Type 0) (xs ys : List Text) → All P (xs ++ ys) → All P xs
all-front P [] ys all = All-nil P
all-front P (x ∷ xs) ys all = All-cons P x xs (All-head P x (xs ++ ys) all) (all-front P xs ys (All-tail P x (xs ++ ys) all))

all-back : (P : Text → Type 0) (xs ys : List Text) → All P (xs ++ ys) → All P ys
all-back P [] ys all = all
all-back P (x ∷ xs) ys all = all-back P xs ys (All-tail P x (xs ++ ys) all)

abbrev TakenOn : State Text Own → List Text → Entry → List Entry → Option Text → Type 0
TakenOn s gone e es told = NextFrom s gone e es told → All (Untaken s) gone

-- The units that stand cleared before a legal rest had no taken lock.
pub legal-untaken : (s : State Text Own) (gone : List Text) (es : List Entry) → LegalFrom s gone es → All (Untaken s) gone
legal-untaken s gone [] legal = subst (All (Untaken s)) (sym legal) (All-nil (Untaken s))
legal-untaken s gone (e ∷ es) legal =
    elim (evicted_by e.op) as (TakenOn s gone e es) [
      | Some unit ↦ λ next. all-front (Untaken s) gone (unit ∷ []) (legal-untaken s (gone ++ unit ∷ []) es next.1)
      | None ↦ λ next. gone-untaken s gone e next.0
    ] legal

untaken-fold : (gone : List Text) (s : State Text Own) (unit : Text) → Untaken s unit → Untaken (fold evicted s gone) unit
untaken-fold [] s unit h = h
untaken-fold (first ∷ units) s unit h = untaken-fold units (evicted s first) unit (untaken-stays s unit first h)

-- All that is an agent's own is the same in two states that are apart from it.
seen-apart : (s t : State Text Own) (k : ℕ) → IsApart s t k → seen_by t k ≡ seen_by s k
seen-apart s t k h = λ i. (h.agent i, mine-apart s t k h i)

counted-seen : (s : State Text Own) (j k : ℕ) → seen_by (counted s j) k ≡ seen_by s k
counted-seen s j k = refl

abbrev SameOn : State Text Own → ℕ → Entry → Option Text → Type 0
SameOn t k e told = seen_by (after_op t e told) k ≡ seen_by t k

-- One entry.
call-same : (s : State Text Own) (gone : List Text) (e : Entry) (k : ℕ) → AreLocksOfHolders s → k ≢ e.agent → IsCall s gone e
    → seen_by (after_reply (fold evicted s gone) e.agent e.op e.reply) k ≡ seen_by (fold evicted s gone) k
call-same s gone e k locks apart call =
    let t = fold evicted s gone in
    counted-seen (changed_by t e.agent e.op e.reply) e.agent k
    ∙ seen-apart t (changed_by t e.agent e.op e.reply) k
    (changed-apart t e.agent k (number-after s gone e.agent call.live) apart (locks-fold gone s (gone-untaken s gone e call) locks) e.op e.reply (call-allowed s gone e call))

eviction-same : (s : State Text Own) (gone : List Text) (unit : Text) (k : ℕ) → AreLocksOfHolders s → All (Untaken s) (gone ++ unit ∷ [])
    → seen_by (evicted (fold evicted s gone) unit) k ≡ seen_by (fold evicted s gone) k
eviction-same s gone unit k locks all =
    let t = fold evicted s gone in
    let last = All-head (Untaken s) unit [] (all-back (Untaken s) gone (unit ∷ []) all) in
    seen-apart t (evicted t unit) k
    (apart-evicted t k unit (untaken-fold gone s unit last) (locks-fold gone s (all-front (Untaken s) gone (unit ∷ []) all) locks))

abbrev LastOn : State Text Own → List Text → Entry → List Entry → ℕ → Option Text → Type 0
LastOn s gone e rest k told = NextFrom s gone e rest told → SameOn (fold evicted s gone) k e told

abbrev FrontOn : State Text Own → List Text → Entry → List Entry → Entry → List Entry → ℕ → Option Text → Type 0
FrontOn s gone d front e rest k told =
    NextFrom s gone d (front ++ e ∷ rest) told
    → seen_by (after_entry (fold after_entry (after_op (fold evicted s gone) d told) front) e) k ≡ seen_by (fold after_entry (after_op (fold evicted s gone) d told) front) k

entry-same : (s : State Text Own) (gone : List Text) (front : List Entry) (e : Entry) (rest : List Entry) (k : ℕ) → AreLocksOfHolders s → k ≢ e.agent
    → LegalFrom s gone (front ++ e ∷ rest)
    → seen_by (after_entry (fold after_entry (fold evicted s gone) front) e) k ≡ seen_by (fold after_entry (fold evicted s gone) front) k
entry-same s gone [] e rest k locks apart legal =
    elim (evicted_by e.op) as (LastOn s gone e rest k) [
      | Some unit ↦ λ next. eviction-same s gone unit k locks (legal-untaken s (gone ++ unit ∷ []) rest next.1)
      | None ↦ λ next. call-same s gone e k locks apart next.0
    ] legal
entry-same s gone (d ∷ front) e rest k locks apart legal =
    elim (evicted_by d.op) as (FrontOn s gone d front e rest k) [
      | Some unit ↦ λ next.
          subst (λ t. seen_by (after_entry (fold after_entry t front) e) k ≡ seen_by (fold after_entry t front) k) (fold-append evicted s gone (unit ∷ []))
          (entry-same s (gone ++ unit ∷ []) front e rest k locks apart next.1)
      | None ↦ λ next. entry-same (after_reply (fold evicted s gone) d.agent d.op d.reply) [] front e rest k (locks-kept s gone d next.0 locks) apart next.1
    ] legal

-- One entry in a legal history.
pub others-seen : (o : Opening) (front : List Entry) (e : Entry) (rest : List Entry) (k : ℕ) → Legal o (front ++ e ∷ rest) → k ≢ e.agent
    → seen_by (state_after o (front ++ e ∷ [])) k ≡ seen_by (state_after o front) k
others-seen o front e rest k legal apart =
    ap (λ t. seen_by t k) (fold-append after_entry (begun o) front (e ∷ [])) ∙ entry-same (begun o) [] front e rest k (locks-begun o) apart legal

pub others-same : (o : Opening) (front : List Entry) (e : Entry) (rest : List Entry) (k : ℕ) → Legal o (front ++ e ∷ rest) → k ≢ e.agent
    → mine (state_after o (front ++ e ∷ [])) k ≡ mine (state_after o front) k
others-same o front e rest k legal apart = ap (λ x. x.1) (others-seen o front e rest k legal apart)

-- Several.
pub others-left : (o : Opening) (h more rest : List Entry) (k : ℕ) → Legal o ((h ++ more) ++ rest) → All (λ e. e.agent ≢ k) more
    → seen_by (state_after o (h ++ more)) k ≡ seen_by (state_after o h) k
others-left o h [] rest k legal all = ap (λ xs. seen_by (state_after o xs) k) (append-nil h)
others-left o h (e ∷ more) rest k legal all =
    let joined : h ++ e ∷ more ≡ (h ++ e ∷ []) ++ more = sym (append_assoc h (e ∷ []) more) in
    let whole : (h ++ e ∷ more) ++ rest ≡ h ++ e ∷ (more ++ rest) = append_assoc h (e ∷ more) rest in
    let first = All-head (λ x. x.agent ≢ k) e more all in
    let legal_more : Legal o (((h ++ e ∷ []) ++ more) ++ rest) = subst (λ xs. Legal o (xs ++ rest)) joined legal in
    ap (λ xs. seen_by (state_after o xs) k) joined
    ∙ others-left o (h ++ e ∷ []) more rest k legal_more (All-tail (λ x. x.agent ≢ k) e more all)
    ∙ others-seen o h e (more ++ rest) k (subst (Legal o) whole legal) (λ same. first (sym same))
