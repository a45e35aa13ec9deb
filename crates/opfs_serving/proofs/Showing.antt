-- What was told of agents, as more is told.
use Rattle.std.proofs.Common.{◌≡◌, ◌≢◌, ◌⊎◌, ℕ, suc, ◌+◌, ◌<◌, ◌≤◌, ◌==◌, ◌&&◌, ◌||◌, Bool, true, false, Some, None, List, [], ◌∷◌, ◌++◌, append-nil, length, refl, sym, ap, ◌∙◌, subst, inl, inr, arith, slice_set}
use Rattle.std.specs.Prelude.{slice_get}
use Rattle.std.proofs.lemmas.List.Elements.{filter-append}
use Rattle.std.proofs.lemmas.List.Folds.{list_any-append}
use Rattle.std.proofs.lemmas.List.Sums.{length-filter}
use Rattle.opfs_hall.proofs.Owned.{prefix_trans}
use Rattle.opfs_hall.specs.History.{IsPrefix}
use Rattle.opfs_hist.specs.declared.entry.Entry.{Entry}
use Rattle.opfs_laws.specs.Leaving.{is_end}
use Rattle.opfs_runner.specs.Stepping.{own_entries}
use Rattle.opfs_script_run.specs.Runs.Running.{entries_of}
use Rattle.opfs_serving.specs.Lines.{has_end}
use Rattle.opfs_serving.specs.Seats.{SeatSeen}
use Rattle.opfs_serving.specs.Served.{AreTold}
use Rattle.opfs_serving.proofs.Seating.{place}
use Rattle.opfs_turns.specs.Agents.{AgentSeen, known, entries_of as count_entries}

-- ---- an end, and an agent's own entries, in a list that grows

or-true : (b : Bool) → (b || true) ≡ true
or-true true = refl
or-true false = refl

pub over-more : (k : ℕ) (told later : List Entry) → IsPrefix told later → has_end k told ≡ true → has_end k later ≡ true
over-more k told later front is =
    ap (has_end k) front.1 ∙ list_any-append (λ (e : Entry). (e.agent == k) && is_end e.op) told front.0 ∙ ap (λ b. b || has_end k front.0) is

pub over-behind : (k : ℕ) (front later : List Entry) → has_end k later ≡ true → has_end k (front ++ later) ≡ true
over-behind k [] later is = is
over-behind k (e ∷ front) later is =
    let here = (e.agent == k) && is_end e.op in
    ap (λ b. here || b) (over-behind k front later is) ∙ or-true here

pub own-more : (k : ℕ) (base list : List Entry) → IsPrefix base list → IsPrefix (entries_of k base) (entries_of k list)
own-more k base list front = (entries_of k front.0, ap (entries_of k) front.1 ∙ filter-append (λ (e : Entry). e.agent == k) base front.0)

-- What an agent has entered is among what it has seen, where nothing of it is pending.
pub shown-base : {O : Type 0} (k : ℕ) (a : AgentSeen O) (base list : List Entry) → a.pending ≡ [] → a.pass.agent ≡ k → a.pass.base ≡ base → IsPrefix base list → IsPrefix (own_entries a) (entries_of k list)
shown-base k a base list pending agent seen front =
    let own : own_entries a ≡ entries_of k base = (λ i. entries_of (agent i) (seen i ++ pending i)) ∙ ap (entries_of k) (append-nil base) in
    subst (λ es. IsPrefix es (entries_of k list)) (sym own) (own-more k base list front)

-- So many entries and rows: half of them were told as entries.
pub many-told : {O : Type 0} (a : AgentSeen O) (rows : ℕ) (es : List Entry) → a.entries ≡ count_entries a.pass.agent (known a) → rows ≤ length (own_entries a) → IsPrefix (own_entries a) es
    → 59900000 < a.entries + rows → 59900000 < length es + length es
many-told a rows es counted fewer front many =
    let own : length (own_entries a) ≡ a.entries = length-filter (λ (e : Entry). e.agent == a.pass.agent) (known a) ∙ sym counted in
    let long = front-length (own_entries a) es front in
    omega (arith, own, fewer, long, many)
  where
    front-length : (xs ys : List Entry) → IsPrefix xs ys → length xs ≤ length ys
    front-length [] ys front = omega arith
    front-length (x ∷ xs) ys front = subst (λ (l : List Entry). length (x ∷ xs) ≤ length l) (sym front.1) (let h = front-length xs (xs ++ front.0) (front.0, refl) in omega (arith, h))

-- ---- seats

module _ {O : Type 0} (told later : List Entry) (front : IsPrefix told later) (seats : List (SeatSeen O)) (h : AreTold seats told) where
  -- Another seat is at a place.
  module _ (i : ℕ) (x x' : SeatSeen O) (there : slice_get seats i ≡ Some x) (over : x'.agent ≡ None → has_end (suc i) later ≡ true)
      (shown : (a : AgentSeen O) → x'.agent ≡ Some a → x'.awaits ≡ None → IsPrefix (own_entries a) (entries_of (suc i) later)) where
    over-at : (k : ℕ) (y : SeatSeen O) → y.agent ≡ None → ((k ≡ i) × (y ≡ x')) ⊎ ((k ≢ i) × (slice_get seats k ≡ Some y)) → has_end (suc k) later ≡ true
    over-at k y none (inl is) = subst (λ n. has_end (suc n) later ≡ true) (sym is.0) (over (ap (λ (z : SeatSeen O). z.agent) (sym is.1) ∙ none))
    over-at k y none (inr is) = over-more (suc k) told later front (h.over k y is.1 none)

    shown-at : (k : ℕ) (y : SeatSeen O) (a : AgentSeen O) → y.agent ≡ Some a → y.awaits ≡ None → ((k ≡ i) × (y ≡ x')) ⊎ ((k ≢ i) × (slice_get seats k ≡ Some y))
        → IsPrefix (own_entries a) (entries_of (suc k) later)
    shown-at k y a here free (inl is) =
        subst (λ n. IsPrefix (own_entries a) (entries_of (suc n) later)) (sym is.0)
        (shown a (ap (λ (z : SeatSeen O). z.agent) (sym is.1) ∙ here) (ap (λ (z : SeatSeen O). z.awaits) (sym is.1) ∙ free))
    shown-at k y a here free (inr is) =
        prefix_trans (own_entries a) (entries_of (suc k) told) (entries_of (suc k) later) (h.shown k y a is.1 here free) (own-more (suc k) told later front)

    pub told-set : AreTold (slice_set seats i x') later
    told-set = record {
      over = λ k y at none. over-at k y none (place seats i x x' there k y at);
      shown = λ k y a at here free. shown-at k y a here free (place seats i x x' there k y at);
    }
