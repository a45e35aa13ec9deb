-- The agents, as one of them changes.
use Rattle.std.proofs.Common.{◌≡◌, ℕ, zero, suc, ◌+◌, ◌<◌, ◌≤◌, ◌==◌, ◌&&◌, Bool, true, false, List, [], ◌∷◌, length, map, drop, Option, Some, None, is_some, option_map, unwrap_or, refl, sym, ap, ◌∙◌, slice_set, get_or, arith}
use Rattle.std.proofs.lemmas.Option.{slice_get-get_or}
use Rattle.std.proofs.lemmas.List.{length-map}
use Rattle.std.specs.Prelude.{slice_get}
use Rattle.std.specs.List.{list_all, enumerate_from}
use Rattle.opfs_base.specs.Texts.{Text}
use Rattle.opfs_machine.specs.Agents.{agent_in, nobody, of_row}
use Rattle.opfs_machine.specs.declared.own.Outline.{Outline}
use Rattle.opfs_machine.specs.declared.state.Agent.{Agent}
use Rattle.opfs_register.specs.declared.seat.Seat.{Seat}
use Rattle.opfs_register.specs.declared.seat.Who.{Who}
use Rattle.opfs_register.specs.LastUses.{Counts, is_known}
use Rattle.opfs_register.specs.Seating.{agent_seen, agents_seen, agent_begun, key_of, is_ready, key_in, IsSeated, most_agents}
use Rattle.opfs_register.specs.Slots.{Rowed, slot_row, slot_of, slot_in, slot_set, with_slot}
use Rattle.opfs_register.proofs.KeptRows.{get-set, get-set_other, set-same}

pub get-seen : (seats : List Seat) (at : ℕ) → slice_get (agents_seen seats) at ≡ option_map agent_seen (slice_get seats at)
get-seen [] at = refl
get-seen (s ∷ seats) zero = refl
get-seen (s ∷ seats) (suc at) = get-seen seats at

pub set-seen : (seats : List Seat) (at : ℕ) (s : Seat) → agents_seen (slice_set seats at s) ≡ slice_set (agents_seen seats) at (agent_seen s)
set-seen [] at s = refl
set-seen (x ∷ seats) zero s = refl
set-seen (x ∷ seats) (suc at) s = ap (λ (rest : List (Agent Outline)). agent_seen x ∷ rest) (set-seen seats at s)

pub length-seen : (seats : List Seat) → length (agents_seen seats) ≡ length seats
length-seen [] = refl
length-seen (s ∷ seats) = ap suc (length-seen seats)

length-set : (seats : List Seat) (at : ℕ) (s : Seat) → length (slice_set seats at s) ≡ length seats
length-set [] at s = refl
length-set (x ∷ seats) zero s = refl
length-set (x ∷ seats) (suc at) s = ap suc (length-set seats at s)

-- Where an own row is, there is its agent.
pub seat-inside : (seats : List Seat) (at n : ℕ) → is_some (slot_in (agents_seen seats) at n) ≡ true → at < length seats
seat-inside [] at n h = absurd cc
seat-inside (s ∷ seats) zero n h = omega arith
seat-inside (s ∷ seats) (suc at) n h = omega (arith, seat-inside seats at n h)

some_is : {A : Type 0} {x y : A} → Some x ≡ Some y → x ≡ y
some_is h = cc

module _ (seats : List Seat) (at : ℕ) (was : Seat) (inside : at < length seats) (held : was ≡ get_or seats at was) where
  pub seat-there : slice_get seats at ≡ Some was
  seat-there = slice_get-get_or seats at was inside ∙ ap Some (sym held)

  pub agent-was : agent_in (agents_seen seats) (suc at) ≡ agent_seen was
  agent-was = ap (λ o. unwrap_or o nobody) (get-seen seats at ∙ ap (option_map agent_seen) seat-there)

  pub slot-was : (n : ℕ) → slot_in (agents_seen seats) at n ≡ slice_get was.rows.own n
  slot-was n = ap (λ o. slot_of o n) (get-seen seats at ∙ ap (option_map agent_seen) seat-there)

  -- An own row changed.
  pub slot-changed : (n : ℕ) (r : Outline) (rows : Rowed) → rows.own ≡ slice_set was.rows.own n r → agents_seen (slice_set seats at (record was { rows = rows })) ≡ with_slot (agents_seen seats) at n r
  slot-changed n r rows is =
      let with : List Outline → Agent Outline = λ own. record (agent_seen was) { own = own } in
      set-seen seats at (record was { rows = rows })
      ∙ ap (λ own. slice_set (agents_seen seats) at (with own)) is
      ∙ sym (ap (slot_set (agents_seen seats) at n r) (get-seen seats at ∙ ap (option_map agent_seen) seat-there))

  -- An agent changed, with its key as it was.
  pub reseated : (room room' : Option ℕ) (uses : Counts) (s : Seat) → IsSeated seats room uses → s.key ≡ was.key
      → ((k : ℕ) → room' ≡ Some k → is_ready (slice_get (slice_set seats at s) k) ≡ true) → IsSeated (slice_set seats at s) room' uses
  reseated room room' uses s seated key ready = record {
    few = omega (arith, length-set seats at s, seated.few);
    ready = ready;
    known = λ k origin is. key-by k origin (at == k) refl is;
  }
    where
      key-by : (k : ℕ) (origin : Text) (t : Bool) → t ≡ (at == k) → key_in (slice_get (slice_set seats at s) k) ≡ Some origin → is_known uses origin ≡ true
      key-by k origin true same is =
          let here : at ≡ k = grind (arith, same) in
          seated.known at origin (ap key_in seat-there ∙ sym key ∙ sym (ap key_in (get-set seats at s inside)) ∙ ap (λ j. key_in (slice_get (slice_set seats at s) j)) here ∙ is)
      key-by k origin false other is = seated.known k origin (ap key_in (sym (get-set_other seats at k s (sym other))) ∙ is)

  -- The same, where it has room if it had.
  pub kept-seated : (room : Option ℕ) (uses : Counts) (s : Seat) → IsSeated seats room uses → s.key ≡ was.key → (was.rows.ready ≡ true → s.rows.ready ≡ true) → IsSeated (slice_set seats at s) room uses
  kept-seated room uses s seated key ready = reseated room room uses s seated key (λ k is. ready-by k (at == k) refl (seated.ready k is))
    where
      ready-by : (k : ℕ) (t : Bool) → t ≡ (at == k) → is_ready (slice_get seats k) ≡ true → is_ready (slice_get (slice_set seats at s) k) ≡ true
      ready-by k true same was_ready =
          let here : at ≡ k = grind (arith, same) in
          ap (λ j. is_ready (slice_get (slice_set seats at s) j)) (sym here) ∙ ap is_ready (get-set seats at s inside)
          ∙ ready (sym (ap is_ready seat-there) ∙ ap (λ j. is_ready (slice_get seats j)) here ∙ was_ready)
      ready-by k false other was_ready = ap is_ready (get-set_other seats at k s (sym other)) ∙ was_ready

  pub ready-here : (s : Seat) → s.rows.ready ≡ true → (k : ℕ) → Some at ≡ Some k → is_ready (slice_get (slice_set seats at s) k) ≡ true
  ready-here s ready k is = ap (λ j. is_ready (slice_get (slice_set seats at s) j)) (sym (some_is is)) ∙ ap is_ready (get-set seats at s inside) ∙ ready

  pub agent-changed : (change : Agent Outline → Agent Outline) (s : Seat) → agent_seen s ≡ change (agent_seen was) → agents_seen (slice_set seats at s) ≡ slice_set (agents_seen seats) at (change (agent_in (agents_seen seats) (suc at)))
  agent-changed change s is = set-seen seats at s ∙ ap (slice_set (agents_seen seats) at) (is ∙ ap change (sym agent-was))

  pub agent-kept : (s : Seat) → agent_seen s ≡ agent_seen was → agents_seen (slice_set seats at s) ≡ agents_seen seats
  agent-kept s is = set-seen seats at s ∙ set-same (agents_seen seats) at (agent_seen s) (get-seen seats at ∙ ap (option_map agent_seen) seat-there ∙ ap Some (sym is))

pub place-inside : (seats : List Seat) (at : ℕ) → at < length (agents_seen seats) → at < length seats
place-inside seats at lt = omega (arith, lt, length-seen seats)

pub kept-inside : (seats : List Seat) (at n : ℕ) → is_some (of_row slot_row (slot_in (agents_seen seats) at n)) ≡ true → at < length seats
kept-inside seats at n h = seat-inside seats at n (row-there (slot_in (agents_seen seats) at n) h)
  where
    row-there : (o : Option Outline) → is_some (of_row slot_row o) ≡ true → is_some o ≡ true
    row-there None h = h
    row-there (Some r) h = refl

pub ready-was : (seats : List Seat) (at : ℕ) (was : Seat) → at < length seats → was ≡ get_or seats at was → (room : Option ℕ) (uses : Counts) → IsSeated seats room uses → room ≡ Some at → was.rows.ready ≡ true
ready-was seats at was inside held room uses seated is = sym (ap is_ready (seat-there seats at was inside held)) ∙ seated.ready at is

pub known-was : (seats : List Seat) (at : ℕ) (was : Seat) → at < length seats → was ≡ get_or seats at was → (room : Option ℕ) (uses : Counts) → IsSeated seats room uses → (origin : Text) → was.key ≡ Some origin → is_known uses origin ≡ true
known-was seats at was inside held room uses seated origin is = seated.known at origin (ap key_in (seat-there seats at was inside held) ∙ is)

-- Agents that begin.
begun-key : (seats : List Seat) (agents : List Who) → agents_seen seats ≡ map agent_begun agents → (at : ℕ) → key_in (slice_get seats at) ≡ key_of (slice_get agents at)
begun-key seats agents same at =
    seen-key (slice_get seats at) ∙ ap seen_key (sym (get-seen seats at) ∙ ap (λ xs. slice_get xs at) same ∙ get-begun agents at) ∙ sym (who-key (slice_get agents at))
  where
    seen_key : Option (Agent Outline) → Option Text
    seen_key None = None
    seen_key (Some a) = a.key

    seen-key : (o : Option Seat) → key_in o ≡ seen_key (option_map agent_seen o)
    seen-key None = refl
    seen-key (Some s) = refl

    who-key : (o : Option Who) → key_of o ≡ seen_key (option_map agent_begun o)
    who-key None = refl
    who-key (Some w) = refl

    get-begun : (agents : List Who) (at : ℕ) → slice_get (map agent_begun agents) at ≡ option_map agent_begun (slice_get agents at)
    get-begun [] at = refl
    get-begun (w ∷ ws) zero = refl
    get-begun (w ∷ ws) (suc at) = get-begun ws at

pub seated-begun : (seats : List Seat) (agents : List Who) (uses : Counts) → length agents ≤ most_agents → agents_seen seats ≡ map agent_begun agents
    → ((at : ℕ) (origin : Text) → key_of (slice_get agents at) ≡ Some origin → is_known uses origin ≡ true) → IsSeated seats None uses
seated-begun seats agents uses few same known = record {
  few = omega (arith, few, length-seen seats, ap length same, length-map agents agent_begun);
  ready = λ at never. cc;
  known = λ at origin is. known at origin (sym (begun-key seats agents same at) ∙ is);
}

-- The agents by their numbers.
pub numbered : {A : Type 0} (from k n j : ℕ) (xs : List A) (d : A) → n ≡ from + k → j ≡ suc k → k < length xs → drop k (enumerate_from from xs) ≡ (n, unwrap_or (slice_get xs k) d) ∷ drop j (enumerate_from from xs)
numbered from k n j [] d is next lt = absurd (omega (arith, lt))
numbered from zero n zero (x ∷ xs) d is next lt = absurd (omega (arith, next))
numbered {A} from zero n (suc zero) (x ∷ xs) d is next lt =
    let same : from ≡ n = omega (arith, is) in
    ap (λ (m : ℕ). (m, x) ∷ enumerate_from (from + 1) xs) same
numbered from zero n (suc (suc j)) (x ∷ xs) d is next lt = absurd (omega (arith, next))
numbered from (suc k) n zero (x ∷ xs) d is next lt = absurd (omega (arith, next))
numbered from (suc k) n (suc j) (x ∷ xs) d is next lt = numbered (from + 1) k n j xs d (omega (arith, is)) (omega (arith, next)) (omega (arith, lt))

module _ {A : Type 0} (p : A → Bool) (whole rest : List A) (x : A) (k : ℕ) (here : drop k whole ≡ x ∷ rest) (so_far : list_all p whole ≡ list_all p (drop k whole)) where
  pub all-next : p x ≡ true → list_all p whole ≡ list_all p rest
  all-next passes = so_far ∙ ap (list_all p) here ∙ ap (λ t. t && list_all p rest) passes

  pub all-fails : p x ≡ false → list_all p whole ≡ false
  all-fails fails = so_far ∙ ap (list_all p) here ∙ ap (λ t. t && list_all p rest) fails
