-- The turn's rule, as plain data, and what each kind of step tells.
-- In the rule tickets count without end: `served` and `drawn` are the ticket that is served and the next one to be
-- drawn, and the words are these modulo 2^64. Sums over the views say that no two views have one ticket or one number.
use Rattle.std.specs.Prelude.{◌≡◌, ◌≢◌, ℕ, zero, suc, nat_eq, ◌+◌, ◌%◌, ◌^◌, ◌<◌, ◌≤◌, true, false, cond, List, [], ◌∷◌, ◌++◌, All, sum_by, count_by, Option, Some, None, IfSome, IsSome, unwrap_or, is_none}
use mathlib.Core.Option.{some, none}
use mathlib.Core.Option as maybe
use lib.ListN.{get_elem?}
use Rattle.atomic_table.specs.Table.{State, Me, Step}
use Rattle.atomic_table.specs.Seated.{TableId}
use Rattle.atomic_table.specs.declared.shared.Seat.{Seat}
use Rattle.opfs_hall.specs.declared.board.View.{View}
use Rattle.opfs_hall.specs.History.{Adds, IsPrefix, owned, GrowsByOthers, HasEnded}
use Rattle.opfs_hall.specs.Seen.{HallSeen, PassSeen, WatchSeen}

-- 1 where the number is there, and is k
abbrev pub one_at : ℕ → Option ℕ → ℕ
one_at k None = 0
one_at k (Some j) = cond (nat_eq j k) 1 0

-- 1 where there is a number
abbrev pub one_if_some : Option ℕ → ℕ
one_if_some None = 0
one_if_some (Some j) = 1

module _ {X O E : Type 0} where
  -- what a sum over all views adds for one
  abbrev pub has_ticket : View O E X → ℕ
  has_ticket v = one_if_some v.ticket

  abbrev pub has_number : View O E X → ℕ
  has_number v = one_if_some v.number

  abbrev pub has_next : View O E X → ℕ
  has_next v = one_if_some v.next

  abbrev pub is_in : View O E X → ℕ
  is_in v = cond v.inside 1 0

  abbrev pub ticket_is : ℕ → View O E X → ℕ
  ticket_is t v = one_at t v.ticket

  -- how often a view names the number k, as its own or as that of an ended pass
  abbrev pub names : ℕ → View O E X → ℕ
  names k v = one_at k v.number + count_by (λ p. nat_eq p.0 k) v.ended

  -- a seat that is no pass yet, and may draw the number k
  abbrev pub fresh_view : ℕ → O → List E → ℕ → View O E X
  fresh_view agents opening base k = record { agents = agents; opening = Some opening; number = None; base = base; last = None; ended = []; ticket = None; inside = false; next = Some k }

  abbrev pub first_view : ℕ → O → List E → View O E X
  first_view agents opening base = fresh_view agents opening base 0

  abbrev pub split_left : View O E X → View O E X
  split_left v = record v { next = None }

  abbrev pub split_right : View O E X → View O E X
  split_right v = record v { number = None; ended = []; ticket = None; inside = false }

  -- what a seat beside that of a pass knows, which is no pass
  abbrev pub shadow : View O E X → View O E X
  shadow v = record v { number = None; ended = []; ticket = None; inside = false; next = None }

  -- a pass has seen what such a seat knows
  abbrev pub learned : View O E X → View O E X → View O E X
  learned v u = record v { base = u.base }

  -- a pass goes on from the value that such a seat has seen
  abbrev pub followed : View O E X → View O E X → View O E X
  followed v u = record v { last = u.last }

  abbrev pub joined_view : View O E X → View O E X → View O E X
  joined_view v u = record v { ended = v.ended ++ ((unwrap_or u.number 0, u.base) ∷ u.ended) }

  abbrev pub spent_view : View O E X
  spent_view = record { agents = 0; opening = None; number = None; base = []; last = None; ended = []; ticket = None; inside = false; next = None }

module _ {E : Type 0} (owner : E → ℕ) where
  -- the entries of k in the log are those in the base
  abbrev pub SameOwn : ℕ → List E → List E → Type 0
  SameOwn k log base = k ≢ 0 → owned owner k log ≡ owned owner k base

module _ {X O E : Type 0} (owner : E → ℕ) (goes : X → X → Type 0) where
  -- What the rule says of one view, where `value` and `log` are the value and its list at the last hand-over and n the next number
  pub record Fits (most : ℕ) (begun : O) (served drawn n : ℕ) (value : X) (log : List E) (v : View O E X) : Type 0 where
    pub opened : IfSome v.opening (λ o. (o ≡ begun) × (v.agents ≡ most))
    pub begins : IsPrefix v.base log
    pub goes_on : IfSome v.last (λ x. goes x value)
    pub own : IfSome v.number (λ k. SameOwn owner k log v.base)
    pub ended : All (λ p. (p.0 ≢ 0) × HasEnded owner log p) v.ended
    pub waits : IfSome v.ticket (λ t. (served ≤ t) × (t < drawn) × IsSome v.number)
    pub inside : v.inside ≡ true → (v.ticket ≡ Some served) × (v.base ≡ log) × (v.last ≡ Some value)
    pub next : IfSome v.next (λ k. k ≡ n)

module _ {X O E : Type 0} (opening : X → O) (entries : X → List E) where
  -- The slot, where `inside` counts the views that are in: one value of that opening and that list, or none
  abbrev pub Home : O → List E → ℕ → List (maybe.Option (Option X)) → Type 0
  Home begun log zero homes = (x : X) × (homes ≡ some (Some x) ∷ []) × (opening x ≡ begun) × (entries x ≡ log)
  Home begun log (suc zero) homes = homes ≡ none ∷ []
  Home begun log (suc (suc inside)) homes = ⊥

  module _ (owner : E → ℕ) (goes : X → X → Type 0) where
    -- The rule
    pub record Kept (most : ℕ) (begun : O) (s : State (Option X) (View O E X)) : Type 0 where
      pub served : ℕ
      pub drawn : ℕ
      pub n : ℕ
      pub value : X
      pub log : List E
      pub logged : entries value ≡ log
      pub small : most ≤ 64
      pub words : s.words ≡ served % 2 ^ 64 ∷ drawn % 2 ^ 64 ∷ n ∷ []
      pub few : n ≤ most + 1
      pub line : drawn ≡ served + sum_by has_ticket s.views
      pub seated : sum_by has_number s.views ≤ n
      pub single : sum_by has_next s.views ≤ 1
      pub one_each : (t : ℕ) → sum_by (ticket_is t) s.views ≤ 1
      pub once : (k : ℕ) → sum_by (names k) s.views ≤ 1
      pub below : (k : ℕ) → n ≤ k → sum_by (names k) s.views ≡ 0
      pub undrawn : (k : ℕ) → n ≤ k → k ≢ 0 → owned owner k log ≡ []
      pub home : Home begun log (sum_by is_in s.views) s.homes
      pub there : (x : X) → s.homes ≡ some (Some x) ∷ [] → x ≡ value
      pub each : (j : ℕ) (v : View O E X) → get_elem? s.views j ≡ some v → Fits owner goes most begun served drawn n value log v

    -- the seat m has entered, and is m' now
    abbrev pub Entered : Me (Option X) (View O E X) → Me (Option X) (View O E X) → Type 0
    Entered m m' = (x : X) × (m' ≡ (record m.0 { inside = true; base = entries x; last = Some x }, (0, Some x) ∷ m.1))
        × IfSome m.0.opening (λ o. opening x ≡ o) × IfSome m.0.number (λ k. GrowsByOthers owner k m.0.base (entries x))
        × IfSome m.0.last (λ y. goes y x)

    -- a look at the ticket that is served
    abbrev pub looked : Step (Option X) → Me (Option X) (View O E X) → ℕ → Me (Option X) (View O E X) → Type 0
    looked step m found m' = (t : ℕ) → m.0.ticket ≡ Some t → (found ≡ t % 2 ^ 64 → Entered m m') × (found ≢ t % 2 ^ 64 → m' ≡ m)

-- two words and the number, and one slot
abbrev pub IsSized : TableId → Type 0
IsSized z = (z.words ≡ 3) × (z.slots ≡ 1)

-- what a seat knows and holds
abbrev pub Held : Type 0 → Type 0 → Type 0 → Type 0
Held X O E = Me (Option X) (View O E X)

module _ {X O E : Type 0} where
  -- a ticket is drawn
  abbrev pub ticketed : Step (Option X) → Held X O E → ℕ → Held X O E → Type 0
  ticketed step m found m' = (t : ℕ) × (m' ≡ (record m.0 { ticket = Some t }, m.1)) × (t % 2 ^ 64 ≡ found)

  -- a number is drawn
  abbrev pub numbered : Step (Option X) → Held X O E → ℕ → Held X O E → Type 0
  numbered step m found m' = (k : ℕ) → m.0.next ≡ Some k → (found ≡ k) × (m' ≡ (record m.0 { number = Some k; next = Some (k + 1) }, m.1))

  -- the turn is handed on, with what lies in the slot
  abbrev pub handed_on : (X → List E) → Step (Option X) → Held X O E → ℕ → Held X O E → Type 0
  handed_on entries step m found m' = (y : X) → m.1 ≡ (0, Some y) ∷ [] → m' ≡ (record m.0 { inside = false; ticket = None; base = entries y; last = Some y }, [])

-- What the code has of a seat
module _ {X O E : Type 0} where
  abbrev pub IsSameSeat : Seat (Option X) (View O E X) → Seat (Option X) (View O E X) → Type 0
  IsSameSeat s t = (t.table_id ≡ s.table_id) × (t.id ≡ s.id)

  -- it has its number, and neither a ticket nor the slot
  abbrev pub IsIdle : Seat (Option X) (View O E X) → Type 0
  IsIdle s = (s.me.0.ticket ≡ None) × IsSome s.me.0.number × (s.me.1 ≡ [])

  -- it is no pass of the hall yet, and may draw the number k
  abbrev pub IsFresh : Seat (Option X) (View O E X) → HallSeen O → ℕ → Type 0
  IsFresh s hall k = (s.table_id ≡ hall.id) × (s.me ≡ (fresh_view hall.agents hall.opening [] k, []))

  -- it is the seat of a pass of the hall, and holds the slot, empty, where the pass has the turn
  pub record IsPlaced (place : Seat (Option X) (View O E X)) (hall : HallSeen O) (agent : ℕ) : Type 0 where
    pub table : place.table_id ≡ hall.id
    pub opening : place.me.0.opening ≡ Some hall.opening
    pub agents : place.me.0.agents ≡ hall.agents
    pub number : place.me.0.number ≡ Some agent
    pub idle : place.me.0.inside ≡ false → (place.me.0.ticket ≡ None) × (place.me.1 ≡ [])
    pub busy : place.me.0.inside ≡ true → place.me.1 ≡ (0, None) ∷ []

  -- it is the seat of this pass
  pub record IsPlaceOf (place : Seat (Option X) (View O E X)) (pass : PassSeen O E) : Type 0 where
    pub placed : IsPlaced place pass.hall pass.agent
    pub base : place.me.0.base ≡ pass.base
    pub ended : place.me.0.ended ≡ pass.ended
    pub inside : place.me.0.inside ≡ pass.busy

  -- the seat of a pass: its own, or while the turn has it, as it was handed over
  abbrev pub seat_of : Option (Seat (Option X) (View O E X)) → Seat (Option X) (View O E X) → Seat (Option X) (View O E X)
  seat_of None lent = lent
  seat_of (Some seat) lent = seat

  -- what clauses see of a pass
  abbrev pub pass_of : Option (Seat (Option X) (View O E X)) → Seat (Option X) (View O E X) → HallSeen O → ℕ → PassSeen O E
  pass_of seat lent hall agent = record { hall = hall; agent = agent; base = (seat_of seat lent).me.0.base; ended = (seat_of seat lent).me.0.ended; busy = is_none seat }

  -- what a pass keeps: its seat is that of a pass of the hall, and the turn has it while the pass has the turn
  pub record IsSeated (seat : Option (Seat (Option X) (View O E X))) (lent : Seat (Option X) (View O E X)) (hall : HallSeen O) (agent : ℕ) : Type 0 where
    pub placed : IsPlaced (seat_of seat lent) hall agent
    pub inside : (seat_of seat lent).me.0.inside ≡ is_none seat

  -- what clauses see of a watch, and what it keeps
  abbrev pub watch_of : Seat (Option X) (View O E X) → HallSeen O → X → WatchSeen O E X
  watch_of seat hall last = record { pass = pass_of (Some seat) seat hall 0; last = last }

  pub record IsWatch (seat : Seat (Option X) (View O E X)) (hall : HallSeen O) (last : X) : Type 0 where
    pub placed : IsPlaced seat hall 0
    pub inside : seat.me.0.inside ≡ false
    pub seen : seat.me.0.last ≡ Some last

module _ {X O E : Type 0} (opening : X → O) (entries : X → List E) (owner : E → ℕ) (goes : X → X → Type 0) where
  -- a seat has taken the turn, with this value
  pub record HasTaken (hall : HallSeen O) (old new : Seat (Option X) (View O E X)) (x : X) : Type 0 where
    pub placed : (k : ℕ) → IsPlaced old hall k → IsPlaced new hall k
    pub opened : opening x ≡ hall.opening
    pub grows : (k : ℕ) → IsPlaced old hall k → GrowsByOthers owner k old.me.0.base (entries x)
    pub base : new.me.0.base ≡ entries x
    pub ended : new.me.0.ended ≡ old.me.0.ended
    pub inside : new.me.0.inside ≡ true
    pub last : new.me.0.last ≡ Some x
    pub goes_on : IfSome old.me.0.last (λ y. goes y x)

  -- a seat has the turn, and may hand it on with this value
  pub record MayGive (hall : HallSeen O) (old : Seat (Option X) (View O E X)) (x : X) : Type 0 where
    pub agent : ℕ
    pub placed : IsPlaced old hall agent
    pub adds : Adds owner agent old.me.0.base (entries x)
    pub inside : old.me.0.inside ≡ true
    pub opened : opening x ≡ hall.opening
    pub came : X
    pub last : old.me.0.last ≡ Some came
    pub goes_on : goes came x

  -- it has handed it on
  pub record HasGiven (hall : HallSeen O) (old new : Seat (Option X) (View O E X)) (x : X) : Type 0 where
    pub placed : (k : ℕ) → IsPlaced old hall k → IsPlaced new hall k
    pub base : new.me.0.base ≡ entries x
    pub ended : new.me.0.ended ≡ old.me.0.ended
    pub inside : new.me.0.inside ≡ false
    pub last : new.me.0.last ≡ Some x
