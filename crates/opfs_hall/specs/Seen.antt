-- What clauses see of a hall and of a pass.
use Rattle.std.specs.Prelude.{◌≡◌, ◌≢◌, ℕ, ◌<◌, ◌≤◌, Bool, true, false, List, [], ◌∷◌, ◌++◌, length, map, slice_get, Contains, Some, refl}
use Rattle.std.specs.Coded.{Coded, code_by, coded×, coded_ℕ, coded_bool, coded_list}
use Rattle.atomic_table.specs.Seated.{TableId, table_id_coded}

-- which hall it is, what its history began from, and how many agents it has
pub record HallSeen (O : Type 0) : Type 0 where
  pub id : TableId
  pub opening : O
  pub agents : ℕ

-- a pass of the hall: its number, the list that it has seen, the numbers and bases of the passes joined into it, and
-- whether it has the turn
pub record PassSeen (O E : Type 0) : Type 0 where
  pub hall : HallSeen O
  pub agent : ℕ
  pub base : List E
  pub ended : List (ℕ × List E)
  pub busy : Bool

-- the owner's pass, and the value that it has seen last
pub record WatchSeen (O E X : Type 0) : Type 0 where
  pub pass : PassSeen O E
  pub last : X

-- how proofs store these, for the models of callers' types that hold them
abbrev pub hall_code : {O : Type 0} → Coded O → Coded (HallSeen O)
hall_code {O} opening =
    code_by (TableId × (O × ℕ)) (coded× table_id_coded (coded× opening coded_ℕ))
    (λ h. (h.id, (h.opening, h.agents))) (λ p. record { id = p.0; opening = p.1.0; agents = p.1.1 }) (λ _. refl)

abbrev pub pass_code : {O E : Type 0} → Coded O → Coded E → Coded (PassSeen O E)
pass_code {O} {E} opening entry =
    code_by (HallSeen O × (ℕ × (List E × (List (ℕ × List E) × Bool))))
    (coded× (hall_code opening) (coded× coded_ℕ (coded× (coded_list entry) (coded× (coded_list (coded× coded_ℕ (coded_list entry))) coded_bool))))
    (λ p. (p.hall, (p.agent, (p.base, (p.ended, p.busy)))))
    (λ p. record { hall = p.0; agent = p.1.0; base = p.1.1.0; ended = p.1.1.1.0; busy = p.1.1.1.1 })
    (λ _. refl)

module _ {O E : Type 0} where
  -- a pass that has not entered yet
  abbrev pub new_pass : HallSeen O → ℕ → List E → PassSeen O E
  new_pass hall agent base = record { hall = hall; agent = agent; base = base; ended = []; busy = false }

  -- the passes 0 to n - 1 of the hall, in order, none of which has entered yet
  abbrev pub AreNew : HallSeen O → ℕ → List (PassSeen O E) → Type 0
  AreNew hall n passes = (length passes ≡ n) × ((k : ℕ) → k < n → slice_get passes k ≡ Some (new_pass hall k []))

  -- the pass, with the turn and this list
  abbrev pub in_turn : PassSeen O E → List E → PassSeen O E
  in_turn pass list = record pass { base = list; busy = true }

  -- the pass, without the turn, having seen this list
  abbrev pub at_rest : PassSeen O E → List E → PassSeen O E
  at_rest pass list = record pass { base = list; busy = false }

  -- the pass, with what the other has seen and collected
  abbrev pub joined : PassSeen O E → PassSeen O E → PassSeen O E
  joined into from = record into { ended = into.ended ++ ((from.agent, from.base) ∷ from.ended) }

  -- each other pass of its hall has ended, and was joined into this one
  abbrev pub HasAll : PassSeen O E → Type 0
  HasAll pass = (k : ℕ) → k ≤ pass.hall.agents → k ≢ pass.agent → Contains (map (λ p. p.0) pass.ended) k
