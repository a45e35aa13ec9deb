-- Agents that are seated, before their first steps.
use Rattle.std.proofs.Common.{◌≡◌, ◌⊎◌, ℕ, zero, suc, ◌+◌, ◌<◌, ◌≤◌, Some, None, List, [], ◌∷◌, ◌++◌, length, length-append, refl, sym, ap, ◌∙◌, subst, inl, inr, arith}
use Rattle.std.specs.Prelude.{slice_get}
use Rattle.std.proofs.lemmas.Bool.{cases_lt}
use Rattle.std.proofs.lemmas.Option.{slice_get_within}
use Rattle.opfs_script_run.specs.declared.runs.hand.Hand.{Hand}
use Rattle.opfs_turns.specs.Agents.{AgentSeen, IsAgent}
use Rattle.opfs_serving.specs.Seats.{SeatSeen}
use Rattle.opfs_serving.specs.Served.{AreSeatsOf}

some-same : {X : Type 0} {x y : X} → Some x ≡ Some y → x ≡ y
some-same e = cc

get-front : {A : Type 0} (xs : List A) (x : A) (i : ℕ) → i < length xs → slice_get (xs ++ x ∷ []) i ≡ slice_get xs i
get-front [] x i within = absurd (omega (arith, within))
get-front (y ∷ ys) x zero within = refl
get-front (y ∷ ys) x (suc i) within = get-front ys x i (omega (arith, within))

get-last : {A : Type 0} (xs : List A) (x : A) → slice_get (xs ++ x ∷ []) (length xs) ≡ Some x
get-last [] x = refl
get-last (y ∷ ys) x = get-last ys x

-- ---- one seat more

abbrev pub new_seat : {O : Type 0} → AgentSeen O → Hand → SeatSeen O
new_seat a h = record { agent = Some a; rows = []; hand = h; awaits = None }

last-or : {X : Type 0} (xs : List X) (x : X) (i : ℕ) (y : X) → slice_get (xs ++ x ∷ []) i ≡ Some y → (i < length xs) ⊎ (i ≡ length xs)
last-or xs x i y is = by (cases_lt i (length xs))
  where
    by : (i < length xs) ⊎ (length xs ≤ i) → (i < length xs) ⊎ (i ≡ length xs)
    by (inl below) = inl below
    by (inr past) = let within = slice_get_within (xs ++ x ∷ []) i y is in let long = length-append xs (x ∷ []) in inr (omega (arith, past, within, long))

is-last : {X : Type 0} (xs : List X) (x : X) (i : ℕ) (y : X) → slice_get (xs ++ x ∷ []) i ≡ Some y → i ≡ length xs → x ≡ y
is-last xs x i y is place = some-same (sym (get-last xs x) ∙ ap (slice_get (xs ++ x ∷ [])) (sym place) ∙ is)

module _ {O : Type 0} (tells : Type 0) (agents rest : List (AgentSeen O)) (a : AgentSeen O) (hands front : List Hand) (h : Hand) (split : agents ≡ rest ++ a ∷ []) (parted : hands ≡ front ++ h ∷ [])
    (count : length agents ≡ length hands) where
  long : length agents ≡ length rest + 1
  long = ap length split ∙ length-append rest (a ∷ [])

  pub seats-front : length rest ≡ length front
  seats-front = let many = ap length parted ∙ length-append front (h ∷ []) in omega (arith, long, many, count)

  pub seats-room : (most : ℕ) → length agents ≤ most → length rest ≤ most
  seats-room most room = omega (arith, long, room)

  pub seats-more : (seats : List (SeatSeen O)) (x : SeatSeen O) → x ≡ new_seat a h → IsAgent tells a → AreSeatsOf tells rest front seats → AreSeatsOf tells agents hands (seats ++ x ∷ [])
  seats-more seats x is kept old = record {
    count = let many = length-append seats (x ∷ []) in let few = old.count in omega (arith, many, few, long);
    each = λ i b g at_b at_g. let here = at-agent i b at_b in each i b g here (at-hand i g at_g) (last-or rest a i b here);
    kept = λ i b at_b. let here = at-agent i b at_b in kept-by i b here (last-or rest a i b here);
  }
    where
      at-agent : (i : ℕ) (b : AgentSeen O) → slice_get agents i ≡ Some b → slice_get (rest ++ a ∷ []) i ≡ Some b
      at-agent i b at = ap (λ (xs : List (AgentSeen O)). slice_get xs i) (sym split) ∙ at

      at-hand : (i : ℕ) (g : Hand) → slice_get hands i ≡ Some g → slice_get (front ++ h ∷ []) i ≡ Some g
      at-hand i g at = ap (λ (xs : List Hand). slice_get xs i) (sym parted) ∙ at

      each : (i : ℕ) (b : AgentSeen O) (g : Hand) → slice_get (rest ++ a ∷ []) i ≡ Some b → slice_get (front ++ h ∷ []) i ≡ Some g → (i < length rest) ⊎ (i ≡ length rest)
          → slice_get (seats ++ x ∷ []) i ≡ Some (new_seat b g)
      each i b g at_b at_g (inl below) =
          let few = old.count in
          get-front seats x i (omega (arith, below, few))
          ∙ old.each i b g (sym (get-front rest a i below) ∙ at_b) (sym (get-front front h i (omega (arith, below, seats-front))) ∙ at_g)
      each i b g at_b at_g (inr last) =
          let few = old.count in
          let here : i ≡ length seats = omega (arith, last, few) in
          let there : i ≡ length front = omega (arith, last, seats-front) in
          let same_a : a ≡ b = is-last rest a i b at_b last in
          let same_h : h ≡ g = is-last front h i g at_g there in
          ap (slice_get (seats ++ x ∷ [])) here ∙ get-last seats x ∙ ap Some is ∙ (λ j. Some (new_seat (same_a j) (same_h j)))

      kept-by : (i : ℕ) (b : AgentSeen O) → slice_get (rest ++ a ∷ []) i ≡ Some b → (i < length rest) ⊎ (i ≡ length rest) → IsAgent tells b
      kept-by i b at (inl below) = old.kept i b (sym (get-front rest a i below) ∙ at)
      kept-by i b at (inr last) = subst (IsAgent tells) (is-last rest a i b at last) kept
