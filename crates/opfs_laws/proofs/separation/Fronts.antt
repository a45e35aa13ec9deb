-- The units that are cleared for a call: each a candidate, and no unit twice.
use Rattle.std.proofs.Common.{◌≡◌, ◌&&◌, ◌||◌, ℕ, Bool, true, false, T, cond, List, [], ◌∷◌, ◌++◌, append_assoc, append-nil, map, filter, fold, Option, Some, None, Ok, Err, option_map, refl, sym, ap, ◌∙◌, subst, inl, inr}
use Rattle.std.specs.List.{list_any}
use Rattle.std.specs.Cmp.{IsTotalOrder, on_total, then_total, nat_cmp_total, tied_itself}
use Rattle.std.specs.Cmp.Lexicographic.{nat_list_cmp_total, nat_list_eq_equiv, same_text as equal_texts}
use Rattle.std.specs.FinMap.Entries.{put, is_sorted, is_sorted-put, below_all, by_order}
use Rattle.std.specs.Ordering.{is_lt}
use Rattle.std.specs.declared.cmp.Ordering.TheVariants.{Less, Equal, Greater}
use Rattle.opfs_base.specs.Texts.{Text, same_text}
use Rattle.opfs_base.specs.Units.{origin_of}
use Rattle.opfs_hist.specs.declared.entry.Entry.{Entry}
use Rattle.opfs_hist.specs.declared.op.Op.{Op}
use Rattle.opfs_hist.specs.declared.reply.Refusal.{Refusal}
use Rattle.opfs_machine.specs.declared.own.Own.{Own}
use Rattle.opfs_machine.specs.declared.state.Need.{Need}
use Rattle.opfs_machine.specs.declared.state.State.{State}
use Rattle.opfs_machine.specs.Agents.{agent_of, last_use}
use Rattle.opfs_machine.specs.Contents.{in_bytes}
use Rattle.opfs_machine.specs.Histories.{IsCall, IsFront, Agrees}
use Rattle.opfs_machine.specs.Ordered.{insert_by}
use Rattle.opfs_machine.specs.Replies.{sizes_of}
use Rattle.opfs_machine.specs.Ruled.{Ruled, ◌>>=◌, ◌>>◌, unless, some_or}
use Rattle.opfs_machine.specs.Rulings.{ruling}
use Rattle.opfs_machine.specs.Steps.{room_for, judged, outcome_of, step}
use Rattle.opfs_machine.specs.Sums.{fits_pool}
use Rattle.opfs_machine.specs.Victims.{root_units, is_candidate, use_cmp, candidates, cleared, shortest_front, victims}

use_total : IsTotalOrder use_cmp
use_total = then_total (on_total (λ (p : ℕ × Text). p.0) nat_cmp_total) (on_total (λ (p : ℕ × Text). p.1) nat_list_cmp_total)

abbrev Uses : Type 0
Uses = List (ℕ × Text)

-- As the keys of a map.
abbrev keyed : Uses → List ((ℕ × Text) × Unit {0})
keyed uses = map (λ u. (u, tt)) uses

keyed-insert : (x : ℕ × Text) (uses : Uses) → keyed (insert_by use_cmp x uses) ≡ put use_cmp x tt (keyed uses)
keyed-insert x [] = refl
keyed-insert x (u ∷ uses) =
    elim (use_cmp x u) as (λ o. keyed (by_order o (x ∷ u ∷ uses) (u ∷ uses) (u ∷ insert_by use_cmp x uses)) ≡ by_order o ((x, tt) ∷ (u, tt) ∷ keyed uses) ((u, tt) ∷ keyed uses) ((u, tt) ∷ put use_cmp x tt (keyed uses))) [
      | Less ↦ refl
      | Equal ↦ refl
      | Greater ↦ ap (λ xs. (u, tt) ∷ xs) (keyed-insert x uses)
    ]

abbrev Rise : Uses → Type 0
Rise uses = T (is_sorted use_cmp (keyed uses))

rise-insert : (x : ℕ × Text) (uses : Uses) → Rise uses → Rise (insert_by use_cmp x uses)
rise-insert x uses h = subst (λ es. T (is_sorted use_cmp es)) (sym (keyed-insert x uses)) (is_sorted-put use_cmp use_total x tt (keyed uses) h)

module _ (s : State Text Own) (caller : Option Text) where
  abbrev use_of : Text → ℕ × Text
  use_of unit = (last_use s (origin_of unit), unit)

  -- A unit that may be cleared.
  pub record May (unit : Text) : Type 0 where
    pub root : list_any (same_text unit) (root_units s) ≡ true
    pub candidate : is_candidate s caller unit ≡ true

  -- One of these units, with its last use.
  record One (u : ℕ × Text) : Type 0 where
    is : u ≡ use_of u.1
    may : May u.1

  abbrev Each : Uses → Type 0
  Each [] = Unit {0}
  Each (u ∷ uses) = One u × Each uses

  each-insert : (x : ℕ × Text) (uses : Uses) → One x → Each uses → Each (insert_by use_cmp x uses)
  each-insert x [] one all = (one, tt)
  each-insert x (u ∷ uses) one all =
      elim (use_cmp x u) as (λ o. Each (by_order o (x ∷ u ∷ uses) (u ∷ uses) (u ∷ insert_by use_cmp x uses))) [
        | Less ↦ (one, all)
        | Equal ↦ all
        | Greater ↦ (all.0, each-insert x uses one all.1)
      ]

  abbrev AllMay : List Text → Type 0
  AllMay [] = Unit {0}
  AllMay (unit ∷ units) = May unit × AllMay units

  abbrev insert_use : Uses → Text → Uses
  insert_use sorted unit = insert_by use_cmp (use_of unit) sorted

  sorted-uses : (units : List Text) (uses : Uses) → AllMay units → Each uses → Rise uses → Each (fold insert_use uses units) × Rise (fold insert_use uses units)
  sorted-uses [] uses may all rise = (all, rise)
  sorted-uses (unit ∷ units) uses may all rise =
      sorted-uses units (insert_use uses unit) may.1
      (each-insert (use_of unit) uses (record { is = refl; may = may.0 }) all)
      (rise-insert (use_of unit) uses rise)

  itself : (unit : Text) → same_text unit unit ≡ true
  itself unit = nat_list_eq_equiv.refl unit

  any_more : (b c : Bool) → c ≡ true → (b || c) ≡ true
  any_more true c h = refl
  any_more false c h = h

  any_here : (b c : Bool) → b ≡ true → (b || c) ≡ true
  any_here b c h = ap (λ x. x || c) h

  -- Those of a list that are candidates, if the list has roots only.
  all-may : (units : List Text) → ((unit : Text) → list_any (same_text unit) units ≡ true → list_any (same_text unit) (root_units s) ≡ true) → AllMay (filter (is_candidate s caller) units)
  all-may [] roots = tt
  all-may (unit ∷ units) roots =
      let rest = all-may units (λ u h. roots u (any_more (same_text u unit) (list_any (same_text u) units) h)) in
      elim (is_candidate s caller unit) as (λ b. is_candidate s caller unit ≡ b → AllMay (cond b (unit ∷ filter (is_candidate s caller) units) (filter (is_candidate s caller) units))) [
        | true ↦ λ is. (record { root = roots unit (any_here (same_text unit unit) (list_any (same_text unit) units) (itself unit)); candidate = is }, rest)
        | false ↦ λ is. rest
      ] refl

  candidate-uses : Each (fold insert_use [] (filter (is_candidate s caller) (root_units s))) × Rise (fold insert_use [] (filter (is_candidate s caller) (root_units s)))
  candidate-uses = sorted-uses (filter (is_candidate s caller) (root_units s)) [] (all-may (root_units s) (λ u h. h)) tt tt

  first_true : (a b : Bool) → T (a && b) → T a
  first_true true b h = tt
  first_true false b h = absurd h

  second_true : (a b : Bool) → T (a && b) → T b
  second_true true b h = h
  second_true false b h = absurd h

  -- A unit that stands below another is another.
  below-other : (u v : ℕ × Text) → One u → One v → T (is_lt (use_cmp u v)) → same_text u.1 v.1 ≡ false
  below-other u v one two below =
      elim (same_text u.1 v.1) as (λ b. same_text u.1 v.1 ≡ b → b ≡ false) [
        | true ↦ λ same. absurd (subst (λ o. T (is_lt o)) (ap (use_cmp u) (sym (one.is ∙ ap use_of (equal_texts u.1 v.1 (sym same)) ∙ sym two.is)) ∙ tied_itself use_total u) below)
        | false ↦ λ same. refl
      ] refl

  -- No unit is in the rest.
  none-again : (u : ℕ × Text) (uses : Uses) → One u → Each uses → T (below_all use_cmp u (keyed uses)) → list_any (same_text u.1) (map (λ x. x.1) uses) ≡ false
  none-again u [] one all below = refl
  none-again u (v ∷ uses) one all below =
      let here = below-other u v one all.0 (first_true (is_lt (use_cmp u v)) (below_all use_cmp u (keyed uses)) below) in
      let rest = none-again u uses one all.1 (second_true (is_lt (use_cmp u v)) (below_all use_cmp u (keyed uses)) below) in
      λ i. here i || rest i

  -- What is said of a unit in a list with those before and behind it.
  pub record Fine (before : List Text) (unit : Text) : Type 0 where
    pub may : May unit
    pub first : list_any (λ g. same_text g unit) before ≡ false

  any_out : (g u : Text) (front back : List Text) → list_any (same_text g) (front ++ u ∷ back) ≡ false → same_text g u ≡ false
  any_out g u [] back h = left_out (same_text g u) (list_any (same_text g) back) h
    where
      left_out : (a b : Bool) → (a || b) ≡ false → a ≡ false
      left_out true b e = e
      left_out false b e = refl
  any_out g u (x ∷ front) back h = any_out g u front back (right_out (same_text g x) (list_any (same_text g) (front ++ u ∷ back)) h)
    where
      right_out : (a b : Bool) → (a || b) ≡ false → b ≡ false
      right_out true b e = cc
      right_out false b e = e

  tails : (a b : Text) (xs ys : List Text) → a ∷ xs ≡ b ∷ ys → xs ≡ ys
  tails a b xs ys e = cc

  heads : (a b : Text) (xs ys : List Text) → a ∷ xs ≡ b ∷ ys → a ≡ b
  heads a b xs ys e = cc

  fine-at : (uses : Uses) (before : List Text) (unit : Text) (after : List Text) → Each uses → Rise uses → map (λ x. x.1) uses ≡ before ++ unit ∷ after → Fine before unit
  fine-at [] [] unit after all rise is = cc
  fine-at [] (g ∷ before) unit after all rise is = cc
  fine-at (u ∷ uses) [] unit after all rise is =
      record { may = subst May (heads u.1 unit (map (λ x. x.1) uses) after is) all.0.may; first = refl }
  fine-at (u ∷ uses) (g ∷ before) unit after all rise is =
      let rest = tails u.1 g (map (λ x. x.1) uses) (before ++ unit ∷ after) is in
      let head = heads u.1 g (map (λ x. x.1) uses) (before ++ unit ∷ after) is in
      let more = fine-at uses before unit after all.1 (second_true (below_all use_cmp u (keyed uses)) (is_sorted use_cmp (keyed uses)) rise) rest in
      let once = none-again u uses all.0 all.1 (first_true (below_all use_cmp u (keyed uses)) (is_sorted use_cmp (keyed uses)) rise) in
      let here : same_text g unit ≡ false = any_out g unit before after ((λ i. list_any (same_text (sym head i)) (sym rest i)) ∙ once) in
      let said = more.first in
      record { may = more.may; first = λ i. here i || said i }

  -- Each unit of a front of the candidates.
  pub front-fine : (before : List Text) (unit : Text) (after : List Text) → IsFront (before ++ unit ∷ after) (candidates s caller) → Fine before unit
  front-fine before unit after front =
      fine-at (fold insert_use [] (filter (is_candidate s caller) (root_units s))) before unit (after ++ front.0) candidate-uses.0 candidate-uses.1
      (front.1 ∙ append_assoc before (unit ∷ after) front.0)

-- A shortest front is a front.
shortest-front : (s : State Text Own) (need : ℕ) (units front : List Text) → shortest_front in_bytes s need units ≡ Some front → IsFront front units
shortest-front s need [] front is =
    elim (fits_pool in_bytes s need) as (λ b. ◌≡◌ {A = Option (List Text)} (elim b [ true ↦ Some [] | false ↦ None ]) (Some front) → IsFront front []) [
      | true ↦ λ h. subst (λ f. IsFront f []) (inside h) ([], refl)
      | false ↦ λ h. cc
    ] is
  where
    inside : Some [] ≡ Some front → [] ≡ front
    inside h = cc
shortest-front s need (unit ∷ units) front is =
    elim (fits_pool in_bytes s need) as (λ b. ◌≡◌ {A = Option (List Text)} (elim b [ true ↦ Some [] | false ↦ option_map (λ more. unit ∷ more) (shortest_front in_bytes (cleared s unit) need units) ]) (Some front) → IsFront front (unit ∷ units)) [
      | true ↦ λ h. subst (λ f. IsFront f (unit ∷ units)) (inside h) (unit ∷ units, refl)
      | false ↦ λ h.
          elim (shortest_front in_bytes (cleared s unit) need units) as (λ o. shortest_front in_bytes (cleared s unit) need units ≡ o → option_map (λ more. unit ∷ more) o ≡ Some front → IsFront front (unit ∷ units)) [
            | Some more ↦ λ is_more g.
                let rest = shortest-front (cleared s unit) need units more is_more in
                subst (λ f. IsFront f (unit ∷ units)) (within more g) (rest.0, ap (λ xs. unit ∷ xs) rest.1)
            | None ↦ λ is_none g. cc
          ] refl h
    ] is
  where
    inside : Some [] ≡ Some front → [] ≡ front
    inside h = cc

    within : (more : List Text) → Some (unit ∷ more) ≡ Some front → unit ∷ more ≡ front
    within more h = cc

module _ (whole : List Text) where
  abbrev FrontOf : Ruled (List Text) → Type 0
  FrontOf (Ok units) = IsFront units whole
  FrontOf (Err r) = Unit {0}

  bind-front : {A : Type 0} (m : Ruled A) (f : A → Ruled (List Text)) → ((a : A) → FrontOf (f a)) → FrontOf (m >>= f)
  unfolding ◌>>=◌
  bind-front (Ok a) f front = front a
  bind-front (Err r) f front = tt

  then-front : (b : Bool) (r : Refusal) (m : Ruled (List Text)) → FrontOf m → FrontOf (unless b r >> m)
  unfolding ◌>>◌
  then-front true r m front = front
  then-front false r m front = tt

  some-front : (o : Option (List Text)) (r : Refusal) → ((units : List Text) → o ≡ Some units → IsFront units whole) → FrontOf (some_or o r)
  some-front (Some units) r front = front units refl
  some-front None r front = tt

  outcome-front : (s : State Text Own) (k : ℕ) (o : Op) (ruled : Ruled (List Text)) → FrontOf ruled → IsFront (outcome_of s k o ruled).victims whole
  unfolding outcome_of
  outcome-front s k o (Ok units) front = front
  outcome-front s k o (Err r) front = (whole, refl)

room-front : (s : State Text Own) (caller : Option Text) (need : Need) → FrontOf (candidates s caller) (room_for in_bytes s caller need)
unfolding room_for
room-front s caller need =
    then-front (candidates s caller) _ _ _ (then-front (candidates s caller) _ _ _
    (some-front (candidates s caller) (victims in_bytes s caller need.pool) _ (λ units is. shortest-front s need.pool (candidates s caller) units is)))

judged-front : (s : State Text Own) (k : ℕ) (o : Op) → FrontOf (candidates s (agent_of s k).key) (judged s k o)
unfolding judged
judged-front s k o =
    bind-front (candidates s (agent_of s k).key) (ruling in_bytes s (sizes_of s k o) k o) (room_for in_bytes s (agent_of s k).key) (room-front s (agent_of s k).key)

step-front : (s : State Text Own) (k : ℕ) (o : Op) → IsFront (step s k o).victims (candidates s (agent_of s k).key)
unfolding step
step-front s k o = outcome-front (candidates s (agent_of s k).key) s k o (judged s k o) (judged-front s k o)

front-then : (a b c : List Text) → IsFront a b → IsFront b c → IsFront a c
front-then a b c first second = (first.0 ++ second.0, second.1 ∙ ap (λ xs. xs ++ second.0) first.1 ∙ append_assoc a first.0 second.0)

front-same : (a b : List Text) → a ≡ b → IsFront a b
front-same a b is = ([], sym is ∙ sym (append-nil a))

-- The evictions before a call are a front of its candidates.
pub call-front : (s : State Text Own) (gone : List Text) (e : Entry) → IsCall s gone e → IsFront gone (candidates s (agent_of s e.agent).key)
call-front s gone e call = by call.agrees
  where
    by : Agrees s gone e.agent e.op e.reply (step s e.agent e.op) → IsFront gone (candidates s (agent_of s e.agent).key)
    by (inl a) = front-then gone (step s e.agent e.op).victims _ (front-same gone (step s e.agent e.op).victims a.victims) (step-front s e.agent e.op)
    by (inr f) = front-then gone (step s e.agent e.op).victims _ f.front (step-front s e.agent e.op)
