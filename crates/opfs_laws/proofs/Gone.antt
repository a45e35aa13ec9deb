-- The units that a call clears.
use Rattle.std.proofs.Common.{◌≡◌, ◌⊎◌, ℕ, Bool, true, false, All, List, [], ◌∷◌, ◌++◌, filter, fold, Option, Some, None, Ok, Err, refl, sym, ap, ◌∙◌, subst, inl, inr}
use Rattle.std.specs.Prelude.{option_map}
use Rattle.std.specs.FinMap.Entries.{by_order}
use Rattle.std.specs.declared.cmp.Ordering.{Ordering}
use Rattle.std.specs.declared.cmp.Ordering.TheVariants.{Less, Equal, Greater}
use Rattle.std.proofs.lemmas.Bool.{false≢true}
use Rattle.std.proofs.lemmas.List.Elements.{All-nil, All-cons, All-head, All-tail, All-map, filter_passes}
use Rattle.opfs_base.specs.Texts.{Text}
use Rattle.opfs_base.specs.Units.{origin_of}
use Rattle.opfs_hist.specs.declared.op.Op.{Op}
use Rattle.opfs_hist.specs.declared.entry.Entry.{Entry}
use Rattle.opfs_hist.specs.declared.reply.Refusal.{Refusal}
use Rattle.opfs_hist.specs.declared.reply.Reply.{Reply}
use Rattle.opfs_hist.specs.declared.reply.Reply.TheVariants as reply
use Rattle.opfs_machine.specs.declared.own.Own.{Own}
use Rattle.opfs_machine.specs.declared.state.Need.{Need}
use Rattle.opfs_machine.specs.declared.state.State.{State}
use Rattle.opfs_machine.specs.Agents.{agent_of, last_use}
use Rattle.opfs_machine.specs.Contents.{in_bytes}
use Rattle.opfs_machine.specs.Histories.{IsCall, IsFront}
use Rattle.opfs_machine.specs.Ordered.{insert_by}
use Rattle.opfs_machine.specs.Replies.{sizes_of}
use Rattle.opfs_machine.specs.Ruled.{Ruled, ◌>>=◌, ◌>>◌, unless, some_or}
use Rattle.opfs_machine.specs.Rulings.{ruling}
use Rattle.opfs_machine.specs.Steps.{room_for, judged, outcome_of, step, is_refusal}
use Rattle.opfs_machine.specs.Sums.{fits_pool}
use Rattle.opfs_machine.specs.Victims.{is_candidate, candidates, cleared, shortest_front, victims, root_units, use_cmp}
use Rattle.opfs_laws.proofs.Accepted.{answer-accepted}

-- What a bind that gives something had before.
pub bind-gave : {A B : Type 0} (m : Ruled A) (f : A → Ruled B) (b : B) → (m >>= f) ≡ Ok b → (a : A) × (m ≡ Ok a) × (f a ≡ Ok b)
unfolding ◌>>=◌
bind-gave (Ok a) f b h = (a, refl, h)
bind-gave (Err r) f b h = absurd (err_ok h)
  where
    err_ok : {X : Type 0} {x : X} {e : Refusal} → ◌≡◌ {A = Ruled X} (Err e) (Ok x) → ⊥
    err_ok e = cc

pub then-gave : {B : Type 0} (m : Ruled (Unit {0})) (n : Ruled B) (b : B) → (m >> n) ≡ Ok b → (m ≡ Ok tt) × (n ≡ Ok b)
unfolding ◌>>◌
then-gave (Ok a) n b h = (refl, h)
then-gave (Err r) n b h = absurd (err_ok h)
  where
    err_ok : {X : Type 0} {x : X} {e : Refusal} → ◌≡◌ {A = Ruled X} (Err e) (Ok x) → ⊥
    err_ok e = cc

pub unless-gave : (b : Bool) (r : Refusal) → unless b r ≡ Ok tt → b ≡ true
unless-gave true r h = refl
unless-gave false r h = absurd (err_ok h)
  where
    err_ok : ◌≡◌ {A = Ruled (Unit {0})} (Err r) (Ok tt) → ⊥
    err_ok e = cc

pub some-gave : {A : Type 0} (o : Option A) (r : Refusal) (a : A) → some_or o r ≡ Ok a → o ≡ Some a
some-gave (Some x) r a h = cc
some-gave None r a h = absurd (err_ok h)
  where
    err_ok : {X : Type 0} {x : X} {e : Refusal} → ◌≡◌ {A = Ruled X} (Err e) (Ok x) → ⊥
    err_ok e = cc

module _ {A : Type 0} (P : A → Type 0) (R : A → A → Ordering) where
  all-insert : (x : A) (xs : List A) → P x → All P xs → All P (insert_by R x xs)
  all-insert x [] h all = All-cons P x [] h (All-nil P)
  all-insert x (y ∷ ys) h all =
      elim (R x y) as (λ o. All P (by_order o (x ∷ y ∷ ys) (y ∷ ys) (y ∷ insert_by R x ys))) [
        | Less ↦ All-cons P x (y ∷ ys) h all
        | Equal ↦ all
        | Greater ↦ All-cons P y (insert_by R x ys) (All-head P y ys all) (all-insert x ys h (All-tail P y ys all))
      ]

  all-sorted : {B : Type 0} (f : B → A) (xs : List B) (start : List A) → All (λ b. P (f b)) xs → All P start → All P (fold (λ sorted b. insert_by R (f b) sorted) start xs)
  all-sorted f [] start all h = h
  all-sorted f (x ∷ xs) start all h = all-sorted f xs (insert_by R (f x) start) (All-tail (λ b. P (f b)) x xs all) (all-insert (f x) start (All-head (λ b. P (f b)) x xs all) h)

-- Each candidate may be cleared.
pub all-candidates : (s : State Text Own) (caller : Option Text) → All (λ u. is_candidate s caller u ≡ true) (candidates s caller)
all-candidates s caller =
    let P : ℕ × Text → Type 0 = λ e. is_candidate s caller e.1 ≡ true in
    All-map (λ u. is_candidate s caller u ≡ true) (λ (e : ℕ × Text). e.1) _
    (all-sorted P use_cmp (λ unit. (last_use s (origin_of unit), unit)) (filter (is_candidate s caller) (root_units s)) []
    (filter_passes (is_candidate s caller) (root_units s)) (All-nil P))

-- What is cleared is a front of the candidates.
front-all : (P : Text → Type 0) (s : State Text Own) (need : ℕ) (units found : List Text) → All P units → shortest_front in_bytes s need units ≡ Some found → All P found
front-all P s need [] found all h =
    elim (fits_pool in_bytes s need) as (λ b. elim b as (λ x. Option (List Text)) [ true ↦ Some [] | false ↦ None ] ≡ Some found → All P found) [
      | true ↦ λ e. subst (All P) (some_units e) (All-nil P)
      | false ↦ λ e. cc
    ] h
  where
    some_units : {a b : List Text} → Some a ≡ Some b → a ≡ b
    some_units e = cc
front-all P s need (unit ∷ units) found all h =
    elim (fits_pool in_bytes s need) as (λ b. elim b as (λ x. Option (List Text)) [ true ↦ Some [] | false ↦ option_map (λ more. unit ∷ more) (shortest_front in_bytes (cleared s unit) need units) ] ≡ Some found → All P found) [
      | true ↦ λ e. subst (All P) (some_units e) (All-nil P)
      | false ↦ λ e. more (λ rest is. front-all P (cleared s unit) need units rest (All-tail P unit units all) is) (shortest_front in_bytes (cleared s unit) need units) refl e
    ] h
  where
    some_units : {a b : List Text} → Some a ≡ Some b → a ≡ b
    some_units e = cc

    more : ((rest : List Text) → shortest_front in_bytes (cleared s unit) need units ≡ Some rest → All P rest) → (o : Option (List Text)) → shortest_front in_bytes (cleared s unit) need units ≡ o → option_map (λ more. unit ∷ more) o ≡ Some found → All P found
    more again None is e = cc
    more again (Some rest) is e = subst (All P) (some_units e) (All-cons P unit rest (All-head P unit units all) (again rest is))

-- A call that was not refused: what it needs, and what is cleared for it.
pub record IsGiven (s : State Text Own) (k : ℕ) (op : Op) (units : List Text) : Type 0 where
  pub need : Need
  pub ruled : ruling in_bytes s (sizes_of s k op) k op ≡ Ok need
  pub room : room_for in_bytes s (agent_of s k).key need ≡ Ok units

pub given-by : (s : State Text Own) (k : ℕ) (op : Op) (units : List Text) → judged s k op ≡ Ok units → IsGiven s k op units
unfolding judged
given-by s k op units h =
    let both = bind-gave (ruling in_bytes s (sizes_of s k op) k op) (room_for in_bytes s (agent_of s k).key) units h in
    record { need = both.0; ruled = both.1; room = both.2 }

room-victims : (s : State Text Own) (caller : Option Text) (need : Need) (units : List Text) → room_for in_bytes s caller need ≡ Ok units
    → victims in_bytes s caller need.pool ≡ Some units
unfolding room_for
room-victims s caller need units h = some-gave _ _ units (then-gave _ _ units (then-gave _ _ units h).1).1

pub given-candidates : (s : State Text Own) (k : ℕ) (op : Op) (units : List Text) → IsGiven s k op units → All (λ u. is_candidate s (agent_of s k).key u ≡ true) units
given-candidates s k op units h =
    front-all (λ u. is_candidate s (agent_of s k).key u ≡ true) s h.need.pool (candidates s (agent_of s k).key) units (all-candidates s (agent_of s k).key)
    (room-victims s (agent_of s k).key h.need units h.room)

-- How a call came to its answer: refused, answered, or faulted.
pub record IsRefused (s : State Text Own) (gone : List Text) (k : ℕ) (op : Op) (answered : Reply) : Type 0 where
  pub cause : Refusal
  pub told : answered ≡ reply.No cause
  pub none : gone ≡ []

pub record IsAccepted (s : State Text Own) (gone : List Text) (k : ℕ) (op : Op) (answered : Reply) : Type 0 where
  pub given : IsGiven s k op gone
  pub accepted : is_refusal answered ≡ false

pub record IsFaulted (s : State Text Own) (gone : List Text) (k : ℕ) (op : Op) (answered : Reply) : Type 0 where
  pub units : List Text
  pub given : IsGiven s k op units
  pub front : IsFront gone units
  pub refused : is_refusal answered ≡ true

abbrev pub Ran : State Text Own → List Text → ℕ → Op → Reply → Type 0
Ran s gone k op answered = IsRefused s gone k op answered ⊎ (IsAccepted s gone k op answered ⊎ IsFaulted s gone k op answered)

ran-outcome : (s : State Text Own) (gone : List Text) (k : ℕ) (op : Op) (answered : Reply) (m : Ruled (List Text)) → judged s k op ≡ m
    → answered ≡ (outcome_of s k op m).answered → gone ≡ (outcome_of s k op m).victims → Ran s gone k op answered
unfolding outcome_of
ran-outcome s gone k op answered (Ok units) is told cleared =
    inr (inl (record {
      given = subst (IsGiven s k op) (sym cleared) (given-by s k op units is);
      accepted = ap is_refusal told ∙ answer-accepted s (sizes_of s k op) k op;
    }))
ran-outcome s gone k op answered (Err r) is told cleared = inl (record { cause = r; told = told; none = cleared })

fault-outcome : (s : State Text Own) (gone : List Text) (k : ℕ) (op : Op) (answered : Reply) (m : Ruled (List Text)) → judged s k op ≡ m
    → is_refusal answered ≡ true → is_refusal (outcome_of s k op m).answered ≡ false → IsFront gone (outcome_of s k op m).victims → Ran s gone k op answered
unfolding outcome_of
fault-outcome s gone k op answered (Ok units) is refused accepted front = inr (inr (record { units = units; given = given-by s k op units is; front = front; refused = refused }))
fault-outcome s gone k op answered (Err r) is refused accepted front = absurd (false≢true (sym accepted))

pub ran-by : (s : State Text Own) (gone : List Text) (e : Entry) → IsCall s gone e → Ran s gone e.agent e.op e.reply
unfolding step
ran-by s gone e call =
    elim call.agrees as (λ a. Ran s gone e.agent e.op e.reply) [
      | inl same ↦ ran-outcome s gone e.agent e.op e.reply (judged s e.agent e.op) refl same.same_reply same.victims
      | inr fault ↦ fault-outcome s gone e.agent e.op e.reply (judged s e.agent e.op) refl (ap is_refusal fault.told) fault.accepted fault.front
    ]

all-front : (P : Text → Type 0) (xs ys : List Text) → All P (xs ++ ys) → All P xs
all-front P [] ys all = All-nil P
all-front P (x ∷ xs) ys all = All-cons P x xs (All-head P x (xs ++ ys) all) (all-front P xs ys (All-tail P x (xs ++ ys) all))

-- What a call clears may be cleared for it.
pub gone-candidates : (s : State Text Own) (gone : List Text) (k : ℕ) (op : Op) (answered : Reply) → Ran s gone k op answered
    → All (λ u. is_candidate s (agent_of s k).key u ≡ true) gone
gone-candidates s gone k op answered (inl refused) = subst (All (λ u. is_candidate s (agent_of s k).key u ≡ true)) (sym refused.none) (All-nil _)
gone-candidates s gone k op answered (inr (inl accepted)) = given-candidates s k op gone accepted.given
gone-candidates s gone k op answered (inr (inr fault)) =
    all-front (λ u. is_candidate s (agent_of s k).key u ≡ true) gone fault.front.0
    (subst (All (λ u. is_candidate s (agent_of s k).key u ≡ true)) fault.front.1 (given-candidates s k op fault.units fault.given))
