-- Courses that are moved to another list, one by one.
use Rattle.std.proofs.Common.{◌≡◌, inl, inr, ℕ, zero, suc, if◌then◌else◌, List, [], ◌∷◌, ◌++◌, Contains, length, Option, Some, None, Result, Ok, Err, is_ok, refl, sym, subst}
use Rattle.std.specs.Prelude.{IfSome, slice_get}
use Rattle.std.specs.List.{AllByRecursion}
use Rattle.std.proofs.lemmas.Option.{slice_get_read}
use Rattle.opfs_rulings.specs.Courses.{AreFrom, IsFrom, MayAdd}
use Rattle.opfs_rulings.specs.declared.course.Course.{Course}

-- ---- what is said of each

pub each-some : {X : Type 0} (P Q : X → Type 0) → ((x : X) → P x → Q x) → (o : Option X) → IfSome o P → IfSome o Q
each-some P Q on None h = tt
each-some P Q on (Some x) h = on x h

module _ (P : Course → Type 0) where
  pub all-none : (cs : List Course) → cs ≡ [] → AllByRecursion P cs
  all-none cs is = subst (λ (xs : List Course). AllByRecursion P xs) (sym is) tt

  all-last : (c : Course) (cs : List Course) → P c → AllByRecursion P cs → AllByRecursion P (cs ++ c ∷ [])
  all-last c [] is h = (is, tt)
  all-last c (d ∷ cs) is h = (h.0, all-last c cs is h.1)

  pub all-added : (old new : List Course) (o : Option Course) → MayAdd o old new → IfSome o P → AllByRecursion P old → AllByRecursion P new
  all-added old new o (inl same) told h = subst (λ (xs : List Course). AllByRecursion P xs) (sym same) h
  all-added old new None (inr more) told h = absurd more
  all-added old new (Some c) (inr more) told h = subst (λ (xs : List Course). AllByRecursion P xs) (sym more) (all-last c old told h)

  all-at : (n : ℕ) (c : Course) (cs : List Course) → slice_get cs n ≡ Some c → AllByRecursion P cs → P c
  all-at n c [] is h = cc
  all-at zero c (d ∷ cs) is h = let same : d ≡ c = cc in subst P same h.0
  all-at (suc n) c (d ∷ cs) is h = all-at n c cs is h.1

  pub all-among : (held seen : List Course) (c : Course) → seen ≡ held → Contains seen c → AllByRecursion P held → P c
  all-among held seen c same there h =
      all-at there.0 c seen (slice_get_read seen (length seen) there.0 c refl there.1 (sym there.2)) (subst (λ (xs : List Course). AllByRecursion P xs) (sym same) h)

pub all-each : (P Q : Course → Type 0) → ((c : Course) → P c → Q c) → (cs : List Course) → AllByRecursion P cs → AllByRecursion Q cs
all-each P Q on [] h = tt
all-each P Q on (c ∷ cs) h = (on c h.0, all-each P Q on cs h.1)

-- ---- courses that come from others

module _ (P Q : Course → Type 0) (R : Course → Course → Type 0) (on : (old new : Course) → R old new → P old → Q new) where
  one-from : (olds : List Course) (c : Course) → AllByRecursion P olds → IsFrom R olds c → Q c
  one-from [] c h from = absurd from
  one-from (old ∷ olds) c h (inl is) = on old c is h.0
  one-from (old ∷ olds) c h (inr more) = one-from olds c h.1 more

  pub all-from : (olds news : List Course) → AllByRecursion P olds → AreFrom R olds news → AllByRecursion Q news
  all-from olds [] h told = tt
  all-from olds (c ∷ news) h told = (one-from olds c h told.0, all-from olds news h told.1)

module _ (R : Course → Course → Type 0) where
  from-front : (olds rest : List Course) (c : Course) → IsFrom R olds c → IsFrom R (olds ++ rest) c
  from-front [] rest c from = absurd from
  from-front (old ∷ olds) rest c (inl is) = inl is
  from-front (old ∷ olds) rest c (inr more) = inr (from-front olds rest c more)

  from-last : (olds : List Course) (old c : Course) → R old c → IsFrom R (olds ++ old ∷ []) c
  from-last [] old c is = inl is
  from-last (first ∷ olds) old c is = inr (from-last olds old c is)

-- Some were moved, and what comes from those that are left comes from the whole.
pub record Moves (R : Course → Course → Type 0) (whole rest made : List Course) : Type 0 where
  pub moved : AreFrom R whole made
  pub left : (c : Course) → IsFrom R rest c → IsFrom R whole c

module _ (R : Course → Course → Type 0) (whole : List Course) where
  pub moves-begin : (made : List Course) → made ≡ [] → Moves R whole whole made
  moves-begin made none = record { moved = all-none (IsFrom R whole) made none; left = λ c from. from }

  pub moves-on : (rest next made more : List Course) (old : Course) (o : Option Course) → Moves R whole rest made → rest ≡ next ++ old ∷ [] → IfSome o (R old) → MayAdd o made more → Moves R whole next more
  moves-on rest next made more old o h is told add = record {
    moved =
        all-added (IsFrom R whole) made more o add
        (each-some (R old) (IsFrom R whole) (λ c from. h.left c (subst (λ (cs : List Course). IsFrom R cs c) (sym is) (from-last R next old c from))) o told) h.moved;
    left = λ c from. h.left c (subst (λ (cs : List Course). IsFrom R cs c) (sym is) (from-front R next (old ∷ []) c from));
  }

-- A course is put behind others, where there is memory.
pub pushed : {A E : Type 0} (old new : List Course) (o : Option Course) (c : Course) (r : Result A E) → o ≡ Some c → new ≡ (if is_ok r then old ++ c ∷ [] else old) → MayAdd o old new
pushed old new o c (Ok x) there is = subst (λ (p : Option Course). MayAdd p old new) (sym there) (inr is)
pushed old new o c (Err e) there is = inl is
