-- A port's count of faults, from one moment of a conversation to another.
use Rattle.std.proofs.Common.{◌≡◌, ◌≢◌, ◌⊎◌, ℕ, ◌≤◌, inl, inr, refl, sym, ap, subst, arith, List}
use Rattle.opfs_hist.specs.declared.entry.Entry.{Entry}
use Rattle.opfs_outside.specs.Faults.{Rose}
use Rattle.opfs_port.specs.Said.{Said}
use Rattle.opfs_serving.specs.Served.{IsFaulted}
use Rattle.opfs_serving.specs.Turns.{HasSaid, HasToldMore}
use Rattle.opfs_serving.specs.declared.progress.Progress.{Progress}
use Rattle.opfs_serving.specs.declared.progress.State.{State}
use Rattle.opfs_serving.specs.declared.progress.State.TheVariants as state
use Rattle.opfs_base.specs.Texts.{Text}

failed-on : (s : State) → s ≡ state.Failed → s ≡ state.On → ⊥
failed-on s failed on = cc

failed-short : (s : State) → s ≡ state.Failed → s ≡ state.Short → ⊥
failed-short s failed short = cc

-- An earlier moment of a count.
rose-later : (a b c : ℕ) → a ≤ b → Rose b c → Rose a c
rose-later a b c le (inl h) = inl (omega (arith, le, h))
rose-later a b c le (inr h) = inr h

-- From one moment to another, a count has not fallen; and where a port has failed by then, the count has risen since, or it had failed before, and was
-- not called any more.
pub record FaultsOn (a b : ℕ) (s t : State) : Type 0 where
  pub later : a ≤ b
  pub cause : t ≡ state.Failed → Rose a b ⊎ ((s ≡ state.Failed) × (a ≡ b))

pub faulted-more : (a b c : ℕ) (s t : State) → IsFaulted a b s → FaultsOn b c s t → IsFaulted a c t
faulted-more a b c s t is on = record { later = let first = is.later in let then = on.later in omega (arith, first, then); failed = λ f. by (on.cause f) }
  where
    by : Rose b c ⊎ ((s ≡ state.Failed) × (b ≡ c)) → Rose a c
    by (inl rose) = rose-later a b c is.later rose
    by (inr same) = subst (Rose a) same.1 (is.failed same.0)

-- At its beginning.
pub faulted-none : (a : ℕ) (s : State) → s ≢ state.Failed → IsFaulted a a s
faulted-none a s ill = record { later = omega arith; failed = λ f. absurd (ill f) }

-- It was not called.
pub faults-same : (a : ℕ) (s : State) → FaultsOn a a s s
faults-same a s = record { later = omega arith; cause = λ f. inr (f, refl) }

-- It did not fail.
pub faults-well : (a b : ℕ) (s t : State) → a ≤ b → t ≢ state.Failed → FaultsOn a b s t
faults-well a b s t later well = record { later = later; cause = λ f. absurd (well f) }

pub faults-on : (a b : ℕ) (s t : State) → a ≤ b → t ≡ state.On → FaultsOn a b s t
faults-on a b s t later on = faults-well a b s t later (λ f. failed-on t f on)

pub faults-short : (a : ℕ) (s t : State) → t ≡ state.Short → FaultsOn a a s t
faults-short a s t short = faults-well a a s t (omega arith) (λ f. failed-short t f short)

-- Entries were told, or a text was.
pub faults-told : {T P : Type 0} (entries : T → List Entry) (tells : Type 0) (said : P → List (Said T)) (faults : P → ℕ) (store : T) (old new : P) (p q : Progress)
    → HasToldMore entries tells said faults store old new p q → FaultsOn (faults old) (faults new) p.state q.state
faults-told entries tells said faults store old new p q m = record { later = m.later; cause = λ f. by f p.state refl }
  where
    by : q.state ≡ state.Failed → (s : State) → p.state ≡ s → Rose (faults old) (faults new) ⊎ ((p.state ≡ state.Failed) × (faults old ≡ faults new))
    by f state.On is = inl (m.cause f (λ e. failed-on p.state e is))
    by f state.Failed is = inr (is, ap faults (sym (m.off (failed-on p.state is)).0))
    by f state.Short is = inl (m.cause f (λ e. failed-short p.state e is))

pub faults-said : {T P : Type 0} (tells : Type 0) (said : P → List (Said T)) (faults : P → ℕ) (text : Text) (at : T) (old new : P) (p q : Progress)
    → HasSaid tells said faults text at old new p q → FaultsOn (faults old) (faults new) p.state q.state
faults-said tells said faults text at old new p q m = record { later = m.later; cause = λ f. inl (m.cause f) }
