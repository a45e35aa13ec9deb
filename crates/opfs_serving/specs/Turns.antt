-- What a turn of the owner's pass leaves, and what was told in it. This project's own.
use Rattle.std.specs.Prelude.{◌≡◌, ◌≢◌, ◌⊎◌, ◌≤◌, ℕ, false, List, ◌++◌, drop, length}
use Rattle.opfs_base.specs.Texts.{Text}
use Rattle.opfs_hall.specs.History.{IsPrefix}
use Rattle.opfs_hall.specs.Seen.{HallSeen, WatchSeen}
use Rattle.opfs_hist.specs.declared.entry.Entry.{Entry}
use Rattle.opfs_outside.specs.Faults.{Rose}
use Rattle.opfs_port.specs.Said.{Said, WentOut}
use Rattle.opfs_serving.specs.Exchanges.{entered, told_by}
use Rattle.opfs_serving.specs.declared.progress.Progress.{Progress}
use Rattle.opfs_serving.specs.declared.progress.State.{State}
use Rattle.opfs_serving.specs.declared.progress.State.TheVariants as state

-- The store that the owner's pass has seen last has gone on to the one that it has seen now, which has all that it had, and all that the pass had taken
-- note of.
pub record HasTurned {T O : Type 0} (opening : T → O) (entries : T → List Entry) (keeps : T → Type 0) (goes : T → T → Type 0) (of : HallSeen O) (a b : WatchSeen O Entry T) : Type 0 where
  pub opened : opening b.last ≡ of.opening
  pub kept : keeps b.last
  pub goes_on : goes a.last b.last
  pub front : IsPrefix (entries a.last) (entries b.last)
  pub noted : IsPrefix a.pass.base (entries b.last)
  pub pass : b.pass ≡ record a.pass { base = entries b.last; busy = false }

-- These went out, where all is well; else they may have.
abbrev pub GoesOut : {T P : Type 0} → Type 0 → (P → List (Said T)) → List (Said T) → P → P → State → Type 0
GoesOut tells said more old new state.On = tells → said new ≡ said old ++ more
GoesOut tells said more old new off = tells → (said new ≡ said old) ⊎ (said new ≡ said old ++ more)

-- The lines of all entries of a store behind so many as were told before were told, with the store as it was then. Where that failed, the port has.
pub record HasToldMore {T P : Type 0} (entries : T → List Entry) (tells : Type 0) (said : P → List (Said T)) (faults : P → ℕ) (store : T) (old new : P) (before after : Progress) : Type 0 where
  pub told : before.state ≡ state.On → GoesOut tells said (told_by (entered (drop before.count (entries store))) store) old new after.state
  pub count : before.state ≡ state.On → after.state ≡ state.On → after.count ≡ length (entries store)
  pub off : (before.state ≡ state.On → ⊥) → (new ≡ old) × (after ≡ before)
  pub whole : after.whole ≡ before.whole
  pub later : faults old ≤ faults new
  pub cause : after.state ≡ state.Failed → before.state ≢ state.Failed → Rose (faults old) (faults new)

-- A text was told. Where that failed, the port has.
pub record HasSaid {T P : Type 0} (tells : Type 0) (said : P → List (Said T)) (faults : P → ℕ) (text : Text) (at : T) (old new : P) (before after : Progress) : Type 0 where
  pub on : after.state ≡ state.On → tells → WentOut text at (said old) (said new)
  pub off : tells → (said new ≡ said old) ⊎ WentOut text at (said old) (said new)
  pub count : after.count ≡ before.count
  pub whole : after.whole ≡ before.whole
  pub later : faults old ≤ faults new
  pub cause : after.state ≡ state.Failed → Rose (faults old) (faults new)
