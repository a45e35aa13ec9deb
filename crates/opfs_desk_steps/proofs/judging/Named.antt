-- The stream or access handle that a call names is open.
use Rattle.std.proofs.Common.{◌≡◌, ℕ, zero, suc, ◌==◌, ◌||◌, Bool, true, false, Option, Some, None, refl, sym, ◌∙◌, arith}
use Rattle.std.proofs.lemmas.Bool.{eqb-true, false≢true}
use Rattle.opfs_store.specs.Acts.Asking.{is_open_own}
use Rattle.opfs_base.specs.Texts.{Text}
use Rattle.opfs_machine.specs.declared.own.HandleRow.{HandleRow}
use Rattle.opfs_machine.specs.declared.own.Own.{Own}
use Rattle.opfs_machine.specs.declared.own.Own.TheVariants as own
use Rattle.opfs_machine.specs.declared.own.StreamRow.{StreamRow}
use Rattle.opfs_machine.specs.declared.state.State.{State}
use Rattle.opfs_machine.specs.Agents.{agent_of, own_of}
use Rattle.opfs_machine.specs.Histories.{is_handle, is_stream}

-- An own row of a number is open, and the number is not 0.
abbrev pub IsNamed : State Text Own → ℕ → ℕ → Type 0
IsNamed s k n = (n == 0 || is_open_own (own_of (agent_of s k) n)) ≡ true

not-zero : (n : ℕ) → (suc n == 0) ≡ true → ⊥
not-zero n is = omega (arith, eqb-true (suc n) 0 is)

or-second : (a b : Bool) → (a ≡ true → ⊥) → (a || b) ≡ true → b ≡ true
or-second true b never h = absurd (never refl)
or-second false b never h = h

named-open : (s : State Text Own) (k n : ℕ) (kind : Option Own → Bool) → kind None ≡ false → kind (own_of (agent_of s k) n) ≡ true → IsNamed s k n → is_open_own (own_of (agent_of s k) n) ≡ true
named-open s k zero kind none is opened = absurd (false≢true (sym none ∙ is))
named-open s k (suc n) kind none is opened = or-second (suc n == 0) (is_open_own (own_of (agent_of s k) (suc n))) (not-zero n) opened

stream-by : (o : Option Own) → is_stream o ≡ true → is_open_own o ≡ true → (w : StreamRow) × (o ≡ Some (own.Stream w))
stream-by (Some (own.Stream w)) kind opened = (w, refl)
stream-by (Some own.ClosedStream) kind opened = absurd (false≢true opened)
stream-by (Some (own.Handle x)) kind opened = absurd (false≢true kind)
stream-by (Some own.ClosedHandle) kind opened = absurd (false≢true kind)
stream-by (Some (own.Snapshot b)) kind opened = absurd (false≢true kind)
stream-by (Some (own.Iterator i)) kind opened = absurd (false≢true kind)
stream-by None kind opened = absurd (false≢true kind)

handle-by : (o : Option Own) → is_handle o ≡ true → is_open_own o ≡ true → (h : HandleRow) × (o ≡ Some (own.Handle h))
handle-by (Some (own.Handle x)) kind opened = (x, refl)
handle-by (Some own.ClosedHandle) kind opened = absurd (false≢true opened)
handle-by (Some (own.Stream w)) kind opened = absurd (false≢true kind)
handle-by (Some own.ClosedStream) kind opened = absurd (false≢true kind)
handle-by (Some (own.Snapshot b)) kind opened = absurd (false≢true kind)
handle-by (Some (own.Iterator i)) kind opened = absurd (false≢true kind)
handle-by None kind opened = absurd (false≢true kind)

pub stream-named : (s : State Text Own) (k n : ℕ) → is_stream (own_of (agent_of s k) n) ≡ true → IsNamed s k n → (w : StreamRow) × (own_of (agent_of s k) n ≡ Some (own.Stream w))
stream-named s k n kind opened = stream-by (own_of (agent_of s k) n) kind (named-open s k n is_stream refl kind opened)

pub handle-named : (s : State Text Own) (k n : ℕ) → is_handle (own_of (agent_of s k) n) ≡ true → IsNamed s k n → (h : HandleRow) × (own_of (agent_of s k) n ≡ Some (own.Handle h))
handle-named s k n kind opened = handle-by (own_of (agent_of s k) n) kind (named-open s k n is_handle refl kind opened)
