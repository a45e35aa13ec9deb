-- What settles no row.
use Rattle.std.proofs.Common.{◌≡◌, ◌≢◌, ℕ, ◌==◌, zero, suc, Bool, true, false, not, ◌&&◌, ◌||◌, List, [], ◌∷◌, map, refl, ap, ◌∙◌, arith}
use Rattle.std.proofs.lemmas.Bool.Decides.{nat_tests}
use Rattle.opfs_base.specs.Texts.{Text}
use Rattle.opfs_hist.specs.declared.entry.Entry.{Entry}
use Rattle.opfs_machine.specs.declared.own.Own.{Own}
use Rattle.opfs_machine.specs.declared.state.State.{State}
use Rattle.opfs_machine.specs.Histories.{after_entry}
use Rattle.opfs_machine.specs.Runs.{eviction}
use Rattle.opfs_machine.specs.Steps.{is_refusal, evicted}
use Rattle.opfs_laws.specs.GoingOn.{ArePending}
use Rattle.opfs_laws.specs.Steady.Settling.{NoneSettles, OnlyItsOwnCallsSettleARow}
use Rattle.opfs_laws.specs.Steady.Steady.{concerns, settles}

none-of-two : (a b : Bool) → b ≡ false → (a && b) ≡ false
none-of-two true b h = h
none-of-two false b h = refl

not-equal : (a b : ℕ) → a ≢ b → (a == b) ≡ false
not-equal a b apart = grind (arith, nat_tests)

pub local-leave : (s : State Text Own) (k n : ℕ) (e : Entry) → e.turn ≡ false → settles s k n e ≡ false
local-leave s k n e h = ap (λ b. b && not (is_refusal e.reply) && (e.agent == k && concerns s k n e.op)) h

pub other-leaves : (s : State Text Own) (k n : ℕ) (e : Entry) → e.agent ≢ k → settles s k n e ≡ false
other-leaves s k n e apart =
    none-of-two (e.turn && not (is_refusal e.reply)) (e.agent == k && concerns s k n e.op) (ap (λ b. b && concerns s k n e.op) (not-equal e.agent k apart))

pub refused-leaves : (s : State Text Own) (k n : ℕ) (e : Entry) → is_refusal e.reply ≡ true → settles s k n e ≡ false
refused-leaves s k n e h =
    ap (λ b. b && (e.agent == k && concerns s k n e.op)) (none-of-two e.turn (not (is_refusal e.reply)) (ap not h))

pub pending-leave : (s : State Text Own) (k n j : ℕ) (es : List Entry) → ArePending s j es → NoneSettles s k n es
pending-leave s k n j [] h = tt
pending-leave s k n j (e ∷ es) h = (local-leave s k n e h.0.turn, pending-leave (after_entry s e) k n j es h.1)

-- An eviction names no row, and makes none.
no-row : (n : ℕ) → (not (n == 0) && (0 == n || false)) ≡ false
no-row zero = refl
no-row (suc n) = ap (λ b. not (suc n == 0) && (b || false)) (apart n) ∙ none-of-two (not (suc n == 0)) false refl
  where
    apart : (m : ℕ) → (0 == suc m) ≡ false
    apart m = grind (arith, nat_tests)

pub eviction-leaves : (s : State Text Own) (k n : ℕ) (unit : Text) → settles s k n (eviction unit) ≡ false
eviction-leaves s k n unit = none-of-two (0 == k) (concerns s k n (eviction unit).op) (no-row n)

pub evictions-leave : (s : State Text Own) (k n : ℕ) (gone : List Text) → NoneSettles s k n (map eviction gone)
evictions-leave s k n [] = tt
evictions-leave s k n (unit ∷ gone) = (eviction-leaves s k n unit, evictions-leave (evicted s unit) k n gone)

pub only-own : OnlyItsOwnCallsSettleARow
only-own = record { pending = pending-leave; others = other-leaves; refused = refused-leaves; evictions = evictions-leave }
