-- Nobody else may write the file of a row that holds its lock.
use Rattle.std.proofs.Common.{◌≡◌, ℕ, ◌*◌, ◌≤◌, List, [], ◌∷◌, sum_by, Some, refl, ap, ◌∙◌, arith}
use Rattle.std.proofs.lemmas.List.Sums.{sum_by-cons}
use Rattle.opfs_base.specs.Places.{Place}
use Rattle.opfs_base.specs.Texts.{Text}
use Rattle.opfs_locks.specs.Taking.{Lock}
use Rattle.opfs_locks.specs.declared.LockValue.TheVariants as value
use Rattle.opfs_locks.specs.declared.Want.{Want}
use Rattle.opfs_locks.specs.declared.Want.TheVariants as want
use Rattle.opfs_machine.specs.declared.own.Own.{Own}
use Rattle.opfs_machine.specs.declared.own.Own.TheVariants as own
use Rattle.opfs_machine.specs.declared.state.State.{State}
use Rattle.opfs_machine.specs.Agents.{agent_of, own_of, with_own}
use Rattle.opfs_machine.specs.Contents.{outline_of}
use Rattle.opfs_machine.specs.Rows.{file_at}
use Rattle.opfs_machine.specs.Rulings.{lock_in}
use Rattle.opfs_machine.specs.Sums.{all_own, reserve_of}
use Rattle.opfs_laws.specs.Covered.{writer_reserve, reserve_at}
use Rattle.opfs_laws.specs.Holders.{hold_of, counts, holders, IsLockOf, AreLocksOfHolders}
use Rattle.opfs_laws.proofs.LocksKept.{counts-here}
use Rattle.opfs_laws.proofs.Numbers.{IsNumber}
use Rattle.opfs_laws.proofs.OwnSums.{sum-sets, row-part}

abbrev pub writers : Place → Own → ℕ
writers q r = counts q want.Exclusive (hold_of r)

at-most-one : (lock : Lock) (count : Want → ℕ) → IsLockOf lock count → count want.Exclusive ≤ 1
at-most-one (value.Free, n) count is = omega (arith, is.1.exclusive)
at-most-one (value.Exclusive, n) count is = omega (arith, is.1.exclusive)
at-most-one (value.Shared, n) count is = omega (arith, is.1.exclusive)
at-most-one (value.ReadOnly, n) count is = omega (arith, is.1.exclusive)

shared-alone : (lock : Lock) (count : Want → ℕ) → IsLockOf lock count → 1 ≤ count want.Shared → count want.Exclusive ≡ 0
shared-alone (value.Free, n) count is some = is.1.exclusive
shared-alone (value.Exclusive, n) count is some = absurd (omega (arith, is.1.shared, some))
shared-alone (value.Shared, n) count is some = is.1.exclusive
shared-alone (value.ReadOnly, n) count is some = is.1.exclusive

-- Where nobody may write, nothing is kept for a writer.
product-none : (a b : ℕ) → a ≡ 0 → a * b ≡ 0
product-none a b none = ap (λ n. n * b) none ∙ omega arith

none-kept : (q : Place) (rows : List Own) → sum_by (writers q) rows ≡ 0 → sum_by (writer_reserve q) rows ≡ 0
none-kept q [] none = refl
none-kept q (r ∷ rows) none =
    let all = sum_by-cons (writers q) r rows in
    let kept = sum_by-cons (writer_reserve q) r rows in
    let here = product-none (writers q r) (reserve_of (outline_of r)) (omega (arith, none, all)) in
    let rest = none-kept q rows (omega (arith, none, all)) in
    omega (arith, kept, here, rest)

pub none-writes : (s : State Text Own) (q : Place) → holders s q want.Exclusive ≡ 0 → reserve_at s q ≡ 0
none-writes s q none = none-kept q (all_own s) none

-- What is kept for a writer is what its one access handle keeps.
pub only-writer : (s : State Text Own) (k n : ℕ) (r : Own) (q : Place) → AreLocksOfHolders s → IsNumber s k → own_of (agent_of s k) n ≡ Some r → hold_of r ≡ Some (q, want.Exclusive)
    → reserve_at s q ≡ reserve_of (outline_of r)
only-writer s k n r q locks number is holds =
    let t = with_own s k n own.ClosedHandle in
    let most = at-most-one (lock_in (file_at s q)) (holders s q) (locks q) in
    let one = counts-here q want.Exclusive want.Exclusive r holds in
    let c = sum-sets (writers q) s k n r own.ClosedHandle number is in
    let w = sum-sets (writer_reserve q) s k n r own.ClosedHandle number is in
    let none = none-writes t q (omega (arith, most, one, c)) in
    let own_part : writer_reserve q r ≡ 1 * reserve_of (outline_of r) = ap (λ i. i * reserve_of (outline_of r)) one in
    omega (arith, w, none, own_part)

-- Beside a stream nothing is kept for a writer.
pub stream-writer : (s : State Text Own) (k n : ℕ) (r : Own) (q : Place) → AreLocksOfHolders s → own_of (agent_of s k) n ≡ Some r → hold_of r ≡ Some (q, want.Shared) → reserve_at s q ≡ 0
stream-writer s k n r q locks is holds =
    let one = counts-here q want.Shared want.Shared r holds in
    let part = row-part (λ x. counts q want.Shared (hold_of x)) s k n r is in
    none-writes s q (shared-alone (lock_in (file_at s q)) (holders s q) (locks q) (omega (arith, one, part)))
