-- Who else is open on a file: beside a stream only streams are, and beside an access handle that may write nobody is.
use Rattle.std.proofs.Common.{◌≡◌, ◌≢◌, ℕ, ◌+◌, ◌<◌, ◌≤◌, zero, suc, Bool, true, cond, ◌&&◌, List, [], ◌∷◌, flat_map, sum_by, Option, Some, None, refl, sym, ap, subst, ◌∙◌, inl, inr, arith}
use Rattle.std.proofs.lemmas.Bool.{cases_eq, false≢true}
use Rattle.std.proofs.lemmas.List.Sums.{sum_by-append, sum_by-cons}
use Rattle.opfs_base.specs.Places.{Place}
use Rattle.opfs_data.specs.Rows.{IsOther}
use Rattle.opfs_pages.specs.HistoryLaws.Open.{file_in, if_open, is_stream, open_at}
use Rattle.opfs_hist.specs.declared.op.Mode.{Mode}
use Rattle.opfs_hist.specs.declared.op.Mode.TheVariants as mode
use Rattle.opfs_hist.specs.declared.op.Op.{Op}
use Rattle.opfs_hist.specs.declared.op.Op.TheVariants as op
use Rattle.opfs_laws.proofs.OwnSums.{agent-get, own_sum, part_of, parts_of, row-part, two-parts}
use Rattle.opfs_laws.proofs.Spots.{place_itself}
use Rattle.opfs_laws.specs.Holders.{counts, same_want, IsLockOf}
use Rattle.opfs_laws.specs.Lengths.Kept.{Kept, hold_in, holders_in}
use Rattle.opfs_locks.specs.Taking.{Lock}
use Rattle.opfs_locks.specs.declared.LockValue.TheVariants as value
use Rattle.opfs_locks.specs.declared.Want.{Want}
use Rattle.opfs_locks.specs.declared.Want.TheVariants as want
use Rattle.opfs_machine.specs.declared.own.HandleOutline.{HandleOutline}
use Rattle.opfs_machine.specs.declared.own.Outline.{Outline}
use Rattle.opfs_machine.specs.declared.own.Outline.TheVariants as outline
use Rattle.opfs_machine.specs.declared.own.StreamOutline.{StreamOutline}
use Rattle.opfs_machine.specs.declared.state.Agent.{Agent}
use Rattle.opfs_machine.specs.Agents.{agent_of, handle_in, of_row, own_of, stream_in}
use Rattle.opfs_machine.specs.Replies.{row_named}
use Rattle.opfs_machine.specs.Rows.{file_at}
use Rattle.opfs_machine.specs.Rulings.{is_read_write, lock_in, want_of}
use Rattle.opfs_space.specs.Room.{Machine}
use Rattle.opfs_desk_contents.specs.Rows.{IsStreamOf, IsWriterOf, StoresFile}

-- ---- what a lock excludes

beside-shared : (lock : Lock) (count : Want → ℕ) → IsLockOf lock count → 1 ≤ count want.Shared → (count want.Exclusive ≡ 0) × (count want.ReadOnly ≡ 0)
beside-shared (value.Free, n) count is some = absurd (omega (arith, is.1.shared, some))
beside-shared (value.Exclusive, n) count is some = absurd (omega (arith, is.1.shared, some))
beside-shared (value.Shared, n) count is some = (is.1.exclusive, is.1.read_only)
beside-shared (value.ReadOnly, n) count is some = absurd (omega (arith, is.1.shared, some))

beside-writer : (lock : Lock) (count : Want → ℕ) → IsLockOf lock count → 1 ≤ count want.Exclusive → (count want.Exclusive ≡ 1) × (count want.Shared ≡ 0) × (count want.ReadOnly ≡ 0)
beside-writer (value.Free, n) count is some = absurd (omega (arith, is.1.exclusive, some))
beside-writer (value.Exclusive, n) count is some = (is.1.exclusive, is.1.shared, is.1.read_only)
beside-writer (value.Shared, n) count is some = absurd (omega (arith, is.1.exclusive, some))
beside-writer (value.ReadOnly, n) count is some = absurd (omega (arith, is.1.exclusive, some))

-- ---- rows that are counted

want-itself : (w : Want) → same_want w w ≡ true
want-itself want.Exclusive = refl
want-itself want.Shared = refl
want-itself want.ReadOnly = refl

counts-one : (place : Place) (w : Want) (o : Option (Place × Want)) → o ≡ Some (place, w) → counts place w o ≡ 1
counts-one place w o is =
    ap (counts place w) is ∙ ap (λ (b : Bool). cond (b && same_want w w) 1 0) (place_itself place) ∙ ap (λ (b : Bool). cond b 1 0) (want-itself w)

one-holds : (m : Machine) (k n : ℕ) (place : Place) (w : Want) (r : Outline) → own_of (agent_of m k) n ≡ Some r → hold_in r ≡ Some (place, w) → 1 ≤ holders_in m place w
one-holds m k n place w r is holds =
    let part = row-part (λ x. counts place w (hold_in x)) m k n r is in
    let one = counts-one place w (hold_in r) holds in
    omega (arith, part, one)

sum-flat : (f : Outline → ℕ) (agents : List (Agent Outline)) → sum_by f (flat_map (λ a. a.own) agents) ≡ sum_by (λ a. sum_by f a.own) agents
sum-flat f [] = refl
sum-flat f (a ∷ agents) =
    sum_by-append f a.own (flat_map (λ (x : Agent Outline). x.own) agents) ∙ ap (λ n. sum_by f a.own + n) (sum-flat f agents) ∙ sym (sum_by-cons (λ (x : Agent Outline). sum_by f x.own) a agents)

own-two : (f : Outline → ℕ) (a : Agent Outline) (n m : ℕ) (r q : Outline) → own_of a n ≡ Some r → own_of a m ≡ Some q → n ≢ m → f r + f q ≤ sum_by f a.own
own-two f a zero m r q is too apart = cc
own-two f a (suc n) zero r q is too apart = cc
own-two f a (suc n) (suc m) r q is too apart = parts_of f a.own n m r q is too (λ e. apart (ap suc e))

same-two : (f : Outline → ℕ) (m : Machine) (k n i : ℕ) (r q : Outline) → own_of (agent_of m k) n ≡ Some r → own_of (agent_of m k) i ≡ Some q → n ≢ i → f r + f q ≤ own_sum f m
same-two f m zero zero i r q is too apart = cc
same-two f m zero (suc n) i r q is too apart = cc
same-two f m (suc j) n i r q is too apart =
    let rows = own-two f (agent_of m (suc j)) n i r q is too apart in
    let whole = part_of (λ a. sum_by f a.own) m.agents j (agent_of m (suc j)) (agent-get m j n r is) in
    omega (arith, rows, whole, sum-flat f m.agents)

two-hold : (f : Outline → ℕ) (m : Machine) (k n j i : ℕ) (r q : Outline) → own_of (agent_of m k) n ≡ Some r → own_of (agent_of m j) i ≡ Some q → IsOther k n j i → f r + f q ≤ own_sum f m
two-hold f m k n j i r q is too apart = elim (cases_eq k j) [
  | inl same ↦ same-two f m k n i r q is (subst (λ (x : ℕ). own_of (agent_of m x) i ≡ Some q) (sym same) too) (λ e. apart (sym same, sym e))
  | inr other ↦ two-parts f m k j n i r q is too other
]

-- ---- by its outline

-- An open row on the file.
pub record IsOpenOn (m : Machine) (j i : ℕ) (place : Place) : Type 0 where
  pub row : Outline
  pub there : own_of (agent_of m j) i ≡ Some row
  pub how : Want
  pub holds : hold_in row ≡ Some (place, how)
  pub stream : how ≡ want.Shared → is_stream (if_open (Some row)) ≡ true

no-place : (place : Place) → ◌≡◌ {A = Option Place} None (Some place) → ⊥
no-place place is = cc

one-place : (a b : Place) → ◌≡◌ {A = Option Place} (Some a) (Some b) → a ≡ b
one-place a b is = cc

mode-apart : (m : Mode) → want_of m ≡ want.Shared → ⊥
mode-apart mode.ReadWrite is = cc
mode-apart mode.ReadOnly is = cc

on-file : (m : Machine) (j i : ℕ) (place : Place) (o : Option Outline) → own_of (agent_of m j) i ≡ o → file_in (if_open o) ≡ Some place → IsOpenOn m j i place
on-file m j i place None there is = absurd (no-place place is)
on-file m j i place (Some (outline.Stream w)) there is =
    record { row = outline.Stream w; there = there; how = want.Shared; holds = ap (λ (p : Place). Some (p, want.Shared)) (one-place w.file place is); stream = λ same. refl }
on-file m j i place (Some (outline.Handle h)) there is =
    record { row = outline.Handle h; there = there; how = want_of h.mode; holds = ap (λ (p : Place). Some (p, want_of h.mode)) (one-place h.file place is); stream = λ same. absurd (mode-apart h.mode same) }
on-file m j i place (Some r) there is = absurd (no-place place is)

open-on : (m : Machine) (j i : ℕ) (place : Place) → file_in (open_at m j i) ≡ Some place → IsOpenOn m j i place
open-on m j i place is = on-file m j i place (own_of (agent_of m j) i) refl is

module _ (m : Machine) (kept : Kept m) (place : Place) where
  abbrev lock : Lock
  lock = lock_in (file_at m place)

  -- Beside a stream.
  by-want : (w : Want) → 1 ≤ holders_in m place want.Shared → 1 ≤ holders_in m place w → w ≡ want.Shared
  by-want want.Exclusive some one = let none = beside-shared lock (holders_in m place) (kept.locks place) some in absurd (omega (arith, one, none.0))
  by-want want.Shared some one = refl
  by-want want.ReadOnly some one = let none = beside-shared lock (holders_in m place) (kept.locks place) some in absurd (omega (arith, one, none.1))

  beside-stream : (k n j i : ℕ) (w : StreamOutline) → own_of (agent_of m k) n ≡ Some (outline.Stream w) → w.file ≡ place → file_in (open_at m j i) ≡ Some place → is_stream (open_at m j i) ≡ true
  beside-stream k n j i w there file is =
      let other = open-on m j i place is in
      let some = one-holds m k n place want.Shared (outline.Stream w) there (ap (λ (p : Place). Some (p, want.Shared)) file) in
      let one = one-holds m j i place other.how other.row other.there other.holds in
      ap (λ (o : Option Outline). is_stream (if_open o)) other.there ∙ other.stream (by-want other.how some one)

  -- Beside an access handle that may write.
  no-want : (w : Want) → 1 ≤ holders_in m place want.Exclusive → 1 ≤ holders_in m place w → (w ≡ want.Exclusive → 2 ≤ holders_in m place want.Exclusive) → ⊥
  no-want want.Exclusive some one two = let alone = beside-writer lock (holders_in m place) (kept.locks place) some in let more = two refl in omega (arith, more, alone.0)
  no-want want.Shared some one two = let alone = beside-writer lock (holders_in m place) (kept.locks place) some in omega (arith, one, alone.1)
  no-want want.ReadOnly some one two = let alone = beside-writer lock (holders_in m place) (kept.locks place) some in omega (arith, one, alone.2)

  writes-want : (x : Mode) → is_read_write x ≡ true → want_of x ≡ want.Exclusive
  writes-want mode.ReadWrite is = refl
  writes-want mode.ReadOnly is = absurd (false≢true is)

  nobody-beside : (k n j i : ℕ) (h : HandleOutline) → own_of (agent_of m k) n ≡ Some (outline.Handle h) → is_read_write h.mode ≡ true → h.file ≡ place → IsOther k n j i → file_in (open_at m j i) ≡ Some place → ⊥
  nobody-beside k n j i h there writes file apart is =
      let other = open-on m j i place is in
      let held : hold_in (outline.Handle h) ≡ Some (place, want.Exclusive) = λ x. Some (file x, writes-want h.mode writes x) in
      let some = one-holds m k n place want.Exclusive (outline.Handle h) there held in
      let one = one-holds m j i place other.how other.row other.there other.holds in
      no-want other.how some one
      (λ same.
      let both = two-hold (λ r. counts place want.Exclusive (hold_in r)) m k n j i (outline.Handle h) other.row there other.there apart in
      let here = counts-one place want.Exclusive (hold_in (outline.Handle h)) held in
      let too = counts-one place want.Exclusive (hold_in other.row) (other.holds ∙ ap (λ (w : Want). Some (place, w)) same) in
      omega (arith, both, here, too))

-- ---- one holder alone

most-one : (lock : Lock) (count : Want → ℕ) → IsLockOf lock count → lock.1 < 2 → count want.Exclusive + count want.Shared + count want.ReadOnly ≤ 1
most-one (value.Free, n) count is few = omega (arith, is.1.exclusive, is.1.shared, is.1.read_only)
most-one (value.Exclusive, n) count is few = omega (arith, is.1.exclusive, is.1.shared, is.1.read_only)
most-one (value.Shared, n) count is few = omega (arith, few, is.1.exclusive, is.1.shared, is.1.read_only)
most-one (value.ReadOnly, n) count is few = omega (arith, few, is.1.exclusive, is.1.shared, is.1.read_only)

one-want : (count : Want → ℕ) (v w : Want) → count want.Exclusive + count want.Shared + count want.ReadOnly ≤ 1 → 1 ≤ count v → 1 ≤ count w → (v ≡ w → 2 ≤ count w) → ⊥
one-want count want.Exclusive want.Exclusive few one also two = omega (arith, few, two refl)
one-want count want.Shared want.Shared few one also two = omega (arith, few, two refl)
one-want count want.ReadOnly want.ReadOnly few one also two = omega (arith, few, two refl)
one-want count want.Exclusive want.Shared few one also two = omega (arith, few, one, also)
one-want count want.Exclusive want.ReadOnly few one also two = omega (arith, few, one, also)
one-want count want.Shared want.Exclusive few one also two = omega (arith, few, one, also)
one-want count want.Shared want.ReadOnly few one also two = omega (arith, few, one, also)
one-want count want.ReadOnly want.Exclusive few one also two = omega (arith, few, one, also)
one-want count want.ReadOnly want.Shared few one also two = omega (arith, few, one, also)

-- Where a lock has fewer than two holders, one row alone is open on the file.
pub alone-on : (m : Machine) → Kept m → (place : Place) → (lock_in (file_at m place)).1 < 2 → (k n j i : ℕ) → file_in (open_at m k n) ≡ Some place → file_in (open_at m j i) ≡ Some place → IsOther k n j i → ⊥
alone-on m kept place few k n j i mine other apart =
    let a = open-on m k n place mine in
    let b = open-on m j i place other in
    one-want (holders_in m place) a.how b.how (most-one (lock_in (file_at m place)) (holders_in m place) (kept.locks place) few)
    (one-holds m k n place a.how a.row a.there a.holds) (one-holds m j i place b.how b.row b.there b.holds)
    (λ same.
    let both = two-hold (λ r. counts place b.how (hold_in r)) m k n j i a.row b.row a.there b.there apart in
    let here = counts-one place b.how (hold_in a.row) (a.holds ∙ ap (λ (w : Want). Some (place, w)) same) in
    let too = counts-one place b.how (hold_in b.row) b.holds in
    omega (arith, both, here, too))

-- ---- by the call

one-handle : (o : Option Outline) (h : HandleOutline) → of_row (λ (r : Outline). handle_in r) o ≡ Some h → o ≡ Some (outline.Handle h)
one-handle None h is = cc
one-handle (Some (outline.Handle x)) h is = ap (λ (y : HandleOutline). Some (outline.Handle y)) (same is)
  where
    same : ◌≡◌ {A = Option HandleOutline} (Some x) (Some h) → x ≡ h
    same e = cc
one-handle (Some r) h is = absurd cc

one-stream : (o : Option Outline) (w : StreamOutline) → of_row (λ (r : Outline). stream_in r) o ≡ Some w → o ≡ Some (outline.Stream w)
one-stream None w is = cc
one-stream (Some (outline.Stream x)) w is = ap (λ (y : StreamOutline). Some (outline.Stream y)) (same is)
  where
    same : ◌≡◌ {A = Option StreamOutline} (Some x) (Some w) → x ≡ w
    same e = cc
one-stream (Some r) w is = absurd cc

stream-alone : (m : Machine) → Kept m → (k n : ℕ) (place : Place) (reserve : ℕ) → IsStreamOf m k n place reserve → (j i : ℕ) → file_in (open_at m j i) ≡ Some place → is_stream (open_at m j i) ≡ true
stream-alone m kept k n place reserve is j i other = beside-stream m kept place k n j i is.row (one-stream (own_of (agent_of m k) n) is.row is.there) is.file other

writer-alone : (m : Machine) → Kept m → (k n : ℕ) (place : Place) (reserve : ℕ) → IsWriterOf m k n place reserve → (j i : ℕ) → IsOther k n j i → file_in (open_at m j i) ≡ Some place → is_stream (open_at m j i) ≡ true
writer-alone m kept k n place reserve is j i apart other = absurd (nobody-beside m kept place k n j i is.row (one-handle (own_of (agent_of m k) n) is.row is.there) is.writes is.file apart other)

-- Other rows that are open on the file of a row whose content is stored are streams.
pub streams-beside : (m : Machine) → Kept m → (k : ℕ) (o : Op) (place : Place) (reserve : ℕ) → StoresFile m k o place reserve → (j i : ℕ) → file_in (open_at m j i) ≡ Some place → IsOther k (row_named o) j i → is_stream (open_at m j i) ≡ true
streams-beside m kept k (op.Close n) place reserve is j i other apart = stream-alone m kept k n place reserve is j i other
streams-beside m kept k (op.SyncFlush n) place reserve is j i other apart = writer-alone m kept k n place reserve is j i apart other
streams-beside m kept k (op.SyncClose n) place reserve is j i other apart = writer-alone m kept k n place reserve is j i apart other
streams-beside m kept k o place reserve is j i other apart = absurd is
