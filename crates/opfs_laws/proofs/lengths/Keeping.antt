-- What a state in bytes keeps, the shared store knows.
use Rattle.std.proofs.Common.{◌≡◌, ◌⊎◌, ℕ, ◌+◌, ◌*◌, ◌≤◌, suc, Bool, true, false, cond, not, ◌&&◌, ◌||◌, List, [], ◌∷◌, map, length, sum_by, Option, Some, None, option_map, refl, sym, ap, ◌∙◌, subst, inl, inr, arith}
use Rattle.std.specs.Prelude.{is_none, slice_get}
use Rattle.std.specs.List.{list_all}
use Rattle.std.specs.FinMap.Entries.{find, is_sorted, below_all}
use Rattle.std.specs.Ordering.{is_lt, eq_by_cmp}
use Rattle.std.proofs.lemmas.Bool.{false≢true}
use Rattle.std.proofs.lemmas.List.Sums.{sum_by-cons}
use Rattle.std.specs.Cmp.{first_so, second_so}
use Rattle.opfs_base.specs.Blocks.{blocks}
use Rattle.opfs_base.specs.Places.{Place, place_cmp, child}
use Rattle.opfs_base.specs.Texts.{Text, same_text}
use Rattle.opfs_locks.specs.Taking.{Lock, is_open}
use Rattle.opfs_locks.specs.declared.LockValue.TheVariants as value
use Rattle.opfs_locks.specs.declared.Want.{Want}
use Rattle.opfs_locks.specs.declared.Want.TheVariants as want
use Rattle.opfs_machine.specs.declared.own.HandleOutline.{HandleOutline}
use Rattle.opfs_machine.specs.declared.own.HandleRow.{HandleRow}
use Rattle.opfs_machine.specs.declared.own.Outline.{Outline}
use Rattle.opfs_machine.specs.declared.own.Outline.TheVariants as outline
use Rattle.opfs_machine.specs.declared.own.Own.{Own}
use Rattle.opfs_machine.specs.declared.own.Own.TheVariants as own
use Rattle.opfs_machine.specs.declared.state.FileRow.{FileRow}
use Rattle.opfs_machine.specs.declared.state.Row.{Row}
use Rattle.opfs_machine.specs.declared.state.Row.TheVariants as row
use Rattle.opfs_machine.specs.declared.state.State.{State}
use Rattle.opfs_machine.specs.Agents.{agent_of, own_of}
use Rattle.opfs_machine.specs.Contents.{in_bytes, in_lengths, outline_of}
use Rattle.opfs_machine.specs.Histories.{state_after}
use Rattle.opfs_machine.specs.Rows.{Rows, file_at, file_of, taken_lock}
use Rattle.opfs_machine.specs.Rulings.{lock_in, want_of}
use Rattle.opfs_machine.specs.Sums.{all_own, reserve_of}
use Rattle.opfs_machine.specs.Victims.{none_taken}
use Rattle.opfs_laws.specs.Covered.{now_of, stored_of, writer_reserve, reserve_at, IsCovered}
use Rattle.opfs_laws.specs.Holders.{hold_of, same_want, counts, holders, IsLockOf}
use Rattle.opfs_laws.specs.Whole.{IsInOrder, IsClosed, IsWhole}
use Rattle.opfs_laws.proofs.Held.{one_of}
use Rattle.opfs_laws.proofs.OwnSums.{part_of}
use Rattle.opfs_laws.proofs.Reached.{whole}
use Rattle.opfs_laws.proofs.Spots.{same_place, place_itself}
use Rattle.opfs_laws.specs.Lengths.Kept.{reserve_where, hold_in, holders_in, writer_kept, kept_at, Kept, LengthsAreKept}
use Rattle.opfs_laws.specs.Lengths.Outlines.{on_file, on_row, on_entry, in_lengths_of}
use Rattle.opfs_laws.proofs.lengths.Instance.{lengths-fit}
use Rattle.opfs_laws.proofs.lengths.Lists.{map-sum}
use Rattle.opfs_laws.proofs.lengths.Readers.{find-on, file-on, lock-at-on, row-at-on}
use Rattle.opfs_laws.proofs.lengths.Using.{usage-most}
use Rattle.opfs_laws.proofs.lengths.SameRoom.{all_own-on, pool-on, charge-on}

hold-is : (r : Own) → hold_in (outline_of r) ≡ hold_of r
hold-is (own.Stream w) = refl
hold-is own.ClosedStream = refl
hold-is (own.Handle h) = refl
hold-is own.ClosedHandle = refl
hold-is (own.Snapshot bytes) = refl
hold-is (own.Iterator i) = refl

-- Order and parents.
below-on : (x : Place) (rows : Rows Text) → below_all place_cmp x (map (on_entry length) rows) ≡ below_all place_cmp x rows
below-on x [] = refl
below-on x (e ∷ es) = ap (λ b. is_lt (place_cmp x e.0) && b) (below-on x es)

sorted-on : (rows : Rows Text) → is_sorted place_cmp (map (on_entry length) rows) ≡ is_sorted place_cmp rows
sorted-on [] = refl
sorted-on (e ∷ es) = λ i. below-on e.0 es i && sorted-on es i

row-found : (o : Option (Row Text)) (r : Row ℕ) → option_map (on_row length) o ≡ Some r → (x : Row Text) × (o ≡ Some x)
row-found None r h = absurd (none_some h)
  where
    none_some : ◌≡◌ {A = Option (Row ℕ)} None (Some r) → ⊥
    none_some e = cc
row-found (Some x) r h = (x, refl)

closed-on : (rows : Rows Text) → IsClosed rows → IsClosed (map (on_entry length) rows)
closed-on rows closed dir name r is =
    let there = row-found (find place_cmp (child dir name) rows) r (sym (find-on length (child dir name) rows) ∙ is) in
    find-on length dir rows ∙ ap (option_map (on_row length)) (closed dir name there.0 there.1)

file-found : (o : Option (FileRow Text)) (f : FileRow ℕ) → option_map (on_file length) o ≡ Some f → (g : FileRow Text) × (o ≡ Some g) × (f ≡ on_file length g)
file-found None f h = absurd (none_some h)
  where
    none_some : ◌≡◌ {A = Option (FileRow ℕ)} None (Some f) → ⊥
    none_some e = cc
file-found (Some g) f h = (g, refl, sym (one h))
  where
    one : {a b : FileRow ℕ} → Some a ≡ Some b → a ≡ b
    one e = cc

own-found : (o : Option Own) (r : Outline) → option_map outline_of o ≡ Some r → (x : Own) × (o ≡ Some x) × (r ≡ outline_of x)
own-found None r h = absurd (none_some h)
  where
    none_some : ◌≡◌ {A = Option Outline} None (Some r) → ⊥
    none_some e = cc
own-found (Some x) r h = (x, refl, sym (one h))
  where
    one : {a b : Outline} → Some a ≡ Some b → a ≡ b
    one e = cc

module _ (s : State Text Own) where
  abbrev m : State ℕ Outline
  m = in_lengths_of s

  holders-on : (p : Place) (w : Want) → holders_in m p w ≡ holders s p w
  holders-on p w =
      ap (sum_by (λ r. counts p w (hold_in r))) (all_own-on length outline_of s)
      ∙ map-sum outline_of (λ r. counts p w (hold_in r)) (λ r. counts p w (hold_of r)) (λ r. ap (counts p w) (hold-is r)) (all_own s)

  kept-on : (p : Place) → kept_at m p ≡ reserve_at s p
  kept-on p =
      ap (sum_by (writer_kept p)) (all_own-on length outline_of s)
      ∙ map-sum outline_of (writer_kept p) (writer_reserve p) (λ r. ap (λ o. counts p want.Exclusive o * reserve_of (outline_of r)) (hold-is r)) (all_own s)

  locks-on : ((p : Place) → IsLockOf (lock_in (file_at s p)) (holders s p)) → (p : Place) → IsLockOf (lock_in (file_at m p)) (holders_in m p)
  locks-on locks p =
      let same : holders s p ≡ holders_in m p = λ i w. sym (holders-on p w) i in
      subst (λ lock. IsLockOf lock (holders_in m p)) (sym (lock-at-on length outline_of s p)) (subst (IsLockOf (lock_in (file_at s p))) same (locks p))

  row-there : (k n : ℕ) (r : Outline) → own_of (agent_of m k) n ≡ Some r → (x : Own) × (own_of (agent_of s k) n ≡ Some x) × (r ≡ outline_of x)
  row-there k n r is = own-found (own_of (agent_of s k) n) r (sym (row-at-on length outline_of s k n) ∙ is)

  covered-by : (p : Place) (g : FileRow Text) (f : FileRow ℕ) → f ≡ on_file length g → IsCovered s p g
      → (now_of f ≡ stored_of f) ⊎ ((1 ≤ holders_in m p want.Exclusive) × (blocks f.present ≤ kept_at m p))
  covered-by p g f is (inl even) = inl (ap now_of is ∙ ap (λ (c : Text × ℕ). (length c.0, c.1)) even ∙ sym (ap stored_of is))
  covered-by p g f is (inr more) =
      let size : f.present ≡ length g.present = ap (λ x. x.present) is in
      inr (subst (λ n. 1 ≤ n) (sym (holders-on p want.Exclusive)) more.0, subst (λ n. blocks n ≤ kept_at m p) (sym size) (subst (λ n. blocks (length g.present) ≤ n) (sym (kept-on p)) more.1))

-- Where no lock is taken.
lock-free : (r : Row ℕ) → is_none (taken_lock r) ≡ true → is_open (lock_in (file_of (Some r))).0 ≡ true
lock-free row.Directory h = refl
lock-free (row.File f) h =
    elim (is_open f.lock.0) as (λ b. is_none (elim b as (λ x. Option Lock) [ true ↦ None | false ↦ Some f.lock ]) ≡ true → b ≡ true) [
      | true ↦ λ g. refl
      | false ↦ λ g. g
    ] h

either-so : (a b : Bool) → a ≡ true → (not a || b) ≡ true → b ≡ true
either-so true b is h = h
either-so false b is h = absurd (false≢true is)

open-at : (unit : Text) (rows : Rows ℕ) → list_all (λ e. not (same_text unit e.0.0) || is_none (taken_lock e.1)) rows ≡ true → (p : Place) → same_text unit p.0 ≡ true
    → is_open (lock_in (file_of (find place_cmp p rows))).0 ≡ true
open-at unit [] all p own = refl
open-at unit (e ∷ es) all p own =
    let first = first_so (not (same_text unit e.0.0) || is_none (taken_lock e.1)) (list_all (λ e. not (same_text unit e.0.0) || is_none (taken_lock e.1)) es) all in
    let rest = second_so (not (same_text unit e.0.0) || is_none (taken_lock e.1)) (list_all (λ e. not (same_text unit e.0.0) || is_none (taken_lock e.1)) es) all in
    elim (eq_by_cmp place_cmp p e.0) as (λ b. eq_by_cmp place_cmp p e.0 ≡ b → is_open (lock_in (file_of (cond b (Some e.1) (find place_cmp p es)))).0 ≡ true) [
      | true ↦ λ is. lock-free e.1 (either-so (same_text unit e.0.0) (is_none (taken_lock e.1)) (ap (λ (q : Place). same_text unit q.0) (sym (same_place p e.0 is)) ∙ own) first)
      | false ↦ λ is. open-at unit es rest p own
    ] refl

none-hold : (lock : Lock) (count : Want → ℕ) → IsLockOf lock count → is_open lock.0 ≡ true → (w : Want) → count w ≡ 0
none-hold (value.Free, n) count h is want.Exclusive = h.1.exclusive
none-hold (value.Free, n) count h is want.Shared = h.1.shared
none-hold (value.Free, n) count h is want.ReadOnly = h.1.read_only
none-hold (value.Exclusive, n) count h is w = absurd (false≢true is)
none-hold (value.Shared, n) count h is w = absurd (false≢true is)
none-hold (value.ReadOnly, n) count h is w = absurd (false≢true is)

sum-zero : {X : Type 0} (f : X → ℕ) (xs : List X) → ((i : ℕ) (x : X) → slice_get xs i ≡ Some x → f x ≡ 0) → sum_by f xs ≡ 0
sum-zero f [] none = refl
sum-zero f (x ∷ xs) none =
    let whole = sum_by-cons f x xs in
    let first = none 0 x refl in
    let rest = sum-zero f xs (λ i y is. none (suc i) y is) in
    omega (arith, whole, first, rest)

one_itself : (w : Want) → one_of w w ≡ 1
one_itself want.Exclusive = refl
one_itself want.Shared = refl
one_itself want.ReadOnly = refl

module _ (m : State ℕ Outline) (locks : (p : Place) → IsLockOf (lock_in (file_at m p)) (holders_in m p)) (unit : Text) (none : none_taken m unit ≡ true) where
  -- No open row is on a file of the unit.
  no-holder : (i : ℕ) (r : Outline) (p : Place) (w : Want) → slice_get (all_own m) i ≡ Some r → hold_in r ≡ Some (p, w) → same_text unit p.0 ≡ true → ⊥
  no-holder i r p w is holds own =
      let zero_held = none-hold (lock_in (file_at m p)) (holders_in m p) (locks p) (open-at unit m.rows none p own) w in
      let part = part_of (λ x. counts p w (hold_in x)) (all_own m) i r is in
      let one : counts p w (hold_in r) ≡ one_of w w = ap (counts p w) holds ∙ ap (λ b. cond (b && same_want w w) 1 0) (place_itself p) in
      let same = one_itself w in
      omega (arith, zero_held, part, one, same)

  keeps-none : (i : ℕ) (r : Outline) → slice_get (all_own m) i ≡ Some r → reserve_where (same_text unit) r ≡ 0
  keeps-none i (outline.Stream w) is =
      elim (same_text unit w.file.0) as (λ b. same_text unit w.file.0 ≡ b → ◌≡◌ {A = ℕ} (cond b w.reserve 0) 0) [
        | true ↦ λ own. absurd (no-holder i (outline.Stream w) w.file want.Shared is refl own)
        | false ↦ λ apart. refl
      ] refl
  keeps-none i (outline.Handle h) is =
      elim (same_text unit h.file.0) as (λ b. same_text unit h.file.0 ≡ b → ◌≡◌ {A = ℕ} (cond b h.reserve 0) 0) [
        | true ↦ λ own. absurd (no-holder i (outline.Handle h) h.file (want_of h.mode) is refl own)
        | false ↦ λ apart. refl
      ] refl
  keeps-none i outline.ClosedStream is = refl
  keeps-none i outline.ClosedHandle is = refl
  keeps-none i outline.Snapshot is = refl
  keeps-none i outline.Iterator is = refl

reader-row : (x : Own) (h : HandleOutline) → outline.Handle h ≡ outline_of x → (w : HandleRow) × (x ≡ own.Handle w) × (w.mode ≡ h.mode) × (w.reserve ≡ h.reserve)
reader-row (own.Handle w) h is = (w, refl, ap (λ u. u.mode) (sym (one is)), ap (λ u. u.reserve) (sym (one is)))
  where
    one : {a b : HandleOutline} → outline.Handle a ≡ outline.Handle b → a ≡ b
    one e = cc
reader-row (own.Stream w) h is = cc
reader-row own.ClosedStream h is = cc
reader-row own.ClosedHandle h is = cc
reader-row (own.Snapshot bytes) h is = cc
reader-row (own.Iterator i) h is = cc

pub kept-lengths : (s : State Text Own) → IsWhole s → Kept (in_lengths_of s)
kept-lengths s h =
    let m = in_lengths_of s in
    let locks = locks-on s h.locks in
    let order : IsInOrder m.rows = sorted-on s.rows ∙ h.order in
    let covered = λ (place : Place) (f : FileRow ℕ) (is : file_at m place ≡ Some f).
    let old = file-found (file_at s place) f (sym (file-on length outline_of s place) ∙ is) in
    covered-by s place old.0 f old.2 (h.covered place old.0 old.1)
    in
    record {
      order = order;
      parents = closed-on s.rows h.parents;
      locks = locks;
      files = λ k n r place w is holds.
          let there = row-there s k n r is in
          let old = h.files k n there.0 place w there.1 (sym (hold-is there.0) ∙ ap hold_in (sym there.2) ∙ holds) in
          (on_file length old.0, file-on length outline_of s place ∙ ap (option_map (on_file length)) old.1);
      readers = λ k n x is reads.
          let there = row-there s k n (outline.Handle x) is in
          let row = reader-row there.0 x there.2 in
          sym row.3 ∙ h.readers k n row.0 (there.1 ∙ ap Some row.1) (row.2 ∙ reads);
      covered = covered;
      usage = usage-most m order covered;
      untaken = λ unit none. sum-zero (reserve_where (same_text unit)) (all_own m) (keeps-none m locks unit none);
      modes = h.modes;
      pool = subst (λ n. n ≤ s.limits.blocks) (sym (pool-on in_bytes in_lengths length outline_of lengths-fit s)) h.pool;
      area = subst (λ n. n + 7 ≤ s.limits.area) (sym (charge-on in_bytes in_lengths length outline_of lengths-fit s)) h.area;
    }

pub lengths-kept : LengthsAreKept
lengths-kept = record { whole = kept-lengths; reached = λ o h opening legal. kept-lengths (state_after o h) (whole o h opening legal) }
