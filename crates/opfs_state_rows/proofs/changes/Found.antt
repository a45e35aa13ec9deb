-- Open rows and the files that they are on: in the machine, in the tree, and by their places.
use Rattle.std.proofs.Common.{◌≡◌, ℕ, zero, suc, ◌+◌, ◌-◌, ◌<◌, ◌≤◌, Bool, true, false, cond, ◌&&◌, Option, Some, None, List, option_map, refl, sym, ap, ◌∙◌, subst, arith, sum_by}
use Rattle.std.specs.Prelude.{IsSome, is_some, slice_get, unwrap_or}
use Rattle.opfs_base.specs.Places.{Place, place_cmp}
use Rattle.std.specs.Ordering.{eq_by_cmp}
use Rattle.opfs_laws.proofs.Spots.{place_itself}
use Rattle.opfs_laws.proofs.OwnSums.{row-part}
use Rattle.opfs_laws.specs.Holders.{same_want, counts, AreHolders, IsLockOf}
use Rattle.opfs_laws.specs.Lengths.Kept.{Kept, hold_in, holders_in}
use Rattle.opfs_locks.specs.Holding.{IsTakenAs}
use Rattle.opfs_locks.specs.Taking.{Lock}
use Rattle.opfs_locks.specs.declared.LockValue.TheVariants as value
use Rattle.opfs_locks.specs.declared.Want.{Want}
use Rattle.opfs_locks.specs.declared.Want.TheVariants as want
use Rattle.opfs_machine.specs.declared.own.HandleOutline.{HandleOutline}
use Rattle.opfs_machine.specs.declared.own.Outline.{Outline}
use Rattle.opfs_machine.specs.declared.own.Outline.TheVariants as outline
use Rattle.opfs_machine.specs.declared.own.StreamOutline.{StreamOutline}
use Rattle.opfs_machine.specs.declared.state.Agent.{Agent}
use Rattle.opfs_machine.specs.declared.state.FileRow.{FileRow}
use Rattle.opfs_machine.specs.declared.state.Row.{Row}
use Rattle.opfs_machine.specs.Agents.{agent_of, own_of, open_stream, open_handle, of_row, stream_in, handle_in, nobody}
use Rattle.opfs_machine.specs.Contents.{in_lengths}
use Rattle.opfs_machine.specs.Rows.{row_at, file_of, file_at}
use Rattle.opfs_machine.specs.Rulings.{lock_in, want_of}
use Rattle.opfs_register.specs.Slots.{slot_of, slot_in, stream_at, handle_at}
use Rattle.opfs_state_rows.proofs.standing.Lines.{file_line, file-at}
use Rattle.opfs_state_rows.specs.Standing.Open.{IsStreamAt, IsHandleAt}
use Rattle.opfs_state_rows.specs.Standing.Seen.{Machine, lines_of}
use Rattle.opfs_tree.specs.declared.row.FileRow.{FileRow as TreeFile}
use Rattle.opfs_tree.specs.Rows as tree

pub some-is : {X : Type 0} {a b : X} → Some a ≡ Some b → a ≡ b
some-is h = cc

-- Numbers and places: rows and agents are numbered from one, and stand from zero.
module _ (agents : List (Agent Outline)) (at n : ℕ) where
  pub stream-here : (a : Option (Agent Outline)) → of_row stream_in (slice_get (unwrap_or a nobody).own n) ≡ of_row stream_in (slot_of a n)
  stream-here None = refl
  stream-here (Some a) = refl

  pub handle-here : (a : Option (Agent Outline)) → of_row handle_in (slice_get (unwrap_or a nobody).own n) ≡ of_row handle_in (slot_of a n)
  handle-here None = refl
  handle-here (Some a) = refl

pub stream-place : (m : Machine) (k at row n : ℕ) → suc at ≡ k → suc n ≡ row → stream_at m.agents at n ≡ open_stream in_lengths m k row
stream-place m k at row n agent number =
    sym (stream-here m.agents at n (slice_get m.agents at)) ∙ (λ i. open_stream in_lengths m (agent i) (number i))

pub handle-place : (m : Machine) (k at row n : ℕ) → suc at ≡ k → suc n ≡ row → handle_at m.agents at n ≡ open_handle in_lengths m k row
handle-place m k at row n agent number =
    sym (handle-here m.agents at n (slice_get m.agents at)) ∙ (λ i. open_handle in_lengths m (agent i) (number i))

-- No open row has the number 0.
pub stream-above : (m : Machine) (k row : ℕ) (w : StreamOutline) → open_stream in_lengths m k row ≡ Some w → 0 < row
stream-above m k zero w h = cc
stream-above m k (suc n) w h = omega arith

pub handle-above : (m : Machine) (k row : ℕ) (h : HandleOutline) → open_handle in_lengths m k row ≡ Some h → 0 < row
handle-above m k zero h is = cc
handle-above m k (suc n) h is = omega arith

-- The own row that is open.
stream-outline : (o : Option Outline) (w : StreamOutline) → of_row stream_in o ≡ Some w → o ≡ Some (outline.Stream w)
stream-outline None w h = cc
stream-outline (Some (outline.Stream v)) w h = ap (λ x. Some (outline.Stream x)) (some-is h)
stream-outline (Some outline.ClosedStream) w h = cc
stream-outline (Some (outline.Handle v)) w h = cc
stream-outline (Some outline.ClosedHandle) w h = cc
stream-outline (Some outline.Snapshot) w h = cc
stream-outline (Some outline.Iterator) w h = cc

handle-outline : (o : Option Outline) (w : HandleOutline) → of_row handle_in o ≡ Some w → o ≡ Some (outline.Handle w)
handle-outline None w h = cc
handle-outline (Some (outline.Stream v)) w h = cc
handle-outline (Some outline.ClosedStream) w h = cc
handle-outline (Some (outline.Handle v)) w h = ap (λ x. Some (outline.Handle x)) (some-is h)
handle-outline (Some outline.ClosedHandle) w h = cc
handle-outline (Some outline.Snapshot) w h = cc
handle-outline (Some outline.Iterator) w h = cc

pub stream-own : (m : Machine) (k row : ℕ) (w : StreamOutline) → open_stream in_lengths m k row ≡ Some w → own_of (agent_of m k) row ≡ Some (outline.Stream w)
stream-own m k row w h = stream-outline (own_of (agent_of m k) row) w h

pub handle-own : (m : Machine) (k row : ℕ) (h : HandleOutline) → open_handle in_lengths m k row ≡ Some h → own_of (agent_of m k) row ≡ Some (outline.Handle h)
handle-own m k row h is = handle-outline (own_of (agent_of m k) row) h is

-- A file is a row.
pub file-there : (o : Option (Row ℕ)) (f : FileRow ℕ) → file_of o ≡ Some f → is_some o ≡ true
file-there None f h = cc
file-there (Some r) f h = refl

-- The file in the tree.
pub record IsInTree (t : tree.Rows) (place : Place) (f : FileRow ℕ) : Type 0 where
  pub row : TreeFile
  pub found : tree.file_at place t ≡ Some row
  pub same : f ≡ file_line row

in-tree : (t : tree.Rows) (place : Place) (f : FileRow ℕ) (o : Option TreeFile) → tree.file_at place t ≡ o → option_map file_line o ≡ Some f → IsInTree t place f
in-tree t place f None is h = cc
in-tree t place f (Some row) is h = record { row = row; found = is; same = sym (some-is h) }

pub tree-file : (m : Machine) (t : tree.Rows) (place : Place) (f : FileRow ℕ) → m.rows ≡ lines_of t → file_at m place ≡ Some f → IsInTree t place f
tree-file m t place f lines h =
    in-tree t place f (tree.file_at place t) refl (sym (file-at place t) ∙ sym (ap (λ rows. file_of (find-in rows)) lines) ∙ h)
  where
    find-in : List (Place × Row ℕ) → Option (Row ℕ)
    find-in rows = row_at (record m { rows = rows }) place

-- Who holds a lock.
holds-itself : (w : Want) → same_want w w ≡ true
holds-itself want.Exclusive = refl
holds-itself want.Shared = refl
holds-itself want.ReadOnly = refl

pub counts-itself : (place : Place) (w : Want) → counts place w (Some (place, w)) ≡ 1
counts-itself place w = (λ i. cond (place_itself place i && holds-itself w i) 1 0)

pub one-holds : (m : Machine) (k n : ℕ) (r : Outline) (place : Place) (w : Want) → own_of (agent_of m k) n ≡ Some r → hold_in r ≡ Some (place, w) → 1 ≤ holders_in m place w
one-holds m k n r place w own holds =
    let part = row-part (λ x. counts place w (hold_in x)) m k n r own in
    let one : counts place w (hold_in r) ≡ 1 = ap (counts place w) holds ∙ counts-itself place w in
    omega (arith, part, one)

pub taken-as : (w : Want) (l : Lock) (count : Want → ℕ) → IsLockOf l count → 1 ≤ count w → IsTakenAs w l
taken-as want.Exclusive (value.Free, n) count h some = absurd (omega (arith, h.1.exclusive, some))
taken-as want.Exclusive (value.Exclusive, n) count h some = refl
taken-as want.Exclusive (value.Shared, n) count h some = absurd (omega (arith, h.1.exclusive, some))
taken-as want.Exclusive (value.ReadOnly, n) count h some = absurd (omega (arith, h.1.exclusive, some))
taken-as want.Shared (value.Free, n) count h some = absurd (omega (arith, h.1.shared, some))
taken-as want.Shared (value.Exclusive, n) count h some = absurd (omega (arith, h.1.shared, some))
taken-as want.Shared (value.Shared, n) count h some = (refl, h.0)
taken-as want.Shared (value.ReadOnly, n) count h some = absurd (omega (arith, h.1.shared, some))
taken-as want.ReadOnly (value.Free, n) count h some = absurd (omega (arith, h.1.read_only, some))
taken-as want.ReadOnly (value.Exclusive, n) count h some = absurd (omega (arith, h.1.read_only, some))
taken-as want.ReadOnly (value.Shared, n) count h some = absurd (omega (arith, h.1.read_only, some))
taken-as want.ReadOnly (value.ReadOnly, n) count h some = (refl, h.0)

-- What is known of the file of an open row: it is there, and its lock is held as the row asked for it.
pub record IsHeld (m : Machine) (place : Place) (w : Want) : Type 0 where
  pub file : FileRow ℕ
  pub there : file_at m place ≡ Some file
  pub taken : IsTakenAs w file.lock

pub held-by : (m : Machine) (k n : ℕ) (r : Outline) (place : Place) (w : Want) → Kept m → own_of (agent_of m k) n ≡ Some r → hold_in r ≡ Some (place, w) → IsHeld m place w
held-by m k n r place w kept own holds =
    let f = kept.files k n r place w own holds in
    let as_held = taken-as w (lock_in (file_at m place)) (holders_in m place) (kept.locks place) (one-holds m k n r place w own holds) in
    record { file = f.0; there = f.1; taken = subst (λ o. IsTakenAs w (lock_in o)) f.1 as_held }

pub stream-held : (m : Machine) (k row : ℕ) (w : StreamOutline) → Kept m → open_stream in_lengths m k row ≡ Some w → IsHeld m w.file want.Shared
stream-held m k row w kept h = held-by m k row (outline.Stream w) w.file want.Shared kept (stream-own m k row w h) refl

pub handle-held : (m : Machine) (k row : ℕ) (h : HandleOutline) → Kept m → open_handle in_lengths m k row ≡ Some h → IsHeld m h.file (want_of h.mode)
handle-held m k row h kept is = held-by m k row (outline.Handle h) h.file (want_of h.mode) kept (handle-own m k row h is) refl

pub is-stream-at : (m : Machine) (k at row n : ℕ) (w : StreamOutline) → Kept m → suc at ≡ k → suc n ≡ row → open_stream in_lengths m k row ≡ Some w → IsStreamAt m at n
is-stream-at m k at row n w kept agent number h =
    let here : stream_at m.agents at n ≡ Some w = stream-place m k at row n agent number ∙ h in
    let held = stream-held m k row w kept h in
    record {
      stream = subst IsSome (sym here) refl;
      there = λ v is. subst (λ (x : StreamOutline). is_some (row_at m x.file) ≡ true) (some-is (sym here ∙ is)) (file-there (row_at m w.file) held.file held.there);
    }

pub is-handle-at : (m : Machine) (k at row n : ℕ) (h : HandleOutline) → Kept m → suc at ≡ k → suc n ≡ row → open_handle in_lengths m k row ≡ Some h → IsHandleAt m at n
is-handle-at m k at row n w kept agent number h =
    let here : handle_at m.agents at n ≡ Some w = handle-place m k at row n agent number ∙ h in
    let held = handle-held m k row w kept h in
    record {
      handle = subst IsSome (sym here) refl;
      there = λ v is. subst (λ (x : HandleOutline). is_some (row_at m x.file) ≡ true) (some-is (sym here ∙ is)) (file-there (row_at m w.file) held.file held.there);
    }

-- From places to numbers.
pub numbered : (P : ℕ → ℕ → Type 0) (k at row n : ℕ) → suc at ≡ k → suc n ≡ row → P (suc at) (suc n) → P k row
numbered P k at row n agent number h = subst (λ x. P x row) agent (subst (P (suc at)) number h)

pub place-number : (k : ℕ) → 0 < k → suc (k - 1) ≡ k
place-number k above = omega (arith, above)

-- The file of an open row in the tree, with its lock.
pub record IsHeldIn (m : Machine) (t : tree.Rows) (place : Place) (w : Want) : Type 0 where
  pub file : FileRow ℕ
  pub there : file_at m place ≡ Some file
  pub row : TreeFile
  pub found : tree.file_at place t ≡ Some row
  pub same : file ≡ file_line row
  pub taken : IsTakenAs w row.lock

pub held-in : (m : Machine) (t : tree.Rows) (place : Place) (w : Want) → m.rows ≡ lines_of t → IsHeld m place w → IsHeldIn m t place w
held-in m t place w lines h =
    let there = tree-file m t place h.file lines h.there in
    record {
      file = h.file;
      there = h.there;
      row = there.row;
      found = there.found;
      same = there.same;
      taken = subst (λ (f : FileRow ℕ). IsTakenAs w f.lock) there.same h.taken;
    }

-- Whether a row is open.
pub none-open : {X : Type 0} (o : Option X) (b : Bool) → b ≡ is_some o → b ≡ false → o ≡ None
none-open None b is no_row = refl
none-open (Some x) b is no_row = cc

pub some-open : {X : Type 0} (o : Option X) (b : Bool) → b ≡ is_some o → b ≡ true → (x : X) × (o ≡ Some x)
some-open None b is row = cc
some-open (Some x) b is row = (x, refl)

pub no-thing : {X : Type 0} {x : X} {o : Option X} → None ≡ o → o ≡ Some x → ⊥
no-thing h g = cc
