-- How a file is held behind its calls.
use Rattle.std.proofs.Common.{◌≡◌, ℕ, ◌+◌, ◌*◌, ◌<◌, ◌≤◌, All, take, List, [], ◌∷◌, length, sum_by, sym, ◌∙◌, subst, arith}
use Rattle.std.specs.Prelude.{get_or}
use Rattle.std.proofs.lemmas.Grind.{take_at_read}
use Rattle.std.proofs.lemmas.List.Elements.{All-append, All-cons, All-nil}
use Rattle.std.proofs.lemmas.List.Sums.{sum_by-cons}
use Rattle.opfs_base.specs.Texts.{Text}
use Rattle.opfs_hall.specs.Seen.{HallSeen}
use Rattle.opfs_kv.specs.Commands.Runs.{HasRunRoom, entries_of}
use Rattle.opfs_kv.specs.Seen.{KvSeen, Stands}
use Rattle.opfs_kv.specs.declared.commands.commands.KvOp.{KvOp}
use Rattle.opfs_kv.specs.declared.commands.commands.KvOp.TheVariants as op
use Rattle.opfs_notebook.specs.Ready.{Goes, HasMade, Holds, HoldsNotes, IsReady}
use Rattle.opfs_notebook.proofs.Going.{goes-on, ready-closed, ready-on}
use Rattle.opfs_sync_files.specs.Entries.{GoesOn}
use Rattle.opfs_sync_files.specs.Resting.{LeavesRest}
use Rattle.opfs_sync_files.specs.Still.{IsStill}
use Rattle.opfs_turns.specs.Agents.{AgentSeen, IsAgent}
use Rattle.opfs_turns.specs.Asking.Rows.{HandleSeen, HasClosedHandle}

pub run-room-of : {O : Type 0} (a : AgentSeen O) (most : ℕ) → most ≤ 58000000 → HasMade a most → HasRunRoom a
run-room-of a most less h = record { rows = omega (arith, less, h.rows); entries = omega (arith, less, h.entries) }

-- ---- a list of commands

op-few : (o : KvOp) → entries_of o ≤ 4
op-few (op.Get key) = omega arith
op-few (op.Put key value) = omega arith
op-few (op.Delete key) = omega arith
op-few op.Flush = omega arith
op-few op.Compact = omega arith

ops-few : (ops : List KvOp) → sum_by entries_of ops ≤ 4 * length ops
ops-few [] = omega arith
ops-few (o ∷ ops) = let one = op-few o in let more = ops-few ops in omega (arith, one, more, sum_by-cons entries_of o ops)

module _ {O : Type 0} (tells : Type 0) (hall : HallSeen O) (a b : AgentSeen O) (kept : IsAgent tells a) (later : IsAgent tells b) where
  -- ---- one call of an agent on its rows

  ready-one : (n : ℕ) → GoesOn a b 1 → LeavesRest tells a b n → IsReady hall a n → IsReady hall b n
  ready-one n goes left = ready-on tells hall a b kept later n 1 goes left

  pub goes-one : (count n : ℕ) → 1 ≤ count → GoesOn a b 1 → LeavesRest tells a b n → Goes a b count
  goes-one count n less goes left = goes-on tells hall a b kept later n 1 count less goes left

  -- ---- a call on an access handle

  pub still-holds : (old new : HandleSeen) (May : Text → Type 0) → IsStill tells a b old new May → Holds tells hall a old → Holds tells hall b new
  still-holds old new May s h = record {
    ready = subst (IsReady hall b) (sym s.row) (ready-one old.row s.goes s.others h.ready);
    has = s.has;
    writes = s.mode_is ∙ h.writes;
  }

  pub still-more : (old new : HandleSeen) (May : Text → Type 0) → IsStill tells a b old new May → Goes a b 1
  still-more old new May s = goes-one 1 old.row (omega arith) s.goes s.others

  -- Its close.
  pub shut-ready : (row : ℕ) (old : HandleSeen) → (row ≡ old.row) × HasClosedHandle b row → GoesOn a b 1 → LeavesRest tells a b old.row → Holds tells hall a old → IsReady hall b 0
  shut-ready row old closed goes left h = ready-closed tells hall a b kept later old.row row closed.0 closed.1 (ready-one old.row goes left h.ready)

  -- ---- a list of commands

  module _ (old new : KvSeen) (ops : List KvOp) (left : LeavesRest tells a b old.handle.row) (goes : GoesOn a b (sum_by entries_of ops)) where
    pub ran-notes : Stands tells b new → (new.handle.row ≡ old.handle.row) × (new.handle.file ≡ old.handle.file) → HoldsNotes tells hall a old → HoldsNotes tells hall b new
    ran-notes stands same h = record {
      ready = subst (IsReady hall b) (sym same.0) (ready-on tells hall a b kept later old.handle.row (sum_by entries_of ops) goes left h.ready);
      stands = stands;
    }

    pub ran-more : length ops ≤ 100000 → Goes a b 400000
    ran-more many = let count = ops-few ops in goes-on tells hall a b kept later old.handle.row (sum_by entries_of ops) 400000 (omega (arith, count, many)) goes left

-- one item more of a front
pub one-more : {A : Type 0} (P : A → Type 0) (xs : List A) (i : ℕ) (x : A) → i < length xs → x ≡ get_or xs i x → All P (take i xs) → P x → All P (take (i + 1) xs)
one-more P xs i x below is h px =
    subst (All P) (sym (take_at_read xs i x below).1)
    (All-append P (take i xs) (get_or xs i x ∷ []) h (All-cons P (get_or xs i x) [] (subst P is px) (All-nil P)))
