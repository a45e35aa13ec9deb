-- An agent's access handle: its row, and the calls that may be made on it.
use Rattle.std.proofs.Common.{◌≡◌, ℕ, ◌==◌, ◌||◌, Bool, true, false, [], length, slice_index, Option, Some, refl, sym, ap, ◌∙◌, subst}
use Rattle.opfs_base.specs.Places.{place_of}
use Rattle.opfs_base.specs.Texts.{Text}
use Rattle.opfs_base.specs.declared.locator.Locator.{Locator}
use Rattle.opfs_hist.specs.declared.op.Op.TheVariants as op
use Rattle.opfs_machine.specs.declared.own.HandleRow.{HandleRow}
use Rattle.opfs_machine.specs.declared.own.Own.{Own}
use Rattle.opfs_machine.specs.declared.own.Own.TheVariants as own
use Rattle.opfs_hist.specs.declared.op.Mode.{Mode}
use Rattle.opfs_machine.specs.declared.state.State.{State}
use Rattle.opfs_machine.specs.Replies.{bytes_at}
use Rattle.opfs_machine.specs.Histories.{may_enter, is_own, is_handle, is_open_handle}
use Rattle.opfs_store.specs.Acts.Asking.{HasSmallNumbers, IsHandedIn, IsSmall, IsSmallData, IsSmallPlace, is_open_own}
use Rattle.opfs_store.specs.Copies.Copies.{IsCopyOf, StandsFor}
use Rattle.opfs_turns.specs.Agents.{AgentSeen, known, state_of, own_row}
use Rattle.opfs_turns.specs.Calls.{MayAsk}
use Rattle.opfs_turns.specs.Asking.Rows.{HasHandle, IsHandleOn, HandleSeen}
use Rattle.opfs_turns.proofs.asking.RowsAfter.{some-same, handed-row}
use Rattle.opfs_work.specs.Works.{WorkingCopy, contents}

-- What a working copy says of an access handle's row.
pub record HandleFacts (tells : Type 0) (s : State Text Own) (row : Own) (work : WorkingCopy) (file : Locator) (m : Mode) : Type 0 where
  pub h : HandleRow
  pub is : row ≡ own.Handle h
  pub file_is : h.file ≡ place_of file
  pub mode_is : h.mode ≡ m
  pub size : work.length ≡ length (bytes_at s h.file)
  pub position : work.position ≡ h.cursor
  pub reserve : work.reserve ≡ h.reserve
  pub same : tells → contents (slice_index (bytes_at s h.file)) work ≡ bytes_at s h.file

facts-by : (tells : Type 0) (s : State Text Own) (row : Own) (work : WorkingCopy) (file : Locator) (m : Mode) → IsHandleOn file m row → IsCopyOf tells s row work → HandleFacts tells s row work file m
facts-by tells s (own.Handle h) work file m is copy =
    let bytes : copy.bytes ≡ bytes_at s h.file = some-same (sym copy.open_row) in
    record {
      h = h;
      is = refl;
      file_is = is.0;
      mode_is = is.1;
      size = copy.size ∙ ap length bytes;
      position = copy.position;
      reserve = copy.reserve;
      same = λ tell. subst (λ b. contents (slice_index b) work ≡ b) bytes (copy.same tell);
    }
facts-by tells s own.ClosedStream work file m is copy = absurd is
facts-by tells s (own.Stream w) work file m is copy = absurd is
facts-by tells s own.ClosedHandle work file m is copy = absurd is
facts-by tells s (own.Snapshot bytes) work file m is copy = absurd is
facts-by tells s (own.Iterator i) work file m is copy = absurd is

or-true : (b : Bool) → (b || true) ≡ true
or-true true = refl
or-true false = refl

module _ {O : Type 0} (tells : Type 0) (a : AgentSeen O) (x : HandleSeen) (has : HasHandle tells a x) where
  pub facts : HandleFacts tells (state_of a) has.stands.row x.work x.file x.mode
  facts = facts-by tells (state_of a) has.stands.row x.work x.file x.mode has.is has.stands.copy

  pub row-is : own_row a x.row ≡ Some (own.Handle facts.h)
  row-is = has.stands.there ∙ ap Some facts.is

  opened : (x.row == 0 || is_open_own (own_row a x.row)) ≡ true
  opened = ap (λ r. x.row == 0 || is_open_own r) row-is ∙ or-true (x.row == 0)

  handed : IsHandedIn tells a.opening (known a) a.pass.agent x.row x.work
  handed = handed-row tells a.opening (known a) a.pass.agent x.row x.work has.stands

  pub may-read : (len : ℕ) (at : Option ℕ) → IsSmall len × IsSmallPlace at → MayAsk tells a (op.SyncRead x.row len at) x.work []
  unfolding may_enter HasSmallNumbers
  may-read len at small = record { shared = refl; nobody = refl; fitting = ap is_handle row-is; opened = opened; numbers = small; copy = handed; given = refl }

  pub may-write : (bytes : Text) (at : Option ℕ) → IsSmallData bytes × IsSmallPlace at → MayAsk tells a (op.SyncWrite x.row bytes at) x.work []
  unfolding may_enter HasSmallNumbers
  may-write bytes at small = record { shared = refl; nobody = refl; fitting = ap is_handle row-is; opened = opened; numbers = small; copy = handed; given = refl }

  pub may-truncate : (size : ℕ) → IsSmall size → MayAsk tells a (op.SyncTruncate x.row size) x.work []
  unfolding may_enter HasSmallNumbers
  may-truncate size small = record { shared = refl; nobody = refl; fitting = ap is_handle row-is; opened = opened; numbers = small; copy = handed; given = refl }

  pub may-flush : MayAsk tells a (op.SyncFlush x.row) x.work []
  unfolding may_enter HasSmallNumbers
  may-flush = record { shared = refl; nobody = refl; fitting = ap is_handle row-is; opened = opened; numbers = tt; copy = handed; given = refl }

  pub may-close : MayAsk tells a (op.SyncClose x.row) x.work []
  unfolding may_enter HasSmallNumbers
  may-close = record { shared = refl; nobody = refl; fitting = ap is_handle row-is; opened = opened; numbers = tt; copy = handed; given = refl }

  pub may-discard : MayAsk tells a (op.Discard x.row) x.work []
  unfolding may_enter HasSmallNumbers
  may-discard = record { shared = refl; nobody = refl; fitting = ap is_open_handle row-is; opened = opened; numbers = tt; copy = handed; given = refl }

-- A working copy of a row that is an access handle of the mode on the file.
pub has-row : {O : Type 0} (tells : Type 0) (a : AgentSeen O) (n : ℕ) (file : Locator) (m : Mode) (work : WorkingCopy) (h : HandleRow) → StandsFor tells a.opening (known a) a.pass.agent n work
    → own_row a n ≡ Some (own.Handle h) → h.file ≡ place_of file → h.mode ≡ m → HasHandle tells a (record { row = n; file = file; mode = m; work = work })
has-row tells a n file m work h stands is file_is mode_is = record {
  stands = stands;
  is = let same : stands.row ≡ own.Handle h = some-same (sym stands.there ∙ is) in subst (IsHandleOn file m) (sym same) (file_is, mode_is);
}

-- An access handle may be opened on a file of the agent's origin.
pub may-open : {O : Type 0} (tells : Type 0) (a : AgentSeen O) (asked file : Locator) (m : Mode) (work : WorkingCopy) → asked ≡ file → is_own (state_of a) a.pass.agent file ≡ true
    → work ≡ record { pages = []; length = 0; position = 0; reserve = 0; room = 0; changed_from = 0; changed_to = 0 } → MayAsk tells a (op.CreateSyncAccessHandle asked m) work []
unfolding may_enter HasSmallNumbers
may-open tells a asked file m work same mine fresh = record {
  shared = refl;
  nobody = refl;
  fitting = ap (is_own (state_of a) a.pass.agent) same ∙ mine;
  opened = refl;
  numbers = tt;
  copy = (ap (λ w. w.pages) fresh, ap (λ w. w.length) fresh, ap (λ w. w.position) fresh, ap (λ w. w.reserve) fresh);
  given = refl;
}
