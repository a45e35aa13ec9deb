-- An agent's stream: its row, and the calls that may be made on it.
use Rattle.std.proofs.Common.{◌≡◌, ℕ, ◌==◌, ◌||◌, Bool, true, false, [], length, slice_index, Option, Some, refl, sym, ap, ◌∙◌, subst}
use Rattle.opfs_base.specs.Places.{place_of}
use Rattle.opfs_base.specs.Texts.{Text}
use Rattle.opfs_base.specs.declared.locator.Locator.{Locator}
use Rattle.opfs_hist.specs.declared.op.Op.{Op}
use Rattle.opfs_hist.specs.declared.op.Op.TheVariants as op
use Rattle.opfs_machine.specs.declared.own.StreamRow.{StreamRow}
use Rattle.opfs_machine.specs.declared.own.Own.{Own}
use Rattle.opfs_machine.specs.declared.own.Own.TheVariants as own
use Rattle.opfs_machine.specs.declared.state.State.{State}
use Rattle.opfs_machine.specs.Histories.{may_enter, is_own, is_stream}
use Rattle.opfs_hist.specs.declared.reply.Reply.TheVariants as reply
use Rattle.opfs_store.specs.Acts.Asking.{HasSmallNumbers, IsHandedIn, IsSmall, IsSmallData, IsSmallPlace, is_open_own}
use Rattle.opfs_store.specs.Copies.Copies.{IsCopyOf, StandsFor}
use Rattle.opfs_turns.specs.Agents.{AgentSeen, known, state_of, own_row}
use Rattle.opfs_turns.specs.Calls.{MayAsk, IsKept, IsLocal}
use Rattle.opfs_turns.specs.Asking.Locals.{HasLocalAnswer}
use Rattle.opfs_turns.specs.Asking.Rows.{HasStream, IsStreamOn, StreamSeen}
use Rattle.opfs_turns.proofs.asking.RowsAfter.{some-same, handed-row}
use Rattle.opfs_work.specs.Works.{WorkingCopy, contents}

-- What a working copy says of a stream's row.
pub record StreamFacts (tells : Type 0) (row : Own) (work : WorkingCopy) (file : Locator) : Type 0 where
  pub w : StreamRow
  pub is : row ≡ own.Stream w
  pub file_is : w.file ≡ place_of file
  pub size : work.length ≡ length w.buffer
  pub position : work.position ≡ w.offset
  pub reserve : work.reserve ≡ w.reserve
  pub same : tells → contents (slice_index w.buffer) work ≡ w.buffer

facts-by : (tells : Type 0) (s : State Text Own) (row : Own) (work : WorkingCopy) (file : Locator) → IsStreamOn file row → IsCopyOf tells s row work → StreamFacts tells row work file
facts-by tells s (own.Stream w) work file is copy =
    let buffer : copy.bytes ≡ w.buffer = some-same (sym copy.open_row) in
    record {
      w = w;
      is = refl;
      file_is = is;
      size = copy.size ∙ ap length buffer;
      position = copy.position;
      reserve = copy.reserve;
      same = λ tell. subst (λ b. contents (slice_index b) work ≡ b) buffer (copy.same tell);
    }
facts-by tells s own.ClosedStream work file is copy = absurd is
facts-by tells s (own.Handle h) work file is copy = absurd is
facts-by tells s own.ClosedHandle work file is copy = absurd is
facts-by tells s (own.Snapshot bytes) work file is copy = absurd is
facts-by tells s (own.Iterator i) work file is copy = absurd is

or-true : (b : Bool) → (b || true) ≡ true
or-true true = refl
or-true false = refl

module _ {O : Type 0} (tells : Type 0) (a : AgentSeen O) (x : StreamSeen) (has : HasStream tells a x) where
  pub facts : StreamFacts tells has.stands.row x.work x.file
  facts = facts-by tells (state_of a) has.stands.row x.work x.file has.is has.stands.copy

  pub row-is : own_row a x.row ≡ Some (own.Stream facts.w)
  row-is = has.stands.there ∙ ap Some facts.is

  opened : (x.row == 0 || is_open_own (own_row a x.row)) ≡ true
  opened = ap (λ r. x.row == 0 || is_open_own r) row-is ∙ or-true (x.row == 0)

  handed : IsHandedIn tells a.opening (known a) a.pass.agent x.row x.work
  handed = handed-row tells a.opening (known a) a.pass.agent x.row x.work has.stands

  pub may-write : (bytes : Text) (position : Option ℕ) → IsSmallData bytes × IsSmallPlace position → MayAsk tells a (op.Write x.row bytes position) x.work []
  unfolding may_enter HasSmallNumbers
  may-write bytes position small = record { shared = refl; nobody = refl; fitting = ap is_stream row-is; opened = opened; numbers = small; copy = handed; given = refl }

  pub may-truncate : (size : ℕ) → IsSmall size → MayAsk tells a (op.Truncate x.row size) x.work []
  unfolding may_enter HasSmallNumbers
  may-truncate size small = record { shared = refl; nobody = refl; fitting = ap is_stream row-is; opened = opened; numbers = small; copy = handed; given = refl }

  pub may-close : MayAsk tells a (op.Close x.row) x.work []
  unfolding may_enter HasSmallNumbers
  may-close = record { shared = refl; nobody = refl; fitting = ap is_stream row-is; opened = opened; numbers = tt; copy = handed; given = refl }

  pub may-abort : MayAsk tells a (op.Abort x.row) x.work []
  unfolding may_enter HasSmallNumbers
  may-abort = record { shared = refl; nobody = refl; fitting = ap is_stream row-is; opened = opened; numbers = tt; copy = handed; given = refl }

-- A working copy of a row that is a stream on the file.
pub has-row : {O : Type 0} (tells : Type 0) (a : AgentSeen O) (n : ℕ) (file : Locator) (work : WorkingCopy) (w : StreamRow) → StandsFor tells a.opening (known a) a.pass.agent n work
    → own_row a n ≡ Some (own.Stream w) → w.file ≡ place_of file → HasStream tells a (record { row = n; file = file; work = work })
has-row tells a n file work w stands is file_is = record {
  stands = stands;
  is = let same : stands.row ≡ own.Stream w = some-same (sym stands.there ∙ is) in subst (IsStreamOn file) (sym same) file_is;
}

-- A stream may be opened on a file of the agent's origin.
pub may-open : {O : Type 0} (tells : Type 0) (a : AgentSeen O) (asked file : Locator) (keep : Bool) (work : WorkingCopy) → asked ≡ file → is_own (state_of a) a.pass.agent file ≡ true
    → work ≡ record { pages = []; length = 0; position = 0; reserve = 0; room = 0; changed_from = 0; changed_to = 0 } → MayAsk tells a (op.CreateWritable asked keep) work []
unfolding may_enter HasSmallNumbers
may-open tells a asked file keep work same mine fresh = record {
  shared = refl;
  nobody = refl;
  fitting = ap (is_own (state_of a) a.pass.agent) same ∙ mine;
  opened = refl;
  numbers = tt;
  copy = (ap (λ w. w.pages) fresh, ap (λ w. w.length) fresh, ap (λ w. w.position) fresh, ap (λ w. w.reserve) fresh);
  given = refl;
}

-- A local call that was done.
pub local-done : {O : Type 0} (tells : Type 0) (before after : AgentSeen O) (called : Op) → IsLocal tells before called reply.Done 0 → IsKept before after called reply.Done 0
    → HasLocalAnswer {T = Unit {0}} tells before after called 0 (λ x answered. answered ≡ reply.Done) tt
local-done tells before after called local is = record { answered = reply.Done; entered = record { local = local; kept = is }; accepted = refl; gives = refl }
