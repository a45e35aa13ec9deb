-- How the hand of a script's run agrees with its rows. This project's own.
use Rattle.std.specs.Prelude.{◌≡◌, ℕ, true, List, [], length, Option, Some}
use Rattle.opfs_base.specs.Texts.{Text}
use Rattle.opfs_hist.specs.declared.op.Op.TheVariants as op
use Rattle.opfs_hist.specs.declared.entry.Entry.{Entry}
use Rattle.opfs_hist.specs.declared.reply.Reply.{Reply}
use Rattle.opfs_machine.specs.Histories.{is_of_origin}
use Rattle.opfs_script_run.specs.declared.runs.hand.Hand.{Hand}
use Rattle.opfs_script_run.specs.declared.runs.hand.Named.{Named}
use Rattle.opfs_script_run.specs.declared.runs.hand.Named.TheVariants as named
use Rattle.opfs_script_run.specs.Runs.Running.{empty_hand, named_by, op_of, hand_then, IsWait}
use Rattle.opfs_script.specs.declared.step.Step.{Step}
use Rattle.opfs_script.specs.Limits.{is_origin_key, keeps_bounds}
use Rattle.opfs_runner.specs.RunLaws.Kinds.{RowKind, stream, handle, snapshot, iterator, sort_at, open_rows, kinds_after, MayPerform}
use Rattle.opfs_runner.specs.RunLaws.Leaving.{snapshot_bound, row_left, kinds_stepped}

-- What a variable names is of the origin of a key, or a row of its kind.
abbrev pub IsNamed : Option Text → List RowKind → Named → Type 0
IsNamed key kinds (named.Directory at) = is_of_origin key at ≡ true
IsNamed key kinds (named.File at) = is_of_origin key at ≡ true
IsNamed key kinds (named.Stream n) = sort_at kinds n ≡ Some stream
IsNamed key kinds (named.Handle n) = sort_at kinds n ≡ Some handle
IsNamed key kinds (named.Snapshot n) = sort_at kinds n ≡ Some snapshot
IsNamed key kinds (named.Iterator n dir) = (sort_at kinds n ≡ Some (iterator dir)) × (is_of_origin key dir ≡ true)

-- The hand counts the rows and tells which are open, and its variables name what is there. A snapshot is named by one variable,
-- and one that no variable names is not held.
pub record Agrees (h : Hand) (kinds : List RowKind) : Type 0 where
  pub rows : h.rows ≡ length kinds
  pub still_open : h.opened ≡ open_rows 1 kinds
  pub bound : (variable : Text) (x : Named) → named_by h variable ≡ Some x → IsNamed h.key kinds x
  pub once : (v w : Text) (n : ℕ) → named_by h v ≡ Some (named.Snapshot n) → named_by h w ≡ Some (named.Snapshot n) → v ≡ w
  pub held : (n : ℕ) → sort_at kinds n ≡ Some snapshot → (v : Text) × (named_by h v ≡ Some (named.Snapshot n))

pub record HandsAgreeWithRows : Type 0 where
  -- Before the first step.
  pub begin : (key : Option Text) → Agrees (empty_hand key) []
  -- Each step asks what it may.
  pub asks : (h : Hand) (kinds : List RowKind) (s : Step) → Agrees h kinds → keeps_bounds s ≡ true → MayPerform h.key kinds (op_of h s)
  -- After a step, with the snapshot gone that its variable no longer names.
  pub goes : (h : Hand) (kinds : List RowKind) (s : Step) (answered : Reply) → is_origin_key h.key ≡ true → Agrees h kinds → keeps_bounds s ≡ true
      → Agrees (hand_then h s (op_of h s) answered) (kinds_stepped h kinds s answered)
  -- Only a snapshot goes, and it is there until then.
  pub leaves : (h : Hand) (kinds : List RowKind) (s : Step) (answered : Reply) (now : Option ℕ) (n : ℕ) → Agrees h kinds → keeps_bounds s ≡ true
      → row_left (snapshot_bound h s) now ≡ Some n → sort_at (kinds_after kinds (op_of h s) answered) n ≡ Some snapshot
  -- The wait of a step that asks for an await.
  pub waits : (h : Hand) (n : ℕ) (s : Step) (tag : Text) (e : Entry) → op_of h s ≡ op.Await tag → e.number ≡ n → e.op ≡ op.Wait tag → IsWait h n s e
