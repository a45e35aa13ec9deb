-- What is counted of an agent's entries. This project's own.
use Rattle.std.specs.Prelude.{◌≡◌, ℕ, ◌+◌, ◌&&◌, Bool, true, false, not, List, ◌++◌, length}
use Rattle.opfs_hist.specs.declared.entry.Entry.{Entry}
use Rattle.opfs_machine.specs.Steps.{is_refusal}
use Rattle.opfs_print.specs.Lines.{text_of}
use Rattle.opfs_script_run.specs.Runs.Running.{entries_of, is_wait}
use Rattle.opfs_gen.specs.Summing.{accepted_among, lines_among, refused_among}
use Rattle.opfs_gen.specs.declared.summing.Told.{Told}

pub record IsTold (es : List Entry) (told : Told) : Type 0 where
  pub lines : told.lines ≡ length (lines_among es)
  pub accepted : told.accepted ≡ accepted_among es
  pub refused : told.refused ≡ refused_among es
  pub text : told.text.items ≡ text_of es

-- How much an entry adds to a count.
abbrev pub one_where : Bool → ℕ
one_where true = 1
one_where false = 0

-- An entry's line is counted.
pub record IsCounted (e : Entry) (old new : Told) : Type 0 where
  pub lines : new.lines ≡ old.lines + one_where (not (is_wait e.op))
  pub accepted : new.accepted ≡ old.accepted + one_where (not (is_wait e.op) && not (is_refusal e.reply))
  pub refused : new.refused ≡ old.refused + one_where (not (is_wait e.op) && is_refusal e.reply)
  pub text : new.text ≡ old.text

-- Of an agent's entries those of a front of the history are told, and this rest is left.
pub record IsToldTo (k : ℕ) (history rest : List Entry) (told : Told) : Type 0 where
  pub front : List Entry
  pub whole : front ++ rest ≡ history
  pub so_far : IsTold (entries_of k front) told
