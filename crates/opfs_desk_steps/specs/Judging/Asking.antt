-- A call that is asked for. This project's own.
use Rattle.std.specs.Prelude.{◌≡◌, ℕ, List, ◌++◌, Ok, Err, None}
use Rattle.opfs_store.specs.Acts.Asking.{MayAct}
use Rattle.opfs_base.specs.Texts.{Text}
use Rattle.opfs_books.specs.Laws.Books.{Fixed}
use Rattle.opfs_desk_steps.specs.declared.judging.judged.Judged.{Judged}
use Rattle.opfs_desk_steps.specs.declared.judging.judged.Judged.TheVariants as judged
use Rattle.opfs_desk_steps.specs.declared.judging.judged.Readiness.{Readiness}
use Rattle.opfs_hist.specs.declared.entry.Entry.{Entry}
use Rattle.opfs_hist.specs.declared.op.Op.{Op}
use Rattle.opfs_hist.specs.declared.reply.Refusal.{Refusal}
use Rattle.opfs_machine.specs.Histories.{state_after}
use Rattle.opfs_machine.specs.Openings.{Opening}
use Rattle.opfs_machine.specs.Replies.{sizes_of}
use Rattle.opfs_machine.specs.Steps.{judged}
use Rattle.opfs_outside.specs.declared.disk.Disk.{Ghosts as DiskWords}
use Rattle.opfs_records.specs.Replay.Built.{Built}
use Rattle.opfs_state.specs.Applied.{StateSeen, IsPrepared}
use Rattle.opfs_work.specs.Works.{WorkingCopy}
use Rattle.opfs_desk_steps.specs.Parts.Asked.{AreEvictions}
use Rattle.opfs_desk_steps.specs.Parts.Held.{AreHeldWhole}
use Rattle.opfs_desk_steps.specs.Parts.Seen.{units_in}
use Rattle.opfs_desk_steps.specs.declared.parts.parts.Ledger.{Ledger}
use Rattle.opfs_desk_steps.specs.declared.parts.parts.OpenPages.{OpenPages}

-- It may be made after the history and its agent's pending calls, over parts that are kept and in which nothing stands ready.
pub record MayAsk {D : Type 0} (w : DiskWords D) (l : Ledger D) (calls : List Entry) (k : ℕ) (o : Op) (work : WorkingCopy) : Type 0 where
  pub fixed : Fixed D
  pub recorded : Built
  pub pages : OpenPages
  pub number : ℕ
  pub past : List Text
  pub are : AreHeldWhole w fixed recorded l pages
  pub idle : l.books.state.store.prepared.place ≡ None
  pub may : MayAct w.tells fixed.opening l.books.history calls (record { agent = k; number = number; op = o }) work past

-- The machine refuses it after these calls, and nothing stands ready.
pub record IsRefusedFor (o : Opening) (h calls : List Entry) (s : StateSeen) (k : ℕ) (called : Op) (r : Refusal) : Type 0 where
  pub refused : judged (state_after o (h ++ calls)) k called ≡ Err r
  pub idle : s.store.prepared.place ≡ None

-- It does not refuse it: with the sizes that the machine has these units are cleared for it, and all stands ready.
pub record IsReadied (o : Opening) (h calls : List Entry) (s : StateSeen) (k : ℕ) (called : Op) (r : Readiness) : Type 0 where
  pub sizes : r.sizes ≡ sizes_of (state_after o (h ++ calls)) k called
  pub judged : judged (state_after o (h ++ calls)) k called ≡ Ok (units_in r.clearing.items)
  pub prepared : IsPrepared s k called
  pub evictions : AreEvictions r.clearing.items

abbrev pub IsAskedAs : Opening → List Entry → List Entry → StateSeen → ℕ → Op → Judged → Type 0
IsAskedAs o h calls s k called (judged.Refused r) = IsRefusedFor o h calls s k called r
IsAskedAs o h calls s k called (judged.Ready r) = IsReadied o h calls s k called r
