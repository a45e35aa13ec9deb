-- A call that opens a row, step by step: createWritable and createSyncAccessHandle. This project's own.
use Rattle.std.specs.Prelude.{◌≡◌, ℕ, ◌≤◌, true, List}
use Rattle.opfs_store.specs.declared.acts.acted.Acted.{Acted}
use Rattle.opfs_store.specs.declared.acts.acted.Gift.TheVariants as gift
use Rattle.opfs_base.specs.Texts.{Text}
use Rattle.opfs_books.specs.Laws.Books.{Fixed}
use Rattle.opfs_data.specs.Rows.{kept_count}
use Rattle.opfs_hist.specs.declared.entry.Entry.{Entry}
use Rattle.opfs_hist.specs.declared.reply.Reply.TheVariants as reply
use Rattle.opfs_outside.specs.declared.disk.Disk.{Ghosts as DiskWords}
use Rattle.opfs_records.specs.Replay.Built.{Built}
use Rattle.opfs_work.specs.Works.{WorkingCopy}
use Rattle.opfs_desk_steps.specs.Parts.Asked.{IsAsked}
use Rattle.opfs_desk_steps.specs.Parts.Held.{AreHeldWhole}
use Rattle.opfs_desk_steps.specs.Parts.Seen.{tree_in}
use Rattle.opfs_desk_steps.specs.declared.parts.call.ReadyCall.{ReadyCall}
use Rattle.opfs_desk_steps.specs.declared.parts.parts.Ledger.{Ledger}
use Rattle.opfs_desk_steps.specs.declared.parts.parts.OpenPages.{OpenPages}
use Rattle.opfs_desk_steps.specs.RowLaws.Opens.{HasRow, opens_row, opened_extents}

-- What a call that opens a row begins with.
pub record BeginsOpening {D : Type 0} (w : DiskWords D) (f : Fixed D) (recorded : Built) (l : Ledger D) (p : OpenPages) (calls : List Entry) (c : ReadyCall) (work : WorkingCopy) (past : List Text) : Type 0 where
  pub held : AreHeldWhole w f recorded l p
  pub asked : IsAsked w.tells f.opening l.books.history calls l.books.state c work past
  pub opens : opens_row c.op ≡ true

-- The row's pages were added.
pub record HasPages {D : Type 0} (l : Ledger D) (p q : OpenPages) (c : ReadyCall) (row : ℕ) : Type 0 where
  pub opened : HasRow p q c.agent row (opened_extents (tree_in l) c.op)
  pub space : q.space ≡ p.space
  pub base : q.base ≡ p.base
  pub kept : kept_count q.swap ≤ kept_count p.swap

-- What it answers, with as many rows as its agent has made.
abbrev pub opened_act : ℕ → Acted
opened_act rows = record { reply = reply.Done; gift = gift.Nothing; rows = rows }
