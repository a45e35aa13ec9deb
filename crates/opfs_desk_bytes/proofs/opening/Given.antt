-- What the steps of a call that opens a row give, as its lemmas ask.
use Rattle.std.proofs.Common.{◌≡◌, ℕ, ◌+◌, true, is_some, List, ◌++◌, length, refl, sym, ap, subst, arith}
use Rattle.std.specs.Prelude.{count_by}
use Rattle.opfs_base.specs.Texts.{Text}
use Rattle.opfs_books.specs.Laws.Books.{Fixed}
use Rattle.opfs_data.specs.Pages.{pages_in}
use Rattle.opfs_data.specs.Rows.{Rows, row_of, pages_at, kept_count, OthersStay}
use Rattle.opfs_hist.specs.Sums.{makes_row}
use Rattle.opfs_hist.specs.declared.entry.Entry.{Entry}
use Rattle.opfs_machine.specs.Agents.{agent_of}
use Rattle.opfs_machine.specs.Histories.{state_after}
use Rattle.opfs_outside.specs.declared.disk.Disk.{Ghosts as DiskWords}
use Rattle.opfs_records.specs.Replay.Built.{Built}
use Rattle.opfs_work.specs.Works.{WorkingCopy}
use Rattle.opfs_desk_steps.specs.Parts.Acted.{IsUnacted}
use Rattle.opfs_desk_steps.specs.Parts.Asked.{IsAsked}
use Rattle.opfs_desk_steps.specs.Parts.Held.{AreHeldWhole}
use Rattle.opfs_desk_steps.specs.Parts.Seen.{machine_in, tree_in}
use Rattle.opfs_desk_steps.specs.declared.parts.call.ReadyCall.{ReadyCall}
use Rattle.opfs_desk_steps.specs.declared.parts.parts.Ledger.{Ledger}
use Rattle.opfs_desk_steps.specs.declared.parts.parts.OpenPages.{OpenPages}
use Rattle.opfs_desk_steps.specs.declared.parts.parts.DeskParts.{DeskParts}
use Rattle.opfs_desk_steps.specs.RowLaws.Opens.{next_row, opened_extents}
use Rattle.opfs_desk_steps.specs.Ready.{AskedCallsAreReady}
use Rattle.opfs_desk_bytes.specs.Opening.Opening.{HasPages}
use Rattle.opfs_desk_steps.proofs.book_steps.Ways.{reads-here}

-- There was no memory for the row.
pub unacted : {D : Type 0} (w : DiskWords D) (f : Fixed D) (recorded : Built) (old : DeskParts D) (swap : Rows) → swap ≡ old.pages.swap → AreHeldWhole w f recorded old.ledger old.pages
    → IsUnacted w f old (record { ledger = old.ledger; pages = record { swap = swap; space = old.pages.space; base = old.pages.base } })
unacted w f recorded old swap same held = record {
  recorded = recorded;
  are = subst (λ (x : Rows). AreHeldWhole w f recorded old.ledger (record { swap = x; space = old.pages.space; base = old.pages.base })) (sym same) held;
  entries = refl;
  reads = reads-here w old.ledger.journal;
}

-- The number of the row is that which the agent makes next.
pub number-is : {D : Type 0} (w : DiskWords D) → AskedCallsAreReady w → (f : Fixed D) (recorded : Built) (l mid : Ledger D) (p : OpenPages) (calls : List Entry) (c : ReadyCall) (work : WorkingCopy) (past : List Text)
    → AreHeldWhole w f recorded l p → IsAsked w.tells f.opening l.books.history calls l.books.state c work past → mid.books.history ≡ l.books.history ++ calls
    → (row : ℕ) → row ≡ length (agent_of (machine_in l) c.agent).own + count_by makes_row calls + 1 → row ≡ next_row (state_after f.opening mid.books.history) c.agent
number-is w asks f recorded l mid p calls c work past held asked entries row is =
    let rows = asks.rows f recorded l p calls c work past held asked in
    let at = ap (λ (es : List Entry). length (agent_of (state_after f.opening es) c.agent).own) entries in
    omega (arith, is, rows, at)

pub pages-are : {D : Type 0} (l : Ledger D) (p q : OpenPages) (c : ReadyCall) (row n : ℕ) → row ≡ n → OthersStay c.agent row p.swap q.swap → is_some (row_of c.agent row q.swap) ≡ true
    → pages_at c.agent row q.swap ≡ pages_in (opened_extents (tree_in l) c.op) → q.space ≡ p.space → q.base ≡ p.base → kept_count q.swap ≡ kept_count p.swap → HasPages l p q c n
pages-are l p q c row n is others here pages space base kept =
    subst (λ (x : ℕ). HasPages l p q c x) is
    (record { opened = record { others = others; here = here; pages = pages }; space = space; base = base; kept = omega (arith, kept) })
