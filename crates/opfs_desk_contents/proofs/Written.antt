-- What is held once a row's pages were written, or the disk failed at that: no entry came.
use Rattle.std.proofs.Common.{◌≡◌, ℕ, ◌-◌, ◌*◌, ◌^◌, ◌<◌, ◌≤◌, true, false, is_some, List, [], ◌++◌, length, unwrap_or, Option, Some, refl, sym, ap, subst, ◌∙◌, inl, inr, append-nil, arith}
use Rattle.opfs_base.specs.Texts.{Text}
use Rattle.opfs_base.specs.Blocks.{blocks}
use Rattle.opfs_books.specs.Laws.Books.{Fixed, AreBooksAt}
use Rattle.opfs_books.specs.Laws.Laws.{PagesKeepTheBooks, ShowsTold, told}
use Rattle.opfs_books.proofs.laws.Counting.{rose-before, rose-later}
use Rattle.opfs_data.specs.Calls.{Writes as DiskWrites}
use Rattle.opfs_data.specs.declared.page.Page.{Page}
use Rattle.opfs_data.specs.Pages.{page_of, runs_of, AreOnce}
use Rattle.opfs_data.specs.Rows.{Rows, row_of, pages_at, page_at, no_row, kept_count, IsOther, OthersStay}
use Rattle.opfs_data.specs.Writes.{PageWrite, page_moves, blocks_in}
use Rattle.opfs_pages.specs.HistoryLaws.Laid.{AreLaid}
use Rattle.opfs_pages.specs.HistoryLaws.Laws.{PagesStayThere, PagesGoOnTelling}
use Rattle.opfs_pages.specs.HistoryLaws.Open.{open_at, if_open, reserve_in}
use Rattle.opfs_pages.specs.HistoryLaws.Shelves.{KeepsOpen}
use Rattle.opfs_pages.specs.HistoryLaws.Told.{AreRowed, AreThere, AreTold}
use Rattle.opfs_pages.proofs.history_laws.Begun.{other-or}
use Rattle.opfs_pages.proofs.history_laws.Holding.{spaced-blocks, holders_of}
use Rattle.opfs_pages.proofs.history_laws.Spacing.{stays-same}
use Rattle.opfs_desk_steps.specs.Parts.Acted.{AreCleared, IsWayNow}
use Rattle.opfs_desk_steps.specs.Parts.Held.{AreTied, AreHeldAt, AreHeldWhole}
use Rattle.opfs_desk_steps.specs.Parts.Seen.{machine_in, tree_in, book_in}
use Rattle.opfs_desk_steps.specs.declared.parts.parts.Ledger.{Ledger}
use Rattle.opfs_desk_steps.specs.declared.parts.parts.OpenPages.{OpenPages}
use Rattle.opfs_desk_steps.proofs.book_steps.Held.{tied-later}
use Rattle.opfs_desk_steps.proofs.book_steps.LaidStays.{LaidBeside}
use Rattle.opfs_image.specs.Superblock.{data_base}
use Rattle.opfs_journal.specs.Seen.{Seen}
use Rattle.opfs_machine.specs.declared.own.Outline.{Outline}
use Rattle.opfs_machine.specs.declared.own.Outline.TheVariants as outline
use Rattle.opfs_machine.specs.Agents.{agent_of, own_of}
use Rattle.opfs_machine.specs.Histories.{state_after}
use Rattle.opfs_machine.specs.Sums.{reserve_of}
use Rattle.opfs_outside.specs.Faults.{Rose}
use Rattle.opfs_outside.specs.declared.disk.Disk.{Ghosts as DiskWords}
use Rattle.opfs_pages.specs.Copies.{IsBegun}
use Rattle.opfs_pages.specs.Writing.Puts.{IsPut, IsNotPut, all_writes}
use Rattle.opfs_pages.specs.declared.writing.put.Put.{Put}
use Rattle.opfs_records.specs.Replay.Built.{Built, all_extents, has_block, named}
use Rattle.opfs_pages.specs.RowCalls.Plans.{shelf}
use Rattle.opfs_pages.proofs.row_calls.Placing.{put-spaced, left-spaced}
use Rattle.opfs_pages.proofs.row_calls.Written.{put-begins, put-plain}
use Rattle.opfs_space.specs.Holders.{AreMine, Writes}
use Rattle.opfs_space.specs.Room.{Machine}
use Rattle.opfs_space.proofs.Mine.{mine_unnamed}
use Rattle.opfs_laws.specs.Steady.Steady.{row_bytes}
use Rattle.opfs_work.specs.Works.{WorkingCopy}
use Rattle.opfs_desk_contents.specs.Putting.{HasContent, IsRowToPut, all_of}
use Rattle.opfs_desk_contents.proofs.Beside.{beside-named}

keeps-open : (m : Machine) (agent row : ℕ) → KeepsOpen m m agent row
keeps-open m agent row = record { others = λ k n apart. refl; here = stays-same (open_at m agent row) (open_at m agent row) refl; limits = refl }

-- There are rows for just the open ones.
rowed : (m : Machine) (p q : Rows) (agent row : ℕ) → OthersStay agent row p q → is_some (row_of agent row p) ≡ true → is_some (row_of agent row q) ≡ true → AreRowed m p → AreRowed m q
rowed m p q agent row others was now are k n = elim (other-or agent row k n) [
  | inl apart ↦ ap (λ o. is_some o) (others k n apart) ∙ are k n
  | inr same ↦
      subst (λ (x : ℕ). is_some (row_of k x q) ≡ is_some (open_at m k x)) (sym same.1)
      (subst (λ (x : ℕ). is_some (row_of x row q) ≡ is_some (open_at m x row)) (sym same.0) (now ∙ sym was ∙ are agent row))
]

open-reserve : (o : Option Outline) (own : Outline) (pages : ℕ) → o ≡ Some own → pages ≤ reserve_of own → pages ≤ reserve_in (if_open o)
open-reserve o own pages is within = subst (λ (x : Option Outline). pages ≤ reserve_in (if_open x)) (sym is) (by-own own within)
  where
    by-own : (r : Outline) → pages ≤ reserve_of r → pages ≤ reserve_in (if_open (Some r))
    by-own (outline.Stream w) most = most
    by-own (outline.Handle h) most = most
    by-own r most = most

module _ {D : Type 0} (w : DiskWords D) (f : Fixed D) (recorded : Built) (l : Ledger D) (j : Seen D) (p : OpenPages) (are : AreHeldWhole w f recorded l p) (settled : l.journal.in_doubt ≡ false) (agent row reserve : ℕ) (writes : List PageWrite)
    (mine : AreMine p.space.used p.space.own p.swap agent row reserve writes) (wrote : DiskWrites w p.base (runs_of writes) l.journal j) where
  abbrev now : Ledger D
  now = record l { journal = j }

  unnamed : (page b : ℕ) → Writes writes page b → has_block (named recorded.rows) b ≡ false
  unnamed page b goes =
      let s = shelf recorded.rows (tree_in l) p.swap in
      mine_unnamed (holders_of (machine_in l) s) p.space.used p.space.own p.swap agent row reserve page b writes (spaced-blocks (machine_in l) s p.space are.laid.spaced) mine goes

  module _ (most : (d : D) → w.faults d ≤ 2 ^ 64 - 1) (keep : PagesKeepTheBooks w) where
    books-both : AreBooksAt w f recorded (state_after f.opening l.books.history) [] (book_in l) j × ShowsTold w f (book_in l) (told f (book_in l)) l.journal j
    books-both =
        keep f recorded (state_after f.opening l.books.history) [] (book_in l) (runs_of writes) l.journal j are.books
        (record {
          aside = λ i is. beside-named (data_base f.geometry) i (all_extents recorded.rows) writes unnamed is;
          settled = settled;
          writes = subst (λ (b : ℕ). DiskWrites w b (runs_of writes) l.journal j) are.tied.base wrote;
        })

    tied-now : (q : OpenPages) → q.base ≡ p.base → ((Rose (w.faults f.begun) (w.faults j.disk) → ⊥) → kept_count q.swap ≡ 0) → AreTied w f now q
    tied-now q base few =
        let t = tied-later w f most l now p are.tied wrote.stays.length wrote.later (omega arith) in
        record { range = t.range; base = base ∙ t.base; size = t.size; freed = t.freed; agents = t.agents; keys = t.keys; quota = t.quota; few = few }

    pub way-now : IsWayNow w f l now
    way-now = record { later = wrote.later; time = λ t. (wrote.told t).time; shown = λ t c left. inl (books-both.1 t c left) }

    module _ (swap : Rows) (laid : AreLaid w.tells f.opening l.books.history p.base (w.content j.disk) (machine_in l) (shelf recorded.rows (tree_in l) swap) p.space)
        (few : (Rose (w.faults f.begun) (w.faults j.disk) → ⊥) → kept_count swap ≡ 0) where
      abbrev after : OpenPages
      after = record { swap = swap; space = p.space; base = p.base }

      held-now : AreHeldAt w f recorded (state_after f.opening l.books.history) [] now after
      held-now = record { books = books-both.0; laid = laid; tied = tied-now after refl few; fresh = are.fresh }

      cleared-now : AreCleared w f [] l now after
      cleared-now = record { recorded = recorded; are = held-now; way = way-now }

    -- ---- the pages were written

    module _ (swap : Rows) (pages : ℕ) (put : IsPut w.tells p.base (w.content l.journal.disk) (w.content j.disk) p.swap swap agent row pages writes) (was : is_some (row_of agent row p.swap) ≡ true) where
      others-have : (k n i : ℕ) → IsOther agent row k n → i < length (pages_at k n p.swap) → i < length (pages_at k n swap)
      others-have k n i apart within = subst (λ (ps : List Page). i < length ps) (sym (ap (λ o. (unwrap_or o no_row).pages) (put.others k n apart))) within

      module _ (bytes : Text) (its : row_bytes (state_after f.opening l.books.history) agent row ≡ Some bytes) (many : pages ≡ blocks (length bytes))
          (told_row : w.tells → (i : ℕ) → i < pages → IsBegun bytes i (page_of (w.content j.disk) p.base (page_at agent row i swap))) where
        same-bytes : (b : Text) → row_bytes (state_after f.opening (l.books.history ++ [])) agent row ≡ Some b → bytes ≡ b
        same-bytes b is = one bytes b (sym its ∙ ap (λ es. row_bytes (state_after f.opening es) agent row) (sym (append-nil l.books.history)) ∙ is)
          where
            one : (a b : Text) → ◌≡◌ {A = Option Text} (Some a) (Some b) → a ≡ b
            one a b e = cc

        within : (i : ℕ) (b : Text) → row_bytes (state_after f.opening (l.books.history ++ [])) agent row ≡ Some b → 4096 * i < length b → i < pages
        within i b is below = let same : length bytes ≡ length b = ap length (same-bytes b is) in omega (arith, below, many, same)

        there-now : PagesStayThere → AreThere f.opening l.books.history swap
        there-now stay =
            subst (λ es. AreThere f.opening es swap) (append-nil l.books.history)
            (stay f.opening l.books.history [] agent row p.swap swap (λ k n apart. tt) others-have are.laid.there (λ i b is below. let here = within i b is below in omega (arith, here, put.size)))

        told-now : PagesGoOnTelling → w.tells → AreTold f.opening l.books.history p.base (w.content j.disk) swap
        told-now telling t =
            subst (λ es. AreTold f.opening es p.base (w.content j.disk) swap) (append-nil l.books.history)
            (telling f.opening l.books.history [] agent row p.swap swap p.base (w.content l.journal.disk) (w.content j.disk) (λ k n apart. tt) others-have (λ k n i apart inside. put.read t k n apart i inside) are.laid.there (are.laid.told t)
            (λ i b is below. subst (λ (x : Text). IsBegun x i (page_of (w.content j.disk) p.base (page_at agent row i swap))) (same-bytes b is) (told_row t i (within i b is below))))

        module _ (stay : PagesStayThere) (telling : PagesGoOnTelling) (own : Outline) (there : own_of (agent_of (machine_in l) agent) row ≡ Some own) (enough : pages ≤ reserve_of own) (once : AreOnce writes) (all : AreMine p.space.used p.space.own p.swap agent row pages writes) where
          laid-now : AreLaid w.tells f.opening l.books.history p.base (w.content j.disk) (machine_in l) (shelf recorded.rows (tree_in l) swap) p.space
          laid-now = record {
            rows = rowed (machine_in l) p.swap swap agent row put.others was put.there are.laid.rows;
            there = there-now stay;
            told = told-now telling;
            spaced = put-spaced (machine_in l) (machine_in l) recorded.rows (tree_in l) p.swap swap p.space agent row pages writes are.laid.spaced (keeps-open (machine_in l) agent row) put.others put.pages_are once
                (open-reserve (own_of (agent_of (machine_in l) agent) row) own pages there enough) all;
          }

          pub put-cleared : AreCleared w f [] l now (record { swap = swap; space = p.space; base = p.base })
          put-cleared =
              cleared-now swap laid-now
              (λ none. omega (arith, put.fewer, are.tied.few (λ rose. none (rose-later (w.faults f.begun) (w.faults l.journal.disk) (w.faults j.disk) (most j.disk) rose wrote.later))))

    -- ---- or the disk failed

    module _ (beside : LaidBeside w.tells) (swap : Rows) (left : IsNotPut w.tells p.base (w.content l.journal.disk) (w.content j.disk) p.swap swap agent row) (was : is_some (row_of agent row p.swap) ≡ true) (rose : Rose (w.faults l.journal.disk) (w.faults j.disk)) where
      stay-there : (k n i : ℕ) → i < length (pages_at k n p.swap) → i < length (pages_at k n swap)
      stay-there k n i within = elim (other-or agent row k n) [
        | inl apart ↦ subst (λ (ps : List Page). i < length ps) (sym (ap (λ o. (unwrap_or o no_row).pages) (left.others k n apart))) within
        | inr same ↦
            let size : length (pages_at k n swap) ≡ length (pages_at k n p.swap) =
            subst (λ (x : ℕ). length (pages_at k x swap) ≡ length (pages_at k x p.swap)) (sym same.1) (subst (λ (x : ℕ). length (pages_at x row swap) ≡ length (pages_at x row p.swap)) (sym same.0) left.size) in
            omega (arith, within, size)
      ]

      laid-left : AreLaid w.tells f.opening l.books.history p.base (w.content j.disk) (machine_in l) (shelf recorded.rows (tree_in l) swap) p.space
      laid-left =
          let m = machine_in l in
          subst (λ es. AreLaid w.tells f.opening es p.base (w.content j.disk) m (shelf recorded.rows (tree_in l) swap) p.space) (append-nil l.books.history)
          (beside f.opening l.books.history [] p.base (w.content l.journal.disk) (w.content j.disk) m m (shelf recorded.rows (tree_in l) p.swap) (shelf recorded.rows (tree_in l) swap) p.space p.space
          (record {
            go_on = record { none = λ k n. tt; stay = stay-there };
            alike = λ t. left.left t;
            swap_rows = λ k n. rowed m p.swap swap agent row left.others was left.there are.laid.rows k n ∙ sym (are.laid.rows k n);
            open_rows = λ k n. refl;
          })
          (left-spaced m m recorded.rows (tree_in l) p.swap swap p.space agent row are.laid.spaced (keeps-open m agent row) left.others left.blocks) are.laid)

      pub left-cleared : AreCleared w f [] l now (record { swap = swap; space = p.space; base = p.base })
      left-cleared = cleared-now swap laid-left (λ none. absurd (none (rose-before (w.faults f.begun) (w.faults l.journal.disk) (w.faults j.disk) are.books.counted.fewer rose)))

-- What the row has then.
pub has-content : {D : Type 0} (w : DiskWords D) (f : Fixed D) (l : Ledger D) (p : OpenPages) (d : List ℕ) (swap : Rows) (agent row : ℕ) (put : Put) (work : WorkingCopy) (bytes : Text) → IsRowToPut w f l p agent row put work bytes
    → length (page_moves put.writes []) ≡ length (blocks_in put.extents.items) → IsPut w.tells p.base (w.content l.journal.disk) d p.swap swap agent row put.pages (all_writes put.writes [] put.extents.items)
    → HasContent w.tells p.base d swap agent row put.pages bytes
has-content w f l p d swap agent row put work bytes of count is = record {
  plain = record {
    count = is.size;
    plain = λ i within. put-plain w.tells work of.of_row.content (w.content l.journal.disk) d p.base of.of_row.was p.swap swap agent row put.pages 0 [] work.length put.writes put.extents.items of.of_row.staged of.of_row.same of.count count is i within;
  };
  told = λ t i within. put-begins w.tells work (w.content l.journal.disk) d p.base p.swap swap agent row put.pages (all_of work.length) put.writes put.extents.items bytes bytes t of.of_row of.count count is i within;
}
