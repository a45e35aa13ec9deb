-- A row's pages that were written into their blocks, or not, where the disk failed.
use Rattle.std.specs.List.{range_with_len}
use Rattle.std.proofs.Common.{◌≡◌, unwrap_or, ℕ, zero, suc, ◌+◌, ◌-◌, ◌*◌, ◌^◌, ◌<◌, ◌≤◌, ◌||◌, nat_eq, Bool, true, false, is_some, List, [], ◌∷◌, length, refl, sym, ap, subst, ◌∙◌, inl, inr, append-nil, arith}
use Rattle.std.proofs.lemmas.Bool.{cases_lt, cases_eq, eq-eqb, true≢false}
use Rattle.opfs_base.specs.Texts.{Text}
use Rattle.opfs_base.specs.declared.extents.Extent.{Extent}
use Rattle.opfs_blocks.specs.Sets.{blocks_of}
use Rattle.opfs_books.specs.Laws.Books.{Fixed, AreBooksAt, account_of}
use Rattle.opfs_books.specs.Laws.Laws.{PagesKeepTheBooks, ShowsTold, told}
use Rattle.opfs_books.proofs.laws.Counting.{rose-before}
use Rattle.opfs_commit.specs.Making.{AreBeside}
use Rattle.opfs_data.specs.Calls.{Writes as JournalWrites}
use Rattle.opfs_data.specs.Pages.{runs_of}
use Rattle.opfs_data.specs.Places.{Aside}
use Rattle.opfs_data.specs.Rows.{Rows, row_of, pages_at, no_row}
use Rattle.opfs_data.specs.Writes.{PageWrite}
use Rattle.opfs_pages.specs.HistoryLaws.Laid.{AreLaid}
use Rattle.opfs_pages.specs.HistoryLaws.Shelves.{KeepsOpen}
use Rattle.opfs_pages.specs.HistoryLaws.Spaced.{AreSpaced}
use Rattle.opfs_pages.proofs.history_laws.Begun.{other-or}
use Rattle.opfs_pages.proofs.history_laws.Holding.{holders_of, spaced-blocks}
use Rattle.opfs_hist.specs.declared.entry.Entry.{Entry}
use Rattle.opfs_image.specs.Filling.{AreIn}
use Rattle.opfs_image.specs.Superblock.{data_base}
use Rattle.opfs_journal.specs.Seen.{Seen}
use Rattle.opfs_machine.specs.declared.own.Own.{Own}
use Rattle.opfs_machine.specs.declared.state.State.{State}
use Rattle.opfs_outside.specs.Bytes.{Beside}
use Rattle.opfs_outside.specs.Faults.{Rose}
use Rattle.opfs_outside.specs.declared.disk.Disk.{Ghosts as DiskWords}
use Rattle.opfs_pages.specs.Writing.Puts.{IsPut, IsNotPut, all_writes}
use Rattle.opfs_pages.specs.declared.writing.put.Put.{Put}
use Rattle.opfs_records.specs.Replay.Built.{Built, named, has_block}
use Rattle.opfs_pages.specs.RowCalls.Plans.{shelf}
use Rattle.opfs_pages.proofs.row_calls.Placing.{left-spaced}
use Rattle.opfs_space.specs.Holders.{AreBlocks, Writes}
use Rattle.opfs_space.specs.Room.{Machine}
use Rattle.opfs_space.proofs.Others.{member_left, member_right}
use Rattle.opfs_desk_steps.specs.Parts.Held.{AreTied}
use Rattle.opfs_desk_steps.specs.Parts.Seen.{machine_in, tree_in, book_in}
use Rattle.opfs_desk_steps.specs.declared.parts.parts.Ledger.{Ledger}
use Rattle.opfs_desk_steps.specs.declared.parts.parts.DeskParts.{DeskParts}
use Rattle.opfs_desk_steps.proofs.book_steps.Held.{tied-later}
use Rattle.opfs_desk_steps.proofs.book_steps.LaidStays.{LaidBeside}
use Rattle.opfs_desk_bytes.specs.Writing.Putting.{IsToPut, HaveBlocksIn, HasNotPut, HasWritten, IsUsed}

-- ---- blocks that no record names

range-has : (a n b : ℕ) → a ≤ b → b < a + n → has_block (range_with_len a n) b ≡ true
range-has a zero b from below = absurd (omega (arith, from, below))
range-has a (suc n) b from below = elim (cases_eq b a) [
  | inl here ↦ ap (λ (t : Bool). t || has_block (range_with_len (a + 1) n) b) (eq-eqb b a here)
  | inr apart ↦ later (nat_eq b a) (has_block (range_with_len (a + 1) n) b) (range-has (a + 1) n b (omega (arith, from, apart)) (omega (arith, below)))
]
  where
    later : (s t : Bool) → t ≡ true → (s || t) ≡ true
    later true t is = refl
    later false t is = is

-- A place in a block that is among these extents.
in-block : (base : ℕ) (es : List Extent) (i b : ℕ) → AreIn base es i → base + 4096 * b ≤ i → i < base + 4096 * b + 4096 → has_block (blocks_of es) b ≡ true
in-block base [] i b is from below = absurd is
in-block base (e ∷ es) i b (inl here) from below =
    let first = here.0 in
    let last = here.1 in
    member_left (range_with_len e.start e.count) (blocks_of es) b (range-has e.start e.count b (omega (arith, first, below)) (omega (arith, last, from)))
in-block base (e ∷ es) i b (inr later) from below = member_right (range_with_len e.start e.count) (blocks_of es) b (in-block base es i b later from below)

beside-block : (base : ℕ) (es : List Extent) (i b : ℕ) → AreIn base es i → (has_block (blocks_of es) b ≡ true → ⊥) → Beside (base + 4096 * b) (4096 * 1) i
beside-block base es i b is none = elim (cases_lt i (base + 4096 * b)) [
  | inl before ↦ inl before
  | inr from ↦ elim (cases_lt i (base + 4096 * b + 4096)) [
    | inl within ↦ absurd (none (in-block base es i b is from within))
    | inr behind ↦ inr (omega (arith, behind))
  ]
]

all-beside : (base : ℕ) (es : List Extent) (i : ℕ) (ws : List PageWrite) → AreIn base es i → ((page b : ℕ) → Writes ws page b → has_block (blocks_of es) b ≡ true → ⊥) → Aside base (runs_of ws) i
all-beside base es i [] is none = tt
all-beside base es i (x ∷ ws) is none = (beside-block base es i x.block is (none x.page x.block (inl (refl, refl))), all-beside base es i ws is (λ page b more. none page b (inr more)))

all-open : (m : Machine) (agent row : ℕ) → KeepsOpen m m agent row
all-open m agent row = record {
  others = λ k n apart. refl;
  here = record { file = refl; reserve = omega arith; stream = refl };
  limits = refl;
}

module _ {D : Type 0} (w : DiskWords D) (pages : PagesKeepTheBooks w) (most : (d : D) → w.faults d ≤ 2 ^ 64 - 1) (f : Fixed D) (recorded : Built) (base : State Text Own) (gone : List Text) (p : DeskParts D) (agent row : ℕ) (put : Put) (given : List ℕ)
    (to : IsToPut w f recorded base gone p agent row put given) (have : HaveBlocksIn w p agent row put given) (j : Seen D) (swap : Rows)
    (writes : JournalWrites w p.pages.base (runs_of (all_writes put.writes given put.extents.items)) p.ledger.journal j) where
  abbrev l : Ledger D
  l = p.ledger

  abbrev all : List PageWrite
  all = all_writes put.writes given put.extents.items

  abbrev pub now : DeskParts D
  now = record { ledger = record { journal = j; books = l.books; freed = l.freed; alloc = l.alloc }; pages = record { swap = swap; space = p.pages.space; base = p.pages.base } }

  blocks : AreBlocks (holders_of (machine_in l) (shelf recorded.rows (tree_in l) p.pages.swap)) p.pages.space.used p.pages.space.own
  blocks = spaced-blocks (machine_in l) (shelf recorded.rows (tree_in l) p.pages.swap) p.pages.space to.are.laid.spaced

  unnamed : (page b : ℕ) → Writes all page b → has_block (named recorded.rows) b ≡ true → ⊥
  unnamed page b is has = true≢false (sym (have.mine page b is).0.owned ∙ (blocks.grounded b has).2)

  beside : AreBeside w (account_of f recorded (book_in l)) (runs_of all) l.journal j
  beside = record {
    aside = λ i is. all-beside (data_base f.geometry) _ i all is unnamed;
    settled = to.settled;
    writes = subst (λ (n : ℕ). JournalWrites w n (runs_of all) l.journal j) to.are.tied.base writes;
  }

  both : AreBooksAt w f recorded base gone (book_in l) j × ShowsTold w f (book_in l) (told f (book_in l)) l.journal j
  both = pages f recorded base gone (book_in l) (runs_of all) l.journal j to.are.books beside

  used : IsUsed w f l now.ledger
  used = record { later = writes.later; time = λ t. (writes.told t).time; shown = both.1 }

  tied : AreTied w f now.ledger p.pages
  tied = tied-later w f most l now.ledger p.pages to.are.tied writes.stays.length writes.later (omega arith)

  pub written : IsPut w.tells p.pages.base (w.content l.journal.disk) (w.content j.disk) p.pages.swap swap agent row put.pages all → HasWritten w f recorded base gone p now agent row put given
  written is = record {
    books = both.0;
    tied = record {
      range = tied.range;
      base = tied.base;
      size = tied.size;
      freed = tied.freed;
      agents = tied.agents;
      keys = tied.keys;
      quota = tied.quota;
      few = λ none. let fewer = is.fewer in omega (arith, fewer, tied.few none);
    };
    put_is = is;
    same = refl;
    space = refl;
    base_is = refl;
    used = used;
  }

  module _ (is : IsNotPut w.tells p.pages.base (w.content l.journal.disk) (w.content j.disk) p.pages.swap swap agent row) (rose : Rose (w.faults l.journal.disk) (w.faults j.disk)) (laid : LaidBeside w.tells) where
    stay : (k n i : ℕ) → i < length (pages_at k n p.pages.swap) → i < length (pages_at k n swap)
    stay k n i within = elim (other-or agent row k n) [
      | inl apart ↦ subst (λ o. i < length (unwrap_or o no_row).pages) (sym (is.others k n apart)) within
      | inr here ↦
          subst (λ (x : ℕ). i < length (pages_at k x swap)) (sym here.1)
          (subst (λ (x : ℕ). i < length (pages_at x row swap)) (sym here.0)
          (let old : i < length (pages_at agent row p.pages.swap) = subst (λ (x : ℕ). i < length (pages_at x row p.pages.swap)) here.0 (subst (λ (x : ℕ). i < length (pages_at k x p.pages.swap)) here.1 within) in
          omega (arith, old, is.size)))
    ]

    rows-stay : (k n : ℕ) → is_some (row_of k n swap) ≡ is_some (row_of k n p.pages.swap)
    rows-stay k n = elim (other-or agent row k n) [
      | inl apart ↦ ap (λ o. is_some o) (is.others k n apart)
      | inr here ↦
          subst (λ (x : ℕ). is_some (row_of k x swap) ≡ is_some (row_of k x p.pages.swap)) (sym here.1)
          (subst (λ (x : ℕ). is_some (row_of x row swap) ≡ is_some (row_of x row p.pages.swap)) (sym here.0) (is.there ∙ sym to.ready.there))
    ]

    spaced : AreSpaced (machine_in l) (shelf recorded.rows (tree_in l) swap) p.pages.space
    spaced = left-spaced (machine_in l) (machine_in l) recorded.rows (tree_in l) p.pages.swap swap p.pages.space agent row to.are.laid.spaced (all-open (machine_in l) agent row) is.others is.blocks

    laid-now : AreLaid w.tells f.opening l.books.history p.pages.base (w.content j.disk) (machine_in l) (shelf recorded.rows (tree_in l) swap) p.pages.space
    laid-now =
        subst (λ (es : List Entry). AreLaid w.tells f.opening es p.pages.base (w.content j.disk) (machine_in l) (shelf recorded.rows (tree_in l) swap) p.pages.space) (append-nil l.books.history)
        (laid f.opening l.books.history [] p.pages.base (w.content l.journal.disk) (w.content j.disk) (machine_in l) (machine_in l) (shelf recorded.rows (tree_in l) p.pages.swap) (shelf recorded.rows (tree_in l) swap) p.pages.space p.pages.space
        (record {
          go_on = record { none = λ k n. tt; stay = stay };
          alike = is.left;
          swap_rows = rows-stay;
          open_rows = λ k n. refl;
        })
        spaced to.are.laid)

    pub not-put : HasNotPut w f base gone p now
    not-put = record {
      recorded = recorded;
      are = record {
        books = both.0;
        laid = laid-now;
        tied = record {
          range = tied.range;
          base = tied.base;
          size = tied.size;
          freed = tied.freed;
          agents = tied.agents;
          keys = tied.keys;
          quota = tied.quota;
          few = λ none. absurd (none (rose-before (w.faults f.begun) (w.faults l.journal.disk) (w.faults j.disk) to.are.books.counted.fewer rose));
        };
        fresh = to.are.fresh;
      };
      history = refl;
      state = refl;
      rose = rose;
      used = used;
    }
