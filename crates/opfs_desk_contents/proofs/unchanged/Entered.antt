-- A flush or a close of an access handle was entered: its pages are as they were, or went.
use Rattle.std.proofs.Common.{◌≡◌, ◌⊎◌, ℕ, ◌*◌, ◌<◌, ◌≤◌, true, false, cond, is_some, slice_index_or, List, [], ◌∷◌, ◌++◌, length, unwrap_or, Option, Some, None, option_map, refl, sym, ap, ◌∙◌, subst, inl, inr, arith}
use Rattle.std.proofs.lemmas.Bool.{lt-ltb}
use Rattle.std.specs.Prelude.{IsTrue}
use Rattle.std.specs.Ordering.{eq_by_cmp}
use Rattle.opfs_base.specs.Places.{Place, place_cmp}
use Rattle.opfs_base.specs.Texts.{Text}
use Rattle.opfs_blocks.specs.Sets.{blocks_of}
use Rattle.opfs_books.specs.Laws.Books.{Fixed, AreBooks}
use Rattle.opfs_state_rows.specs.Changes.Changed.{tree_by}
use Rattle.opfs_data.specs.Pages.{page_of, blank}
use Rattle.opfs_data.specs.Rows.{Rows, row_of, no_row, kept_count, OthersStay}
use Rattle.opfs_pages.specs.HistoryLaws.Handles.{AreHandlesWhole, handle_on}
use Rattle.opfs_pages.specs.HistoryLaws.Hands.{row_in_hand}
use Rattle.opfs_pages.specs.HistoryLaws.Laid.{AreLaid}
use Rattle.opfs_pages.specs.HistoryLaws.Laws.{BlocksGoOn, CallsLeaveOtherRows, TreesKeepBlocks}
use Rattle.opfs_pages.specs.HistoryLaws.Open.{if_open, open_at, OthersStayOpen, StaysOpen}
use Rattle.opfs_pages.specs.HistoryLaws.Putting.{AllReadAlike}
use Rattle.opfs_pages.specs.HistoryLaws.RowsAfter.{CallsChangeTheirRow, IsDone}
use Rattle.opfs_pages.specs.HistoryLaws.Shelves.{HasSameBlocks}
use Rattle.opfs_pages.specs.HistoryLaws.Spaced.{AreSpaced}
use Rattle.opfs_pages.proofs.history_laws.Begun.{other-or}
use Rattle.opfs_pages.proofs.history_laws.Leaving.{open-is}
use Rattle.opfs_hist.specs.declared.entry.Entry.{Entry}
use Rattle.opfs_hist.specs.declared.op.Op.{Op}
use Rattle.opfs_hist.specs.declared.op.Op.TheVariants as op
use Rattle.opfs_laws.specs.Lengths.Outlines.{in_lengths_of}
use Rattle.opfs_machine.specs.declared.own.HandleRow.{HandleRow}
use Rattle.opfs_machine.specs.declared.own.Outline.{Outline}
use Rattle.opfs_machine.specs.declared.own.Own.{Own}
use Rattle.opfs_machine.specs.declared.own.Own.TheVariants as own
use Rattle.opfs_machine.specs.declared.state.Sizes.{Sizes}
use Rattle.opfs_machine.specs.declared.state.State.{State}
use Rattle.opfs_machine.specs.Agents.{agent_of, counted, own_of}
use Rattle.opfs_machine.specs.Contents.{in_lengths, outline_of}
use Rattle.opfs_machine.specs.Effects.{effect}
use Rattle.opfs_machine.specs.Histories.{state_after}
use Rattle.opfs_machine.specs.Replies.{bytes_at, row_named}
use Rattle.opfs_machine.specs.Steps.{after_reply, is_refusal}
use Rattle.opfs_outside.specs.declared.disk.Disk.{Ghosts as DiskWords}
use Rattle.opfs_pages.specs.Copies.{IsBegun}
use Rattle.opfs_records.specs.Replay.Built.{Built, has_block}
use Rattle.opfs_pages.specs.RowCalls.Plans.{shelf}
use Rattle.opfs_records.specs.Checkpoint.Written.{stored_row, stored_rows}
use Rattle.opfs_space.specs.Files.{file_has, extents_in}
use Rattle.opfs_space.specs.Holders.{HasPage}
use Rattle.opfs_space.specs.Room.{Machine}
use Rattle.opfs_space.specs.Spaces.{SpaceSeen}
use Rattle.opfs_laws.specs.Steady.Steady.{is_steady, open_bytes, row_bytes}
use Rattle.opfs_tree.specs.Rows.{Rows as Tree, IsInOrder, row_at}
use Rattle.opfs_tree.specs.declared.row.Row.{Row}
use Rattle.opfs_tree.specs.declared.row.Row.TheVariants as tree_row
use Rattle.opfs_desk_contents.specs.Words.{ends_row}
use Rattle.opfs_desk_steps.specs.Parts.Held.{AreHeldWhole, AreTied}
use Rattle.opfs_desk_steps.specs.Parts.Seen.{machine_in, tree_in, book_in}
use Rattle.opfs_desk_steps.specs.declared.parts.parts.Ledger.{Ledger}
use Rattle.opfs_desk_steps.specs.declared.parts.parts.OpenPages.{OpenPages}
use Rattle.opfs_desk_steps.specs.RowLaws.InHand.{HasInHand, HasPages, RowsInHandAreLaid}
use Rattle.opfs_desk_steps.proofs.row_laws.InHand.{entered}
use Rattle.opfs_desk_steps.proofs.row_laws.Staying.{open-with-bytes}
use Rattle.opfs_desk_steps.proofs.book_steps.Evictions.{spaced-recorded, stored-named}
use Rattle.opfs_desk_contents.specs.Unchanged.Saving.{saves_handle}
use Rattle.opfs_desk_contents.proofs.unchanged.Wordings.{bytes-after, in-hand, limits-stay, plain, saved-has}

-- ---- rows as they are stored have the blocks of the rows

pub same-blocks : (t : Tree) → HasSameBlocks t t
same-blocks t = record { named = λ b. refl; has = λ f b. refl }

find-stored : (place : Place) (t : Tree) → row_at place (stored_rows t) ≡ option_map stored_row (row_at place t)
find-stored place [] = refl
find-stored place (e ∷ es) =
    elim (eq_by_cmp place_cmp place e.0) as (λ b. cond b (Some (stored_row e.1)) (row_at place (stored_rows es)) ≡ option_map stored_row (cond b (Some e.1) (row_at place es))) [
      | true ↦ refl
      | false ↦ find-stored place es
    ]

stored-extents : (o : Option Row) → extents_in (option_map stored_row o) ≡ extents_in o
stored-extents None = refl
stored-extents (Some tree_row.Dir) = refl
stored-extents (Some (tree_row.File f)) = refl

stored-has : (t : Tree) (f : Option Place) (b : ℕ) → file_has (stored_rows t) f b ≡ file_has t f b
stored-has t None b = refl
stored-has t (Some place) b = ap (λ es. has_block (blocks_of es) b) (ap extents_in (find-stored place t) ∙ stored-extents (row_at place t))

both-stored : (t u : Tree) → HasSameBlocks t u → HasSameBlocks (stored_rows t) (stored_rows u)
both-stored t u same = record {
  named = λ b. ap (λ xs. has_block xs b) (stored-named u) ∙ same.named b ∙ sym (ap (λ xs. has_block xs b) (stored-named t));
  has = λ f b. stored-has u f b ∙ same.has f b ∙ sym (stored-has t f b);
}

-- ---- what was entered

-- The entry came, over pages that read as before; the records build what they did, or the rows as they are stored.
pub record HasEntered {D : Type 0} (w : DiskWords D) (f : Fixed D) (recorded next : Built) (back new : Ledger D) (p : OpenPages) (e : Entry) (z : Sizes) : Type 0 where
  pub either : (next ≡ recorded) ⊎ (next ≡ (book_in new).rows)
  pub entries : new.books.history ≡ back.books.history ++ e ∷ []
  pub machine : machine_in new ≡ counted (effect in_lengths (machine_in back) z e.agent e.op) e.agent
  pub tree : tree_in new ≡ tree_by (machine_in back) (tree_in back) e.agent e.op z None
  pub books : AreBooks w f next (book_in new) new.journal
  pub tied : AreTied w f new p
  pub fresh : new.books.commits.count ≡ 0 → next ≡ (book_in new).rows
  pub alike : w.tells → AllReadAlike p.base (w.content back.journal.disk) (w.content new.journal.disk) p.swap p.swap
  pub order : IsInOrder (tree_in back)
  pub order_now : IsInOrder (tree_in new)

-- The laws that it needs.
pub record SavingLaws {D : Type 0} (w : DiskWords D) : Type 0 where
  pub laid : RowsInHandAreLaid w
  pub blocks : BlocksGoOn
  pub trees : TreesKeepBlocks
  pub leave : CallsLeaveOtherRows
  pub changes : CallsChangeTheirRow

-- A row that is not there has no page.
none-some : (b : ℕ) → ◌≡◌ {A = Option ℕ} None (Some b) → ⊥
none-some b is = cc

no-page : (swap : Rows) (k n i b : ℕ) → row_of k n swap ≡ None → HasPage swap k n i b → ⊥
no-page swap k n i b gone has = none-some b (sym (ap (λ x. (slice_index_or (unwrap_or x no_row).pages i blank).block) gone) ∙ has)

no-more : (p q : Rows) (agent at : ℕ) → OthersStay agent at p q → row_of agent at q ≡ None → (k n i b : ℕ) → HasPage q k n i b → HasPage p k n i b
no-more p q agent at others gone k n i b has = elim (other-or agent at k n) [
  | inl apart ↦ sym (ap (λ x. (slice_index_or (unwrap_or x no_row).pages i blank).block) (others k n apart)) ∙ has
  | inr is ↦
      absurd
      (no-page q agent at i b gone
      (subst (λ (x : ℕ). HasPage q agent x i b) is.1 (subst (λ (x : ℕ). HasPage q x n i b) is.0 has)))
]

-- The pages with the row taken out.
pub record HasDropped (p q : OpenPages) (agent at : ℕ) : Type 0 where
  pub others : OthersStay agent at p.swap q.swap
  pub gone : row_of agent at q.swap ≡ None
  pub base : q.base ≡ p.base
  pub space : q.space ≡ p.space
  pub kept : kept_count q.swap ≤ kept_count p.swap

-- The blocks are right over rows that are recorded, which have the blocks of these.
record IsRecordedAs (m : Machine) (t : Tree) (swap : Rows) (space : SpaceSeen) (next : Tree) : Type 0 where
  rows : Tree
  spaced : AreSpaced m (shelf rows t swap) space
  same : HasSameBlocks rows next

-- A close of a handle is the close of its row.
closed-by : (changes : CallsChangeTheirRow) (s : State Text Own) (e : Entry) (x : HandleRow) → IsDone s e.agent e.reply → saves_handle e.op ≡ true → ends_row e.op ≡ true → own_of (agent_of s e.agent) (row_named e.op) ≡ Some (own.Handle x)
    → own_of (agent_of (after_reply s e.agent e.op e.reply) e.agent) (row_named e.op) ≡ Some own.ClosedHandle
closed-by changes s e x done saves last at = by-op e.op saves last at
  where
    by-op : (o : Op) → saves_handle o ≡ true → ends_row o ≡ true → own_of (agent_of s e.agent) (row_named o) ≡ Some (own.Handle x)
        → own_of (agent_of (after_reply s e.agent o e.reply) e.agent) (row_named o) ≡ Some own.ClosedHandle
    by-op (op.SyncClose n) saves last at = changes.sync_closed s e.agent e.reply n x done at
    by-op (op.SyncFlush n) saves last at = absurd cc
    by-op o saves last at = absurd cc

flushed-by : (changes : CallsChangeTheirRow) (s : State Text Own) (e : Entry) (x : HandleRow) → IsDone s e.agent e.reply → saves_handle e.op ≡ true → ends_row e.op ≡ false → own_of (agent_of s e.agent) (row_named e.op) ≡ Some (own.Handle x)
    → own_of (agent_of (after_reply s e.agent e.op e.reply) e.agent) (row_named e.op) ≡ Some (own.Handle (record x { reserve = 0 }))
flushed-by changes s e x done saves last at = by-op e.op saves last at
  where
    by-op : (o : Op) → saves_handle o ≡ true → ends_row o ≡ false → own_of (agent_of s e.agent) (row_named o) ≡ Some (own.Handle x)
        → own_of (agent_of (after_reply s e.agent o e.reply) e.agent) (row_named o) ≡ Some (own.Handle (record x { reserve = 0 }))
    by-op (op.SyncFlush n) saves last at = changes.flushed s e.agent e.reply n x done at
    by-op (op.SyncClose n) saves last at = absurd cc
    by-op o saves last at = absurd cc

module _ {D : Type 0} (w : DiskWords D) (laws : SavingLaws w) (f : Fixed D) (recorded next : Built) (back new : Ledger D) (p : OpenPages) (e : Entry) (z : Sizes) (x : HandleRow)
    (held : AreHeldWhole w f recorded back p) (live : IsTrue (agent_of (state_after f.opening back.books.history) e.agent).live) (saves : saves_handle e.op ≡ true) (done : is_refusal e.reply ≡ false)
    (at : own_of (agent_of (state_after f.opening back.books.history) e.agent) (row_named e.op) ≡ Some (own.Handle x)) (came : HasEntered w f recorded next back new p e z) where
  abbrev pub base : State Text Own
  base = state_after f.opening back.books.history

  abbrev pub after : State Text Own
  after = after_reply base e.agent e.op e.reply

  abbrev row : ℕ
  row = row_named e.op

  is-done : IsDone base e.agent e.reply
  is-done = record { live = live; done = done }

  pub state-is : state_after f.opening new.books.history ≡ after
  state-is = ap (λ (es : List Entry). state_after f.opening es) came.entries ∙ entered f.opening back.books.history e base refl (plain e.op saves)

  pub machine-is : machine_in new ≡ in_lengths_of after
  machine-is = came.books.machine ∙ ap in_lengths_of state-is

  in_hand : HasInHand base e row
  in_hand = record { plain = plain e.op saves; live = live; in_hand = in-hand base e.agent e.op saves }

  others-open : OthersStayOpen (machine_in back) (machine_in new) e.agent row
  others-open =
      subst (λ (n : ℕ). OthersStayOpen (machine_in back) (machine_in new) e.agent n) (in-hand base e.agent e.op saves)
      (subst (λ (m : Machine). OthersStayOpen m (machine_in new) e.agent (row_in_hand base e.agent e.op)) (sym held.books.machine)
      (subst (λ (m : Machine). OthersStayOpen (in_lengths_of base) m e.agent (row_in_hand base e.agent e.op)) (sym machine-is)
      (laws.leave.called base e.agent e.op e.reply live)))

  limits : (machine_in new).limits ≡ (machine_in back).limits
  limits = ap (λ (m : Machine). m.limits) came.machine ∙ limits-stay (machine_in back) z e.agent e.op saves

  trees-same : HasSameBlocks (tree_in back) (tree_in new)
  trees-same =
      subst (λ (t : Tree). HasSameBlocks (tree_in back) t) (sym came.tree)
      (laws.trees.same (tree_in back) _ came.order (subst IsInOrder came.tree came.order_now) (λ g b. saved-has laws.trees (machine_in back) (tree_in back) e.agent e.op z saves g b))

  -- ---- blocks

  recorded-now : IsRecordedAs (machine_in back) (tree_in back) p.swap p.space next.rows
  recorded-now = elim came.either [
    | inl is ↦ record { rows = recorded.rows; spaced = held.laid.spaced; same = subst (λ (b : Built). HasSameBlocks recorded.rows b.rows) (sym is) (same-blocks recorded.rows) }
    | inr is ↦ record {
      rows = stored_rows (tree_in back);
      spaced = spaced-recorded laws.blocks (machine_in back) recorded.rows (tree_in back) p.swap p.space held.laid.spaced;
      same = subst (λ (b : Built). HasSameBlocks (stored_rows (tree_in back)) b.rows) (sym is) (both-stored (tree_in back) (tree_in new) trees-same);
    }
  ]

  -- ---- a close

  module _ (q : OpenPages) (dropped : HasDropped p q e.agent row) (last : ends_row e.op ≡ true) where
    closed-after : own_of (agent_of after e.agent) row ≡ Some own.ClosedHandle
    closed-after = closed-by laws.changes base e x is-done saves last at

    shut : open_at (in_lengths_of after) e.agent row ≡ None
    shut = open-is after e.agent row ∙ ap (λ (o : Option Own). if_open (option_map outline_of o)) closed-after

    spaced-closed : AreSpaced (machine_in new) (shelf next.rows (tree_in new) q.swap) p.space
    spaced-closed =
        laws.blocks.dropped (machine_in back) (machine_in new) (shelf recorded-now.rows (tree_in back) p.swap) (shelf next.rows (tree_in new) q.swap) p.space e.agent row recorded-now.spaced
        others-open limits (record { recorded = recorded-now.same; tree = trees-same })
        (no-more p.swap q.swap e.agent row dropped.others dropped.gone) (λ i b has. no-page q.swap e.agent row i b dropped.gone has)

    laid-closed : AreLaid w.tells f.opening (back.books.history ++ e ∷ []) p.base (w.content new.journal.disk) (in_lengths_of after) (shelf next.rows (tree_in new) q.swap) p.space
    laid-closed =
        laws.laid.closed_row f recorded base [] back p (w.content new.journal.disk) e row (shelf next.rows (tree_in new) q.swap) p.space held in_hand
        (ap (open_bytes after) closed-after) (ap (λ o. is_some o) shut)
        (record {
          others = dropped.others;
          read = λ t k n i apart within.
              ap (λ o. page_of (w.content new.journal.disk) p.base (slice_index_or (unwrap_or o no_row).pages i blank)) (dropped.others k n apart) ∙ came.alike t k n i within;
          gone = dropped.gone;
        })
        (subst (λ (m : Machine). AreSpaced m (shelf next.rows (tree_in new) q.swap) p.space) machine-is spaced-closed)

    pub held-closed : AreHeldWhole w f next new q
    held-closed = record {
      books = came.books;
      laid =
          subst (λ (b : ℕ). AreLaid w.tells f.opening new.books.history b (w.content new.journal.disk) (machine_in new) (shelf next.rows (tree_in new) q.swap) q.space) (sym dropped.base)
          (subst (λ (s : SpaceSeen). AreLaid w.tells f.opening new.books.history p.base (w.content new.journal.disk) (machine_in new) (shelf next.rows (tree_in new) q.swap) s) (sym dropped.space)
          (subst (λ (es : List Entry). AreLaid w.tells f.opening es p.base (w.content new.journal.disk) (machine_in new) (shelf next.rows (tree_in new) q.swap) p.space) (sym came.entries)
          (subst (λ (m : Machine). AreLaid w.tells f.opening (back.books.history ++ e ∷ []) p.base (w.content new.journal.disk) m (shelf next.rows (tree_in new) q.swap) p.space) (sym machine-is) laid-closed)));
      tied = record {
        range = came.tied.range;
        base = dropped.base ∙ came.tied.base;
        size = came.tied.size;
        freed = came.tied.freed;
        agents = came.tied.agents;
        keys = came.tied.keys;
        quota = came.tied.quota;
        few = λ none. omega (arith, dropped.kept, came.tied.few none);
      };
      fresh = came.fresh;
    }

  -- ---- a flush of a handle that keeps no blocks

  module _ (whole : AreHandlesWhole f.opening back.books.history) (last : ends_row e.op ≡ false) (idle : x.reserve ≡ 0) where
    abbrev pub bytes : Text
    bytes = bytes_at base x.file

    pub left-after : own_of (agent_of after e.agent) row ≡ Some (own.Handle x)
    left-after = flushed-by laws.changes base e x is-done saves last at ∙ ap (λ (n : ℕ). Some (own.Handle (record x { reserve = n }))) (sym idle)

    pub bytes-now : bytes_at after x.file ≡ bytes
    bytes-now = bytes-after base e.agent e.reply is-done e.op x.file saves last

    row-after : row_bytes after e.agent row ≡ Some bytes
    row-after = ap (open_bytes after) left-after ∙ ap Some bytes-now

    row-before : row_bytes base e.agent row ≡ Some bytes
    row-before = ap (open_bytes base) at

    steady : (i : ℕ) → 4096 * i < length bytes → is_steady f.opening back.books.history e.agent row i ≡ true
    steady i below = whole e.agent row x.file (ap handle_on at) i ∙ lt-ltb (4096 * i) (length bytes) below

    has-pages : HasPages w.tells p.base (w.content back.journal.disk) (w.content new.journal.disk) p.swap p.swap e.agent row bytes
    has-pages = record {
      others = λ k n apart. refl;
      read = λ t k n i apart within. came.alike t k n i within;
      here =
          held.laid.rows e.agent row
          ∙ ap (λ (m : Machine). is_some (open_at m e.agent row)) held.books.machine
          ∙ open-with-bytes base e.agent row bytes (ap (open_bytes base) at);
      there = λ i below. held.laid.there e.agent row i (steady i below);
      told = λ t i below.
          subst (λ (page : List ℕ). IsBegun bytes i page) (sym (came.alike t e.agent row i (held.laid.there e.agent row i (steady i below))))
          ((held.laid.told t).begins e.agent row i (steady i below) bytes row-before);
    }

    opened-before : open_at (machine_in back) e.agent row ≡ if_open (Some (outline_of (own.Handle x)))
    opened-before = ap (λ (m : Machine). open_at m e.agent row) held.books.machine ∙ (open-is base e.agent row ∙ ap (λ (o : Option Own). if_open (option_map outline_of o)) at)

    opened-after : open_at (machine_in new) e.agent row ≡ if_open (Some (outline_of (own.Handle x)))
    opened-after = ap (λ (m : Machine). open_at m e.agent row) machine-is ∙ (open-is after e.agent row ∙ ap (λ (o : Option Own). if_open (option_map outline_of o)) left-after)

    stays : StaysOpen (open_at (machine_in back) e.agent row) (open_at (machine_in new) e.agent row)
    stays =
        subst (λ (o : Option Outline). StaysOpen (open_at (machine_in back) e.agent row) o) (opened-before ∙ sym opened-after)
        (record { file = refl; reserve = omega arith; stream = refl })

    spaced-left : AreSpaced (machine_in new) (shelf next.rows (tree_in new) p.swap) p.space
    spaced-left =
        laws.blocks.stays (machine_in back) (machine_in new) (shelf recorded-now.rows (tree_in back) p.swap) (shelf next.rows (tree_in new) p.swap) p.space e.agent row recorded-now.spaced
        (record { others = others-open; here = stays; limits = limits }) (record { recorded = recorded-now.same; tree = trees-same }) (λ k n i b has. has)

    laid-left : AreLaid w.tells f.opening (back.books.history ++ e ∷ []) p.base (w.content new.journal.disk) (in_lengths_of after) (shelf next.rows (tree_in new) p.swap) p.space
    laid-left =
        laws.laid.open_row f recorded base [] back p (w.content new.journal.disk) e row bytes (shelf next.rows (tree_in new) p.swap) p.space held in_hand row-after has-pages
        (subst (λ (m : Machine). AreSpaced m (shelf next.rows (tree_in new) p.swap) p.space) machine-is spaced-left)

    pub held-left : AreHeldWhole w f next new p
    held-left = record {
      books = came.books;
      laid =
          subst (λ (es : List Entry). AreLaid w.tells f.opening es p.base (w.content new.journal.disk) (machine_in new) (shelf next.rows (tree_in new) p.swap) p.space) (sym came.entries)
          (subst (λ (m : Machine). AreLaid w.tells f.opening (back.books.history ++ e ∷ []) p.base (w.content new.journal.disk) m (shelf next.rows (tree_in new) p.swap) p.space) (sym machine-is) laid-left);
      tied = came.tied;
      fresh = came.fresh;
    }
