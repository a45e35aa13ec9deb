-- Once a call's pages are put and it is entered, the parts are kept.
use Rattle.std.proofs.Common.{◌≡◌, ℕ, ◌+◌, ◌*◌, ◌<◌, ◌≤◌, true, List, [], ◌∷◌, ◌++◌, fold, length, Option, Some, None, refl, sym, ap, subst, ◌∙◌, arith}
use Rattle.std.proofs.lemmas.Bool.{false≢true}
use Rattle.std.specs.Prelude.{IsTrue}
use Rattle.opfs_base.specs.Blocks.{blocks}
use Rattle.opfs_base.specs.Places.{Place}
use Rattle.opfs_base.specs.Texts.{Text}
use Rattle.opfs_books.specs.Stored.Laws.{CallsAreSpelled}
use Rattle.opfs_books.specs.Laws.Books.{Fixed}
use Rattle.opfs_books.proofs.laws.Told.{next-state, next-reply}
use Rattle.opfs_books.specs.declared.books.Books.{Books}
use Rattle.opfs_state_rows.specs.Changes.Allowed.{MayApply}
use Rattle.opfs_state_rows.specs.Changes.Asking.{made_at}
use Rattle.opfs_state_rows.specs.Changes.Changed.{tree_by, overwritten_by}
use Rattle.opfs_data.specs.declared.page.Page.{Page}
use Rattle.opfs_data.specs.Pages.{page_of}
use Rattle.opfs_data.specs.Rows.{Rows, page_at}
use Rattle.opfs_data.specs.Writes.{WriteList}
use Rattle.opfs_pages.specs.HistoryLaws.Laid.{AreLaid}
use Rattle.opfs_pages.specs.HistoryLaws.Laws.{BlocksGoOn, CallsLeaveOtherRows, TreesKeepBlocks}
use Rattle.opfs_pages.specs.HistoryLaws.Open.{open_at, reserve_in}
use Rattle.opfs_pages.specs.HistoryLaws.RowsAfter.{CallsChangeTheirRow, IsDone}
use Rattle.opfs_pages.specs.HistoryLaws.Shelves.{HasSameBlocks, KeepsOpen}
use Rattle.opfs_pages.specs.HistoryLaws.Spaced.{AreSpaced}
use Rattle.opfs_hist.specs.declared.entry.Entry.{Entry}
use Rattle.opfs_hist.specs.declared.op.Op.{Op}
use Rattle.opfs_hist.specs.declared.op.Op.TheVariants as op
use Rattle.opfs_journal.specs.Seen.{Seen}
use Rattle.opfs_laws.specs.Lengths.Kept.{Kept}
use Rattle.opfs_laws.specs.Lengths.Outlines.{in_lengths_of}
use Rattle.opfs_machine.specs.declared.own.HandleOutline.{HandleOutline}
use Rattle.opfs_machine.specs.declared.own.HandleRow.{HandleRow}
use Rattle.opfs_machine.specs.declared.own.Own.{Own}
use Rattle.opfs_machine.specs.declared.own.Own.TheVariants as own
use Rattle.opfs_machine.specs.declared.state.FileRow.{FileRow as File}
use Rattle.opfs_machine.specs.declared.state.Sizes.{Sizes}
use Rattle.opfs_machine.specs.declared.state.State.{State}
use Rattle.opfs_machine.specs.Agents.{agent_of, counted, own_of, open_handle}
use Rattle.opfs_machine.specs.Contents.{in_lengths, outline_of}
use Rattle.opfs_machine.specs.Effects.{effect}
use Rattle.opfs_machine.specs.Histories.{may_enter, state_after}
use Rattle.opfs_machine.specs.Replies.{row_named}
use Rattle.opfs_machine.specs.Rows.{file_at}
use Rattle.opfs_machine.specs.Rulings.{reserve_for}
use Rattle.opfs_machine.specs.Steps.{evicted, after_reply}
use Rattle.opfs_machine.specs.Sums.{reserve_of}
use Rattle.opfs_outside.specs.declared.disk.Disk.{Ghosts as DiskWords}
use Rattle.opfs_pages.specs.Writing.Puts.{all_writes}
use Rattle.opfs_pages.specs.declared.writing.put.Put.{Put}
use Rattle.opfs_records.specs.Replay.Built.{Built}
use Rattle.opfs_pages.specs.RowCalls.Plans.{shelf}
use Rattle.opfs_pages.specs.RowCalls.Rows.{Change, IsPutOf}
use Rattle.opfs_pages.proofs.row_calls.Placing.{put-spaced}
use Rattle.opfs_pages.proofs.row_calls.Written.{put-begins}
use Rattle.opfs_space.specs.Files.{file_has}
use Rattle.opfs_space.specs.Room.{Machine}
use Rattle.opfs_space.specs.Spaces.{SpaceSeen}
use Rattle.opfs_splice.specs.Splicing.{splice}
use Rattle.opfs_state.specs.Applied.{StateSeen}
use Rattle.opfs_laws.specs.Steady.Steady.{open_bytes, row_bytes}
use Rattle.opfs_tree.specs.declared.row.FileRow.{FileRow}
use Rattle.opfs_tree.specs.Rows.{Rows as Tree}
use Rattle.opfs_work.specs.Works.{WorkingCopy}
use Rattle.opfs_work.proofs.Laws.{length-resize}
use Rattle.opfs_desk_steps.specs.Parts.Answered.{IsAnswered}
use Rattle.opfs_desk_steps.specs.Parts.Held.{AreHeldWhole, AreTied}
use Rattle.opfs_desk_steps.specs.Parts.Seen.{machine_in, tree_in, book_in}
use Rattle.opfs_desk_steps.specs.declared.parts.parts.Ledger.{Ledger}
use Rattle.opfs_desk_steps.specs.declared.parts.parts.OpenPages.{OpenPages}
use Rattle.opfs_desk_steps.specs.declared.parts.parts.DeskParts.{DeskParts}
use Rattle.opfs_desk_steps.specs.RowLaws.InHand.{HasPages, RowsInHandAreLaid}
use Rattle.opfs_desk_steps.specs.RowLaws.Puts.{puts_row, size_put}
use Rattle.opfs_desk_steps.proofs.book_steps.Fresh.{told-fresh}
use Rattle.opfs_desk_steps.proofs.book_steps.Held.{tied-same}
use Rattle.opfs_desk_bytes.specs.Writing.Putting.{HasFound, HasWritten}
use Rattle.opfs_desk_bytes.specs.Writing.Steps.{HasEntered, HasTold}
use Rattle.opfs_desk_bytes.specs.Writing.Words.{bytes_put, change_put, place_put, position_put, text_put}
use Rattle.opfs_desk_bytes.proofs.writing.Rows.{IsNext, hand-put, keeps-open, left, reserve-enough, row-after}
use Rattle.opfs_desk_bytes.proofs.writing.Used.{page-alike}
use Rattle.opfs_desk_bytes.proofs.writing.Words.{silent}

-- ---- what is put is of the row, over pages that read as before

pub put-of-alike : (tells : Type 0) (work : WorkingCopy) (c d : List ℕ) (base : ℕ) (swap : Rows) (agent row : ℕ) (call : Change) (wl : WriteList) (before after : Text) → (tells → (page : Page) → page_of d base page ≡ page_of c base page)
    → IsPutOf tells work c base swap agent row call wl before after → IsPutOf tells work d base swap agent row call wl before after
put-of-alike tells work c d base swap agent row call wl before after read is = record {
  was = is.was;
  content = is.content;
  staged = is.staged;
  same = is.same;
  alike = λ t i. read t (page_at agent row i swap) ∙ is.alike t i;
  paged = is.paged;
  copy = is.copy;
  held = is.held;
  after_is = is.after_is;
}

-- ---- each file keeps its blocks

module _ (keep : TreesKeepBlocks) where
  overwritten-has : (t : Tree) (change : FileRow → FileRow) (o : Option HandleOutline) → ((f : FileRow) → (change f).extents ≡ f.extents) → (f : Option Place) (b : ℕ) → file_has (overwritten_by t change o) f b ≡ file_has t f b
  overwritten-has t change None same f b = refl
  overwritten-has t change (Some h) same f b = keep.changed h.file change t same f b

  has-same : (m : Machine) (t : Tree) (k : ℕ) (o : Op) (z : Sizes) → puts_row o ≡ true → (f : Option Place) (b : ℕ) → file_has (tree_by m t k o z None) f b ≡ file_has t f b
  unfolding tree_by made_at
  has-same m t k (op.Write n bytes position) z h f b = refl
  has-same m t k (op.Truncate n size) z h f b = refl
  has-same m t k (op.SyncWrite n bytes at) z h f b = overwritten-has t _ (open_handle in_lengths m k n) (λ x. refl) f b
  has-same m t k (op.SyncTruncate n size) z h f b = overwritten-has t _ (open_handle in_lengths m k n) (λ x. refl) f b
  has-same m t k o z h f b = absurd (false≢true h)

all-blocks : (t : Tree) → HasSameBlocks t t
all-blocks t = record { named = λ b. refl; has = λ f b. refl }

stays-all : (m : Machine) → KeepsOpen m m 0 0
stays-all m = record { others = λ k n apart. refl; here = record { file = refl; reserve = omega arith; stream = refl }; limits = refl }

pub text-length : (z : Sizes) (o : Op) (before : Text) → length (text_put z o before) ≡ size_put z o
text-length z o before = length-resize (splice before (place_put z o) (bytes_put o)) (size_put z o)

module _ {D : Type 0} (w : DiskWords D) (f : Fixed D) (base : State Text Own) (units : List Text) (back : Ledger D) (p : OpenPages) (e : Entry) (z : Sizes)
    (answered : IsAnswered w base units back e z) (machine : machine_in back ≡ in_lengths_of (fold evicted base units)) (puts : puts_row e.op ≡ true) (done : IsDone (fold evicted base units) e.agent e.reply)
    (may : IsTrue (may_enter (fold evicted base units) e.agent e.op)) (r : Own) (there : own_of (agent_of (fold evicted base units) e.agent) (row_named e.op) ≡ Some r)
    (before : Text) (opened : open_bytes (fold evicted base units) (Some r) ≡ Some before) (files : (h : HandleRow) → r ≡ own.Handle h → (x : File Text) × (file_at (fold evicted base units) h.file ≡ Some x))
    (put : Put) (new : DeskParts D) (entered : HasEntered w f base units (record { ledger = back; pages = p }) new (row_named e.op) put (bytes_put e.op) e z) where
  abbrev s : State Text Own
  s = fold evicted base units

  abbrev row : ℕ
  row = row_named e.op

  abbrev pub after : State Text Own
  after = after_reply s e.agent e.op e.reply

  abbrev pub text : Text
  text = text_put z e.op before

  abbrev fm : DeskParts D
  fm = entered.pages.mid

  abbrev bt : DeskParts D
  bt = entered.between

  abbrev found : HasFound w f base units (record { ledger = back; pages = p }) fm e.agent row put entered.pages.with_blocks (bytes_put e.op)
  found = entered.pages.found

  abbrev wrote : HasWritten w f found.recorded base units fm bt e.agent row entered.pages.with_blocks (bytes_put e.op)
  wrote = entered.pages.written

  abbrev told : HasTold w f found.recorded bt.ledger new.ledger e z
  told = entered.told

  abbrev recorded : Built
  recorded = found.recorded

  same-state : bt.ledger.books.state ≡ back.books.state
  same-state = ap (λ (b : Books StateSeen). b.state) wrote.same ∙ found.state

  same-history : bt.ledger.books.history ≡ back.books.history
  same-history = ap (λ (b : Books StateSeen). b.history) wrote.same ∙ found.history

  machine-found : machine_in fm.ledger ≡ in_lengths_of s
  machine-found = ap (λ (x : StateSeen). x.store.machine) found.state ∙ machine

  machine-between : machine_in bt.ledger ≡ machine_in fm.ledger
  machine-between = ap (λ (b : Books StateSeen). b.state.store.machine) wrote.same

  tree-between : tree_in bt.ledger ≡ tree_in fm.ledger
  tree-between = ap (λ (b : Books StateSeen). b.state.store.tree) wrote.same

  pub state-is : state_after f.opening new.ledger.books.history ≡ after
  state-is =
      ap (λ (es : List Entry). state_after f.opening es) told.entries
      ∙ (next-state w.tells f.opening bt.ledger.books.history base units wrote.books.told e answered.next
      ∙ next-reply w.tells f.opening bt.ledger.books.history base units wrote.books.told e answered.next)

  pub machine-is : machine_in new.ledger ≡ in_lengths_of after
  machine-is = told.books.machine ∙ ap in_lengths_of state-is

  module _ (changes : CallsChangeTheirRow) where
    abbrev pub next : IsNext after e.agent row r text (position_put z e.op) (reserve_for (reserve_of (outline_of r)) (size_put z e.op))
    next = left changes s e.agent e.reply done e.op puts may r there before opened files z answered.sizes

    bytes-after : row_bytes after e.agent row ≡ Some text
    bytes-after = row-after changes s e.agent e.reply done e.op puts may r there before opened files z answered.sizes

    enough : blocks (size_put z e.op) ≤ reserve_in (open_at (in_lengths_of after) e.agent row)
    enough = reserve-enough changes s e.agent e.reply done e.op puts may r there before opened files z answered.sizes

    keeps : CallsLeaveOtherRows → KeepsOpen (machine_in fm.ledger) (in_lengths_of after) e.agent row
    keeps leave =
        subst (λ (m : Machine). KeepsOpen m (in_lengths_of after) e.agent row) (sym machine-found)
        (keeps-open changes s e.agent e.reply done e.op puts may r there before opened files z answered.sizes leave)

    module _ (work : WorkingCopy) (of : IsPutOf w.tells work (w.content back.journal.disk) p.base p.swap e.agent row (change_put z e.op) put.writes before text)
        (behind : back.journal.areas.first + 2 * back.journal.areas.bytes ≤ p.base) (pages : put.pages ≡ blocks (size_put z e.op)) where
      of-found : IsPutOf w.tells work (w.content fm.ledger.journal.disk) fm.pages.base fm.pages.swap e.agent row (change_put z e.op) entered.pages.with_blocks.writes before text
      of-found =
          subst (λ (b : ℕ). IsPutOf w.tells work (w.content fm.ledger.journal.disk) b fm.pages.swap e.agent row (change_put z e.op) entered.pages.with_blocks.writes before text) (sym found.base_is)
          (subst (λ (x : Rows). IsPutOf w.tells work (w.content fm.ledger.journal.disk) p.base x e.agent row (change_put z e.op) entered.pages.with_blocks.writes before text) (sym found.swap)
          (subst (λ (x : WriteList). IsPutOf w.tells work (w.content fm.ledger.journal.disk) p.base p.swap e.agent row (change_put z e.op) x before text) (sym found.writes)
          (put-of-alike w.tells work (w.content back.journal.disk) (w.content fm.ledger.journal.disk) p.base p.swap e.agent row (change_put z e.op) put.writes before text
          (λ t x. page-alike p.base (w.content back.journal.disk) (w.content fm.ledger.journal.disk) back.journal.areas behind (found.leaves.outside t) x) of)))

      below-pages : (i : ℕ) → 4096 * i < length text → i < entered.pages.with_blocks.pages
      below-pages i below = let count = found.count in omega (arith, below, text-length z e.op before, count, pages)

      has-pages : HasPages w.tells fm.pages.base (w.content fm.ledger.journal.disk) (w.content bt.ledger.journal.disk) fm.pages.swap bt.pages.swap e.agent row text
      has-pages = record {
        others = wrote.put_is.others;
        read = λ t k n i apart within. wrote.put_is.read t k n apart i within;
        here = wrote.put_is.there;
        there = λ i below. let size = wrote.put_is.size in omega (arith, below-pages i below, size);
        told = λ t i below.
            put-begins w.tells work (w.content fm.ledger.journal.disk) (w.content bt.ledger.journal.disk) fm.pages.base fm.pages.swap bt.pages.swap e.agent row entered.pages.with_blocks.pages (change_put z e.op)
            entered.pages.with_blocks.writes entered.pages.with_blocks.extents.items before text t of-found (found.count ∙ pages) found.have.placed.blocks wrote.put_is i (below-pages i below);
      }

      module _ (leave : CallsLeaveOtherRows) (blocks_go : BlocksGoOn) (trees : TreesKeepBlocks) (laying : RowsInHandAreLaid w) (spells : CallsAreSpelled) where
        spaced-put : AreSpaced (in_lengths_of after) (shelf recorded.rows (tree_in fm.ledger) bt.pages.swap) fm.pages.space
        spaced-put =
            put-spaced (machine_in fm.ledger) (in_lengths_of after) recorded.rows (tree_in fm.ledger) fm.pages.swap bt.pages.swap fm.pages.space e.agent row entered.pages.with_blocks.pages
            (all_writes entered.pages.with_blocks.writes (bytes_put e.op) entered.pages.with_blocks.extents.items) found.to_put.are.laid.spaced (keeps leave) wrote.put_is.others wrote.put_is.pages_are found.have.placed.once
            (let count = found.count in omega (arith, enough, count, pages)) found.have.mine

        same-tree : HasSameBlocks (tree_in bt.ledger) (tree_in new.ledger)
        same-tree =
            trees.same (tree_in bt.ledger) (tree_in new.ledger) told.order told.order_after
            (λ g b. ap (λ (t : Tree). file_has t g b) told.tree ∙ has-same trees (machine_in bt.ledger) (tree_in bt.ledger) e.agent e.op z puts g b)

        spaced-now : AreSpaced (in_lengths_of after) (shelf recorded.rows (tree_in new.ledger) bt.pages.swap) fm.pages.space
        spaced-now =
            blocks_go.stays (in_lengths_of after) (in_lengths_of after) (shelf recorded.rows (tree_in fm.ledger) bt.pages.swap) (shelf recorded.rows (tree_in new.ledger) bt.pages.swap) fm.pages.space 0 0
            spaced-put (stays-all (in_lengths_of after))
            (record { recorded = all-blocks recorded.rows; tree = subst (λ (t : Tree). HasSameBlocks t (tree_in new.ledger)) tree-between same-tree })
            (λ k n i b has. has)

        laid : AreLaid w.tells f.opening (fm.ledger.books.history ++ e ∷ []) fm.pages.base (w.content bt.ledger.journal.disk) (in_lengths_of after) (shelf recorded.rows (tree_in new.ledger) bt.pages.swap) fm.pages.space
        laid =
            laying.open_row f recorded base units fm.ledger fm.pages (w.content bt.ledger.journal.disk) e row text (shelf recorded.rows (tree_in new.ledger) bt.pages.swap) fm.pages.space
            found.to_put.are (hand-put s e puts done.live) bytes-after has-pages spaced-now

        entries-found : new.ledger.books.history ≡ fm.ledger.books.history ++ e ∷ []
        entries-found = told.entries ∙ ap (λ (b : Books StateSeen). b.history ++ e ∷ []) wrote.same

        fresh-now : new.ledger.books.commits.count ≡ 0 → recorded ≡ (book_in new.ledger).rows
        fresh-now =
            told-fresh w f recorded base units fm.ledger new.ledger fm.pages e z None spells found.to_put.are found.to_put.lines
            (subst (λ (x : StateSeen). Kept x.store.machine) (sym found.state) answered.change.kept)
            (subst (λ (x : StateSeen). MayApply x.store.machine z e.agent e.op) (sym found.state) answered.change.may)
            (silent (machine_in fm.ledger) (tree_in fm.ledger) e.agent e.op z puts)
            (told.machine ∙ ap (λ (m : Machine). counted (effect in_lengths m z e.agent e.op) e.agent) machine-between)
            (told.tree ∙ (λ i. tree_by (machine-between i) (tree-between i) e.agent e.op z None))
            (ap (λ c. c.count) (told.commits ∙ ap (λ (b : Books StateSeen). b.commits) wrote.same))

        pub held-now : AreHeldWhole w f recorded new.ledger new.pages
        held-now = record {
          books = told.books;
          laid =
              subst (λ (q : OpenPages). AreLaid w.tells f.opening new.ledger.books.history q.base (w.content new.ledger.journal.disk) (machine_in new.ledger) (shelf recorded.rows (tree_in new.ledger) q.swap) q.space) (sym entered.same)
              (subst (λ (b : ℕ). AreLaid w.tells f.opening new.ledger.books.history b (w.content new.ledger.journal.disk) (machine_in new.ledger) (shelf recorded.rows (tree_in new.ledger) bt.pages.swap) bt.pages.space) (sym wrote.base_is)
              (subst (λ (x : SpaceSeen). AreLaid w.tells f.opening new.ledger.books.history fm.pages.base (w.content new.ledger.journal.disk) (machine_in new.ledger) (shelf recorded.rows (tree_in new.ledger) bt.pages.swap) x) (sym wrote.space)
              (subst (λ (j : Seen D). AreLaid w.tells f.opening new.ledger.books.history fm.pages.base (w.content j.disk) (machine_in new.ledger) (shelf recorded.rows (tree_in new.ledger) bt.pages.swap) fm.pages.space) (sym told.journal)
              (subst (λ (es : List Entry). AreLaid w.tells f.opening es fm.pages.base (w.content bt.ledger.journal.disk) (machine_in new.ledger) (shelf recorded.rows (tree_in new.ledger) bt.pages.swap) fm.pages.space) (sym entries-found)
              (subst (λ (m : Machine). AreLaid w.tells f.opening (fm.ledger.books.history ++ e ∷ []) fm.pages.base (w.content bt.ledger.journal.disk) m (shelf recorded.rows (tree_in new.ledger) bt.pages.swap) fm.pages.space) (sym machine-is) laid)))));
          tied = subst (λ (q : OpenPages). AreTied w f new.ledger q) (sym entered.same) (tied-same w f bt.ledger new.ledger bt.pages wrote.tied told.journal told.freed);
          fresh = fresh-now;
        }
