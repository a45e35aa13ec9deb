-- Blocks for a put: where it has them, and where what is kept back is committed for them.
use Rattle.std.specs.Vec.{vec_capacity}
use Rattle.std.proofs.Common.{◌≡◌, ℕ, ◌+◌, ◌*◌, ◌^◌, ◌<◌, ◌≤◌, ◌||◌, nat_eq, Bool, true, false, List, [], ◌∷◌, length, refl, sym, ap, subst, ◌∙◌, arith}
use Rattle.std.proofs.lemmas.Bool.{eq-eqb}
use Rattle.opfs_base.specs.Texts.{Text}
use Rattle.opfs_base.specs.declared.extents.Extent.{Extent}
use Rattle.opfs_blocks.specs.Sets.{AreBelow, Used}
use Rattle.opfs_books.specs.Laws.Books.{Fixed}
use Rattle.opfs_books.specs.Laws.Laws.{BooksShowTheirImages, LeavesPages}
use Rattle.opfs_data.specs.declared.page.Page.{Page}
use Rattle.opfs_data.specs.Pages.{IsDataPart, page_of}
use Rattle.opfs_data.specs.Rows.{Rows}
use Rattle.opfs_data.specs.Writes.{HasBytes, WriteList, page_moves}
use Rattle.opfs_pages.specs.HistoryLaws.Spaced.{AreSpaced}
use Rattle.opfs_pages.proofs.history_laws.Holding.{holders_of, are-holders, spaced-blocks}
use Rattle.opfs_desk_steps.specs.RowLaws.Puts.{TreesNameStoredBlocks}
use Rattle.opfs_image.specs.Superblock.{areas_of}
use Rattle.opfs_journal.specs.declared.areas.Areas.{Areas}
use Rattle.opfs_machine.specs.declared.own.Own.{Own}
use Rattle.opfs_machine.specs.declared.state.State.{State}
use Rattle.opfs_outside.specs.declared.disk.Disk.{Ghosts as DiskWords}
use Rattle.opfs_pages.specs.Writing.Puts.{IsReady}
use Rattle.opfs_pages.specs.declared.writing.put.Put.{Put}
use Rattle.opfs_records.specs.Replay.Built.{Built, named, has_block}
use Rattle.opfs_pages.specs.RowCalls.Finding.{MayFindBlocks}
use Rattle.opfs_pages.specs.RowCalls.Plans.{shelf, AreGotten, HaveBlocks, KnowsOwn, WaitForBlocks}
use Rattle.opfs_space.specs.Holders.{AreAllBelow, AreBlocks, HasPage}
use Rattle.opfs_space.specs.Room.{Machine}
use Rattle.opfs_space.specs.Spaces.{SpaceSeen}
use Rattle.opfs_state_rows.specs.Standing.Seen.{lines_of}
use Rattle.opfs_state.specs.Applied.{StateSeen}
use Rattle.opfs_tree.specs.Rows.{Rows as Tree}
use Rattle.opfs_desk_steps.specs.Parts.Held.{AreHeldAt}
use Rattle.opfs_desk_steps.specs.Parts.Seen.{machine_in, tree_in, book_in}
use Rattle.opfs_desk_steps.specs.declared.parts.parts.Ledger.{Ledger}
use Rattle.opfs_desk_steps.specs.declared.parts.parts.DeskParts.{DeskParts}
use Rattle.opfs_desk_steps.proofs.book_steps.Evictions.{stored-named}
use Rattle.opfs_desk_steps.proofs.book_steps.Held.{behind}
use Rattle.opfs_desk_bytes.specs.Writing.Putting.{IsToPut, IsUsed, AreGottenIn, HasFound, HasRoomFor}
use Rattle.opfs_desk_steps.proofs.book_steps.Leaves.{leaves-here}
use Rattle.opfs_desk_bytes.proofs.writing.Used.{used-here, page-alike, ready-alike}

-- ---- where blocks lie

all-below : (list : List ℕ) (size : ℕ) → ((b : ℕ) → has_block list b ≡ true → b < size) → AreBelow size list
all-below [] size each = tt
all-below (x ∷ xs) size each =
    (each x (ap (λ t. t || has_block xs x) (eq-eqb x x refl)), all-below xs size (λ b is. each b (later (nat_eq b x) (has_block xs b) is)))
  where
    later : (a t : Bool) → t ≡ true → (a || t) ≡ true
    later true t is = refl
    later false t is = is

-- What is known exactly of pages is known whatever the machine and the records are.
pub knows-same : (m t : Machine) (recorded other tree : Tree) (swap : Rows) (own : Used) (agent row : ℕ) → KnowsOwn m (shelf recorded tree swap) own agent row → KnowsOwn t (shelf other tree swap) own agent row
knows-same m t recorded other tree swap own agent row known h is i b has none alone =
    known (holders_of m (shelf recorded tree swap)) (are-holders m (shelf recorded tree swap)) i b
    (subst (λ (x : Rows). HasPage x agent row i b) is.swap has)
    (sym (is.rows b) ∙ none)
    (λ l n j apart there. alone l n j apart (subst (λ (x : Rows). HasPage x l n j b) (sym is.swap) there))

waits-same : (m t : Machine) (recorded other tree : Tree) (swap : Rows) (space : SpaceSeen) (agent row pages : ℕ) (w : WriteList) (given : List ℕ) (extents : List Extent)
    → WaitForBlocks m (shelf recorded tree swap) space agent row pages w given extents → WaitForBlocks t (shelf other tree swap) space agent row pages w given extents
waits-same m t recorded other tree swap space agent row pages w given extents is =
    record { none = is.none; planned = is.planned; exact = knows-same m t recorded other tree swap space.own agent row is.exact }

-- So are blocks, or the wait for them, whatever the machine and the records are.
pub gotten-same : (taken : Bool) (m t : Machine) (recorded other tree : Tree) (swap : Rows) (space : SpaceSeen) (base end agent row pages : ℕ) (w : WriteList) (given : List ℕ) (extents : List Extent)
    → AreGotten taken m (shelf recorded tree swap) space base end agent row pages w given extents → AreGotten taken t (shelf other tree swap) space base end agent row pages w given extents
gotten-same true m t recorded other tree swap space base end agent row pages w given extents is = is
gotten-same false m t recorded other tree swap space base end agent row pages w given extents is = waits-same m t recorded other tree swap space agent row pages w given extents is

module _ {D : Type 0} (w : DiskWords D) (f : Fixed D) (recorded : Built) (base : State Text Own) (gone : List Text) (p : DeskParts D) (agent row : ℕ) (put : Put) (given : List ℕ) (to : IsToPut w f recorded base gone p agent row put given) where
  abbrev l : Ledger D
  l = p.ledger

  abbrev blocks : AreBlocks (holders_of (machine_in l) (shelf recorded.rows (tree_in l) p.pages.swap)) p.pages.space.used p.pages.space.own
  blocks = spaced-blocks (machine_in l) (shelf recorded.rows (tree_in l) p.pages.swap) p.pages.space to.are.laid.spaced

  pub files-below : AreBelow (length p.pages.space.used) (named (tree_in l))
  files-below = all-below (named (tree_in l)) (length p.pages.space.used) (λ b is. (blocks.grounded b (blocks.inside b is)).0)

  pub pages-below : AreAllBelow (length p.pages.space.used) p.pages.swap
  pages-below k n i b has = (blocks.pages k n i b has).0

  areas-first : l.journal.areas.first ≡ (areas_of f.geometry).first
  areas-first = ap (λ (a : Areas). a.first) to.are.books.areas

  areas-bytes : l.journal.areas.bytes ≡ (areas_of f.geometry).bytes
  areas-bytes = ap (λ (a : Areas). a.bytes) to.are.books.areas

  pub behind-areas : l.journal.areas.first + 2 * l.journal.areas.bytes ≤ p.pages.base
  behind-areas = omega (arith, areas-first, areas-bytes, to.are.tied.base, behind w f f.geometry)

  pub data-part : IsDataPart l.journal.areas p.pages.base
  data-part = record { behind = behind-areas; small = to.lies.start }

  -- It has its blocks already.
  pub found-at-once : BooksShowTheirImages w → put.taken ≡ true → AreGottenIn w recorded p agent row put given → HasFound w f base gone p p agent row put put given
  found-at-once shows taken gotten = record {
    recorded = recorded;
    to_put = to;
    have =
        subst (λ (t : Bool). AreGotten t (machine_in l) (shelf recorded.rows (tree_in l) p.pages.swap) p.pages.space p.pages.base (w.size l.journal.disk) agent row put.pages put.writes given put.extents.items) taken gotten;
    history = refl;
    state = refl;
    swap = refl;
    base_is = refl;
    writes = refl;
    count = refl;
    leaves = leaves-here w l.journal;
    used = used-here w f shows recorded base gone l to.are.books to.settled;
  }

  waits : put.taken ≡ false → AreGottenIn w recorded p agent row put given → WaitForBlocks (machine_in l) (shelf recorded.rows (tree_in l) p.pages.swap) p.pages.space agent row put.pages put.writes given put.extents.items
  waits taken gotten =
      subst (λ (t : Bool). AreGotten t (machine_in l) (shelf recorded.rows (tree_in l) p.pages.swap) p.pages.space p.pages.base (w.size l.journal.disk) agent row put.pages put.writes given put.extents.items) taken gotten

  -- What was kept back is committed.
  module _ (next : Ledger D) (history : next.books.history ≡ l.books.history) (state : next.books.state ≡ l.books.state) (leaves : LeavesPages w l.journal next.journal)
      (are : AreHeldAt w f (book_in next).rows base gone next p.pages) (taken : put.taken ≡ false) (gotten : AreGottenIn w recorded p agent row put given) where
    machine-same : machine_in next ≡ machine_in l
    machine-same = ap (λ (s : StateSeen). s.store.machine) state

    tree-same : tree_in next ≡ tree_in l
    tree-same = ap (λ (s : StateSeen). s.store.tree) state

    lines-next : lines_of (tree_in next) ≡ (machine_in next).rows
    lines-next = subst (λ (s : StateSeen). lines_of s.store.tree ≡ s.store.machine.rows) (sym state) to.lines

    settled-next : (b : ℕ) → has_block (named (book_in next).rows.rows) b ≡ true → has_block (named (tree_in next)) b ≡ true
    settled-next b has = ap (λ (xs : List ℕ). has_block xs b) (sym (stored-named (tree_in next))) ∙ has

    waits-next : WaitForBlocks (machine_in next) (shelf (book_in next).rows.rows (tree_in next) p.pages.swap) p.pages.space agent row put.pages put.writes given put.extents.items
    waits-next =
        subst (λ (t : Tree). WaitForBlocks (machine_in next) (shelf (book_in next).rows.rows t p.pages.swap) p.pages.space agent row put.pages put.writes given put.extents.items) (sym tree-same)
        (waits-same (machine_in l) (machine_in next) recorded.rows (book_in next).rows.rows (tree_in l) p.pages.swap p.pages.space agent row put.pages put.writes given put.extents.items (waits taken gotten))

    room-next : HasRoomFor (machine_in next) agent row put.pages
    room-next = subst (λ (m : Machine). HasRoomFor m agent row put.pages) (sym machine-same) to.room

    pub may-find : TreesNameStoredBlocks → MayFindBlocks (tree_in next) p.pages.swap p.pages.space agent row put
    may-find names = record {
      machine = machine_in next;
      recorded = (book_in next).rows.rows;
      given = given;
      reserve = room-next.reserve;
      need = room-next.need;
      files = subst (λ (t : Tree). AreBelow (length p.pages.space.used) (named t)) (sym tree-same) files-below;
      pages = pages-below;
      spaced = are.laid.spaced;
      settled = settled-next;
      waits = waits-next;
      room = room-next.room;
      within = room-next.within;
      blocks = names (machine_in next) (tree_in next) f.geometry.blocks lines-next are.books.stored.sound;
      count = to.ready.count given;
      runs = to.ready.extents;
    }

    -- And the blocks are found.
    module _ (after : Put) (space : SpaceSeen) (writes : after.writes ≡ put.writes) (moves : after.moves ≡ put.moves) (count : after.pages ≡ put.pages) (capacity : vec_capacity put.extents ≤ vec_capacity after.extents)
        (sure : next.journal.in_doubt ≡ false) (used : IsUsed w f l next)
        (spaced : (m : Machine) (other : Tree) → ((b : ℕ) → has_block (named other) b ≡ true → has_block (named (tree_in next)) b ≡ true) → AreSpaced m (shelf other (tree_in next) p.pages.swap) p.pages.space
        → AreSpaced m (shelf other (tree_in next) p.pages.swap) space)
        (blocks_are : (m : Machine) (other : Tree) (bytes : List ℕ) (start end : ℕ) → ((b : ℕ) → has_block (named other) b ≡ true → has_block (named (tree_in next)) b ≡ true) → AreSpaced m (shelf other (tree_in next) p.pages.swap) p.pages.space
        → length (page_moves put.writes bytes) ≡ put.moves → WaitForBlocks m (shelf other (tree_in next) p.pages.swap) p.pages.space agent row put.pages put.writes bytes put.extents.items
        → start + 4096 * length p.pages.space.used ≤ end → length p.pages.space.used ≤ 2 ^ 32 → HaveBlocks start end p.pages.swap space agent row after.pages after.writes bytes after.extents.items) where
      abbrev new : DeskParts D
      new = record { ledger = next; pages = record { swap = p.pages.swap; space = space; base = p.pages.base } }

      spaced-next : AreSpaced (machine_in next) (shelf (book_in next).rows.rows (tree_in next) p.pages.swap) space
      spaced-next = spaced (machine_in next) (book_in next).rows.rows settled-next are.laid.spaced

      same-size : length space.used ≡ length p.pages.space.used
      same-size = spaced-next.size ∙ sym are.laid.spaced.size

      disk-size : w.size next.journal.disk ≡ w.size l.journal.disk
      disk-size = leaves.stays.length

      held-next : AreHeldAt w f (book_in next).rows base gone next new.pages
      held-next = record {
        books = are.books;
        laid = record { rows = are.laid.rows; there = are.laid.there; told = are.laid.told; spaced = spaced-next };
        tied = record {
          range = are.tied.range;
          base = are.tied.base;
          size = are.tied.size;
          freed = are.tied.freed;
          agents = are.tied.agents;
          keys = are.tied.keys;
          quota = are.tied.quota;
          few = are.tied.few;
        };
        fresh = are.fresh;
      }

      read-alike : w.tells → (page : Page) → page_of (w.content next.journal.disk) p.pages.base page ≡ page_of (w.content l.journal.disk) p.pages.base page
      read-alike t page = page-alike p.pages.base (w.content l.journal.disk) (w.content next.journal.disk) l.journal.areas behind-areas (leaves.outside t) page

      ready-next : IsReady w.tells (w.content next.journal.disk) p.pages.base p.pages.swap agent row after.pages after.writes after.moves (vec_capacity after.extents)
      ready-next =
          subst (λ (n : ℕ). IsReady w.tells (w.content next.journal.disk) p.pages.base p.pages.swap agent row n after.writes after.moves (vec_capacity after.extents)) (sym count)
          (subst (λ (x : WriteList). IsReady w.tells (w.content next.journal.disk) p.pages.base p.pages.swap agent row put.pages x after.moves (vec_capacity after.extents)) (sym writes)
          (subst (λ (n : ℕ). IsReady w.tells (w.content next.journal.disk) p.pages.base p.pages.swap agent row put.pages put.writes n (vec_capacity after.extents)) (sym moves)
          (ready-alike w.tells p.pages.base (w.content l.journal.disk) (w.content next.journal.disk) p.pages.swap agent row put.pages put.writes put.moves (vec_capacity put.extents) (vec_capacity after.extents) read-alike capacity to.ready)))

      pub found-then : HasFound w f base gone p new agent row put after given
      found-then = record {
        recorded = (book_in next).rows;
        to_put = record {
          are = held-next;
          settled = sure;
          lies = record { start = to.lies.start; end = let old = to.lies.end in omega (arith, old, disk-size, same-size); few = let old = to.lies.few in omega (arith, old, same-size) };
          lines = lines-next;
          ready = ready-next;
          bytes = subst (λ (x : WriteList). HasBytes x given) (sym writes) to.bytes;
          room = subst (λ (n : ℕ). HasRoomFor (machine_in next) agent row n) (sym count) room-next;
        };
        have =
            blocks_are (machine_in next) (book_in next).rows.rows given p.pages.base (w.size next.journal.disk) settled-next are.laid.spaced (to.ready.count given) waits-next
            (let old = to.lies.end in omega (arith, old, disk-size)) to.lies.few;
        history = history;
        state = state;
        swap = refl;
        base_is = refl;
        writes = writes;
        count = count;
        leaves = leaves;
        used = used;
      }
