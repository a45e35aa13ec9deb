-- Blocks for pages that wait for them, and what is held then.
use Rattle.std.proofs.Common.{◌≡◌, ℕ, ◌≤◌, Bool, true, false, List, [], length, Some, refl, sym, ap, subst, ◌∙◌, arith}
use Rattle.std.proofs.lemmas.Bool.{false≢true}
use Rattle.opfs_base.specs.declared.extents.Extent.{Extent}
use Rattle.opfs_books.specs.Laws.Books.{Fixed}
use Rattle.opfs_books.specs.Laws.Laws.{BooksKeepTheState}
use Rattle.opfs_data.specs.Rows.{Rows}
use Rattle.opfs_data.specs.Writes.{WriteList, page_moves}
use Rattle.opfs_pages.specs.HistoryLaws.Open.{open_at, file_in, is_stream, reserve_in}
use Rattle.opfs_pages.specs.HistoryLaws.Spaced.{AreSpaced}
use Rattle.opfs_desk_steps.specs.Parts.Acted.{AreCleared, IsWayNow}
use Rattle.opfs_desk_steps.specs.Parts.Held.{AreHeldAt, AreHeldWhole}
use Rattle.opfs_desk_steps.specs.Parts.Seen.{machine_in, tree_in, book_in}
use Rattle.opfs_desk_steps.specs.declared.parts.parts.Ledger.{Ledger}
use Rattle.opfs_desk_steps.specs.declared.parts.parts.OpenPages.{OpenPages}
use Rattle.opfs_desk_steps.specs.RowLaws.Puts.{TreesNameStoredBlocks}
use Rattle.opfs_desk_steps.proofs.book_steps.Evictions.{stored-named}
use Rattle.opfs_laws.specs.Lengths.Kept.{Kept}
use Rattle.opfs_machine.specs.Agents.{agent_of, own_of}
use Rattle.opfs_machine.specs.Histories.{state_after}
use Rattle.opfs_machine.specs.Sums.{reserve_of}
use Rattle.opfs_outside.specs.declared.disk.Disk.{Ghosts as DiskWords}
use Rattle.opfs_pages.specs.declared.writing.put.Put.{Put}
use Rattle.opfs_records.specs.Replay.Built.{Built, has_block, named}
use Rattle.opfs_pages.specs.RowCalls.Finding.{MayFindBlocks}
use Rattle.opfs_pages.specs.RowCalls.Plans.{shelf, AreGotten, KnowsOwn, WaitForBlocks}
use Rattle.opfs_records.specs.Checkpoint.Written.{stored_rows}
use Rattle.opfs_space.specs.Room.{Machine}
use Rattle.opfs_space.specs.Spaces.{SpaceSeen}
use Rattle.opfs_state_rows.specs.Standing.Seen.{lines_of}
use Rattle.opfs_state.specs.Applied.{StateSeen}
use Rattle.opfs_tree.specs.Rows.{Rows as Tree}
use Rattle.opfs_blocks.specs.Sets.{AreBelow, Used}
use Rattle.opfs_space.specs.Holders.{AreAllBelow}
use Rattle.std.specs.Vec.{vec_capacity}
use Rattle.opfs_desk_contents.specs.Putting.{KeepsEnough}

-- What is known of a row's own blocks does not depend on the machine, nor on what is recorded.
knows-any : (m n : Machine) (a b t : Tree) (swap : Rows) (own : Used) (agent row : ℕ) → KnowsOwn m (shelf a t swap) own agent row → KnowsOwn n (shelf b t swap) own agent row
knows-any m n a b t swap own agent row known h are =
    known (record {
      reserve = λ k i. reserve_in (open_at m k i);
      file = λ k i. file_in (open_at m k i);
      streams = λ k i. is_stream (open_at m k i);
      ground = λ x. has_block (named a) x;
      rows = h.rows;
      has = h.has;
      swap = h.swap;
    })
    (record { reserve = λ k i. refl; file = λ k i. refl; streams = λ k i. refl; recorded = λ x. refl; rows = are.rows; has = are.has; swap = are.swap })

pub waits-any : (m n : Machine) (a b t : Tree) (swap : Rows) (space : SpaceSeen) (agent row pages : ℕ) (w : WriteList) (given : List ℕ) (extents : List Extent) → WaitForBlocks m (shelf a t swap) space agent row pages w given extents
    → WaitForBlocks n (shelf b t swap) space agent row pages w given extents
waits-any m n a b t swap space agent row pages w given extents is = record { none = is.none; planned = is.planned; exact = knows-any m n a b t swap space.own agent row is.exact }

pub gotten-any : (taken : Bool) (m n : Machine) (a b t : Tree) (swap : Rows) (space : SpaceSeen) (base end agent row pages : ℕ) (w : WriteList) (given : List ℕ) (extents : List Extent) → AreGotten taken m (shelf a t swap) space base end agent row pages w given extents
    → AreGotten taken n (shelf b t swap) space base end agent row pages w given extents
gotten-any true m n a b t swap space base end agent row pages w given extents is = is
gotten-any false m n a b t swap space base end agent row pages w given extents is = waits-any m n a b t swap space agent row pages w given extents is

gotten-waits : (taken : Bool) (m n : Machine) (a b t : Tree) (swap : Rows) (space : SpaceSeen) (base end agent row pages : ℕ) (w : WriteList) (given : List ℕ) (extents : List Extent) → taken ≡ false → AreGotten taken m (shelf a t swap) space base end agent row pages w given extents
    → WaitForBlocks n (shelf b t swap) space agent row pages w given extents
gotten-waits true m n a b t swap space base end agent row pages w given extents none is = absurd (false≢true (sym none))
gotten-waits false m n a b t swap space base end agent row pages w given extents none is = waits-any m n a b t swap space agent row pages w given extents is

-- The same over a shared state that stayed.
pub waits-now : (s t : StateSeen) (recorded : Tree) (swap : Rows) (space : SpaceSeen) (base end agent row : ℕ) (put : Put) → t ≡ s → put.taken ≡ false
    → AreGotten put.taken s.store.machine (shelf recorded s.store.tree swap) space base end agent row put.pages put.writes [] put.extents.items
    → WaitForBlocks t.store.machine (shelf (stored_rows t.store.tree) t.store.tree swap) space agent row put.pages put.writes [] put.extents.items
waits-now s t recorded swap space base end agent row put same none is =
    subst (λ (x : StateSeen). WaitForBlocks x.store.machine (shelf (stored_rows x.store.tree) x.store.tree swap) space agent row put.pages put.writes [] put.extents.items) (sym same)
    (gotten-waits put.taken s.store.machine s.store.machine recorded (stored_rows s.store.tree) s.store.tree swap space base end agent row put.pages put.writes [] put.extents.items none is)

pub enough-now : {D : Type 0} (l new : Ledger D) (agent row pages : ℕ) → new.books.state ≡ l.books.state → KeepsEnough l agent row pages → KeepsEnough new agent row pages
enough-now l new agent row pages same is =
    record { own = is.own; there = subst (λ (s : StateSeen). own_of (agent_of s.store.machine agent) row ≡ Some is.own) (sym same) is.there; within = is.within }

-- What rows as they are stored name is what they name.
pub settled-rows : (t : Tree) (b : ℕ) → has_block (named (stored_rows t)) b ≡ true → has_block (named t) b ≡ true
settled-rows t b has = ap (λ (xs : List ℕ). has_block xs b) (sym (stored-named t)) ∙ has

module _ {D : Type 0} (w : DiskWords D) (f : Fixed D) (new : Ledger D) (p : OpenPages) (are : AreHeldWhole w f (book_in new).rows new p) where
  -- Nothing is kept back any more, so there is room.
  pub may-find : BooksKeepTheState w → TreesNameStoredBlocks → (machine_in new).rows ≡ lines_of (tree_in new) → (agent row : ℕ) (put : Put) → KeepsEnough new agent row put.pages → length (page_moves put.writes []) ≡ put.moves
      → WaitForBlocks (machine_in new) (shelf (stored_rows (tree_in new)) (tree_in new) p.swap) p.space agent row put.pages put.writes [] put.extents.items
      → AreBelow (length p.space.used) (named (tree_in new)) → AreAllBelow (length p.space.used) p.swap → put.moves ≤ vec_capacity put.extents → MayFindBlocks (tree_in new) p.swap p.space agent row put
  may-find states trees lines agent row put enough count waits files pages runs =
      let kept : Kept (machine_in new) = states.kept f (book_in new).rows (state_after f.opening new.books.history) (book_in new) new.journal are.books in
      record {
        machine = machine_in new;
        recorded = stored_rows (tree_in new);
        given = [];
        reserve = reserve_of enough.own;
        need = 0;
        files = files;
        pages = pages;
        spaced = are.laid.spaced;
        settled = λ b has. settled-rows (tree_in new) b has;
        waits = waits;
        room = record { own = enough.own; there = enough.there; within = kept.pool; fits = refl; grows = omega arith; needed = omega arith };
        within = enough.within;
        blocks = trees (machine_in new) (tree_in new) f.geometry.blocks (sym lines) are.books.stored.sound;
        count = count;
        runs = runs;
      }

  -- The space is right for who has which block.
  pub spaced-held : (space : SpaceSeen) → AreSpaced (machine_in new) (shelf (stored_rows (tree_in new)) (tree_in new) p.swap) space → AreHeldWhole w f (book_in new).rows new (record { swap = p.swap; space = space; base = p.base })
  spaced-held space spaced = record {
    books = are.books;
    laid = record { rows = are.laid.rows; there = are.laid.there; told = are.laid.told; spaced = spaced };
    tied = record { range = are.tied.range; base = are.tied.base; size = are.tied.size; freed = are.tied.freed; agents = are.tied.agents; keys = are.tied.keys; quota = are.tied.quota; few = are.tied.few };
    fresh = are.fresh;
  }

-- After a step that used the journal, over a history that stays.
pub then-cleared : {D : Type 0} (w : DiskWords D) (f : Fixed D) (recorded : Built) (l new : Ledger D) (q : OpenPages) → new.books.history ≡ l.books.history → AreHeldWhole w f recorded new q → IsWayNow w f l new → AreCleared w f [] l new q
then-cleared w f recorded l new q entries are way = record { recorded = recorded; are = subst (λ es. AreHeldAt w f recorded (state_after f.opening es) [] new q) entries are; way = way }
