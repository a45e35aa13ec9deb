-- A row's content may be stored once its pages were put.
use Rattle.std.proofs.Common.{◌≡◌, ℕ, ◌<◌, List, [], ◌∷◌, ◌++◌, length, true, Some, None, refl, sym, subst, ◌∙◌}
use Rattle.opfs_base.specs.Blocks.{blocks}
use Rattle.opfs_base.specs.Places.{Place}
use Rattle.opfs_base.specs.Texts.{Text}
use Rattle.opfs_base.specs.declared.extents.Extent.{Extent}
use Rattle.opfs_books.specs.Laws.Books.{Fixed, IsPlaced}
use Rattle.opfs_books.specs.Laws.Commits.{StateLaws}
use Rattle.opfs_books.specs.Stored.Spelled.{bytes_stored}
use Rattle.opfs_books.specs.Laws.Laws.{BooksKeepTheState, ShowsTold, told}
use Rattle.opfs_state_rows.specs.Changes.Allowed.{MayApply, IsSized}
use Rattle.opfs_codec.specs.declared.change.Change.TheVariants.{Content}
use Rattle.opfs_commit.specs.Making.{told_as}
use Rattle.opfs_hist.specs.declared.entry.Entry.{Entry}
use Rattle.opfs_hist.specs.declared.op.Op.{Op}
use Rattle.opfs_hist.specs.declared.op.Op.TheVariants as op
use Rattle.opfs_machine.specs.Histories.{evicted_by}
use Rattle.opfs_laws.specs.Lengths.Kept.{Kept}
use Rattle.opfs_machine.specs.Agents.{agent_of}
use Rattle.opfs_register.specs.Slots.{most_rows}
use Rattle.opfs_machine.specs.declared.own.Own.{Own}
use Rattle.opfs_machine.specs.declared.state.Sizes.{Sizes}
use Rattle.opfs_machine.specs.declared.state.State.{State}
use Rattle.opfs_machine.specs.Changes.{Change}
use Rattle.opfs_outside.specs.declared.disk.Disk.{Ghosts as DiskWords}
use Rattle.opfs_records.specs.Replay.Built.{Built}
use Rattle.opfs_pages.specs.RowCalls.Rows.{ArePlain}
use Rattle.opfs_state.specs.Applied.{StateSeen, IsPrepared}
use Rattle.opfs_tree.specs.Rows.{IsInOrder, file_at as file_in_tree}
use Rattle.opfs_tree.specs.declared.row.FileRow.{FileRow}
use Rattle.opfs_state.specs.Verdicts.Callers.{IsAgent}
use Rattle.opfs_desk_entries.specs.KeptBack.Changing.{HasNotChanged}
use Rattle.opfs_pages.specs.HistoryLaws.Open.{open_at, file_in}
use Rattle.opfs_desk_steps.specs.Parts.Answered.{IsAnswered, MayChange}
use Rattle.opfs_desk_steps.specs.Parts.Held.{AreHeldAt, AreHeldWhole}
use Rattle.opfs_desk_steps.specs.Parts.Seen.{book_in, machine_in, tree_in}
use Rattle.opfs_desk_steps.specs.declared.parts.parts.Ledger.{Ledger}
use Rattle.opfs_desk_steps.specs.declared.parts.parts.OpenPages.{OpenPages}
use Rattle.opfs_desk_contents.specs.Putting.{KeepsEnough}
use Rattle.opfs_desk_contents.specs.Rows.{StoresFile}
use Rattle.opfs_desk_contents.specs.Storing.{AreRunsOf, MayStoreContent}
use Rattle.opfs_desk_contents.specs.Words.{is_storing, size_stored, stamp_stored}
use Rattle.opfs_desk_contents.proofs.Stowed.{can-be-held, few-pages, runs-extents, spelled-runs, written-there}

-- ---- over a ledger whose shared state and history stayed

pub change-on : {D : Type 0} (l new : Ledger D) (e : Entry) (z : Sizes) → new.books.state ≡ l.books.state → new.books.history ≡ l.books.history → MayChange l e z → MayChange new e z
change-on l new e z state entries is = record {
  agent = subst (λ (s : StateSeen). IsAgent s.store.machine e.agent) (sym state) is.agent;
  kept = subst (λ (s : StateSeen). Kept s.store.machine) (sym state) is.kept;
  may = subst (λ (s : StateSeen). MayApply s.store.machine z e.agent e.op) (sym state) is.may;
  sized = subst (λ (s : StateSeen). IsSized s.store.machine z e.agent e.op) (sym state) is.sized;
  prepared = subst (λ (s : StateSeen). IsPrepared s e.agent e.op) (sym state) is.prepared;
  few = subst (λ (s : StateSeen). length (agent_of s.store.machine e.agent).own < most_rows) (sym state) is.few;
  placed = subst (λ (es : List Entry). IsPlaced es e.agent) (sym entries) is.placed;
}

pub answered-on : {D : Type 0} (w : DiskWords D) (base : State Text Own) (l new : Ledger D) (e : Entry) (z : Sizes) → new.books.state ≡ l.books.state → new.books.history ≡ l.books.history → IsAnswered w base [] l e z → IsAnswered w base [] new e z
answered-on w base l new e z state entries is = record { next = is.next; turn = is.turn; sizes = is.sizes; change = change-on l new e z state entries is.change }

pub file-on : {D : Type 0} (l new : Ledger D) (e : Entry) (place : Place) (reserve : ℕ) → new.books.state ≡ l.books.state → StoresFile (machine_in l) e.agent e.op place reserve → StoresFile (machine_in new) e.agent e.op place reserve
file-on l new e place reserve state is = subst (λ (s : StateSeen). StoresFile s.store.machine e.agent e.op place reserve) (sym state) is

-- ---- how it is told

pub told-alike : (b : Text) (place : Place) (stamp n m : ℕ) (xs ys : List Extent) → told_as b (Content place.0 place.1 stamp n xs) ≡ told_as b (Content place.0 place.1 stamp m ys)
unfolding told_as
told-alike b place stamp n m xs ys = refl

pub not-alike : {D : Type 0} (w : DiskWords D) (f : Fixed D) (recorded : Built) (base : State Text Own) (l new : Ledger D) (p : OpenPages) (e : Entry) (place : Place) (stamp n m : ℕ) (xs ys : List Extent)
    → HasNotChanged w f recorded base [] l new p e (Content place.0 place.1 stamp n xs) → HasNotChanged w f recorded base [] l new p e (Content place.0 place.1 stamp m ys)
not-alike w f recorded base l new p e place stamp n m xs ys is = record {
  entries = is.entries;
  idle = is.idle;
  are = is.are;
  rose = is.rose;
  shown = record {
    later = is.shown.later;
    time = is.shown.time;
    shown = subst (λ (change : Change). ShowsTold w f (book_in l) (told f (book_in l) ++ change ∷ []) l.journal new.journal)
        (told-alike (bytes_stored base e.agent e.op) place stamp n m xs ys) is.shown.shown;
  };
}

-- ---- it may be stored

module _ {D : Type 0} (w : DiskWords D) (states : StateLaws) (keeps : BooksKeepTheState w) (f : Fixed D) (recorded : Built) (base : State Text Own) (back : Ledger D) (q : OpenPages) (are : AreHeldAt w f recorded base [] back q) (whole : AreHeldWhole w f recorded back q)
    (e : Entry) (z : Sizes) (agent row : ℕ) (place : Place) (reserve : ℕ) (stores : StoresFile (machine_in back) e.agent e.op place reserve) (opened : file_in (open_at (machine_in back) agent row) ≡ Some place) (order : IsInOrder (tree_in back))
    (file : FileRow) (there : file_in_tree place (tree_in back) ≡ Some file) (answered : IsAnswered w base [] back e z) (pages : ℕ) (enough : KeepsEnough back agent row pages) (runs copy : List Extent) (same : copy ≡ runs) (runs_are : AreRunsOf q.swap agent row pages runs) (plain : ArePlain q.swap agent row pages)
    (size : ℕ) (many : pages ≡ blocks size) (size_is : size ≡ size_stored z e.op file) where
  pub may-store-content : MayStoreContent w back e z place size runs (Some copy)
  may-store-content =
      let stamp = stamp_stored (machine_in back) e.agent e.op file in
      record {
        answer = record { fixed = f; recorded = recorded; base = base; gone = []; pages = q; are = are; answered = answered };
        row = file;
        there = there;
        spelled =
            spelled-runs (machine_in back) (tree_in back) e.agent e.op z place reserve file (Some copy) stores there
            ∙ (λ i. Some (Content place.0 place.1 stamp (sym size_is i) (same i)));
        written = written-there place (tree_in back) file whole.books.stored.writable.0 there;
        runs_are = runs-extents w states f recorded back q whole agent row place opened order pages runs runs_are plain (few-pages w states keeps f recorded back q whole agent row pages enough);
        holds = can-be-held w states f recorded back q whole agent row place opened order pages runs runs_are plain stamp size many;
      }

pub no-eviction : (o : Op) → is_storing o ≡ true → evicted_by o ≡ None
no-eviction (op.Evict unit) h = cc
no-eviction o h = refl
