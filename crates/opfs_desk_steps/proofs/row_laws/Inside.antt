-- Where blocks lie.
use Rattle.std.proofs.Common.{◌≡◌, ℕ, zero, suc, ◌+◌, ◌*◌, ◌<◌, ◌≤◌, Bool, true, false, ◌||◌, nat_eq, nat_le, ◌&&◌, List, [], ◌∷◌, length, Option, Some, None, refl, sym, ap, ◌∙◌, arith}
use Rattle.std.specs.List.{AllByRecursion}
use Rattle.std.specs.Prelude.{slice_index_or}
use Rattle.std.proofs.lemmas.Bool.{and_parts, eq-eqb, leb-true}
use Rattle.opfs_base.specs.Texts.{Text}
use Rattle.opfs_blocks.specs.Sets.{AreBelow}
use Rattle.opfs_books.specs.Laws.Books.{Fixed}
use Rattle.opfs_books.specs.Laws.Commits.{StateLaws}
use Rattle.opfs_books.proofs.laws.Committing.{whole-state}
use Rattle.opfs_data.specs.declared.page.Page.{Page}
use Rattle.opfs_data.specs.Pages.{LiesIn, blank}
use Rattle.opfs_data.specs.Rows.{pages_at}
use Rattle.opfs_pages.specs.HistoryLaws.Open.{open_at, file_in, reserve_in, is_stream}
use Rattle.opfs_pages.specs.HistoryLaws.Spaced.{Shelf, AreHolders, AreSpaced}
use Rattle.opfs_image.specs.Superblock.{is_between, is_in_range}
use Rattle.opfs_image.specs.declared.geometry.Geometry.{Geometry}
use Rattle.opfs_journal.specs.declared.areas.Areas.{Areas}
use Rattle.opfs_machine.specs.declared.own.Own.{Own}
use Rattle.opfs_machine.specs.declared.state.Limits.{Limits}
use Rattle.opfs_machine.specs.declared.state.State.{State}
use Rattle.opfs_machine.specs.Histories.{state_after}
use Rattle.opfs_outside.specs.declared.disk.Disk.{Ghosts as DiskWords}
use Rattle.opfs_records.specs.Replay.Built.{Built, named, has_block}
use Rattle.opfs_space.specs.Files.{file_has}
use Rattle.opfs_space.specs.Holders.{Holders, AreBlocks, AreAllBelow}
use Rattle.opfs_space.specs.Room.{Machine}
use Rattle.opfs_space.specs.Spaces.{SpaceSeen}
use Rattle.opfs_desk_steps.specs.Parts.Held.{AreHeldWhole}
use Rattle.opfs_desk_steps.specs.Parts.Seen.{machine_in, tree_in, shelf_in}
use Rattle.opfs_desk_steps.specs.declared.parts.parts.Ledger.{Ledger}
use Rattle.opfs_desk_steps.specs.declared.parts.parts.OpenPages.{OpenPages}
use Rattle.opfs_desk_steps.specs.RowLaws.Inside.{PartsLieInside}

-- ---- who has blocks

abbrev pub holders_of : Machine → Shelf → Holders
holders_of m s = record {
  reserve = λ k n. reserve_in (open_at m k n);
  file = λ k n. file_in (open_at m k n);
  streams = λ k n. is_stream (open_at m k n);
  ground = λ b. has_block (named s.recorded) b;
  rows = λ b. has_block (named s.tree) b;
  has = λ f b. file_has s.tree f b;
  swap = s.swap;
}

pub are-holders : (m : Machine) (s : Shelf) → AreHolders m s (holders_of m s)
are-holders m s = record {
  reserve = λ k n. refl;
  file = λ k n. refl;
  streams = λ k n. refl;
  recorded = λ b. refl;
  rows = λ b. refl;
  has = λ f b. refl;
  swap = refl;
}

pub blocks-of : (m : Machine) (s : Shelf) (space : SpaceSeen) → AreSpaced m s space → AreBlocks (holders_of m s) space.used space.own
blocks-of m s space spaced = spaced.blocks (holders_of m s) (are-holders m s)

-- ---- from numbers to lists

all-below : (list : List ℕ) (size : ℕ) → ((b : ℕ) → has_block list b ≡ true → b < size) → AreBelow size list
all-below [] size each = tt
all-below (x ∷ xs) size each =
    (each x (ap (λ t. t || has_block xs x) (eq-eqb x x refl)), all-below xs size (λ b is. each b (later (nat_eq b x) (has_block xs b) is)))
  where
    later : (a t : Bool) → t ≡ true → (a || t) ≡ true
    later true t is = refl
    later false t is = is

pub lies-by : (base end : ℕ) (block : Option ℕ) → ((b : ℕ) → block ≡ Some b → base + 4096 * b + 4096 ≤ end) → LiesIn base end block
lies-by base end None each = tt
lies-by base end (Some b) each = each b refl

all-lie : (base end : ℕ) (pages : List Page) → ((i b : ℕ) → (slice_index_or pages i blank).block ≡ Some b → base + 4096 * b + 4096 ≤ end) → AllByRecursion (λ page. LiesIn base end page.block) pages
all-lie base end [] each = tt
all-lie base end (x ∷ xs) each = (lies-by base end x.block (each zero), all-lie base end xs (λ i. each (suc i)))

-- ---- sizes

abbrev pub Ranged : Geometry → Type 0
Ranged g = (g.areas ≤ 4096) × (g.blocks ≤ 65536)

ranged : (g : Geometry) → is_in_range g ≡ true → Ranged g
ranged g is =
    let all = and_parts (is_between 1 4096 g.areas && is_between 1 65536 g.blocks) (is_between 1 65536 g.quota) is in
    let two = and_parts (is_between 1 4096 g.areas) (is_between 1 65536 g.blocks) all.0 in
    (leb-true g.areas 4096 (and_parts (nat_le 1 g.areas) (nat_le g.areas 4096) two.0).1, leb-true g.blocks 65536 (and_parts (nat_le 1 g.blocks) (nat_le g.blocks 65536) two.1).1)

module _ (states : StateLaws) {D : Type 0} (w : DiskWords D) where
  -- The limits are those of the opening, as long as nothing is cleared for a call.
  pub limits-are : (f : Fixed D) (recorded : Built) (l : Ledger D) (p : OpenPages) → AreHeldWhole w f recorded l p → (machine_in l).limits ≡ f.opening.limits
  limits-are f recorded l p held =
      let there = whole-state w.tells f.opening l.books.history (state_after f.opening l.books.history) held.books.told in
      ap (λ (m : Machine). m.limits) held.books.machine
      ∙ (sym (ap (λ (s : State Text Own). s.limits) there.2) ∙ states.counts.limits f.opening there.0 there.1)

  pub size-is : (f : Fixed D) (recorded : Built) (l : Ledger D) (p : OpenPages) → AreHeldWhole w f recorded l p → length p.space.used ≡ f.geometry.blocks
  size-is f recorded l p held =
      held.laid.spaced.size ∙ ap (λ (x : Limits). x.blocks) (limits-are f recorded l p held) ∙ ap (λ (x : Limits). x.blocks) held.books.limits

  pub lie-inside : PartsLieInside w
  lie-inside f recorded l p held =
      let g = f.geometry in
      let blocks = blocks-of (machine_in l) (shelf_in recorded.rows l p) p.space held.laid.spaced in
      let size = size-is f recorded l p held in
      let range = ranged g held.tied.range in
      let below : AreAllBelow (length p.space.used) p.swap = λ k n i b has. (blocks.pages k n i b has).0 in
      let base = held.tied.base in
      let end : p.base + 4096 * length p.space.used ≤ w.size l.journal.disk = omega (arith, held.tied.size, base, size) in
      record {
        part = record {
          behind = omega (arith, base, ap (λ (a : Areas). a.first) held.books.areas, ap (λ (a : Areas). a.bytes) held.books.areas);
          small = omega (arith, base, range);
        };
        pages = below;
        files = all-below (named (tree_in l)) (length p.space.used) (λ b is. (blocks.grounded b (blocks.inside b is)).0);
        end = end;
        few = omega (arith, size, range);
        lies = λ agent row. all-lie p.base (w.size l.journal.disk) (pages_at agent row p.swap) (λ i b is. omega (arith, below agent row i b is, end));
      }
