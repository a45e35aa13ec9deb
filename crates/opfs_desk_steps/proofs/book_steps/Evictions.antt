-- Blocks where a unit is evicted, and where what is kept back is recorded: the files of open rows stay.
use Rattle.std.proofs.Common.{◌≡◌, ℕ, Bool, true, false, cond, not, List, [], ◌∷◌, ◌++◌, Option, Some, None, refl, sym, ap, subst, ◌∙◌}
use Rattle.std.specs.FinMap.Entries.{is_sorted-where_key}
use Rattle.std.specs.Prelude.{T}
use Rattle.std.proofs.lemmas.Bool.{false≢true}
use Rattle.opfs_base.specs.Places.{Place, place_cmp, is_within}
use Rattle.opfs_base.specs.Texts.{Text}
use Rattle.opfs_blocks.specs.Sets.{blocks_of}
use Rattle.opfs_pages.specs.HistoryLaws.Laws.{BlocksGoOn}
use Rattle.opfs_pages.specs.HistoryLaws.Open.{if_open, open_at, file_in}
use Rattle.opfs_pages.specs.HistoryLaws.Spaced.{AreSpaced}
use Rattle.opfs_pages.specs.HistoryLaws.Storing.{HasFewerFiles}
use Rattle.opfs_pages.proofs.history_laws.Holding.{spaced-blocks}
use Rattle.opfs_laws.proofs.Spots.{row-without}
use Rattle.opfs_laws.specs.Lengths.Kept.{Kept}
use Rattle.opfs_machine.specs.declared.own.Outline.{Outline}
use Rattle.opfs_machine.specs.declared.own.Outline.TheVariants as outline
use Rattle.opfs_machine.specs.declared.state.FileRow.{FileRow as File}
use Rattle.opfs_machine.specs.Agents.{agent_of, own_of}
use Rattle.opfs_machine.specs.Rows.{file_of}
use Rattle.opfs_machine.specs.Rows.{file_at as machine_file, row_at as machine_row}
use Rattle.opfs_machine.specs.Steps.{evicted}
use Rattle.opfs_records.specs.Replay.Built.{named, all_extents, has_block}
use Rattle.opfs_pages.specs.RowCalls.Plans.{shelf}
use Rattle.opfs_records.specs.Checkpoint.Written.{stored_row, stored_rows}
use Rattle.opfs_space.specs.Files.{file_has}
use Rattle.opfs_space.specs.Room.{Machine}
use Rattle.opfs_space.specs.Spaces.{SpaceSeen}
use Rattle.opfs_space.proofs.FileBlocks.{has_named, named_has, less_has, stays_has}
use Rattle.opfs_tree.specs.Rows.{Rows as Tree, IsInOrder, extents_of, without}
use Rattle.opfs_tree.specs.declared.row.Row.{Row}
use Rattle.opfs_tree.specs.declared.row.Row.TheVariants as row
use Rattle.opfs_data.specs.Rows.{Rows}

-- ---- rows as they are stored name the same blocks

stored-extents : (r : Row) → extents_of (stored_row r) ≡ extents_of r
stored-extents row.Dir = refl
stored-extents (row.File f) = refl

stored-all : (t : Tree) → all_extents (stored_rows t) ≡ all_extents t
stored-all [] = refl
stored-all (e ∷ es) = λ i. stored-extents e.1 i ++ stored-all es i

pub stored-named : (t : Tree) → named (stored_rows t) ≡ named t
stored-named t = ap blocks_of (stored-all t)

-- ---- what the rows name is recorded

tell : (b : Bool) → T b → b ≡ true
tell true h = refl
tell false h = absurd h

told : (b : Bool) → b ≡ true → T b
told true h = tt
told false h = absurd (false≢true h)

pub order-less : (p : Place) (t : Tree) → IsInOrder t → IsInOrder (without p t)
order-less p t h = tell _ (is_sorted-where_key place_cmp (λ x. not (is_within p x)) t (told _ h))

pub recorded-has : (m : Machine) (recorded t : Tree) (swap : Rows) (space : SpaceSeen) (b : ℕ) → AreSpaced m (shelf recorded t swap) space → has_block (named t) b ≡ true → has_block (named recorded) b ≡ true
recorded-has m recorded t swap space b spaced has = (spaced-blocks m (shelf recorded t swap) space spaced).inside b has

named-less : (p : Place) (t : Tree) (b : ℕ) → IsInOrder t → has_block (named (without p t)) b ≡ true → has_block (named t) b ≡ true
named-less p t b order has =
    let found = named_has (without p t) b (order-less p t order) has in
    has_named t found.0 b (less_has t p found.0 b found.1)

-- ---- the files of open rows

module _ (m : Machine) (unit : Text) (kept : Kept (evicted m unit)) where
  gone-none : (q : Place) → is_within (unit, []) q ≡ true → machine_file (evicted m unit) q ≡ None
  gone-none q within = ap file_of (row-without m (unit, []) q ∙ ap (λ b. cond (not b) (machine_row m q) None) within)

  not-within : (q : Place) (f : File ℕ) → machine_file (evicted m unit) q ≡ Some f → (b : Bool) → is_within (unit, []) q ≡ b → b ≡ false
  not-within q f there true within = absurd (impossible (sym (gone-none q within) ∙ there))
    where
      impossible : None ≡ Some f → ⊥
      impossible e = cc
  not-within q f there false within = refl

  apart-by : (k n : ℕ) (q : Place) (o : Option Outline) → own_of (agent_of m k) n ≡ o → file_in (if_open o) ≡ Some q → is_within (unit, []) q ≡ false
  apart-by k n q None own is = absurd cc
  apart-by k n q (Some (outline.Stream w)) own is =
      let there = kept.files k n (outline.Stream w) w.file _ own refl in
      subst (λ (x : Place). is_within (unit, []) x ≡ false) (same is) (not-within w.file there.0 there.1 (is_within (unit, []) w.file) refl)
    where
      same : Some w.file ≡ Some q → w.file ≡ q
      same e = cc
  apart-by k n q (Some (outline.Handle h)) own is =
      let there = kept.files k n (outline.Handle h) h.file _ own refl in
      subst (λ (x : Place). is_within (unit, []) x ≡ false) (same is) (not-within h.file there.0 there.1 (is_within (unit, []) h.file) refl)
    where
      same : Some h.file ≡ Some q → h.file ≡ q
      same e = cc
  apart-by k n q (Some r) own is = absurd cc

  pub open-apart : (k n : ℕ) (q : Place) → file_in (open_at m k n) ≡ Some q → is_within (unit, []) q ≡ false
  open-apart k n q is = apart-by k n q (own_of (agent_of m k) n) refl is

  module _ (blocks : BlocksGoOn) (recorded t : Tree) (swap : Rows) (space : SpaceSeen) (order : IsInOrder t) (spaced : AreSpaced m (shelf recorded t swap) space) where
    stays-by : (k n b : ℕ) (f : Option Place) → file_in (open_at m k n) ≡ f → file_has t f b ≡ true → file_has (without (unit, []) t) f b ≡ true
    stays-by k n b None is has = absurd (false≢true has)
    stays-by k n b (Some q) is has = stays_has t (unit, []) q b (open-apart k n q is) has

    fewer : HasFewerFiles m (evicted m unit) (shelf recorded t swap) (shelf (stored_rows (without (unit, []) t)) (without (unit, []) t) swap)
    fewer = record {
      open_rows = λ k n. refl;
      limits = refl;
      recorded = λ b has. recorded-has m recorded t swap space b spaced (named-less (unit, []) t b order (ap (λ (xs : List ℕ). has_block xs b) (sym (stored-named (without (unit, []) t))) ∙ has));
      rows = λ b has. named-less (unit, []) t b order has;
      inside = λ b has. ap (λ (xs : List ℕ). has_block xs b) (stored-named (without (unit, []) t)) ∙ has;
      has = λ f b has. less_has t (unit, []) f b has;
      stays = λ k n b has. stays-by k n b (file_in (open_at m k n)) refl has;
      pages = λ k n i b has. has;
    }

    pub spaced-evicted : AreSpaced (evicted m unit) (shelf (stored_rows (without (unit, []) t)) (without (unit, []) t) swap) space
    spaced-evicted = blocks.fewer m (evicted m unit) (shelf recorded t swap) (shelf (stored_rows (without (unit, []) t)) (without (unit, []) t) swap) space fewer spaced

-- ---- what is kept back is recorded

module _ (blocks : BlocksGoOn) (m : Machine) (recorded t : Tree) (swap : Rows) (space : SpaceSeen) (spaced : AreSpaced m (shelf recorded t swap) space) where
  same-files : HasFewerFiles m m (shelf recorded t swap) (shelf (stored_rows t) t swap)
  same-files = record {
    open_rows = λ k n. refl;
    limits = refl;
    recorded = λ b has. recorded-has m recorded t swap space b spaced (ap (λ (xs : List ℕ). has_block xs b) (sym (stored-named t)) ∙ has);
    rows = λ b has. has;
    inside = λ b has. ap (λ (xs : List ℕ). has_block xs b) (stored-named t) ∙ has;
    has = λ f b has. has;
    stays = λ k n b has. has;
    pages = λ k n i b has. has;
  }

  pub spaced-recorded : AreSpaced m (shelf (stored_rows t) t swap) space
  spaced-recorded = blocks.fewer m m (shelf recorded t swap) (shelf (stored_rows t) t swap) space same-files spaced
