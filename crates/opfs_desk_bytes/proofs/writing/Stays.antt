-- Units that are cleared leave each file that is there still, and its blocks.
use Rattle.std.proofs.Common.{◌≡◌, ℕ, Bool, true, false, not, cond, List, [], ◌∷◌, fold, length, is_some, option_map, Option, Some, None, refl, sym, ap, subst, ◌∙◌, inl, inr}
use Rattle.std.proofs.lemmas.Bool.{cases_Bool, false≢true}
use Rattle.std.specs.FinMap.Entries.{find, find-where_key}
use Rattle.opfs_base.specs.Places.{Place, place_cmp, is_within}
use Rattle.opfs_base.specs.Texts.{Text}
use Rattle.opfs_blocks.specs.Sets.{blocks_of}
use Rattle.opfs_data.specs.Rows.{Rows}
use Rattle.opfs_laws.proofs.Spots.{exact_places, row-without}
use Rattle.opfs_laws.specs.Lengths.Kept.{Kept}
use Rattle.opfs_laws.specs.Lengths.Outlines.{in_lengths_of}
use Rattle.opfs_laws.proofs.lengths.Readers.{agent-on, own-on, file-on}
use Rattle.opfs_locks.specs.declared.Want.TheVariants as want
use Rattle.opfs_machine.specs.declared.own.HandleRow.{HandleRow}
use Rattle.opfs_machine.specs.declared.own.Outline.{Outline}
use Rattle.opfs_machine.specs.declared.own.Outline.TheVariants as outline
use Rattle.opfs_machine.specs.declared.own.Own.{Own}
use Rattle.opfs_machine.specs.declared.own.Own.TheVariants as own
use Rattle.opfs_machine.specs.declared.state.FileRow.{FileRow as File}
use Rattle.opfs_machine.specs.declared.state.Row.{Row as Line}
use Rattle.opfs_machine.specs.declared.state.State.{State}
use Rattle.opfs_machine.specs.Agents.{agent_of, own_of}
use Rattle.opfs_machine.specs.Contents.{outline_of}
use Rattle.opfs_machine.specs.Rows.{file_of, file_at, row_at as line_at}
use Rattle.opfs_machine.specs.Rulings.{want_of}
use Rattle.opfs_machine.specs.Steps.{evicted}
use Rattle.opfs_records.specs.Replay.Built.{named, has_block}
use Rattle.opfs_pages.specs.RowCalls.Plans.{shelf, KnowsOwn}
use Rattle.opfs_space.specs.Files.{file_has, extents_in}
use Rattle.opfs_space.specs.Holders.{HasPage, AreBlocks}
use Rattle.opfs_space.specs.Room.{Machine}
use Rattle.opfs_space.specs.Spaces.{SpaceSeen}
use Rattle.opfs_space.proofs.FileBlocks.{has_named}
use Rattle.opfs_state_rows.specs.Standing.Seen.{lines_of}
use Rattle.opfs_state_rows.proofs.standing.Lines.{there-at}
use Rattle.opfs_tree.specs.declared.row.Row.{Row}
use Rattle.opfs_tree.specs.Rows.{Rows as Tree, row_at, without}
use Rattle.opfs_pages.specs.HistoryLaws.Open.{if_open, open_at, file_in}
use Rattle.opfs_pages.specs.HistoryLaws.Spaced.{AreSpaced}
use Rattle.opfs_pages.proofs.history_laws.Holding.{holders_of, are-holders, spaced-blocks}
use Rattle.opfs_desk_steps.specs.BookSteps.Clearing.{cleared_from}
use Rattle.opfs_desk_steps.proofs.row_laws.Opens.{file-back}

-- ---- rows of trees, and of machines

row-kept : (b : Bool) (o : Option Row) (x : Row) → cond (not b) o None ≡ Some x → o ≡ Some x
row-kept true o x is = absurd cc
row-kept false o x is = is

tree-without : (t : Tree) (p q : Place) → row_at q (without p t) ≡ cond (not (is_within p q)) (row_at q t) None
tree-without t p q = find-where_key place_cmp (λ x. not (is_within p x)) q (λ x e. ap (λ y. not (is_within p y)) (sym (exact_places q x e))) t

tree-before : (units : List Text) (t : Tree) (q : Place) (x : Row) → row_at q (fold cleared_from t units) ≡ Some x → row_at q t ≡ Some x
tree-before [] t q x is = is
tree-before (u ∷ us) t q x is = row-kept (is_within (u, []) q) (row_at q t) x (sym (tree-without t (u, []) q) ∙ tree-before us (without (u, []) t) q x is)

file-kept : (b : Bool) (o : Option (Line Text)) (x : File Text) → file_of (cond (not b) o None) ≡ Some x → file_of o ≡ Some x
file-kept true o x is = absurd cc
file-kept false o x is = is

pub file-before : (units : List Text) (s : State Text Own) (q : Place) (x : File Text) → file_at (fold evicted s units) q ≡ Some x → file_at s q ≡ Some x
file-before [] s q x is = is
file-before (u ∷ us) s q x is = file-kept (is_within (u, []) q) (line_at s q) x (sym (ap file_of (row-without s (u, []) q)) ∙ file-before us (evicted s u) q x is)

-- ---- the file of an open row

pub handle-file : (s : State Text Own) → Kept (in_lengths_of s) → (k n : ℕ) (r : Own) → own_of (agent_of s k) n ≡ Some r → (h : HandleRow) → r ≡ own.Handle h → (f : File Text) × (file_at s h.file ≡ Some f)
handle-file s kept k n r there h is =
    let outlined : own_of (agent_of (in_lengths_of s) k) n ≡ Some (outline_of (own.Handle h)) =
    ap (λ a. own_of a n) (agent-on length outline_of s k) ∙ own-on outline_of (agent_of s k) n ∙ ap (option_map outline_of) (there ∙ ap Some is) in
    let held = kept.files k n (outline_of (own.Handle h)) h.file (want_of h.mode) outlined refl in
    let back = file-back (file_at s h.file) held.0 (sym (file-on length outline_of s h.file) ∙ held.1) in
    (back.0, back.1)

one-place : (a b : Place) → ◌≡◌ {A = Option Place} (Some a) (Some b) → a ≡ b
one-place a b is = cc

no-place : (q : Place) → ◌≡◌ {A = Option Place} None (Some q) → ⊥
no-place q is = cc

file-held : (m : Machine) → Kept m → (k n : ℕ) (q : Place) (o : Option Outline) → own_of (agent_of m k) n ≡ o → file_in (if_open o) ≡ Some q → (f : File ℕ) × (file_at m q ≡ Some f)
file-held m kept k n q None there is = absurd (no-place q is)
file-held m kept k n q (Some (outline.Stream w)) there is = kept.files k n (outline.Stream w) q want.Shared there (ap (λ (p : Place). Some (p, want.Shared)) (one-place w.file q is))
file-held m kept k n q (Some (outline.Handle h)) there is = kept.files k n (outline.Handle h) q (want_of h.mode) there (ap (λ (p : Place). Some (p, want_of h.mode)) (one-place h.file q is))
file-held m kept k n q (Some r) there is = absurd (no-place q is)

some-file : (o : Option (Line ℕ)) (f : File ℕ) → file_of o ≡ Some f → is_some o ≡ true
some-file None f is = absurd cc
some-file (Some x) f is = refl

some-row : (o : Option Row) → is_some o ≡ true → (x : Row) × (o ≡ Some x)
some-row None is = absurd (false≢true is)
some-row (Some x) is = (x, refl)

tree-row : (m : Machine) (t : Tree) → lines_of t ≡ m.rows → (q : Place) (f : File ℕ) → file_at m q ≡ Some f → (x : Row) × (row_at q t ≡ Some x)
tree-row m t lines q f is =
    some-row (row_at q t)
    (sym (there-at q t) ∙ ap (λ ls. is_some (find place_cmp q ls)) lines ∙ some-file (line_at m q) f is)

-- ---- what is known exactly is known still

module _ (m n : Machine) (recorded later tree : Tree) (units : List Text) (swap : Rows) (space : SpaceSeen) (agent row : ℕ) (spaced : AreSpaced m (shelf recorded tree swap) space)
    (open_same : open_at n agent row ≡ open_at m agent row) (kept : Kept n) (lines : lines_of (fold cleared_from tree units) ≡ n.rows) where
  abbrev t : Tree
  t = fold cleared_from tree units

  blocks : AreBlocks (holders_of m (shelf recorded tree swap)) space.used space.own
  blocks = spaced-blocks m (shelf recorded tree swap) space spaced

  named-still : (f : Option Place) (b : ℕ) → file_in (open_at n agent row) ≡ f → file_has tree f b ≡ true → has_block (named t) b ≡ true
  named-still None b is has = absurd (false≢true has)
  named-still (Some q) b is has =
      let held = file-held n kept agent row q _ refl is in
      let now = tree-row n t lines q held.0 held.1 in
      let same : row_at q t ≡ row_at q tree = now.1 ∙ sym (tree-before units tree q now.0 now.1) in
      has_named t (Some q) b (ap (λ (o : Option Row). has_block (blocks_of (extents_in o)) b) same ∙ has)

  pub knows-after : KnowsOwn m (shelf [] tree swap) space.own agent row → KnowsOwn n (shelf later t swap) space.own agent row
  knows-after known h is i b has none alone =
      let page : HasPage swap agent row i b = subst (λ (x : Rows). HasPage x agent row i b) is.swap has in
      elim (cases_Bool (has_block (named tree) b)) [
        | inl in_tree ↦
            absurd (false≢true
            (sym none ∙ is.rows b
            ∙ named-still (file_in (open_at m agent row)) b (ap file_in open_same) (blocks.of_file agent row i b page (blocks.inside b in_tree))))
        | inr not_in ↦
            known (holders_of m (shelf [] tree swap)) (are-holders m (shelf [] tree swap)) i b page not_in
            (λ l x j apart there. alone l x j apart (subst (λ (r : Rows). HasPage r l x j b) (sym is.swap) there))
      ]
