-- What the call changes beside its row: its file has the blocks of the content, and no other file has others.
use Rattle.std.proofs.Common.{◌≡◌, ℕ, Bool, true, false, cond, if◌then◌else◌, List, [], ◌∷◌, Option, Some, None, refl, sym, ap, subst, ◌∙◌, inl, inr}
use Rattle.std.specs.Ordering.{is_eq}
use Rattle.opfs_base.specs.Places.{Place, place_cmp}
use Rattle.opfs_base.specs.declared.extents.Extent.{Extent}
use Rattle.opfs_blocks.specs.Sets.{blocks_of}
use Rattle.opfs_state_rows.specs.Changes.Changed.{changed_by, closed_by, ended_by, flushed_by, flushed_in, freed_in, handle_frees, replaced_at, stream_frees, tree_by}
use Rattle.opfs_state_rows.specs.Changes.Changed.{extents_in as row_extents}
use Rattle.opfs_pages.specs.HistoryLaws.Laws.{TreesKeepBlocks}
use Rattle.opfs_hist.specs.declared.op.Mode.{Mode}
use Rattle.opfs_hist.specs.declared.op.Mode.TheVariants as mode
use Rattle.opfs_hist.specs.declared.op.Op.{Op}
use Rattle.opfs_hist.specs.declared.op.Op.TheVariants as op
use Rattle.opfs_machine.specs.declared.own.HandleOutline.{HandleOutline}
use Rattle.opfs_machine.specs.declared.own.Outline.{Outline}
use Rattle.opfs_machine.specs.declared.own.StreamOutline.{StreamOutline}
use Rattle.opfs_machine.specs.declared.state.FileRow.{FileRow as File}
use Rattle.opfs_machine.specs.declared.state.Sizes.{Sizes}
use Rattle.opfs_machine.specs.Agents.{agent_of, open_handle, open_stream, own_of, with_own}
use Rattle.opfs_machine.specs.Contents.{in_lengths}
use Rattle.opfs_machine.specs.Effects.{closes_handle, closes_stream, effect, flushed, flushes, moment_of, with_changed, with_written}
use Rattle.opfs_machine.specs.Rulings.{is_read_write}
use Rattle.opfs_records.specs.Replay.Built.{has_block}
use Rattle.opfs_space.specs.Files.{extents_in, file_has, IsChangedAt}
use Rattle.opfs_space.specs.Room.{Machine}
use Rattle.opfs_space.proofs.FileBlocks.{content_changed}
use Rattle.opfs_tree.specs.Rows.{Rows as Tree, change_at, changed_row, file_at as file_in_tree, file_of, row_at, stored, unlocked}
use Rattle.opfs_tree.specs.declared.row.FileRow.{FileRow}
use Rattle.opfs_tree.specs.declared.row.Row.{Row}
use Rattle.opfs_tree.specs.declared.row.Row.TheVariants as row
use Rattle.opfs_desk_contents.specs.Rows.{IsStreamOf, IsWriterOf, StoresFile}
use Rattle.opfs_desk_contents.specs.Words.{is_storing}

-- ---- changes that leave a file alike extents leave who has which block alike

alike-row : (change other : FileRow → FileRow) → ((f : FileRow) → (change f).extents ≡ (other f).extents) → (r : Row) → extents_in (Some (changed_row change r)) ≡ extents_in (Some (changed_row other r))
alike-row change other same row.Dir = refl
alike-row change other same (row.File f) = same f

module _ (place : Place) (change other : FileRow → FileRow) (same : (f : FileRow) → (change f).extents ≡ (other f).extents) (q : Place) where
  alike-at : (t : Tree) → extents_in (row_at q (change_at place change t)) ≡ extents_in (row_at q (change_at place other t))
  alike-at [] = refl
  alike-at (e ∷ es) =
      elim (is_eq (place_cmp place e.0)) as (λ b. extents_in (row_at q (elim b as (λ x. Tree) [ true ↦ (e.0, changed_row change e.1) ∷ es | false ↦ e ∷ change_at place change es ]))
      ≡ extents_in (row_at q (elim b as (λ x. Tree) [ true ↦ (e.0, changed_row other e.1) ∷ es | false ↦ e ∷ change_at place other es ]))) [
        | true ↦
            elim (is_eq (place_cmp q e.0)) as (λ b. extents_in (cond b (Some (changed_row change e.1)) (row_at q es)) ≡ extents_in (cond b (Some (changed_row other e.1)) (row_at q es))) [
              | true ↦ alike-row change other same e.1
              | false ↦ refl
            ]
        | false ↦
            elim (is_eq (place_cmp q e.0)) as (λ b. extents_in (cond b (Some e.1) (row_at q (change_at place change es))) ≡ extents_in (cond b (Some e.1) (row_at q (change_at place other es)))) [
              | true ↦ refl
              | false ↦ alike-at es
            ]
      ]

alike-has : (place : Place) (change other : FileRow → FileRow) → ((f : FileRow) → (change f).extents ≡ (other f).extents) → (t : Tree) (g : Option Place) (b : ℕ) → file_has (change_at place change t) g b ≡ file_has (change_at place other t) g b
alike-has place change other same t None b = refl
alike-has place change other same t (Some q) b = ap (λ (xs : List Extent). has_block (blocks_of xs) b) (alike-at place change other same q t)

has-alike : (place : Place) (blocks : List ℕ) (t u v : Tree) → ((g : Option Place) (b : ℕ) → file_has v g b ≡ file_has u g b) → IsChangedAt place blocks t u → IsChangedAt place blocks t v
has-alike place blocks t u v same is = record {
  came = λ g b has. is.came g b (sym (same g b) ∙ has);
  here = λ b has. same (Some place) b ∙ is.here b has;
  only = λ b has. is.only b (sym (same (Some place) b) ∙ has);
  stays = λ g b has. elim (is.stays g b has) [ inl here ↦ inl here | inr there ↦ inr (same g b ∙ there) ];
}

-- ---- the tree after the call

module _ (keep : TreesKeepBlocks) (t : Tree) (place : Place) (runs : List Extent) (file : FileRow) (there : file_in_tree place t ≡ Some file) where
  stored-at : IsChangedAt place (blocks_of runs) t (change_at place (stored 0 0 runs) t)
  stored-at = content_changed t place file 0 0 runs there

  changed-at : (change : FileRow → FileRow) → ((f : FileRow) → (change f).extents ≡ runs) → IsChangedAt place (blocks_of runs) t (change_at place change t)
  changed-at change same = has-alike place (blocks_of runs) t (change_at place (stored 0 0 runs) t) (change_at place change t) (λ g b. alike-has place change (stored 0 0 runs) same t g b) stored-at

  unlocked-at : (change : FileRow → FileRow) → ((f : FileRow) → (change f).extents ≡ runs) → IsChangedAt place (blocks_of runs) t (change_at place unlocked (change_at place change t))
  unlocked-at change same =
      has-alike place (blocks_of runs) t (change_at place change t) (change_at place unlocked (change_at place change t)) (λ g b. keep.changed place unlocked (change_at place change t) (λ f. refl) g b) (changed-at change same)

  by-mode : (h : HandleOutline) (change : FileRow → FileRow) → is_read_write h.mode ≡ true → h.file ≡ place → changed_by t h.mode h.file change ≡ change_at place change t
  by-mode h change writes is = ap (λ (b : Bool). if b then change_at h.file change t else t) writes ∙ ap (λ (p : Place). change_at p change t) is

  closed-at : (m : Machine) (k n size : ℕ) (reserve : ℕ) → IsStreamOf m k n place reserve → IsChangedAt place (blocks_of runs) t (closed_by t size (moment_of m k) (Some runs) (open_stream in_lengths m k n))
  closed-at m k n size reserve is =
      subst (λ (u : Tree). IsChangedAt place (blocks_of runs) t u)
      (sym
      (ap (λ (x : Option StreamOutline). closed_by t size (moment_of m k) (Some runs) x) is.there
      ∙ ap (λ (p : Place). change_at p unlocked (change_at p (stored size (moment_of m k) runs) t)) is.file))
      (unlocked-at (stored size (moment_of m k) runs) (λ f. refl))

  flushed-at : (m : Machine) (k n : ℕ) (reserve : ℕ) → IsWriterOf m k n place reserve → IsChangedAt place (blocks_of runs) t (flushed_by t (Some runs) (open_handle in_lengths m k n))
  flushed-at m k n reserve is =
      subst (λ (u : Tree). IsChangedAt place (blocks_of runs) t u)
      (sym (ap (λ (x : Option HandleOutline). flushed_by t (Some runs) x) is.there ∙ by-mode is.row (flushed_in (Some runs)) is.writes is.file))
      (changed-at (flushed_in (Some runs)) (λ f. refl))

  ended-at : (m : Machine) (k n : ℕ) (reserve : ℕ) → IsWriterOf m k n place reserve → IsChangedAt place (blocks_of runs) t (ended_by t (flushed_in (Some runs)) (open_handle in_lengths m k n))
  ended-at m k n reserve is =
      subst (λ (u : Tree). IsChangedAt place (blocks_of runs) t u)
      (sym
      (ap (λ (x : Option HandleOutline). ended_by t (flushed_in (Some runs)) x) is.there
      ∙ ap (λ (u : Tree). change_at is.row.file unlocked u) (by-mode is.row (flushed_in (Some runs)) is.writes is.file)
      ∙ ap (λ (p : Place). change_at p unlocked (change_at place (flushed_in (Some runs)) t)) is.file))
      (unlocked-at (flushed_in (Some runs)) (λ f. refl))

  pub tree-changed : (m : Machine) (k : ℕ) (o : Op) (z : Sizes) (reserve : ℕ) → StoresFile m k o place reserve → IsChangedAt place (blocks_of runs) t (tree_by m t k o z (Some runs))
  unfolding tree_by
  tree-changed m k (op.Close n) z reserve is = closed-at m k n z.size reserve is
  tree-changed m k (op.SyncFlush n) z reserve is = flushed-at m k n reserve is
  tree-changed m k (op.SyncClose n) z reserve is = ended-at m k n reserve is
  tree-changed m k o z reserve is = absurd is

  -- ---- what it lets go

  stream-lets : (m : Machine) (k n : ℕ) (reserve : ℕ) → IsStreamOf m k n place reserve → stream_frees t (Some runs) (open_stream in_lengths m k n) ≡ file.extents
  stream-lets m k n reserve is = ap (stream_frees t (Some runs)) is.there ∙ ap (λ (p : Place). replaced_at t p (Some runs)) is.file ∙ ap row_extents there

  handle-lets : (m : Machine) (k n : ℕ) (reserve : ℕ) → IsWriterOf m k n place reserve → handle_frees t (Some runs) (open_handle in_lengths m k n) ≡ file.extents
  handle-lets m k n reserve is =
      ap (handle_frees t (Some runs)) is.there ∙ ap (λ (b : Bool). if b then replaced_at t is.row.file (Some runs) else []) is.writes
      ∙ ap (λ (p : Place). replaced_at t p (Some runs)) is.file ∙ ap row_extents there

  pub lets-go : (m : Machine) (k : ℕ) (o : Op) (reserve : ℕ) → StoresFile m k o place reserve → freed_in m t k o (Some runs) ≡ file.extents
  unfolding freed_in
  lets-go m k (op.Close n) reserve is = stream-lets m k n reserve is
  lets-go m k (op.SyncFlush n) reserve is = handle-lets m k n reserve is
  lets-go m k (op.SyncClose n) reserve is = handle-lets m k n reserve is
  lets-go m k o reserve is = absurd is

file-extents : (o : Option Row) (file : FileRow) → file_of o ≡ Some file → extents_in o ≡ file.extents
file-extents None file is = cc
file-extents (Some row.Dir) file is = cc
file-extents (Some (row.File f)) file is = ap (λ (x : FileRow). x.extents) (one is)
  where
    one : ◌≡◌ {A = Option FileRow} (Some f) (Some file) → f ≡ file
    one e = cc

-- What a file has are the blocks of its extents.
pub of-file : (t : Tree) (place : Place) (file : FileRow) (b : ℕ) → file_in_tree place t ≡ Some file → has_block (blocks_of file.extents) b ≡ true → file_has t (Some place) b ≡ true
of-file t place file b there has = ap (λ (xs : List Extent). has_block (blocks_of xs) b) (file-extents (row_at place t) file there) ∙ has

-- ---- limits stay

written-limits : (s : Machine) (m : Mode) (place : Place) (change : File ℕ → File ℕ) → (with_written s m place change).limits ≡ s.limits
written-limits s mode.ReadWrite place change = refl
written-limits s mode.ReadOnly place change = refl

changed-limits : (s : Machine) (k n : ℕ) (g : Outline → Outline) → (with_changed s k n g).limits ≡ s.limits
unfolding with_changed
changed-limits s k n g =
    elim (own_of (agent_of s k) n) as (λ o. (elim o as (λ x. Machine) [ Some x ↦ with_own s k n (g x) | None ↦ s ]).limits ≡ s.limits) [ Some x ↦ refl | None ↦ refl ]

close-limits : (s : Machine) (z : Sizes) (k n : ℕ) (o : Option StreamOutline) → (closes_stream in_lengths s z k n o).limits ≡ s.limits
close-limits s z k n None = refl
close-limits s z k n (Some w) = refl

flush-limits : (s : Machine) (z : Sizes) (k n : ℕ) (o : Option HandleOutline) → (flushes in_lengths s z k n o).limits ≡ s.limits
flush-limits s z k n None = refl
flush-limits s z k n (Some h) = changed-limits (with_written s h.mode h.file flushed) k n (λ r. in_lengths.moved r z.position 0) ∙ written-limits s h.mode h.file flushed

end-limits : (s : Machine) (k n : ℕ) (o : Option HandleOutline) → (closes_handle in_lengths s k n o).limits ≡ s.limits
end-limits s k n None = refl
end-limits s k n (Some h) = written-limits s h.mode h.file flushed

pub limits-stay : (m : Machine) (z : Sizes) (k : ℕ) (o : Op) → is_storing o ≡ true → (effect in_lengths m z k o).limits ≡ m.limits
unfolding effect
limits-stay m z k (op.Close n) h = close-limits m z k n (open_stream in_lengths m k n)
limits-stay m z k (op.SyncFlush n) h = flush-limits m z k n (open_handle in_lengths m k n)
limits-stay m z k (op.SyncClose n) h = end-limits m k n (open_handle in_lengths m k n)
limits-stay m z k o h = cc
