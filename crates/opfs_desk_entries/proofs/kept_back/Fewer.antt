-- The blocks of files where an entry is made or removed: no file has more, and the files of open rows have what they had.
use Rattle.std.proofs.Common.{◌≡◌, ◌⊎◌, ℕ, Bool, true, false, cond, not, List, [], Option, Some, None, refl, sym, ap, subst, ◌∙◌, inl, inr}
use Rattle.std.specs.FinMap.Entries.{put}
use Rattle.std.specs.Prelude.{is_some, option_map}
use Rattle.std.proofs.lemmas.Bool.{false≢true}
use Rattle.opfs_base.specs.Places.{Place, place_cmp, place_of, child, is_within}
use Rattle.opfs_base.specs.Texts.{Text}
use Rattle.opfs_base.specs.Units.{unit_of}
use Rattle.opfs_base.specs.declared.locator.Kind.{Kind}
use Rattle.opfs_base.specs.declared.locator.Kind.TheVariants as kind
use Rattle.opfs_state_rows.specs.Changes.Asking.{made_at, where_free, root_in}
use Rattle.opfs_state_rows.specs.Changes.Asking.{free_in as free_of}
use Rattle.opfs_state_rows.specs.Changes.Changed.{tree_by, grown_by}
use Rattle.opfs_data.specs.Rows.{Rows}
use Rattle.opfs_pages.specs.HistoryLaws.Laws.{BlocksGoOn}
use Rattle.opfs_pages.specs.HistoryLaws.Open.{if_open, open_at, file_in}
use Rattle.opfs_pages.specs.HistoryLaws.Spaced.{AreSpaced}
use Rattle.opfs_pages.proofs.history_laws.Forests.{same-blocks, put-has}
use Rattle.opfs_hist.specs.declared.op.Op.{Op}
use Rattle.opfs_hist.specs.declared.op.Op.TheVariants as op
use Rattle.opfs_laws.proofs.Spots.{row-without}
use Rattle.opfs_laws.specs.Lengths.Kept.{Kept}
use Rattle.opfs_machine.specs.declared.own.Outline.{Outline}
use Rattle.opfs_machine.specs.declared.own.Outline.TheVariants as outline
use Rattle.opfs_machine.specs.declared.state.FileRow.{FileRow as File}
use Rattle.opfs_machine.specs.declared.state.Row.{Row as Line}
use Rattle.opfs_machine.specs.declared.state.Sizes.{Sizes}
use Rattle.opfs_machine.specs.Agents.{agent_of, own_of, counted}
use Rattle.opfs_machine.specs.Contents.{in_lengths}
use Rattle.opfs_machine.specs.Effects.{effect, moment_of}
use Rattle.opfs_machine.specs.Rows.{file_of, without as machine_without}
use Rattle.opfs_machine.specs.Rows.{file_at as machine_file, row_at as machine_row}
use Rattle.opfs_tree.specs.Ready.Ready.{new_row}
use Rattle.opfs_records.specs.Replay.Built.{named, has_block}
use Rattle.opfs_pages.specs.RowCalls.Plans.{shelf}
use Rattle.opfs_records.specs.Checkpoint.Written.{stored_rows}
use Rattle.opfs_space.specs.Files.{file_has}
use Rattle.opfs_space.specs.Room.{Machine}
use Rattle.opfs_space.specs.Spaces.{SpaceSeen}
use Rattle.opfs_space.proofs.FileBlocks.{has_named, named_has, less_has, stays_has}
use Rattle.opfs_state_rows.specs.Standing.Seen.{lines_of}
use Rattle.opfs_state_rows.proofs.standing.Lines.{there-at}
use Rattle.opfs_tree.specs.Rows.{Rows as Tree, IsInOrder, row_at, extents_of, without}
use Rattle.opfs_desk_steps.proofs.book_steps.Evictions.{stored-named, recorded-has}
use Rattle.opfs_desk_entries.specs.KeptBack.Keeping.{makes_root, keeps_back}
use Rattle.opfs_desk_entries.proofs.kept_back.Free.{none-of}

-- The rows afterwards name no more blocks, nor has any file more, and the files of open rows keep theirs.
pub record HasNoMore (m : Machine) (t u : Tree) : Type 0 where
  pub rows : (b : ℕ) → has_block (named u) b ≡ true → has_block (named t) b ≡ true
  pub has : (f : Option Place) (b : ℕ) → file_has u f b ≡ true → file_has t f b ≡ true
  pub stays : (k n b : ℕ) → file_has t (file_in (open_at m k n)) b ≡ true → file_has u (file_in (open_at m k n)) b ≡ true

none-by : {X : Type 0} (x : Option X) → is_some x ≡ false → x ≡ None
none-by None is = refl
none-by (Some x) is = cc

-- ---- an entry is made

no-extents : (kd : Kind) (stamp : ℕ) → extents_of (new_row kd stamp) ≡ []
no-extents kind.Directory stamp = refl
no-extents kind.File stamp = refl

made-fewer : (m : Machine) (t : Tree) (place : Place) (kd : Kind) (stamp : ℕ) → row_at place t ≡ None → IsInOrder t → IsInOrder (put place_cmp place (new_row kd stamp) t) → HasNoMore m t (put place_cmp place (new_row kd stamp) t)
made-fewer m t place kd stamp free order after =
    let u = put place_cmp place (new_row kd stamp) t in
    let same : (f : Option Place) (b : ℕ) → file_has u f b ≡ file_has t f b = put-has place (new_row kd stamp) t free (no-extents kd stamp) in
    let blocks = same-blocks t u order after same in
    record {
      rows = λ b has. sym (blocks.named b) ∙ has;
      has = λ f b has. sym (same f b) ∙ has;
      stays = λ k n b has. same (file_in (open_at m k n)) b ∙ has;
    }

-- The row of the tree is free where the machine's is.
free-in : (m : Machine) (t : Tree) (q : Place) → m.rows ≡ lines_of t → machine_row m q ≡ None → row_at q t ≡ None
free-in m t q lines none = none-by (row_at q t) (sym (there-at q t) ∙ sym (ap (λ rows. is_some (machine_row (record m { rows = rows }) q)) lines) ∙ ap is_some none)

root-fewer : (m : Machine) (t : Tree) (bucket : Text) (stamp : ℕ) (key : Option Text) → makes_root m bucket key ≡ true → m.rows ≡ lines_of t → IsInOrder t
    → IsInOrder (grown_by t stamp (free_of m (root_in (option_map (λ origin. unit_of origin bucket) key)))) → HasNoMore m t (grown_by t stamp (free_of m (root_in (option_map (λ origin. unit_of origin bucket) key))))
root-fewer m t bucket stamp None h lines order after = absurd (false≢true h)
root-fewer m t bucket stamp (Some origin) h lines order after =
    let place : Place = (unit_of origin bucket, []) in
    let none = none-of (machine_row m place) h in
    subst (λ (x : Option (Line ℕ)). IsInOrder (grown_by t stamp (where_free x (place, kind.Directory))) → HasNoMore m t (grown_by t stamp (where_free x (place, kind.Directory)))) (sym none)
    (λ later. made-fewer m t place kind.Directory stamp (free-in m t place lines none) order later) after

-- ---- an entry is removed

module _ (m : Machine) (j : ℕ) (place : Place) (kept : Kept (counted (machine_without m place) j)) where
  gone-none : (q : Place) → is_within place q ≡ true → machine_file (machine_without m place) q ≡ None
  gone-none q within = ap file_of (row-without m place q ∙ ap (λ b. cond (not b) (machine_row m q) None) within)

  not-within : (q : Place) (f : File ℕ) → machine_file (machine_without m place) q ≡ Some f → (b : Bool) → is_within place q ≡ b → b ≡ false
  not-within q f there true within = absurd (impossible (sym (gone-none q within) ∙ there))
    where
      impossible : None ≡ Some f → ⊥
      impossible e = cc
  not-within q f there false within = refl

  apart-by : (k n : ℕ) (q : Place) (o : Option Outline) → own_of (agent_of m k) n ≡ o → file_in (if_open o) ≡ Some q → is_within place q ≡ false
  apart-by k n q None own is = absurd cc
  apart-by k n q (Some (outline.Stream w)) own is =
      let there = kept.files k n (outline.Stream w) w.file _ own refl in
      subst (λ (x : Place). is_within place x ≡ false) (same is) (not-within w.file there.0 there.1 (is_within place w.file) refl)
    where
      same : Some w.file ≡ Some q → w.file ≡ q
      same e = cc
  apart-by k n q (Some (outline.Handle h)) own is =
      let there = kept.files k n (outline.Handle h) h.file _ own refl in
      subst (λ (x : Place). is_within place x ≡ false) (same is) (not-within h.file there.0 there.1 (is_within place h.file) refl)
    where
      same : Some h.file ≡ Some q → h.file ≡ q
      same e = cc
  apart-by k n q (Some r) own is = absurd cc

  removed-stays : (t : Tree) (k n b : ℕ) (f : Option Place) → file_in (open_at m k n) ≡ f → file_has t f b ≡ true → file_has (without place t) f b ≡ true
  removed-stays t k n b None is has = absurd (false≢true has)
  removed-stays t k n b (Some q) is has = stays_has t place q b (apart-by k n q (own_of (agent_of m k) n) refl is) has

  removed-fewer : (t : Tree) → IsInOrder (without place t) → HasNoMore m t (without place t)
  removed-fewer t after = record {
    rows = λ b has. let found = named_has (without place t) b after has in has_named t found.0 b (less_has t place found.0 b found.1);
    has = λ f b has. less_has t place f b has;
    stays = λ k n b has. removed-stays t k n b (file_in (open_at m k n)) refl has;
  }

-- ---- both, by the call's word

pub fewer-by : (m new : Machine) (t : Tree) (k : ℕ) (z : Sizes) (o : Op) → keeps_back m k o ≡ true → m.rows ≡ lines_of t → IsInOrder t → IsInOrder (tree_by m t k o z None) → Kept new → new ≡ counted (effect in_lengths m z k o) k
    → HasNoMore m t (tree_by m t k o z None)
unfolding tree_by made_at effect
fewer-by m new t k z (op.GetDirectory bucket) h lines order after kept is = root-fewer m t bucket (moment_of m k) (agent_of m k).key h lines order after
fewer-by m new t k z (op.GetDirectoryHandle dir name create) h lines order after kept is =
    let place = child (place_of dir) name in
    let none = none-of (machine_row m place) h in
    subst (λ (x : Option (Line ℕ)). IsInOrder (grown_by t (moment_of m k) (where_free x (place, kind.Directory))) → HasNoMore m t (grown_by t (moment_of m k) (where_free x (place, kind.Directory)))) (sym none)
    (λ later. made-fewer m t place kind.Directory (moment_of m k) (free-in m t place lines none) order later) after
fewer-by m new t k z (op.GetFileHandle dir name create) h lines order after kept is =
    let place = child (place_of dir) name in
    let none = none-of (machine_row m place) h in
    subst (λ (x : Option (Line ℕ)). IsInOrder (grown_by t (moment_of m k) (where_free x (place, kind.File))) → HasNoMore m t (grown_by t (moment_of m k) (where_free x (place, kind.File)))) (sym none)
    (λ later. made-fewer m t place kind.File (moment_of m k) (free-in m t place lines none) order later) after
fewer-by m new t k z (op.RemoveEntry dir name recursive) h lines order after kept is = removed-fewer m k (child (place_of dir) name) (subst Kept is kept) t after
fewer-by m new t k z o h lines order after kept is = cc

-- ---- the space stays right

pub spaced-fewer : (blocks : BlocksGoOn) (m new : Machine) (recorded t u next : Tree) (swap : Rows) (space : SpaceSeen) → ((k n : ℕ) → open_at new k n ≡ open_at m k n) → new.limits ≡ m.limits → HasNoMore m t u → (next ≡ recorded) ⊎ (next ≡ stored_rows u)
    → AreSpaced m (shelf recorded t swap) space → AreSpaced new (shelf next u swap) space
spaced-fewer blocks m new recorded t u next swap space opened limits less either spaced =
    let within : (b : ℕ) → has_block (named u) b ≡ true → has_block (named recorded) b ≡ true = λ b has. recorded-has m recorded t swap space b spaced (less.rows b has) in
    elim either [
      | inl is ↦
          subst (λ (x : Tree). AreSpaced new (shelf x u swap) space) (sym is)
          (blocks.fewer m new (shelf recorded t swap) (shelf recorded u swap) space
          (record { open_rows = opened; limits = limits; recorded = λ b has. has; rows = less.rows; inside = within; has = less.has; stays = less.stays; pages = λ k n i b has. has })
          spaced)
      | inr is ↦
          subst (λ (x : Tree). AreSpaced new (shelf x u swap) space) (sym is)
          (blocks.fewer m new (shelf recorded t swap) (shelf (stored_rows u) u swap) space
          (record {
            open_rows = opened;
            limits = limits;
            recorded = λ b has. within b (ap (λ (xs : List ℕ). has_block xs b) (sym (stored-named u)) ∙ has);
            rows = less.rows;
            inside = λ b has. ap (λ (xs : List ℕ). has_block xs b) (stored-named u) ∙ has;
            has = less.has;
            stays = less.stays;
            pages = λ k n i b has. has;
          })
          spaced)
    ]
