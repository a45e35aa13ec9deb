-- The blocks stay right where a close or a flush stores a content.
use Rattle.std.proofs.Common.{◌≡◌, ℕ, true, false, List, Option, sym, ap, subst, ◌∙◌, inl, inr}
use Rattle.opfs_base.specs.Places.{Place}
use Rattle.opfs_base.specs.declared.extents.Extent.{Extent}
use Rattle.opfs_blocks.specs.Sets.{marked, blocks_of}
use Rattle.opfs_data.specs.Rows.{IsOther}
use Rattle.opfs_space.specs.Files.{file_has}
use Rattle.opfs_space.specs.Holders.{HasPage, IsStored, KeepsRow}
use Rattle.opfs_space.specs.Room.{Machine}
use Rattle.opfs_space.specs.Spaces.{SpaceSeen}
use Rattle.opfs_space.proofs.FileBlocks.{has_named, named_has}
use Rattle.opfs_space.proofs.Storing.{blocks_stored}
use Rattle.opfs_space.proofs.Taking.{owned_less, marked_size}
use Rattle.opfs_pages.specs.HistoryLaws.Open.{open_at, file_in, is_stream}
use Rattle.opfs_pages.specs.HistoryLaws.Spaced.{Shelf, AreSpaced}
use Rattle.opfs_pages.specs.HistoryLaws.Storing.{IsContentOf}
use Rattle.opfs_pages.proofs.history_laws.Begun.{other-or}
use Rattle.opfs_pages.proofs.history_laws.Holding.{holders_of, spaced-blocks, blocks-spaced}
use Rattle.opfs_pages.proofs.history_laws.Spacing.{stays-same}

module _ (m t : Machine) (s r : Shelf) (agent row : ℕ) (place : Place) (extents : List Extent) (is : IsContentOf m t s r agent row place extents) where
  abbrev blocks : List ℕ
  blocks = blocks_of extents

  keeps : (k n : ℕ) → IsOther agent row k n → KeepsRow (holders_of m s) (holders_of t r) k n
  keeps k n apart =
      let stays = stays-same (open_at m k n) (open_at t k n) (is.others k n apart) in
      record { file = stays.file; reserve = stays.reserve; streams = λ now. sym stays.stream ∙ now }

  stored-is : IsStored (holders_of m s) (holders_of t r) agent row blocks
  stored-is = record {
    nothing_kept = is.nothing_kept;
    recorded = is.recorded;
    before = λ b has. named_has s.tree b is.order has;
    after = λ b has. named_has r.tree b is.order_now has;
    named = λ f b has. has_named r.tree f b has;
    came = λ f b has. elim (is.changed.came f b has) [
      | inl here ↦ inl (here.0 ∙ sym is.file, here.1)
      | inr old ↦ inr old
    ];
    here = λ b has. subst (λ (f : Option Place). file_has r.tree f b ≡ true) (sym is.file) (is.changed.here b has);
    stays = λ f b has. elim (is.changed.stays f b has) [
      | inl here ↦ inl (here ∙ sym is.file)
      | inr old ↦ inr old
    ];
    of_row = is.of_row;
    rest = λ k n i b has. elim (other-or agent row k n) [
      | inl apart ↦ (is.pages k n i b apart has, inl (keeps k n apart, apart))
      | inr here ↦
          let own : HasPage r.swap agent row i b = subst (λ (x : ℕ). HasPage r.swap agent x i b) here.1 (subst (λ (x : ℕ). HasPage r.swap x n i b) here.0 has) in
          let left = is.left i b own in (
            subst (λ (x : ℕ). HasPage s.swap k x i b) (sym here.1) (subst (λ (x : ℕ). HasPage s.swap x row i b) (sym here.0) left.0),
            inr (record {
              agent_is = here.0;
              row_is = here.1;
              file = subst (λ (x : ℕ). file_in (open_at t k x) ≡ file_in (open_at m k x)) (sym here.1) (subst (λ (x : ℕ). file_in (open_at t x row) ≡ file_in (open_at m x row)) (sym here.0) left.1);
              block = left.2;
              handle = subst (λ (x : ℕ). is_stream (open_at t k x) ≡ false) (sym here.1) (subst (λ (x : ℕ). is_stream (open_at t x row) ≡ false) (sym here.0) left.3);
            }),
          )
    ];
    others = λ k n i b has same apart. is.streams k n (same ∙ is.file) apart;
  }

  pub spaced-stored : (old new : SpaceSeen) → new ≡ record old { own = marked false blocks old.own } → AreSpaced m s old → AreSpaced t r new
  spaced-stored old new now was =
      subst (AreSpaced t r) (sym now) (record {
        size = was.size ∙ ap (λ l. l.blocks) (sym is.limits);
        own_size = marked_size false blocks old.own ∙ was.own_size;
        blocks = blocks-spaced t r old.used (marked false blocks old.own)
            (blocks_stored (holders_of m s) (holders_of t r) agent row blocks old.used old.own (marked false blocks old.own) (spaced-blocks m s old was) stored-is (owned_less blocks old.own));
      })
