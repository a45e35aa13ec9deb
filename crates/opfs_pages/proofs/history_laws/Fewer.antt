-- The blocks stay right where a unit is evicted, something is removed, or what is kept back is recorded.
use Rattle.std.proofs.Common.{◌≡◌, ℕ, true, sym, ap, subst, ◌∙◌}
use Rattle.opfs_space.specs.Files.{file_has}
use Rattle.opfs_space.specs.Holders.{HasLess, KeepsRow}
use Rattle.opfs_space.specs.Room.{Machine}
use Rattle.opfs_space.specs.Spaces.{SpaceSeen}
use Rattle.opfs_space.proofs.FileBlocks.{has_named}
use Rattle.opfs_space.proofs.Keeping.{blocks_less}
use Rattle.opfs_pages.specs.HistoryLaws.Open.{open_at, file_in}
use Rattle.opfs_pages.specs.HistoryLaws.Spaced.{Shelf, AreSpaced}
use Rattle.opfs_pages.specs.HistoryLaws.Storing.{HasFewerFiles}
use Rattle.opfs_pages.proofs.history_laws.Holding.{holders_of, spaced-blocks, blocks-spaced}
use Rattle.opfs_pages.proofs.history_laws.Spacing.{stays-same}

module _ (m t : Machine) (s r : Shelf) (is : HasFewerFiles m t s r) where
  keeps : (k n : ℕ) → KeepsRow (holders_of m s) (holders_of t r) k n
  keeps k n =
      let stays = stays-same (open_at m k n) (open_at t k n) (is.open_rows k n) in
      record { file = stays.file; reserve = stays.reserve; streams = λ now. sym stays.stream ∙ now }

  pub fewer-less : HasLess (holders_of m s) (holders_of t r)
  fewer-less = record {
    ground = is.recorded;
    rows = λ b has. (is.rows b has, is.inside b has);
    has = λ f b has. (is.has f b has, has_named r.tree f b has);
    stays = λ k n i b page has. subst (λ o. file_has r.tree (file_in o) b ≡ true) (sym (is.open_rows k n)) (is.stays k n b has);
  }

  pub spaced-fewer : (space : SpaceSeen) → AreSpaced m s space → AreSpaced t r space
  spaced-fewer space was = record {
    size = was.size ∙ ap (λ l. l.blocks) (sym is.limits);
    own_size = was.own_size;
    blocks = blocks-spaced t r space.used space.own (blocks_less (holders_of m s) (holders_of t r) space.used space.own (spaced-blocks m s space was) fewer-less (λ k n i b has. (is.pages k n i b has, keeps k n)));
  }
