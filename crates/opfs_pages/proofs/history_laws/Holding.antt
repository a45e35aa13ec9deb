-- Who has the blocks, as one value.
use Rattle.std.proofs.Common.{ℕ, refl, sym, subst, ◌∙◌, arith}
use Rattle.opfs_blocks.specs.Sets.{Used}
use Rattle.opfs_data.specs.Rows.{Rows}
use Rattle.opfs_records.specs.Replay.Built.{named, has_block}
use Rattle.opfs_space.specs.Files.{file_has}
use Rattle.opfs_space.specs.Holders.{Holders, HasPage, KeepsRow, AreBlocks}
use Rattle.opfs_space.specs.Room.{Machine}
use Rattle.opfs_space.specs.Spaces.{SpaceSeen}
use Rattle.opfs_space.proofs.Keeping.{blocks_fewer}
use Rattle.opfs_pages.specs.HistoryLaws.Open.{open_at, file_in, reserve_in, is_stream}
use Rattle.opfs_pages.specs.HistoryLaws.Spaced.{Shelf, AreHolders, AreSpaced}

abbrev pub holders_of : Machine → Shelf → Holders
holders_of m s = record {
  reserve = λ k n. reserve_in (open_at m k n);
  file = λ k n. file_in (open_at m k n);
  streams = λ k n. is_stream (open_at m k n);
  ground = has_block (named s.recorded);
  rows = has_block (named s.tree);
  has = file_has s.tree;
  swap = s.swap;
}

pub are-holders : (m : Machine) (s : Shelf) → AreHolders m s (holders_of m s)
are-holders m s = record { reserve = λ k n. refl; file = λ k n. refl; streams = λ k n. refl; recorded = λ b. refl; rows = λ b. refl; has = λ f b. refl; swap = refl }

pub spaced-blocks : (m : Machine) (s : Shelf) (space : SpaceSeen) → AreSpaced m s space → AreBlocks (holders_of m s) space.used space.own
spaced-blocks m s space are = are.blocks (holders_of m s) (are-holders m s)

same-row : (m : Machine) (s : Shelf) (h : Holders) (k n : ℕ) → AreHolders m s h → KeepsRow (holders_of m s) h k n
same-row m s h k n is = record {
  file = is.file k n;
  reserve = let same = is.reserve k n in omega (arith, same);
  streams = λ was. sym (is.streams k n) ∙ was;
}

pub blocks-spaced : (m : Machine) (s : Shelf) (used own : Used) → AreBlocks (holders_of m s) used own → (h : Holders) → AreHolders m s h → AreBlocks h used own
blocks-spaced m s used own are h is =
    blocks_fewer (holders_of m s) h used own are (record { ground = is.recorded; rows = is.rows; has = is.has })
    (λ k n i b has. (subst (λ (r : Rows). HasPage r k n i b) is.swap has, same-row m s h k n is))
