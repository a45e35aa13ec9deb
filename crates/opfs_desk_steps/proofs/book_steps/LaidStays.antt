-- What is laid down through entries that settle no row, over pages that stay.
use Rattle.std.proofs.Common.{◌≡◌, ℕ, is_some, List, ◌++◌, refl, ap, arith}
use Rattle.opfs_data.specs.Rows.{Rows}
use Rattle.opfs_pages.specs.HistoryLaws.Laid.{AreLaid, IsLaidBeside}
use Rattle.opfs_pages.specs.HistoryLaws.Laws.{BlocksGoOn}
use Rattle.opfs_pages.specs.HistoryLaws.Open.{open_at, file_in, reserve_in, is_stream}
use Rattle.opfs_pages.specs.HistoryLaws.Putting.{AllReadAlike}
use Rattle.opfs_pages.specs.HistoryLaws.Shelves.{HasSameBlocks, KeepsOpen}
use Rattle.opfs_pages.specs.HistoryLaws.Spaced.{Shelf, AreSpaced}
use Rattle.opfs_hist.specs.declared.entry.Entry.{Entry}
use Rattle.opfs_machine.specs.Histories.{state_after}
use Rattle.opfs_machine.specs.Openings.{Opening}
use Rattle.opfs_pages.specs.RowCalls.Plans.{shelf}
use Rattle.opfs_space.specs.Room.{Machine}
use Rattle.opfs_space.specs.Spaces.{SpaceSeen}
use Rattle.opfs_laws.specs.Steady.Settling.{NoneSettles}
use Rattle.opfs_tree.specs.Rows.{Rows as Tree}

-- The law of what is laid down, by entries that settle no row.
abbrev pub LaidBeside : Type 0 → Type 0
LaidBeside tells =
    (o : Opening) (h more : List Entry) (base : ℕ) (c d : List ℕ) (m t : Machine) (s r : Shelf) (old new : SpaceSeen) → IsLaidBeside tells o h more base c d m t s r → AreSpaced t r new
    → AreLaid tells o h base c m s old → AreLaid tells o (h ++ more) base d t r new

module _ (tells : Type 0) (beside : LaidBeside tells) (o : Opening) (h more : List Entry) (base : ℕ) (c d : List ℕ) (m t : Machine) (recorded was next now : Tree) (swap : Rows) (space : SpaceSeen) where
  pub laid-on : ((k n : ℕ) → NoneSettles (state_after o h) k n more) → (tells → AllReadAlike base c d swap swap) → ((k n : ℕ) → open_at t k n ≡ open_at m k n)
      → AreSpaced t (shelf next now swap) space → AreLaid tells o h base c m (shelf recorded was swap) space → AreLaid tells o (h ++ more) base d t (shelf next now swap) space
  laid-on none alike opened spaced laid =
      beside o h more base c d m t (shelf recorded was swap) (shelf next now swap) space space
      (record {
        go_on = record { none = none; stay = λ k n i within. within };
        alike = alike;
        swap_rows = λ k n. refl;
        open_rows = λ k n. ap (λ x. is_some x) (opened k n);
      })
      spaced laid

-- ---- blocks

same-open : (m t : Machine) → ((k n : ℕ) → open_at t k n ≡ open_at m k n) → t.limits ≡ m.limits → KeepsOpen m t 0 0
same-open m t opened limits = record {
  others = λ k n apart. opened k n;
  here = record {
    file = ap file_in (opened 0 0);
    reserve = let e : reserve_in (open_at t 0 0) ≡ reserve_in (open_at m 0 0) = ap reserve_in (opened 0 0) in omega (arith, e);
    stream = ap is_stream (opened 0 0);
  };
  limits = limits;
}

same-blocks : (t : Tree) → HasSameBlocks t t
same-blocks t = record { named = λ b. refl; has = λ f b. refl }

module _ (blocks : BlocksGoOn) (m t : Machine) (opened : (k n : ℕ) → open_at t k n ≡ open_at m k n) (limits : t.limits ≡ m.limits) where
  -- The rows stay.
  pub spaced-stays : (recorded tree : Tree) (swap : Rows) (space : SpaceSeen) → AreSpaced m (shelf recorded tree swap) space → AreSpaced t (shelf recorded tree swap) space
  spaced-stays recorded tree swap space spaced =
      blocks.stays m t (shelf recorded tree swap) (shelf recorded tree swap) space 0 0 spaced (same-open m t opened limits)
      (record { recorded = same-blocks recorded; tree = same-blocks tree }) (λ k n i b has. has)

  -- The rows' files have the same blocks.
  pub spaced-alike : (recorded tree now : Tree) (swap : Rows) (space : SpaceSeen) → HasSameBlocks tree now → AreSpaced m (shelf recorded tree swap) space → AreSpaced t (shelf recorded now swap) space
  spaced-alike recorded tree now swap space same spaced =
      blocks.stays m t (shelf recorded tree swap) (shelf recorded now swap) space 0 0 spaced (same-open m t opened limits)
      (record { recorded = same-blocks recorded; tree = same }) (λ k n i b has. has)
