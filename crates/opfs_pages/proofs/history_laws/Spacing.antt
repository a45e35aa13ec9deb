-- The blocks stay right through each kind of entry.
use Rattle.std.proofs.Common.{◌≡◌, ◌≤◌, ℕ, true, Option, List, length, nat_eq, sym, ap, subst, ◌∙◌, inl, inr, arith}
use Rattle.std.specs.List.{IsDistinct}
use Rattle.opfs_base.specs.declared.extents.Extent.{Extent}
use Rattle.opfs_blocks.specs.Sets.{blocks_of}
use Rattle.opfs_data.specs.Pages.{resized, with_writes, pages_in, AreOnce}
use Rattle.opfs_data.specs.Rows.{pages_at, OthersStay}
use Rattle.opfs_data.specs.Writes.{PageWrite}
use Rattle.opfs_machine.specs.declared.own.Outline.{Outline}
use Rattle.opfs_records.specs.Replay.Built.{has_block}
use Rattle.opfs_space.specs.Files.{file_has}
use Rattle.opfs_space.specs.Holders.{HasPage, KeepsRow, KeepsOthers, HasFiles, AreMine}
use Rattle.opfs_space.specs.Room.{Machine}
use Rattle.opfs_space.specs.Spaces.{SpaceSeen}
use Rattle.opfs_space.proofs.Keeping.{blocks_fewer}
use Rattle.opfs_space.proofs.Placing.{pages_written, row_opened}
use Rattle.opfs_pages.specs.HistoryLaws.Open.{open_at, file_in, reserve_in, is_stream, StaysOpen, OthersStayOpen}
use Rattle.opfs_pages.specs.HistoryLaws.Spaced.{Shelf, AreSpaced}
use Rattle.opfs_pages.proofs.history_laws.Holding.{holders_of, spaced-blocks, blocks-spaced}
use Rattle.opfs_pages.specs.HistoryLaws.Shelves.{HasSameFiles, KeepsOpen, HasNoMorePages}
use Rattle.opfs_pages.proofs.history_laws.Begun.{other-or}

pub stays-same : (old new : Option Outline) → new ≡ old → StaysOpen old new
stays-same old new is = record {
  file = ap file_in is;
  reserve = let same : reserve_in new ≡ reserve_in old = ap reserve_in is in omega (arith, same);
  stream = ap is_stream is;
}

module _ (m t : Machine) (s r : Shelf) where
  keeps : (k n : ℕ) → StaysOpen (open_at m k n) (open_at t k n) → KeepsRow (holders_of m s) (holders_of t r) k n
  keeps k n stays = record { file = stays.file; reserve = stays.reserve; streams = λ is. sym stays.stream ∙ is }

  same_files : HasSameFiles s r → HasFiles (holders_of m s) (holders_of t r)
  same_files is = record { ground = is.recorded.named; rows = is.tree.named; has = is.tree.has }

  keeps_all : (agent row : ℕ) → KeepsOpen m t agent row → (k n : ℕ) → KeepsRow (holders_of m s) (holders_of t r) k n
  keeps_all agent row is k n = elim (other-or agent row k n) [
    | inl apart ↦ keeps k n (stays-same (open_at m k n) (open_at t k n) (is.others k n apart))
    | inr here ↦
        subst (λ (x : ℕ). KeepsRow (holders_of m s) (holders_of t r) k x) (sym here.1)
        (subst (λ (x : ℕ). KeepsRow (holders_of m s) (holders_of t r) x row) (sym here.0) (keeps agent row is.here))
  ]

  keeps_others : (agent row : ℕ) → OthersStayOpen m t agent row → OthersStay agent row s.swap r.swap → KeepsOthers (holders_of m s) (holders_of t r) agent row
  keeps_others agent row others pages = record {
    pages = pages;
    rows = λ k n apart. keeps k n (stays-same (open_at m k n) (open_at t k n) (others k n apart));
  }

  -- Nothing comes, and open rows stay.
  pub spaced-stays : (space : SpaceSeen) (agent row : ℕ) → AreSpaced m s space → KeepsOpen m t agent row → HasSameFiles s r → HasNoMorePages s r → AreSpaced t r space
  spaced-stays space agent row was is files fewer = record {
    size = was.size ∙ ap (λ l. l.blocks) (sym is.limits);
    own_size = was.own_size;
    blocks = blocks-spaced t r space.used space.own (blocks_fewer (holders_of m s) (holders_of t r) space.used space.own (spaced-blocks m s space was) (same_files files) (λ k n i b has. (fewer k n i b has, keeps_all agent row is k n)));
  }

  -- A row is dropped: others stay.
  pub spaced-dropped : (space : SpaceSeen) (agent row : ℕ) → AreSpaced m s space → OthersStayOpen m t agent row → t.limits ≡ m.limits → HasSameFiles s r → HasNoMorePages s r
      → ((i b : ℕ) → HasPage r.swap agent row i b → ⊥) → AreSpaced t r space
  spaced-dropped space agent row was others limits files fewer none = record {
    size = was.size ∙ ap (λ l. l.blocks) (sym limits);
    own_size = was.own_size;
    blocks = blocks-spaced t r space.used space.own (blocks_fewer (holders_of m s) (holders_of t r) space.used space.own (spaced-blocks m s space was) (same_files files)
        (λ k n i b has. (
          fewer k n i b has,
          elim (other-or agent row k n) [
            | inl apart ↦ keeps k n (stays-same (open_at m k n) (open_at t k n) (others k n apart))
            | inr here ↦
                absurd (none i b (subst (λ (x : ℕ). HasPage r.swap agent x i b) here.1 (subst (λ (x : ℕ). HasPage r.swap x n i b) here.0 has)))
          ],
        )));
  }

  -- Pages are written into blocks that are the row's own or were taken for it.
  pub spaced-written : (space : SpaceSeen) (agent row pages : ℕ) (writes : List PageWrite) → AreSpaced m s space → KeepsOpen m t agent row → HasSameFiles s r → OthersStay agent row s.swap r.swap
      → pages_at agent row r.swap ≡ with_writes writes (resized pages (pages_at agent row s.swap)) → AreOnce writes
      → AreMine space.used space.own s.swap agent row (reserve_in (open_at t agent row)) writes → AreSpaced t r space
  spaced-written space agent row pages writes was is files stay written once mine = record {
    size = was.size ∙ ap (λ l. l.blocks) (sym is.limits);
    own_size = was.own_size;
    blocks = blocks-spaced t r space.used space.own (pages_written (holders_of m s) (holders_of t r) space.used space.own agent row pages writes (spaced-blocks m s space was) (same_files files) (keeps agent row is.here)
        (keeps_others agent row is.others stay) written once mine);
  }

  -- A row is opened with the blocks of its file.
  pub spaced-opened : (space : SpaceSeen) (agent row : ℕ) (extents : List Extent) → AreSpaced m s space → OthersStayOpen m t agent row → t.limits ≡ m.limits → HasSameFiles s r
      → OthersStay agent row s.swap r.swap → pages_at agent row r.swap ≡ pages_in extents → IsDistinct nat_eq (blocks_of extents)
      → ((b : ℕ) → has_block (blocks_of extents) b ≡ true → file_has s.tree (file_in (open_at t agent row)) b ≡ true)
      → (is_stream (open_at t agent row) ≡ true → length (blocks_of extents) ≤ reserve_in (open_at t agent row)) → AreSpaced t r space
  spaced-opened space agent row extents was others limits files stay opened once has kept = record {
    size = was.size ∙ ap (λ l. l.blocks) (sym limits);
    own_size = was.own_size;
    blocks = blocks-spaced t r space.used space.own (row_opened (holders_of m s) (holders_of t r) space.used space.own agent row extents (spaced-blocks m s space was) (same_files files) (keeps_others agent row others stay) opened once
        (record { has = has; reserve = kept }));
  }
