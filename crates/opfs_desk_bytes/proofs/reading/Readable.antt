-- A file may be read by its row in the tree.
use Rattle.std.proofs.Common.{◌≡◌, ℕ, ◌+◌, ◌*◌, ◌≤◌, zero, suc, true, List, [], ◌∷◌, Some, None, is_some, refl, sym, ◌∙◌, arith}
use Rattle.std.proofs.lemmas.Bool.{false≢true}
use Rattle.std.proofs.lemmas.Option.{slice_get_within}
use Rattle.std.specs.List.{AllByRecursion}
use Rattle.std.specs.Prelude.{slice_get, unwrap_or}
use Rattle.opfs_base.specs.Places.{Place}
use Rattle.opfs_base.specs.declared.extents.Extent.{Extent}
use Rattle.opfs_books.specs.Laws.Books.{Fixed}
use Rattle.opfs_books.specs.Laws.Commits.{StateLaws}
use Rattle.opfs_data.specs.Pages.{LiesIn}
use Rattle.opfs_data.specs.Places.{AllLie}
use Rattle.opfs_data.specs.Rows.{page_at}
use Rattle.opfs_pages.specs.HistoryLaws.Handles.{AreHandlesWhole}
use Rattle.opfs_pages.specs.HistoryLaws.Open.{if_open, open_at}
use Rattle.opfs_desk_steps.specs.Parts.Held.{AreHeldWhole}
use Rattle.opfs_desk_steps.specs.Parts.Seen.{machine_in, tree_in}
use Rattle.opfs_desk_steps.specs.declared.parts.parts.Ledger.{Ledger}
use Rattle.opfs_desk_steps.specs.declared.parts.parts.OpenPages.{OpenPages}
use Rattle.opfs_desk_bytes.specs.Reading.Files.{AreOfAgents, MayReadFile}
use Rattle.opfs_desk_bytes.proofs.reading.Present.{below, blocks-there, fits, small}
use Rattle.opfs_desk_steps.specs.RowLaws.Inside.{PartsLieInside}
use Rattle.opfs_desk_steps.specs.RowLaws.Stored.{FilesAreStored, HistoriesAreCleared}
use Rattle.opfs_desk_steps.proofs.row_laws.Inside.{lies-by, size-is}
use Rattle.opfs_machine.specs.declared.own.Outline.{Outline}
use Rattle.opfs_machine.specs.Agents.{nobody, own_of}
use Rattle.opfs_outside.specs.declared.disk.Disk.{Ghosts as DiskWords}
use Rattle.opfs_records.specs.Replay.Built.{Built}
use Rattle.opfs_state_rows.specs.Standing.Seen.{Machine, lines_of}
use Rattle.opfs_tree.specs.Rows.{file_at as file_in_tree}
use Rattle.opfs_tree.specs.declared.row.FileRow.{FileRow}
use Rattle.opfs_state.specs.Verdicts.Callers.{IsAgent}

nobody-open : (n : ℕ) → is_some (if_open (own_of {R = Outline} nobody n)) ≡ true → ⊥
nobody-open zero is = false≢true is
nobody-open (suc n) is = false≢true is

of-agent : (m : Machine) (k n : ℕ) → is_some (open_at m k n) ≡ true → IsAgent m k
of-agent m zero n is = absurd (nobody-open n is)
of-agent m (suc i) n is =
    elim (slice_get m.agents i) as (λ o. slice_get m.agents i ≡ o → is_some (if_open (own_of (unwrap_or o nobody) n)) ≡ true → IsAgent m (suc i)) [
      | Some a ↦ λ at some. record { above = omega arith; within = omega (arith, slice_get_within m.agents i a at) }
      | None ↦ λ at some. absurd (nobody-open n some)
    ] refl is

runs-lie : (base end size : ℕ) (extents : List Extent) → base + 4096 * size ≤ end → AllByRecursion (λ (e : Extent). e.start + e.count ≤ size) extents → AllLie base end extents
runs-lie base end size [] inside all = tt
runs-lie base end size (e ∷ more) inside all = (omega (arith, inside, all.0), runs-lie base end size more inside all.1)

module _ (states : StateLaws) {D : Type 0} (w : DiskWords D) (files : FilesAreStored w) (between : HistoriesAreCleared w) (lie : PartsLieInside w) (f : Fixed D) (recorded : Built) (l : Ledger D) (p : OpenPages)
    (held : AreHeldWhole w f recorded l p) where
  pub of-agents : AreOfAgents (machine_in l) p.swap
  of-agents k n is = of-agent (machine_in l) k n (sym (held.laid.rows k n) ∙ is)

  pub pages-lie : (k n i : ℕ) → LiesIn p.base (w.size l.journal.disk) (page_at k n i p.swap).block
  pages-lie k n i =
      let here = lie f recorded l p held in
      lies-by p.base (w.size l.journal.disk) (page_at k n i p.swap).block (λ b has. omega (arith, here.pages k n i b has, here.end))

  pub may-read : (machine_in l).rows ≡ lines_of (tree_in l) → AreHandlesWhole f.opening l.books.history → (place : Place) (found : FileRow) → file_in_tree place (tree_in l) ≡ Some found
      → MayReadFile (machine_in l) place found p.swap p.base (w.size l.journal.disk)
  may-read lines whole place found there =
      let here = lie f recorded l p held in
      record {
        small = small states w files between f recorded l p held lines place found there;
        there = blocks-there states w files between f recorded l p held lines place found there whole;
        fits = fits states w files between f recorded l p held lines place found there;
        lies =
            runs-lie p.base (w.size l.journal.disk) f.geometry.blocks found.extents (omega (arith, here.end, size-is states w f recorded l p held))
            (below states w files between f recorded l p held lines place found there);
      }
