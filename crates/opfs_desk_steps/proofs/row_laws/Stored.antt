-- The bytes of files that were last stored for good.
use Rattle.std.proofs.Common.{◌≡◌, ℕ, true, false, cond, List, [], ◌∷◌, ◌++◌, map, fold, length, Option, Some, None, option_map, refl, sym, ap, ◌∙◌, subst}
use Rattle.std.proofs.lemmas.List.{append-nil}
use Rattle.std.proofs.lemmas.List.Sums.{fold-append}
use Rattle.std.specs.FinMap.Entries.{find}
use Rattle.std.specs.List.{AllByRecursion}
use Rattle.std.specs.Ordering.{eq_by_cmp}
use Rattle.opfs_base.specs.Places.{Place, place_cmp}
use Rattle.opfs_base.specs.Texts.{Text}
use Rattle.opfs_books.specs.Stored.Spelled.{stored_built}
use Rattle.opfs_books.specs.Laws.Books.{Fixed, account_of}
use Rattle.opfs_books.specs.Laws.Commits.{CommitLaws}
use Rattle.opfs_books.proofs.laws.Told.{told-whole}
use Rattle.opfs_commit.specs.Seen.{committing}
use Rattle.opfs_data.specs.Places.{bytes_of}
use Rattle.opfs_hist.specs.declared.entry.Entry.{Entry}
use Rattle.opfs_image.specs.Filling.{filled, filled_row}
use Rattle.opfs_image.specs.Superblock.{data_base}
use Rattle.opfs_laws.proofs.histories.Adding.{changes-append}
use Rattle.opfs_laws.specs.Builds.{ChangesBuildTheDurablePart, IsOpeningInOrder}
use Rattle.opfs_laws.proofs.Durables.{map-without}
use Rattle.opfs_laws.specs.Lengths.Outlines.{on_file}
use Rattle.opfs_laws.proofs.lengths.Readers.{file-on}
use Rattle.opfs_machine.specs.Changes.{Change, evict, stored_by, entry_changes, changes_from, changes, changed, durable, durable_row, durable_part}
use Rattle.opfs_machine.specs.Contents.{outline_of}
use Rattle.opfs_machine.specs.declared.own.Own.{Own}
use Rattle.opfs_machine.specs.declared.state.FileRow.{FileRow as File}
use Rattle.opfs_machine.specs.declared.state.Row.{Row as Line}
use Rattle.opfs_machine.specs.declared.state.Row.TheVariants as line
use Rattle.opfs_machine.specs.declared.state.State.{State}
use Rattle.opfs_machine.specs.Histories.{state_after}
use Rattle.opfs_machine.specs.Openings.{Map, Stored, document, begun}
use Rattle.opfs_machine.specs.Runs.{eviction}
use Rattle.opfs_machine.specs.Steps.{evicted}
use Rattle.opfs_machine.specs.Rows.{file_at, file_of}
use Rattle.opfs_machine.specs.Rows.{row_at as line_at}
use Rattle.opfs_outside.specs.declared.disk.Disk.{Ghosts as DiskWords}
use Rattle.opfs_records.specs.Replay.Built.{Built, IsSoundRow, IsSoundFile}
use Rattle.opfs_records.specs.Checkpoint.Written.{stored_file, stored_row, stored_rows}
use Rattle.opfs_state_rows.proofs.standing.Lines.{file-at, file_line}
use Rattle.opfs_state_rows.specs.Standing.Seen.{Machine}
use Rattle.opfs_tree.specs.declared.row.FileRow.{FileRow}
use Rattle.opfs_tree.specs.declared.row.Row.{Row}
use Rattle.opfs_tree.specs.declared.row.Row.TheVariants as row
use Rattle.opfs_tree.specs.Rows.{Rows, row_at}
use Rattle.opfs_tree.specs.Rows.{file_at as file_in_tree, file_of as file_of_row}
use Rattle.opfs_desk_steps.specs.Parts.Held.{AreHeldAt}
use Rattle.opfs_desk_steps.specs.Parts.Seen.{machine_in, tree_in, book_in}
use Rattle.opfs_desk_steps.specs.declared.parts.parts.Ledger.{Ledger}
use Rattle.opfs_desk_steps.specs.declared.parts.parts.OpenPages.{OpenPages}
use Rattle.opfs_desk_steps.specs.RowLaws.Stored.{HasCleared, FilesAreStored, HistoriesAreCleared}

-- ---- look-ups

-- A row that has a file is the file's.
pub row-of : (o : Option Row) (r : FileRow) → file_of_row o ≡ Some r → o ≡ Some (row.File r)
row-of None r is = absurd (none_some is)
  where
    none_some : ◌≡◌ {A = Option FileRow} None (Some r) → ⊥
    none_some e = cc
row-of (Some row.Dir) r is = absurd (none_some is)
  where
    none_some : ◌≡◌ {A = Option FileRow} None (Some r) → ⊥
    none_some e = cc
row-of (Some (row.File x)) r is = ap (λ (y : FileRow). Some (row.File y)) (one is)
  where
    one : {a b : FileRow} → ◌≡◌ {A = Option FileRow} (Some a) (Some b) → a ≡ b
    one e = cc

line-of : (o : Option (Line Text)) (x : File Text) → file_of o ≡ Some x → o ≡ Some (line.File x)
line-of None x is = absurd (none_some is)
  where
    none_some : ◌≡◌ {A = Option (File Text)} None (Some x) → ⊥
    none_some e = cc
line-of (Some line.Directory) x is = absurd (none_some is)
  where
    none_some : ◌≡◌ {A = Option (File Text)} None (Some x) → ⊥
    none_some e = cc
line-of (Some (line.File y)) x is = ap (λ (z : File Text). Some (line.File z)) (one is)
  where
    one : {a b : File Text} → ◌≡◌ {A = Option (File Text)} (Some a) (Some b) → a ≡ b
    one e = cc

-- What a file of the machine in lengths is in the tree.
tree-file : (o : Option FileRow) (x : File ℕ) → option_map file_line o ≡ Some x → (r : FileRow) × (o ≡ Some r) × (file_line r ≡ x)
tree-file None x is = absurd (none_some is)
  where
    none_some : ◌≡◌ {A = Option (File ℕ)} None (Some x) → ⊥
    none_some e = cc
tree-file (Some r) x is = (r, refl, one is)
  where
    one : {a b : File ℕ} → ◌≡◌ {A = Option (File ℕ)} (Some a) (Some b) → a ≡ b
    one e = cc

find-values : {A B : Type 0} (g : A → B) (place : Place) (es : List (Place × A)) → find place_cmp place (map (λ (e : Place × A). (e.0, g e.1)) es) ≡ option_map g (find place_cmp place es)
find-values g place [] = refl
find-values g place (e ∷ es) =
    elim (eq_by_cmp place_cmp place e.0) as (λ b. cond b (Some (g e.1)) (find place_cmp place (map (λ x. (x.0, g x.1)) es)) ≡ option_map g (cond b (Some e.1) (find place_cmp place es))) [
      | true ↦ refl
      | false ↦ find-values g place es
    ]

-- A file of rows as they are stored is sound.
pub sound-at : (size : ℕ) (t : Rows) (place : Place) (r : FileRow) → AllByRecursion (λ e. IsSoundRow size e.1) (stored_rows t) → row_at place t ≡ Some (row.File r) → IsSoundFile size (stored_file r)
sound-at size [] place r all is = absurd (none_some is)
  where
    none_some : ◌≡◌ {A = Option Row} None (Some (row.File r)) → ⊥
    none_some e = cc
sound-at size (e ∷ es) place r all is =
    elim (eq_by_cmp place_cmp place e.0) as (λ b. cond b (Some e.1) (row_at place es) ≡ Some (row.File r) → IsSoundFile size (stored_file r)) [
      | true ↦ λ here. subst (λ (x : Row). IsSoundRow size (stored_row x)) (one here) all.0
      | false ↦ λ later. sound-at size es place r all.1 later
    ] is
  where
    one : {a b : Row} → ◌≡◌ {A = Option Row} (Some a) (Some b) → a ≡ b
    one e = cc

-- Two documents that are the same.
bytes-same : (a b : Text) (m n : ℕ) → ◌≡◌ {A = Option Stored} (Some (document a m)) (Some (document b n)) → a ≡ b
bytes-same a b m n is = cc

-- ---- what is cleared

one-evicted : (s : State Text Own) (unit : Text) → changed (durable_part s) (evict unit) ≡ durable_part (evicted s unit)
one-evicted s unit = ap (λ (rows : List (Place × Stored)). record { rows = rows; persistent = s.persistent }) (sym (map-without (unit, []) s.rows))

entry-evicts : (s : State Text Own) (unit : Text) → entry_changes s (eviction unit) ≡ evict unit ∷ []
unfolding stored_by
entry-evicts s unit = refl

cleared-builds : (s : State Text Own) (units : List Text) → fold changed (durable_part s) (changes_from s (map eviction units)) ≡ durable_part (fold evicted s units)
cleared-builds s [] = refl
cleared-builds s (unit ∷ units) =
    ap (λ (cs : List Change). fold changed (durable_part s) (cs ++ changes_from (evicted s unit) (map eviction units))) (entry-evicts s unit)
    ∙ (ap (λ (m : Map). fold changed m (changes_from (evicted s unit) (map eviction units))) (one-evicted s unit) ∙ cleared-builds (evicted s unit) units)

-- ---- the law

module _ (build : ChangesBuildTheDurablePart) {D : Type 0} (w : DiskWords D) (laws : w.tells → CommitLaws w) where
  -- What was told builds what the state has stored.
  told-builds : (f : Fixed D) (h : List Entry) (base : State Text Own) (gone : List Text) → IsOpeningInOrder f.opening → w.tells → HasCleared w.tells f.opening h base gone
      → durable f.opening (changes f.opening h) ≡ durable_part (fold evicted base gone)
  told-builds f h base gone order t cleared =
      let o = f.opening in
      let front = cleared.front in
      let same : front ≡ cleared.told.real = cleared.told.told t in
      let built : durable o (changes o front) ≡ durable_part base =
      ap (λ (es : List Entry). durable o (changes o es)) same ∙ (build.built o cleared.told.real order cleared.told.legal ∙ (ap (λ (es : List Entry). durable_part (state_after o es)) (sym same) ∙ ap durable_part cleared.state)) in
      ap (λ (es : List Entry). durable o (changes o es)) cleared.grown
      ∙ (ap (λ (cs : List Change). durable o cs) (changes-append (begun o) front (map eviction gone))
      ∙ (fold-append changed o.stored (changes o front) (changes_from (state_after o front) (map eviction gone))
      ∙ (ap (λ (m : Map). fold changed m (changes_from (state_after o front) (map eviction gone))) built
      ∙ (ap (λ (s : State Text Own). fold changed (durable_part base) (changes_from s (map eviction gone))) cleared.state ∙ cleared-builds base gone))))

  -- Where the disk tells, the rows hold what the state has stored.
  pub rows-hold : (f : Fixed D) (recorded : Built) (base : State Text Own) (gone : List Text) (l : Ledger D) (p : OpenPages) → AreHeldAt w f recorded base gone l p → HasCleared w.tells f.opening l.books.history base gone → w.tells
      → filled (data_base f.geometry) (w.content l.journal.disk) (stored_built (tree_in l) (machine_in l).persistent) ≡ durable_part (fold evicted base gone)
  rows-hold f recorded base gone l p held cleared t =
      (laws t).rows (account_of f recorded (book_in l)) (committing l.journal l.books.commits) (held.books.images t)
      ∙ told-builds f l.books.history base gone (record { order = held.books.whole.order; parents = held.books.whole.parents; modes = held.books.whole.modes }) t cleared

  pub files-stored : FilesAreStored w
  files-stored f recorded base gone l p held cleared lines place x is =
      let s = fold evicted base gone in
      let m = machine_in l in
      let lengths : file_at m place ≡ Some (on_file length x) =
      ap (λ (m : Machine). file_at m place) held.books.machine ∙ (file-on length outline_of s place ∙ ap (option_map (on_file length)) is) in
      let found = tree-file (file_in_tree place (tree_in l)) (on_file length x)
      (sym (file-at place (tree_in l)) ∙ (ap (λ (rows : List (Place × Line ℕ)). file_of (find place_cmp place rows)) lines ∙ lengths)) in
      let there = row-of (row_at place (tree_in l)) found.0 found.1 in
      let line = line-of (line_at s place) x is in
      record {
        row = found.0;
        there = found.1;
        size = ap (λ (y : File ℕ). y.durable) found.2;
        present = ap (λ (y : File ℕ). y.present) found.2;
        sound = sound-at f.geometry.blocks (tree_in l) place found.0 held.books.stored.sound.files there;
        bytes = λ t.
            let start = data_base f.geometry in
            let c = w.content l.journal.disk in
            let left : find place_cmp place (filled start c (stored_built (tree_in l) m.persistent)).rows ≡ Some (document (bytes_of c start found.0.extents found.0.length) found.0.stamp) =
            find-values (filled_row start c) place (stored_rows (tree_in l)) ∙ ap (option_map (filled_row start c)) (find-values stored_row place (tree_in l) ∙ ap (option_map stored_row) there) in
            let right : find place_cmp place (durable_part s).rows ≡ Some (document x.durable x.durable_stamp) = find-values durable_row place s.rows ∙ ap (option_map durable_row) line in
            ap (λ (b : ℕ). bytes_of c b found.0.extents found.0.length) held.tied.base
            ∙ bytes-same (bytes_of c start found.0.extents found.0.length) x.durable found.0.stamp x.durable_stamp (sym left ∙ (ap (λ (y : Map). find place_cmp place y.rows) (rows-hold f recorded base gone l p held cleared t) ∙ right));
      }

  pub histories-cleared : HistoriesAreCleared w
  histories-cleared f recorded l p held = record {
    front = l.books.history;
    told = told-whole w.tells f.opening l.books.history (state_after f.opening l.books.history) held.books.told;
    state = refl;
    grown = sym (append-nil l.books.history);
  }
