-- The books as a run begins.
use Rattle.std.proofs.Common.{◌≡◌, inl, ℕ, ◌+◌, ◌≤◌, false, [], ◌∷◌, sum_by, None, refl, sym, ap, ◌∙◌, subst, arith}
use Rattle.std.specs.List.{count_by}
use Rattle.std.proofs.lemmas.Bool.{false≢true}
use Rattle.std.proofs.lemmas.List.Sums.{sum_by-cons}
use Rattle.opfs_base.specs.Measures.{is_root}
use Rattle.opfs_base.specs.Places.{Place}
use Rattle.opfs_books.specs.Stored.Spelled.{stored_built}
use Rattle.opfs_books.specs.Laws.Books.{Fixed, account_of, AreBooks, roots}
use Rattle.opfs_books.specs.Laws.Commits.{CommitLaws}
use Rattle.opfs_books.proofs.laws.Counting.{one_if, count-cons}
use Rattle.opfs_codec.specs.declared.change.Format.TheVariants.{New}
use Rattle.opfs_commit.specs.Images.{AreImages}
use Rattle.opfs_commit.specs.Making.{begun_with}
use Rattle.opfs_commit.specs.Seen.{KeptBack, committing}
use Rattle.opfs_commit.specs.Trail.{IsTrail}
use Rattle.opfs_image.specs.Superblock.{area_bytes}
use Rattle.opfs_journal.specs.Seen.{Seen}
use Rattle.opfs_machine.specs.Changes.{floor}
use Rattle.opfs_outside.specs.declared.disk.Disk.{Ghosts as DiskWords}
use Rattle.opfs_records.specs.Replay.Built.{Built, IsSound}
use Rattle.opfs_records.specs.Replay.Sums.{row_charge, charge_of}
use Rattle.opfs_records.specs.Checkpoint.Written.{AreWritable, stored_rows}
use Rattle.opfs_records.proofs.checkpoint.StoredRows.{stored_writable}
use Rattle.opfs_state_rows.specs.Standing.Seen.{Machine}
use Rattle.opfs_tree.specs.Rows.{Rows}
use Rattle.opfs_tree.specs.declared.row.Row.{Row}
use Rattle.opfs_tree.specs.declared.row.Row.TheVariants as row
use Rattle.opfs_books.specs.Opened.{IsOpened}
use Rattle.opfs_books.proofs.laws.Fronts.{none-recent}
use Rattle.opfs_books.specs.Seen.{book}

root-charged : (place : Place) (r : Row) → one_if (is_root place) ≤ row_charge New place r
root-charged (unit, []) row.Dir = omega arith
root-charged (unit, name ∷ names) row.Dir = omega arith
root-charged (unit, []) (row.File f) = omega arith
root-charged (unit, name ∷ names) (row.File f) = omega arith

roots-charged : (rows : Rows) → count_by (λ e. is_root e.0) rows ≤ sum_by (λ e. row_charge New e.0 e.1) rows
roots-charged [] = omega arith
roots-charged (e ∷ es) = omega (arith, roots-charged es, root-charged e.0 e.1, count-cons (λ (x : Place × Row). is_root x.0) e es, sum_by-cons (λ (x : Place × Row). row_charge New x.0 x.1) e es)

few-roots : (b : Built) → roots b ≤ charge_of New b
unfolding charge_of
few-roots b = omega (arith, roots-charged b.rows)

pub starts : {D : Type 0} (w : DiskWords D) → (w.tells → CommitLaws w) → (f : Fixed D) (recorded : Built) (m : Machine) (t : Rows) (room : ℕ) (j : Seen D) → IsOpened w f recorded m t room j
    → (j2 : Seen D) (back : KeptBack) → j2 ≡ record j { spare = j2.spare } → room ≤ j2.spare → back ≡ record { bytes = []; count = 0; long = false; room = room }
    → AreBooks w f recorded (book [] m t back None) j2
starts {D} w laws f recorded m t room j is j2 back journal spare none =
    let o = f.opening in
    let b = book [] m t back None in
    let disk : f.begun ≡ j2.disk = is.begun ∙ sym (ap (λ (x : Seen D). x.disk) journal) in
    let stored_writes : AreWritable (stored_rows t) m.persistent = (stored_writable t is.writable.0, is.writable.1) in
    let fits : charge_of New (stored_built t m.persistent) + 7 ≤ area_bytes f.geometry = subst (λ (x : Built). charge_of New x + 7 ≤ area_bytes f.geometry) (sym is.rows) is.fits in
    let account : begun_with o f.geometry recorded ≡ account_of f recorded b = λ i. record { opening = o; geometry = f.geometry; told = []; doubted = []; recorded = recorded; rows = sym is.rows i } in
    let images : (t2 : w.tells) → AreImages w (begun_with o f.geometry recorded) (committing j2 back) = λ t2.
    (laws t2).begins o f.geometry recorded j (committing j2 back)
    (record { limits = is.limits; journal = is.journal; image = is.image t2; stored = is.stored; same = journal; none = λ i. record { bytes = ap (λ (x : KeptBack). x.bytes) none i; count = ap (λ (x : KeptBack). x.count) none i; long = ap (λ (x : KeptBack). x.long) none i; room = back.room } }) in
    record {
      whole = is.whole;
      limits = is.limits;
      told = record { real = []; opened = (refl, refl); alike = refl; told = λ t2. refl };
      machine = is.machine;
      few = record { each = λ k. omega arith; agents = λ k far. refl; none = refl; gone = omega (arith, few-roots (stored_built t m.persistent), fits, is.range) };
      images = λ t2. subst (λ a. AreImages w a (committing j2 back)) account (images t2);
      trail = λ t2 steady. subst (λ (d : D). IsTrail w o [] d j2.disk) (sym disk) ((laws t2).trail_begins o (floor []) j2.disk ((laws t2).fronts (begun_with o f.geometry recorded) (committing j2 back) (images t2)));
      recent = none-recent o [] None refl;
      counted = record {
        faults = inl (omega (arith, ap w.faults disk));
        fewer = omega (arith, ap w.faults disk);
        raised = λ d. absurd (false≢true (sym is.journal.settled ∙ (sym (ap (λ (x : Seen D). x.in_doubt) journal) ∙ d)));
      };
      areas = ap (λ (x : Seen D). x.areas) journal ∙ is.journal.areas;
      spare = omega (arith, ap (λ (x : KeptBack). x.room) none, spare);
      room = omega (arith, ap (λ (x : KeptBack). x.room) none, is.asked);
      stored = record { sound = subst (λ (x : Built). IsSound f.geometry.blocks x.rows) (sym is.rows) is.sound; writable = stored_writes; fits = fits };
      most = omega (arith, ap (λ (x : KeptBack). x.count) none);
    }
