-- What is kept back, what a record with it makes, and how it begins.
use Rattle.std.proofs.Common.{◌≡◌, ℕ, ◌+◌, ◌≤◌, Bool, true, false, not, List, [], ◌∷◌, ◌++◌, fold, Some, inl, inr, refl, sym, ap, subst, ◌∙◌, append_assoc}
use Rattle.std.specs.Prelude.{if◌then◌else◌}
use Rattle.std.proofs.lemmas.List.{append-nil, length-append}
use Rattle.std.proofs.lemmas.List.Sums.{fold-append}
use Rattle.std.proofs.lemmas.Bool.{true≢false}
use Rattle.opfs_codec.specs.Spelling.{spelling, IsChange}
use Rattle.opfs_codec.specs.declared.change.Format.TheVariants.{New}
use Rattle.opfs_codec.specs.Charges.{charge}
use Rattle.opfs_codec.specs.declared.change.Change.{Change as Spelled}
use Rattle.opfs_commit.specs.Calls.{IsNext, IsNextAlone}
use Rattle.opfs_commit.specs.Images.{Account, AreImages, keeping}
use Rattle.opfs_commit.specs.Making.{IsToStore, IsKept, IsOwn}
use Rattle.opfs_commit.specs.Seen.{Committing, committing, has_room, with_kept}
use Rattle.opfs_commit.specs.Shown.{IsReadAs, Holds}
use Rattle.opfs_commit.proofs.Holding.{AllQuiet}
use Rattle.opfs_commit.proofs.Resting.{rows_are}
use Rattle.opfs_commit.proofs.Spelling.{room_is}
use Rattle.opfs_commit.proofs.Writing.{kept_none}
use Rattle.opfs_image.specs.Agreeing.{IsJournalOf, IsImageOf}
use Rattle.opfs_image.specs.Filling.{filled}
use Rattle.opfs_image.specs.Superblock.{area_bytes, areas_of, data_base, limits_by}
use Rattle.opfs_image.specs.declared.geometry.Geometry.{Geometry}
use Rattle.opfs_image.proofs.Layering.{layered}
use Rattle.opfs_journal.specs.Format.{Stored, records_of}
use Rattle.opfs_journal.specs.Seen.{Seen, kept, with_record, one_record}
use Rattle.opfs_machine.specs.Changes.{Change, changed, durable, is_content}
use Rattle.opfs_machine.specs.Openings.{Opening}
use Rattle.opfs_outside.specs.declared.disk.Disk.{Ghosts as DiskWords}
use Rattle.opfs_records.specs.Replay.Applying.{tried, rows_of}
use Rattle.opfs_records.specs.Replay.Built.{Built, IsSound}
use Rattle.opfs_records.specs.Replay.Sums.{charge_of}
use Rattle.opfs_records.specs.Checkpoint.Building.{Builds}
use Rattle.opfs_records.proofs.checkpoint.Building.{builds_one, builds_both, rows_more}

quiet_more : (later : List Change) (change : Change) → AllQuiet later → is_content change ≡ false → AllQuiet (later ++ change ∷ [])
quiet_more [] change quiet is = (is, tt)
quiet_more (x ∷ xs) change quiet is = (quiet.0, quiet_more xs change quiet.1 is)

module _ {D : Type 0} (w : DiskWords D) (a : Account) (k : Committing D) (images : AreImages w a k) (settled : k.journal.in_doubt ≡ false) where
  abbrev g : Geometry
  g = a.geometry

  -- one change more is kept back
  module _ (spelled : Spelled) (change : Change) (built : Built) (is : IsKept a spelled change built) where
    builds_by : (t : Bool) → has_room k.back (charge spelled) ≡ t → not t ≡ false → Builds g.blocks (if t then k.back.bytes ++ spelling New spelled else []) a.recorded built
    builds_by false room long = absurd (true≢false long)
    builds_by true room long =
        builds_both g.blocks k.back.bytes (spelling New spelled) a.recorded a.rows built (images.kept_back.builds (room_is k.back (charge spelled) room).0) (builds_one g.blocks spelled a.rows built is.again is.found)

    pub keep_images : AreImages w (keeping a change built) (committing k.journal (with_kept k.back spelled))
    keep_images = record {
      acked = images.acked;
      later = images.later ++ change ∷ [];
      split = sym (append_assoc images.acked images.later (change ∷ [])) ∙ ap (λ (xs : List Change). xs ++ change ∷ []) images.split;
      limits = images.limits;
      areas = images.areas;
      reads = images.reads;
      kept_back = record {
        builds = builds_by (has_room k.back (charge spelled)) refl;
        makes = λ base c. is.makes base c ∙ ap (λ m. changed m change) (images.kept_back.makes base c) ∙ sym (fold-append changed (filled base c a.recorded) images.later (change ∷ []));
        quiet = quiet_more images.later change images.kept_back.quiet is.quiet;
      };
      count = length-append images.later (change ∷ []) ∙ ap (λ n. n + 1) images.count;
      here = images.here;
      holds = images.holds;
      one_of = images.one_of;
      doubt = λ unsure. absurd (true≢false (sym unsure ∙ settled));
    }

  module _ (short : k.back.long ≡ false) where
    -- What a record of what is kept back and of one change more makes.
    pub own_to_store : (spelled : Spelled) (change : Change) (built : Built) → IsChange New spelled → tried New g.blocks a.rows spelled ≡ Some built → charge_of New built + 7 ≤ area_bytes g
        → filled (data_base g) (w.content k.journal.disk) built ≡ changed (filled (data_base g) (w.content k.journal.disk) a.rows) change
        → IsToStore w a (change ∷ []) (with_record (kept k.journal) (k.back.bytes ++ spelling New spelled)) built k.journal
    own_to_store spelled change built again found fits makes = record {
      reads = record {
        format = images.reads.format;
        builds = rows_more g.blocks k.journal.records (k.back.bytes ++ spelling New spelled) a.recorded built images.reads.builds
            (builds_both g.blocks k.back.bytes (spelling New spelled) a.recorded a.rows built (images.kept_back.builds short) (builds_one g.blocks spelled a.rows built again found));
        fits = fits;
      };
      bytes = makes ∙ ap (λ m. changed m change) (rows_are w a k images) ∙ sym (fold-append changed a.opening.stored a.told (change ∷ []));
    }

    -- And what one of what is kept back alone makes.
    pub kept_to_store : charge_of New a.rows + 7 ≤ area_bytes g → IsToStore w a [] (with_record (kept k.journal) k.back.bytes) a.rows k.journal
    kept_to_store fits = record {
      reads = record { format = images.reads.format; builds = rows_more g.blocks k.journal.records k.back.bytes a.recorded a.rows images.reads.builds (images.kept_back.builds short); fits = fits };
      bytes = rows_are w a k images ∙ ap (durable a.opening) (sym (append-nil a.told));
    }

  -- What a record that builds this from nothing makes.
  pub alone_to_store : (own : List Change) (body : List ℕ) (built : Built) → rows_of New g.blocks (body ∷ []) ≡ Some built → charge_of New built + 7 ≤ area_bytes g
      → filled (data_base g) (w.content k.journal.disk) built ≡ fold changed (filled (data_base g) (w.content k.journal.disk) a.rows) own → IsToStore w a own (one_record k.journal.format body) built k.journal
  alone_to_store own body built builds fits makes = record {
    reads = record { format = images.reads.format; builds = builds; fits = fits };
    bytes = makes ∙ ap (λ m. fold changed m own) (rows_are w a k images) ∙ sym (fold-append changed a.opening.stored a.told own);
  }

  -- So do those of a commit.
  pub next_to_store : (spelled : Spelled) (change : Change) (built : Built) (next : Stored) → IsSound g.blocks a.rows.rows → IsOwn w a spelled change built k.journal → IsNext a.rows spelled k next → IsToStore w a (change ∷ []) next built k.journal
  next_to_store spelled change built next sound is (inl kind) = subst (λ (s : Stored). IsToStore w a (change ∷ []) s built k.journal) (sym kind.same) (own_to_store (room_is k.back (charge spelled) kind.room.short).0 spelled change built is.again is.found is.fits is.makes)
  next_to_store spelled change built next sound is (inr kind) =
      subst (λ (s : Stored). IsToStore w a (change ∷ []) s built k.journal) (sym kind.same) (alone_to_store (change ∷ []) kind.body built (kind.kind g.blocks built sound is.found) is.fits is.makes)

  pub next_alone_to_store : (next : Stored) → IsSound g.blocks a.rows.rows → charge_of New a.rows + 7 ≤ area_bytes g → IsNextAlone a.rows k next → IsToStore w a [] next a.rows k.journal
  next_alone_to_store next sound fits (inl kind) = subst (λ (s : Stored). IsToStore w a [] s a.rows k.journal) (sym kind.same) (kept_to_store kind.room.short fits)
  next_alone_to_store next sound fits (inr kind) = subst (λ (s : Stored). IsToStore w a [] s a.rows k.journal) (sym kind.same) (alone_to_store [] kind.body a.rows (kind.kind g.blocks sound) fits refl)

-- ---- as it begins

some_same : (s t : Stored) → Some s ≡ Some t → s ≡ t
some_same s t e = cc

module _ {D : Type 0} (w : DiskWords D) (o : Opening) (g : Geometry) (built : Built) (journal : Seen D) (of : IsJournalOf w.size g journal) (image : IsImageOf w.content w.moment w.since g built journal)
    (limits : o.limits ≡ limits_by g) (stored : o.stored ≡ filled (data_base g) (w.content journal.disk) built) where
  pub begun_images : (k : Committing D) → k.journal ≡ record journal { spare = k.journal.spare } → k.back.bytes ≡ [] → k.back.count ≡ 0 → k.back.long ≡ false
      → AreImages w (record { opening = o; geometry = g; told = []; doubted = []; recorded = built; rows = built }) k
  begun_images k is bytes count long =
      let parts = layered New New (w.content journal.disk) (record { geometry = g; built = built }) image.reads in
      let same : parts.stored ≡ kept journal = some_same parts.stored (kept journal) (sym parts.records ∙ image.records) in
      let a : Account = record { opening = o; geometry = g; told = []; doubted = []; recorded = built; rows = built } in
      let here : Holds g built o.stored (w.content journal.disk) = record { geometry = parts.geometry; bytes = sym stored } in
      let reads : IsReadAs g (kept journal) built = subst (λ (s : Stored). IsReadAs g s built) same (record { format = parts.format; builds = parts.built; fits = parts.fits }) in
      let first : AreImages w a (committing (record journal { spare = k.journal.spare }) (record { bytes = []; count = 0; long = false; room = k.back.room })) = record {
        acked = [];
        later = [];
        split = refl;
        limits = limits;
        areas = of.areas;
        reads = reads;
        kept_back = kept_none g.blocks built;
        count = refl;
        here = here;
        holds = λ c now. subst (Holds g built o.stored) (sym (image.one_image c now)) here;
        one_of = λ c now. inl (ap (records_of (areas_of g)) (image.one_image c now) ∙ image.records);
        doubt = λ unsure. absurd (true≢false (sym unsure ∙ of.settled));
      } in
      subst (λ (x : Committing D). AreImages w a x) (λ i. committing (sym is i) (record { bytes = sym bytes i; count = sym count i; long = sym long i; room = k.back.room })) first
