-- What the images show now.
use Rattle.std.proofs.Common.{◌≡◌, ℕ, false, List, [], ◌∷◌, ◌++◌, length, fold, Some, inl, inr, refl, sym, ap, subst, ◌∙◌, append_assoc, arith}
use Rattle.std.proofs.lemmas.Bool.{true≢false}
use Rattle.std.proofs.lemmas.List.{append-nil, length-append}
use Rattle.opfs_commit.specs.Images.{Account, IsDoubt, AreImages}
use Rattle.opfs_commit.specs.Seen.{Committing}
use Rattle.opfs_commit.specs.Shown.{IsShown, Holds}
use Rattle.opfs_commit.proofs.Holding.{stands_by, floor_kept, floor_most, durable-append}
use Rattle.opfs_image.specs.Filling.{Stands, filled}
use Rattle.opfs_image.specs.Superblock.{areas_of, data_base}
use Rattle.opfs_journal.specs.Calls.{MayBe}
use Rattle.opfs_journal.specs.Format.{records_of}
use Rattle.opfs_journal.specs.Seen.{kept}
use Rattle.opfs_machine.specs.Changes.{Change, durable, changed, floor}
use Rattle.opfs_outside.specs.declared.disk.Disk.{Ghosts as DiskWords}

pub none_left : (xs : List Change) → length xs ≡ 0 → xs ≡ []
none_left [] h = refl
none_left (x ∷ xs) h = absurd (omega (arith, h))

module _ {D : Type 0} (w : DiskWords D) (a : Account) (k : Committing D) (images : AreImages w a k) where
  -- An image with the journal's records shows all but what is kept back.
  pub shown_kept : (c : List ℕ) → Holds a.geometry a.recorded (durable a.opening images.acked) c → records_of (areas_of a.geometry) c ≡ Some (kept k.journal) → IsShown a.opening (floor a.told) a.told c
  shown_kept c h records = record {
    shown = images.acked;
    rest = images.later;
    split = images.split;
    enough = floor_kept a.told images.acked images.later images.split images.kept_back.quiet;
    stands = stands_by a.geometry (kept k.journal) a.recorded (durable a.opening images.acked) c images.reads h records;
    sizes = record { geometry = a.geometry; found = h.geometry; limits = sym images.limits };
  }

  -- One with the records in doubt shows all, with what is in doubt.
  pub shown_doubt : (doubt : IsDoubt w a k.journal) (c : List ℕ) → Holds a.geometry doubt.over (durable a.opening (a.told ++ a.doubted)) c → records_of (areas_of a.geometry) c ≡ Some k.journal.doubt
      → IsShown a.opening (floor a.told) (a.told ++ a.doubted) c
  shown_doubt doubt c h records = record {
    shown = a.told ++ a.doubted;
    rest = [];
    split = append-nil (a.told ++ a.doubted);
    enough = omega (arith, floor_most a.told, length-append a.told a.doubted);
    stands = stands_by a.geometry k.journal.doubt doubt.over (durable a.opening (a.told ++ a.doubted)) c doubt.reads h records;
    sizes = record { geometry = a.geometry; found = h.geometry; limits = sym images.limits };
  }

  -- So each image that a crash may leave now shows a front, at least up to the last content.
  pub at_rest : (c : List ℕ) → MayBe w k.journal c → IsShown a.opening (floor a.told) (a.told ++ a.doubted) c
  at_rest c now =
      elim (images.one_of c now) [
        | inl records ↦ shown_more_told (shown_kept c (images.holds c now) records)
        | inr both ↦ let doubt = images.doubt both.0 in shown_doubt doubt c (doubt.holds c now) both.1
      ]
    where
      shown_more_told : IsShown a.opening (floor a.told) a.told c → IsShown a.opening (floor a.told) (a.told ++ a.doubted) c
      shown_more_told s = record {
        shown = s.shown;
        rest = s.rest ++ a.doubted;
        split = sym (append_assoc s.shown s.rest a.doubted) ∙ ap (λ xs. xs ++ a.doubted) s.split;
        enough = s.enough;
        stands = s.stands;
        sizes = s.sizes;
      }

  -- The present rows hold, in the content, all that was told.
  pub rows_are : filled (data_base a.geometry) (w.content k.journal.disk) a.rows ≡ durable a.opening a.told
  rows_are =
      images.kept_back.makes (data_base a.geometry) (w.content k.journal.disk)
      ∙ ap (λ m. fold changed m images.later) images.here.bytes
      ∙ sym (durable-append a.opening images.acked images.later)
      ∙ ap (durable a.opening) images.split

  all_acked : k.back.count ≡ 0 → images.acked ≡ a.told
  all_acked none =
      let empty : images.later ≡ [] = none_left images.later (images.count ∙ none) in
      sym (append-nil images.acked) ∙ ap (λ xs. images.acked ++ xs) (sym empty) ∙ images.split

  -- With nothing kept back and no gate in doubt, each image stands for all that was told.
  pub rest_stands : k.back.count ≡ 0 → k.journal.in_doubt ≡ false → (c : List ℕ) → MayBe w k.journal c → Stands c (durable a.opening a.told)
  rest_stands none sure c now =
      elim (images.one_of c now) [
        | inl records ↦
            subst (λ (xs : List Change). Stands c (durable a.opening xs)) (all_acked none)
            (stands_by a.geometry (kept k.journal) a.recorded (durable a.opening images.acked) c images.reads (images.holds c now) records)
        | inr both ↦ absurd (true≢false (sym both.0 ∙ sure))
      ]

  -- With nothing kept back, a content that has the journal's records stands for all that was told.
  pub finished : k.back.count ≡ 0 → records_of (areas_of a.geometry) (w.content k.journal.disk) ≡ Some (kept k.journal) → Stands (w.content k.journal.disk) (durable a.opening a.told)
  finished none records =
      subst (λ (xs : List Change). Stands (w.content k.journal.disk) (durable a.opening xs)) (all_acked none)
      (stands_by a.geometry (kept k.journal) a.recorded (durable a.opening images.acked) (w.content k.journal.disk) images.reads images.here records)
