-- What an image holds, and what it shows.
use Rattle.std.proofs.Common.{◌≡◌, ℕ, ◌+◌, ◌<◌, ◌≤◌, true, false, List, [], ◌∷◌, ◌++◌, length, fold, Some, inl, inr, refl, sym, ap, subst, ◌∙◌, arith}
use Rattle.std.proofs.Common.{append_assoc}
use Rattle.std.proofs.lemmas.List.{append-nil}
use Rattle.std.proofs.lemmas.List.Sums.{fold-append}
use Rattle.std.specs.List.{AllByRecursion}
use Rattle.opfs_base.specs.declared.extents.Extent.{Extent}
use Rattle.opfs_codec.specs.declared.change.Format.TheVariants.{New}
use Rattle.opfs_commit.specs.Shown.{IsShown, IsReadAs, Holds}
use Rattle.opfs_data.specs.Calls.{OutsideRuns}
use Rattle.opfs_data.specs.Places.{Aside}
use Rattle.opfs_image.specs.Filling.{Names, Stands}
use Rattle.opfs_image.specs.Superblock.{areas_of, data_base}
use Rattle.opfs_image.specs.declared.geometry.Geometry.{Geometry}
use Rattle.opfs_image.proofs.Beside.{same_geometry, in_data}
use Rattle.opfs_image.proofs.Layering.{unlayered}
use Rattle.opfs_image.proofs.Named.{same_filled}
use Rattle.opfs_image.proofs.Standing.{stands_filled}
use Rattle.opfs_journal.specs.Clauses.{Outside}
use Rattle.opfs_journal.specs.Format.{Stored, records_of}
use Rattle.opfs_machine.specs.Changes.{Change, changed, durable, is_content, floor, floor_from}
use Rattle.opfs_machine.specs.Openings.{Opening, Map}
use Rattle.opfs_outside.specs.Bytes.{Same}
use Rattle.opfs_records.specs.Replay.Built.{Built, all_extents}

aside_below : (g : Geometry) (es : List Extent) (i : ℕ) → i < data_base g → Aside (data_base g) es i
aside_below g [] i lt = tt
aside_below g (e ∷ es) i lt = (inl (omega (arith, lt)), aside_below g es i lt)

module _ (g : Geometry) (b : Built) (m : Map) (c d : List ℕ) (len : length c ≡ length d) (h : Holds g b m d) where
  -- an image with the same head and the same bytes in the blocks that are named holds the same
  pub holds_by : Same (λ i. i < 24) c d → Same (Names (data_base g) b) c d → Holds g b m c
  holds_by head same = record {
    geometry = same_geometry c d len head ∙ h.geometry;
    bytes = same_filled (data_base g) c d b same ∙ h.bytes;
  }

  -- so does one that is the same outside of the areas
  pub same_holds : Same (Outside (areas_of g)) c d → Holds g b m c
  same_holds same = holds_by (λ i lt. same i (inl (omega (arith, lt)))) (λ i named. same i (inr (omega (arith, in_data (data_base g) (all_extents b.rows) i named))))

  -- and one that is the same aside of runs which lie aside of the blocks that are named
  pub same_aside : (extents : List Extent) → ((i : ℕ) → Names (data_base g) b i → Aside (data_base g) extents i) → Same (Aside (data_base g) extents) c d → Holds g b m c
  same_aside extents aside same = holds_by (λ i lt. same i (aside_below g extents i (omega (arith, lt)))) (λ i named. same i (aside i named))

  -- and one that is so outside of runs that lie aside of the blocks that are named
  pub same_beside : (extents : List Extent) → ((i : ℕ) → Names (data_base g) b i → Aside (data_base g) extents i) → Same (OutsideRuns (areas_of g) (data_base g) extents) c d → Holds g b m c
  same_beside extents aside same =
      holds_by (λ i lt. same i (inl (omega (arith, lt)), aside_below g extents i (omega (arith, lt))))
      (λ i named. same i (inr (omega (arith, in_data (data_base g) (all_extents b.rows) i named)), aside i named))

-- An image with the records that build the rows stands for what they hold.
pub stands_by : (g : Geometry) (s : Stored) (b : Built) (m : Map) (c : List ℕ) → IsReadAs g s b → Holds g b m c → records_of (areas_of g) c ≡ Some s → Stands c m
stands_by g s b m c reads h records =
    let read = unlayered New New c (record { geometry = g; built = b }) (record { geometry = h.geometry; stored = s; records = records; format = reads.format; built = reads.builds; fits = reads.fits }) in
    subst (λ (x : Map). Stands c x) h.bytes (stands_filled c g b read)

-- ---- the last content

abbrev pub AllQuiet : List Change → Type 0
AllQuiet later = AllByRecursion (λ change. is_content change ≡ false) later

floor_quiet : (last at : ℕ) (later : List Change) → AllQuiet later → floor_from last at later ≡ last
floor_quiet last at [] quiet = refl
floor_quiet last at (x ∷ xs) quiet = ap (λ t. elim t [ true ↦ floor_from (at + 1) (at + 1) xs | false ↦ floor_from last (at + 1) xs ]) quiet.0 ∙ floor_quiet last (at + 1) xs quiet.1

floor_below : (last at : ℕ) (acked later : List Change) → AllQuiet later → last ≤ at → floor_from last at (acked ++ later) ≤ at + length acked
floor_below last at [] later quiet le = omega (arith, floor_quiet last at later quiet, le)
floor_below last at (x ∷ xs) later quiet le =
    elim (is_content x) as (λ t. elim t [ true ↦ floor_from (at + 1) (at + 1) (xs ++ later) | false ↦ floor_from last (at + 1) (xs ++ later) ] ≤ at + length (x ∷ xs)) [
      | true ↦ omega (arith, floor_below (at + 1) (at + 1) xs later quiet (omega arith))
      | false ↦ omega (arith, floor_below last (at + 1) xs later quiet (omega (arith, le)))
    ]

-- What is kept back has no content, so the last content is among the changes before.
pub floor_kept : (told acked later : List Change) → acked ++ later ≡ told → AllQuiet later → floor told ≤ length acked
floor_kept told acked later split quiet = subst (λ (xs : List Change). floor xs ≤ length acked) split (omega (arith, floor_below 0 0 acked later quiet (omega arith)))

quiet_none : AllQuiet []
quiet_none = tt

pub floor_most : (told : List Change) → floor told ≤ length told
floor_most told = floor_kept told told [] (append-nil told) quiet_none

-- ---- what is stored

pub durable-append : (o : Opening) (xs ys : List Change) → durable o (xs ++ ys) ≡ fold changed (durable o xs) ys
durable-append o xs ys = fold-append changed o.stored xs ys

-- ---- what is shown

pub shown_more : (o : Opening) (least : ℕ) (all more : List Change) (c : List ℕ) → IsShown o least all c → IsShown o least (all ++ more) c
shown_more o least all more c s = record {
  shown = s.shown;
  rest = s.rest ++ more;
  split = sym (append_assoc s.shown s.rest more) ∙ ap (λ xs. xs ++ more) s.split;
  enough = s.enough;
  stands = s.stands;
  sizes = s.sizes;
}

pub shown_least : (o : Opening) (least less : ℕ) (all : List Change) (c : List ℕ) → less ≤ least → IsShown o least all c → IsShown o less all c
shown_least o least less all c le s = record { shown = s.shown; rest = s.rest; split = s.split; enough = omega (arith, le, s.enough); stands = s.stands; sizes = s.sizes }
