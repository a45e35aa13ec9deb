-- A run that begins over a recovered image.
use Rattle.std.proofs.Common.{◌≡◌, ℕ, ◌≤◌, Bool, true, false, cond, ◌&&◌, IsTrue, List, [], ◌∷◌, filter, map, length, sum_by, refl, sym, ap, ◌∙◌, arith}
use Rattle.std.specs.List.{AllByRecursion}
use Rattle.std.specs.Ordering.{is_lt}
use Rattle.std.specs.declared.cmp.Ordering.TheVariants.{Less}
use Rattle.std.specs.List.Sorted.{IsStrictlySortedBy}
use Rattle.std.specs.Map.{keys_of}
use Rattle.opfs_base.specs.Measures.{mode_charge}
use Rattle.opfs_base.specs.Texts.{Text, same_text}
use Rattle.opfs_codec.specs.declared.change.Format.TheVariants.{New}
use Rattle.opfs_image.specs.Agreeing.{built_in, Agrees}
use Rattle.opfs_image.specs.Superblock.{area_bytes, data_base, is_in_range}
use Rattle.opfs_image.specs.declared.geometry.Geometry.{Geometry}
use Rattle.opfs_laws.specs.Whole.{IsWholeOpening, is_below, is_rising}
use Rattle.opfs_laws.proofs.lengths.Instance.{lengths-fit}
use Rattle.opfs_laws.proofs.lengths.SameRoom.{pool-on, charge-on}
use Rattle.opfs_laws.specs.Lengths.Outlines.{in_lengths_of}
use Rattle.opfs_machine.specs.Contents.{in_bytes, in_lengths, outline_of}
use Rattle.opfs_machine.specs.Openings.{Opening, begun}
use Rattle.opfs_machine.specs.Sums.{all_own, reserve_of, pool, charge}
use Rattle.opfs_records.specs.Replay.Built.{named}
use Rattle.opfs_records.specs.Replay.Sums.{charge_of}
use Rattle.opfs_records.specs.Replay.Sums.{persistent_in as listed}
use Rattle.opfs_register.specs.declared.seat.Who.{Who}
use Rattle.opfs_books.proofs.sharing.Modes.{modes-alike}
use Rattle.opfs_shed.specs.declared.shed.Bucket.{Bucket}
use Rattle.opfs_shed.specs.Buckets.{Buckets, Storage, text_cmp}
use Rattle.opfs_state_rows.specs.Standing.Beginnings.{IsBegun}
use Rattle.opfs_state_rows.specs.Standing.Seen.{Machine, persistent_in}
use Rattle.opfs_state_rows.specs.Standing.Sums.{stream_where}
use Rattle.opfs_state.specs.Applied.{opened}
use Rattle.opfs_tree.specs.Rows.{Rows, IsInOrder, IsClosed}
use Rattle.opfs_books.specs.Openings.Openings.{limits_by, opening_by}
use Rattle.opfs_books.proofs.openings.Begun.{rows-alike, order-begun, closed-begun, agents-alike, none-own}
use Rattle.opfs_books.proofs.openings.Counted.{rows-named, named-fit, rows-charged, rows-used}

-- ---- the sizes

pub in-range : (g : Geometry) → is_in_range g ≡ true → area_bytes g ≤ 16777216
in-range g is = grind (arith, is)

-- ---- the persistent units stand in order

later : (x : Text) (es : Buckets) → AllByRecursion (λ y. text_cmp x y ≡ Less) (keys_of es) → IsTrue (is_below x (listed es))
later x [] all = refl
later x (e ∷ es) all =
    elim e.1.persistent as (λ t. IsTrue (is_below x (map (λ (b : Text × Bucket). b.0) (cond t (e ∷ filter (λ b. b.1.persistent) es) (filter (λ b. b.1.persistent) es))))) [
      | true ↦ ap (λ o. is_lt o && is_below x (listed es)) all.0 ∙ later x es all.1
      | false ↦ later x es all.1
    ]

rising : (es : Buckets) → IsStrictlySortedBy text_cmp (keys_of es) → IsTrue (is_rising (listed es))
unfolding IsStrictlySortedBy
rising [] sorted = refl
rising (e ∷ es) sorted =
    elim e.1.persistent as (λ t. IsTrue (is_rising (map (λ (b : Text × Bucket). b.0) (cond t (e ∷ filter (λ b. b.1.persistent) es) (filter (λ b. b.1.persistent) es))))) [
      | true ↦ ap (λ b. b && is_rising (listed es)) (later e.0 es sorted.0) ∙ rising es sorted.1
      | false ↦ rising es sorted.1
    ]

module _ (g : Geometry) (c : List ℕ) (t : Rows) (shed : Storage) (used : List Bool) (total : ℕ) (agents : List Who) (agrees : Agrees g t shed used total) (order : IsInOrder t) (closed : IsClosed t)
    (sorted : IsStrictlySortedBy text_cmp (keys_of shed.buckets)) where
  abbrev m : Machine
  m = opened t shed (limits_by g) agents

  abbrev o : Opening
  o = opening_by g c (built_in t shed) agents

  pub modes : listed shed.buckets ≡ persistent_in shed.buckets
  modes = modes-alike shed.buckets sorted

  -- The machine in lengths is that of the opening.
  pub same : m ≡ in_lengths_of (begun o)
  same =
      let rows = rows-alike (data_base g) c g.blocks t agrees.parts.sound.files in
      let who = agents-alike agents in
      λ i. record {
        rows = rows i;
        persistent = sym modes i;
        posted = [];
        agents = who i;
        entries = 0;
        used = [];
        limits = limits_by g;
      }

  -- No agent has a row.
  pub bare : all_own m ≡ []
  bare = none-own agents

  pool-is : pool in_lengths m ≡ length (named t)
  pool-is = omega (arith, rows-named g.blocks t agrees.parts.sound.files, ap (sum_by reserve_of) bare)

  pub fits-pool : pool in_lengths m ≤ g.blocks
  fits-pool = omega (arith, pool-is, named-fit g.blocks t agrees.parts.sound)

  pub charged : charge in_lengths m ≡ charge_of New (built_in t shed)
  unfolding charge_of
  charged =
      omega (
        arith,
        rows-charged g.blocks t agrees.parts.sound.files,
        rows-named g.blocks t agrees.parts.sound.files,
        pool-is,
        ap (sum_by mode_charge) modes,
      )

  pub begins : IsBegun m shed total
  begins = record {
    own = bare;
    quota = agrees.parts.quota;
    usage = λ unit. agrees.parts.usage unit ∙ omega (arith, rows-used g.blocks unit t agrees.parts.sound.files, ap (sum_by (stream_where (same_text unit))) bare);
    room = fits-pool;
    charged = agrees.parts.charge_is ∙ sym charged;
  }

  pub whole : IsWholeOpening o
  whole =
      let there = ap (λ (x : Machine). pool in_lengths x) same in
      let cost = ap (λ (x : Machine). charge in_lengths x) same in
      record {
        order = order-begun (data_base g) c t order;
        parents = closed-begun (data_base g) c t closed;
        modes = rising shed.buckets sorted;
        pool = omega (arith, pool-on in_bytes in_lengths length outline_of lengths-fit (begun o), there, fits-pool);
        area = omega (arith, charge-on in_bytes in_lengths length outline_of lengths-fit (begun o), cost, charged, agrees.parts.charge_is, agrees.fits);
      }
