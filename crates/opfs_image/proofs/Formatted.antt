-- An image as it is formatted.
use Rattle.std.proofs.Common.{◌≡◌, ℕ, ◌+◌, ◌-◌, ◌*◌, ◌<◌, ◌≤◌, Bool, true, false, List, [], length, replicate, refl, sym, ◌∙◌, ap, arith}
use Rattle.std.specs.Prelude.{Some, Ok, drop, slice_index, nat_lt, nat_le, ◌&&◌, ◌==◌}
use Rattle.std.proofs.lemmas.List.{get_or-replicate}
use Rattle.std.specs.Int.{w32, to_le_bytes}
use Rattle.std.proofs.lemmas.Nat.{from_le_bytes-to_le_bytes_4}
use Rattle.opfs_codec.specs.declared.change.Format.TheVariants.{New}
use Rattle.opfs_machine.specs.Openings.{empty_map}
use Rattle.opfs_outside.specs.Bytes.{window, Same}
use Rattle.opfs_outside.specs.Windows.{slice_index-window}
use Rattle.opfs_journal.specs.Format.{is_open, number_at, chosen, chosen_in, format_of}
use Rattle.opfs_journal.specs.declared.areas.Areas.{Areas}
use Rattle.opfs_journal.proofs.Frames.{number_of}
use Rattle.opfs_records.specs.Replay.Applying.{built_by, built_within}
use Rattle.opfs_records.specs.Replay.Built.{nothing_built}
use Rattle.opfs_records.specs.Replay.Sums.{charge_of}
use Rattle.opfs_image.specs.Empty.{head_bytes, IsEmptyJournal}
use Rattle.opfs_image.specs.Filling.{Stands, map_of}
use Rattle.opfs_image.specs.Reading.{read_as, area_built}
use Rattle.opfs_image.specs.Superblock.{geometry_by, geometry_in, geometry_of, has_magic, has_version, areas_of, area_bytes, image_size, is_in_range, is_between}
use Rattle.opfs_image.specs.declared.geometry.Geometry.{Geometry}
use Rattle.opfs_image.proofs.Heads.{long_is}
use Rattle.opfs_image.proofs.Images.{image_read}
use Rattle.opfs_image.proofs.Yielding.{yields_shut, yields_more, area_is}

both_true : (x y : Bool) → (x && y) ≡ true → (x ≡ true) × (y ≡ true)
both_true true true e = (refl, refl)
both_true true false e = absurd (cc)
both_true false y e = absurd (cc)

between : (least most n : ℕ) → is_between least most n ≡ true → (least ≤ n) × (n ≤ most)
between least most n e = let b = both_true (nat_le least n) (nat_le n most) e in (search (arith, b.0), search (arith, b.1))

-- numbers in range are small
pub range_parts : (g : Geometry) → is_in_range g ≡ true → (g.areas ≤ 4096) × (g.blocks ≤ 65536) × (g.quota ≤ 65536)
range_parts g range =
    let b = both_true (is_between 1 4096 g.areas && is_between 1 65536 g.blocks) (is_between 1 65536 g.quota) range in
    let d = both_true (is_between 1 4096 g.areas) (is_between 1 65536 g.blocks) b.0 in
    ((between 1 4096 g.areas d.0).1, (between 1 65536 g.blocks d.1).1, (between 1 65536 g.quota b.1).1)

chosen_empty : (a : Areas) (o0 o1 : Bool) (l0 g0 l1 g1 : ℕ) → o0 ≡ true → l0 ≡ 1 → g0 ≡ 16 → o1 ≡ false → nat_lt a.bytes 6 ≡ false → chosen a o0 l0 g0 o1 l1 g1 ≡ Ok false
chosen_empty a o0 o1 l0 g0 l1 g1 e0 e1 e2 e3 t = rw (e0, e1, e2, e3, t) refl

built_nothing : (size : ℕ) (bytes : List ℕ) → bytes ≡ [] → built_by New size bytes nothing_built ≡ Some nothing_built
unfolding built_within
built_nothing size bytes e = rw e refl

charge_nothing : charge_of New nothing_built ≡ 0
unfolding charge_of
charge_nothing = refl

judged_by : (head : List ℕ) (g : Geometry) (len : ℕ) → has_magic head ≡ true → has_version head ≡ true → geometry_in head ≡ g → is_in_range g ≡ true → nat_lt len (image_size g) ≡ false → geometry_by head len ≡ Ok g
judged_by head g len m v e range long =
    let r : is_in_range (geometry_in head) ≡ true = ap is_in_range e ∙ range in
    let s : nat_lt len (image_size (geometry_in head)) ≡ false = ap (λ x. nat_lt len (image_size x)) e ∙ long in
    rw (m, v, r, s) (ap (λ x. Ok x) e)

-- zeros that were written behind the head of a superblock
pub zeros_behind : (c bytes : List ℕ) (n : ℕ) → bytes ≡ replicate n 0 → length bytes ≡ n → window c 24 (length bytes) ≡ bytes → (i : ℕ) → 24 ≤ i → i < 24 + n → slice_index c i ≡ 0
zeros_behind c bytes n zeros len written i least most =
    let place : 24 + (i - 24) ≡ i = omega (arith, least) in
    ap (λ k. slice_index c k) (sym place) ∙ sym (slice_index-window c 24 (length bytes) (i - 24) (omega (arith, least, most, len)))
    ∙ ap (λ xs. slice_index xs (i - 24)) (written ∙ zeros) ∙ get_or-replicate n (i - 24) 0 0 (omega (arith, least, most))

-- the areas lie behind the superblock
pub still_empty : (c d : List ℕ) (a : Areas) → 4096 ≤ a.first → Same (λ i. 4096 ≤ i) d c → IsEmptyJournal a c → IsEmptyJournal a d
still_empty c d a first same e =
    let at : (k : ℕ) → slice_index d (a.first + k) ≡ slice_index c (a.first + k) = λ k. same (a.first + k) (omega (arith, first)) in
    let e0 : slice_index d a.first ≡ slice_index c a.first = same a.first first in
    let e1 : slice_index d (a.first + 1 + 1) ≡ slice_index c (a.first + 1 + 1) = same (a.first + 1 + 1) (omega (arith, first)) in
    let e2 : slice_index d (a.first + 1 + 2) ≡ slice_index c (a.first + 1 + 2) = same (a.first + 1 + 2) (omega (arith, first)) in
    let e3 : slice_index d (a.first + 1 + 3) ≡ slice_index c (a.first + 1 + 3) = same (a.first + 1 + 3) (omega (arith, first)) in
    record {
      opened = ap (λ x. x == 165) e0 ∙ e.opened;
      size = (λ i. at 1 i + 256 * e1 i + 65536 * e2 i + 16777216 * e3 i) ∙ e.size;
      generation = at 5 ∙ e.generation;
      shut = ap (λ x. x == 165) (at 6) ∙ e.shut;
      other = ap (λ x. x == 165) (at a.bytes) ∙ e.other;
    }

module _ (c : List ℕ) (g : Geometry) (range : is_in_range g ≡ true) (head : window c 0 24 ≡ head_bytes g) (empty : IsEmptyJournal (areas_of g) c) (len : image_size g ≤ length c) where
  parts : (is_between 1 4096 g.areas ≡ true) × (is_between 1 65536 g.blocks ≡ true) × (is_between 1 65536 g.quota ≡ true)
  parts =
      let b = both_true (is_between 1 4096 g.areas && is_between 1 65536 g.blocks) (is_between 1 65536 g.quota) range in
      let d = both_true (is_between 1 4096 g.areas) (is_between 1 65536 g.blocks) b.0 in
      (d.0, d.1, b.1)

  areas_in : (1 ≤ g.areas) × (g.areas ≤ 4096)
  areas_in = between 1 4096 g.areas parts.0

  blocks_in : (1 ≤ g.blocks) × (g.blocks ≤ 65536)
  blocks_in = between 1 65536 g.blocks parts.1

  quota_in : (1 ≤ g.quota) × (g.quota ≤ 65536)
  quota_in = between 1 65536 g.quota parts.2

  number : (n : ℕ) → n ≤ 65536 → number_at (to_le_bytes w32 n) 0 ≡ n
  number n h = sym (number_of (to_le_bytes w32 n)) ∙ from_le_bytes-to_le_bytes_4 n (omega (arith, h))

  geometry_is : geometry_in (head_bytes g) ≡ g
  geometry_is = λ i. record { areas = number g.areas (omega (arith, areas_in.1)) i; blocks = number g.blocks blocks_in.1 i; quota = number g.quota quota_in.1 i }

  judged : geometry_by (head_bytes g) (length c) ≡ Ok g
  judged =
      let t : nat_lt (length c) (image_size g) ≡ false = search (arith, len) in
      judged_by (head_bytes g) g (length c) refl refl geometry_is range t

  geometry : geometry_of c ≡ Ok g
  geometry = long_is c (length c) (head_bytes g) (Ok g) refl (omega (arith, len)) (sym head) (sym judged)

  first_rules : chosen_in (areas_of g) c ≡ Ok false
  first_rules =
      let t : nat_lt (area_bytes g) 6 ≡ false = search (arith, areas_in.0) in
      chosen_empty (areas_of g) (is_open c 4096) (is_open c (4096 + area_bytes g)) (number_at c (4096 + 1)) (slice_index c (4096 + 5)) (number_at c (4096 + area_bytes g + 1)) (slice_index c (4096 + area_bytes g + 5))
      empty.opened empty.size empty.generation empty.other t

  generation_is : format_of (slice_index c (4096 + 5)) ≡ 2
  generation_is = ap format_of empty.generation

  area_is_empty : area_built New g.blocks c (areas_of g) false ≡ Ok nothing_built
  area_is_empty =
      let size : number_at c (4096 + 1) ≡ 1 = empty.size in
      let stop = 4096 + area_bytes g in
      let inside : 4096 < stop = omega (arith, areas_in.0) in
      let fits : 4096 + 6 + number_at c (4096 + 1) ≤ stop = omega (arith, areas_in.0, size) in
      let body : drop 1 (window c (4096 + 5) (number_at c (4096 + 1))) ≡ [] = ap (λ n. drop 1 (window c (4096 + 5) n)) size in
      let next : 4096 + 5 + number_at c (4096 + 1) ≡ 4096 + 6 = omega (arith, size) in
      let shut : is_open c (4096 + 5 + number_at c (4096 + 1)) ≡ false = ap (λ k. is_open c k) next ∙ empty.shut in
      area_is New g.blocks g.blocks c (areas_of g) (areas_of g) false 4096 nothing_built (Ok nothing_built) refl refl refl refl
      (yields_more New g.blocks c stop 1 4096 nothing_built inside empty.opened fits nothing_built (Ok nothing_built) (built_nothing g.blocks _ body)
      (yields_shut New g.blocks c stop 0 (4096 + 5 + number_at c (4096 + 1)) nothing_built (omega (arith, size, areas_in.0)) shut))

  pub formatted_image : read_as New New c ≡ Ok (record { geometry = g; built = nothing_built })
  formatted_image =
      image_read New New c g false (record { geometry = geometry; chosen = first_rules; format = generation_is }) nothing_built area_is_empty (omega (arith, areas_in.0, charge_nothing))

  pub formatted_stands : Stands c empty_map
  formatted_stands = ap (map_of c) formatted_image
