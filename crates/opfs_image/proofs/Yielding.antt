-- A walk over records that builds rows.
use Rattle.std.proofs.Common.{◌≡◌, ℕ, zero, suc, ◌+◌, ◌<◌, ◌≤◌, Bool, true, false, List, refl, sym, ◌∙◌, ap, subst, arith}
use Rattle.std.specs.Prelude.{Some, None, Result, Ok, Err, drop, nat_le}
use Rattle.opfs_codec.specs.declared.change.Format.{Format}
use Rattle.opfs_outside.specs.Bytes.{window}
use Rattle.opfs_journal.specs.Format.{is_open, number_at, begin_of}
use Rattle.opfs_journal.specs.declared.areas.Areas.{Areas}
use Rattle.opfs_records.specs.Replay.Applying.{built_by}
use Rattle.opfs_records.specs.Replay.Built.{Built, nothing_built}
use Rattle.opfs_image.specs.Reading.{replayed, area_built}
use Rattle.opfs_image.specs.Walking.{Yields, IsRecord}

module _ (f : Format) (size : ℕ) (c : List ℕ) (stop skip gate : ℕ) (b : Built) (inside : gate < stop) where
  pub yields_shut : is_open c gate ≡ false → Yields f size c stop skip gate b (Ok b)
  yields_shut shut zero h = absurd (omega (arith, inside))
  yields_shut shut (suc most) h = rw shut refl

  module _ (opened : is_open c gate ≡ true) where
    pub yields_long : stop < gate + 6 + number_at c (gate + 1) → Yields f size c stop skip gate b (Err gate)
    yields_long past zero h = absurd (omega (arith, inside))
    yields_long past (suc most) h =
        let t : nat_le (gate + 6 + number_at c (gate + 1)) stop ≡ false = search (arith, past) in
        rw (opened, t) refl

    module _ (fits : gate + 6 + number_at c (gate + 1) ≤ stop) where
      t : nat_le (gate + 6 + number_at c (gate + 1)) stop ≡ true
      t = search (arith, fits)

      pub yields_bad : built_by f size (drop skip (window c (gate + 5) (number_at c (gate + 1)))) b ≡ None → Yields f size c stop skip gate b (Err gate)
      yields_bad none zero h = absurd (omega (arith, inside))
      yields_bad none (suc most) h = rw (opened, t, none) refl

      pub yields_more : (next : Built) (r : Result Built ℕ) → built_by f size (drop skip (window c (gate + 5) (number_at c (gate + 1)))) b ≡ Some next
          → Yields f size c stop 0 (gate + 5 + number_at c (gate + 1)) next r → Yields f size c stop skip gate b r
      yields_more next r is then_yields zero h = absurd (omega (arith, inside))
      yields_more next r is then_yields (suc most) h = rw (opened, t, is) (then_yields most (omega (arith, h)))

-- the same with a record that was read
module _ (f : Format) (size : ℕ) (c c' : List ℕ) (same : c' ≡ c) (stop skip gate : ℕ) (b : Built) (inside : gate < stop) (len : ℕ) (body bytes : List ℕ) (is : IsRecord c' gate len body) (fits : gate + 6 + len ≤ stop)
    (behind : bytes ≡ drop skip body) (size' : ℕ) (size_is : size' ≡ size) where
  opened : is_open c gate ≡ true
  opened = ap (λ d. is_open d gate) (sym same) ∙ is.opened

  len_is : len ≡ number_at c (gate + 1)
  len_is = is.size ∙ ap (λ d. number_at d (gate + 1)) same

  room : gate + 6 + number_at c (gate + 1) ≤ stop
  room = subst (λ n. gate + 6 + n ≤ stop) len_is fits

  body_is : drop skip (window c (gate + 5) (number_at c (gate + 1))) ≡ bytes
  body_is = sym (λ i. drop skip (window (same i) (gate + 5) (len_is i))) ∙ ap (drop skip) (sym is.bytes) ∙ sym behind

  built_same : built_by f size (drop skip (window c (gate + 5) (number_at c (gate + 1)))) b ≡ built_by f size' bytes b
  built_same = (λ i. built_by f size (body_is i) b) ∙ sym (λ i. built_by f (size_is i) bytes b)

  pub record_bad : built_by f size' bytes b ≡ None → Yields f size c stop skip gate b (Err gate)
  record_bad none = yields_bad f size c stop skip gate b inside opened room (built_same ∙ none)

  pub record_more : (next : Built) (r : Result Built ℕ) → built_by f size' bytes b ≡ Some next → Yields f size c stop 0 (gate + (5 + len)) next r → Yields f size c stop skip gate b r
  record_more next r built then_yields =
      let to : gate + (5 + len) ≡ gate + 5 + number_at c (gate + 1) = omega (arith, len_is) in
      yields_more f size c stop skip gate b inside opened room next r (built_same ∙ built) (subst (λ at. Yields f size c stop 0 at next r) to then_yields)

-- what the records of an area give
pub area_is : (f : Format) (size size' : ℕ) (c : List ℕ) (a a' : Areas) (second : Bool) (begin : ℕ) (b : Built) (r : Result Built ℕ) → a ≡ a' → begin ≡ begin_of a second → size' ≡ size → b ≡ nothing_built
    → Yields f size' c (begin + a.bytes) 1 begin b r → area_built f size c a' second ≡ r
area_is f size size' c a a' second begin b r a_is begin_is size_is b_is yields =
    sym (λ i. area_built f size c (a_is i) second)
    ∙ sym (λ i. replayed a.bytes f (size_is i) c 1 (begin_is i) (begin_is i + a.bytes) (b_is i))
    ∙ yields a.bytes (omega arith)
