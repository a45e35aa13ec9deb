-- A walk from gate to gate.
use Rattle.std.proofs.Common.{◌≡◌, ℕ, ◌+◌, ◌≤◌, true, List, [], ◌∷◌, ◌++◌, length, inl, refl, sym, ◌∙◌, ap, subst, arith}
use Rattle.opfs_outside.specs.Bytes.{window}
use Rattle.opfs_outside.specs.Moments.{elapses-trans, each_of_both}
use Rattle.opfs_outside.specs.Windows.{length-window}
use Rattle.opfs_outside.specs.declared.disk.Disk.{Ghosts as DiskWords}
use Rattle.opfs_journal.specs.Format.{is_open, number_at}
use Rattle.opfs_journal.specs.Reading.{Walks}
use Rattle.opfs_journal.specs.Walking.{OnlyRead, Leads}
use Rattle.opfs_journal.proofs.Chains.{walks_more}

module _ {D : Type 0} (w : DiskWords D)
    (falls : w.tells → (d : D) (t u : ℕ) (c : List ℕ) → t ≤ u → w.since d u c → w.since d t c) where
  pub only_nothing : (d : D) → OnlyRead w d d
  only_nothing d = record {
    length = refl;
    later = omega arith;
    told = λ told. record { same = refl; time = record { later = omega arith; split = λ t c le is. inl is; keeps = λ t c le is. is }; moments = λ c is. is };
  }

  pub only_more : (old mid new : D) → OnlyRead w old mid → OnlyRead w mid new → OnlyRead w old new
  only_more old mid new a b = record {
    length = b.length ∙ a.length;
    later = omega (arith, a.later, b.later);
    told = λ told. record {
      same = (b.told told).same ∙ (a.told told).same;
      time = elapses-trans w.moment w.since (falls told) old mid new (a.told told).time (b.told told).time;
      moments = each_of_both w.moment w.since (falls told) old mid new (λ c. w.since old (w.moment old) c) (a.told told).time (b.told told).time (a.told told).moments
          (λ c is. (a.told told).moments c (falls told mid (w.moment old) (w.moment mid) c (a.told told).time.later ((b.told told).moments c is)));
    };
  }

  -- no image comes by reading
  pub still_durable : (old new : D) → OnlyRead w old new → w.tells → ((c : List ℕ) → w.since old (w.moment old) c → c ≡ w.content old) → (c : List ℕ) → w.since new (w.moment new) c → c ≡ w.content new
  still_durable old new only told durable c is =
      let u = only.told told in
      durable c (u.moments c (falls told new (w.moment old) (w.moment new) c u.time.later is)) ∙ sym u.same

-- one record more
pub leads_more : (c : List ℕ) (from gate len : ℕ) → Leads c from gate → is_open c gate ≡ true → len ≡ number_at c (gate + 1) → Leads c from (gate + (5 + len))
leads_more c from gate len l is_opened e =
    let size : length (window c (gate + 5) len) ≡ len = length-window c (gate + 5) len in
    let to : gate + 5 + length (window c (gate + 5) len) ≡ gate + (5 + len) = omega (arith, size) in
    record {
      bodies = l.bodies ++ window c (gate + 5) len ∷ [];
      walks = subst (λ t. Walks c from (l.bodies ++ window c (gate + 5) len ∷ []) t) to
          (walks_more c from l.bodies gate (window c (gate + 5) len) l.walks is_opened (sym e ∙ sym size) (ap (λ n. window c (gate + 5) n) size));
    }

pub leads_none : (c : List ℕ) (from : ℕ) → Leads c from from
leads_none c from = record { bodies = []; walks = refl }
