-- What an index's records take.
use Rattle.std.proofs.Common.{◌≡◌, ℕ, ◌+◌, ◌≤◌, Bool, true, false, cond, [], ◌∷◌, length, Option, Some, None, Ordering, Less, Equal, Greater, arith, sum_by}
use Rattle.std.specs.List.{AllByRecursion}
use Rattle.std.specs.Ordering.{match_ordering}
use Rattle.std.proofs.lemmas.List.Sums.{sum_by-cons}
use Rattle.opfs_base.specs.Texts.{Text}
use Rattle.opfs_kv.specs.Records.Heads.{size_by}
use Rattle.opfs_kv.specs.Records.Indexes.{Places, IsEntry, IsFitting, cost_of}
use Rattle.opfs_kv.specs.Records.Maps.{key_cmp, is_key, with_key, without_key}
use Rattle.opfs_kv.specs.Records.Records.{IsKey}
use Rattle.opfs_kv.specs.Records.Scans.{put_in}
use Rattle.opfs_kv.specs.declared.records.place.Place.{Place}
use Rattle.opfs_kv.proofs.records.Fronts.{IsSize}

abbrev AllGood : Places → Type 0
AllGood index = AllByRecursion IsEntry index

abbrev pub cost : Places → ℕ
cost index = sum_by cost_of index

-- ---- a key with its place

good-by : (o : Ordering) (key : Text) (place : Place) (e : Text × Place) (es more : Places) → IsEntry (key, place) → IsEntry e → AllGood es → AllGood more → AllGood (match_ordering o ((key, place) ∷ (e ∷ es)) ((e.0, place) ∷ es) (e ∷ more))
good-by Less key place e es more h p q r = (h, (p, q))
good-by Equal key place e es more h p q r = ((p.0, h.1), q)
good-by Greater key place e es more h p q r = (p, r)

good-with : (index : Places) (key : Text) (place : Place) → AllGood index → IsEntry (key, place) → AllGood (with_key index key place)
good-with [] key place good h = (h, tt)
good-with (e ∷ es) key place good h = good-by (key_cmp key e.0) key place e es (with_key es key place) h good.0 good.1 (good-with es key place good.1 h)

sum-cons : (e : Text × Place) (es : Places) → cost (e ∷ es) ≡ cost_of e + cost es
sum-cons e es = sum_by-cons cost_of e es

cost-by : (o : Ordering) (key : Text) (place : Place) (e : Text × Place) (es more : Places) → cost more ≤ cost es + cost_of (key, place) → cost (match_ordering o ((key, place) ∷ (e ∷ es)) ((e.0, place) ∷ es) (e ∷ more)) ≤ cost (e ∷ es) + cost_of (key, place)
cost-by Less key place e es more less = omega (arith, sum-cons (key, place) (e ∷ es))
cost-by Equal key place e es more less = omega (arith, sum-cons (e.0, place) es, sum-cons e es)
cost-by Greater key place e es more less = omega (arith, sum-cons e more, sum-cons e es, less)

cost-with : (index : Places) (key : Text) (place : Place) → cost (with_key index key place) ≤ cost index + cost_of (key, place)
cost-with [] key place = omega (arith, sum-cons (key, place) [])
cost-with (e ∷ es) key place = cost-by (key_cmp key e.0) key place e es (with_key es key place) (cost-with es key place)

pub fitting-with : (room more : ℕ) (index : Places) (key : Text) (place : Place) → IsFitting room index → IsEntry (key, place) → room + cost_of (key, place) ≤ more → IsFitting more (with_key index key place)
fitting-with room more index key place fit h enough = record { good = good-with index key place fit.good h; fits = omega (arith, cost-with index key place, fit.fits, enough) }

-- ---- a key that is taken out

good-out : (index : Places) (key : Text) → AllGood index → AllGood (without_key index key)
good-out [] key good = good
good-out (e ∷ es) key good = elim (is_key key e.0) as (λ (b : Bool). AllGood (cond b es (e ∷ without_key es key))) [ true ↦ good.1 | false ↦ (good.0, good-out es key good.1) ]

cost-out : (index : Places) (key : Text) → cost (without_key index key) ≤ cost index
cost-out [] key = omega arith
cost-out (e ∷ es) key = by (is_key key e.0) (cost-out es key)
  where
    by : (b : Bool) → cost (without_key es key) ≤ cost es → cost (cond b es (e ∷ without_key es key)) ≤ cost (e ∷ es)
    by true less = omega (arith, sum-cons e es)
    by false less = omega (arith, sum-cons e es, sum-cons e (without_key es key), less)

pub fitting-out : (room more : ℕ) (index : Places) (key : Text) → IsFitting room index → room ≤ more → IsFitting more (without_key index key)
fitting-out room more index key fit enough = record { good = good-out index key fit.good; fits = omega (arith, cost-out index key, fit.fits, enough) }

-- A record that begins at a place.
pub fitting-put : (at : ℕ) (index : Places) (key : Text) (len : Option ℕ) → IsFitting at index → IsKey key → IsSize len → IsFitting (at + size_by (length key) len) (put_in at index key len)
fitting-put at index key (Some n) fit good small = fitting-with at (at + (6 + length key + n)) index key (record { at = at + (6 + length key); len = n }) fit (good, small) (omega arith)
fitting-put at index key None fit good small = fitting-out at (at + (2 + length key)) index key fit (omega arith)
