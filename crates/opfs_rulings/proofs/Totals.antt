-- What a change of rows does to a tally.
use Rattle.std.proofs.Common.{◌≡◌, ℕ, zero, suc, ◌+◌, ◌*◌, ◌<◌, ◌≤◌, Bool, true, false, cond, not, List, [], ◌∷◌, ◌++◌, map, flat_map, filter, length, take, drop, get_or, sum_by, slice_set, Option, Some, None, IfSome, IsSomeAnd, refl, sym, ap, subst, ◌∙◌, arith}
use Rattle.std.specs.Prelude.{slice_get}
use Rattle.std.specs.List.{AllByRecursion}
use Rattle.std.specs.FinMap.Entries.{find, by_order}
use Rattle.std.specs.Ordering.{is_eq, eq_by_cmp, nat_cmp}
use Rattle.std.specs.FinMap.{slice_cmp-IsAntisymmetric, nat_cmp-IsAntisymmetric}
use Rattle.std.specs.declared.cmp.Ordering.{Ordering}
use Rattle.std.specs.Cmp.Lexicographic.{slice_cmp}
use Rattle.std.specs.declared.cmp.Ordering.TheVariants.{Less, Equal, Greater}
use Rattle.std.proofs.lemmas.List.{drop_all}
use Rattle.std.proofs.lemmas.List.Sums.{sum_by-cons, sum_by-append, sum_by-take-drop}
use Rattle.opfs_base.specs.Measures.{mode_charge}
use Rattle.opfs_base.specs.Places.{Place, is_within}
use Rattle.opfs_base.specs.Texts.{Text, same_text}
use Rattle.opfs_base.specs.Units.{origin_of}
use Rattle.opfs_laws.proofs.Numbers.{IsNumber}
use Rattle.opfs_laws.proofs.OwnSums.{sum-adds, sum-sets, sum-same}
use Rattle.opfs_laws.proofs.RowSums.{sum-split, sum-filter}
use Rattle.opfs_machine.specs.declared.own.Own.{Own}
use Rattle.opfs_machine.specs.declared.state.Agent.{Agent}
use Rattle.opfs_machine.specs.declared.state.Row.{Row}
use Rattle.opfs_machine.specs.declared.state.State.{State}
use Rattle.opfs_machine.specs.Agents.{agent_of, own_of, with_agent, with_own, adds_own}
use Rattle.opfs_machine.specs.Contents.{in_bytes, outline_of}
use Rattle.opfs_machine.specs.Ordered.{insert_by}
use Rattle.opfs_machine.specs.Rows.{Rows}
use Rattle.opfs_machine.specs.Sums.{usage, pool, charge, reserve_of, row_reserve, present_blocks}
use Rattle.opfs_rulings.specs.declared.tally.Tally.{Tally}
use Rattle.opfs_rulings.specs.declared.tally.Weight.{Weight}
use Rattle.opfs_rulings.proofs.Here.{drop_here}
use Rattle.opfs_rulings.proofs.Rising.{rising_filter, rising_set, rising_insert}
use Rattle.opfs_rulings.specs.Known.{IsAgent}
use Rattle.opfs_rulings.specs.Spots.{AreRising, IsMissing}
use Rattle.opfs_rulings.specs.Tallies.{Count, Pool, Charge, Usage, row_weight, own_weight, rest_of, total, given, IsTallyOf, IsRaised, IsRowWeight, IsOwnWeight, own_origin, AreKept}

abbrev HasUses : (Text → ℕ) → List (Text × ℕ) → Type 0
HasUses T ms = AllByRecursion (λ (e : Text × ℕ). e.1 ≡ T e.0) ms

-- The uses of a tally that is raised, and of one that is lowered.
module _ (T U g : Text → ℕ) where
  uses_raised : ((o : Text) → U o ≡ T o + g o) → (ms : List (Text × ℕ)) → HasUses T ms → HasUses U (map (λ (e : Text × ℕ). (e.0, e.1 + g e.0)) ms)
  uses_raised more [] h = tt
  uses_raised more (m ∷ ms) h = (ap (λ n. n + g m.0) h.0 ∙ sym (more m.0), uses_raised more ms h.1)

  uses_lowered : ((o : Text) → U o + g o ≡ T o) → (ms : List (Text × ℕ)) → HasUses T (map (λ (e : Text × ℕ). (e.0, e.1 + g e.0)) ms) → HasUses U ms
  uses_lowered less [] h = tt
  uses_lowered less (m ∷ ms) h = (let now = less m.0 in let was = h.0 in omega (arith, now, was), uses_lowered less ms h.1)

uses_same : (T U : Text → ℕ) → ((o : Text) → T o ≡ U o) → (ms : List (Text × ℕ)) → HasUses T ms → HasUses U ms
uses_same T U same [] h = tt
uses_same T U same (m ∷ ms) h = (h.0 ∙ same m.0, uses_same T U same ms h.1)

abbrev AreUses : (Count → ℕ) → List (Text × ℕ) → Type 0
AreUses T ms = HasUses (λ o. T (Usage o)) ms

module _ (T U g : Count → ℕ) (old new : Tally) (is : IsTallyOf T old) where
  tally_raised : ((c : Count) → U c ≡ T c + g c) → IsRaised g old new → IsTallyOf U new
  tally_raised more raised = record {
    pool = raised.pool ∙ ap (λ n. n + g Pool) is.pool ∙ sym (more Pool);
    charge = raised.charge ∙ ap (λ n. n + g Charge) is.charge ∙ sym (more Charge);
    uses = subst (AreUses U) (sym raised.uses) (uses_raised (λ o. T (Usage o)) (λ o. U (Usage o)) (λ o. g (Usage o)) (λ o. more (Usage o)) old.uses is.uses);
  }

  tally_lowered : ((c : Count) → U c + g c ≡ T c) → IsRaised g new old → IsTallyOf U new
  tally_lowered less raised = record {
    pool = let now = less Pool in let was = raised.pool in let had = is.pool in omega (arith, now, was, had);
    charge = let now = less Charge in let was = raised.charge in let had = is.charge in omega (arith, now, was, had);
    uses = uses_lowered (λ o. T (Usage o)) (λ o. U (Usage o)) (λ o. g (Usage o)) (λ o. less (Usage o)) new.uses (subst (AreUses T) raised.uses is.uses);
  }

-- What a call of `raised` and one of `lowered` say.
abbrev pub HasRaised : Text → Option Weight → Option Tally → Option Tally → Type 0
HasRaised origin w old new = IfSome new (λ n. IsSomeAnd old (λ o. IsSomeAnd w (λ x. IsRaised (given origin x) o n)))

abbrev pub HasLowered : Text → Option Weight → Option Tally → Option Tally → Type 0
HasLowered origin w old new = IfSome new (λ n. IsSomeAnd old (λ o. IsSomeAnd w (λ x. IsRaised (given origin x) n o)))

module _ (T U g : Count → ℕ) (origin : Text) where
  pub raised_on : (w : Option Weight) (old new : Option Tally) → IfSome w (λ x. (c : Count) → given origin x c ≡ g c) → ((c : Count) → U c ≡ T c + g c)
      → IfSome old (IsTallyOf T) → HasRaised origin w old new → IfSome new (IsTallyOf U)
  raised_on w old None weighs more is told = tt
  raised_on w None (Some n) weighs more is told = absurd told
  raised_on None (Some o) (Some n) weighs more is told = absurd told
  raised_on (Some x) (Some o) (Some n) weighs more is told = tally_raised T U (given origin x) o n is (λ c. more c ∙ ap (λ m. T c + m) (sym (weighs c))) told

  pub lowered_on : (w : Option Weight) (old new : Option Tally) → IfSome w (λ x. (c : Count) → given origin x c ≡ g c) → ((c : Count) → U c + g c ≡ T c)
      → IfSome old (IsTallyOf T) → HasLowered origin w old new → IfSome new (IsTallyOf U)
  lowered_on w old None weighs less is told = tt
  lowered_on w None (Some n) weighs less is told = absurd told
  lowered_on None (Some o) (Some n) weighs less is told = absurd told
  lowered_on (Some x) (Some o) (Some n) weighs less is told = tally_lowered T U (given origin x) o n is (λ c. ap (λ m. U c + m) (weighs c) ∙ less c) told

-- A row more among the rows.
pub total_insert : (e : Place × Row Text) (n : ℕ) (rows : Rows Text) (agents : List (Agent Own)) (modes : List Text) (c : Count)
    → total (take n rows ++ e ∷ drop n rows) agents modes c ≡ total rows agents modes c + row_weight c e
total_insert e n rows agents modes c =
    let parts = sum_by-append (row_weight c) (take n rows) (e ∷ drop n rows) in
    let one = sum_by-cons (row_weight c) e (drop n rows) in
    let whole = sum_by-take-drop (row_weight c) rows n in
    omega (arith, parts, one, whole)

sum_set : (f : Place × Row Text → ℕ) (n : ℕ) (old new : Place × Row Text) (rows : Rows Text) → slice_get rows n ≡ Some old → sum_by f (slice_set rows n new) + f old ≡ sum_by f rows + f new
sum_set f n old new [] is = cc
sum_set f zero old new (e ∷ es) is =
    let same : f e ≡ f old = let one : e ≡ old = cc in ap f one in
    let now = sum_by-cons f new es in let was = sum_by-cons f e es in omega (arith, same, now, was)
sum_set f (suc n) old new (e ∷ es) is =
    let rest = sum_set f n old new es is in
    let now = sum_by-cons f e (slice_set es n new) in let was = sum_by-cons f e es in omega (arith, rest, now, was)

-- Another row at a place.
pub total_set : (n : ℕ) (old new : Place × Row Text) (rows : Rows Text) (agents : List (Agent Own)) (modes : List Text) → slice_get rows n ≡ Some old → (c : Count)
    → total (slice_set rows n new) agents modes c + row_weight c old ≡ total rows agents modes c + row_weight c new
total_set n old new rows agents modes is c = let sums = sum_set (row_weight c) n old new rows is in omega (arith, sums)

pub number_of : (s : State Text Own) (k : ℕ) → IsAgent s k → IsNumber s k
number_of s zero h = absurd (omega (arith, h.above))
number_of s (suc i) h = record { index = i; is = refl; within = omega (arith, h.within) }

-- An own row more, another own row, and another agent with the same own rows.
pub total_adds : (s : State Text Own) (k : ℕ) (r : Own) → IsAgent s k → (c : Count)
    → total s.rows (adds_own s k r).agents s.persistent c ≡ total s.rows s.agents s.persistent c + own_weight c r
total_adds s k r h Pool = let sums = sum-adds (λ x. reserve_of (outline_of x)) s k r (number_of s k h) in omega (arith, sums)
total_adds s k r h Charge = omega arith
total_adds s k r h (Usage origin) = let sums = sum-adds (row_reserve in_bytes origin) s k r (number_of s k h) in omega (arith, sums)

pub total_sets : (s : State Text Own) (k n : ℕ) (r new : Own) → IsAgent s k → own_of (agent_of s k) n ≡ Some r → (c : Count)
    → total s.rows (with_own s k n new).agents s.persistent c + own_weight c r ≡ total s.rows s.agents s.persistent c + own_weight c new
total_sets s k n r new h is Pool = let sums = sum-sets (λ x. reserve_of (outline_of x)) s k n r new (number_of s k h) is in omega (arith, sums)
total_sets s k n r new h is Charge = refl
total_sets s k n r new h is (Usage origin) = let sums = sum-sets (row_reserve in_bytes origin) s k n r new (number_of s k h) is in omega (arith, sums)

pub total_same : (s : State Text Own) (k : ℕ) (a : Agent Own) → IsAgent s k → a.own ≡ (agent_of s k).own → (c : Count)
    → total s.rows (with_agent s k a).agents s.persistent c ≡ total s.rows s.agents s.persistent c
total_same s k a h own Pool = let sums = sum-same (λ x. reserve_of (outline_of x)) s k a (number_of s k h) own in omega (arith, sums)
total_same s k a h own Charge = refl
total_same s k a h own (Usage origin) = let sums = sum-same (row_reserve in_bytes origin) s k a (number_of s k h) own in omega (arith, sums)

-- What a tally tells of the pool and of an origin's use.
pub usage_is : (s : State Text Own) (origin : Text) → total s.rows s.agents s.persistent (Usage origin) ≡ usage in_bytes s origin
usage_is s origin = ap (λ n. n + rest_of (Usage origin) s.agents s.persistent) (sym (sum-filter (λ e. present_blocks in_bytes e.1) (λ e. same_text origin (origin_of e.0.0)) s.rows))

used_at : (T : Text → ℕ) (origin : Text) (n : ℕ) (ms : List (Text × ℕ)) → HasUses T ms → find (slice_cmp nat_cmp) origin ms ≡ Some n → n ≡ T origin
used_at T origin n [] h is = cc
used_at T origin n (m ∷ ms) h is =
    elim (eq_by_cmp (slice_cmp nat_cmp) origin m.0) as (λ b. eq_by_cmp (slice_cmp nat_cmp) origin m.0 ≡ b → cond b (Some m.1) (find (slice_cmp nat_cmp) origin ms) ≡ Some n → n ≡ T origin) [
      | true ↦ λ same g. let one : n ≡ m.1 = cc in one ∙ h.0 ∙ ap T (sym (tied origin m.0 same))
      | false ↦ λ same g. used_at T origin n ms h.1 g
    ] refl is
  where
    equal : (o : Ordering) → is_eq o ≡ true → o ≡ Equal
    equal Less e = cc
    equal Equal e = refl
    equal Greater e = cc

    tied : (x y : Text) → eq_by_cmp (slice_cmp nat_cmp) x y ≡ true → x ≡ y
    tied x y e = slice_cmp-IsAntisymmetric nat_cmp-IsAntisymmetric x y (equal (slice_cmp nat_cmp x y) e)

-- What an origin uses, found in a tally.
pub usage_found : (s : State Text Own) (t : Tally) (origin : Text) (n : ℕ) → IsTallyOf (total s.rows s.agents s.persistent) t → find (slice_cmp nat_cmp) origin t.uses ≡ Some n → n ≡ usage in_bytes s origin
usage_found s t origin n is found = used_at (λ o. total s.rows s.agents s.persistent (Usage o)) origin n t.uses is.uses found ∙ usage_is s origin

-- What is kept after a change of rows.
module _ (rows new : Rows Text) (agents : List (Agent Own)) (modes : List Text) (old taken : Option Tally) (kept : AreKept rows agents modes old) (same : taken ≡ old) where
  counted : IfSome taken (IsTallyOf (total rows agents modes))
  counted = subst (λ t. IfSome t (IsTallyOf (total rows agents modes))) (sym same) kept.tallied

  weighs : (p : Place) (r : Row Text) (origin : Text) (w : Option Weight) → origin ≡ origin_of p.0 → IfSome w (IsRowWeight p r) → IfSome w (λ x. (c : Count) → given origin x c ≡ row_weight c (p, r))
  weighs p r origin w is told = subst (λ o. IfSome w (λ x. (c : Count) → given o x c ≡ row_weight c (p, r))) (sym is) told

  pub kept_made : (p : Place) (r : Row Text) (n : ℕ) (origin : Text) (w : Option Weight) (tally : Option Tally) → IsMissing p rows n → new ≡ take n rows ++ (p, r) ∷ drop n rows
      → origin ≡ origin_of p.0 → IfSome w (IsRowWeight p r) → HasRaised origin w taken tally → AreKept new agents modes tally
  kept_made p r n origin w tally missing made is told raised =
      subst (λ (xs : Rows Text). AreKept xs agents modes tally) (sym made) (record {
        rising = rising_insert p r n rows kept.rising missing.behind missing.before;
        tallied = raised_on (total rows agents modes) (total (take n rows ++ (p, r) ∷ drop n rows) agents modes) (λ c. row_weight c (p, r)) origin w taken tally
            (weighs p r origin w is told) (total_insert (p, r) n rows agents modes) counted raised;
      })

  pub kept_swapped : (p : Place) (r gone : Row Text) (n : ℕ) (o1 o2 : Text) (w1 w2 : Option Weight) (mid tally : Option Tally) → slice_get rows n ≡ Some (p, gone) → new ≡ slice_set rows n (p, r)
      → o1 ≡ origin_of p.0 → IfSome w1 (IsRowWeight p r) → HasRaised o1 w1 taken mid → o2 ≡ origin_of p.0 → IfSome w2 (IsRowWeight p gone) → HasLowered o2 w2 mid tally → AreKept new agents modes tally
  kept_swapped p r gone n o1 o2 w1 w2 mid tally there set is1 told1 up is2 told2 down =
      subst (λ (xs : Rows Text). AreKept xs agents modes tally) (sym set) (record {
        rising = rising_set n p gone r rows there kept.rising;
        tallied = lowered_on (λ c. total rows agents modes c + row_weight c (p, r)) (total (slice_set rows n (p, r)) agents modes) (λ c. row_weight c (p, gone)) o2 w2 mid tally
            (weighs p gone o2 w2 is2 told2) (total_set n (p, gone) (p, r) rows agents modes there)
            (raised_on (total rows agents modes) (λ c. total rows agents modes c + row_weight c (p, r)) (λ c. row_weight c (p, r)) o1 w1 taken mid (weighs p r o1 w1 is1 told1) (λ c. refl) counted up) down;
      })

  pub kept_removed : (p : Place) (tally : Option Tally) → new ≡ filter (λ e. not (is_within p e.0)) rows
      → ((rest : Count → ℕ) → IfSome taken (IsTallyOf (λ c. sum_by (row_weight c) rows + rest c)) → IfSome tally (IsTallyOf (λ c. sum_by (row_weight c) (filter (λ e. not (is_within p e.0)) rows) + rest c)))
      → AreKept new agents modes tally
  kept_removed p tally gone lowers =
      subst (λ (xs : Rows Text). AreKept xs agents modes tally) (sym gone) (record {
        rising = rising_filter (λ e. not (is_within p e.0)) rows kept.rising;
        tallied = lowers (λ c. rest_of c agents modes) counted;
      })

-- What is kept after a change of own rows.
module _ (s new : State Text Own) (k : ℕ) (agent : IsAgent s k) (old : Option Tally) (kept : AreKept s.rows s.agents s.persistent old) where
  kept_state : (t : State Text Own) (tally : Option Tally) → new ≡ t → AreKept t.rows t.agents t.persistent tally → AreKept new.rows new.agents new.persistent tally
  kept_state t tally is h = subst (λ (x : State Text Own). AreKept x.rows x.agents x.persistent tally) (sym is) h

  counted_in : (taken : Option Tally) → taken ≡ old → IfSome taken (IsTallyOf (total s.rows s.agents s.persistent))
  counted_in taken same = subst (λ t. IfSome t (IsTallyOf (total s.rows s.agents s.persistent))) (sym same) kept.tallied

  own_weighs_at : (r : Own) (origin : Text) (w : Weight) → origin ≡ own_origin r → IsOwnWeight r w → (c : Count) → given origin w c ≡ own_weight c r
  own_weighs_at r origin w is told = subst (λ o. (c : Count) → given o w c ≡ own_weight c r) (sym is) told

  pub kept_added : (r : Own) (origin : Text) (w : Weight) (taken tally : Option Tally) → taken ≡ old → new ≡ adds_own s k r → origin ≡ own_origin r → IsOwnWeight r w → HasRaised origin (Some w) taken tally
      → AreKept new.rows new.agents new.persistent tally
  kept_added r origin w taken tally same is from told raised = kept_state (adds_own s k r) tally is (record {
    rising = kept.rising;
    tallied = raised_on (total s.rows s.agents s.persistent) (total s.rows (adds_own s k r).agents s.persistent) (λ c. own_weight c r) origin (Some w) taken tally
        (own_weighs_at r origin w from told) (total_adds s k r agent) (counted_in taken same) raised;
  })

  pub kept_exchanged : (n : ℕ) (r gone : Own) (o1 o2 : Text) (w1 w2 : Weight) (taken mid tally : Option Tally) → taken ≡ old → new ≡ with_own s k n r → own_of (agent_of s k) n ≡ Some gone
      → o1 ≡ own_origin r → IsOwnWeight r w1 → HasRaised o1 (Some w1) taken mid → o2 ≡ own_origin gone → IsOwnWeight gone w2 → HasLowered o2 (Some w2) mid tally → AreKept new.rows new.agents new.persistent tally
  kept_exchanged n r gone o1 o2 w1 w2 taken mid tally same is was from1 told1 up from2 told2 down = kept_state (with_own s k n r) tally is (record {
    rising = kept.rising;
    tallied = lowered_on (λ c. total s.rows s.agents s.persistent c + own_weight c r) (total s.rows (with_own s k n r).agents s.persistent) (λ c. own_weight c gone) o2 (Some w2) mid tally
        (own_weighs_at gone o2 w2 from2 told2) (total_sets s k n gone r agent was)
        (raised_on (total s.rows s.agents s.persistent) (λ c. total s.rows s.agents s.persistent c + own_weight c r) (λ c. own_weight c r) o1 (Some w1) taken mid (own_weighs_at r o1 w1 from1 told1) (λ c. refl) (counted_in taken same) up) down;
  })

  pub kept_agent : (a : Agent Own) → new ≡ with_agent s k a → a.own ≡ (agent_of s k).own → AreKept new.rows new.agents new.persistent old
  kept_agent a is own = kept_state (with_agent s k a) old is (record { rising = kept.rising; tallied = moved old kept.tallied })
    where
      moved : (t : Option Tally) → IfSome t (IsTallyOf (total s.rows s.agents s.persistent)) → IfSome t (IsTallyOf (total s.rows (with_agent s k a).agents s.persistent))
      moved None h = tt
      moved (Some t) h = record {
        pool = h.pool ∙ sym (total_same s k a agent own Pool);
        charge = h.charge ∙ sym (total_same s k a agent own Charge);
        uses = uses_same (λ o. total s.rows s.agents s.persistent (Usage o)) (λ o. total s.rows (with_agent s k a).agents s.persistent (Usage o)) (λ o. sym (total_same s k a agent own (Usage o))) t.uses h.uses;
      }

-- What is kept where nothing is counted any more.
pub kept_short : (rows new : Rows Text) (agents later : List (Agent Own)) (modes more : List Text) (old tally : Option Tally) → AreKept rows agents modes old → new ≡ rows → tally ≡ None → AreKept new later more tally
kept_short rows new agents later modes more old tally kept same none = record {
  rising = subst (λ (es : Rows Text). AreRising es) (sym same) kept.rising;
  tallied = subst (λ (t : Option Tally). IfSome t (IsTallyOf (total new later more))) (sym none) tt;
}

-- A part of an option that is there.
pub held_at : {X : Type 0} (P : X → Type 0) (o : Option X) (x : X) → o ≡ Some x → IfSome o P → P x
held_at P None x is h = cc
held_at P (Some y) x is h = let same : y ≡ x = cc in subst P same h

-- The charge by a tally.
pub charge_is : (s : State Text Own) (t : Tally) (blocks all : ℕ) → IsTallyOf (total s.rows s.agents s.persistent) t → blocks ≡ 8 * t.pool → all ≡ t.charge + blocks → all ≡ charge in_bytes s
charge_is s t blocks all is eights sum =
    let whole : blocks ≡ 8 * pool in_bytes s = eights ∙ ap (λ n. 8 * n) is.pool in
    sum ∙ (λ i. is.charge i + whole i)

-- Nothing is counted of a state without rows.
pub nothing_kept : (s : State Text Own) (t : Tally) → s.rows ≡ [] → flat_map (λ a. a.own) s.agents ≡ [] → s.persistent ≡ [] → t.pool ≡ 0 → t.charge ≡ 0 → HasUses (λ o. 0) t.uses → AreKept s.rows s.agents s.persistent (Some t)
nothing_kept s t rows own modes pooled charged uses = record {
  rising = subst (λ (es : Rows Text). AreRising es) (sym rows) tt;
  tallied = record {
    pool = pooled ∙ sym (none Pool);
    charge = charged ∙ sym (none Charge);
    uses = uses_same (λ o. 0) (λ o. total s.rows s.agents s.persistent (Usage o)) (λ o. sym (none (Usage o))) t.uses uses;
  };
}
  where
    none : (c : Count) → total s.rows s.agents s.persistent c ≡ 0
    none Pool = λ i. sum_by (row_weight Pool) (rows i) + sum_by (λ r. reserve_of (outline_of r)) (own i)
    none Charge = λ i. sum_by (row_weight Charge) (rows i) + sum_by mode_charge (modes i)
    none (Usage o) = λ i. sum_by (row_weight (Usage o)) (rows i) + sum_by (row_reserve in_bytes o) (own i)

-- What is kept after a mode more, or the same ones.
insert_modes : (f : Text → ℕ) (x : Text) (xs : List Text)
    → (length (insert_by (slice_cmp nat_cmp) x xs) ≤ length xs → sum_by f (insert_by (slice_cmp nat_cmp) x xs) ≡ sum_by f xs)
    × (length xs < length (insert_by (slice_cmp nat_cmp) x xs) → sum_by f (insert_by (slice_cmp nat_cmp) x xs) ≡ sum_by f xs + f x)
insert_modes f x [] = (λ h. absurd (omega (arith, h)), λ h. let one = sum_by-cons f x [] in omega (arith, one))
insert_modes f x (y ∷ ys) =
    let old = sum_by-cons f y ys in
    elim (slice_cmp nat_cmp x y) as (λ o. (length (by_order o (x ∷ y ∷ ys) (y ∷ ys) (y ∷ insert_by (slice_cmp nat_cmp) x ys)) ≤ length (y ∷ ys) → sum_by f (by_order o (x ∷ y ∷ ys) (y ∷ ys) (y ∷ insert_by (slice_cmp nat_cmp) x ys)) ≡ sum_by f (y ∷ ys))
    × (length (y ∷ ys) < length (by_order o (x ∷ y ∷ ys) (y ∷ ys) (y ∷ insert_by (slice_cmp nat_cmp) x ys)) → sum_by f (by_order o (x ∷ y ∷ ys) (y ∷ ys) (y ∷ insert_by (slice_cmp nat_cmp) x ys)) ≡ sum_by f (y ∷ ys) + f x)) [
      | Less ↦ (λ h. absurd (omega (arith, h)), λ h. let whole = sum_by-cons f x (y ∷ ys) in omega (arith, whole))
      | Equal ↦ (λ h. refl, λ h. absurd (omega (arith, h)))
      | Greater ↦
          let more = insert_modes f x ys in
          let whole = sum_by-cons f y (insert_by (slice_cmp nat_cmp) x ys) in
          (λ h. let rest = more.0 (omega (arith, h)) in omega (arith, old, whole, rest), λ h. let rest = more.1 (omega (arith, h)) in omega (arith, old, whole, rest))
    ]

none_used : (b : Bool) → cond b 0 0 ≡ zero
none_used true = refl
none_used false = refl

module _ (s new : State Text Own) (unit : Text) (old taken : Option Tally) (kept : AreKept s.rows s.agents s.persistent old) (same : taken ≡ old)
    (is : new ≡ record s { persistent = insert_by (slice_cmp nat_cmp) unit s.persistent }) where
  abbrev modes : List Text
  modes = insert_by (slice_cmp nat_cmp) unit s.persistent

  counted_now : IfSome taken (IsTallyOf (total s.rows s.agents s.persistent))
  counted_now = subst (λ t. IfSome t (IsTallyOf (total s.rows s.agents s.persistent))) (sym same) kept.tallied

  kept_new : (tally : Option Tally) → IfSome tally (IsTallyOf (total s.rows s.agents modes)) → AreKept new.rows new.agents new.persistent tally
  kept_new tally h = subst (λ (t : State Text Own). AreKept t.rows t.agents t.persistent tally) (sym is) (record { rising = kept.rising; tallied = h })

  abbrev weight : ℕ → Weight
  weight n = record { pool = 0; charge = n; usage = 0 }

  more : (n : ℕ) → n ≡ mode_charge unit → length s.persistent < length modes → (c : Count) → total s.rows s.agents modes c ≡ total s.rows s.agents s.persistent c + given [] (weight n) c
  more n charge lt Pool = omega arith
  more n charge lt Charge = let sums = (insert_modes mode_charge unit s.persistent).1 lt in omega (arith, sums, charge)
  more n charge lt (Usage o) = let none = none_used (same_text o []) in omega (arith, none)

  as_many : length modes ≤ length s.persistent → (c : Count) → total s.rows s.agents modes c ≡ total s.rows s.agents s.persistent c
  as_many le Pool = refl
  as_many le Charge = let sums = (insert_modes mode_charge unit s.persistent).0 le in omega (arith, sums)
  as_many le (Usage o) = refl

  unchanged : length modes ≤ length s.persistent → (t : Option Tally) → IfSome t (IsTallyOf (total s.rows s.agents s.persistent)) → IfSome t (IsTallyOf (total s.rows s.agents modes))
  unchanged le None h = tt
  unchanged le (Some t) h = record {
    pool = h.pool;
    charge = h.charge ∙ sym (as_many le Charge);
    uses = h.uses;
  }

  pub kept_mode : (n : ℕ) (is_new : Bool) (tally : Option Tally) → n ≡ mode_charge unit → (is_new ≡ true → length s.persistent < length new.persistent) → (is_new ≡ false → length new.persistent ≤ length s.persistent)
      → (is_new ≡ true → HasRaised [] (Some (weight n)) taken tally) → (is_new ≡ false → tally ≡ taken) → AreKept new.rows new.agents new.persistent tally
  kept_mode n true tally charge lt le raised stays =
      kept_new tally (raised_on (total s.rows s.agents s.persistent) (total s.rows s.agents modes) (given [] (weight n)) [] (Some (weight n)) taken tally (λ c. refl)
      (more n charge (subst (λ (t : State Text Own). length s.persistent < length t.persistent) is (lt refl))) counted_now (raised refl))
  kept_mode n false tally charge lt le raised stays =
      kept_new tally (subst (λ t. IfSome t (IsTallyOf (total s.rows s.agents modes))) (sym (stays refl))
      (unchanged (subst (λ (t : State Text Own). length t.persistent ≤ length s.persistent) is (le refl)) taken counted_now))

-- A tally without a row that counts, and one without the rows of a list that do.
pub lowered_here : (b : Bool) (e : Place × Row Text) (origin : Text) (w : Option Weight) (old new : Option Tally) → b ≡ true → origin ≡ origin_of e.0.0 → IfSome w (IsRowWeight e.0 e.1) → HasLowered origin w old new
    → (counts : Count → ℕ) → IfSome old (IsTallyOf (λ c. cond b (row_weight c e) 0 + counts c)) → IfSome new (IsTallyOf counts)
lowered_here false e origin w old new h is told low counts had = cc
lowered_here true e origin w old new h is told low counts had =
    lowered_on (λ c. row_weight c e + counts c) counts (λ c. row_weight c e) origin w old new
    (subst (λ o. IfSome w (λ x. (c : Count) → given o x c ≡ row_weight c e)) (sym is) told) (λ c. omega arith) had low

sum_cond : (f : Place × Row Text → ℕ) (b : Bool) (e : Place × Row Text) (es : Rows Text) → sum_by f (cond b (e ∷ es) es) ≡ cond b (f e) 0 + sum_by f es
sum_cond f true e es = sum_by-cons f e es
sum_cond f false e es = omega arith

tally_same : (T U : Count → ℕ) → ((c : Count) → T c ≡ U c) → (t : Option Tally) → IfSome t (IsTallyOf T) → IfSome t (IsTallyOf U)
tally_same T U same None h = tt
tally_same T U same (Some t) h = record {
  pool = h.pool ∙ same Pool;
  charge = h.charge ∙ same Charge;
  uses = uses_same (λ o. T (Usage o)) (λ o. U (Usage o)) (λ o. same (Usage o)) t.uses h.uses;
}

module _ (p : Place) (rows : Rows Text) where
  abbrev out_of : (Count → ℕ) → Rows Text → Count → ℕ
  out_of rest es c = sum_by (row_weight c) (filter (λ e. is_within p e.0) es) + (sum_by (row_weight c) (filter (λ e. not (is_within p e.0)) rows) + rest c)

  pub lowered_first : (t : Option Tally) (rest : Count → ℕ) → IfSome t (IsTallyOf (λ c. sum_by (row_weight c) rows + rest c)) → IfSome t (IsTallyOf (out_of rest rows))
  lowered_first t rest h = tally_same (λ c. sum_by (row_weight c) rows + rest c) (out_of rest rows) (λ c. let parts = sum-split (row_weight c) (λ e. is_within p e.0) rows in omega (arith, parts)) t h

  pub lowered_next : (i : ℕ) (e : Place × Row Text) (old new : Option Tally) → i < length rows → e ≡ get_or rows i e
      → ((counts : Count → ℕ) → IfSome old (IsTallyOf (λ c. cond (is_within p e.0) (row_weight c e) 0 + counts c)) → IfSome new (IsTallyOf counts))
      → (rest : Count → ℕ) → IfSome old (IsTallyOf (out_of rest (drop i rows))) → IfSome new (IsTallyOf (out_of rest (drop (suc i) rows)))
  lowered_next i e old new lt is step rest h =
      step (out_of rest (drop (suc i) rows))
      (tally_same (out_of rest (drop i rows)) (λ c. cond (is_within p e.0) (row_weight c e) 0 + out_of rest (drop (suc i) rows) c)
      (λ c.
      let here : sum_by (row_weight c) (filter (λ x. is_within p x.0) (drop i rows)) ≡ cond (is_within p e.0) (row_weight c e) 0 + sum_by (row_weight c) (filter (λ x. is_within p x.0) (drop (suc i) rows))
      = ap (λ (es : Rows Text). sum_by (row_weight c) (filter (λ x. is_within p x.0) es)) (drop_here rows i e lt is) ∙ sum_cond (row_weight c) (is_within p e.0) e (filter (λ x. is_within p x.0) (drop (suc i) rows)) in
      omega (arith, here)) old h)

  pub lowered_last : (t : Option Tally) (n : ℕ) (rest : Count → ℕ) → length rows ≤ n → IfSome t (IsTallyOf (out_of rest (drop n rows))) → IfSome t (IsTallyOf (λ c. sum_by (row_weight c) (filter (λ e. not (is_within p e.0)) rows) + rest c))
  lowered_last t n rest le h =
      tally_same (out_of rest (drop n rows)) (λ c. sum_by (row_weight c) (filter (λ e. not (is_within p e.0)) rows) + rest c)
      (λ c.
      let none : sum_by (row_weight c) (filter (λ x. is_within p x.0) (drop n rows)) ≡ 0 = ap (λ (es : Rows Text). sum_by (row_weight c) (filter (λ x. is_within p x.0) es)) (drop_all n rows le) in
      omega (arith, none)) t h

-- What is kept of a state with other rows.
pub kept_rows : (s new : State Text Own) (rows : Rows Text) (tally : Option Tally) → new ≡ record s { rows = rows } → AreKept rows s.agents s.persistent tally → AreKept new.rows new.agents new.persistent tally
kept_rows s new rows tally is h = subst (λ (t : State Text Own). AreKept t.rows t.agents t.persistent tally) (sym is) h

-- A tally without the rows at a place and below it.
abbrev pub Leaves : Place → Rows Text → Option Tally → Option Tally → Type 0
Leaves p rows old new = (rest : Count → ℕ) → IfSome old (IsTallyOf (λ c. sum_by (row_weight c) rows + rest c)) → IfSome new (IsTallyOf (λ c. sum_by (row_weight c) (filter (λ e. not (is_within p e.0)) rows) + rest c))
