-- The units that are cleared: those of the shares are those of the machine.
use Rattle.std.proofs.Common.{◌≡◌, ◌&&◌, ◌||◌, ◌==◌, ℕ, ◌+◌, ◌-◌, ◌<◌, Bool, true, false, cond, T, List, [], ◌∷◌, map, fold, Option, Some, None, option_map, refl, sym, ap, ◌∙◌, subst, arith}
use Rattle.std.proofs.lemmas.Cmp.{nat_list_cmp_total, nat_cmp_total, on_total, then_total, tied_itself}
use Rattle.std.proofs.lemmas.Map.Lookups.{exact_bytes, exact_unsigned, exact_pairs}
use Rattle.std.specs.BTreeMap.{insert_entry}
use Rattle.std.specs.Cmp.{IsTotalOrder}
use Rattle.std.specs.Cmp.Lexicographic.{same_text as equal_texts}
use Rattle.std.specs.FinMap.Entries.{put, by_order, is_sorted, below_all, is_sorted-put}
use Rattle.std.specs.Ordering.{match_ordering, is_lt, nat_cmp}
use Rattle.std.specs.Prelude.{nat_le}
use Rattle.std.specs.declared.cmp.Ordering.TheVariants.{Less, Equal, Greater}
use Rattle.opfs_base.specs.Texts.{Text, same_text}
use Rattle.opfs_base.specs.Units.{origin_of}
use Rattle.opfs_machine.specs.Contents.{in_lengths}
use Rattle.opfs_machine.specs.Ordered.{insert_by}
use Rattle.opfs_machine.specs.Sums.{pool, fits_pool}
use Rattle.opfs_machine.specs.Victims.{cleared, shortest_front}
use Rattle.opfs_pool.specs.Shares.{Shares, text_cmp}
use Rattle.opfs_pool.specs.Victims.{use_cmp, Uses, last_in, Candidates, with_candidate}
use Rattle.opfs_pool.specs.Victims.{shortest_front as front_of}
use Rattle.opfs_state_rows.specs.Standing.Seen.{Machine}
use Rattle.opfs_state.proofs.verdicts.Clearing.{rows_blocks, rows-kept, pool-cleared}

use_total : IsTotalOrder use_cmp
use_total = then_total (on_total (λ (p : ℕ × Text). p.0) nat_cmp_total) (on_total (λ (p : ℕ × Text). p.1) nat_list_cmp_total)

exact_uses : (x y : ℕ × Text) → use_cmp x y ≡ Equal → x ≡ y
exact_uses = exact_pairs nat_cmp text_cmp exact_unsigned exact_bytes

-- The candidates in order.
insert-keys : (k : ℕ × Text) (v : ℕ) (es : Candidates) → map (λ e. e.0) (insert_entry use_cmp es k v) ≡ insert_by use_cmp k (map (λ e. e.0) es)
insert-keys k v [] = refl
insert-keys k v (e ∷ es) =
    elim (use_cmp k e.0) as (λ o. map (λ (e : (ℕ × Text) × ℕ). e.0) (match_ordering o ((k, v) ∷ e ∷ es) ((e.0, v) ∷ es) (e ∷ insert_entry use_cmp es k v)) ≡ by_order o (k ∷ e.0 ∷ map (λ e. e.0) es) (e.0 ∷ map (λ e. e.0) es) (e.0 ∷ insert_by use_cmp k (map (λ e. e.0) es))) [
      | Less ↦ refl
      | Equal ↦ refl
      | Greater ↦ ap (λ (ks : List (ℕ × Text)). e.0 ∷ ks) (insert-keys k v es)
    ]

pub keys-folded : (uses : Uses) (es : Shares) (start : Candidates)
    → map (λ e. e.0) (fold (with_candidate uses) start es) ≡ fold (λ sorted unit. insert_by use_cmp (last_in uses (origin_of unit), unit) sorted) (map (λ e. e.0) start) (map (λ e. e.0) es)
keys-folded uses [] start = refl
keys-folded uses (e ∷ es) start =
    keys-folded uses es (with_candidate uses start e)
    ∙ ap (λ ks. fold (λ sorted unit. insert_by use_cmp (last_in uses (origin_of unit), unit) sorted) ks (map (λ e. e.0) es)) (insert-keys (last_in uses (origin_of e.0), e.0) e.1.blocks start)

pub map-map : (es : Candidates) → map (λ e. e.0.1) es ≡ map (λ e. e.1) (map (λ e. e.0) es)
map-map [] = refl
map-map (e ∷ es) = ap (λ (us : List Text). e.0.1 ∷ us) (map-map es)

insert-put : (k : ℕ × Text) (v : ℕ) (es : Candidates) → insert_entry use_cmp es k v ≡ put use_cmp k v es
insert-put k v [] = refl
insert-put k v (e ∷ es) =
    elim (use_cmp k e.0) as (λ o. match_ordering o ((k, v) ∷ e ∷ es) ((e.0, v) ∷ es) (e ∷ insert_entry use_cmp es k v) ≡ by_order o ((k, v) ∷ e ∷ es) ((e.0, v) ∷ es) (e ∷ put use_cmp k v es)) [
      | Less ↦ refl
      | Equal ↦ refl
      | Greater ↦ ap (λ (r : Candidates). e ∷ r) (insert-put k v es)
    ]

abbrev pub Rise : Candidates → Type 0
Rise es = T (is_sorted use_cmp es)

lacks-by : (held need size lacking : ℕ) → 0 < need → lacking ≡ held + need - size → (a : Bool) → a ≡ nat_le need 0 → (b : Bool) → b ≡ nat_le (held + need) size → (lacking == 0) ≡ (a || b)
lacks-by held need size lacking some is true none b within = grind (arith, some, none)
lacks-by held need size lacking some is false none true within = grind (arith, is, within)
lacks-by held need size lacking some is false none false within = grind (arith, is, within)

as-elim : (t : Bool) (a b : Option (List Text)) → cond t a b ≡ elim t [ true ↦ a | false ↦ b ]
as-elim true a b = refl
as-elim false a b = refl

-- One unit more.
front-step : (t fits : Bool) (unit : Text) (front rest : Option (List Text)) → t ≡ fits → front ≡ rest
    → cond t (Some []) (option_map (λ more. unit ∷ more) front) ≡ elim fits [ true ↦ Some [] | false ↦ option_map (λ more. unit ∷ more) rest ]
front-step true true unit front rest same is = refl
front-step true false unit front rest same is = cc
front-step false true unit front rest same is = cc
front-step false false unit front rest same is = ap (option_map (λ (more : List Text). unit ∷ more)) is

module _ (uses : Uses) where
  -- Each candidate stands by the last use of its origin.
  abbrev pub Each : Candidates → Type 0
  Each [] = Unit {0}
  Each (e ∷ es) = (e.0 ≡ (last_in uses (origin_of e.0.1), e.0.1)) × Each es

  -- Each has the blocks of its unit.
  abbrev pub Has : Machine → Candidates → Type 0
  Has s [] = Unit {0}
  Has s (e ∷ es) = (e.1 ≡ rows_blocks s e.0.1) × Has s es

  abbrev pub Good : Machine → Shares → Type 0
  Good s [] = Unit {0}
  Good s (e ∷ es) = (e.1.blocks ≡ rows_blocks s e.0) × Good s es

  each-insert : (k : ℕ × Text) (v : ℕ) (es : Candidates) → k ≡ (last_in uses (origin_of k.1), k.1) → Each es → Each (insert_entry use_cmp es k v)
  each-insert k v [] one all = (one, tt)
  each-insert k v (e ∷ es) one all =
      elim (use_cmp k e.0) as (λ o. Each (match_ordering o ((k, v) ∷ e ∷ es) ((e.0, v) ∷ es) (e ∷ insert_entry use_cmp es k v))) [
        | Less ↦ (one, all)
        | Equal ↦ all
        | Greater ↦ (all.0, each-insert k v es one all.1)
      ]

  has-insert : (s : Machine) (k : ℕ × Text) (v : ℕ) (es : Candidates) → v ≡ rows_blocks s k.1 → Has s es → Has s (insert_entry use_cmp es k v)
  has-insert s k v [] one all = (one, tt)
  has-insert s k v (e ∷ es) one all =
      elim (use_cmp k e.0) as (λ o. o ≡ use_cmp k e.0 → Has s (match_ordering o ((k, v) ∷ e ∷ es) ((e.0, v) ∷ es) (e ∷ insert_entry use_cmp es k v))) [
        | Less ↦ λ told. (one, all)
        | Equal ↦ λ told. (one ∙ ap (λ (u : ℕ × Text). rows_blocks s u.1) (exact_uses k e.0 (sym told)), all.1)
        | Greater ↦ λ told. (all.0, has-insert s k v es one all.1)
      ] refl

  pub folded : (s : Machine) (es : Shares) (start : Candidates) → Good s es → Each start → Has s start → Rise start
      → Each (fold (with_candidate uses) start es) × Has s (fold (with_candidate uses) start es) × Rise (fold (with_candidate uses) start es)
  folded s [] start good each has rise = (each, has, rise)
  folded s (e ∷ es) start good each has rise =
      let k : ℕ × Text = (last_in uses (origin_of e.0), e.0) in
      folded s es (with_candidate uses start e) good.1
      (each-insert k e.1.blocks start refl each)
      (has-insert s k e.1.blocks start good.0 has)
      (subst Rise (sym (insert-put k e.1.blocks start)) (is_sorted-put use_cmp use_total k e.1.blocks start rise))

  first_of : (a b : Bool) → T (a && b) → T a
  first_of true b h = tt
  first_of false b h = absurd h

  second_of : (a b : Bool) → T (a && b) → T b
  second_of true b h = h
  second_of false b h = absurd h

  -- A candidate that stands below another is of another unit.
  below-other : (u v : ℕ × Text) → u ≡ (last_in uses (origin_of u.1), u.1) → v ≡ (last_in uses (origin_of v.1), v.1) → T (is_lt (use_cmp u v)) → same_text u.1 v.1 ≡ false
  below-other u v one two below =
      elim (same_text u.1 v.1) as (λ b. same_text u.1 v.1 ≡ b → b ≡ false) [
        | true ↦ λ same. absurd (subst (λ o. T (is_lt o)) (ap (use_cmp u) (sym (one ∙ ap (λ (x : Text). (last_in uses (origin_of x), x)) (equal_texts u.1 v.1 (sym same)) ∙ sym two)) ∙ tied_itself use_total u) below)
        | false ↦ λ same. refl
      ] refl

  has-cleared : (s : Machine) (u : ℕ × Text) (es : Candidates) → u ≡ (last_in uses (origin_of u.1), u.1) → Each es → T (below_all use_cmp u es) → Has s es → Has (cleared s u.1) es
  has-cleared s u [] one each below has = tt
  has-cleared s u (e ∷ es) one each below has = (
    has.0 ∙ sym (rows-kept s u.1 e.0.1 (below-other u e.0 one each.0 (first_of (is_lt (use_cmp u e.0)) (below_all use_cmp u es) below))),
    has-cleared s u es one each.1 (second_of (is_lt (use_cmp u e.0)) (below_all use_cmp u es) below) has.1,
  )

  -- Whether nothing more is lacking.
  lacks : (s : Machine) (need lacking : ℕ) → 0 < need → lacking ≡ pool in_lengths s + need - s.limits.blocks → (lacking == 0) ≡ fits_pool in_lengths s need
  lacks s need lacking some is = lacks-by (pool in_lengths s) need s.limits.blocks lacking some is (nat_le need 0) refl (nat_le (pool in_lengths s + need) s.limits.blocks) refl

  pub front-same : (s : Machine) (need : ℕ) (es : Candidates) (lacking : ℕ) → 0 < need → lacking ≡ pool in_lengths s + need - s.limits.blocks → Each es → Has s es → Rise es
      → front_of lacking es ≡ shortest_front in_lengths s need (map (λ e. e.0.1) es)
  front-same s need [] lacking some is each has rise = as-elim (lacking == 0) (Some []) None ∙ ap (λ t. elim t [ true ↦ Some [] | false ↦ None ]) (lacks s need lacking some is)
  front-same s need (e ∷ es) lacking some is each has rise =
      front-step (lacking == 0) (fits_pool in_lengths s need) e.0.1 (front_of (lacking - e.1) es) (shortest_front in_lengths (cleared s e.0.1) need (map (λ e. e.0.1) es)) (lacks s need lacking some is)
      (front-same (cleared s e.0.1) need es (lacking - e.1) some (omega (arith, is, has.0, pool-cleared s e.0.1)) each.1
      (has-cleared s e.0 es each.0 each.1 (first_of (below_all use_cmp e.0 es) (is_sorted use_cmp es) rise) has.1) (second_of (below_all use_cmp e.0 es) (is_sorted use_cmp es) rise))
