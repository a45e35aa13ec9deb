-- Words that are numbers.
use Rattle.std.proofs.Common.{◌≡◌, ℕ, ◌<◌, ◌≤◌, ◌^◌, Bool, true, false, List, [], ◌∷◌, refl, sym, ◌∙◌, ap, arith}
use Rattle.std.specs.Prelude.{nat_eq, nat_le, ◌&&◌, decimal, not, Result, Ok, Err}
use Rattle.std.proofs.lemmas.Fmt.{decimal_injective}
use Rattle.opfs_base.specs.Texts.{Text}
use Rattle.opfs_image.specs.Superblock.{is_in_range}
use Rattle.opfs_image.specs.declared.geometry.Geometry.{Geometry}
use Rattle.opfs_image.proofs.Formatted.{range_parts}
use Rattle.opfs_commands.specs.Numbers.{AreNumbers, may_generate}
use Rattle.opfs_commands.specs.Sizes.{AreSizes}
use Rattle.opfs_commands.specs.declared.words.Generation.{Generation}
use Rattle.std.specs.Cmp.Lexicographic.{pointwise}

pub same_pointwise : (xs : List ℕ) → pointwise nat_eq xs xs ≡ true
same_pointwise [] = refl
same_pointwise (x ∷ xs) = let e : nat_eq x x ≡ true = search (arith) in rw (e, same_pointwise xs) refl

pub not_other : (xs ys : List ℕ) → xs ≡ ys → true ≡ not (pointwise nat_eq xs ys) → ⊥
not_other xs ys e h = let s = sym (ap (λ z. pointwise nat_eq xs z) e) ∙ same_pointwise xs in let t : true ≡ false = h ∙ ap not s in cc

number_in : {E : Type 0} → ℕ → Result ℕ E → ℕ
number_in other (Ok n) = n
number_in other (Err e) = other

pub ok_same : {E : Type 0} (r : Result ℕ E) (m n : ℕ) → r ≡ Ok m → r ≡ Ok n → m ≡ n
unfolding number_in
ok_same r m n a b = ap (number_in m) (sym a ∙ b)

-- words for numbers out of range are those of no sizes in range
pub not_in_range : (g h : Geometry) (blocks areas quota : Text) → AreSizes g blocks areas quota → blocks ≡ decimal h.blocks → areas ≡ decimal h.areas → quota ≡ decimal h.quota
    → h.blocks < 2 ^ 64 → h.areas < 2 ^ 64 → h.quota < 2 ^ 64 → is_in_range h ≡ false → ⊥
not_in_range g h blocks areas quota are b a q hb ha hq out =
    let r = range_parts g are.range in
    let eb = decimal_injective g.blocks h.blocks (omega (arith, r.1)) hb (sym are.blocks_are ∙ b) in
    let ea = decimal_injective g.areas h.areas (omega (arith, r.0)) ha (sym are.areas_are ∙ a) in
    let eq = decimal_injective g.quota h.quota (omega (arith, r.2)) hq (sym are.quota_is ∙ q) in
    let same : g ≡ h = λ i. record { areas = ea i; blocks = eb i; quota = eq i } in
    let t : true ≡ false = sym are.range ∙ ap is_in_range same ∙ out in
    cc

both_true : (x y : Bool) → (x && y) ≡ true → (x ≡ true) × (y ≡ true)
both_true true true e = (refl, refl)
both_true true false e = absurd (cc)
both_true false y e = absurd (cc)

-- what is known of the numbers of a large run
pub record GenerationParts (g : Generation) : Type 0 where
  pub seed_fits : g.seed ≤ 9007199254740991
  pub some_agents : 1 ≤ g.agents
  pub few_agents : g.agents ≤ 16
  pub some_rounds : 1 ≤ g.rounds
  pub few_rounds : g.rounds ≤ 200

pub generation_parts : (g : Generation) → may_generate g ≡ true → GenerationParts g
generation_parts g range =
    let seed = nat_le g.seed 9007199254740991 in
    let some_agents = nat_le 1 g.agents in
    let few_agents = nat_le g.agents 16 in
    let some_rounds = nat_le 1 g.rounds in
    let few_rounds = nat_le g.rounds 200 in
    let a = both_true (seed && some_agents && few_agents && some_rounds) few_rounds range in
    let b = both_true (seed && some_agents && few_agents) some_rounds a.0 in
    let c = both_true (seed && some_agents) few_agents b.0 in
    let d = both_true seed some_agents c.0 in
    record { seed_fits = search (arith, d.0); some_agents = search (arith, d.1); few_agents = search (arith, c.1); some_rounds = search (arith, b.1); few_rounds = search (arith, a.1) }

-- words for numbers out of range are those of no numbers in range
pub not_generated : (g h : Generation) (seed agents rounds : Text) → AreNumbers g seed agents rounds → seed ≡ decimal h.seed → agents ≡ decimal h.agents → rounds ≡ decimal h.rounds
    → h.seed < 2 ^ 64 → h.agents < 2 ^ 64 → h.rounds < 2 ^ 64 → may_generate h ≡ false → ⊥
not_generated g h seed agents rounds are s a r hs ha hr out =
    let p = generation_parts g are.range in
    let es = decimal_injective g.seed h.seed (omega (arith, p.seed_fits)) hs (sym are.seed_is ∙ s) in
    let ea = decimal_injective g.agents h.agents (omega (arith, p.few_agents)) ha (sym are.agents_are ∙ a) in
    let er = decimal_injective g.rounds h.rounds (omega (arith, p.few_rounds)) hr (sym are.rounds_are ∙ r) in
    let same : g ≡ h = λ i. record { seed = es i; agents = ea i; rounds = er i } in
    let t : true ≡ false = sym are.range ∙ ap may_generate same ∙ out in
    cc
