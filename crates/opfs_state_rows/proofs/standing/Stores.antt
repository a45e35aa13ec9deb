-- What the calls of the shed and the pool do, as moves of one unit.
use Rattle.std.proofs.Common.{◌≡◌, ℕ, ◌+◌, ◌-◌, ◌≤◌, Bool, true, false, cond, List, [], ◌∷◌, filter, subst, Option, Some, None, is_some, unwrap_or, option_map, refl, sym, ap, ◌∙◌, arith}
use Rattle.std.specs.Map.{lookup, keys_of, set_value}
use Rattle.std.specs.Cmp.Lexicographic.{texts_ties}
use Rattle.opfs_base.specs.Texts.{Text, same_text}
use Rattle.opfs_pool.specs.declared.pool.Share.{Share}
use Rattle.opfs_pool.specs.Shares as pool_words
use Rattle.opfs_pool.specs.Shares.{Blocks, Shares, has_share, share_at, with_share, held, changed}
use Rattle.opfs_pool.proofs.Sums.{held_mark}
use Rattle.opfs_shed.proofs.Values.{lookup-set_same, lookup-set_other, is_some-set_value}
use Rattle.opfs_shed.specs.declared.shed.Bucket.{Bucket}
use Rattle.opfs_shed.specs.Buckets as shed_words
use Rattle.opfs_shed.specs.Buckets.{Storage, Buckets, has_unit, bucket_at, with_bucket, usage_of, part_of}
use Rattle.opfs_tree.specs.Ready.Ready.{Ready}
use Rattle.opfs_machine.specs.declared.own.Outline.{Outline}
use Rattle.opfs_machine.specs.declared.state.Agent.{Agent}
use Rattle.opfs_register.specs.Registers.{Registered}
use Rattle.opfs_state_rows.specs.Standing.Seen.{Prepared, prepared_of, persistent_in}
use Rattle.opfs_state_rows.specs.Standing.Moves.{ShedMoves, PoolMoves}
use Rattle.opfs_state_rows.specs.Standing.Sums.{of_origin}
use Rattle.opfs_state_rows.proofs.standing.Units.{same_unit, apart_back}

-- Keys that tie with one text tie with no other.
keys_apart : (unit u : Text) → same_text unit u ≡ false → (k : Text) → shed_words.is_unit unit k ≡ true → shed_words.is_unit u k ≡ false
keys_apart unit u apart k is =
    let same : unit ≡ k = same_unit unit k (texts_ties unit k ∙ is) in
    sym (texts_ties u k) ∙ (ap (same_text u) (sym same) ∙ apart_back unit u apart)

found_new : {X : Type 0} (o : Option X) (w d : X) → is_some o ≡ true → unwrap_or (option_map (λ (_ : X). w) o) d ≡ w
found_new None w d h = cc
found_new (Some x) w d h = refl

-- ---- buckets

-- The units stay.
pub keys-kept : {X : Type 0} (test : Text → Bool) (es : List (Text × X)) (b : X) → keys_of (set_value test es b) ≡ keys_of es
keys-kept test [] b = refl
keys-kept test (e ∷ es) b =
    elim (test e.0) as (λ t. keys_of (cond t ((e.0, b) ∷ es) (e ∷ set_value test es b)) ≡ e.0 ∷ keys_of es) [
      | true ↦ refl
      | false ↦ ap (λ xs. e.0 ∷ xs) (keys-kept test es b)
    ]

module _ (es : Buckets) (unit : Text) (b : Bucket) where
  pub bucket-same : has_unit es unit ≡ true → bucket_at (with_bucket es unit b) unit ≡ b
  bucket-same has = ap (λ o. unwrap_or o shed_words.first_bucket) (lookup-set_same (shed_words.is_unit unit) es b) ∙ found_new (lookup (shed_words.is_unit unit) es) b shed_words.first_bucket has

  pub bucket-other : (u : Text) → same_text unit u ≡ false → bucket_at (with_bucket es unit b) u ≡ bucket_at es u
  bucket-other u apart = ap (λ o. unwrap_or o shed_words.first_bucket) (lookup-set_other (shed_words.is_unit unit) (shed_words.is_unit u) es b (keys_apart unit u apart))

  pub bucket-kept : (u : Text) → has_unit (with_bucket es unit b) u ≡ has_unit es u
  bucket-kept u = is_some-set_value (shed_words.is_unit unit) (shed_words.is_unit u) es b

-- A bucket's usage once it has another bucket, at any unit.
module _ (shed new : Storage) (unit : Text) (b : Bucket) (less more : ℕ) (has : has_unit shed.buckets unit ≡ true) (is : new.buckets ≡ with_bucket shed.buckets unit b)
    (sum : b.usage + less ≡ (bucket_at shed.buckets unit).usage + more) where
  usage_at : (u : Text) → (bucket_at new.buckets u).usage + cond (same_text u unit) less 0 ≡ (bucket_at shed.buckets u).usage + cond (same_text u unit) more 0
  usage_at u =
      elim (same_text u unit) as (λ t. same_text u unit ≡ t → (bucket_at new.buckets u).usage + cond t less 0 ≡ (bucket_at shed.buckets u).usage + cond t more 0) [
        | true ↦ λ told.
            let same : u ≡ unit = same_unit u unit told in
            let now : (bucket_at new.buckets u).usage ≡ b.usage = ap (λ (x : Text). (bucket_at new.buckets x).usage) same ∙ (ap (λ es. (bucket_at es unit).usage) is ∙ ap (λ (x : Bucket). x.usage) (bucket-same shed.buckets unit b has)) in
            let was : (bucket_at shed.buckets u).usage ≡ (bucket_at shed.buckets unit).usage = ap (λ (x : Text). (bucket_at shed.buckets x).usage) same in
            omega (arith, sum, now, was)
        | false ↦ λ told.
            let now : (bucket_at new.buckets u).usage ≡ (bucket_at shed.buckets u).usage = ap (λ es. (bucket_at es u).usage) is ∙ ap (λ (x : Bucket). x.usage) (bucket-other shed.buckets unit b u (apart_back u unit told)) in
            omega (arith, now)
      ] refl

  pub shed-moved : new.quota ≡ shed.quota → ((origin : Text) → usage_of origin new.buckets + cond (of_origin origin unit) less 0 ≡ usage_of origin shed.buckets + cond (of_origin origin unit) more 0) → ShedMoves shed new unit less more
  shed-moved quota usages = record {
    quota = quota;
    kept = λ u. ap (λ es. has_unit es u) is ∙ bucket-kept shed.buckets unit b u;
    usage = usage_at;
    usages = usages;
  }

pub shed-kept : (shed : Storage) (unit : Text) (n : ℕ) → ShedMoves shed shed unit n n
shed-kept shed unit n = record { quota = refl; kept = λ u. refl; usage = λ u. refl; usages = λ origin. refl }

-- More blocks of a unit.
pub shed-added : (shed new : Storage) (unit : Text) (need : ℕ) → has_unit shed.buckets unit ≡ true
    → new ≡ shed_words.changed shed unit (record (bucket_at shed.buckets unit) { usage = (bucket_at shed.buckets unit).usage + need })
    → ((origin : Text) → usage_of origin new.buckets ≡ usage_of origin shed.buckets + part_of origin unit need) → ShedMoves shed new unit 0 need
shed-added shed new unit need has is usages =
    shed-moved shed new unit (record (bucket_at shed.buckets unit) { usage = (bucket_at shed.buckets unit).usage + need }) 0 need has (ap (λ (s : Storage). s.buckets) is) (omega arith) (ap (λ (s : Storage). s.quota) is)
    (λ origin. none_more (of_origin origin unit) _ _ need (usages origin))
  where
    none_more : (t : Bool) (a b n : ℕ) → a ≡ b + cond t n 0 → a + cond t 0 0 ≡ b + cond t n 0
    none_more true a b n e = omega arith
    none_more false a b n e = omega arith

-- Fewer.
pub shed-freed : (shed new : Storage) (unit : Text) (n : ℕ) → has_unit shed.buckets unit ≡ true → n ≤ (bucket_at shed.buckets unit).usage
    → new ≡ shed_words.changed shed unit (record (bucket_at shed.buckets unit) { usage = (bucket_at shed.buckets unit).usage - n })
    → ((origin : Text) → usage_of origin new.buckets + part_of origin unit n ≡ usage_of origin shed.buckets) → ShedMoves shed new unit n 0
shed-freed shed new unit n has le is usages =
    shed-moved shed new unit (record (bucket_at shed.buckets unit) { usage = (bucket_at shed.buckets unit).usage - n }) n 0 has (ap (λ (s : Storage). s.buckets) is) (omega arith) (ap (λ (s : Storage). s.quota) is)
    (λ origin. none_back (of_origin origin unit) _ _ n (usages origin))
  where
    none_back : (t : Bool) (a b k : ℕ) → a + cond t k 0 ≡ b → a + cond t k 0 ≡ b + cond t 0 0
    none_back true a b k e = omega arith
    none_back false a b k e = omega arith

pub shed-then : (a b c : Storage) (unit : Text) (x y z : ℕ) → ShedMoves a b unit x y → ShedMoves b c unit y z → ShedMoves a c unit x z
shed-then a b c unit x y z first second = record {
  quota = second.quota ∙ first.quota;
  kept = λ u. second.kept u ∙ first.kept u;
  usage = λ u. omega (arith, first.usage u, second.usage u);
  usages = λ origin. omega (arith, first.usages origin, second.usages origin);
}

-- ---- shares

module _ (es : Shares) (unit : Text) (v : Share) where
  pub share-same : has_share es unit ≡ true → share_at (with_share es unit v) unit ≡ v
  share-same has = ap (λ o. unwrap_or o pool_words.first_share) (lookup-set_same (pool_words.is_unit unit) es v) ∙ found_new (lookup (pool_words.is_unit unit) es) v pool_words.first_share has

  pub share-other : (u : Text) → same_text unit u ≡ false → share_at (with_share es unit v) u ≡ share_at es u
  share-other u apart = ap (λ o. unwrap_or o pool_words.first_share) (lookup-set_other (pool_words.is_unit unit) (pool_words.is_unit u) es v (keys_apart unit u apart))

  pub share-kept : (u : Text) → has_share (with_share es unit v) u ≡ has_share es u
  share-kept u = is_some-set_value (pool_words.is_unit unit) (pool_words.is_unit u) es v

module _ (pool new : Blocks) (unit : Text) (v : Share) (less more : ℕ) (has : has_share pool.shares unit ≡ true) (is : new ≡ changed pool unit v)
    (sum : v.blocks + less ≡ (share_at pool.shares unit).blocks + more) where
  shares_are : new.shares ≡ with_share pool.shares unit v
  shares_are = ap (λ (b : Blocks). b.shares) is

  blocks_at : (u : Text) → (share_at new.shares u).blocks + cond (same_text u unit) less 0 ≡ (share_at pool.shares u).blocks + cond (same_text u unit) more 0
  blocks_at u =
      elim (same_text u unit) as (λ t. same_text u unit ≡ t → (share_at new.shares u).blocks + cond t less 0 ≡ (share_at pool.shares u).blocks + cond t more 0) [
        | true ↦ λ told.
            let same : u ≡ unit = same_unit u unit told in
            let now : (share_at new.shares u).blocks ≡ v.blocks = ap (λ (x : Text). (share_at new.shares x).blocks) same ∙ (ap (λ es. (share_at es unit).blocks) shares_are ∙ ap (λ (x : Share). x.blocks) (share-same pool.shares unit v has)) in
            let was : (share_at pool.shares u).blocks ≡ (share_at pool.shares unit).blocks = ap (λ (x : Text). (share_at pool.shares x).blocks) same in
            omega (arith, sum, now, was)
        | false ↦ λ told.
            let now : (share_at new.shares u).blocks ≡ (share_at pool.shares u).blocks = ap (λ es. (share_at es u).blocks) shares_are ∙ ap (λ (x : Share). x.blocks) (share-other pool.shares unit v u (apart_back u unit told)) in
            omega (arith, now)
      ] refl

  pub pool-moved : held new.shares + less ≡ held pool.shares + more → PoolMoves pool new unit less more
  pool-moved all = record {
    size = ap (λ (b : Blocks). b.size) is;
    kept = λ u. ap (λ es. has_share es u) shares_are ∙ share-kept pool.shares unit v u;
    blocks = blocks_at;
    held = all;
    marks = λ u apart. ap (λ es. (share_at es u).candidate) shares_are ∙ ap (λ (x : Share). x.candidate) (share-other pool.shares unit v u apart);
  }

  pub mark-here : (share_at new.shares unit).candidate ≡ v.candidate
  mark-here = ap (λ es. (share_at es unit).candidate) shares_are ∙ ap (λ (x : Share). x.candidate) (share-same pool.shares unit v has)

pub pool-kept : (pool : Blocks) (unit : Text) (n : ℕ) → PoolMoves pool pool unit n n
pool-kept pool unit n = record { size = refl; kept = λ u. refl; blocks = λ u. refl; held = refl; marks = λ u apart. refl }

pub pool-then : (a b c : Blocks) (unit : Text) (x y z : ℕ) → PoolMoves a b unit x y → PoolMoves b c unit y z → PoolMoves a c unit x z
pool-then a b c unit x y z first second = record {
  size = second.size ∙ first.size;
  kept = λ u. second.kept u ∙ first.kept u;
  blocks = λ u. omega (arith, first.blocks u, second.blocks u);
  held = omega (arith, first.held, second.held);
  marks = λ u apart. second.marks u apart ∙ first.marks u apart;
}

-- A mark alone.
module _ (pool new : Blocks) (unit : Text) (mark : Bool) (has : has_share pool.shares unit ≡ true) (is : new ≡ changed pool unit (record (share_at pool.shares unit) { candidate = mark })) where
  pub pool-marked : (n : ℕ) → PoolMoves pool new unit n n
  pool-marked n =
      pool-moved pool new unit (record (share_at pool.shares unit) { candidate = mark }) n n has is refl
      (ap (λ k. k + n) (ap (λ (b : Blocks). held b.shares) is ∙ held_mark pool.shares unit mark has))

  pub marked-here : (share_at new.shares unit).candidate ≡ mark
  marked-here = mark-here pool new unit (record (share_at pool.shares unit) { candidate = mark }) 0 0 has is refl

-- ---- the same moves with more on both sides

lifted : (t : Bool) (a b x y k more less : ℕ) → a + cond t x 0 ≡ b + cond t y 0 → less ≡ k + x → more ≡ k + y → a + cond t less 0 ≡ b + cond t more 0
lifted true a b x y k more less e p q = omega arith
lifted false a b x y k more less e p q = omega arith

pub shed-lift : (a b : Storage) (unit : Text) (x y k less more : ℕ) → less ≡ k + x → more ≡ k + y → ShedMoves a b unit x y → ShedMoves a b unit less more
shed-lift a b unit x y k less more p q moves = record {
  quota = moves.quota;
  kept = moves.kept;
  usage = λ u. lifted (same_text u unit) _ _ x y k more less (moves.usage u) p q;
  usages = λ origin. lifted (of_origin origin unit) _ _ x y k more less (moves.usages origin) p q;
}

pub pool-lift : (a b : Blocks) (unit : Text) (x y k less more : ℕ) → less ≡ k + x → more ≡ k + y → PoolMoves a b unit x y → PoolMoves a b unit less more
pool-lift a b unit x y k less more p q moves = record {
  size = moves.size;
  kept = moves.kept;
  blocks = λ u. lifted (same_text u unit) _ _ x y k more less (moves.blocks u) p q;
  held = omega (arith, moves.held);
  marks = moves.marks;
}

pub pool-raised : (pool new : Blocks) (unit : Text) (n : ℕ) → has_share pool.shares unit ≡ true → new ≡ changed pool unit (record (share_at pool.shares unit) { blocks = (share_at pool.shares unit).blocks + n })
    → held new.shares ≡ held pool.shares + n → PoolMoves pool new unit 0 n
pool-raised pool new unit n has is all = pool-moved pool new unit (record (share_at pool.shares unit) { blocks = (share_at pool.shares unit).blocks + n }) 0 n has is (omega arith) (omega (arith, all))

pub pool-lowered : (pool new : Blocks) (unit : Text) (n : ℕ) → has_share pool.shares unit ≡ true → n ≤ (share_at pool.shares unit).blocks → new ≡ changed pool unit (record (share_at pool.shares unit) { blocks = (share_at pool.shares unit).blocks - n })
    → held new.shares + n ≡ held pool.shares → PoolMoves pool new unit n 0
pool-lowered pool new unit n has le is all = pool-moved pool new unit (record (share_at pool.shares unit) { blocks = (share_at pool.shares unit).blocks - n }) n 0 has is (omega arith) (omega (arith, all))

-- The mark stays where blocks alone change.
pub mark-kept : (pool new : Blocks) (unit : Text) (v : Share) → has_share pool.shares unit ≡ true → new ≡ changed pool unit v → v.candidate ≡ (share_at pool.shares unit).candidate
    → (share_at new.shares unit).candidate ≡ (share_at pool.shares unit).candidate
mark-kept pool new unit v has is same = ap (λ (b : Blocks). (share_at b.shares unit).candidate) is ∙ (ap (λ (x : Share). x.candidate) (share-same pool.shares unit v has) ∙ same)

-- Modes stay where usage alone changes.
pub filter-same : (f g : Text → Bool) → ((u : Text) → f u ≡ g u) → (us : List Text) → filter f us ≡ filter g us
filter-same f g same [] = refl
filter-same f g same (u ∷ us) =
    ap (λ t. cond t (u ∷ filter f us) (filter f us)) (same u) ∙ ap (λ xs. cond (g u) (u ∷ xs) xs) (filter-same f g same us)

pub modes-kept : (es : Buckets) (unit : Text) (b : Bucket) → has_unit es unit ≡ true → b.persistent ≡ (bucket_at es unit).persistent → persistent_in (with_bucket es unit b) ≡ persistent_in es
modes-kept es unit b has same =
    let mode = λ (x : Buckets) (u : Text). (bucket_at x u).persistent in
    let each : (u : Text) → mode (with_bucket es unit b) u ≡ mode es u = λ u.
    elim (same_text unit u) as (λ t. same_text unit u ≡ t → mode (with_bucket es unit b) u ≡ mode es u) [
      | true ↦ λ told.
          let at : unit ≡ u = same_unit unit u told in
          subst (λ (x : Text). mode (with_bucket es unit b) x ≡ mode es x) at (ap (λ (x : Bucket). x.persistent) (bucket-same es unit b has) ∙ same)
      | false ↦ λ told. ap (λ (x : Bucket). x.persistent) (bucket-other es unit b u told)
    ] refl in
    ap (filter (mode (with_bucket es unit b))) (keys-kept (shed_words.is_unit unit) es b) ∙ filter-same (mode (with_bucket es unit b)) (mode es) each (keys_of es)

-- The units that are known stay where each has another share at most.
pub units-kept : (pool new : Blocks) (unit : Text) (v : Share) → new ≡ changed pool unit v → keys_of new.shares ≡ keys_of pool.shares
units-kept pool new unit v is = ap (λ (b : Blocks). keys_of b.shares) is ∙ keys-kept (pool_words.is_unit unit) pool.shares v

-- What is prepared for agents stays.
pub record Stands (register after : Registered) : Type 0 where
  pub room : after.room ≡ register.room
  pub ready : after.ready ≡ register.ready

pub same-register : (register : Registered) → Stands register register
same-register register = record { room = refl; ready = refl }

pub agents-stand : (register after : Registered) (agents : List (Agent Outline)) → after ≡ record register { agents = agents } → Stands register after
agents-stand register after agents is = record { room = ap (λ (r : Registered). r.room) is; ready = ap (λ (r : Registered). r.ready) is }

pub prepared-same : (place later : Ready) (shares more : Shares) (register after : Registered) → later ≡ place → keys_of more ≡ keys_of shares → Stands register after
    → ◌≡◌ {A = Prepared} (prepared_of later more after) (prepared_of place shares register)
prepared-same place later shares more register after a b rest i = record { place = a i; units = b i; room = rest.room i; tag = rest.ready i }
