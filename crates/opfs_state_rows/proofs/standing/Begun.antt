-- The shares of the rows that the shared store begins with.
use Rattle.std.proofs.Common.{◌≡◌, ℕ, ◌+◌, ◌-◌, ◌*◌, ◌≤◌, Bool, true, false, cond, not, ◌&&◌, ◌||◌, List, [], ◌∷◌, sum_by, Option, Some, None, is_some, IfSome, IsSomeAnd, unwrap_or, refl, sym, ap, subst, ◌∙◌, arith}
use Rattle.std.proofs.lemmas.List.Sums.{sum_by-cons}
use Rattle.std.specs.BTreeMap.{is_at}
use Rattle.std.specs.List.Sorted.{IsStrictlySortedBy}
use Rattle.std.specs.Map.{keys_of, lookup}
use Rattle.std.specs.Ordering.{eq_by_cmp}
use Rattle.std.specs.Cmp.Lexicographic.{texts_ties}
use Rattle.opfs_base.specs.Places.{Place, place_cmp}
use Rattle.opfs_base.specs.Texts.{Text, same_text}
use Rattle.opfs_machine.specs.declared.own.Outline.{Outline}
use Rattle.opfs_machine.specs.Contents.{in_lengths}
use Rattle.opfs_machine.specs.Sums.{all_own, present_blocks}
use Rattle.opfs_machine.specs.Sums as machine
use Rattle.opfs_pool.specs.declared.pool.Share.{Share}
use Rattle.opfs_pool.specs.Shares.{Blocks, has_share, share_at, first_share, touched, changed, held, is_unit}
use Rattle.opfs_register.specs.Registers.{Registered}
use Rattle.opfs_shed.specs.declared.shed.Bucket.{Bucket}
use Rattle.opfs_shed.specs.Buckets.{Storage, text_cmp, has_unit, bucket_at, with_unit, usage_of}
use Rattle.opfs_tree.specs.declared.row.Row.{Row}
use Rattle.opfs_tree.specs.declared.row.Row.TheVariants as row
use Rattle.opfs_tree.specs.Rows as tree
use Rattle.opfs_state_rows.specs.Standing.Beginnings.{IsBegun, IsCounted, files_in, may_clear}
use Rattle.opfs_state_rows.specs.Standing.Moves.{PoolMoves}
use Rattle.opfs_state_rows.specs.Standing.Seen.{Machine, machine_of, line_of, lines_of}
use Rattle.opfs_state_rows.specs.Standing.Sums.{where_unit, anywhere, of_origin, stream_where, reserve_where, usage_where, fixed_charge, clearable}
use Rattle.opfs_state_rows.specs.Standing.Tied.{IsTied}
use Rattle.opfs_state_rows.proofs.standing.Counted.{pool-is, charge-is}
use Rattle.opfs_state_rows.proofs.standing.Lines.{there-at, clear-lines}
use Rattle.opfs_state_rows.proofs.standing.Places.{same_place}
use Rattle.opfs_state_rows.proofs.standing.Stores.{pool-raised, pool-marked, marked-here, pool-then}
use Rattle.opfs_state_rows.proofs.standing.Touched.{bucket_same, unit_kept, touched-modes, share_same, share_there, share_kept}
use Rattle.opfs_state_rows.proofs.standing.UnitSums.{usages-of-units}
use Rattle.opfs_state_rows.proofs.standing.Units.{same_unit, apart_back}

true_false : true ≡ false → ⊥
true_false h = cc

durable_same : (r : Row) → machine.durable_blocks in_lengths (line_of r) ≡ tree.durable_blocks r
durable_same row.Dir = refl
durable_same (row.File f) = refl

-- A row is counted.
module _ (rows rest : tree.Rows) (place : Place) (r : Row) (start shed shed_after : Storage) (pool first second third : Blocks) (n : ℕ) (counted : IsCounted rows ((place, r) ∷ rest) start shed pool) (size : n ≡ tree.durable_blocks r)
    (touch : shed_after ≡ record shed { buckets = with_unit shed.buckets place.0 }) (bucket : has_unit shed_after.buckets place.0 ≡ true) (usages : (origin : Text) → usage_of origin shed_after.buckets ≡ usage_of origin shed.buckets)
    (share : first ≡ record pool { shares = touched pool.shares place.0 }) (there : has_share first.shares place.0 ≡ true) (same : held first.shares ≡ held pool.shares)
    (more : second ≡ changed first place.0 (record (share_at first.shares place.0) { blocks = (share_at first.shares place.0).blocks + n })) (sum : held second.shares ≡ held first.shares + n) where
  abbrev unit : Text
  unit = place.0

  raise : PoolMoves first second unit 0 n
  raise = pool-raised first second unit n there more sum

  pub counted-share : has_share second.shares unit ≡ true
  counted-share = raise.kept unit ∙ there

  cons : (p : Text → Bool) → files_in p ((place, r) ∷ rest) ≡ cond (p unit) n 0 + files_in p rest
  cons p = sum_by-cons (where_unit p (machine.durable_blocks in_lengths)) (place, line_of r) (lines_of rest) ∙ ap (λ k. cond (p unit) k 0 + files_in p rest) (durable_same r ∙ sym size)

  module _ (mark : Bool) (is : mark ≡ may_clear rows start unit) (told : third ≡ changed second unit (record (share_at second.shares unit) { candidate = mark })) where
    moved : PoolMoves first third unit 0 n
    moved = pool-then first second third unit 0 n n raise (pool-marked second third unit mark counted-share told n)

    was_there : (u : Text) → has_share third.shares u ≡ (is_at (text_cmp u) unit || has_share pool.shares u)
    was_there u = moved.kept u ∙ share_there pool first unit share u

    blocks_now : (u : Text) → (share_at third.shares u).blocks ≡ (share_at pool.shares u).blocks + cond (same_text u unit) n 0
    blocks_now u =
        let old = ap (λ (v : Share). v.blocks) (share_same pool first unit share u) in
        let none : cond (same_text u unit) 0 0 ≡ 0 = elim (same_text u unit) as (λ t. ◌≡◌ {A = ℕ} (cond t 0 0) 0) [ true ↦ refl | false ↦ refl ] in
        omega (arith, moved.blocks u, old, none)

    pub counted-on : IsCounted rows rest start shed_after third
    counted-on = record {
      quota = ap (λ (s : Storage). s.quota) touch ∙ counted.quota;
      buckets = λ u. bucket_same shed shed_after unit touch u ∙ counted.buckets u;
      usages = λ origin. usages origin ∙ counted.usages origin;
      modes = touched-modes shed shed_after unit touch ∙ counted.modes;
      shared = λ u has.
          elim (is_at (text_cmp u) unit) as (λ b. is_at (text_cmp u) unit ≡ b → (b || has_share pool.shares u) ≡ true → has_unit shed_after.buckets u ≡ true) [
            | true ↦ λ here h. ap (has_unit shed_after.buckets) (same_unit u unit (texts_ties u unit ∙ here)) ∙ bucket
            | false ↦ λ here h. unit_kept shed shed_after unit touch u (counted.shared u h)
          ] refl (sym (was_there u) ∙ has);
      known = λ q stands gone.
          elim (eq_by_cmp place_cmp q place) as (λ b. eq_by_cmp place_cmp q place ≡ b → has_share third.shares q.0 ≡ true) [
            | true ↦ λ here. ap (λ (x : Place). has_share third.shares x.0) (same_place q place here) ∙ (moved.kept unit ∙ there)
            | false ↦ λ here.
                let none : is_some (tree.row_at q ((place, r) ∷ rest)) ≡ false = ap (λ b. is_some (cond b (Some r) (tree.row_at q rest))) here ∙ gone in
                moved.kept q.0 ∙ share_kept pool first unit share q.0 (counted.known q stands none)
          ] refl;
      blocks = λ u. omega (arith, blocks_now u, counted.blocks u, cons (same_text u));
      held = omega (arith, moved.held, same, counted.held, cons anywhere);
      marks = λ u has.
          elim (same_text unit u) as (λ b. same_text unit u ≡ b → (share_at third.shares u).candidate ≡ may_clear rows start u) [
            | true ↦ λ here.
                let one = same_unit unit u here in
                ap (λ (x : Text). (share_at third.shares x).candidate) (sym one) ∙ (marked-here second third unit mark counted-share told ∙ (is ∙ ap (may_clear rows start) one))
            | false ↦ λ here.
                let old : has_share pool.shares u ≡ true = ap (λ t. t || has_share pool.shares u) (sym (sym (texts_ties u unit) ∙ apart_back unit u here)) ∙ (sym (was_there u) ∙ has) in
                moved.marks u here ∙ (ap (λ (v : Share). v.candidate) (share_same pool first unit share u) ∙ counted.marks u old)
          ] refl;
    }

none_of : {X : Type 0} (o : Option X) → is_some o ≡ false → o ≡ None
none_of None h = refl
none_of (Some x) h = cc

module _ (rows : tree.Rows) (start shed : Storage) (pool : Blocks) (rest : Registered) (charge : ℕ) (begun : IsBegun (machine_of rows start.buckets rest) start charge) (counted : IsCounted rows [] start shed pool)
    (size : pool.size ≡ rest.limits.blocks) (sorted : IsStrictlySortedBy text_cmp (keys_of shed.buckets)) where
  abbrev old : Machine
  old = machine_of rows start.buckets rest

  abbrev new : Machine
  new = machine_of rows shed.buckets rest

  pub begun-machine : machine_of rows shed.buckets rest ≡ machine_of rows start.buckets rest
  begun-machine = ap (λ (us : List Text). record old { persistent = us }) counted.modes

  no_own : (f : Outline → ℕ) → sum_by f (all_own old) ≡ 0
  no_own f = ap (sum_by f) begun.own

  each : (u : Text) → (bucket_at shed.buckets u).usage ≡ sum_by (where_unit (same_text u) (present_blocks in_lengths)) (lines_of rows)
  each u =
      let old_usage = ap (λ (b : Bucket). b.usage) (counted.buckets u) ∙ begun.usage u in
      let none = no_own (stream_where (same_text u)) in
      omega (arith, old_usage, none)

  usages_all : (origin : Text) → usage_of origin shed.buckets ≡ usage_where (of_origin origin) new
  usages_all origin =
      let all = usages-of-units (present_blocks in_lengths) origin shed.buckets (lines_of rows) sorted each in
      let none = no_own (stream_where (of_origin origin)) in
      omega (arith, all, none)

  held_all : held pool.shares ≡ machine.pool in_lengths old
  held_all =
      let all = counted.held in
      let none = no_own (reserve_where anywhere) in
      let is = pool-is old in
      omega (arith, all, none, is)

  pub begun-within : 8 * held pool.shares ≤ charge
  begun-within = omega (arith, begun.charged, charge-is old, pool-is old, held_all)

  pub begun-tied : IsTied (machine_of rows shed.buckets rest) shed pool (charge - 8 * held pool.shares) []
  begun-tied = record {
    root = refl;
    quota = counted.quota ∙ begun.quota;
    size = size;
    shared = counted.shared;
    known = λ place there.
        let has = counted.known place (sym (there-at place rows) ∙ there) refl in
        record { bucket = counted.shared place.0 has; share = has };
    usage = λ u. ap (λ (b : Bucket). b.usage) (counted.buckets u) ∙ begun.usage u;
    usages = usages_all;
    blocks = λ u. let all = counted.blocks u in let none = no_own (reserve_where (same_text u)) in omega (arith, all, none);
    held = let all = counted.held in let none = no_own (reserve_where anywhere) in omega (arith, all, none);
    marks = λ u.
        elim (has_share pool.shares u) as (λ b. has_share pool.shares u ≡ b → (share_at pool.shares u).candidate ≡ clearable new u) [
          | true ↦ λ has.
              counted.marks u has
              ∙ (ap (λ (b : Bucket). is_some (tree.row_at (u, []) rows) && not b.persistent && tree.none_taken u rows) (sym (counted.buckets u)) ∙ sym (clear-lines u rows shed.buckets rest))
          | false ↦ λ has.
              ap (λ o. (unwrap_or o first_share).candidate) (none_of (lookup (is_unit u) pool.shares) has)
              ∙ (sym (rootless u has) ∙ sym (clear-lines u rows shed.buckets rest))
        ] refl;
    fixed = omega (arith, begun.charged, charge-is old, pool-is old, held_all, fixed_same);
  }
    where
      rootless : (u : Text) → has_share pool.shares u ≡ false → may_clear rows shed u ≡ false
      rootless u has =
          elim (is_some (tree.row_at (u, []) rows)) as (λ b. is_some (tree.row_at (u, []) rows) ≡ b → (b && not (bucket_at shed.buckets u).persistent && tree.none_taken u rows) ≡ false) [
            | true ↦ λ there. absurd (true_false (sym (counted.known (u, []) there refl) ∙ has))
            | false ↦ λ there. refl
          ] refl

      fixed_same : fixed_charge new ≡ fixed_charge old
      fixed_same = ap fixed_charge begun-machine

-- A step of the walk over the rows.
pub go-on : (rows : tree.Rows) (at to : Option Place) (key : Text) (r : Row) (P Q : tree.Rows → Type 0) → P (tree.rows_above at rows)
    → IsSomeAnd to (λ x. tree.rows_above at rows ≡ (x, r) ∷ tree.rows_above (Some x) rows) → IfSome to (λ x. key ≡ x.0)
    → ((path : List Text) (rest : tree.Rows) → P (((key, path), r) ∷ rest) → Q rest) → Q (tree.rows_above to rows)
go-on rows at None key r P Q was goes told step = absurd goes
go-on rows at (Some x) key r P Q was goes told step =
    step x.1 (tree.rows_above (Some x) rows)
    (subst (λ (u : Text). P (((u, x.1), r) ∷ tree.rows_above (Some x) rows)) (sym told) (subst P goes was))
