-- A unit gets a bucket and a share: nothing of the machine changes.
use Rattle.std.proofs.Common.{Result, Ok, Err, OnErr, ◌≡◌, ℕ, Bool, true, false, cond, ◌||◌, List, filter, Option, Some, None, is_some, unwrap_or, refl, sym, ap, subst, ◌∙◌}
use Rattle.std.specs.List.{list_any}
use Rattle.std.specs.Map.{keys_of, lookup}
use Rattle.std.specs.BTreeMap.{is_at, insert_entry}
use Rattle.std.specs.Cmp.Lexicographic.{texts_ties}
use Rattle.opfs_base.specs.Texts.{Text, same_text}
use Rattle.opfs_pool.specs.declared.pool.Share.{Share}
use Rattle.opfs_pool.specs.Shares.{Blocks, has_share, share_at, first_share, touched, held}
use Rattle.opfs_register.specs.Registers.{Registered}
use Rattle.opfs_shed.specs.declared.shed.Bucket.{Bucket}
use Rattle.opfs_shed.specs.Buckets.{Storage, text_cmp, has_unit, bucket_at, first_bucket, with_unit, usage_of}
use Rattle.opfs_tree.specs.Rows as tree
use Rattle.opfs_state_rows.specs.Standing.Seen.{Machine, machine_of, persistent_in}
use Rattle.opfs_state_rows.specs.Standing.Tied.{IsTied}
use Rattle.opfs_state_rows.proofs.standing.Inserted.{lookup-inserted, keys-inserted}
use Rattle.opfs_state_rows.proofs.standing.Lines.{known_key}
use Rattle.opfs_state_rows.proofs.standing.Stores.{filter-same}
use Rattle.opfs_state_rows.proofs.standing.Units.{same_unit, unit_itself}

none_of : {X : Type 0} (o : Option X) → is_some o ≡ false → o ≡ None
none_of None h = refl
none_of (Some x) h = cc

module _ {X : Type 0} (k : Text) (d : X) where
  abbrev touch : List (Text × X) → List (Text × X)
  touch es = elim (is_some (lookup (is_at (text_cmp k)) es)) as (λ b. List (Text × X)) [ true ↦ es | false ↦ insert_entry text_cmp es k d ]

  abbrev at : List (Text × X) → Text → Option X
  at es u = lookup (is_at (text_cmp u)) es

  same_key : (u : Text) (es : List (Text × X)) → is_at (text_cmp u) k ≡ true → at es u ≡ at es k
  same_key u es h = ap (at es) (same_unit u k (texts_ties u k ∙ h))

  touched-at : (es : List (Text × X)) (u : Text) → unwrap_or (at (touch es) u) d ≡ unwrap_or (at es u) d
  touched-at es u =
      elim (is_some (at es k)) as (λ b. is_some (at es k) ≡ b → unwrap_or (at (elim b as (λ y. List (Text × X)) [ true ↦ es | false ↦ insert_entry text_cmp es k d ]) u) d ≡ unwrap_or (at es u) d) [
        | true ↦ λ has. refl
        | false ↦ λ has.
            let none = none_of (at es k) has in
            ap (λ o. unwrap_or o d) (lookup-inserted k d u es none)
            ∙ (elim (is_at (text_cmp u) k) as (λ b. is_at (text_cmp u) k ≡ b → unwrap_or (cond b (Some d) (at es u)) d ≡ unwrap_or (at es u) d) [
              | true ↦ λ is. sym (ap (λ o. unwrap_or o d) (same_key u es is ∙ none))
              | false ↦ λ is. refl
            ] refl)
      ] refl

  touched-there : (es : List (Text × X)) (u : Text) → is_some (at (touch es) u) ≡ (is_at (text_cmp u) k || is_some (at es u))
  touched-there es u =
      elim (is_some (at es k)) as (λ b. is_some (at es k) ≡ b → is_some (at (elim b as (λ y. List (Text × X)) [ true ↦ es | false ↦ insert_entry text_cmp es k d ]) u) ≡ (is_at (text_cmp u) k || is_some (at es u))) [
        | true ↦ λ has.
            elim (is_at (text_cmp u) k) as (λ b. is_at (text_cmp u) k ≡ b → is_some (at es u) ≡ (b || is_some (at es u))) [ true ↦ λ is. ap is_some (same_key u es is) ∙ has | false ↦ λ is. refl ] refl
        | false ↦ λ has.
            ap is_some (lookup-inserted k d u es (none_of (at es k) has))
            ∙ (elim (is_at (text_cmp u) k) as (λ b. is_some (cond b (Some d) (at es u)) ≡ (b || is_some (at es u))) [ true ↦ refl | false ↦ refl ])
      ] refl

  touched-keys : (f : Text → Bool) (es : List (Text × X)) → (is_some (at es k) ≡ false → f k ≡ false) → filter f (keys_of (touch es)) ≡ filter f (keys_of es)
  touched-keys f es out =
      elim (is_some (at es k)) as (λ b. is_some (at es k) ≡ b → filter f (keys_of (elim b as (λ y. List (Text × X)) [ true ↦ es | false ↦ insert_entry text_cmp es k d ])) ≡ filter f (keys_of es)) [
        | true ↦ λ has. refl
        | false ↦ λ has. keys-inserted k d f (out has) es (none_of (at es k) has)
      ] refl

-- What holds anyway holds of an error.
pub on-err : {T E : Type 0} (r : Result T E) {P : Type 0} → P → OnErr r P
on-err (Ok x) p = tt
on-err (Err e) p = p

or_right : (a b : Bool) → b ≡ true → (a || b) ≡ true
or_right true b h = refl
or_right false b h = h

-- ---- buckets

module _ (shed new : Storage) (unit : Text) (is : new ≡ record shed { buckets = with_unit shed.buckets unit }) where
  pub bucket_same : (u : Text) → bucket_at new.buckets u ≡ bucket_at shed.buckets u
  bucket_same u = ap (λ (s : Storage). bucket_at s.buckets u) is ∙ touched-at unit first_bucket shed.buckets u

  pub unit_kept : (u : Text) → has_unit shed.buckets u ≡ true → has_unit new.buckets u ≡ true
  unit_kept u has = ap (λ (s : Storage). has_unit s.buckets u) is ∙ (touched-there unit first_bucket shed.buckets u ∙ or_right (is_at (text_cmp u) unit) (has_unit shed.buckets u) has)

  pub touched-modes : persistent_in new.buckets ≡ persistent_in shed.buckets
  touched-modes =
      filter-same (λ u. (bucket_at new.buckets u).persistent) (λ u. (bucket_at shed.buckets u).persistent) (λ u. ap (λ (b : Bucket). b.persistent) (bucket_same u)) (keys_of new.buckets)
      ∙ (ap (λ (s : Storage). filter (λ u. (bucket_at shed.buckets u).persistent) (keys_of s.buckets)) is
      ∙ touched-keys unit first_bucket (λ u. (bucket_at shed.buckets u).persistent) shed.buckets
      (λ absent. ap (λ o. (unwrap_or o first_bucket).persistent) (none_of (lookup (is_at (text_cmp unit)) shed.buckets) absent)))

  pub touched-machine : (rows : tree.Rows) (rest : Registered) → machine_of rows new.buckets rest ≡ machine_of rows shed.buckets rest
  touched-machine rows rest = ap (λ (us : List Text). record (machine_of rows shed.buckets rest) { persistent = us }) touched-modes

  pub shed-touched : (rows : tree.Rows) (rest : Registered) (pool : Blocks) (cost : ℕ) (top : List Text) → IsTied (machine_of rows shed.buckets rest) shed pool cost top
      → ((origin : Text) → usage_of origin new.buckets ≡ usage_of origin shed.buckets) → IsTied (machine_of rows new.buckets rest) new pool cost top
  shed-touched rows rest pool cost top tied usages =
      subst (λ (x : Machine). IsTied x new pool cost top) (sym (touched-machine rows rest))
      (record {
        root = tied.root;
        quota = ap (λ (s : Storage). s.quota) is ∙ tied.quota;
        size = tied.size;
        shared = λ u has. unit_kept u (tied.shared u has);
        known = λ place there. record { bucket = unit_kept place.0 (tied.known place there).bucket; share = (tied.known place there).share };
        usage = λ u. ap (λ (b : Bucket). b.usage) (bucket_same u) ∙ tied.usage u;
        usages = λ origin. usages origin ∙ tied.usages origin;
        blocks = tied.blocks;
        held = tied.held;
        marks = tied.marks;
        fixed = tied.fixed;
      })

-- ---- shares

module _ (pool new : Blocks) (unit : Text) (is : new ≡ record pool { shares = touched pool.shares unit }) where
  pub share_same : (u : Text) → share_at new.shares u ≡ share_at pool.shares u
  share_same u = ap (λ (b : Blocks). share_at b.shares u) is ∙ touched-at unit first_share pool.shares u

  pub share_there : (u : Text) → has_share new.shares u ≡ (is_at (text_cmp u) unit || has_share pool.shares u)
  share_there u = ap (λ (b : Blocks). has_share b.shares u) is ∙ touched-there unit first_share pool.shares u

  pub share_kept : (u : Text) → has_share pool.shares u ≡ true → has_share new.shares u ≡ true
  share_kept u has = share_there u ∙ or_right (is_at (text_cmp u) unit) (has_share pool.shares u) has

  -- The units that are known stay so, and this one is.
  touched_known : (u : Text) → list_any (same_text u) (keys_of new.shares) ≡ (is_at (text_cmp u) unit || list_any (same_text u) (keys_of pool.shares))
  touched_known u = known_key u new.shares ∙ (share_there u ∙ ap (λ t. is_at (text_cmp u) unit || t) (sym (known_key u pool.shares)))

  pub known-kept : (u : Text) → list_any (same_text u) (keys_of pool.shares) ≡ true → list_any (same_text u) (keys_of new.shares) ≡ true
  known-kept u was = touched_known u ∙ or_right (is_at (text_cmp u) unit) (list_any (same_text u) (keys_of pool.shares)) was

  pub known-here : list_any (same_text unit) (keys_of new.shares) ≡ true
  known-here = touched_known unit ∙ ap (λ t. t || list_any (same_text unit) (keys_of pool.shares)) (sym (texts_ties unit unit) ∙ unit_itself unit unit refl)

  module _ (m : Machine) (shed : Storage) (cost : ℕ) (top : List Text) (tied : IsTied m shed pool cost top) (bucket : has_unit shed.buckets unit ≡ true) where
    shared : (u : Text) → has_share new.shares u ≡ true → has_unit shed.buckets u ≡ true
    shared u has =
        elim (is_at (text_cmp u) unit) as (λ b. is_at (text_cmp u) unit ≡ b → (b || has_share pool.shares u) ≡ true → has_unit shed.buckets u ≡ true) [
          | true ↦ λ here h. ap (has_unit shed.buckets) (same_unit u unit (texts_ties u unit ∙ here)) ∙ bucket
          | false ↦ λ here h. tied.shared u h
        ] refl (sym (share_there u) ∙ has)

    pub pool-touched : held new.shares ≡ held pool.shares → IsTied m shed new cost top
    pool-touched all = record {
      root = tied.root;
      quota = tied.quota;
      size = ap (λ (b : Blocks). b.size) is ∙ tied.size;
      shared = shared;
      known = λ place there. record { bucket = (tied.known place there).bucket; share = share_kept place.0 (tied.known place there).share };
      usage = tied.usage;
      usages = tied.usages;
      blocks = λ u. ap (λ (v : Share). v.blocks) (share_same u) ∙ tied.blocks u;
      held = all ∙ tied.held;
      marks = λ u. ap (λ (v : Share). v.candidate) (share_same u) ∙ tied.marks u;
      fixed = tied.fixed;
    }
