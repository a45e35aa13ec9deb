-- Changes of agents alone: what they keep, and one row more.
use Rattle.std.proofs.Common.{None, Some, Option, unwrap_or, slice_get, zero, ◌≡◌, ℕ, ◌+◌, ◌-◌, ◌<◌, suc, Bool, true, false, cond, List, [], ◌∷◌, ◌++◌, length, replicate, get_or, sum_by, flat_map, slice_set, refl, sym, ap, subst, ◌∙◌, arith}
use Rattle.std.proofs.lemmas.List.Folds.{sum_by-replicate}
use Rattle.std.proofs.lemmas.List.Sums.{sum_by-append, sum_by-cons, sum_by-set}
use Rattle.std.proofs.lemmas.Option.{unwrap_or-slice_get}
use Rattle.opfs_base.specs.Texts.{Text, same_text}
use Rattle.opfs_machine.specs.declared.own.Outline.{Outline}
use Rattle.opfs_machine.specs.declared.own.Outline.TheVariants as outline
use Rattle.opfs_machine.specs.declared.state.Agent.{Agent}
use Rattle.opfs_machine.specs.Agents.{nobody, agent_in, with_agent, with_own}
use Rattle.opfs_pool.specs.Shares.{Blocks, share_at}
use Rattle.opfs_register.specs.Registers.{Registered}
use Rattle.opfs_register.specs.Slots.{slot_set}
use Rattle.opfs_shed.specs.Buckets.{Storage}
use Rattle.opfs_tree.specs.Rows as tree
use Rattle.opfs_state_rows.specs.Standing.Seen.{Machine, machine_of, with_slot_at, persistent_in}
use Rattle.opfs_state_rows.specs.Standing.Sums.{anywhere, of_origin, stream_where, reserve_where}
use Rattle.opfs_state_rows.specs.Standing.Tied.{IsKnown, IsTied}
use Rattle.opfs_state_rows.specs.Standing.Moves.{Amounts, Moves, ShedMoves, PoolMoves, kept_amounts}
use Rattle.opfs_state_rows.proofs.standing.SlotMoves.{sum-flat, IsRowOf}
use Rattle.opfs_state_rows.proofs.standing.TiedMoved.{tied_moved}

true_false : true ≡ false → ⊥
true_false h = cc

abbrev all_rows : List (Agent Outline) → List Outline
all_rows agents = flat_map (λ a. a.own) agents

-- An agent among all is another one.
module _ (f : Outline → ℕ) (agents : List (Agent Outline)) (at : ℕ) (b : Agent Outline) (inside : at < length agents) where
  pub own-set : sum_by f (all_rows (slice_set agents at b)) + sum_by f (agent_in agents (suc at)).own ≡ sum_by f (all_rows agents) + sum_by f b.own
  own-set =
      let rows = λ (x : Agent Outline). sum_by f x.own in
      let outer = sum_by-set rows agents at b nobody inside in
      let here : rows (agent_in agents (suc at)) ≡ rows (get_or agents at nobody) = ap rows (unwrap_or-slice_get agents at nobody) in
      omega (arith, sum-flat f (slice_set agents at b), sum-flat f agents, outer, here)

-- Rows that keep nothing.
pub record KeepsAll (before after : List (Agent Outline)) : Type 0 where
  pub usage : (p : Text → Bool) → sum_by (stream_where p) (all_rows after) ≡ sum_by (stream_where p) (all_rows before)
  pub blocks : (p : Text → Bool) → sum_by (reserve_where p) (all_rows after) ≡ sum_by (reserve_where p) (all_rows before)

pub same-agents : (agents : List (Agent Outline)) → KeepsAll agents agents
same-agents agents = record { usage = λ p. refl; blocks = λ p. refl }

module _ (agents : List (Agent Outline)) (at : ℕ) (b : Agent Outline) (inside : at < length agents) where
  pub own-kept : b.own ≡ (agent_in agents (suc at)).own → KeepsAll agents (slice_set agents at b)
  own-kept same = record {
    usage = λ p. let moved = own-set (stream_where p) agents at b inside in let here = ap (sum_by (stream_where p)) same in omega (arith, moved, here);
    blocks = λ p. let moved = own-set (reserve_where p) agents at b inside in let here = ap (sum_by (reserve_where p)) same in omega (arith, moved, here);
  }

  added_sum : (f : Outline → ℕ) (more : List Outline) → b.own ≡ (agent_in agents (suc at)).own ++ more → sum_by f (all_rows (slice_set agents at b)) ≡ sum_by f (all_rows agents) + sum_by f more
  added_sum f more is =
      let moved = own-set f agents at b inside in
      let here = ap (sum_by f) is ∙ sum_by-append f (agent_in agents (suc at)).own more in
      omega (arith, moved, here)

  -- So many iterators more.
  pub iterators-kept : (n : ℕ) → b.own ≡ (agent_in agents (suc at)).own ++ replicate n outline.Iterator → KeepsAll agents (slice_set agents at b)
  iterators-kept n is = record {
    usage = λ p. let added = added_sum (stream_where p) (replicate n outline.Iterator) is in let none = sum_by-replicate (stream_where p) n outline.Iterator in omega (arith, added, none);
    blocks = λ p. let added = added_sum (reserve_where p) (replicate n outline.Iterator) is in let none = sum_by-replicate (reserve_where p) n outline.Iterator in omega (arith, added, none);
  }

  one_sum : (f : Outline → ℕ) (r : Outline) → b.own ≡ (agent_in agents (suc at)).own ++ r ∷ [] → sum_by f (all_rows (slice_set agents at b)) ≡ sum_by f (all_rows agents) + f r
  one_sum f r is = let added = added_sum f (r ∷ []) is in let one = sum_by-cons f r [] in omega (arith, added, one)

  -- A row more that keeps nothing.
  pub bare-kept : (r : Outline) → ((p : Text → Bool) → stream_where p r ≡ 0) → ((p : Text → Bool) → reserve_where p r ≡ 0) → b.own ≡ (agent_in agents (suc at)).own ++ r ∷ [] → KeepsAll agents (slice_set agents at b)
  bare-kept r usage blocks is = record {
    usage = λ p. let added = one_sum (stream_where p) r is in let none = usage p in omega (arith, added, none);
    blocks = λ p. let added = one_sum (reserve_where p) r is in let none = blocks p in omega (arith, added, none);
  }

-- ---- what is kept beside rows and buckets is another

module _ (rows : tree.Rows) (shed : Storage) (pool : Blocks) (rest after : Registered) (cost : ℕ) (top : List Text) where
  pub rest-tied : IsTied (machine_of rows shed.buckets rest) shed pool cost top → after.limits ≡ rest.limits → KeepsAll rest.agents after.agents → IsTied (machine_of rows shed.buckets after) shed pool cost top
  rest-tied tied limits keeps = record {
    root = tied.root;
    quota = tied.quota ∙ ap (λ l. l.quota) (sym limits);
    size = tied.size ∙ ap (λ l. l.blocks) (sym limits);
    shared = tied.shared;
    known = tied.known;
    usage = λ u. omega (arith, tied.usage u, keeps.usage (same_text u));
    usages = λ origin. omega (arith, tied.usages origin, keeps.usage (of_origin origin));
    blocks = λ u. omega (arith, tied.blocks u, keeps.blocks (same_text u));
    held = omega (arith, tied.held, keeps.blocks anywhere);
    marks = tied.marks;
    fixed = tied.fixed;
  }

-- The place of the agent of a number.
pub number : (at : ℕ) → suc at - 1 ≡ at
number at = omega arith

pub agent-set : (m : Machine) (at : ℕ) (a : Agent Outline) → ◌≡◌ {A = Machine} (record m { agents = slice_set m.agents at a }) (with_agent m (suc at) a)
agent-set m at a = ap (λ (n : ℕ). record m { agents = slice_set m.agents n a }) (sym (number at))

-- An own row in the machine's numbers.
set_past : {X : Type 0} (xs : List X) (i : ℕ) (x : X) → slice_get xs i ≡ None → slice_set xs i x ≡ xs
set_past [] zero x none = refl
set_past [] (suc i) x none = refl
set_past (y ∷ xs) zero x none = cc
set_past (y ∷ xs) (suc i) x none = ap (λ zs. y ∷ zs) (set_past xs i x none)

pub own-slots : (m : Machine) (at n : ℕ) (r : Outline) → with_slot_at m at n r ≡ with_own m (suc at) (suc n) r
own-slots m at n r =
    let set = λ (o : Option (Agent Outline)). record (unwrap_or o nobody) { own = slice_set (unwrap_or o nobody).own n r } in
    ap (λ (xs : List (Agent Outline)). record m { agents = xs })
    (elim (slice_get m.agents at) as (λ o. slice_get m.agents at ≡ o → slot_set m.agents at n r o ≡ slice_set m.agents at (set o)) [
      | None ↦ λ is. sym (set_past m.agents at (set None) is)
      | Some a ↦ λ is. refl
    ] refl)
    ∙ (let a = sym (number at) in let b = sym (number n) in λ i. record m { agents = slice_set m.agents (a i) (record (agent_in m.agents (suc at)) { own = slice_set (agent_in m.agents (suc at)).own (b i) r }) })

-- ---- an open row more

abbrev pub nothing : Amounts
nothing = record { usage = 0; blocks = 0; charge = 0 }

zero_cond : (t : Bool) → ◌≡◌ {A = ℕ} (cond t 0 0) 0
zero_cond true = refl
zero_cond false = refl

module _ (rows : tree.Rows) (shed shed_after : Storage) (pool pool_after : Blocks) (rest after : Registered) (cost : ℕ) (top : List Text) (at : ℕ) (r : Outline) (unit : Text) (inside : at < length rest.agents)
    (is : after.agents ≡ slice_set rest.agents at (record (agent_in rest.agents (suc at)) { own = (agent_in rest.agents (suc at)).own ++ r ∷ [] })) (limits : after.limits ≡ rest.limits)
    (modes : persistent_in shed_after.buckets ≡ persistent_in shed.buckets) where
  abbrev agent : Agent Outline
  agent = record (agent_in rest.agents (suc at)) { own = (agent_in rest.agents (suc at)).own ++ r ∷ [] }

  sums : (f : Outline → ℕ) → sum_by f (all_rows after.agents) ≡ sum_by f (all_rows rest.agents) + f r
  sums f = ap (λ (x : List (Agent Outline)). sum_by f (all_rows x)) is ∙ one_sum rest.agents at agent inside f r refl

  abbrev before : Machine
  before = machine_of rows shed.buckets rest

  abbrev middle : Machine
  middle = machine_of rows shed.buckets after

  no_charge : (o : Outline) → (kept_amounts o).charge ≡ 0
  no_charge (outline.Stream w) = refl
  no_charge outline.ClosedStream = refl
  no_charge (outline.Handle h) = refl
  no_charge outline.ClosedHandle = refl
  no_charge outline.Snapshot = refl
  no_charge outline.Iterator = refl

  pub opened-tied : IsTied (machine_of rows shed.buckets rest) shed pool cost top → IsRowOf unit r → IsKnown shed pool unit → ShedMoves shed shed_after unit 0 (kept_amounts r).usage → PoolMoves pool pool_after unit 0 (kept_amounts r).blocks
      → (share_at pool_after.shares unit).candidate ≡ (share_at pool.shares unit).candidate → IsTied (machine_of rows shed_after.buckets after) shed_after pool_after cost top
  opened-tied tied of known buckets shares mark =
      let moves : Moves before middle unit nothing (kept_amounts r) = record {
        limits = limits;
        known = λ q there. record { known = λ none. absurd (true_false (sym there ∙ none)) };
        usage = λ p. let all = sums (stream_where p) in let one = of.usage p in let zero = zero_cond (p unit) in omega (arith, all, one, zero);
        blocks = λ p. let all = sums (reserve_where p) in let one = of.blocks p in let zero = zero_cond (p unit) in omega (arith, all, one, zero);
        clear = λ u apart. refl;
        charge = omega (arith, no_charge r);
      } in
      subst (λ (us : List Text). IsTied (record middle { persistent = us }) shed_after pool_after cost top) (sym modes)
      (tied_moved before middle shed shed_after pool pool_after cost cost top unit nothing (kept_amounts r) tied known moves buckets shares (mark ∙ tied.marks unit) (omega (arith, no_charge r)))
