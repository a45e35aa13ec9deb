-- What is counted, and which units are cleared for a need, is the same in the other form.
use Rattle.std.proofs.Common.{◌≡◌, ℕ, ◌+◌, ◌*◌, nat_le, Bool, true, false, not, ◌&&◌, ◌||◌, List, [], ◌∷◌, ◌++◌, map, flat_map, filter, fold, sum_by, Option, Some, None, option_map, refl, sym, ap, ◌∙◌}
use Rattle.opfs_base.specs.Blocks.{blocks}
use Rattle.opfs_base.specs.Texts.{Text, same_text}
use Rattle.opfs_base.specs.Places.{Place, is_within}
use Rattle.opfs_base.specs.Units.{origin_of}
use Rattle.opfs_hist.specs.declared.reply.Refusal.TheVariants as refusal
use Rattle.opfs_machine.specs.declared.state.Agent.{Agent}
use Rattle.opfs_machine.specs.declared.state.Need.{Need}
use Rattle.opfs_machine.specs.declared.state.Row.{Row}
use Rattle.opfs_machine.specs.declared.state.Row.TheVariants as row
use Rattle.opfs_machine.specs.declared.state.State.{State}
use Rattle.opfs_machine.specs.Agents.{last_use, stream_in}
use Rattle.opfs_machine.specs.Contents.{Contents}
use Rattle.opfs_machine.specs.Ordered.{insert_by}
use Rattle.opfs_machine.specs.Replies.{origin_in}
use Rattle.opfs_machine.specs.Rows.{Rows, without}
use Rattle.opfs_machine.specs.Ruled.{◌>>◌, unless, some_or}
use Rattle.opfs_machine.specs.Steps.{room_for, evicted}
use Rattle.opfs_machine.specs.Sums.{usage, pool, charge, row_charge, present_blocks, durable_blocks, row_reserve, stream_reserve, reserve_of, all_own, is_persistent, fits_pool}
use Rattle.opfs_base.specs.Measures.{mode_charge, block_charge}
use Rattle.opfs_machine.specs.Victims.{root_unit, root_units, none_taken, is_callers, is_candidate, use_cmp, candidates, cleared, shortest_front, victims}
use Rattle.std.specs.Prelude.{is_none}
use Rattle.opfs_laws.specs.Lengths.Outlines.{on_row, on_entry, on_agent, on_state}
use Rattle.opfs_laws.proofs.lengths.Lists.{map-filter, map-sum, map-all, map-found, map-joined}
use Rattle.opfs_laws.proofs.lengths.Readers.{Fits, taken-on}

module _ {F R G Q : Type 0} (f : F → G) (g : R → Q) where
  owns-on : (agents : List (Agent R)) → flat_map (λ a. a.own) (map (on_agent g) agents) ≡ map g (flat_map (λ a. a.own) agents)
  owns-on [] = refl
  owns-on (a ∷ agents) = ap (λ xs. map g a.own ++ xs) (owns-on agents) ∙ sym (map-joined g a.own (flat_map (λ b. b.own) agents))

  pub all_own-on : (s : State F R) → all_own (on_state f g s) ≡ map g (all_own s)
  all_own-on s = owns-on s.agents

  charge-row-on : (e : Place × Row F) → row_charge (on_entry f e) ≡ row_charge e
  charge-row-on (p, row.Directory) = refl
  charge-row-on (p, row.File x) = refl

  pub without-on : (s : State F R) (p : Place) → without (on_state f g s) p ≡ on_state f g (without s p)
  without-on s p = ap (λ (rows : Rows G). record (on_state f g s) { rows = rows }) (map-filter (on_entry f) (λ e. not (is_within p e.0)) s.rows)

  pub evicted-on : (s : State F R) (unit : Text) → evicted (on_state f g s) unit ≡ on_state f g (evicted s unit)
  evicted-on s unit = ap (λ (t : State G Q). record t { entries = s.entries + 1 }) (without-on s (unit, []))

  pub evictions-on : (gone : List Text) (s : State F R) → fold evicted (on_state f g s) gone ≡ on_state f g (fold evicted s gone)
  evictions-on [] s = refl
  evictions-on (unit ∷ gone) s = ap (λ t. fold evicted t gone) (evicted-on s unit) ∙ evictions-on gone (evicted s unit)

  none_taken-on : (s : State F R) (unit : Text) → none_taken (on_state f g s) unit ≡ none_taken s unit
  none_taken-on s unit = map-all (on_entry f) _ _ (λ e. ap (λ o. not (same_text unit e.0.0) || is_none o) (taken-on f e.1)) s.rows

  roots-on : (s : State F R) → root_units (on_state f g s) ≡ root_units s
  roots-on s = map-found (on_entry f) root_unit s.rows

  candidate-on : (s : State F R) (caller : Option Text) → is_candidate (on_state f g s) caller ≡ is_candidate s caller
  candidate-on s caller = λ i unit. not (is_persistent s unit) && not (is_callers caller unit) && none_taken-on s unit i

  pub candidates-on : (s : State F R) (caller : Option Text) → candidates (on_state f g s) caller ≡ candidates s caller
  candidates-on s caller =
      λ i. map (λ e. e.1) (fold (λ sorted unit. insert_by use_cmp (last_use s (origin_of unit), unit) sorted) [] (filter (candidate-on s caller i) (roots-on s i)))

module _ {F R G Q : Type 0} (c : Contents F R) (d : Contents G Q) (f : F → G) (g : R → Q) (fits : Fits c d f g) where
  present-on : (r : Row F) → present_blocks d (on_row f r) ≡ present_blocks c r
  present-on row.Directory = refl
  present-on (row.File x) = ap blocks (fits.size x.present)

  durable-on : (r : Row F) → durable_blocks d (on_row f r) ≡ durable_blocks c r
  durable-on row.Directory = refl
  durable-on (row.File x) = ap blocks (fits.size x.durable)

  kept-on : (origin : Text) (r : R) → row_reserve d origin (g r) ≡ row_reserve c origin r
  unfolding row_reserve
  kept-on origin r = ap (λ o. stream_reserve origin (stream_in o)) (fits.outline r)

  pub usage-on : (s : State F R) (origin : Text) → usage d (on_state f g s) origin ≡ usage c s origin
  usage-on s origin =
      let rows = ap (sum_by (λ e. present_blocks d e.1)) (map-filter (on_entry f) (λ e. same_text origin (origin_of e.0.0)) s.rows)
      ∙ map-sum (on_entry f) (λ e. present_blocks d e.1) (λ e. present_blocks c e.1) (λ e. present-on e.1) (filter (λ e. same_text origin (origin_of e.0.0)) s.rows) in
      let owns = ap (sum_by (row_reserve d origin)) (all_own-on f g s) ∙ map-sum g (row_reserve d origin) (row_reserve c origin) (kept-on origin) (all_own s) in
      λ i. rows i + owns i

  pub pool-on : (s : State F R) → pool d (on_state f g s) ≡ pool c s
  pool-on s =
      let rows = map-sum (on_entry f) (λ e. durable_blocks d e.1) (λ e. durable_blocks c e.1) (λ e. durable-on e.1) s.rows in
      let owns = ap (sum_by (λ r. reserve_of (d.outline r))) (all_own-on f g s)
      ∙ map-sum g (λ r. reserve_of (d.outline r)) (λ r. reserve_of (c.outline r)) (λ r. ap reserve_of (fits.outline r)) (all_own s) in
      λ i. rows i + owns i

  pub charge-on : (s : State F R) → charge d (on_state f g s) ≡ charge c s
  charge-on s =
      let rows = map-sum (on_entry f) row_charge row_charge (charge-row-on f g) s.rows in
      λ i. rows i + sum_by mode_charge s.persistent + block_charge * pool-on s i

  fits_pool-on : (s : State F R) (need : ℕ) → fits_pool d (on_state f g s) need ≡ fits_pool c s need
  fits_pool-on s need = λ i. nat_le need 0 || nat_le (pool-on s i + need) s.limits.blocks

  abbrev front_by : Text → Bool → Option (List Text) → Option (List Text)
  front_by unit b rest = elim b [ true ↦ Some [] | false ↦ option_map (λ more. unit ∷ more) rest ]

  abbrev last_by : Bool → Option (List Text)
  last_by b = elim b [ true ↦ Some [] | false ↦ None ]

  front-on : (units : List Text) (s : State F R) (need : ℕ) → shortest_front d (on_state f g s) need units ≡ shortest_front c s need units
  front-on [] s need = ap last_by (fits_pool-on s need)
  front-on (unit ∷ units) s need =
      let rest = ap (λ t. shortest_front d t need units) (without-on f g s (unit, [])) ∙ front-on units (cleared s unit) need in
      λ i. front_by unit (fits_pool-on s need i) (rest i)

  pub victims-on : (s : State F R) (caller : Option Text) (need : ℕ) → victims d (on_state f g s) caller need ≡ victims c s caller need
  victims-on s caller need = ap (shortest_front d (on_state f g s) need) (candidates-on f g s caller) ∙ front-on (candidates s caller) s need

  pub room-on : (s : State F R) (caller : Option Text) (need : Need) → room_for d (on_state f g s) caller need ≡ room_for c s caller need
  unfolding room_for
  room-on s caller need =
      let used = usage-on s (origin_in caller) in
      let cost = charge-on s in
      λ i. unless (nat_le need.quota 0 || nat_le (used i + need.quota) s.limits.quota) (refusal.QuotaExceededError (used i) need.quota s.limits.quota)
      >> (unless (nat_le need.charge 0 || nat_le (cost i + need.charge + 7) s.limits.area) (refusal.MetaFull (cost i) need.charge s.limits.area)
      >> some_or (victims-on s caller need.pool i) (refusal.DataFull (pool-on s i) need.pool s.limits.blocks))
