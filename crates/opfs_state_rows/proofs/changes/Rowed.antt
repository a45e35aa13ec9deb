-- Rows that are made and removed, and units that are made persistent.
use Rattle.std.proofs.Common.{◌≡◌, ℕ, suc, ◌+◌, ◌-◌, ◌^◌, ◌<◌, ◌≤◌, Bool, true, false, cond, not, ◌&&◌, List, [], Option, Some, None, Ok, option_map, refl, sym, ap, ◌∙◌, subst, arith}
use Rattle.std.specs.Prelude.{IsSome, is_some, if◌then◌else◌}
use Rattle.std.specs.FinMap.Entries.{put}
use Rattle.std.specs.Ordering.{nat_cmp}
use Rattle.std.specs.Cmp.Lexicographic.{slice_cmp}
use Rattle.opfs_base.specs.Measures.{mode_charge, place_charge}
use Rattle.opfs_base.specs.Places.{Place, place_cmp, place_of, child}
use Rattle.opfs_base.specs.Texts.{Text}
use Rattle.opfs_base.specs.Units.{unit_of}
use Rattle.opfs_base.specs.declared.extents.Extent.{Extent}
use Rattle.opfs_base.specs.declared.locator.Kind.{Kind}
use Rattle.opfs_base.specs.declared.locator.Kind.TheVariants as kind
use Rattle.opfs_base.specs.declared.locator.Locator.{Locator}
use Rattle.opfs_hist.specs.declared.op.Op.{Op}
use Rattle.opfs_hist.specs.declared.op.Op.TheVariants as op
use Rattle.opfs_laws.proofs.Gone.{then-gave, bind-gave, some-gave, unless-gave}
use Rattle.opfs_machine.specs.declared.state.Need.{Need}
use Rattle.opfs_machine.specs.declared.state.Row.{Row}
use Rattle.opfs_machine.specs.declared.state.Row.TheVariants as row
use Rattle.opfs_machine.specs.declared.state.Sizes.{Sizes}
use Rattle.opfs_machine.specs.Agents.{agent_of, counted}
use Rattle.opfs_machine.specs.Contents.{in_lengths}
use Rattle.opfs_machine.specs.Effects.{effect, opens_bucket, persists, moment_of, new_row}
use Rattle.opfs_machine.specs.Ordered.{insert_by}
use Rattle.opfs_machine.specs.Rows.{row_at, with_row, without}
use Rattle.opfs_machine.specs.Ruled.{Ruled}
use Rattle.opfs_machine.specs.Rulings.{ruling, get_directory_ruling, get_handle_ruling, child_ruling, remove_entry_ruling, persist_ruling, making, persisting}
use Rattle.opfs_machine.specs.Sums.{charge, is_persistent, charges, no_need}
use Rattle.opfs_tree.specs.Ready.Ready.{new_row as new_tree_row}
use Rattle.opfs_state_rows.proofs.standing.Lines.{there-at}
use Rattle.opfs_state_rows.specs.Standing.Coming.{IsReadyFor}
use Rattle.opfs_state_rows.specs.Standing.Seen.{Machine, Seen, Prepared, lines_of}
use Rattle.opfs_state_rows.proofs.changes.ByMaking.{by-making}
use Rattle.opfs_state_rows.proofs.changes.Found.{some-is}
use Rattle.opfs_state_rows.proofs.changes.Told.{same-need}
use Rattle.opfs_state_rows.specs.Changes.Allowed.{MayApply}
use Rattle.opfs_state_rows.specs.Changes.Asking.{place_for, place_in, free_in, where_free, root_in, root_place, made_at, target_of, growth_of, row_growth, mode_growth, makes_row}
use Rattle.opfs_state_rows.specs.Changes.Changed.{IsDone, tree_by, freed_in, grown_by}
use Rattle.opfs_tree.specs.Rows as tree

pub row-target : (m : Machine) (k : ℕ) (o : Op) → makes_row o ≡ true → target_of m k o ≡ place_in (place_for m k o)
unfolding target_of
row-target m k = by-making (λ o. target_of m k o ≡ place_in (place_for m k o)) (λ bucket. refl) (λ dir name create. refl) (λ dir name create. refl)

pub row-grows : (m : Machine) (k : ℕ) (o : Op) → makes_row o ≡ true → growth_of m k o ≡ row_growth (place_for m k o)
unfolding growth_of
row-grows m k = by-making (λ o. growth_of m k o ≡ row_growth (place_for m k o)) (λ bucket. refl) (λ dir name create. refl) (λ dir name create. refl)

row-tree : (m : Machine) (t : tree.Rows) (z : Sizes) (k : ℕ) (o : Op) (extents : Option (List Extent)) → makes_row o ≡ true → tree_by m t k o z extents ≡ grown_by t (moment_of m k) (place_for m k o)
unfolding tree_by
row-tree m t z k o extents = by-making (λ o. tree_by m t k o z extents ≡ grown_by t (moment_of m k) (place_for m k o)) (λ bucket. refl) (λ dir name create. refl) (λ dir name create. refl) o

-- The machine with the row that a call makes.
abbrev pub made_by : Machine → ℕ → Option (Place × Kind) → Machine
made_by m stamp None = m
made_by m stamp (Some e) = with_row m e.0 (new_row in_lengths e.1 stamp)

free-made : (m : Machine) (stamp : ℕ) (o : Option (Row ℕ)) (e : Place × Kind) → elim o as (λ x. Machine) [ Some old ↦ m | None ↦ with_row m e.0 (new_row in_lengths e.1 stamp) ] ≡ made_by m stamp (where_free o e)
free-made m stamp None e = refl
free-made m stamp (Some r) e = refl

bucket-made : (m : Machine) (stamp : ℕ) (bucket : Text) (key : Option Text) → opens_bucket m bucket key ≡ made_by m stamp (free_in m (root_in (option_map (λ origin. unit_of origin bucket) key)))
bucket-made m stamp bucket None = refl
bucket-made m stamp bucket (Some origin) = free-made m stamp (row_at m (unit_of origin bucket, [])) ((unit_of origin bucket, []), kind.Directory)

pub row-effect : (m : Machine) (z : Sizes) (k : ℕ) (o : Op) → makes_row o ≡ true → effect in_lengths m z k o ≡ made_by m (moment_of m k) (place_for m k o)
unfolding effect made_at
row-effect m z k =
    by-making (λ o. effect in_lengths m z k o ≡ made_by m (moment_of m k) (place_for m k o)) (λ bucket. bucket-made m (moment_of m k) bucket (agent_of m k).key)
    (λ dir name create. free-made m (moment_of m k) (row_at m (child (place_of dir) name)) (child (place_of dir) name, kind.Directory))
    (λ dir name create. free-made m (moment_of m k) (row_at m (child (place_of dir) name)) (child (place_of dir) name, kind.File))

pub in-place : (e : Option (Place × Kind)) (p : Place) → place_in e ≡ Some p → (k : Kind) × (e ≡ Some (p, k))
in-place None p h = cc
in-place (Some x) p h = (x.1, ap (λ (q : Place). Some (q, x.1)) (some-is h))

pub no-row : (e : Option (Place × Kind)) → place_in e ≡ None → e ≡ None
no-row None h = refl
no-row (Some x) h = cc

-- What a row adds to the charge is what the call asks for.
made-growth : (k : Kind) (place : Place) (o : Option (Row ℕ)) → (making k place o).charge ≡ row_growth (where_free o (place, k))
made-growth k place None = refl
made-growth k place (Some r) = refl

directory-growth : (m : Machine) (k : ℕ) (bucket : Text) (need : Need) → get_directory_ruling m k bucket ≡ Ok need → need.charge ≡ row_growth (free_in m (root_in (option_map (λ origin. unit_of origin bucket) (agent_of m k).key)))
unfolding get_directory_ruling
directory-growth m k bucket need h =
    let both = bind-gave _ _ need h in
    let key = some-gave _ _ both.0 both.1 in
    let rest = then-gave _ _ need both.2 in
    ap (λ (x : Need). x.charge) (same-need rest.1) ∙ made-growth kind.Directory (unit_of both.0 bucket, []) (row_at m (unit_of both.0 bucket, []))
    ∙ ap (λ o. row_growth (free_in m (root_in (option_map (λ origin. unit_of origin bucket) o)))) (sym key)

child-growth : (k : Kind) (place : Place) (name : Text) (create : Bool) (o : Option (Row ℕ)) (need : Need) → child_ruling k place name create o ≡ Ok need → need.charge ≡ row_growth (where_free o (place, k))
child-growth k place name create None need h = ap (λ (x : Need). x.charge) (same-need (then-gave _ _ need (then-gave _ _ need h).1).1)
child-growth k place name create (Some r) need h = ap (λ (x : Need). x.charge) (same-need (then-gave _ _ need h).1)

handle-growth : (m : Machine) (k : Kind) (dir : Locator) (name : Text) (create : Bool) (need : Need) → get_handle_ruling m k dir name create ≡ Ok need
    → need.charge ≡ row_growth (where_free (row_at m (child (place_of dir) name)) (child (place_of dir) name, k))
unfolding get_handle_ruling
handle-growth m k dir name create need h =
    child-growth k (child (place_of dir) name) name create (row_at m (child (place_of dir) name)) need (then-gave _ _ need (then-gave _ _ need h).1).1

row-need : (m : Machine) (z : Sizes) (k : ℕ) (o : Op) (need : Need) → makes_row o ≡ true → ruling in_lengths m z k o ≡ Ok need → need.charge ≡ row_growth (place_for m k o)
unfolding ruling made_at
row-need m z k o need makes ruled =
    by-making (λ o. ruling in_lengths m z k o ≡ Ok need → need.charge ≡ row_growth (place_for m k o)) (λ bucket told. directory-growth m k bucket need told)
    (λ dir name create told. handle-growth m kind.Directory dir name create need told)
    (λ dir name create told. handle-growth m kind.File dir name create need told) o makes ruled

pub row-area : (m : Machine) (z : Sizes) (k : ℕ) (o : Op) (growth area : ℕ) → makes_row o ≡ true → MayApply m z k o → growth ≡ growth_of m k o → area ≡ m.limits.area → area < 2 ^ 64 → charge in_lengths m + growth < 2 ^ 64
row-area m z k o growth area makes may is limit small = omega (arith, may.area, row-need m z k o may.need makes may.ruled, row-grows m k o makes, is, limit, small)

module _ (s last : Seen) (z : Sizes) (k : ℕ) (o : Op) (makes : makes_row o ≡ true) (extents : Option (List Extent)) where
  pub none-made : place_for s.machine k o ≡ None → last ≡ record s { machine = counted s.machine k } → IsDone s last z k o extents
  none-made none count = record {
    machine = ap (λ (x : Seen). x.machine) count ∙ ap (λ (m : Machine). counted m k) (sym (row-effect s.machine z k o makes ∙ ap (made_by s.machine (moment_of s.machine k)) none));
    tree = ap (λ (x : Seen). x.tree) count ∙ sym (row-tree s.machine s.tree z k o extents makes ∙ ap (grown_by s.tree (moment_of s.machine k)) none);
  }

  pub row-made : (one : Seen) (place : Place) (kd : Kind) → place_for s.machine k o ≡ Some (place, kd) → one.machine ≡ with_row s.machine place (new_row in_lengths kd (moment_of s.machine k))
      → one.tree ≡ put place_cmp place (new_tree_row kd (moment_of s.machine k)) s.tree → last ≡ record one { machine = counted one.machine k } → IsDone s last z k o extents
  row-made one place kd some machine grown count = record {
    machine =
        ap (λ (x : Seen). x.machine) count ∙ ap (λ (m : Machine). counted m k) (machine ∙ sym (row-effect s.machine z k o makes ∙ ap (made_by s.machine (moment_of s.machine k)) some));
    tree = ap (λ (x : Seen). x.tree) count ∙ grown ∙ sym (row-tree s.machine s.tree z k o extents makes ∙ ap (grown_by s.tree (moment_of s.machine k)) some);
  }

-- removeEntry.
pub remove-target : (m : Machine) (k : ℕ) (dir : Locator) (name : Text) (recursive : Bool) (target : Option Place) → target ≡ target_of m k (op.RemoveEntry dir name recursive) → target ≡ Some (child (place_of dir) name)
unfolding target_of
remove-target m k dir name recursive target is = is

pub remove-frees : (m : Machine) (t : tree.Rows) (k : ℕ) (dir : Locator) (name : Text) (recursive : Bool) (extents : Option (List Extent)) → freed_in m t k (op.RemoveEntry dir name recursive) extents ≡ tree.extents_within (child (place_of dir) name) t
unfolding freed_in
remove-frees m t k dir name recursive extents = refl

remove-told : (m : Machine) (dir : Locator) (name : Text) (recursive : Bool) (need : Need) → remove_entry_ruling m dir name recursive ≡ Ok need → is_some (row_at m (child (place_of dir) name)) ≡ true
unfolding remove_entry_ruling
remove-told m dir name recursive need h = unless-gave _ _ (then-gave _ _ need (then-gave _ _ need (then-gave _ _ need h).1).1).0

pub remove-there : (m : Machine) (t : tree.Rows) (z : Sizes) (k : ℕ) (dir : Locator) (name : Text) (recursive : Bool) → MayApply m z k (op.RemoveEntry dir name recursive) → m.rows ≡ lines_of t → IsSome (tree.row_at (child (place_of dir) name) t)
unfolding ruling
remove-there m t z k dir name recursive may lines =
    let there = remove-told m dir name recursive may.need may.ruled in
    sym (there-at (child (place_of dir) name) t) ∙ ap (λ rows. is_some (row_at (record m { rows = rows }) (child (place_of dir) name))) (sym lines) ∙ there

pub removed : (s one last : Seen) (z : Sizes) (k : ℕ) (dir : Locator) (name : Text) (recursive : Bool) (extents : Option (List Extent)) → one.machine ≡ without s.machine (child (place_of dir) name) → one.tree ≡ tree.without (child (place_of dir) name) s.tree
    → last ≡ record one { machine = counted one.machine k } → IsDone s last z k (op.RemoveEntry dir name recursive) extents
unfolding effect tree_by
removed s one last z k dir name recursive extents machine rows count = record {
  machine = ap (λ (x : Seen). x.machine) count ∙ ap (λ (m : Machine). counted m k) machine;
  tree = ap (λ (x : Seen). x.tree) count ∙ rows;
}

-- persist.
abbrev pub kept_by : Machine → Option Place → Machine
kept_by m None = m
kept_by m (Some place) = record m { persistent = insert_by (slice_cmp nat_cmp) place.0 m.persistent }

persist-made : (m : Machine) (bucket : Text) (grant : Bool) (key : Option Text) → persists m bucket grant key ≡ kept_by m (cond grant (root_place (option_map (λ origin. unit_of origin bucket) key)) None)
persist-made m bucket true None = refl
persist-made m bucket false None = refl
persist-made m bucket true (Some origin) = refl
persist-made m bucket false (Some origin) = refl

pub persist-effect : (m : Machine) (z : Sizes) (k : ℕ) (bucket : Text) → effect in_lengths m z k (op.Persist bucket) ≡ kept_by m (target_of m k (op.Persist bucket))
unfolding effect target_of
persist-effect m z k bucket = persist-made m bucket (agent_of m k).grant (agent_of m k).key

persist-tree : (m : Machine) (t : tree.Rows) (z : Sizes) (k : ℕ) (bucket : Text) (extents : Option (List Extent)) → tree_by m t k (op.Persist bucket) z extents ≡ t
unfolding tree_by made_at
persist-tree m t z k bucket extents = refl

pub persist-grows : (m : Machine) (k : ℕ) (bucket : Text) → growth_of m k (op.Persist bucket) ≡ mode_growth m (target_of m k (op.Persist bucket))
unfolding growth_of
persist-grows m k bucket = refl

asked-growth : (t : Bool) (n : ℕ) → (if true && not t then charges n else no_need).charge ≡ cond t 0 n
asked-growth true n = refl
asked-growth false n = refl

persisting-growth : (m : Machine) (grant : Bool) (unit : Text) → (persisting m grant unit).charge ≡ mode_growth m (cond grant (root_place (Some unit)) None)
persisting-growth m false unit = refl
persisting-growth m true unit = asked-growth (is_persistent m unit) (mode_charge unit)

persist-told : (m : Machine) (k : ℕ) (bucket : Text) (need : Need) → persist_ruling m k bucket ≡ Ok need → need.charge ≡ mode_growth m (cond (agent_of m k).grant (root_place (option_map (λ origin. unit_of origin bucket) (agent_of m k).key)) None)
unfolding persist_ruling
persist-told m k bucket need h =
    let both = bind-gave _ _ need h in
    let key = some-gave _ _ both.0 both.1 in
    let rest = then-gave _ _ need both.2 in
    ap (λ (x : Need). x.charge) (same-need rest.1) ∙ persisting-growth m (agent_of m k).grant (unit_of both.0 bucket)
    ∙ ap (λ o. mode_growth m (cond (agent_of m k).grant (root_place (option_map (λ origin. unit_of origin bucket) o)) None)) (sym key)

pub persist-area : (m : Machine) (z : Sizes) (k : ℕ) (bucket : Text) (growth area : ℕ) → MayApply m z k (op.Persist bucket) → growth ≡ growth_of m k (op.Persist bucket) → area ≡ m.limits.area → area < 2 ^ 64 → charge in_lengths m + growth < 2 ^ 64
unfolding ruling growth_of target_of
persist-area m z k bucket growth area may is limit small = omega (arith, may.area, persist-told m k bucket may.need may.ruled, is, limit, small)

module _ (s last : Seen) (z : Sizes) (k : ℕ) (bucket : Text) (extents : Option (List Extent)) where
  pub none-persisted : target_of s.machine k (op.Persist bucket) ≡ None → last ≡ record s { machine = counted s.machine k } → IsDone s last z k (op.Persist bucket) extents
  none-persisted none count = record {
    machine = ap (λ (x : Seen). x.machine) count ∙ ap (λ (m : Machine). counted m k) (sym (persist-effect s.machine z k bucket ∙ ap (kept_by s.machine) none));
    tree = ap (λ (x : Seen). x.tree) count ∙ sym (persist-tree s.machine s.tree z k bucket extents);
  }

  pub persisted : (one : Seen) (place : Place) → target_of s.machine k (op.Persist bucket) ≡ Some place → one.machine ≡ record s.machine { persistent = insert_by (slice_cmp nat_cmp) place.0 s.machine.persistent } → one.tree ≡ s.tree
      → last ≡ record one { machine = counted one.machine k } → IsDone s last z k (op.Persist bucket) extents
  persisted one place some machine same count = record {
    machine = ap (λ (x : Seen). x.machine) count ∙ ap (λ (m : Machine). counted m k) (machine ∙ sym (persist-effect s.machine z k bucket ∙ ap (kept_by s.machine) some));
    tree = ap (λ (x : Seen). x.tree) count ∙ same ∙ sym (persist-tree s.machine s.tree z k bucket extents);
  }
