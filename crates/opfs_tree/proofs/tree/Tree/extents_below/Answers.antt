use Rattle.std.proofs.Common.{◌<◌, ◌^◌, ℕ, length, ap, sym, subst, ◌∙◌}
use Rattle.std.specs.List.{flat_map}
use Rattle.opfs_tree.specs.Rows.{extents_of}
use Rattle.opfs_tree.specs.Units.{below, values}
use Rattle.opfs_tree.proofs.Places.{rows_in_unit}
use Rattle.opfs_tree.proofs.tree.Tree.extents_below.Goals as goal

pub extents_below-requires : goal.extents_below-requires
extents_below-requires c =
    let same = ap (λ es. length (flat_map extents_of (values (below c.args.path.now es)))) c.in-Some.ensures
    ∙ ap (λ rs. length (flat_map extents_of rs)) (sym (rows_in_unit c.args.key.now c.args.path.now c.args.self.now)) in
    let P = λ (n : ℕ). n < 2 ^ 64 in subst P (sym same) c.requires

pub returns-in-Some : goal.returns-in-Some
returns-in-Some c =
    c.extents_below.ensures ∙ (ap (λ es. length (flat_map extents_of (values (below c.args.path.now es)))) c.in-Some.ensures
    ∙ ap (λ rs. length (flat_map extents_of rs)) (sym (rows_in_unit c.args.key.now c.args.path.now c.args.self.now)))

pub returns-in-None : goal.returns-in-None
returns-in-None c =
    ap (λ es. length (flat_map extents_of (values (below c.args.path.now es)))) c.in-None.ensures
    ∙ ap (λ rs. length (flat_map extents_of rs)) (sym (rows_in_unit c.args.key.now c.args.path.now c.args.self.now))
