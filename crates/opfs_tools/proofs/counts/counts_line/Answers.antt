use Rattle.std.proofs.Common.{◌<◌, ◌^◌, arith, subst, ◌≡◌, List, sym, ap, ◌∙◌}
use Rattle.std.specs.Prelude.{string_bytes}
use Rattle.opfs_tools.specs.Sights.{Sights, used_blocks}
use Rattle.opfs_tools.specs.Units.{units_of}
use Rattle.opfs_base.specs.Texts.{Text}
use Rattle.opfs_tools.proofs.Filled.{same_counts, used_fits}
use Rattle.opfs_tools.proofs.counts.counts_line.Goals as goal

pub returns : goal.returns
returns c =
    let persistent : List Text = c.in_ok-persistent.persistent.items in
    let units_are : c.deref-3.result.now ≡ units_of c.deref-4.result.now persistent
    = c.deref-3.ensures.value ∙ (c.in_ok-units.ensures
    ∙ (ap (λ (xs : Sights). units_of xs c.deref-2.result.now) (c.deref.ensures.value ∙ sym c.deref-4.ensures.value) ∙ ap (units_of c.deref-4.result.now) c.deref-2.ensures.value)) in
    same_counts c.args.tree.now c.args.shed.now (string_bytes c.in_ok-line.line) c.deref-4.result.now persistent c.deref-3.result.now c.args.charge
    (c.deref-4.ensures.value ∙ c.in_ok-rows.ensures) c.in_ok-persistent.ensures units_are c.requires c.in_ok-line.ensures

pub units_of-requires : goal.units_of-requires
units_of-requires c =
    subst (λ (rows : Sights). used_blocks rows < 2 ^ 64) (sym (c.deref.ensures.value ∙ c.in_ok-rows.ensures)) (used_fits c.args.tree.now c.args.shed.now c.args.charge c.requires (omega (arith, c.ranges.charge)))

pub ok_line-requires : goal.ok_line-requires
ok_line-requires c =
    subst (λ (rows : Sights). used_blocks rows < 2 ^ 64) (sym (c.deref-4.ensures.value ∙ c.in_ok-rows.ensures)) (used_fits c.args.tree.now c.args.shed.now c.args.charge c.requires (omega (arith, c.ranges.charge)))
