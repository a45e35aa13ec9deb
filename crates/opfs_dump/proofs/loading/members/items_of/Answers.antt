use Rattle.std.proofs.Common.{Some, option_map, sym, ap, ◌∙◌}
use Rattle.std.specs.Prelude.{map}
use Rattle.serde_json.specs.View.{view}
use Rattle.opfs_script.specs.Members.{values_of}
use Rattle.opfs_script.proofs.HeadLemmas.{values_of-items_of}
use Rattle.opfs_dump.proofs.loading.members.items_of.Goals as goal

pub returns-in-Some : goal.returns-in-Some
returns-in-Some c =
    let listed = sym (values_of-items_of (map view c.in-Some.items.now.items)) in
    ap Some (ap (λ items. map view items) c.as_slice.ensures.value ∙ listed)
    ∙ ap (λ found. option_map values_of found) c.in-Some.ensures
