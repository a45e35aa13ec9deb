use Rattle.std.proofs.Common.{◌∙◌}
use Rattle.serde_json.specs.View.{view}
use Rattle.opfs_script.proofs.MembersLemmas.{has_only-members}
use Rattle.opfs_dump.proofs.loading.members.has_only.Goals as goal

pub returns-in-Some : goal.returns-in-Some
returns-in-Some c =
    c.are_among.ensures
    ∙ has_only-members c.args.names.now c.in-Some.members.now.entries (view c.args.value.now) c.in-Some.ensures
