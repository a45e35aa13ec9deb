use Rattle.std.proofs.Common.{◌∙◌}
use Rattle.opfs_base.specs.Places.{place_of}
use Rattle.opfs_desk_entries.proofs.answers.Children.{least-up-to}
use Rattle.opfs_desk_entries.proofs.answers.next.child_above.Goals as goal

pub returns : goal.returns
returns c = c.in_ok-child.ensures ∙ least-up-to c.args.past.now c.args.last.now (place_of c.args.dir.now) c.args.state.now.store.tree c.requires.given
