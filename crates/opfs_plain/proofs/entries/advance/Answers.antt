use Rattle.std.proofs.Common.{◌≡◌, ◌∙◌, ap, rules}
use Rattle.opfs_base.specs.Places.{place_of}
use Rattle.opfs_base.specs.Texts.{Text}
use Rattle.opfs_machine.specs.Agents.{agent_of, own_of}
use Rattle.opfs_machine.specs.Contents.{advanced_row, next_of}
use Rattle.opfs_machine.specs.Effects.{with_changed}
use Rattle.opfs_machine.specs.Replies.{given_in}
use Rattle.opfs_machine.specs.Rows.{children_of}
use Rattle.opfs_machine.specs.declared.own.Own.{Own}
use Rattle.opfs_machine.specs.declared.state.State.{State}
use Rattle.opfs_plain.proofs.Swapped.{changed_alike, given_advanced}
use Rattle.opfs_rulings.specs.Courses.{given_row}
use Rattle.opfs_plain.proofs.entries.advance.Goals as goal

pub returns : goal.returns
returns c =
    let s = c.args.state.now in
    let told : c.in_ok-name.name ≡ next_of (given_in (own_of (agent_of s c.args.number) c.args.row)) (children_of s (place_of c.args.dir.now)) = search rules in
    c.in_ok-give.ensures
    ∙ ap (λ (t : State Text Own). with_changed t c.args.number c.args.row (λ r. given_row r c.in_ok-name.name)) c.follow.ensures
    ∙ changed_alike s c.args.number c.args.row (λ r. given_row r c.in_ok-name.name) (λ r. advanced_row r (children_of s (place_of c.args.dir.now)))
    (λ r was. given_advanced r (own_of (agent_of s c.args.number) c.args.row) c.in_ok-name.name (children_of s (place_of c.args.dir.now)) was told)
