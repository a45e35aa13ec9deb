use Rattle.std.proofs.Common.{◌∙◌, ap}
use Rattle.opfs_base.specs.Texts.{Text}
use Rattle.opfs_machine.specs.Agents.{agent_of, with_own}
use Rattle.opfs_machine.specs.Effects.{with_changed}
use Rattle.opfs_machine.specs.declared.own.Own.{Own}
use Rattle.opfs_machine.specs.declared.own.Own.TheVariants.{ClosedStream}
use Rattle.opfs_machine.specs.declared.state.State.{State}
use Rattle.opfs_rulings.specs.Known.{IsAgent, IsOwn}
use Rattle.opfs_rulings.specs.Courses.{IsCourse, given_row}
use Rattle.opfs_rulings.proofs.Swaps.{own_changed, put_back}
use Rattle.opfs_rulings.proofs.Courses.{courses-gone}
use Rattle.opfs_rulings.proofs.Moving.{all-none}
use Rattle.opfs_rulings.proofs.board.Board.give.Goals as goal

pub returns : goal.returns
returns c =
    let s = c.self.inside.state in
    let agent : IsAgent s c.args.number = rw c.self.view_is c.requires.agent in
    c.self-2.view_is
    ∙ own_changed s c.swap_own-own.new.self c.args.number c.args.row ClosedStream agent c.swap_own-own.ensures.state (λ r. given_row r c.args.name)
    c.swap_own-own.result c.give_row.new.row c.swap_own.new.self c.swap_own-own.ensures.old c.in_ok-give_row.ensures c.swap_own.ensures.state
    ∙ ap (λ (t : State Text Own). with_changed t c.args.number c.args.row (λ r. given_row r c.args.name)) c.self.view_is

pub invariant_of-self : goal.invariant_of-self
invariant_of-self c = record { kept = c.self.invariant.kept; followed = all-none (IsCourse c.self.inside.state) c.replace-followed.new.dest.items (ap (λ x. x.items) c.replace-followed.ensures.after ∙ c.new.ensures.items) }

pub invariant_of-self-2 : goal.invariant_of-self-2
invariant_of-self-2 c =
    let s = c.self.inside.state in
    let agent : IsAgent s c.args.number = rw c.self.view_is c.requires.agent in
    let own : IsOwn (agent_of s c.args.number) c.args.row = rw c.self.view_is c.requires.row in
    record {
      kept = c.self-2.invariant.kept;
      followed = courses-gone s c.self-2.inside.state c.self.inside.courses.items c.replace-followed.result.items c.courses_after-courses.result.items c.self.invariant.followed (ap (λ x. x.items) c.replace-followed.ensures.value) c.args.number agent c.args.row own.above
          c.swap_own-own.result c.args.name c.swap_own-own.ensures.old
          (c.self-2.view_is ∙ c.swap_own.ensures.state ∙ put_back s c.swap_own-own.new.self c.args.number c.args.row ClosedStream agent c.swap_own-own.ensures.state c.give_row.new.row
          ∙ ap (with_own s c.args.number c.args.row) c.in_ok-give_row.ensures)
          c.courses_after-courses.ensures;
    }
