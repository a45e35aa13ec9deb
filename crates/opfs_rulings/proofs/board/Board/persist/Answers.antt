use Rattle.std.proofs.Common.{List, ◌∙◌, ap, subst, sym}
use Rattle.std.specs.List.{AllByRecursion}
use Rattle.opfs_base.specs.Texts.{Text}
use Rattle.opfs_machine.specs.declared.own.Own.{Own}
use Rattle.opfs_machine.specs.declared.state.State.{State}
use Rattle.opfs_rulings.specs.Courses.{IsCourse}
use Rattle.opfs_rulings.specs.declared.course.Course.{Course}
use Rattle.opfs_rulings.proofs.Totals.{kept_mode, kept_short}
use Rattle.opfs_rulings.proofs.Courses.{courses-same}
use Rattle.opfs_rulings.proofs.Moving.{all-none}
use Rattle.opfs_rulings.proofs.board.Board.persist.Goals as goal

pub invariant_of-self : goal.invariant_of-self
invariant_of-self c = record {
  kept =
      kept_short c.self.inside.state.rows c.insert_mode.new.state.rows c.self.inside.state.agents c.insert_mode.new.state.agents c.self.inside.state.persistent c.insert_mode.new.state.persistent c.self.inside.tally c.take-old.new.self
      c.self.invariant.kept c.in_err-is_new.ensures.err c.take-old.ensures.after;
  followed = all-none (IsCourse c.insert_mode.new.state) c.replace-followed.new.dest.items (ap (λ x. x.items) c.replace-followed.ensures.after ∙ c.new.ensures.items);
}

pub invariant_of-self-2 : goal.invariant_of-self-2
invariant_of-self-2 c =
    let s = c.self.inside.state in
    let held = subst (λ (cs : List Course). AllByRecursion (IsCourse s) cs) (sym (ap (λ x. x.items) c.replace-followed.ensures.value)) c.self.invariant.followed in
    record {
      kept = kept_mode s c.insert_mode.new.state c.args.unit c.self.inside.tally c.take-old.result c.self.invariant.kept c.take-old.ensures.value c.in_ok-is_new.ensures.state
          c.in_ok-charge.charge c.in_ok-is_new.is_new c.with_mode.result c.in_ok-charge.ensures c.in_ok-is_new.ensures.new c.in_ok-is_new.ensures.old c.with_mode.ensures.new c.with_mode.ensures.old;
      followed = courses-same s c.insert_mode.new.state c.replace-followed.result.items held (ap (λ (t : State Text Own). t.rows) c.in_ok-is_new.ensures.state) (ap (λ (t : State Text Own). t.agents) c.in_ok-is_new.ensures.state);
    }
