use Rattle.std.proofs.Common.{refl, sym, ap, ◌∙◌}
use Rattle.opfs_base.specs.Texts.{Text}
use Rattle.opfs_base.specs.Units.{origin_of}
use Rattle.opfs_machine.specs.declared.own.Own.{Own}
use Rattle.opfs_machine.specs.declared.state.State.{State}
use Rattle.opfs_machine.specs.Effects.{made}
use Rattle.opfs_rulings.specs.Courses.{IsCourse}
use Rattle.opfs_rulings.proofs.Rising.{made_there, made_missing}
use Rattle.opfs_rulings.proofs.Totals.{kept_made, kept_rows, kept_short}
use Rattle.opfs_rulings.proofs.Courses.{courses-made}
use Rattle.opfs_rulings.proofs.Moving.{all-none}
use Rattle.opfs_rulings.proofs.board.Board.make_row.Goals as goal

pub returns-in-Ok : goal.returns-in-Ok
returns-in-Ok c = sym c.self.view_is ∙ made_there c.self.inside.state c.args.place c.args.row _ c.in-Ok.ensures.there ∙ ap (λ (s : State Text Own). made s c.args.place c.args.row) c.self.view_is

pub invariant_of-self : goal.invariant_of-self
invariant_of-self c = record {
  kept =
      kept_short c.self.inside.state.rows c.insert_row.new.state.rows c.self.inside.state.agents c.insert_row.new.state.agents c.self.inside.state.persistent c.insert_row.new.state.persistent c.self.inside.tally c.take-old.new.self
      c.self.invariant.kept (ap (λ (s : State Text Own). s.rows) c.in_err-insert_row.ensures.err) c.take-old.ensures.after;
  followed = all-none (IsCourse c.insert_row.new.state) c.replace-followed.new.dest.items (ap (λ x. x.items) c.replace-followed.ensures.after ∙ c.new.ensures.items);
}

pub invariant_of-self-2 : goal.invariant_of-self-2
invariant_of-self-2 c = record {
  kept =
      kept_rows c.self.inside.state c.insert_row.new.state _ _ c.in_ok-insert_row.ensures.ok
      (kept_made c.self.inside.state.rows _ c.self.inside.state.agents c.self.inside.state.persistent c.self.inside.tally c.take-old.result c.self.invariant.kept c.take-old.ensures.value
      c.args.place c.args.row _ c.origin_of.result.now c.weigh_row.result c.raised-tally.result c.in-Err.ensures.missing refl
      (c.origin_of.ensures ∙ ap origin_of c.as_bytes.ensures) c.weigh_row.ensures c.raised-tally.ensures);
  followed = courses-made c.self.inside.state c.insert_row.new.state c.self.inside.courses.items c.replace-followed.result.items c.courses_after-courses.result.items c.self.invariant.followed (ap (λ x. x.items) c.replace-followed.ensures.value) c.args.place c.args.row c.in-Err.at c.in_ok-insert_row.ensures.ok c.courses_after-courses.ensures;
}

pub returns : goal.returns
returns c = c.in_ok-insert_row.ensures.ok ∙ made_missing c.self.inside.state c.args.place c.args.row _ c.in-Err.ensures.missing ∙ ap (λ (s : State Text Own). made s c.args.place c.args.row) c.self.view_is
