use Rattle.std.proofs.Common.{◌∙◌}
use Rattle.std.proofs.lemmas.Bool.{false≢true}
use Rattle.opfs_machine.specs.Agents.{agent_of, own_of}
use Rattle.opfs_machine.specs.Contents.{next_of}
use Rattle.opfs_machine.specs.Replies.{given_in}
use Rattle.opfs_rulings.specs.Courses.{IsCourse, names_in}
use Rattle.opfs_rulings.proofs.Courses.{least-left, no-keys, none-left}
use Rattle.opfs_rulings.proofs.Moving.{all-among}
use Rattle.opfs_rulings.proofs.board.Board.next_followed.Goals as goal

pub returns-in-Some-first : goal.returns-in-Some-first
returns-in-Some-first c =
    let s = c.self.inside.state in
    let course = c.in-Some.course.now in
    let h : IsCourse s course = all-among (IsCourse s) c.self.inside.courses.items c.as_slice.result.now course c.as_slice.ensures.value c.in-Some.ensures.among c.self.invariant.followed in
    let at = c.in-Some.ensures.whose in
    rw (← c.self.view_is)
    (least-left s c.self.invariant.kept.rising course h c.in-Some-first.name.now c.in-Some-first.ensures.member c.in-Some-first.ensures.least
    ∙ (λ i. next_of (given_in (own_of (agent_of s (at.0 i)) (at.1 i))) (names_in (at.2 i) s.rows)))

pub returns-in-None : goal.returns-in-None
returns-in-None c =
    let s = c.self.inside.state in
    let course = c.in-Some.course.now in
    let h : IsCourse s course = all-among (IsCourse s) c.self.inside.courses.items c.as_slice.result.now course c.as_slice.ensures.value c.in-Some.ensures.among c.self.invariant.followed in
    let at = c.in-Some.ensures.whose in
    let empty = no-keys course.left.keys (λ some. false≢true (c.in-None.ensures.variant.1 some)) in
    rw (← c.self.view_is)
    (none-left s c.self.invariant.kept.rising course h empty
    ∙ (λ i. next_of (given_in (own_of (agent_of s (at.0 i)) (at.1 i))) (names_in (at.2 i) s.rows)))
