use Rattle.std.proofs.Common.{◌≡◌, ◌||◌, ◌&&◌, not, drop}
use Rattle.std.specs.List.{list_any}
use Rattle.opfs_base.specs.Texts.{Text, same_text}
use Rattle.opfs_rulings.specs.Courses.{has, names_in}
use Rattle.opfs_rulings.proofs.course.left_of.Given as goal

abbrev pub invariant-loop-entry : goal.invariant-loop-entry
invariant-loop-entry l =
    (x : Text) → (has l.left x || (list_any (same_text x) (names_in l.dir (drop l.entry-index l.rows)) && not (has l.given x))) ≡ (list_any (same_text x) (names_in l.dir l.rows) && not (has l.given x))
