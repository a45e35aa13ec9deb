use Rattle.std.specs.Vec.{vec_capacity}
use Rattle.std.proofs.Common.{◌≡◌, ℕ, ◌<◌, ◌^◌, ◌≤◌, length, refl, sym, ap, subst, ◌∙◌, arith}
use Rattle.opfs_base.specs.Blocks.{blocks}
use Rattle.opfs_blocks.specs.Sets.{AreBelow}
use Rattle.opfs_records.specs.Replay.Built.{named}
use Rattle.opfs_tree.specs.Rows.{Rows as Tree}
use Rattle.opfs_desk_contents.proofs.planning.plan_content.Goals as goal

pub plan_put-requires : goal.plan_put-requires
plan_put-requires g c = record {
  may =
      let may = c.requires.may in
      let p = c.args.parts.now.pages in
      record {
        size = subst (λ (n : ℕ). n < 2 ^ 63) (sym c.size-size.ensures) may.small;
        stays = omega arith;
        there = may.opened;
        lies = may.inside.lies c.args.agent c.args.row;
        ready = may.ready;
        files = subst (λ (t : Tree). AreBelow (length p.space.used) (named t)) (sym (ap (λ x. x.rows) c.tree.ensures)) may.inside.files;
      };
}

pub returns-in_err-put-clause-left : goal.returns-in_err-put-clause-left
returns-in_err-put-clause-left g c = record {
  books = refl;
  freed = refl;
  base = refl;
  reads = c.plan_put.ensures.left.reads;
  pages = c.plan_put.ensures.left.pages;
  spaced = rw c.tree.ensures at c.plan_put.ensures.left.spaced;
}

pub returns-in_err-place-clause-left : goal.returns-in_err-place-clause-left
returns-in_err-place-clause-left g c = record {
  books = refl;
  freed = refl;
  base = refl;
  reads = c.plan_put.ensures.left.reads;
  pages = c.plan_put.ensures.left.pages;
  spaced = rw c.tree.ensures at c.plan_put.ensures.left.spaced;
}

pub returns-in_err-runs-clause-left : goal.returns-in_err-runs-clause-left
returns-in_err-runs-clause-left g c = record {
  books = refl;
  freed = refl;
  base = refl;
  reads = c.plan_put.ensures.left.reads;
  pages = c.plan_put.ensures.left.pages;
  spaced = rw c.tree.ensures at c.plan_put.ensures.left.spaced;
}

pub returns-in_err-copy-clause-left : goal.returns-in_err-copy-clause-left
returns-in_err-copy-clause-left g c = record {
  books = refl;
  freed = refl;
  base = refl;
  reads = c.plan_put.ensures.left.reads;
  pages = c.plan_put.ensures.left.pages;
  spaced = rw c.tree.ensures at c.plan_put.ensures.left.spaced;
}

pub returns-clause-left : goal.returns-clause-left
returns-clause-left g c = record {
  books = refl;
  freed = refl;
  base = refl;
  reads = c.plan_put.ensures.left.reads;
  pages = c.plan_put.ensures.left.pages;
  spaced = rw c.tree.ensures at c.plan_put.ensures.left.spaced;
}

pub returns-clause-planned : goal.returns-clause-planned
returns-clause-planned g c =
    let planned = c.in_ok-put.ensures.planned in
    let inside = c.requires.may.inside in
    let count : c.in_ok-put.put.pages ≡ blocks c.args.work.now.length = planned.count ∙ ap blocks c.size-size.ensures in
    record {
      staged = rw c.size-size.ensures at planned.staged;
      ready = rw c.size-size.ensures at planned.ready;
      count = count;
      gotten = λ m recorded was. (rw (c.tree.ensures, c.size-size.ensures) at planned.gotten) m recorded was inside.end inside.few;
      file = c.in_ok-place.ensures;
      empty = c.in_ok-runs.ensures.empty;
      none = c.in_ok-copy.ensures.empty;
      room = subst (λ (n : ℕ). n ≤ vec_capacity c.in_ok-runs.runs) count c.in_ok-runs.ensures.room;
      space = subst (λ (n : ℕ). n ≤ vec_capacity c.in_ok-copy.copy) count c.in_ok-copy.ensures.room;
    }
