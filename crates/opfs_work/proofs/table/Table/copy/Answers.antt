use Rattle.std.proofs.Common.{arith, sym, ap, ◌∙◌, ℕ, ◌+◌, ◌*◌, min, length}
use Rattle.std.proofs.lemmas.Bool.{eqb-true}
use Rattle.opfs_base.specs.Blocks.{blocks}
use Rattle.opfs_work.specs.Pages.{near_count}
use Rattle.opfs_work.proofs.Copying.{added-none, added-some, part_of, part_whole, part_few, copied_more, counted_all, not_empty}
use Rattle.opfs_work.proofs.table.Table.copy.Goals as goal

pub returns-then-is_empty-clause-count : goal.returns-then-is_empty-clause-count
returns-then-is_empty-clause-count c =
    omega (arith, added-none c.args.self.now.pages c.args.at (length c.args.given.now) (eqb-true (length c.args.given.now) 0 (sym c.is_empty.ensures ∙ c.if-is_empty.true)))

pub write-requires-clause-whole : goal.write-requires-clause-whole
write-requires-clause-whole c =
    let some = not_empty (length c.args.given.now) c.is_empty.result c.is_empty.ensures c.if-is_empty.false in
    let part =
    part_of c.args.at c.loop-page.page c.max-from.result c.min-to.result c.args.given.now some c.loop-page.auto.page (omega (arith, c.loop-page-test.true, c.blocks-page-end.ensures)) c.max-from.ensures (c.min-to.ensures ∙ ap (λ (n : ℕ). min (c.args.at + n) (4096 * c.loop-page.page + 4096)) c.len.ensures) in
    part_whole _ _ _ _ _ _ _ _ c.loop-page.invariant part c.requires.whole

pub write-requires-clause-few : goal.write-requires-clause-few
write-requires-clause-few c =
    let some = not_empty (length c.args.given.now) c.is_empty.result c.is_empty.ensures c.if-is_empty.false in
    let part =
    part_of c.args.at c.loop-page.page c.max-from.result c.min-to.result c.args.given.now some c.loop-page.auto.page (omega (arith, c.loop-page-test.true, c.blocks-page-end.ensures)) c.max-from.ensures (c.min-to.ensures ∙ ap (λ (n : ℕ). min (c.args.at + n) (4096 * c.loop-page.page + 4096)) c.len.ensures) in
    part_few _ _ _ _ _ _ _ _ c.loop-page.invariant part (omega (arith, c.requires.few, added-some c.args.self.now.pages c.args.at (length c.args.given.now) some))

pub loop-page-preserved : goal.loop-page-preserved
loop-page-preserved c =
    let some = not_empty (length c.args.given.now) c.is_empty.result c.is_empty.ensures c.if-is_empty.false in
    let part =
    part_of c.args.at c.loop-page.page c.max-from.result c.min-to.result c.args.given.now some c.loop-page.auto.page (omega (arith, c.loop-page-test.true, c.blocks-page-end.ensures)) c.max-from.ensures (c.min-to.ensures ∙ ap (λ (n : ℕ). min (c.args.at + n) (4096 * c.loop-page.page + 4096)) c.len.ensures) in
    copied_more _ _ _ _ _ _ _ _ _ c.loop-page.invariant part
    record {
      lengths = c.write.ensures.length;
      room = c.write.ensures.room;
      inside = c.write.ensures.inside;
      before = c.write.ensures.before;
      behind = c.write.ensures.behind;
      changed = c.write.ensures.changed;
      others = c.write.ensures.others;
      count = c.write.ensures.count;
    }

pub returns-clause-count : goal.returns-clause-count
returns-clause-count c =
    let some = not_empty (length c.args.given.now) c.is_empty.result c.is_empty.ensures c.if-is_empty.false in
    omega (
      arith,
      added-some c.args.self.now.pages c.args.at (length c.args.given.now) some,
      counted_all c.args.self.now.pages c.loop-page.page (blocks (c.args.at + length c.args.given.now)) (near_count c.loop-page.self.pages) _ (omega (arith, c.loop-page-test.false, c.blocks-page-end.ensures)) c.loop-page.invariant.count,
    )
