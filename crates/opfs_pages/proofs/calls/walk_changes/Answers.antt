use Rattle.std.proofs.Common.{ℕ, ◌<◌, length, sym, subst, ◌∙◌, arith}
use Rattle.opfs_base.specs.Blocks.{blocks}
use Rattle.opfs_data.proofs.CallLemmas.{reads_more}
use Rattle.opfs_pages.specs.Stages.{Stage, stage_of, IsUnwritten, IsWhole}
use Rattle.opfs_pages.proofs.Steps.{stages_read, walked}
use Rattle.opfs_pages.proofs.calls.walk_changes.Goals as goal

pub returns-clause-staged : goal.returns-clause-staged
returns-clause-staged g c =
    let laws = g.met.D.Disk in
    let s : Stage = stage_of c.args.source.now c.args.put.now (g.D.Disk.content c.args.journal.now.disk) in
    let k = c.changed_pages-begins in
    let t = c.touched_pages-first in
    let one = c.in_ok-stage_range.ensures in
    let two = c.in_ok-stage_range-2.ensures in
    let three = c.in_ok-stage_range-3.ensures in
    let both = reads_more g.D.Disk laws.falls c.args.journal.now c.stage_range.new.journal c.stage_range-2.new.journal one.reads two.reads in
    walked g.D.Disk.tells s k.result.0 k.result.1 t.result.0 t.result.1 c.min-from.result c.max-mid.result c.min-next.result c.max-to.result (blocks c.args.put.now.size) c.args.writes.now c.stage_range.new.writes c.stage_range-2.new.writes c.stage_range-3.new.writes
    (sym c.pages-pages.ensures.pages ∙ c.pages-pages.ensures.blocks)
    (record {
      from_is = c.min-from.ensures;
      mid_is = omega (arith, c.max-mid.ensures, c.min.ensures);
      next_is = omega (arith, c.min-next.ensures, c.max.ensures, c.blocks-end.ensures);
      to_is = omega (arith, c.max-to.ensures, c.min-2.ensures, c.blocks-end.ensures);
      order = t.ensures.order;
      within = t.ensures.within;
    })
    (λ i below apart. let inside : i < c.blocks-end.result = omega (arith, below, c.blocks-end.ensures) in record { stored = k.ensures.stored i inside apart; plain = k.ensures.plain i inside apart })
    (λ i below. subst (λ (n : ℕ). IsUnwritten c.args.put.now.at (length c.args.put.now.given.now) i × IsWhole n c.args.put.now.size i × (i < blocks n)) c.size.ensures (t.ensures.before i below))
    (λ i above below. subst (λ (n : ℕ). IsUnwritten c.args.put.now.at (length c.args.put.now.given.now) i × IsWhole n c.args.put.now.size i × (i < blocks n)) c.size.ensures (t.ensures.behind i above below))
    one.staged
    (stages_read g.D.Disk.tells s (g.D.Disk.content c.stage_range.new.journal.disk) t.result.0 t.result.1 c.stage_range.new.writes c.stage_range-2.new.writes (λ told. (one.reads.told told).same) two.staged)
    (stages_read g.D.Disk.tells s (g.D.Disk.content c.stage_range-2.new.journal.disk) c.min-next.result c.max-to.result c.stage_range-2.new.writes c.stage_range-3.new.writes (λ told. (both.told told).same) three.staged)
