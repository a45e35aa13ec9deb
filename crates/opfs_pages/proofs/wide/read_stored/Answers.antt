use Rattle.std.proofs.Common.{ℕ, ◌+◌, ◌/◌, ◌%◌, List, length, refl, sym, subst, ◌∙◌, arith}
use Rattle.opfs_data.proofs.CallLemmas.{reads_more}
use Rattle.opfs_data.specs.Pages.{page_of}
use Rattle.opfs_data.specs.Rows.{page_at}
use Rattle.opfs_pages.specs.Copies.{IsBegun}
use Rattle.opfs_pages.proofs.Parts.{part_read, all_read}
use Rattle.opfs_pages.proofs.wide.read_stored.Goals as goal

pub loop-done-preserved : goal.loop-done-preserved
loop-done-preserved g c =
    let laws = g.met.D.Disk in
    let was = c.loop-done.invariant in
    let part = c.copy_part-done.ensures in
    let place : ℕ = c.args.at + c.loop-done.done in
    record {
      within = omega (arith, part.within, part.size);
      size = part.size ∙ was.size;
      buffer = c.read.auto.into ∙ was.buffer;
      reads = reads_more g.D.Disk laws.falls c.args.journal.now c.loop-done.journal c.read.new.journal was.reads c.in_ok-read.ensures.reads;
      read = λ told bytes within held.
          let begun : IsBegun bytes (place / 4096) c.read.new.into =
          subst (λ (x : List ℕ). IsBegun bytes (place / 4096) x) (sym (c.in_ok-read.ensures.read told))
          (subst (λ (x : List ℕ). IsBegun bytes (place / 4096) (page_of x c.args.stored.now.base (page_at c.args.stored.now.agent c.args.stored.now.row (place / 4096) c.args.stored.now.swap.now))) (sym (was.reads.told told).same) (held (place / 4096) (omega (arith, c.loop-done-test.true, was.size, within)))) in
          part_read bytes c.read.new.into c.loop-done.into c.copy_part-done.new.into c.args.at c.loop-done.done c.copy_part-done.result place (place % 4096) (place / 4096) refl refl refl part.inside
          (omega (arith, part.within, was.size, within)) begun part.copied part.before (was.read told bytes within held);
    }

pub returns-clause-read : goal.returns-clause-read
returns-clause-read g c = λ told bytes within held.
    all_read bytes c.loop-done.into c.args.at c.loop-done.done (length c.args.into.now) c.loop-done.invariant.size (omega (arith, c.loop-done-test.false, c.loop-done.invariant.size)) within (c.loop-done.invariant.read told bytes within held)
