use Rattle.std.proofs.Common.{◌≡◌, ℕ, ◌+◌, ◌-◌, ◌/◌, ◌%◌, List, length, refl, sym, subst, ◌∙◌, arith}
use Rattle.opfs_data.proofs.CallLemmas.{reads_more}
use Rattle.opfs_data.specs.Rows.{pages_at}
use Rattle.opfs_pages.specs.Copies.{IsCopy, AreHeld, IsPageOf}
use Rattle.opfs_pages.proofs.PageBytes.{copied_length}
use Rattle.opfs_pages.proofs.Parts.{part_read, whole_begins, all_read}
use Rattle.opfs_pages.proofs.Steps.{held_page}
use Rattle.opfs_pages.proofs.wide.read_bytes.Goals as goal

pub loop-done-preserved : goal.loop-done-preserved
loop-done-preserved g c =
    let laws = g.met.D.Disk in
    let was = c.loop-done.invariant in
    let part = c.copy_part-done.ensures in
    let place : ℕ = c.args.at + c.loop-done.done in
    let held_now : g.D.Disk.tells → (bytes : List ℕ) → AreHeld bytes c.args.source.now.work.now (g.D.Disk.content c.args.journal.now.disk) c.args.source.now.base (pages_at c.args.source.now.agent c.args.source.now.row c.args.source.now.swap.now)
    → AreHeld bytes c.args.source.now.work.now (g.D.Disk.content c.loop-done.journal.disk) c.args.source.now.base (pages_at c.args.source.now.agent c.args.source.now.row c.args.source.now.swap.now) =
    λ told bytes held. subst (λ (x : List ℕ). AreHeld bytes c.args.source.now.work.now x c.args.source.now.base (pages_at c.args.source.now.agent c.args.source.now.row c.args.source.now.swap.now)) (sym (was.reads.told told).same) held in
    let page : g.D.Disk.tells → (bytes : List ℕ) → IsCopy bytes c.args.source.now.work.now → AreHeld bytes c.args.source.now.work.now (g.D.Disk.content c.args.journal.now.disk) c.args.source.now.base (pages_at c.args.source.now.agent c.args.source.now.row c.args.source.now.swap.now)
    → IsPageOf bytes (place / 4096) c.read_page.new.into =
    λ told bytes copy held. c.in_ok-read_page.ensures.read told bytes copy
    (held_page bytes c.args.source.now.work.now (g.D.Disk.content c.loop-done.journal.disk) c.args.source.now.base (pages_at c.args.source.now.agent c.args.source.now.row c.args.source.now.swap.now) (place / 4096) (held_now told bytes held)) in
    record {
      within = omega (arith, part.within, part.size);
      size = part.size ∙ was.size;
      buffer = c.in_ok-read_page.ensures.whole;
      reads = reads_more g.D.Disk laws.falls c.args.journal.now c.loop-done.journal c.read_page.new.journal was.reads c.in_ok-read_page.ensures.reads;
      read = λ told bytes copy held.
          part_read bytes c.read_page.new.into c.loop-done.into c.copy_part-done.new.into c.args.at c.loop-done.done c.copy_part-done.result place (place % 4096) (place / 4096) refl refl refl part.inside
          (omega (arith, part.within, was.size, c.requires.within, copied_length bytes c.args.source.now.work.now copy)) (whole_begins bytes c.read_page.new.into (place / 4096) (page told bytes copy held)) part.copied part.before (was.read told bytes copy held);
      last = λ told bytes copy held some.
          let same : place / 4096 ≡ (c.args.at + (c.loop-done.done + c.copy_part-done.result) - 1) / 4096 = omega (arith, part.some, part.inside) in
          subst (λ (n : ℕ). IsPageOf bytes n c.read_page.new.into) same (page told bytes copy held);
    }

pub returns-clause-read : goal.returns-clause-read
returns-clause-read g c = λ told bytes copy held.
    all_read bytes c.loop-done.into c.args.at c.loop-done.done (length c.args.into.now) c.loop-done.invariant.size (omega (arith, c.loop-done-test.false, c.loop-done.invariant.size))
    (omega (arith, c.requires.within, copied_length bytes c.args.source.now.work.now copy)) (c.loop-done.invariant.read told bytes copy held)

pub returns-clause-last : goal.returns-clause-last
returns-clause-last g c = λ told bytes copy held some.
    let all : c.loop-done.done ≡ length c.args.into.now = omega (arith, c.loop-done-test.false, c.loop-done.invariant.size, c.loop-done.invariant.within) in
    subst (λ (n : ℕ). IsPageOf bytes ((c.args.at + n - 1) / 4096) c.loop-done.buffer) all (c.loop-done.invariant.last told bytes copy held (omega (arith, all, some)))
