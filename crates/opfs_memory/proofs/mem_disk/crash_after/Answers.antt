use Rattle.std.proofs.Common.{◌≡◌, ◌+◌, ◌-◌, cond, length, take, drop, sym, ◌∙◌, ap, arith}
use Rattle.opfs_outside.specs.Bytes.{window}
use Rattle.opfs_outside.specs.Windows.{length-window, window_is}
use Rattle.opfs_memory.specs.Drives.{over}
use Rattle.opfs_memory.proofs.Crashes.{crash_write}
use Rattle.opfs_memory.proofs.Keeping.{is_over}
use Rattle.opfs_memory.proofs.mem_disk.crash_after.Goals as goal
use Rattle.opfs_memory.proofs.mem_disk.crash_after.Goals.{then-done, else-done}

pub returns-after-done : goal.returns-after-done
returns-after-done c = λ p same image.
    let at = c.in-Write.at in
    let start = c.in-Write.start in
    let len = c.in-Write.len in
    let inside = rw c.in-Write.is at c.requires.inside in
    let count : at + len - at ≡ len = omega arith in
    let part = window c.args.bytes.now start len in
    rw c.in-Write.is (record {
      reads = elim c.if-done.branch [
        | then-done w ↦
            let written : take (start + len - start) (drop start c.args.bytes.now) ≡ part =
            ap (λ n. take n (drop start c.args.bytes.now)) (omega arith) ∙ sym (window_is c.args.bytes.now start len inside.0) in
            w.content-is ∙ is_over at (take (start + len - start) (drop start c.args.bytes.now)) c.args.content.now w.overwrite.new.all (omega (arith, inside.1, ap length written, length-window c.args.bytes.now start len)) w.overwrite.ensures
            ∙ ap (λ b. over c.args.content.now at b) written ∙ ap (λ x. over x at part) same ∙ sym (ap (λ d. cond d (over p.content at part) p.content) w.if-done.true)
        | else-done w ↦ w.content-is ∙ same ∙ sym (ap (λ d. cond d (over p.content at part) p.content) w.if-done.false)
      ];
      leaves = crash_write p c.args.choice.now c.args.image.now c.overwrite-in-Write.new.all _ at len part c.in-Write.done (length-window c.args.bytes.now start len) (omega (arith, inside.1, c.requires.whole))
          (ap (λ n. take n (drop at c.args.choice.now)) count) c.overwrite-in-Write.ensures image;
    })
