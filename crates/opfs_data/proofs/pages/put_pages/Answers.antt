use Rattle.std.proofs.Common.{◌≡◌, ℕ, ◌+◌, ◌*◌, List, length, sym, ap, subst, ◌∙◌, arith}
use Rattle.opfs_outside.specs.Bytes.{window}
use Rattle.opfs_data.specs.Writes.{PageWrite, Run, writes_of, IsWithin}
use Rattle.opfs_data.specs.Pages.{runs_of}
use Rattle.opfs_data.proofs.CallLemmas.{writes_more, writes_put}
use Rattle.opfs_data.proofs.RunLemmas.{all_at}
use Rattle.opfs_data.proofs.WriteLemmas.{run_lies, run_aside, written_next}
use Rattle.opfs_data.proofs.pages.put_pages.Goals as goal

pub bytes-requires : goal.bytes-requires
bytes-requires g c =
    subst (λ (r : Run). IsWithin c.args.own.now c.args.given.now r) (sym c.run-item.is) (all_at (IsWithin c.args.own.now c.args.given.now) c.args.runs.now c.loop-run.run-index c.run-item.result c.loop-run-test.true c.requires.within)

pub put-requires-clause-lies : goal.put-requires-clause-lies
put-requires-clause-lies g c =
    let at = c.loop-run.invariant in
    let r : Run = c.run-item.result in
    let ws : List PageWrite = writes_of c.args.own.now c.args.given.now c.args.runs.now in
    let n : ℕ = length c.bytes.result.now in
    let there : c.args.base + 4096 * r.block ≡ c.place_of.result = sym (c.place_of.ensures ∙ ap (λ (b : ℕ). c.args.base + 4096 * b) c.block.ensures.block) in
    let lies = run_lies c.args.base (g.D.Disk.size c.args.journal.now.disk) c.args.own.now c.args.given.now c.args.runs.now c.loop-run.run-index r c.run-item.is c.loop-run-test.true (omega (arith, c.bytes.ensures.some, c.bytes.ensures.length)) c.requires.lies in
    omega (arith, lies, there, c.bytes.ensures.length, at.writes.stays.length)

pub returns-in_err-put-clause-writes : goal.returns-in_err-put-clause-writes
returns-in_err-put-clause-writes g c =
    let laws = g.met.D.Disk in
    let at = c.loop-run.invariant in
    let r : Run = c.run-item.result in
    let ws : List PageWrite = writes_of c.args.own.now c.args.given.now c.args.runs.now in
    let n : ℕ = length c.bytes.result.now in
    let there : c.args.base + 4096 * r.block ≡ c.place_of.result = sym (c.place_of.ensures ∙ ap (λ (b : ℕ). c.args.base + 4096 * b) c.block.ensures.block) in
    let b = c.put.ensures in
    writes_more g.D.Disk laws.falls c.args.base (runs_of ws) c.args.journal.now c.loop-run.journal c.put.new.self at.writes
    (writes_put g.D.Disk laws.falls c.args.base (runs_of ws) c.place_of.result n c.loop-run.journal c.put.new.self
    (λ k aside. rw (← there, c.bytes.ensures.length) (run_aside c.args.base k c.args.own.now c.args.given.now c.args.runs.now c.loop-run.run-index r c.run-item.is c.loop-run-test.true aside))
    b.stays b.tail b.format (b.sure ∙ sym (at.sure ∙ c.requires.settled)) b.later b.records b.elsewhere b.time b.moments)

pub loop-run-preserved : goal.loop-run-preserved
loop-run-preserved g c =
    let laws = g.met.D.Disk in
    let at = c.loop-run.invariant in
    let r : Run = c.run-item.result in
    let ws : List PageWrite = writes_of c.args.own.now c.args.given.now c.args.runs.now in
    let n : ℕ = length c.bytes.result.now in
    let there : c.args.base + 4096 * r.block ≡ c.place_of.result = sym (c.place_of.ensures ∙ ap (λ (b : ℕ). c.args.base + 4096 * b) c.block.ensures.block) in
    let b = c.in_ok-put.ensures in
    record {
      sure = b.sure ∙ sym c.requires.settled;
      writes = writes_more g.D.Disk laws.falls c.args.base (runs_of ws) c.args.journal.now c.loop-run.journal c.put.new.self at.writes
          (writes_put g.D.Disk laws.falls c.args.base (runs_of ws) c.place_of.result n c.loop-run.journal c.put.new.self
          (λ k aside. rw (← there, c.bytes.ensures.length) (run_aside c.args.base k c.args.own.now c.args.given.now c.args.runs.now c.loop-run.run-index r c.run-item.is c.loop-run-test.true aside))
          b.stays b.tail b.format (b.sure ∙ sym (at.sure ∙ c.requires.settled)) b.later b.records b.elsewhere b.time b.moments);
      written = λ told.
          written_next (g.D.Disk.content c.loop-run.journal.disk) (g.D.Disk.content c.put.new.self.disk) c.args.base c.args.own.now c.args.given.now c.args.runs.now c.loop-run.run-index r c.run-item.is c.loop-run-test.true c.requires.once
          (subst (λ (x : Run). IsWithin c.args.own.now c.args.given.now x) (sym c.run-item.is) (all_at (IsWithin c.args.own.now c.args.given.now) c.args.runs.now c.loop-run.run-index r c.loop-run-test.true c.requires.within))
          (rw (there, ← c.bytes.ensures.length) (b.elsewhere told))
          (ap (λ (p : ℕ). window (g.D.Disk.content c.put.new.self.disk) p (4096 * r.count)) there ∙ ap (λ (m : ℕ). window (g.D.Disk.content c.put.new.self.disk) c.place_of.result m) (sym c.bytes.ensures.length) ∙ b.written told ∙ c.bytes.ensures.bytes)
          (at.written told);
    }
