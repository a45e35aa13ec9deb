use Rattle.std.proofs.Common.{◌≡◌, ◌+◌, inl, inr, refl, ap, arith}
use Rattle.std.specs.Prelude.{List, ℕ}
use Rattle.std.proofs.lemmas.Result.{err_from_is_err_and}
use Rattle.opfs_journal.specs.Format.{begin_of}
use Rattle.opfs_journal.proofs.Chains.{walks_le}
use Rattle.opfs_journal.proofs.Choices.{chosen_told, chosen_bad, chosen_short}
use Rattle.opfs_journal.proofs.reader.read_ruling.Goals as goal

pub returns-then-areas-head-clause-bad : goal.returns-then-areas-head-clause-bad
returns-then-areas-head-clause-bad g c =
    let a = c.args.areas in
    let head = c.args.head in
    let other = c.args.other in
    rw c.begin-begin.ensures (inr (begin_of a c.args.second, refl, λ told. chosen_short a c.args.second head.open head.len head.generation other.open other.len other.generation (g.D.Disk.content c.args.disk.now) (record { opened = c.requires.open; good = c.requires.good; other_good = c.requires.other_good; rules = c.requires.rules }) (c.requires.head_is told) (c.requires.other_is told) c.if-areas-head.true (omega (arith, c.requires.least))))

pub overflow_sub-result : goal.overflow_sub-result
overflow_sub-result g c = omega (arith, c.in_ok-tail.ensures.above)

pub returns-in_err-tail-clause-bad : goal.returns-in_err-tail-clause-bad
returns-in_err-tail-clause-bad g c =
    let a = c.args.areas in
    let head = c.args.head in
    let other = c.args.other in
    let p = err_from_is_err_and c.from_residual.result c.from_residual.ensures.1 in
    rw (p.1, p.2) (elim c.in_err-tail.ensures.bad [
      | inl fault ↦ inl fault
      | inr found ↦ inr (
        found.0,
        found.1,
        λ told.
            let bad = rw c.begin-begin.ensures at (found.2 told) in
            chosen_bad a c.args.second head.open head.len head.generation other.open other.len other.generation (g.D.Disk.content c.args.disk.now) (record { opened = c.requires.open; good = c.requires.good; other_good = c.requires.other_good; rules = c.requires.rules }) (c.requires.head_is told) (c.requires.other_is told) (begin_of a c.args.second + 5 + head.len) found.0 refl bad
            (omega (arith, walks_le (g.D.Disk.content c.args.disk.now) (begin_of a c.args.second + 5 + head.len) bad.leads.bodies found.0 bad.leads.walks)),
      )
    ])

pub returns-clause-told : goal.returns-clause-told
returns-clause-told g c = λ told.
    let a = c.args.areas in
    let head = c.args.head in
    let other = c.args.other in
    let at = c.begin-begin.ensures in
    let same = (c.walk.ensures.only.told told).same in
    let content = g.D.Disk.content c.args.disk.now in
    let now : List ℕ → Type 0 = λ i. g.D.Disk.since c.walk.new.disk (g.D.Disk.moment c.walk.new.disk) i in
    let laws = g.met.D.Disk in
    let left : (i : List ℕ) → now i → i ≡ content = λ i is.
    c.requires.durable told i ((c.walk.ensures.only.told told).moments i (laws.falls told c.walk.new.disk (g.D.Disk.moment c.args.disk.now) (g.D.Disk.moment c.walk.new.disk) i (c.walk.ensures.only.told told).time.later is)) in
    rw (at, same) (chosen_told a c.args.second head.open head.len head.generation other.open other.len other.generation (g.D.Disk.content c.args.disk.now) (record { opened = c.requires.open; good = c.requires.good; other_good = c.requires.other_good; rules = c.requires.rules }) (c.requires.head_is told) (c.requires.other_is told) now c.in_ok-tail.tail (c.begin-begin.result + 5 + head.len) (ap (λ x. x + 5 + head.len) at) (c.in_ok-tail.ensures.leads told) (c.in_ok-tail.ensures.shut told)
    (omega (arith, c.in_ok-tail.ensures.above, at)) (omega (arith, c.in_ok-tail.ensures.within, at)) left)
