use Rattle.std.proofs.Common.{◌≡◌, ◌+◌, ◌-◌, ◌/◌, ◌∙◌, ℕ, min, length, subst, arith}
use Rattle.opfs_pages.specs.Copies.{IsPageOf}
use Rattle.std.proofs.lemmas.Grind.{common_steps}
use Rattle.opfs_splice.specs.Splicing.{window}
use Rattle.opfs_pages.proofs.PageBytes.{copied_length}
use Rattle.opfs_pages.proofs.row_calls.Windows.{window-cut}
use Rattle.opfs_pages.proofs.row_calls.reads.read_row.Goals as goal

pub returns-clause-read : goal.returns-clause-read
returns-clause-read g c = λ told b copy held.
    let read = c.in_ok-read_bytes.ensures.read told b copy held in
    let got : c.from_vec.result ≡ window b c.min-start.result c.min-len.result = grind (arith, common_steps, read, c.in_ok-bytes.ensures, c.deref_mut.ensures.writes_back, c.deref_mut.ensures.value, c.from_vec.ensures) in
    let size : length b ≡ c.args.source.now.work.now.length = copied_length b c.args.source.now.work.now copy in
    got ∙ window-cut b c.args.at c.args.len c.min-start.result c.min-len.result (omega (arith, c.min-start.ensures, c.size-size.ensures, size)) (omega (arith, c.min-len.ensures, c.size-size.ensures, size))

pub returns-clause-last : goal.returns-clause-last
returns-clause-last g c = λ told b copy held some.
    let count : c.min-len.result ≡ min c.args.len (c.args.source.now.work.now.length - c.args.at) = omega (arith, c.min-start.ensures, c.min-len.ensures, c.size-size.ensures) in
    let many : length c.deref_mut.result.now ≡ c.min-len.result = grind (arith, common_steps, c.in_ok-bytes.ensures, c.deref_mut.ensures.value) in
    let same : (c.min-start.result + length c.deref_mut.result.now - 1) / 4096 ≡ (c.args.at + min c.args.len (c.args.source.now.work.now.length - c.args.at) - 1) / 4096 = omega (arith, many, count, some, c.min-start.ensures, c.size-size.ensures) in
    subst (λ (n : ℕ). IsPageOf b n c.read_bytes.new.buffer) same (c.in_ok-read_bytes.ensures.last told b copy held (omega (arith, many, count, some)))
