use Rattle.std.proofs.Common.{ap, sym, ◌∙◌, ◌+◌, arith}
use Rattle.opfs_work.specs.Works.{WorkingCopy}
use Rattle.opfs_pages.proofs.Left.{IsDone, left_written}
use Rattle.opfs_pages.proofs.leaving.leave_write.Goals as goal

pub returns-clause-copy : goal.returns-clause-copy
returns-clause-copy c = λ old given len is.
    let d : IsDone c.args.work.now c.forget_touched.new.work c.settle.new.self c.resize_far.new.self c.min.result (c.args.at + c.args.len) c.max.result = record {
      pages = sym c.pages-pages.ensures.pages ∙ c.pages-pages.ensures.blocks;
      forgot = c.forget_touched.ensures.far;
      others = c.forget_touched.ensures.others;
      settled = c.settle.ensures.pages;
      lengths = c.settle.ensures.size ∙ c.forget_touched.ensures.length;
      bytes = c.resize_far.ensures.bytes;
      far = c.resize_far.ensures.far;
      size_is = ap (λ (w : WorkingCopy). w.length) c.resize_far.ensures.rest;
    } in
    left_written old given c.args.work.now c.forget_touched.new.work c.settle.new.self c.resize_far.new.self c.args.at c.args.len c.min.result (c.args.at + c.args.len) c.max.result len
    (omega (arith, c.min.ensures, c.size-size.ensures)) (omega arith) (omega (arith, c.max.ensures, c.size-size.ensures)) d is
