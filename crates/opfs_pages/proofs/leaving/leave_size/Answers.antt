use Rattle.std.proofs.Common.{ap, sym, ◌∙◌}
use Rattle.opfs_work.specs.Works.{WorkingCopy}
use Rattle.opfs_pages.proofs.Left.{IsDone, left_resized}
use Rattle.opfs_pages.proofs.leaving.leave_size.Goals as goal

pub returns-clause-copy : goal.returns-clause-copy
returns-clause-copy c = λ old is.
    let d : IsDone c.args.work.now c.forget_touched.new.work c.settle.new.self c.resize_far.new.self c.size.result c.args.size c.args.size = record {
      pages = sym c.pages-pages.ensures.pages ∙ c.pages-pages.ensures.blocks;
      forgot = c.forget_touched.ensures.far;
      others = c.forget_touched.ensures.others;
      settled = c.settle.ensures.pages;
      lengths = c.settle.ensures.size ∙ c.forget_touched.ensures.length;
      bytes = c.resize_far.ensures.bytes;
      far = c.resize_far.ensures.far;
      size_is = ap (λ (w : WorkingCopy). w.length) c.resize_far.ensures.rest;
    } in
    left_resized old c.args.work.now c.forget_touched.new.work c.settle.new.self c.resize_far.new.self c.size.result c.args.size c.size.ensures d is
