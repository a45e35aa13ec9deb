use Rattle.std.proofs.Common.{arith, ap, ◌∙◌, refl, List, ◌++◌, map, ℕ, ◌+◌}
use Rattle.std.specs.List.{range_with_len}
use Rattle.opfs_work.specs.Pages.{byte_at}
use Rattle.opfs_work.proofs.Reading.{run-append}
use Rattle.opfs_work.proofs.table.Table.copy_out.Goals as goal

pub loop-done-preserved : goal.loop-done-preserved
loop-done-preserved c = (
  omega (arith, c.min-part.ensures),
  c.in_ok-append.ensures ∙ ap (λ (xs : List ℕ). xs ++ map (byte_at (λ _. 0) c.args.self.now.pages) (range_with_len (c.args.from + c.loop-done.done) c.min-part.result)) c.loop-done.invariant.1
      ∙ run-append (byte_at (λ _. 0) c.args.self.now.pages) c.loop-done.done c.args.from (c.args.from + c.loop-done.done) c.min-part.result (c.loop-done.done + c.min-part.result) refl refl,
)
