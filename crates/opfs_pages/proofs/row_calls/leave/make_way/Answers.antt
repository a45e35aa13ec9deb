use Rattle.std.proofs.Common.{◌≡◌, arith}
use Rattle.opfs_work.specs.Pages.{near_count}
use Rattle.opfs_pages.proofs.row_calls.Ways.{none-near}
use Rattle.opfs_pages.proofs.row_calls.leave.make_way.Goals as goal

pub returns-clause-few : goal.returns-clause-few
returns-clause-few c =
    let none : near_count c.forget.new.self.pages ≡ 0 = none-near c.forget.new.self.pages (λ k within. c.forget.ensures.far k (omega arith) (omega (arith, within, c.forget.ensures.size, c.pages-pages.ensures.pages))) in
    omega (arith, none)
