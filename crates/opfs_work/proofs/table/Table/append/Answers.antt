use Rattle.std.proofs.Common.{sym, ap, ◌∙◌, refl, List, ◌++◌, ℕ}
use Rattle.opfs_work.proofs.Reading.{near_part, zero_part}
use Rattle.opfs_work.proofs.table.Table.append.Goals as goal

pub returns-in_ok-extend_from_slice-in-Some : goal.returns-in_ok-extend_from_slice-in-Some
returns-in_ok-extend_from_slice-in-Some c =
    c.in_ok-extend_from_slice-in-Some.ensures.items ∙ ap (λ (xs : List ℕ). c.args.bytes.now.items ++ xs) (near_part c.args.self.now.pages c.args.place c.args.part c.in-Some.page.now c.in-Some.ensures.bytes c.in-Some.ensures.length c.requires)

pub returns-in_ok-append_zeros-in-None : goal.returns-in_ok-append_zeros-in-None
returns-in_ok-append_zeros-in-None c =
    c.in_ok-append_zeros-in-None.ensures ∙ ap (λ (xs : List ℕ). c.args.bytes.now.items ++ xs) (zero_part c.args.self.now.pages c.args.place c.args.part _ refl (sym c.in-None.ensures.near) c.requires)
