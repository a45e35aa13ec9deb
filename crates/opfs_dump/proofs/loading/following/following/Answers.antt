use Rattle.std.proofs.Common.{◌≡◌, Bool, true, false, sym, subst, ◌∙◌}
use Rattle.std.specs.Prelude.{map, MatchResult}
use Rattle.opfs_dump.specs.Text.Seen.{row_of}
use Rattle.opfs_dump.specs.declared.loading.fault.Fault.TheVariants.{Form}
use Rattle.opfs_dump.proofs.loading.Orders.{not_behind, not_unit, follows_as}
use Rattle.opfs_dump.proofs.loading.following.following.Goals as goal

pub returns-then-not-is_behind : goal.returns-then-not-is_behind
returns-then-not-is_behind c = λ form. not_behind (map row_of c.args.rows.now) (row_of c.args.row) (sym c.is_behind.ensures ∙ c.if-not-is_behind.true)

pub returns-then-not-is_unit : goal.returns-then-not-is_unit
returns-then-not-is_unit c = λ form. not_unit (map row_of c.args.rows.now) (row_of c.args.row) (sym c.is_unit.ensures ∙ c.if-not-is_unit.true)

pub returns : goal.returns
returns c =
    let same = follows_as (map row_of c.args.rows.now) (row_of c.args.row) c.args.tree.now c.requires (sym c.is_behind.ensures ∙ c.if-not-is_behind.false) (sym c.is_unit.ensures ∙ c.if-not-is_unit.false) in
    subst (λ (b : Bool). MatchResult c.placed.result (λ x. (row_of x ≡ row_of c.args.row) × (b ≡ true)) (λ fault. fault ≡ Form → b ≡ false)) (sym same) c.placed.ensures
