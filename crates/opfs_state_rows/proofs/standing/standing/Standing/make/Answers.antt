use Rattle.std.proofs.Common.{ℕ, ◌-◌, ◌*◌, List, [], sym, ap, subst, ◌∙◌}
use Rattle.opfs_base.specs.Texts.{Text}
use Rattle.opfs_tree.specs.Ready.Ready.{ReadyRows}
use Rattle.opfs_machine.specs.declared.state.Limits.{Limits}
use Rattle.opfs_tree.specs.Rows.{Rows}
use Rattle.opfs_state_rows.specs.Standing.Beginnings.{IsBegun}
use Rattle.opfs_state_rows.specs.Standing.Seen.{machine_of}
use Rattle.opfs_state_rows.specs.Standing.Tied.{IsTied}
use Rattle.opfs_state_rows.proofs.standing.Begun.{begun-tied}
use Rattle.opfs_state_rows.proofs.standing.standing.Standing.make.Goals as goal

pub invariant_of-result : goal.invariant_of-result
invariant_of-result c =
    let rows = c.make-tree.result.rows in
    let begun : IsBegun (machine_of rows c.args.shed.buckets c.args.register) c.args.shed c.args.charge =
    subst (λ (x : Rows). IsBegun (machine_of x c.args.shed.buckets c.args.register) c.args.shed c.args.charge) (sym (ap (λ (t : ReadyRows). t.rows) c.make-tree.ensures)) c.requires in
    let tied = begun-tied rows c.args.shed c.shares_of.new.shed c.in-Ok.pool c.args.register c.args.charge begun c.in-Ok.ensures.counted (c.in-Ok.ensures.size ∙ ap (λ (l : Limits). l.blocks) c.limits.ensures) c.know_order.ensures in
    subst (λ (p : List Text). IsTied (machine_of rows c.shares_of.new.shed.buckets c.args.register) c.shares_of.new.shed c.in-Ok.pool (c.args.charge - 8 * c.count.result) p) (sym c.root-root.ensures)
    (subst (λ (n : ℕ). IsTied (machine_of rows c.shares_of.new.shed.buckets c.args.register) c.shares_of.new.shed c.in-Ok.pool (c.args.charge - 8 * n) []) (sym c.count.ensures.count) tied)
