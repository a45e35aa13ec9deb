use Rattle.std.proofs.Common.{◌≡◌, false, sum_by, ap, ◌∙◌, arith}
use Rattle.opfs_tree.specs.Rows.{rows_within, present_blocks, durable_blocks}
use Rattle.opfs_tree.specs.Sums.{row_charge, entries_within}
use Rattle.opfs_tree.specs.Ready.Ready.{ReadyRows, ready_within}
use Rattle.opfs_tree.proofs.ready.Kept.{within-shown, entries-shown}
use Rattle.opfs_tree.proofs.ready.ready.ReadyTree.sums_below.Goals as goal

pub sums_below-requires-clause-present : goal.sums_below-requires-clause-present
sums_below-requires-clause-present c =
    let apart : ready_within (c.args.key.now, c.args.path.now) c.self.inside.ready ≡ false = ap (λ (s : ReadyRows). ready_within (c.args.key.now, c.args.path.now) s.ready) c.self.view_is ∙ c.requires.ready in
    let same = ap (sum_by present_blocks) (within-shown (c.args.key.now, c.args.path.now) c.self.inside.ready c.self.inside.tree c.self.invariant apart ∙ ap (λ (s : ReadyRows). rows_within (c.args.key.now, c.args.path.now) s.rows) c.self.view_is) in
    omega (arith, c.requires.present, same)

pub sums_below-requires-clause-durable : goal.sums_below-requires-clause-durable
sums_below-requires-clause-durable c =
    let apart : ready_within (c.args.key.now, c.args.path.now) c.self.inside.ready ≡ false = ap (λ (s : ReadyRows). ready_within (c.args.key.now, c.args.path.now) s.ready) c.self.view_is ∙ c.requires.ready in
    let same = ap (sum_by durable_blocks) (within-shown (c.args.key.now, c.args.path.now) c.self.inside.ready c.self.inside.tree c.self.invariant apart ∙ ap (λ (s : ReadyRows). rows_within (c.args.key.now, c.args.path.now) s.rows) c.self.view_is) in
    omega (arith, c.requires.durable, same)

pub sums_below-requires-clause-charge : goal.sums_below-requires-clause-charge
sums_below-requires-clause-charge c =
    let apart : ready_within (c.args.key.now, c.args.path.now) c.self.inside.ready ≡ false = ap (λ (s : ReadyRows). ready_within (c.args.key.now, c.args.path.now) s.ready) c.self.view_is ∙ c.requires.ready in
    let same = ap (sum_by row_charge) (entries-shown (c.args.key.now, c.args.path.now) c.self.inside.ready c.self.inside.tree c.self.invariant apart ∙ ap (λ (s : ReadyRows). entries_within (c.args.key.now, c.args.path.now) s.rows) c.self.view_is) in
    omega (arith, c.requires.charge, same)

pub returns-clause-present : goal.returns-clause-present
returns-clause-present c =
    let apart : ready_within (c.args.key.now, c.args.path.now) c.self.inside.ready ≡ false = ap (λ (s : ReadyRows). ready_within (c.args.key.now, c.args.path.now) s.ready) c.self.view_is ∙ c.requires.ready in
    let same = ap (sum_by present_blocks) (within-shown (c.args.key.now, c.args.path.now) c.self.inside.ready c.self.inside.tree c.self.invariant apart ∙ ap (λ (s : ReadyRows). rows_within (c.args.key.now, c.args.path.now) s.rows) c.self.view_is) in
    c.sums_below.ensures.present ∙ same

pub returns-clause-durable : goal.returns-clause-durable
returns-clause-durable c =
    let apart : ready_within (c.args.key.now, c.args.path.now) c.self.inside.ready ≡ false = ap (λ (s : ReadyRows). ready_within (c.args.key.now, c.args.path.now) s.ready) c.self.view_is ∙ c.requires.ready in
    let same = ap (sum_by durable_blocks) (within-shown (c.args.key.now, c.args.path.now) c.self.inside.ready c.self.inside.tree c.self.invariant apart ∙ ap (λ (s : ReadyRows). rows_within (c.args.key.now, c.args.path.now) s.rows) c.self.view_is) in
    c.sums_below.ensures.durable ∙ same

pub returns-clause-charge : goal.returns-clause-charge
returns-clause-charge c =
    let apart : ready_within (c.args.key.now, c.args.path.now) c.self.inside.ready ≡ false = ap (λ (s : ReadyRows). ready_within (c.args.key.now, c.args.path.now) s.ready) c.self.view_is ∙ c.requires.ready in
    let same = ap (sum_by row_charge) (entries-shown (c.args.key.now, c.args.path.now) c.self.inside.ready c.self.inside.tree c.self.invariant apart ∙ ap (λ (s : ReadyRows). entries_within (c.args.key.now, c.args.path.now) s.rows) c.self.view_is) in
    c.sums_below.ensures.charge ∙ same
