use Rattle.std.proofs.Common.{◌∙◌, ap}
use Rattle.opfs_splice.specs.Splicing.{window}
use Rattle.opfs_turns.proofs.asking.Plains.{slice-local}
use Rattle.opfs_agent.proofs.agent.Agent.slice.Goals as goal

pub keep_call-requires-clause-local : goal.keep_call-requires-clause-local
keep_call-requires-clause-local g c =
    slice-local g.S.Store.tells c.args.self.now c.know_kept.ensures (record { row = c.snapshot.inside.row; bytes = c.snapshot.inside.bytes; stamp = c.snapshot.inside.stamp }) c.args.at c.args.len c.in-Ok-copy.told
    (rw (← c.snapshot.view_is) at c.requires.snapshot) (c.in-Ok-copy.ensures ∙ c.in-Ok.ensures ∙ ap (λ b. window b c.args.at c.args.len) c.as_slice.ensures)
