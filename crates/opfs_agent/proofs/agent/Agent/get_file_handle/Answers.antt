use Rattle.std.proofs.Common.{sym, ap, ◌∙◌}
use Rattle.std.proofs.lemmas.Bool.{true≢false}
use Rattle.opfs_base.specs.Names.{is_valid_name}
use Rattle.opfs_turns.proofs.asking.Answered.{named-file, none-there}
use Rattle.opfs_agent.proofs.agent.Agent.get_file_handle.Goals as goal

pub unreachable-requires : goal.unreachable-requires
unreachable-requires g c =
    let named = named-file g.S.Store.tells c.args.self.now c.ask_done.new.self c.in-Ok-place.dir c.in-Ok-place.name c.args.create _ _ c.in_ok-ask_done.ensures in
    true≢false (sym (ap is_valid_name (sym c.in-Ok-place.ensures.1) ∙ named) ∙ none-there c.in-Ok.child _ _ c.in-Ok.ensures c.in_default-child.is)
