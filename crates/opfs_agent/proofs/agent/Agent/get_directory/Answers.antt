use Rattle.std.proofs.Common.{◌∙◌, ap}
use Rattle.opfs_hist.specs.declared.reply.Reply.TheVariants as reply
use Rattle.std.proofs.Common.{◌≡◌}
use Rattle.opfs_agent.specs.Entries.{root_of}
use Rattle.opfs_agent.proofs.Taking.{root-key}
use Rattle.opfs_agent.proofs.agent.Agent.get_directory.Goals as goal

pub unreachable-requires : goal.unreachable-requires
unreachable-requires g c =
    let found = root-key {T = Unit {0}} g.S.Store.tells c.args.self.now c.ask_done.new.self c.know_kept.ensures c.in-Ok-copy.bucket (λ x answered given. answered ≡ reply.Done) tt c.in_ok-ask_done.ensures in
    c.in_default-root.not-Some _ (c.in-Ok.ensures ∙ ap (λ key. root_of key c.args.bucket.now) found.1)
