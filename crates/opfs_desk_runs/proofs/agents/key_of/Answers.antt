use Rattle.std.proofs.Common.{◌∙◌, ap, sym}
use Rattle.std.specs.Option.{option_copied}
use Rattle.opfs_desk_runs.proofs.Keys.{has-own-key}
use Rattle.opfs_desk_runs.proofs.agents.key_of.Goals as goal

pub returns-in_ok-key-in-Some-clause-own : goal.returns-in_ok-key-in-Some-clause-own
returns-in_ok-key-in-Some-clause-own c =
    has-own-key c.args.script.now c.in-Some.key.now c.as_str-text.result.now (sym c.key.ensures.key ∙ ap option_copied c.in-Some.is) c.key.ensures.limits c.as_str-text.utf8 c.as_str-text.ensures
