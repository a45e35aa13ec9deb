use Rattle.std.proofs.Common.{sym, ap, ◌∙◌}
use Rattle.std.specs.Prelude.{is_some}
use Rattle.opfs_sync_files.specs.Files.{file_bytes}
use Rattle.opfs_kv.proofs.Kept.{found-some}
use Rattle.opfs_kv.proofs.listing.contains.Goals as goal

pub returns-in-Some : goal.returns-in-Some
returns-in-Some g c = sym (found-some (file_bytes c.args.agent.now c.args.handle.now) c.args.notes.now.index c.args.key.now ∙ ap is_some (sym c.in-Some.ensures))

pub returns-in-None : goal.returns-in-None
returns-in-None g c = sym (found-some (file_bytes c.args.agent.now c.args.handle.now) c.args.notes.now.index c.args.key.now ∙ ap is_some (sym c.in-None.ensures))
