use Rattle.std.proofs.Common.{List, sym, ap, ◌∙◌}
use Rattle.opfs_base.specs.Texts.{Text}
use Rattle.opfs_sync_files.specs.Files.{file_bytes}
use Rattle.opfs_kv.specs.Records.Maps.{keys_with}
use Rattle.opfs_kv.proofs.records.Listed.{read-keys}
use Rattle.opfs_kv.proofs.listing.keys_with.Goals as goal

pub returns : goal.returns
returns g c = c.in_ok-keys.ensures ∙ ap (λ (keys : List Text). keys_with c.args.front.now keys) (sym (read-keys (file_bytes c.args.agent.now c.args.handle.now) c.args.notes.now.index))
