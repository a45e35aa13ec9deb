use Rattle.std.proofs.Common.{subst}
use Rattle.std.specs.Str.{IsUtf8}
use Rattle.std.proofs.lemmas.Str.{is_utf8-from_IsUtf8}
use Rattle.opfs_desk_entries.proofs.kept_back.spelling.named_place.Goals as goal

pub returns-clause-text : goal.returns-clause-text
returns-clause-text c = is_utf8-from_IsUtf8 c.args.name.now (subst IsUtf8 c.as_str-text.ensures c.as_str-text.utf8)
