use Rattle.opfs_print.proofs.NamesLemmas.{no_float}
use Rattle.opfs_print.proofs.reply.names_text.Goals as goal

pub array_text-requires : goal.array_text-requires
array_text-requires c = rw c.in_ok-json_names.ensures (no_float c.args.names.now)

pub returns : goal.returns
returns c = rw c.in_ok-json_names.ensures at c.array_text.ensures
