use Rattle.opfs_print.proofs.NamesLemmas.{array_written}
use Rattle.opfs_print.proofs.reply.array_text.Goals as goal

pub returns : goal.returns
returns c = array_written c.args.values c.to_string.result c.requires c.to_string.ensures.text
