use Rattle.std.proofs.Common.{ap, ◌∙◌}
use Rattle.serde_json.specs.View.{items_of}
use Rattle.serde_json.specs.Written.{items_have_float}
use Rattle.opfs_records.specs.Replay.Sums.{persistent_in}
use Rattle.opfs_print.proofs.NamesLemmas.{no_float}
use Rattle.opfs_dump.proofs.dumping.pieces.units_text.Goals as goal

pub array_text-requires : goal.array_text-requires
array_text-requires c = ap (λ xs. items_have_float (items_of xs)) c.in_ok-unit_values.ensures ∙ no_float (persistent_in c.args.shed.now.buckets)
