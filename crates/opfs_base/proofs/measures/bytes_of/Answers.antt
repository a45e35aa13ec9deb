use Rattle.std.proofs.Common.{sym, ◌∙◌}
use Rattle.opfs_base.proofs.UnitBytes.{unit_bytes_signed}
use Rattle.opfs_base.proofs.measures.bytes_of.Goals as goal

pub returns-then-has_sign : goal.returns-then-has_sign
returns-then-has_sign c = unit_bytes_signed _ (sym c.has_sign.ensures ∙ c.if-has_sign.true)
