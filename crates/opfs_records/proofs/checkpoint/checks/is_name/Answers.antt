use Rattle.std.proofs.Common.{length, ap, subst, arith}
use Rattle.std.specs.Str.{IsUtf8}
use Rattle.std.proofs.lemmas.Bool.{leb-true, le-leb}
use Rattle.std.proofs.lemmas.Str.{is_utf8-from_IsUtf8}
use Rattle.opfs_records.proofs.checkpoint.checks.is_name.Goals as goal

pub returns : goal.returns
returns c =
    let same = c.as_str.ensures.text in (
      λ h. ((is_utf8-from_IsUtf8 c.args.name.now (subst IsUtf8 same c.as_str.utf8), c.as_str.ensures.valid), omega (arith, leb-true (length c.as_str.result.now) 255 h, ap length same)),
      λ good. le-leb (length c.as_str.result.now) 255 (omega (arith, good.1, ap length same)),
    )
