use Rattle.std.proofs.Common.{◌+◌, ◌<◌, ◌≤◌, length, drop, sym, ap, ◌∙◌, arith}
use Rattle.std.proofs.lemmas.List.{take_rest}
use Rattle.opfs_base.specs.Units.{origin_of}
use Rattle.opfs_codec.proofs.WritingLemmas.{bucket_behind, bucket_none}
use Rattle.opfs_codec.proofs.lengths.bucket_of.Goals as goal

pub returns-then-end-unit : goal.returns-then-end-unit
returns-then-end-unit c =
    let unit = c.args.unit.now in
    let same = c.origin_of-end.ensures in
    let lt : length (origin_of unit) < length unit = omega (arith, ap length same, c.if-end-unit.true) in
    take_rest unit (length c.origin_of-end.result.now + 1) ∙ ap (λ o. drop (length o + 1) unit) same ∙ sym (bucket_behind unit lt)

pub returns-else-end-unit : goal.returns-else-end-unit
returns-else-end-unit c =
    let unit = c.args.unit.now in
    let le : length unit ≤ length (origin_of unit) = omega (arith, ap length c.origin_of-end.ensures, c.if-end-unit.false) in
    sym (bucket_none unit le)
