use Rattle.std.proofs.Common.{◌+◌, ◌<◌, ◌≤◌, length, ap, ◌∙◌, arith}
use Rattle.opfs_base.specs.Units.{origin_of}
use Rattle.opfs_tree.proofs.UnitSums.{bytes_behind, bytes_none}
use Rattle.opfs_tree.proofs.sums.unit_bytes.Goals as goal

pub returns-then-origin-text : goal.returns-then-origin-text
returns-then-origin-text c =
    let unit = c.args.unit.now in
    let lt : length (origin_of unit) < length unit = omega (arith, ap length c.as_bytes-text.ensures, ap length c.origin_of-origin.ensures, ap (λ t. length (origin_of t)) c.as_bytes-text.ensures, c.if-origin-text.true) in
    ap length c.as_bytes-text.ensures ∙ bytes_behind unit lt

pub returns-else-origin-text : goal.returns-else-origin-text
returns-else-origin-text c =
    let unit = c.args.unit.now in
    let same = ap length c.origin_of-origin.ensures ∙ ap (λ t. length (origin_of t)) c.as_bytes-text.ensures in
    let le : length unit ≤ length (origin_of unit) = omega (arith, ap length c.as_bytes-text.ensures, same, c.if-origin-text.false) in
    ap (λ n. n + 8) same ∙ bytes_none unit le
