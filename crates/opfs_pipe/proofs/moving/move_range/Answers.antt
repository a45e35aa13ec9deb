use Rattle.std.proofs.Common.{◌≡◌, ◌-◌, min, rules, refl, subst}
use Rattle.std.specs.Prelude.{length}
use Rattle.opfs_base.specs.Texts.{Text}
use Rattle.opfs_splice.specs.Splicing.{window}
use Rattle.opfs_pipe.specs.Rounds.{HasMoved}
use Rattle.opfs_pipe.proofs.Lists.{window-none, window-short}
use Rattle.opfs_pipe.proofs.Passes.{moved-nothing}
use Rattle.opfs_pipe.proofs.moving.move_range.Goals as goal

pub returns-then-length-eq0 : goal.returns-then-length-eq0
returns-then-length-eq0 g c =
    let none : min c.args.range.now.len (length c.args.range.now.from.now.bytes - c.args.range.now.at) ≡ 0 = search rules in
    moved-nothing g.S.Store.tells c.args.reader.now c.args.writer.now c.args.range.now.from.now c.args.range.now.at c.args.to.now (window c.args.range.now.from.now.bytes c.args.range.now.at c.args.range.now.len) c.requires.snapshot c.requires.stream
    (window-none c.args.range.now.from.now.bytes c.args.range.now.at c.args.range.now.len none)

pub returns : goal.returns
returns g c =
    let count : c.range_length-length.result ≡ min c.args.range.now.len (length c.args.range.now.from.now.bytes - c.args.range.now.at) = search rules in
    subst (λ (r : Text). HasMoved g.S.Store.tells c.args.reader.now c.move_over_ring.new.reader c.args.writer.now c.move_over_ring.new.writer c.args.range.now.from.now c.args.range.now.at c.args.to.now c.move_over_ring.new.to r c.move_over_ring.result)
    (window-short c.args.range.now.from.now.bytes c.args.range.now.at c.args.range.now.len c.range_length-length.result count) (c.move_over_ring.ensures c.range_length-length.result refl)
