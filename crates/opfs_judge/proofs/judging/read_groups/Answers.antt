use Rattle.std.proofs.Common.{◌∙◌, drop, ap, arith}
use Rattle.std.specs.List.{list_all}
use Rattle.opfs_judge.specs.Players.{is_gone}
use Rattle.opfs_judge.proofs.Finding.{none-left, nothing-left, reads-on, some-turn, turn-fits, wants-turn}
use Rattle.opfs_judge.proofs.Reading.{reading-ends, reading-stops}
use Rattle.opfs_judge.proofs.judging.read_groups.Goals as goal

pub loop-at-preserved : goal.loop-at-preserved
loop-at-preserved c =
    let at = c.loop-at.at in
    let text = c.args.text.now in
    let s = c.loop-at.state in
    let t = c.turn.new.state in
    let gs = c.loop-at.players.items in
    let hs = c.turn.new.players.items in
    let turn = some-turn s t gs hs text at c.in-Some.used c.in_ok-used.field-0 c.in-Some.is c.in_ok-used.ensures.turned in
    let many = c.loop-at.invariant.many in
    let kept = turn.many in
    record {
      within = turn-fits s t gs hs text at c.in-Some.used c.loop-at-test.true turn;
      many = omega (arith, many, kept);
      reads = reads-on c.args.state.now s t c.args.players.now.items gs hs text at c.in-Some.used c.loop-at.invariant.reads turn;
    }

pub returns-in_default : goal.returns-in_default
returns-in_default c =
    let text = c.args.text.now in
    let at = c.loop-at.at in
    reading-stops c.args.state.now c.loop-at.state c.args.players.now.items c.loop-at.players.items text (drop at text) c.loop-at.invariant.reads
    (wants-turn text at c.loop-at-test.true) (none-left c.loop-at.state c.loop-at.players.items text at c.in_ok-used.field-0 c.in_default.is c.in_ok-used.ensures.none)

pub returns : goal.returns
returns c =
    let text = c.args.text.now in
    let at = c.loop-at.at in
    reading-ends c.args.state.now c.loop-at.state c.args.players.now.items c.loop-at.players.items text (drop at text) c.all_gone.result c.loop-at.invariant.reads
    (nothing-left text at c.loop-at-test.false) (c.all_gone.ensures ∙ ap (list_all is_gone) c.as_slice.ensures.value)
