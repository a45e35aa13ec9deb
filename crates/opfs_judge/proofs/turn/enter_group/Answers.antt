use Rattle.std.proofs.Common.{◌≡◌, ◌∙◌, ◌-◌, sym, ap, length, slice_get, List, Some}
use Rattle.opfs_hist.specs.declared.entry.Entry.{Entry}
use Rattle.opfs_print.specs.Lines.{text_of}
use Rattle.opfs_transcripts.specs.Told.Reading.{begins}
use Rattle.opfs_judge.specs.Turns.{call_asked}
use Rattle.opfs_judge.proofs.Grouping.{group-entered, group-told, told-in}
use Rattle.opfs_judge.proofs.turn.enter_group.Goals as goal

pub returns-then-not-branch-clause-told : goal.returns-then-not-branch-clause-told
returns-then-not-branch-clause-told c = λ told.
    let a = c.args.asking in
    sym c.if-not-branch.true ∙ (c.in_ok-enter_told.ensures.told (told-in c.args.state.now (call_asked a) a.evictions a.front c.args.text.now told)).0

pub returns-then-not-starts-clause-told : goal.returns-then-not-starts-clause-told
returns-then-not-starts-clause-told c = λ told.
    let a = c.args.asking in
    let text = c.args.text.now in
    let entered = (c.in_ok-enter_told.ensures.told (told-in c.args.state.now (call_asked a) a.evictions a.front text told)).1 in
    c.if-not-starts.ensures ∙ ap (λ printed. begins printed text) c.as_slice-printed.ensures.value
    ∙ group-told c.args.state.now (call_asked a) a.evictions a.front text c.in_ok-group.group.items c.enter_told.new.entries.items told entered
    (c.in_ok-group.ensures ∙ ap text_of c.as_slice.ensures.value)

pub returns-clause-entered : goal.returns-clause-entered
returns-clause-entered c =
    let a = c.args.asking in
    let text = c.args.text.now in
    let group = c.enter_told.new.entries.items in
    let place : Some c.in-Some.entry.now ≡ slice_get group (length group - 1) = c.in-Some.ensures.value ∙ ap (λ (es : List Entry). slice_get es (length es - 1)) c.deref.ensures.value in
    group-entered c.args.state.now c.enter_told.new.state c.args.players.now.items c.move_on.new.players.items (call_asked a) a.index group text c.in_ok-group.group.items (length c.as_slice-printed.result.now) c.in-Some.entry.now
    (c.in_ok-enter_told.ensures.entered c.if-not-branch.false) (c.in_ok-group.ensures ∙ ap text_of c.as_slice.ensures.value)
    (ap (λ printed. begins printed text) (sym c.as_slice-printed.ensures.value) ∙ sym c.if-not-starts.ensures) (ap length c.as_slice-printed.ensures.value) place c.in_ok-move_on-in-Some.ensures
