use Rattle.std.proofs.Common.{◌∙◌, sym, ap, slice_set}
use Rattle.opfs_transcripts.specs.Told.Goings.{asked, going_on}
use Rattle.opfs_judge.proofs.Calling.{going-got}
use Rattle.opfs_judge.proofs.turn.move_on.Goals as goal

pub go_on-requires : goal.go_on-requires
go_on-requires c =
    let got = going-got c.args.players.now.items c.args.index c.index_mut.result.now c.requires.within c.index_mut.ensures.value in
    ap asked (sym got) ∙ c.requires.asks

pub returns : goal.returns
returns c =
    let gs = c.args.players.now.items in
    let got = going-got gs c.args.index c.index_mut.result.now c.requires.within c.index_mut.ensures.value in
    ap (slice_set gs c.args.index) (c.in_ok-go_on.ensures ∙ ap (λ g. going_on g c.args.entry.now.reply) (sym got))
