use Rattle.std.proofs.Common.{rules, ◌<◌, []}
use Rattle.opfs_base.specs.Blocks.{blocks}
use Rattle.opfs_desk_entries.specs.Answers.Silent.{BeginsCall}
use Rattle.opfs_desk_contents.proofs.commits.More.{has-more}
use Rattle.opfs_desk_contents.proofs.commits.storing.act_content.Goals as goal

pub act_store_same_blocks-requires-clause-more : goal.act_store_same_blocks-requires-clause-more
act_store_same_blocks-requires-clause-more g c =
    let go = c.requires.go in
    let laws = c.going_laws.ensures in
    let l = c.args.parts.now.ledger in
    let p = c.args.parts.now.pages in
    let calls = c.args.pending.now in
    let call = c.args.call in
    let work = c.args.work.now in
    let begins : BeginsCall g.D.Disk go.fixed go.recorded l p calls call work [] = record { held = go.are; asked = go.asked } in
    let agent = (laws.asks.taken go.fixed go.recorded l p calls call work [] go.are go.asked).agent in
    let more : work.reserve < blocks work.length = search rules in
    has-more g.D.Disk laws.goes_on laws.states laws.follow laws.local go.fixed go.recorded l p calls call work begins agent c.requires.word more

pub returns-clause-acted : goal.returns-clause-acted
returns-clause-acted g c f recorded held whole asked = c.in_ok-acted-2.ensures.acted f recorded held asked
