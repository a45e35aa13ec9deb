use Rattle.std.proofs.Common.{[], ◌++◌, refl, ap, sym}
use Rattle.opfs_store.specs.Acts.Acting.{unread_gift}
use Rattle.opfs_store.specs.declared.acts.acted.Gift.TheVariants as gift
use Rattle.opfs_laws.specs.Histories.Unread.{unread}
use Rattle.opfs_machine.specs.Histories.{state_after}
use Rattle.opfs_desk_steps.specs.Parts.Seen.{machine_in}
use Rattle.opfs_desk_entries.specs.Answers.Silent.{BeginsCall}
use Rattle.opfs_desk_entries.proofs.answers.Flags.{has-key, key-there, mode-answered, no-gift}
use Rattle.opfs_desk_entries.proofs.answers.Noted.{noted-is, sum_of}
use Rattle.opfs_desk_entries.proofs.answers.Unacted.{unacted}
use Rattle.opfs_desk_entries.proofs.answers.modes.act_persisted.Goals as goal

pub mode-requires-clause-agent : goal.mode-requires-clause-agent
mode-requires-clause-agent g c =
    let go = c.requires.go in
    (c.telling_laws.ensures.asks.taken go.fixed go.recorded c.args.parts.now.ledger c.args.parts.now.pages c.args.pending.now c.args.call c.args.work.now [] go.are go.asked).agent

pub mode-requires-clause-key : goal.mode-requires-clause-key
mode-requires-clause-key g c =
    let w = g.D.Disk in
    let go = c.requires.go in
    let laws = c.telling_laws.ensures in
    let call = c.args.call in
    let l = c.args.parts.now.ledger in
    let p = c.args.parts.now.pages in
    let calls = c.args.pending.now in
    let begins : BeginsCall w go.fixed go.recorded l p calls call c.args.work.now [] = record { held = go.are; asked = go.asked } in
    let agent = (laws.asks.taken go.fixed go.recorded l p calls call c.args.work.now [] go.are go.asked).agent in
    let s = state_after go.fixed.opening (l.books.history ++ calls) in
    key-there (machine_in l) s call.agent (sum_of calls) agent (noted-is w laws.follow laws.local go.fixed go.recorded l p calls call c.args.work.now [] begins agent)
    (has-key s call.agent call.op _ c.requires.word go.asked.judged)

pub tell-rows-requires : goal.tell-rows-requires
tell-rows-requires g c = record {
  may =
      let w = g.D.Disk in
      let go = c.requires.go in
      let laws = c.telling_laws.ensures in
      let call = c.args.call in
      let l = c.args.parts.now.ledger in
      let p = c.args.parts.now.pages in
      let calls = c.args.pending.now in
      let begins : BeginsCall w go.fixed go.recorded l p calls call c.args.work.now [] = record { held = go.are; asked = go.asked } in
      let agent = (laws.asks.taken go.fixed go.recorded l p calls call c.args.work.now [] go.are go.asked).agent in
      let s = state_after go.fixed.opening (l.books.history ++ calls) in
      let noted = noted-is w laws.follow laws.local go.fixed go.recorded l p calls call c.args.work.now [] begins agent in
      let its = mode-answered (machine_in l) s call.sizes call.agent call.op (sum_of calls) c.in-Ok.flag agent c.requires.word noted c.in-Ok.ensures in
      record {
        fixed = go.fixed;
        recorded = go.recorded;
        work = c.args.work.now;
        past = [];
        are = go.are;
        telling = record {
          asked = go.asked;
          only = c.requires.only;
          reply = record { alike = ap unread its; told = λ t. its };
          done = refl;
        };
      };
}

pub returns-in_default-clause-idle : goal.returns-in_default-clause-idle
returns-in_default-clause-idle g c f recorded held = unacted g.D.Disk f recorded c.args.parts.now held

pub returns-clause-acted : goal.returns-clause-acted
returns-clause-acted g c f recorded held asked =
    let w = g.D.Disk in
    let laws = c.telling_laws.ensures in
    let call = c.args.call in
    let l = c.args.parts.now.ledger in
    let p = c.args.parts.now.pages in
    let calls = c.args.pending.now in
    let begins : BeginsCall w f recorded l p calls call c.args.work.now [] = record { held = held; asked = asked } in
    let agent = (laws.asks.taken f recorded l p calls call c.args.work.now [] held asked).agent in
    let s = state_after f.opening (l.books.history ++ calls) in
    let noted = noted-is w laws.follow laws.local f recorded l p calls call c.args.work.now [] begins agent in
    let its = mode-answered (machine_in l) s call.sizes call.agent call.op (sum_of calls) c.in-Ok.flag agent c.requires.word noted c.in-Ok.ensures in
    let none = no-gift s call.op c.in-Ok.flag c.requires.word in
    c.tell-rows.ensures.acted f recorded c.args.work.now [] gift.Nothing held
    (record {
      asked = asked;
      only = c.requires.only;
      reply = record { alike = ap unread its; told = λ t. its };
      done = refl;
    })
    (record { alike = ap unread_gift (sym none); told = λ t. sym none })
