use Rattle.std.proofs.Common.{[], ◌++◌, ap, subst, sym, refl}
use Rattle.opfs_store.specs.Acts.Acting.{unread_gift}
use Rattle.opfs_store.specs.declared.acts.acted.Gift.TheVariants as gift
use Rattle.opfs_laws.specs.Histories.Unread.{unread}
use Rattle.opfs_machine.specs.Histories.{state_after}
use Rattle.opfs_desk_steps.specs.Parts.Seen.{machine_in}
use Rattle.opfs_desk_entries.specs.Answers.Silent.{BeginsCall}
use Rattle.opfs_desk_entries.proofs.answers.Flags.{key-there}
use Rattle.opfs_desk_entries.proofs.answers.Noted.{noted-is, sum_of}
use Rattle.opfs_desk_entries.specs.KeptBack.Keeping.{HasOwnKey}
use Rattle.opfs_desk_entries.proofs.kept_back.Keys.{key-held}
use Rattle.opfs_desk_entries.proofs.buckets.Estimates.{estimate-answered, few-used, has-key, no-gift, small-quota, tells-estimate}
use Rattle.opfs_desk_entries.proofs.buckets.estimating.act_estimate.Goals as goal

pub estimate-usage-requires-clause-agent : goal.estimate-usage-requires-clause-agent
estimate-usage-requires-clause-agent g c =
    let go = c.requires.go in
    (c.telling_laws.ensures.asks.taken go.fixed go.recorded c.args.parts.now.ledger c.args.parts.now.pages c.args.pending.now c.args.call c.args.work.now [] go.are go.asked).agent

pub estimate-usage-requires-clause-key : goal.estimate-usage-requires-clause-key
estimate-usage-requires-clause-key g c =
    let w = g.D.Disk in
    let go = c.requires.go in
    let laws = c.telling_laws.ensures in
    let call = c.args.call in
    let l = c.args.parts.now.ledger in
    let p = c.args.parts.now.pages in
    let calls = c.args.pending.now in
    let begins : BeginsCall w go.fixed go.recorded l p calls call c.args.work.now [] = record { held = go.are; asked = go.asked } in
    let agent = (laws.asks.taken go.fixed go.recorded l p calls call c.args.work.now [] go.are go.asked).agent in
    let s = state_after go.fixed.opening (l.books.history ++ calls) in
    key-there (machine_in l) s call.agent (sum_of calls) agent (noted-is w laws.follow laws.local go.fixed go.recorded l p calls call c.args.work.now [] begins agent)
    (has-key s call.agent call.op _ c.requires.word go.asked.judged)

pub estimate-usage-requires-clause-own : goal.estimate-usage-requires-clause-own
estimate-usage-requires-clause-own g c =
    let go = c.requires.go in
    subst HasOwnKey (sym (key-held g.D.Disk c.reads_leave_the_state.ensures c.state_laws.ensures.counts go.fixed go.recorded c.args.parts.now.ledger c.args.parts.now.pages go.are c.args.call.agent)) (go.are.tied.keys c.args.call.agent)

pub estimate-usage-requires-clause-few : goal.estimate-usage-requires-clause-few
estimate-usage-requires-clause-few g c =
    let go = c.requires.go in
    few-used g.D.Disk c.state_laws.ensures c.the_state_is_kept.ensures go.fixed go.recorded c.args.parts.now.ledger c.args.parts.now.pages go.are c.args.call.agent

pub estimate-usage-requires-clause-small : goal.estimate-usage-requires-clause-small
estimate-usage-requires-clause-small g c =
    let go = c.requires.go in
    small-quota g.D.Disk c.state_laws.ensures c.the_state_is_kept.ensures go.fixed go.recorded c.args.parts.now.ledger c.args.parts.now.pages go.are

pub tell-rows-requires : goal.tell-rows-requires
tell-rows-requires g c = record {
  may =
      let w = g.D.Disk in
      let go = c.requires.go in
      let laws = c.telling_laws.ensures in
      let call = c.args.call in
      let l = c.args.parts.now.ledger in
      let p = c.args.parts.now.pages in
      let calls = c.args.pending.now in
      let begins : BeginsCall w go.fixed go.recorded l p calls call c.args.work.now [] = record { held = go.are; asked = go.asked } in
      let agent = (laws.asks.taken go.fixed go.recorded l p calls call c.args.work.now [] go.are go.asked).agent in
      let s = state_after go.fixed.opening (l.books.history ++ calls) in
      let noted = noted-is w laws.follow laws.local go.fixed go.recorded l p calls call c.args.work.now [] begins agent in
      let its = estimate-answered laws.decide (machine_in l) s call.sizes call.agent call.op (sum_of calls) c.estimate-usage.result.0 c.estimate-usage.result.1 agent c.requires.word noted c.estimate-usage.ensures.usage c.estimate-usage.ensures.quota in
      record {
        fixed = go.fixed;
        recorded = go.recorded;
        work = c.args.work.now;
        past = [];
        are = go.are;
        telling = record {
          asked = go.asked;
          only = tells-estimate (machine_in l) call.agent call.op c.requires.word;
          reply = record { alike = ap unread its; told = λ t. its };
          done = refl;
        };
      };
}

pub returns-clause-acted : goal.returns-clause-acted
returns-clause-acted g c f recorded held asked =
    let w = g.D.Disk in
    let laws = c.telling_laws.ensures in
    let call = c.args.call in
    let l = c.args.parts.now.ledger in
    let p = c.args.parts.now.pages in
    let calls = c.args.pending.now in
    let begins : BeginsCall w f recorded l p calls call c.args.work.now [] = record { held = held; asked = asked } in
    let agent = (laws.asks.taken f recorded l p calls call c.args.work.now [] held asked).agent in
    let s = state_after f.opening (l.books.history ++ calls) in
    let noted = noted-is w laws.follow laws.local f recorded l p calls call c.args.work.now [] begins agent in
    let its = estimate-answered laws.decide (machine_in l) s call.sizes call.agent call.op (sum_of calls) c.estimate-usage.result.0 c.estimate-usage.result.1 agent c.requires.word noted c.estimate-usage.ensures.usage c.estimate-usage.ensures.quota in
    let none = no-gift s call.op c.estimate-usage.result.0 c.estimate-usage.result.1 c.requires.word in
    c.tell-rows.ensures.acted f recorded c.args.work.now [] gift.Nothing held
    (record {
      asked = asked;
      only = tells-estimate (machine_in l) call.agent call.op c.requires.word;
      reply = record { alike = ap unread its; told = λ t. its };
      done = refl;
    })
    (record { alike = ap unread_gift (sym none); told = λ t. sym none })
