use Rattle.std.proofs.Common.{◌++◌, sym, ap, ◌∙◌, subst}
use Rattle.std.specs.Option.{option_copied}
use Rattle.opfs_store.specs.Acts.Acting.{unread_gift}
use Rattle.opfs_hist.specs.declared.reply.Reply.{Reply}
use Rattle.opfs_laws.specs.Histories.Unread.{unread}
use Rattle.opfs_machine.specs.Histories.{state_after}
use Rattle.opfs_state_rows.specs.Standing.Seen.{Machine}
use Rattle.opfs_desk_steps.specs.Parts.Acted.{HasActed}
use Rattle.opfs_desk_steps.specs.Parts.Seen.{machine_in, tree_in, call_in}
use Rattle.opfs_desk_entries.specs.Answers.Silent.{BeginsCall}
use Rattle.opfs_desk_entries.proofs.answers.Nexts.{next-makes-none, next-only, next-told, up-to-by}
use Rattle.opfs_desk_entries.proofs.answers.Noted.{noted-is}
use Rattle.opfs_desk_entries.proofs.answers.Unacted.{unacted}
use Rattle.opfs_desk_entries.proofs.answers.next.act_next.Goals as goal

pub next_child-requires-clause-clean : goal.next_child-requires-clause-clean
next_child-requires-clause-clean g c =
    let go = c.requires.go in
    go.asked.prepared.place ∙ next-makes-none _ c.args.call.agent c.args.call.op c.requires.word

pub tell-rows-requires : goal.tell-rows-requires
tell-rows-requires g c = record {
  may =
      let w = g.D.Disk in
      let go = c.requires.go in
      let laws = c.telling_laws.ensures in
      let call = c.args.call in
      let l = c.args.parts.now.ledger in
      let p = c.args.parts.now.pages in
      let calls = c.args.pending.now in
      let begins : BeginsCall w go.fixed go.recorded l p calls call c.args.work.now c.args.past.now = record { held = go.are; asked = go.asked } in
      let agent = (laws.asks.taken go.fixed go.recorded l p calls call c.args.work.now c.args.past.now go.are go.asked).agent in
      let s = state_after go.fixed.opening (l.books.history ++ calls) in
      let rows = ap (λ (m : Machine). m.rows) (noted-is w laws.follow laws.local go.fixed go.recorded l p calls call c.args.work.now c.args.past.now begins agent) ∙ c.know_rows_match_tree.ensures in
      let its = next-told s (tree_in l) rows c.args.past.now call.sizes call.agent call.op c.in-Ok.next c.requires.word go.asked.may.given (record { reply = c.in-Ok.ensures.reply; told = c.in-Ok.ensures.told; gift = c.in-Ok.ensures.gift }) in
      record {
        fixed = go.fixed;
        recorded = go.recorded;
        work = c.args.work.now;
        past = c.args.past.now;
        are = go.are;
        telling = record {
          asked = go.asked;
          only = next-only (machine_in l) call.agent call.op c.requires.word;
          reply = record { alike = ap unread its.told; told = λ t. its.told };
          done = its.done;
        };
      };
}

pub returns-in_default-clause-idle : goal.returns-in_default-clause-idle
returns-in_default-clause-idle g c f recorded held = unacted g.D.Disk f recorded c.args.parts.now held

pub returns-clause-acted : goal.returns-clause-acted
returns-clause-acted g c f recorded held asked =
    let w = g.D.Disk in
    let laws = c.telling_laws.ensures in
    let call = c.args.call in
    let l = c.args.parts.now.ledger in
    let p = c.args.parts.now.pages in
    let calls = c.args.pending.now in
    let begins : BeginsCall w f recorded l p calls call c.args.work.now c.args.past.now = record { held = held; asked = asked } in
    let agent = (laws.asks.taken f recorded l p calls call c.args.work.now c.args.past.now held asked).agent in
    let s = state_after f.opening (l.books.history ++ calls) in
    let rows = ap (λ (m : Machine). m.rows) (noted-is w laws.follow laws.local f recorded l p calls call c.args.work.now c.args.past.now begins agent) ∙ c.know_rows_match_tree.ensures in
    let its = next-told s (tree_in l) rows c.args.past.now call.sizes call.agent call.op c.in-Ok.next c.requires.word asked.may.given (record { reply = c.in-Ok.ensures.reply; told = c.in-Ok.ensures.told; gift = c.in-Ok.ensures.gift }) in
    subst (λ (r : Reply). HasActed w f c.args.parts.now c.tell-rows.new.parts calls (call_in call) c.args.work.now c.args.work.now (record { reply = r; gift = c.in-Ok.next.gift; rows = c.tell-rows.result })) (its.told ∙ sym its.reply)
    (c.tell-rows.ensures.acted f recorded c.args.work.now c.args.past.now c.in-Ok.next.gift held
    (record {
      asked = asked;
      only = next-only (machine_in l) call.agent call.op c.requires.word;
      reply = record { alike = ap unread its.told; told = λ t. its.told };
      done = its.done;
    })
    (record { alike = ap unread_gift its.gift; told = λ t. its.gift }))

pub next_child-requires-clause-given : goal.next_child-requires-clause-given
next_child-requires-clause-given g c =
    let w = g.D.Disk in
    let from = c.requires.given in
    let go = from.go in
    let laws = c.telling_laws.ensures in
    let call = c.args.call in
    let l = c.args.parts.now.ledger in
    let p = c.args.parts.now.pages in
    let calls = c.args.pending.now in
    let begins : BeginsCall w go.fixed go.recorded l p calls call c.args.work.now c.args.past.now = record { held = go.are; asked = go.asked } in
    let agent = (laws.asks.taken go.fixed go.recorded l p calls call c.args.work.now c.args.past.now go.are go.asked).agent in
    let s = state_after go.fixed.opening (l.books.history ++ calls) in
    let rows = ap (λ (m : Machine). m.rows) (noted-is w laws.follow laws.local go.fixed go.recorded l p calls call c.args.work.now c.args.past.now begins agent) ∙ c.know_rows_match_tree.ensures in
    up-to-by s (tree_in l) rows call.op c.args.past.now (option_copied c.args.last) from.reached
