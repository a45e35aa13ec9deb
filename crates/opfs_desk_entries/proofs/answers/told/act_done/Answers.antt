use Rattle.std.proofs.Common.{[], ◌++◌, refl, sym, ap}
use Rattle.opfs_store.specs.Acts.Acting.{unread_gift}
use Rattle.opfs_store.specs.declared.acts.acted.Gift.TheVariants as gift
use Rattle.opfs_laws.specs.Histories.Unread.{unread}
use Rattle.opfs_machine.specs.Histories.{state_after}
use Rattle.opfs_desk_entries.proofs.answers.Done.{answers-done, no-gift}
use Rattle.opfs_desk_entries.proofs.answers.told.act_done.Goals as goal

pub tell-rows-requires : goal.tell-rows-requires
tell-rows-requires g c = record {
  may =
      let go = c.requires.go in
      let call = c.args.call in
      let done = answers-done (state_after go.fixed.opening (c.args.parts.now.ledger.books.history ++ c.args.pending.now)) call.sizes call.agent call.op c.requires.word in
      record {
        fixed = go.fixed;
        recorded = go.recorded;
        work = c.args.work.now;
        past = [];
        are = go.are;
        telling = record {
          asked = go.asked;
          only = c.requires.only;
          reply = record { alike = ap unread (sym done); told = λ t. sym done };
          done = refl;
        };
      };
}

pub returns-clause-acted : goal.returns-clause-acted
returns-clause-acted g c f recorded are asked =
    let call = c.args.call in
    let done = answers-done (state_after f.opening (c.args.parts.now.ledger.books.history ++ c.args.pending.now)) call.sizes call.agent call.op c.requires.word in
    let none = no-gift (state_after f.opening (c.args.parts.now.ledger.books.history ++ c.args.pending.now)) call.op c.requires.word in
    c.tell-rows.ensures.acted f recorded c.args.work.now [] gift.Nothing are
    (record {
      asked = asked;
      only = c.requires.only;
      reply = record { alike = ap unread (sym done); told = λ t. sym done };
      done = refl;
    })
    (record { alike = ap unread_gift (sym none); told = λ t. sym none })
