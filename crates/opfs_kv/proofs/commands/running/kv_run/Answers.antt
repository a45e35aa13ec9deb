use Rattle.std.proofs.Common.{◌≡◌, ◌+◌, List, [], ◌∷◌, ◌++◌, length, take, rules, subst, sym, ap, ◌∙◌, arith}
use Rattle.std.proofs.lemmas.List.{length-append, length-take, take_all, take_more}
use Rattle.opfs_sync_files.proofs.Staying.{stays-since}
use Rattle.opfs_kv.specs.declared.commands.commands.KvOp.{KvOp}
use Rattle.opfs_kv.specs.declared.commands.commands.KvReply.{KvReply}
use Rattle.opfs_kv.specs.Commands.Stops.{LeavesFronts}
use Rattle.opfs_kv.proofs.commands.Following.{IsRunning, run-more, sum-few}
use Rattle.opfs_kv.proofs.commands.Stopping.{leaves-fronts}
use Rattle.opfs_kv.proofs.commands.running.kv_run.Goals as goal

pub run_one-reply-requires-clause-few : goal.run_one-reply-requires-clause-few
run_one-reply-requires-clause-few g c = record { rows = omega (arith, c.loop-at.invariant.running.goes.rows, c.requires.few.rows); entries = omega (arith, c.loop-at.invariant.running.goes.entries, c.requires.few.entries, sum-few (take c.loop-at.at c.args.ops.now), length-take c.loop-at.at c.args.ops.now, c.requires.many) }

pub loop-at-preserved : goal.loop-at-preserved
loop-at-preserved g c =
    let o : KvOp = c.index-ops-at.result in
    let items : c.push.new.self.items ≡ c.loop-at.list.items ++ c.run_one-reply.result ∷ [] = search rules in
    let more : take (c.loop-at.at + 1) c.args.ops.now ≡ take c.loop-at.at c.args.ops.now ++ o ∷ [] = take_more c.args.ops.now c.loop-at.at o c.loop-at-test.true ∙ ap (λ (x : KvOp). take c.loop-at.at c.args.ops.now ++ x ∷ []) (sym c.index-ops-at.is) in
    record {
      within = omega (arith, c.loop-at-test.true);
      long = ap length items ∙ length-append c.loop-at.list.items (c.run_one-reply.result ∷ []) ∙ omega (arith, c.loop-at.invariant.long);
      room = search (rules, c.loop-at.invariant.room);
      running =
          subst (λ (xs : List KvOp). IsRunning g.S.Store.tells c.args.agent.now c.run_one-reply.new.agent c.args.kv.now c.run_one-reply.new.kv xs c.push.new.self.items) (sym more)
          (subst (λ (rs : List KvReply). IsRunning g.S.Store.tells c.args.agent.now c.run_one-reply.new.agent c.args.kv.now c.run_one-reply.new.kv (take c.loop-at.at c.args.ops.now ++ o ∷ []) rs) (sym items)
          (run-more g.S.Store.tells c.args.agent.now c.loop-at.agent c.run_one-reply.new.agent c.args.kv.now c.loop-at.kv c.run_one-reply.new.kv (take c.loop-at.at c.args.ops.now) c.loop-at.list.items o c.run_one-reply.result c.loop-at.invariant.running c.run_one-reply.ensures));
    }

pub returns-clause-stops : goal.returns-clause-stops
returns-clause-stops g c = λ tell.
    let all : take c.loop-at.at c.args.ops.now ≡ c.args.ops.now = take_all c.loop-at.at c.args.ops.now (omega (arith, c.loop-at-test.false)) in
    let run = c.loop-at.invariant.running in
    subst (λ (xs : List KvOp). LeavesFronts c.args.agent.now c.loop-at.agent c.args.kv.now xs c.loop-at.list.items) all
    (leaves-fronts g.S.Store.tells c.args.agent.now c.loop-at.agent c.args.kv.now c.loop-at.kv (take c.loop-at.at c.args.ops.now) c.loop-at.list.items run.file
    (stays-since g.S.Store.tells c.args.agent.now c.loop-at.agent c.know_kept.ensures c.know_kept-2.ensures c.args.kv.now.handle c.loop-at.kv.handle _ c.requires.stands.has run.stands.has run.row run.goes)
    run.stored run.goes run.doubts tell)
