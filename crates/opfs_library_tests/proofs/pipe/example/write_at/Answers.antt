use Rattle.std.proofs.Common.{◌≡◌, Some, sym, subst, refl, arith}
use Rattle.opfs_hist.specs.declared.op.Op.TheVariants as op
use Rattle.opfs_hist.specs.declared.reply.Reply.TheVariants as reply
use Rattle.opfs_pipe.proofs.Rows.{IsDone}
use Rattle.opfs_notebook.specs.Ready.{IsReady}
use Rattle.opfs_notebook.proofs.Going.{room-of, shared-on, shared-ready}
use Rattle.opfs_library_tests.proofs.pipe.Streams.{local-on, local-used}
use Rattle.opfs_library_tests.proofs.pipe.example.write_at.Goals as goal

pub write_within-near-requires-clause-room : goal.write_within-near-requires-clause-room
write_within-near-requires-clause-room g c = room-of c.args.agent.now 50000001 (omega arith) c.requires.few

pub write_growing-far-requires-clause-room : goal.write_growing-far-requires-clause-room
write_growing-far-requires-clause-room g c = room-of c.args.agent.now 50000001 (omega arith) c.requires.few

pub returns-then-fits-clause-ready : goal.returns-then-fits-clause-ready
returns-then-fits-clause-ready g c =
    subst (IsReady c.args.court.now c.write_within-near.new.self) (sym c.write_within-near.ensures.same.0)
    (local-used g.S.Store.tells c.args.court.now c.args.agent.now c.write_within-near.new.self c.know_kept.ensures c.know_kept-then-fits.ensures (op.Write c.args.stream.now.row c.args.bytes.now (Some c.args.at)) (λ v answered. answered ≡ reply.Done) c.write_within-near.result
    c.args.stream.now.row refl c.write_within-near.ensures.local c.requires.ready)

pub returns-then-fits-clause-goes : goal.returns-then-fits-clause-goes
returns-then-fits-clause-goes g c =
    local-on g.S.Store.tells c.args.court.now c.args.agent.now c.write_within-near.new.self c.know_kept.ensures c.know_kept-then-fits.ensures (op.Write c.args.stream.now.row c.args.bytes.now (Some c.args.at)) (λ v answered. answered ≡ reply.Done) c.write_within-near.result
    c.write_within-near.ensures.local

pub returns-clause-ready : goal.returns-clause-ready
returns-clause-ready g c =
    subst (IsReady c.args.court.now c.write_growing-far.new.self) (sym c.write_growing-far.ensures.same.0)
    (shared-ready g.S.Store.tells c.args.court.now c.args.agent.now c.write_growing-far.new.self c.know_kept.ensures c.know_kept-2.ensures (op.Write c.args.stream.now.row c.args.bytes.now (Some c.args.at)) IsDone c.write_growing-far.result refl
    c.write_growing-far.ensures.shared c.args.stream.now.row refl c.requires.ready)

pub returns-clause-goes : goal.returns-clause-goes
returns-clause-goes g c =
    shared-on g.S.Store.tells c.args.court.now c.args.agent.now c.write_growing-far.new.self c.know_kept.ensures c.know_kept-2.ensures (op.Write c.args.stream.now.row c.args.bytes.now (Some c.args.at)) IsDone c.write_growing-far.result refl
    c.write_growing-far.ensures.shared
