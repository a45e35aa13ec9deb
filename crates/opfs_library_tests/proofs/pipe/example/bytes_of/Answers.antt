use Rattle.std.proofs.Common.{refl, arith}
use Rattle.opfs_hist.specs.declared.op.Op.TheVariants as op
use Rattle.opfs_pipe.proofs.Joined.{GivesRead}
use Rattle.opfs_splice.specs.Splicing.{window}
use Rattle.opfs_notebook.proofs.Going.{room-of}
use Rattle.opfs_library_tests.proofs.pipe.Streams.{local-on, local-ready}
use Rattle.opfs_library_tests.proofs.pipe.example.bytes_of.Goals as goal

pub slice-bytes-requires-clause-room : goal.slice-bytes-requires-clause-room
slice-bytes-requires-clause-room g c = room-of c.args.agent.now 50000001 (omega arith) c.requires.few

pub returns-clause-ready : goal.returns-clause-ready
returns-clause-ready g c =
    local-ready g.S.Store.tells c.args.court.now c.args.agent.now c.slice-bytes.new.self c.know_kept.ensures c.know_kept-2.ensures (op.Slice (c.args.snapshot.now.row) 0 c.size.result) (GivesRead (window c.args.snapshot.now.bytes 0 c.size.result)) c.slice-bytes.result refl
    c.slice-bytes.ensures c.requires.ready

pub returns-clause-goes : goal.returns-clause-goes
returns-clause-goes g c =
    local-on g.S.Store.tells c.args.court.now c.args.agent.now c.slice-bytes.new.self c.know_kept.ensures c.know_kept-2.ensures (op.Slice (c.args.snapshot.now.row) 0 c.size.result) (GivesRead (window c.args.snapshot.now.bytes 0 c.size.result)) c.slice-bytes.result
    c.slice-bytes.ensures
