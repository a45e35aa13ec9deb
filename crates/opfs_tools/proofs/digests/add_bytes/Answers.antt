use Rattle.std.proofs.Common.{ℕ, List, ◌++◌, arith}
use Rattle.std.proofs.lemmas.List.{length-take-le}
use Rattle.opfs_outside.specs.Bytes.{window}
use Rattle.opfs_data.proofs.CallLemmas.{reads_more}
use Rattle.opfs_tools.proofs.Digesting.{piece_more}
use Rattle.opfs_tools.proofs.digests.add_bytes.Goals as goal

pub loop-from-preserved : goal.loop-from-preserved
loop-from-preserved g c =
    let laws = g.met.D.Disk in
    let at = c.loop-from.invariant in
    let content : List ℕ = g.D.Disk.content c.args.journal.now.disk in
    let from : ℕ = c.loop-from.from in
    let n : ℕ = c.min-len.result in
    let f = c.in_ok-add_piece.ensures in
    record {
      within = omega (arith, c.min-len.ensures, at.within);
      reads = reads_more g.D.Disk laws.falls c.args.journal.now c.loop-from.journal c.add_piece.new.journal at.reads f.reads;
      added = λ told m held. piece_more c.add_piece.new.hasher content (g.D.Disk.content c.loop-from.journal.disk) m c.args.at from n _ (at.reads.told told).same (length-take-le n c.loop-from.piece (omega (arith, c.min-len.ensures))) (f.added told (m ++ window content c.args.at from) (at.added told m held));
    }
