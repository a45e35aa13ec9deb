use Rattle.std.proofs.Common.{Some, length, ap, ◌∙◌, arith}
use Rattle.opfs_sync_files.specs.Files.{file_bytes}
use Rattle.opfs_hist.specs.declared.op.Op.TheVariants as op
use Rattle.opfs_sync_files.specs.Entries.{TheCall}
use Rattle.opfs_sync_files.proofs.Knowing.{caused-may}
use Rattle.opfs_kv.specs.Asked.{IsPieceRead, piece_bytes}
use Rattle.opfs_kv.specs.Opening.{HasEnded, HasScanCause}
use Rattle.opfs_kv.proofs.Results.{if-err}
use Rattle.opfs_kv.proofs.Scanned.{ends-cause, far-on, piece-is, reads-one, scans-on, window-long}
use Rattle.opfs_kv.proofs.opening.scan_piece.Goals as goal

pub scanned-requires-clause-inside : goal.scanned-requires-clause-inside
scanned-requires-clause-inside g c = omega (arith, ap length c.as_slice.ensures, c.in-Ok.ensures.long, window-long (file_bytes c.args.agent.now c.args.handle.now) c.args.at 65536, c.requires.size, c.requires.inside)

pub returns-in-Ok-clause-reads : goal.returns-in-Ok-clause-reads
returns-in-Ok-clause-reads g c = reads-one g.S.Store.tells c.args.agent.now c.read.new.agent c.args.handle.now c.read.new.handle c.in-Ok.ensures.still c.in-Ok.ensures.same c.in-Ok.ensures.stored

pub returns-in-Ok-clause-scanned : goal.returns-in-Ok-clause-scanned
returns-in-Ok-clause-scanned g c = scans-on g.S.Store.tells (file_bytes c.args.agent.now c.args.handle.now) c.args.size c.args.at c.as_slice.result.now c.args.index.now c.scanned.new.index c.scanned.result (λ tell. piece-is (file_bytes c.args.agent.now c.args.handle.now) c.args.size c.args.at c.as_slice.result.now c.requires.size (c.as_slice.ensures ∙ c.in-Ok.ensures.read tell)) c.scanned.ensures.next c.scanned.ensures.read

pub returns-in-Ok-clause-far : goal.returns-in-Ok-clause-far
returns-in-Ok-clause-far g c = far-on c.args.size c.args.at (length c.as_slice.result.now) c.scanned.result (omega (arith, ap length c.as_slice.ensures, c.in-Ok.ensures.long, window-long (file_bytes c.args.agent.now c.args.handle.now) c.args.at 65536, c.requires.size, c.requires.inside)) (λ less. omega (arith, less, ap length c.as_slice.ensures, c.in-Ok.ensures.long, window-long (file_bytes c.args.agent.now c.args.handle.now) c.args.at 65536, c.requires.size, c.requires.inside)) c.scanned.ensures.far c.scanned.ensures.ends

pub returns-in-Ok-clause-cause : goal.returns-in-Ok-clause-cause
returns-in-Ok-clause-cause g c = if-err c.scanned.result (HasEnded c.args.size c.args.at c.as_slice.result.now c.args.index.now) (HasScanCause g.S.Store.tells c.args.agent.now c.read.new.agent c.args.handle.now.row (file_bytes c.args.agent.now c.args.handle.now) c.args.at c.args.index.now) (λ why h. ends-cause g.S.Store.tells c.args.agent.now c.read.new.agent (file_bytes c.args.agent.now c.args.handle.now) c.args.size c.args.at c.as_slice.result.now c.args.index.now why c.args.handle.now.row (λ tell. piece-is (file_bytes c.args.agent.now c.args.handle.now) c.args.size c.args.at c.as_slice.result.now c.requires.size (c.as_slice.ensures ∙ c.in-Ok.ensures.read tell)) h) c.scanned.ensures.bad

pub returns-in-Err-clause-reads : goal.returns-in-Err-clause-reads
returns-in-Err-clause-reads g c = reads-one g.S.Store.tells c.args.agent.now c.read.new.agent c.args.handle.now c.read.new.handle c.in-Err.ensures.still c.in-Err.ensures.same c.in-Err.ensures.stored

pub returns-in-Err-clause-cause : goal.returns-in-Err-clause-cause
returns-in-Err-clause-cause g c =
    caused-may c.args.agent.now c.read.new.agent (TheCall (op.SyncRead c.args.handle.now.row piece_bytes (Some c.args.at))) (IsPieceRead c.args.handle.now.row) c.in-Err.stop (λ o is. (c.args.at, is)) c.in-Err.ensures.cause
