use Rattle.std.proofs.Common.{ℕ, [], length, ap, subst, ◌∙◌, arith}
use Rattle.opfs_base.specs.Texts.{Text}
use Rattle.opfs_sync_files.specs.Files.{file_bytes}
use Rattle.opfs_kv.specs.Opening.{HasScanCause}
use Rattle.opfs_kv.proofs.Scanned.{cause-then, reads-then, reads-within, scan-more}
use Rattle.opfs_kv.proofs.opening.scan_all.Goals as goal

pub scan_piece-requires-clause-own : goal.scan_piece-requires-clause-own
scan_piece-requires-clause-own g c = c.loop-next.invariant.reads.goes.hall ∙ c.requires.own

pub scan_piece-requires-clause-room : goal.scan_piece-requires-clause-room
scan_piece-requires-clause-room g c = record { rows = omega (arith, c.requires.room.rows, c.loop-next.invariant.reads.goes.rows); entries = omega (arith, c.requires.few, c.loop-next.invariant.reads.goes.entries) }

pub scan_piece-requires-clause-handle : goal.scan_piece-requires-clause-handle
scan_piece-requires-clause-handle g c = c.loop-next.invariant.reads.has

pub scan_piece-requires-clause-size : goal.scan_piece-requires-clause-size
scan_piece-requires-clause-size g c = ap length c.loop-next.invariant.reads.bytes ∙ c.requires.size

pub scan_piece-requires-clause-fitting : goal.scan_piece-requires-clause-fitting
scan_piece-requires-clause-fitting g c = c.loop-next.invariant.scanned.fitting

pub returns-in-Err-clause-reads : goal.returns-in-Err-clause-reads
returns-in-Err-clause-reads g c = reads-within g.S.Store.tells c.args.agent.now c.scan_piece.new.agent c.args.handle.now c.scan_piece.new.handle 261 260 (omega (arith, c.loop-next.invariant.ahead c.loop-next-test.true, c.in-Err.ensures.reads.goes.entries, c.requires.small, c.loop-next-test.true)) (reads-then g.S.Store.tells c.args.agent.now c.loop-next.agent c.scan_piece.new.agent c.args.handle.now c.loop-next.handle c.scan_piece.new.handle 260 1 c.loop-next.invariant.reads c.in-Err.ensures.reads)

pub returns-in-Err-clause-cause : goal.returns-in-Err-clause-cause
returns-in-Err-clause-cause g c = cause-then g.S.Store.tells c.args.agent.now c.loop-next.agent c.scan_piece.new.agent 260 (file_bytes c.args.agent.now c.args.handle.now) c.loop-next.next [] c.loop-next.index c.in-Err.stop c.args.handle.now.row c.loop-next.invariant.reads.goes c.loop-next.invariant.scanned.read (subst (λ (row : ℕ). HasScanCause g.S.Store.tells c.loop-next.agent c.scan_piece.new.agent row (file_bytes c.args.agent.now c.args.handle.now) c.loop-next.next c.loop-next.index c.in-Err.stop) c.loop-next.invariant.reads.row (subst (λ (t : Text). HasScanCause g.S.Store.tells c.loop-next.agent c.scan_piece.new.agent c.loop-next.handle.row t c.loop-next.next c.loop-next.index c.in-Err.stop) c.loop-next.invariant.reads.bytes c.in-Err.ensures.cause))

pub loop-next-preserved : goal.loop-next-preserved
loop-next-preserved g c = let m = scan-more g.S.Store.tells c.args.agent.now c.loop-next.agent c.scan_piece.new.agent c.args.handle.now c.loop-next.handle c.scan_piece.new.handle c.args.size c.loop-next.next c.in-Ok.behind c.loop-next.index c.scan_piece.new.index c.requires.small c.loop-next.invariant.reads c.loop-next.invariant.count (c.loop-next.invariant.ahead c.loop-next-test.true) c.loop-next.invariant.scanned c.in-Ok.ensures.reads c.in-Ok.ensures.scanned c.in-Ok.ensures.far in record { reads = m.reads; count = m.count; ahead = m.ahead; scanned = m.scanned }
