use Rattle.std.proofs.Common.{arith}
use Rattle.opfs_sync_files.specs.Files.{file_bytes}
use Rattle.opfs_sync_files.proofs.Knowing.{goes-none}
use Rattle.opfs_kv.proofs.Kept.{opened-keeps}
use Rattle.opfs_kv.proofs.Scanned.{open-cause}
use Rattle.opfs_kv.proofs.opening.notes_in.Goals as goal

pub returns-in-Ok-clause-keeps : goal.returns-in-Ok-clause-keeps
returns-in-Ok-clause-keeps g c = opened-keeps g.S.Store.tells (file_bytes c.args.agent.now c.args.handle.now) c.args.size c.scan_all.new.index c.requires.size c.requires.small c.in-Ok.ensures.scanned.fitting c.in-Ok.ensures.scanned.read

pub returns-in-Err-clause-cause : goal.returns-in-Err-clause-cause
returns-in-Err-clause-cause g c = open-cause g.S.Store.tells c.args.agent.now c.args.agent.now c.scan_all.new.agent 0 (file_bytes c.args.agent.now c.args.handle.now) c.in-Err.stop c.args.handle.now.row (goes-none c.args.agent.now) (omega (arith, c.requires.size, c.requires.small)) c.in-Err.ensures.cause
