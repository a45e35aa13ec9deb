use Rattle.std.proofs.Common.{inl, length, ap, sym, subst, ◌∙◌, arith}
use Rattle.opfs_base.specs.Texts.{Text}
use Rattle.opfs_sync_files.specs.Files.{file_bytes}
use Rattle.opfs_hist.specs.declared.op.Op.TheVariants as op
use Rattle.opfs_sync_files.specs.Entries.{TheCall}
use Rattle.opfs_sync_files.proofs.Knowing.{caused-may}
use Rattle.opfs_kv.specs.Asked.{IsOpening}
use Rattle.opfs_kv.specs.Calls.{HasOpenCause}
use Rattle.opfs_kv.specs.Keeping.{Keeps}
use Rattle.opfs_kv.specs.declared.notes.Notes.{Notes}
use Rattle.opfs_kv.proofs.Results.{if-err, if-ok}
use Rattle.opfs_kv.proofs.Rooms.{places-room, room-after}
use Rattle.opfs_kv.proofs.Scanned.{open-later, reads-most, reads-one, reads-then}
use Rattle.opfs_kv.proofs.opening.read_notes.Goals as goal

pub size-requires-clause-room : goal.size-requires-clause-room
size-requires-clause-room g c = places-room c.args.agent.now c.requires.few

pub notes_of-requires-clause-own : goal.notes_of-requires-clause-own
notes_of-requires-clause-own g c = c.in-Ok.ensures.still.goes.hall ∙ c.requires.own

pub notes_of-requires-clause-room : goal.notes_of-requires-clause-room
notes_of-requires-clause-room g c = room-after c.args.agent.now c.size.new.agent 1 c.requires.few c.in-Ok.ensures.still.goes (omega arith)

pub notes_of-requires-clause-few : goal.notes_of-requires-clause-few
notes_of-requires-clause-few g c = omega (arith, c.requires.few.entries, c.in-Ok.ensures.still.goes.entries)

pub notes_of-requires-clause-handle : goal.notes_of-requires-clause-handle
notes_of-requires-clause-handle g c = c.in-Ok.ensures.still.has

pub notes_of-requires-clause-size : goal.notes_of-requires-clause-size
notes_of-requires-clause-size g c = ap length c.in-Ok.ensures.same ∙ sym c.in-Ok.ensures.size

pub returns-in-Ok-clause-reads : goal.returns-in-Ok-clause-reads
returns-in-Ok-clause-reads g c = reads-then g.S.Store.tells c.args.agent.now c.size.new.agent c.notes_of.new.agent c.args.handle.now c.args.handle.now c.notes_of.new.handle 1 260 (reads-one g.S.Store.tells c.args.agent.now c.size.new.agent c.args.handle.now c.args.handle.now c.in-Ok.ensures.still c.in-Ok.ensures.same c.in-Ok.ensures.stored) c.notes_of.ensures.reads

pub returns-in-Ok-clause-keeps : goal.returns-in-Ok-clause-keeps
returns-in-Ok-clause-keeps g c = if-ok c.notes_of.result (λ (n : Notes). Keeps g.S.Store.tells (file_bytes c.size.new.agent c.args.handle.now) n.live n.tail n.index) (λ (n : Notes). Keeps g.S.Store.tells (file_bytes c.args.agent.now c.args.handle.now) n.live n.tail n.index) (λ n h. subst (λ (t : Text). Keeps g.S.Store.tells t n.live n.tail n.index) c.in-Ok.ensures.same h) c.notes_of.ensures.keeps

pub returns-in-Ok-clause-cause : goal.returns-in-Ok-clause-cause
returns-in-Ok-clause-cause g c = if-err c.notes_of.result (HasOpenCause g.S.Store.tells c.size.new.agent c.notes_of.new.agent c.args.handle.now.row (file_bytes c.size.new.agent c.args.handle.now)) (HasOpenCause g.S.Store.tells c.args.agent.now c.notes_of.new.agent c.args.handle.now.row (file_bytes c.args.agent.now c.args.handle.now)) (λ why h. open-later g.S.Store.tells c.args.agent.now c.size.new.agent c.notes_of.new.agent 1 (file_bytes c.args.agent.now c.args.handle.now) why c.args.handle.now.row c.in-Ok.ensures.still.goes (subst (λ (t : Text). HasOpenCause g.S.Store.tells c.size.new.agent c.notes_of.new.agent c.args.handle.now.row t why) c.in-Ok.ensures.same h)) c.notes_of.ensures.cause

pub returns-in-Err-clause-reads : goal.returns-in-Err-clause-reads
returns-in-Err-clause-reads g c = reads-most g.S.Store.tells c.args.agent.now c.size.new.agent c.args.handle.now c.args.handle.now 1 261 (omega arith) (reads-one g.S.Store.tells c.args.agent.now c.size.new.agent c.args.handle.now c.args.handle.now c.in-Err.ensures.still c.in-Err.ensures.same c.in-Err.ensures.stored)

pub returns-in-Err-clause-cause : goal.returns-in-Err-clause-cause
returns-in-Err-clause-cause g c =
    caused-may c.args.agent.now c.size.new.agent (TheCall (op.SyncGetSize c.args.handle.now.row)) (IsOpening (file_bytes c.args.agent.now c.args.handle.now) c.args.handle.now.row) c.in-Err.stop (λ o is. inl is) c.in-Err.ensures.cause
