use Rattle.std.proofs.Common.{◌++◌, ◌∷◌, []}
use Rattle.opfs_machine.specs.declared.own.Own.TheVariants as own
use Rattle.opfs_machine.specs.Histories.{state_after}
use Rattle.opfs_pages.proofs.history_laws.Copied.{left-stands, stream-copy, handle-copy}
use Rattle.opfs_pages.proofs.history_laws.rows.copies_stand_for_their_row.Goals as goal

pub returns-clause-stream : goal.returns-clause-stream
returns-clause-stream g c = λ o h e n w work is paged copy.
    left-stands g.D.Disk.tells o h e n (own.Stream w) work is.turn is.done is.some is.named paged is.there (stream-copy g.D.Disk.tells (state_after o (h ++ e ∷ [])) w work copy)

pub returns-clause-handle : goal.returns-clause-handle
returns-clause-handle g c = λ o h e n r work is paged copy.
    left-stands g.D.Disk.tells o h e n (own.Handle r) work is.turn is.done is.some is.named paged is.there (handle-copy g.D.Disk.tells (state_after o (h ++ e ∷ [])) r work copy)
