use Rattle.opfs_data.proofs.paged_row.PagedRow.prepare.Goals as goal

pub returns-clause-saved : goal.returns-clause-saved
returns-clause-saved g c = λ given. rw (← c.deref.ensures.value, ← c.runs.ensures) (c.in_ok-saved.ensures.saved c.args.writes.now.own given)
