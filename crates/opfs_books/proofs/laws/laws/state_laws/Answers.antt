use Rattle.opfs_books.proofs.laws.laws.state_laws.Goals as goal

pub returns : goal.returns
returns c = record {
  reached = c.what_every_reached_state_keeps.ensures;
  counts = c.a_state_counts_its_history.ensures;
  lengths = c.lengths_are_kept.ensures;
  faults = c.the_machine_never_faults.ensures;
}
