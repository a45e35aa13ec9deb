use Rattle.opfs_books.proofs.laws.laws.commit_laws.Goals as goal

pub returns : goal.returns
returns g c = λ told. record {
  fronts = c.an_image_shows_a_front.ensures told;
  durable = c.records_are_written.ensures.durable told;
  in_doubt = c.records_are_written.ensures.in_doubt told;
  shown = c.records_are_written.ensures.shown told;
  ends = c.a_doubt_ends.ensures.ends told;
  stays = c.a_doubt_ends.ensures.stays told;
  gate = c.a_doubt_ends.ensures.none told;
  ends_shown = c.a_doubt_ends.ensures.shown told;
  stays_shown = c.a_doubt_ends.ensures.shown_still told;
  kept = c.a_change_is_kept_back.ensures told;
  next = c.records_are_to_be_stored.ensures.next told;
  alone = c.records_are_to_be_stored.ensures.next_alone told;
  begins = c.a_run_begins_with_its_image.ensures told;
  rows = c.the_rows_hold_what_was_told.ensures.rows told;
  finished = c.the_rows_hold_what_was_told.ensures.finished told;
  at_rest = c.the_rows_hold_what_was_told.ensures.at_rest told;
  last_content = c.the_rows_hold_what_was_told.ensures.last_content told;
  reads = c.other_calls_leave_the_images.ensures.reads told;
  reads_shown = c.other_calls_leave_the_images.ensures.shown told;
  pages = c.other_calls_leave_the_images.ensures.pages told;
  pages_shown = c.other_calls_leave_the_images.ensures.shown_beside told;
  trail_begins = c.a_trail_grows.ensures.begins told;
  trail_on = c.a_trail_grows.ensures.goes_on told;
  trail_kept = c.a_trail_grows.ensures.kept told;
  trail_committed = c.a_trail_grows.ensures.committed told;
  filled = c.changes_go_through_filling.ensures.filled;
  quiet = c.changes_go_through_filling.ensures.kept;
}
