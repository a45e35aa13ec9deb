use Rattle.std.proofs.Common.{[], ◌∙◌}
use Rattle.opfs_storage_tests.proofs.data.Again.{saved_for, first_pages, one_lies, page_lies}
use Rattle.opfs_storage_tests.proofs.data.pages.write_and_look.Goals as goal

pub write-requires-clause-lies : goal.write-requires-clause-lies
write-requires-clause-lies c = one_lies _ _ _ (c.in_ok-writes.ensures.pages []) (c.in_ok-prepare.ensures.reads.stays.length ∙ c.requires.size)

pub write-requires-clause-within : goal.write-requires-clause-within
write-requires-clause-within c = c.in_ok-writes.ensures.bytes []

pub write-requires-clause-saved : goal.write-requires-clause-saved
write-requires-clause-saved c = saved_for c.prepare.new.self.saved c.prepare.new.self.pages c.in_ok-writes.writes [] c.in_ok-prepare.ensures.saved

pub read-requires-clause-lies : goal.read-requires-clause-lies
read-requires-clause-lies c =
    page_lies _ _ (first_pages _ _ _ _ (c.in_ok-prepare.ensures.same ∙ c.in_ok-row.ensures.pages) (c.in_ok-writes.ensures.pages []) c.in_ok-write.ensures.pages)
    (c.in_ok-write.ensures.writes.stays.length ∙ c.in_ok-prepare.ensures.reads.stays.length ∙ c.requires.size)
