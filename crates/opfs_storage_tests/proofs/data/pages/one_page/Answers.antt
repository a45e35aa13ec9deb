use Rattle.opfs_storage_tests.proofs.data.pages.one_page.Goals as goal

pub returns-clause-bytes : goal.returns-clause-bytes
returns-clause-bytes c = λ given. (c.in_ok-add_own.ensures.bytes given (c.make-writes.ensures.bytes given)).runs
