use Rattle.opfs_pages.proofs.history_laws.Hands.{hand-settles}
use Rattle.opfs_pages.proofs.history_laws.Leaving.{open-left, open-evicted}
use Rattle.opfs_pages.proofs.history_laws.steady.calls_leave_other_rows.Goals as goal

pub returns : goal.returns
returns c = record { settled = hand-settles; called = λ s j op told live. open-left s j op told live; cleared = open-evicted }
