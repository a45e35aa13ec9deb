use Rattle.std.proofs.Common.{◌⊎◌, ◌<◌, ◌+◌, Err, inl, inr, ap, arith}
use Rattle.opfs_commit.specs.Seen.{KeptBack}
use Rattle.opfs_journal.specs.Seen.{Seen}
use Rattle.opfs_commit.proofs.commits.Commits.commit_kept.Goals as goal

pub returns-in-Err-clause-no_room : goal.returns-in-Err-clause-no_room
returns-in-Err-clause-no_room g c h size most has =
    let same = c.in-Err-NoRoom.ensures.unchanged (λ i. Err (c.in-Err-NoRoom.field-0-is i)) in
    elim (c.in-Err.ensures.no_room h size most has) as (λ t. (c.args.self.now.room < most) ⊎ (c.args.journal.now.areas.bytes < most + 7)) [
      | inl lt ↦ inl (omega (arith, lt, ap (λ (k : KeptBack). k.room) same.1))
      | inr lt ↦ inr (omega (arith, lt, ap (λ (j : Seen g.row.D.Denot). j.areas.bytes) same.0))
    ]
