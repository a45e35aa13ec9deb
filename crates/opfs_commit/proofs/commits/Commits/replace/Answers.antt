use Rattle.std.proofs.Common.{◌⊎◌, ◌<◌, ◌+◌, inl, inr, arith}
use Rattle.std.proofs.lemmas.Bool.{false≢true, cases_lt}
use Rattle.opfs_commit.proofs.commits.Commits.replace.Goals as goal

pub returns-in_default-clause-no_room : goal.returns-in_default-clause-no_room
returns-in_default-clause-no_room g c =
    rw (← c.self.view_is) (λ h size most has. elim (cases_lt c.self.inside.room most) as (λ t. (c.self.inside.room < most) ⊎ (c.args.journal.now.areas.bytes < most + 7)) [
      | inl lt ↦ inl lt
      | inr le ↦ absurd (false≢true (c.in_default.ensures.room size has.next has.sound has.found (omega (arith, has.fits, le, c.self.invariant.1))))
    ])

pub returns-then-len-self-clause-no_room : goal.returns-then-len-self-clause-no_room
returns-then-len-self-clause-no_room g c =
    rw (← c.self.view_is) (λ h size most has. inl (omega (arith, c.if-len-self.true, c.len.ensures, c.snapshot_after.new.into.ok.0, c.in-Ok.ensures.fits size has.next has.sound has.found, has.fits)))

pub returns-in-Err-clause-no_room : goal.returns-in-Err-clause-no_room
returns-in-Err-clause-no_room g c =
    rw (← c.self.view_is) (λ h size most has. inr (omega (arith, c.in-Err.ensures.no_room.0 h, c.in-Ok.ensures.fits size has.next has.sound has.found, has.fits, c.deref.ensures.len)))
