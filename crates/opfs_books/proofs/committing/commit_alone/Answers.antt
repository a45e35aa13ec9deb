use Rattle.std.proofs.Common.{inl, inr, Err, arith}
use Rattle.opfs_books.proofs.committing.commit_alone.Goals as goal

pub unreachable-requires : goal.unreachable-requires
unreachable-requires g c = elim (c.in-Err-NoRoom.ensures.no_room (λ i. Err (c.in-Err-NoRoom.field-0-is i)) c.requires.may.size c.requires.may.most c.requires.may.now) [
  | inl less ↦ absurd (omega (arith, less, c.requires.may.kept))
  | inr less ↦ absurd (omega (arith, less, c.requires.may.area))
]
