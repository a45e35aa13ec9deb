-- Pages read as before where only the journal was used.
use Rattle.std.proofs.Common.{ℕ, List, inl, refl, sym, subst, ◌∙◌, arith}
use Rattle.opfs_books.specs.Laws.Laws.{LeavesPages}
use Rattle.opfs_journal.specs.Clauses.{Outside}
use Rattle.opfs_journal.specs.Seen.{Seen}
use Rattle.opfs_journal.specs.declared.areas.Areas.{Areas}
use Rattle.opfs_outside.specs.Moments.{Elapses, elapses-trans}
use Rattle.opfs_outside.specs.declared.disk.Disk.{Ghosts as DiskWords}
use Rattle.opfs_desk_steps.proofs.book_steps.Loop.{Falls}

pub elapses-here : {J : Type 0} (moment : J → ℕ) (since : J → ℕ → List ℕ → Type 0) (j : J) → Elapses moment since j j
elapses-here moment since j = record { later = omega arith; split = λ t c within left. inl left; keeps = λ t c within left. left }

pub leaves-here : {D : Type 0} (w : DiskWords D) (j : Seen D) → LeavesPages w j j
leaves-here w j = record {
  stays = record { areas = refl; length = refl; spare = refl };
  later = omega arith;
  outside = λ t i is. refl;
  time = λ t. elapses-here w.moment w.since j.disk;
}

pub leaves-both : {D : Type 0} (w : DiskWords D) → Falls w → (old mid new : Seen D) → LeavesPages w old mid → LeavesPages w mid new → LeavesPages w old new
leaves-both w falls old mid new first second = record {
  stays = record {
    areas = second.stays.areas ∙ first.stays.areas;
    length = second.stays.length ∙ first.stays.length;
    spare = second.stays.spare ∙ first.stays.spare;
  };
  later = omega (arith, first.later, second.later);
  outside = λ t i is. second.outside t i (subst (λ (a : Areas). Outside a i) (sym first.stays.areas) is) ∙ first.outside t i is;
  time = λ t. elapses-trans w.moment w.since (falls t) old.disk mid.disk new.disk (first.time t) (second.time t);
}
