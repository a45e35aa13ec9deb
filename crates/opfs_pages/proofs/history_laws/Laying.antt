-- How what ties pages and blocks to a history goes on.
use Rattle.std.proofs.Common.{◌≡◌, ℕ, ◌<◌, is_some, List, [], ◌∷◌, ◌++◌, length, unwrap_or, sym, ap, subst, ◌∙◌, inl, inr}
use Rattle.opfs_data.specs.Rows.{row_of, no_row}
use Rattle.opfs_hist.specs.declared.entry.Entry.{Entry}
use Rattle.opfs_machine.specs.Histories.{state_after}
use Rattle.opfs_machine.specs.Openings.{Opening}
use Rattle.opfs_space.specs.Room.{Machine}
use Rattle.opfs_space.specs.Spaces.{SpaceSeen}
use Rattle.opfs_pages.specs.HistoryLaws.Hands.{row_in_hand}
use Rattle.opfs_pages.specs.HistoryLaws.Laid.{AreLaid, IsLaidBeside, IsLaidInHand}
use Rattle.opfs_pages.specs.HistoryLaws.Open.{open_at}
use Rattle.opfs_pages.specs.HistoryLaws.Spaced.{Shelf, AreSpaced}
use Rattle.opfs_pages.specs.HistoryLaws.Told.{AreRowed, NoOtherSettles, OthersHavePages}
use Rattle.opfs_pages.proofs.history_laws.Alike.{there-stays, told-stays}
use Rattle.opfs_pages.proofs.history_laws.Begun.{other-or}
use Rattle.opfs_pages.proofs.history_laws.Hands.{hand-settles}
use Rattle.opfs_pages.proofs.history_laws.Telling.{there-goes-on, told-goes-on}

pub laid-beside : (tells : Type 0) (o : Opening) (h more : List Entry) (base : ℕ) (c d : List ℕ) (m t : Machine) (s r : Shelf) (old new : SpaceSeen) → IsLaidBeside tells o h more base c d m t s r → AreSpaced t r new
    → AreLaid tells o h base c m s old → AreLaid tells o (h ++ more) base d t r new
laid-beside tells o h more base c d m t s r old new is spaced was = record {
  rows = λ k n. is.swap_rows k n ∙ was.rows k n ∙ sym (is.open_rows k n);
  there = there-stays o h more s.swap r.swap is.go_on.none is.go_on.stay was.there;
  told = λ told. told-stays o h more s.swap r.swap is.go_on.none is.go_on.stay base c d (is.alike told) was.there (was.told told);
  spaced = spaced;
}

module _ (tells : Type 0) (o : Opening) (h : List Entry) (e : Entry) (base : ℕ) (c d : List ℕ) (m t : Machine) (s r : Shelf) (is : IsLaidInHand tells o h e base c d m t s r) where
  abbrev hand : ℕ
  hand = row_in_hand (state_after o h) e.agent e.op

  none : NoOtherSettles o h (e ∷ []) e.agent hand
  none k n apart = (hand-settles (state_after o h) e k n apart, tt)

  stay : OthersHavePages s.swap r.swap e.agent hand
  stay k n i apart within = subst (λ x. i < length (unwrap_or x no_row).pages) (sym (is.others k n apart)) within

  rowed : AreRowed m s.swap → AreRowed t r.swap
  rowed was k n = elim (other-or e.agent hand k n) [
    | inl apart ↦ ap (λ x. is_some x) (is.others k n apart) ∙ was k n ∙ ap (λ x. is_some x) (sym (is.others_open k n apart))
    | inr here ↦
        subst (λ (x : ℕ). is_some (row_of k x r.swap) ≡ is_some (open_at t k x)) (sym here.1)
        (subst (λ (x : ℕ). is_some (row_of x hand r.swap) ≡ is_some (open_at t x hand)) (sym here.0) is.here)
  ]

  pub laid-in-hand : (old new : SpaceSeen) → AreSpaced t r new → AreLaid tells o h base c m s old → AreLaid tells o (h ++ e ∷ []) base d t r new
  laid-in-hand old new spaced was = record {
    rows = rowed was.rows;
    there = there-goes-on o h (e ∷ []) e.agent hand s.swap r.swap none stay was.there is.there;
    told = λ told. told-goes-on o h (e ∷ []) e.agent hand s.swap r.swap none stay base c d (λ k n i apart within. is.read told k n i apart within) was.there (was.told told) (is.told told);
    spaced = spaced;
  }
