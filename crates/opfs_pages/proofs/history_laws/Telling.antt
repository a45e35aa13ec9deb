-- What the store's pages tell goes on.
use Rattle.std.proofs.Common.{◌≡◌, ℕ, ◌*◌, ◌<◌, true, List, ◌++◌, length, Some, inl, inr, sym, ◌∙◌, subst}
use Rattle.opfs_base.specs.Texts.{Text}
use Rattle.opfs_data.specs.Pages.{page_of}
use Rattle.opfs_data.specs.Rows.{Rows, pages_at, page_at, IsOther}
use Rattle.opfs_hist.specs.declared.entry.Entry.{Entry}
use Rattle.opfs_machine.specs.Histories.{state_after}
use Rattle.opfs_machine.specs.Openings.{Opening}
use Rattle.opfs_pages.specs.Copies.{IsBegun}
use Rattle.opfs_laws.specs.Steady.Steady.{row_bytes, is_steady, BeginsAs}
use Rattle.opfs_laws.proofs.steady.GoingOn.{steady-has, steady-was, begins-more}
use Rattle.opfs_pages.specs.HistoryLaws.Told.{AreThere, AreTold, IsToldAt, NoOtherSettles, OthersHavePages, OthersReadAlike, HasAllPages, AllAreTold}
use Rattle.opfs_pages.proofs.history_laws.Begun.{begins-begun, begun-begins, has-bytes, other-or}

module _ (o : Opening) (h more : List Entry) (agent row : ℕ) (old new : Rows) (none : NoOtherSettles o h more agent row) (stay : OthersHavePages old new agent row) where
  has : (k n i : ℕ) → is_steady o h k n i ≡ true → (bytes : Text) × (row_bytes (state_after o h) k n ≡ Some bytes) × (4096 * i < length bytes)
  has k n i is = has-bytes (row_bytes (state_after o h) k n) i (steady-has o h k n i is)

  has-after : (k n i : ℕ) → is_steady o (h ++ more) k n i ≡ true → (bytes : Text) × (row_bytes (state_after o (h ++ more)) k n ≡ Some bytes) × (4096 * i < length bytes)
  has-after k n i is = has-bytes (row_bytes (state_after o (h ++ more)) k n) i (steady-has o (h ++ more) k n i is)

  pub there-goes-on : AreThere o h old → HasAllPages o (h ++ more) new agent row → AreThere o (h ++ more) new
  there-goes-on was whole k n i is = elim (other-or agent row k n) [
    | inl apart ↦ stay k n i apart (was k n i (steady-was o h more k n i (none k n apart) is))
    | inr here ↦
        let found = has-after k n i is in
        subst (λ (r : ℕ). i < length (pages_at k r new)) (sym here.1)
        (subst (λ (a : ℕ). i < length (pages_at a row new)) (sym here.0)
        (whole i found.0 (subst (λ (r : ℕ). row_bytes (state_after o (h ++ more)) agent r ≡ Some found.0) here.1
        (subst (λ (a : ℕ). row_bytes (state_after o (h ++ more)) a n ≡ Some found.0) here.0 found.1)) found.2))
  ]

  module _ (base : ℕ) (c d : List ℕ) (alike : OthersReadAlike base c d old new agent row) (was : AreThere o h old) (told : AreTold o h base c old) where
    told-other : (k n i : ℕ) → IsOther agent row k n → is_steady o (h ++ more) k n i ≡ true → IsToldAt o (h ++ more) base d new k n i
    told-other k n i apart is bytes here =
        let steady = steady-was o h more k n i (none k n apart) is in
        let found = has k n i steady in
        let same = alike k n i apart (was k n i steady) in
        let known : IsBegun found.0 i (page_of d base (page_at k n i new)) = subst (IsBegun found.0 i) (sym same) (told.begins k n i steady found.0 found.1) in
        let before : BeginsAs (row_bytes (state_after o h) k n) i (page_of d base (page_at k n i new)) =
        subst (λ r. BeginsAs r i (page_of d base (page_at k n i new))) (sym found.1) (begun-begins found.0 (page_of d base (page_at k n i new)) i found.2 known)
        in
        let after = begins-more o h more k n i (page_of d base (page_at k n i new)) (none k n apart) is before in
        begins-begun bytes (page_of d base (page_at k n i new)) i known.size (subst (λ r. BeginsAs r i (page_of d base (page_at k n i new))) here after)

    pub told-goes-on : AllAreTold o (h ++ more) base d new agent row → AreTold o (h ++ more) base d new
    told-goes-on whole = record {
      begins = λ k n i is bytes here. elim (other-or agent row k n) [
        | inl apart ↦ told-other k n i apart is bytes here
        | inr both ↦
            let found = has-after k n i is in
            let known = sym here ∙ found.1 in
            let same : bytes ≡ found.0 = cc in
            subst (λ (r : ℕ). IsBegun bytes i (page_of d base (page_at k r i new))) (sym both.1)
            (subst (λ (a : ℕ). IsBegun bytes i (page_of d base (page_at a row i new))) (sym both.0)
            (whole i bytes (subst (λ (r : ℕ). row_bytes (state_after o (h ++ more)) agent r ≡ Some bytes) both.1
            (subst (λ (a : ℕ). row_bytes (state_after o (h ++ more)) a n ≡ Some bytes) both.0 here)) (subst (λ (b : Text). 4096 * i < length b) (sym same) found.2)))
      ];
    }
