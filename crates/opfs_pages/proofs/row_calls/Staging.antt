-- What was staged of a row.
use Rattle.std.proofs.Common.{◌≡◌, List, sym, subst, inl, inr}
use Rattle.opfs_base.specs.Blocks.{blocks}
use Rattle.opfs_data.specs.Pages.{NamesPage}
use Rattle.opfs_data.specs.Writes.{PageWrite, WriteList, HasBytes, page_writes, page_moves}
use Rattle.opfs_pages.specs.Copies.{AreRight}
use Rattle.opfs_pages.specs.Stages.{Stage, changed, IsStaged}
use Rattle.opfs_space.specs.Plans.{ArePlanned}

-- A list with the same pages was staged alike.
pub staged-same : (tells : Type 0) (s : Stage) (v w : WriteList) → page_writes w s.given ≡ page_writes v s.given → page_moves w s.given ≡ page_moves v s.given → (HasBytes v s.given → HasBytes w s.given)
    → IsStaged tells s v → IsStaged tells s w
staged-same tells s v w writes moves bytes is = record {
  right = λ told row copy held.
      let r = is.right told row copy held in
      record { writes = subst (AreRight (changed row s.at s.given s.size)) (sym writes) r.writes; moves = subst (AreRight (changed row s.at s.given s.size)) (sym moves) r.moves };
  bytes = bytes is.bytes;
  known = λ i within. elim (is.known i within) [
    | inl named ↦ inl (elim named [
      | inl here ↦ inl (subst (λ (l : List PageWrite). NamesPage l i) (sym writes) here)
      | inr later ↦ inr (subst (λ (l : List PageWrite). NamesPage l i) (sym moves) later)
    ])
    | inr rest ↦ inr rest
  ];
  planned = subst (λ (l : List PageWrite). ArePlanned s.own s.swap s.agent s.row (blocks s.size) l (page_moves w s.given)) (sym writes)
      (subst (λ (l : List PageWrite). ArePlanned s.own s.swap s.agent s.row (blocks s.size) (page_writes v s.given) l) (sym moves) is.planned);
}
