-- What a look finds.
use Rattle.std.proofs.Common.{◌≡◌, ℕ, true, false, Bool, Option, Some, None, List, [], ◌∷◌, length, replicate, refl, sym, ap, subst, ◌∙◌}
use Rattle.std.proofs.lemmas.List.{length-replicate}
use Rattle.opfs_blocks.specs.Sets.{marked}
use Rattle.opfs_data.specs.declared.page.Page.{Page}
use Rattle.opfs_data.specs.Rows.{Rows, AreInOrder}
use Rattle.opfs_records.specs.Replay.Built.{has_block}
use Rattle.opfs_space.specs.Spaces.{SpaceSeen, block_seen, pages_seen, files_seen}
use Rattle.opfs_space.specs.Holders.{all_pages, AreSwept}
use Rattle.opfs_space.proofs.Sweeping.{swept, own_length, seen_length, marked_length}
use Rattle.opfs_space.proofs.Paged.{are_swept}

all_own : (pages : List Page) (space : SpaceSeen) → length (pages_seen pages space).own ≡ length space.own
all_own [] space = refl
all_own (p ∷ pages) space = all_own pages (block_seen p.block space) ∙ own_length p.block space

all_seen : (pages : List Page) (space : SpaceSeen) → length (pages_seen pages space).seen ≡ length space.seen
all_seen [] space = refl
all_seen (p ∷ pages) space = all_seen pages (block_seen p.block space) ∙ seen_length p.block space

all_used : (pages : List Page) (space : SpaceSeen) → (pages_seen pages space).used ≡ space.used
all_used [] space = refl
all_used (p ∷ pages) space = all_used pages (block_seen p.block space) ∙ same p.block space where
  same : (o : Option ℕ) (s : SpaceSeen) → (block_seen o s).used ≡ s.used
  same None s = refl
  same (Some b) s = refl

module _ (files : List ℕ) (swap : Rows) (start begun mid end : SpaceSeen) (order : AreInOrder swap)
    (first : begun ≡ record start { own = replicate (length start.used) false; seen = replicate (length start.used) false })
    (second : mid ≡ record begun { seen = marked true files begun.seen }) (third : end ≡ pages_seen (all_pages swap) mid) where
  mid_is : mid ≡ files_seen (length start.used) files start
  mid_is = second ∙ ap (λ (s : SpaceSeen). record s { seen = marked true files s.seen }) first

  end_is : end ≡ pages_seen (all_pages swap) (files_seen (length start.used) files start)
  end_is = third ∙ ap (pages_seen (all_pages swap)) mid_is

  pub look_used : end.used ≡ start.used
  look_used = ap (λ (s : SpaceSeen). s.used) end_is ∙ all_used (all_pages swap) (files_seen (length start.used) files start)

  pub look_found : AreSwept (length start.used) (has_block files) swap end.seen end.own
  look_found =
      let n = length start.used in
      let from = files_seen n files start in
      let found : AreSwept n (has_block files) swap (pages_seen (all_pages swap) from).seen (pages_seen (all_pages swap) from).own =
      are_swept n files swap (pages_seen (all_pages swap) from) order (all_seen (all_pages swap) from ∙ (marked_length files (replicate n false) ∙ length-replicate {A = Bool} n false))
      (all_own (all_pages swap) from ∙ length-replicate {A = Bool} n false) (swept n files (all_pages swap) start) in
      subst (λ (s : SpaceSeen). AreSwept n (has_block files) swap s.seen s.own) (sym end_is) found
