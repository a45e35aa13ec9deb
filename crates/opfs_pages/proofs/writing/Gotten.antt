-- Planned pages get their blocks.
use Rattle.std.proofs.Common.{◌≡◌, ℕ, ◌+◌, ◌-◌, ◌*◌, ◌^◌, ◌<◌, ◌≤◌, ◌++◌, ◌||◌, nat_eq, Bool, true, false, List, [], ◌∷◌, length, take, refl, sym, ap, subst, ◌∙◌, inl, inr, arith}
use Rattle.std.specs.List.{AllByRecursion}
use Rattle.std.proofs.lemmas.Bool.{eq-eqb}
use Rattle.std.proofs.lemmas.List.{length-append, length-take}
use Rattle.std.proofs.lemmas.List.FromFn.{length-range_with_len}
use Rattle.opfs_base.specs.declared.extents.Extent.{Extent}
use Rattle.opfs_blocks.specs.Sets.{is_used, free_blocks, marked, blocks_of, AreBelow, AreJoined}
use Rattle.opfs_blocks.specs.Sets.{blocks_in as extent_blocks}
use Rattle.opfs_blocks.proofs.SetLemmas.{all_front, all_back, below_at}
use Rattle.opfs_data.specs.Pages.{runs_of, IsAgain, AreOnce}
use Rattle.opfs_data.specs.Places.{AllLie}
use Rattle.opfs_data.specs.Rows.{pages_at}
use Rattle.opfs_data.specs.Writes.{PageWrite, WriteList, page_writes, page_moves, placed, blocks_in}
use Rattle.opfs_records.specs.Replay.Built.{has_block}
use Rattle.opfs_space.specs.Holders.{Holders, AreBlocks, AreMine, Writes}
use Rattle.opfs_space.specs.Plans.{ArePlanned}
use Rattle.opfs_space.specs.Spaces.{SpaceSeen}
use Rattle.opfs_space.proofs.Counting.{taken_below}
use Rattle.opfs_space.proofs.Keeping.{both}
use Rattle.opfs_space.proofs.Mine.{planned_mine, planned_once, mine_own, mine_free}
use Rattle.opfs_space.proofs.Taking.{are_free, blocks_taken, marked_size}
use Rattle.opfs_pages.specs.Writing.Puts.{IsTaken, IsPlaced, all_writes}

-- ---- what each page of a list has, all have

all_have : (P : PageWrite → Type 0) (ws : List PageWrite) → ((w : PageWrite) → Writes ws w.page w.block → P w) → AllByRecursion P ws
all_have P [] each = tt
all_have P (w ∷ ws) each = (each w (inl (refl, refl)), all_have P ws (λ x there. each x (inr there)))

lie_all : (base end : ℕ) (ws : List PageWrite) → ((w : PageWrite) → Writes ws w.page w.block → base + 4096 * w.block + 4096 ≤ end) → AllLie base end (runs_of ws)
lie_all base end [] each = tt
lie_all base end (w ∷ ws) each = (let here = each w (inl (refl, refl)) in omega arith, lie_all base end ws (λ x there. each x (inr there)))

placed_has : (move : List PageWrite) (blocks : List ℕ) (i b : ℕ) → Writes (placed move blocks) i b → has_block blocks b ≡ true
placed_has [] blocks i b w = absurd w
placed_has (x ∷ move) [] i b w = absurd w
placed_has (x ∷ move) (y ∷ blocks) i b (inl here) = ap (λ (s : Bool). s || has_block blocks b) (eq-eqb b y (sym here.1))
placed_has (x ∷ move) (y ∷ blocks) i b (inr later) = either_true (nat_eq b y) (has_block blocks b) (placed_has move blocks i b later)
  where
    either_true : (s t : Bool) → t ≡ true → (s || t) ≡ true
    either_true true t is = refl
    either_true false t is = is

-- ---- extents

all_small : (size : ℕ) (es : List Extent) → AreJoined es → AreBelow size (blocks_of es) → AllByRecursion (λ e. e.start + e.count ≤ size) es
all_small size [] joined below = tt
all_small size (e ∷ es) joined below =
    let here = below_at size e.start e.count (e.count - 1) (all_front (λ b. b < size) (extent_blocks e) (blocks_of es) below) (omega (arith, joined.0)) in
    (omega (arith, joined.0), all_small size es joined.2 (all_back (λ b. b < size) (extent_blocks e) (blocks_of es) below))

all_some : (es : List Extent) → AreJoined es → AllByRecursion (λ e. 0 < e.count) es
all_some [] joined = tt
all_some (e ∷ es) joined = (joined.0, all_some es joined.2)

few_runs : (es : List Extent) → AreJoined es → length es ≤ length (blocks_of es)
few_runs [] joined = omega arith
few_runs (e ∷ es) joined =
    let rest = few_runs es joined.2 in
    omega (arith, length-append (extent_blocks e) (blocks_of es), length-range_with_len e.start e.count, joined.0)

more_below : (a b : ℕ) (es : List Extent) → a ≤ b → AllByRecursion (λ e. e.start + e.count ≤ a) es → AllByRecursion (λ e. e.start + e.count ≤ b) es
more_below a b [] le all = tt
more_below a b (e ∷ es) le all = (let here = all.0 in omega arith, more_below a b es le all.1)

module _ (h : Holders) (old new : SpaceSeen) (agent row pages count : ℕ) (w : WriteList) (given : List ℕ) (extents : List Extent) (are : AreBlocks h old.used old.own) (size : length old.own ≡ length old.used)
    (plan : ArePlanned old.own h.swap agent row pages (page_writes w given) (page_moves w given)) (many : length (page_moves w given) ≡ count) (is : IsTaken old new count extents) where
  abbrev stay : List PageWrite
  stay = page_writes w given

  abbrev move : List PageWrite
  move = page_moves w given

  abbrev taken : List ℕ
  taken = take (length move) (free_blocks old.used)

  blocks_are : blocks_of extents ≡ taken
  blocks_are = is.least ∙ ap (λ n. take n (free_blocks old.used)) (sym many)

  new_is : new ≡ record old { used = marked true taken old.used; own = marked true taken old.own }
  new_is = is.taken ∙ ap (λ (bs : List ℕ). record old { used = marked true bs old.used; own = marked true bs old.own }) blocks_are

  pub gotten-mine : AreMine new.used new.own h.swap agent row pages (all_writes w given extents)
  gotten-mine =
      subst (λ (bs : List ℕ). AreMine new.used new.own h.swap agent row pages (stay ++ placed move bs)) (sym blocks_are)
      (subst (λ (s : SpaceSeen). AreMine s.used s.own h.swap agent row pages (stay ++ placed move taken)) (sym new_is)
      (planned_mine h old.used old.own agent row pages stay move are size plan))

  pub gotten-placed : (base end : ℕ) → base + 4096 * length old.used ≤ end → length old.used ≤ 2 ^ 32 → IsPlaced base end h.swap agent row pages w given extents
  gotten-placed base end fits small =
      let below : AreBelow (length old.used) (blocks_of extents) = subst (AreBelow (length old.used)) (sym blocks_are) (taken_below old.used (length move) (length old.used) refl) in
      let lengths : length (blocks_of extents) ≡ length move = ap length blocks_are ∙ length-take (length move) (free_blocks old.used) ∙ omega (arith, is.enough, many) in
      let sizes : length new.used ≡ length old.used = ap (λ (s : SpaceSeen). length s.used) new_is ∙ marked_size true taken old.used in
      record {
        some = all_some extents is.joined;
        small = more_below (length old.used) (2 ^ 32) extents small (all_small (length old.used) extents is.joined below);
        runs = few_runs extents is.joined;
        blocks = sym lengths;
        lies = lie_all base end (all_writes w given extents) (λ x there. let one = (gotten-mine x.page x.block there).0.below in omega (arith, one, sizes, fits));
        once = subst (λ (bs : List ℕ). AreOnce (stay ++ placed move bs)) (sym blocks_are) (planned_once h old.used old.own agent row pages stay move are plan);
        inside = all_have (λ x. x.page < pages) (all_writes w given extents) (λ x there. (gotten-mine x.page x.block there).1);
        own = mine_own new.used new.own h.swap agent row pages (all_writes w given extents) gotten-mine;
        free = mine_free new.used new.own h.swap agent row pages (all_writes w given extents) gotten-mine;
        apart = all_have (λ x. IsAgain (pages_at agent row h.swap) x → ⊥) (placed move (blocks_in extents))
            (λ x there again.
            let free_one = are_free old.used (length move) x.block (subst (λ (bs : List ℕ). has_block bs x.block ≡ true) blocks_are (placed_has move (blocks_in extents) x.page x.block there)) in
            both (is_used old.used x.block) (are.pages agent row x.page x.block again.1).1 free_one.free);
      }

pub taken-right : (h : Holders) (old new : SpaceSeen) (count : ℕ) (extents : List Extent) → AreBlocks h old.used old.own → length old.own ≡ length old.used → IsTaken old new count extents → AreBlocks h new.used new.own
taken-right h old new count extents are size is =
    let taken : List ℕ = take count (free_blocks old.used) in
    let new_is : new ≡ record old { used = marked true taken old.used; own = marked true taken old.own } =
    is.taken ∙ ap (λ (bs : List ℕ). record old { used = marked true bs old.used; own = marked true bs old.own }) is.least
    in
    subst (λ (s : SpaceSeen). AreBlocks h s.used s.own) (sym new_is) (blocks_taken h old.used old.own taken are size (are_free old.used count))
