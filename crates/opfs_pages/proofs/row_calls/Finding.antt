-- How a sweep finds blocks for a put.
use Rattle.std.proofs.Common.{◌≡◌, ◌≢◌, ℕ, suc, ◌+◌, ◌*◌, ◌^◌, ◌≤◌, ◌||◌, cond, Bool, true, false, nat_eq, List, [], ◌∷◌, length, map, unwrap_or, Option, Some, None, refl, sym, ap, subst, ◌∙◌, inl, inr, arith}
use Rattle.std.proofs.lemmas.Bool.{cases_eq, eqb-true}
use Rattle.opfs_base.specs.declared.extents.Extent.{Extent}
use Rattle.opfs_blocks.specs.Sets.{Used, free_blocks}
use Rattle.opfs_data.specs.Pages.{NamesPage}
use Rattle.opfs_data.specs.Rows.{Rows, page_at}
use Rattle.opfs_data.specs.Writes.{PageWrite, WriteList, page_writes, page_moves}
use Rattle.opfs_pages.specs.Writing.Puts.{IsTaken}
use Rattle.opfs_pages.proofs.writing.Gotten.{gotten-mine, gotten-placed}
use Rattle.opfs_records.specs.Replay.Built.{named, has_block}
use Rattle.opfs_space.specs.Holders.{Holders, HasPage, AreBlocks, AreSwept}
use Rattle.opfs_space.specs.Plans.{ArePlanned, own_block, if_own}
use Rattle.opfs_space.specs.Room.{Machine, IsExact, AreMoves, is_own_block, IsOfMachine}
use Rattle.opfs_space.specs.Spaces.{SpaceSeen, is_own}
use Rattle.opfs_space.proofs.Enough.{blocks_suffice}
use Rattle.opfs_space.proofs.Keeping.{both, blocks_swept}
use Rattle.opfs_tree.specs.Rows.{Rows as Tree}
use Rattle.opfs_machine.specs.declared.own.Outline.{Outline}
use Rattle.opfs_machine.specs.declared.own.Outline.TheVariants as outline
use Rattle.opfs_machine.specs.Agents.{agent_of, own_of}
use Rattle.opfs_machine.specs.Sums.{reserve_of}
use Rattle.opfs_pages.specs.HistoryLaws.Open.{if_open, reserve_in}
use Rattle.opfs_pages.specs.HistoryLaws.Spaced.{AreSpaced}
use Rattle.opfs_pages.proofs.history_laws.Holding.{holders_of, are-holders, spaced-blocks, blocks-spaced}
use Rattle.opfs_pages.specs.RowCalls.Finding.{MayFindBlocks}
use Rattle.opfs_pages.specs.RowCalls.Plans.{shelf, HaveBlocks, WaitForBlocks}
use Rattle.opfs_pages.specs.declared.writing.put.Put.{Put}

-- ---- a page's own block

own-found : (own : Used) (o : Option ℕ) (b : ℕ) → if_own own o ≡ Some b → (o ≡ Some b) × (is_own own b ≡ true)
own-found own None b is = absurd cc
own-found own (Some x) b is =
    elim (is_own own x) as (λ t. is_own own x ≡ t → cond t (Some x) None ≡ Some b → (◌≡◌ {A = Option ℕ} (Some x) (Some b)) × (is_own own b ≡ true)) [
      | true ↦ λ owned same. (same, subst (λ (y : ℕ). is_own own y ≡ true) (some_same x b same) owned)
      | false ↦ λ owned same. absurd cc
    ] refl is
  where
    some_same : (x y : ℕ) → ◌≡◌ {A = Option ℕ} (Some x) (Some y) → x ≡ y
    some_same x y is = cc

own-made : (own : Used) (o : Option ℕ) (b : ℕ) → o ≡ Some b → is_own own b ≡ true → if_own own o ≡ Some b
own-made own o b is owned = ap (if_own own) is ∙ ap (λ t. cond t (Some b) None) owned

none-own : (own : Used) (o : Option ℕ) → if_own own o ≡ None → is_own_block own o ≡ false
none-own own None is = refl
none-own own (Some x) is =
    elim (is_own own x) as (λ t. cond t (Some x) None ≡ None → t ≡ false) [
      | true ↦ λ same. absurd cc
      | false ↦ λ same. refl
    ] is

-- none where the page has no own block: either no block, or one that is not own
none-made : (own : Used) (o : Option ℕ) → ((b : ℕ) → o ≡ Some b → is_own own b ≡ true → ⊥) → if_own own o ≡ None
none-made own None never = refl
none-made own (Some x) never = elim (is_own own x) as (λ t. is_own own x ≡ t → cond t (Some x) None ≡ None) [ true ↦ λ owned. absurd (never x refl owned) | false ↦ λ owned. refl ] refl

-- ---- the plan after a sweep

module _ (h : Holders) (used own then found : Used) (agent row : ℕ) (are : AreBlocks h used own) (swept : AreSwept (length used) h.rows h.swap then found) (exact : IsExact h own agent row) where
  not-rows : (b : ℕ) → is_own own b ≡ true → (t : Bool) → h.rows b ≡ t → h.rows b ≡ false
  not-rows b owned false is = is
  not-rows b owned true is = absurd (both (is_own own b) owned (are.grounded b (are.inside b is)).2)

  own-stays : (page b : ℕ) → HasPage h.swap agent row page b → is_own own b ≡ true → is_own found b ≡ true
  own-stays page b has owned =
      swept.exact agent row page b (are.pages agent row page b has).0 has (not-rows b owned (h.rows b) refl)
      (λ l m j there.
      let same = are.alone b owned l m j agent row page there has in (
        same.0,
        same.1,
        are.apart agent row j page b
            (subst (λ (x : ℕ). HasPage h.swap agent x j b) same.1 (subst (λ (x : ℕ). HasPage h.swap x m j b) same.0 there)) has,
      ))

  own-was : (page b : ℕ) → HasPage h.swap agent row page b → is_own found b ≡ true → is_own own b ≡ true
  own-was page b has owned =
      exact page b has (not_in (h.rows b) refl)
      (λ l m j apart there. apart (let same = swept.alone b owned l m j agent row page there has in same))
    where
      not_in : (t : Bool) → h.rows b ≡ t → h.rows b ≡ false
      not_in false is = is
      not_in true is = absurd (both (is_own found b) owned (swept.of_rows b (are.pages agent row page b has).0 is).1)

  pub planned-swept : (pages : ℕ) (stay move : List PageWrite) → ArePlanned own h.swap agent row pages stay move → ArePlanned found h.swap agent row pages stay move
  unfolding own_block
  planned-swept pages stay move plan = record {
    blocks = λ page b there.
        let o = (page_at agent row page h.swap).block in
        let was = own-found own o b (plan.blocks page b there) in
        own-made found o b was.0 (own-stays page b was.0 was.1);
    none = λ page there.
        let o = (page_at agent row page h.swap).block in
        none-made found o (λ b has owned. absurd (none_and_own own o b (plan.none page there) has (own-was page b has owned)));
    stay_once = plan.stay_once;
    move_once = plan.move_once;
    within = plan.within;
  }
    where
      none_and_own : (u : Used) (o : Option ℕ) (b : ℕ) → if_own u o ≡ None → o ≡ Some b → is_own u b ≡ true → ⊥
      none_and_own u o b none has owned = let is = own-made u o b has owned in cc

-- ---- enough blocks

abbrev pages_of : List PageWrite → List ℕ
pages_of ws = map (λ (x : PageWrite). x.page) ws

member-names : (ws : List PageWrite) (i : ℕ) → has_block (pages_of ws) i ≡ true → NamesPage ws i
member-names [] i is = absurd cc
member-names (w ∷ ws) i is = elim (cases_eq w.page i) [
  | inl here ↦ inl here
  | inr apart ↦ inr (member-names ws i (later w i ws apart is))
]
  where
    either : (a b : Bool) → a ≡ false → (a || b) ≡ true → b ≡ true
    either true b is h = absurd cc
    either false b is h = h

    not_true : (t : Bool) → (t ≡ true → ⊥) → t ≡ false
    not_true true never = absurd (never refl)
    not_true false never = refl

    later : (x : PageWrite) (j : ℕ) (xs : List PageWrite) → x.page ≢ j → has_block (pages_of (x ∷ xs)) j ≡ true → has_block (pages_of xs) j ≡ true
    later x j xs far is = either (nat_eq j x.page) (has_block (pages_of xs) j) (not_true (nat_eq j x.page) (λ same. far (sym (eqb-true j x.page same)))) is

pages-length : (ws : List PageWrite) → length (pages_of ws) ≡ length ws
pages-length [] = refl
pages-length (w ∷ ws) = ap suc (pages-length ws)

open-reserve : (o : Option Outline) → reserve_in (if_open o) ≡ reserve_of (unwrap_or o outline.ClosedStream)
open-reserve None = refl
open-reserve (Some (outline.Stream w)) = refl
open-reserve (Some outline.ClosedStream) = refl
open-reserve (Some (outline.Handle h)) = refl
open-reserve (Some outline.ClosedHandle) = refl
open-reserve (Some outline.Snapshot) = refl
open-reserve (Some outline.Iterator) = refl

pub enough-blocks : (tree : Tree) (swap : Rows) (space : SpaceSeen) (agent row : ℕ) (put : Put) (then found : Used)
    → MayFindBlocks tree swap space agent row put → AreSwept (length space.used) (has_block (named tree)) swap then found → put.moves ≤ length (free_blocks then)
unfolding own_block
enough-blocks tree swap space agent row put then found may swept =
    let s = shelf may.recorded tree swap in
    let h = holders_of may.machine s in
    let are = spaced-blocks may.machine s space may.spaced in
    let move = page_moves put.writes may.given in
    let exact = may.waits.exact h (are-holders may.machine s) in
    let is : IsOfMachine may.machine h tree = record {
      reserve = λ k n. open-reserve (own_of (agent_of may.machine k) n);
      files = λ b. refl;
      blocks = may.blocks;
    } in
    let moved : AreMoves space.own swap agent row may.reserve (pages_of move) = record {
      once = may.waits.planned.move_once;
      moved = λ i there.
          let named_there = member-names move i there in
          let within = may.waits.planned.within i (inr named_there) in
          let most = may.within in
          (omega arith, none-own space.own (page_at agent row i swap).block (may.waits.planned.none i named_there));
    } in
    let suffice = blocks_suffice may.machine h tree space.used space.own then found agent row may.reserve may.need (pages_of move) are is
    (subst (λ (n : ℕ). AreSwept n (has_block (named tree)) swap then found) may.spaced.size swept) may.room exact moved
    in
    omega (arith, suffice, pages-length move, may.count)

-- ---- what is found

module _ (m : Machine) (recorded tree : Tree) (swap : Rows) (old mid new : SpaceSeen) (was : AreSpaced m (shelf recorded tree swap) old) (size : length mid.used ≡ length old.used) (own : length mid.own ≡ length mid.used)
    (swept : AreSwept (length old.used) (has_block (named tree)) swap mid.used mid.own) (settled : (b : ℕ) → has_block (named recorded) b ≡ true → has_block (named tree) b ≡ true) where
  pub swept-spaced : AreSpaced m (shelf recorded tree swap) mid
  swept-spaced = record {
    size = size ∙ was.size;
    own_size = own;
    blocks = blocks-spaced m (shelf recorded tree swap) mid.used mid.own
        (blocks_swept (holders_of m (shelf recorded tree swap)) (length old.used) mid.used mid.own swept old.used old.own (spaced-blocks m (shelf recorded tree swap) old was) refl settled);
  }

  pub found-blocks : (agent row pages count : ℕ) (w : WriteList) (given : List ℕ) (none extents : List Extent) (base end : ℕ) → WaitForBlocks m (shelf recorded tree swap) old agent row pages w given none → length (page_moves w given) ≡ count
      → base + 4096 * length old.used ≤ end → length old.used ≤ 2 ^ 32 → IsTaken mid new count extents → HaveBlocks base end swap new agent row pages w given extents
  found-blocks agent row pages count w given none extents base end waits many fits small is =
      let h = holders_of m (shelf recorded tree swap) in
      let planned = planned-swept h old.used old.own mid.used mid.own agent row (spaced-blocks m (shelf recorded tree swap) old was) swept (waits.exact h (are-holders m (shelf recorded tree swap))) pages (page_writes w given) (page_moves w given) waits.planned in
      let fits_now = subst (λ (n : ℕ). base + 4096 * n ≤ end) (sym size) fits in
      let small_now = subst (λ (n : ℕ). n ≤ 2 ^ 32) (sym size) small in
      let are = spaced-blocks m (shelf recorded tree swap) mid swept-spaced in
      record {
        placed = gotten-placed h mid new agent row pages count w given extents are own planned many is base end fits_now small_now;
        mine = gotten-mine h mid new agent row pages count w given extents are own planned many is;
      }
