-- Blocks that are given back.
use Rattle.std.proofs.Common.{◌≡◌, ℕ, ◌<◌, Bool, true, false, List, length, refl, ◌∙◌, inl, inr, arith}
use Rattle.std.proofs.lemmas.Bool.{cases_Bool}
use Rattle.opfs_blocks.specs.Sets.{Used, is_used, marked}
use Rattle.opfs_records.specs.Replay.Built.{has_block}
use Rattle.opfs_space.specs.Holders.{Holders, AreBlocks, AreUnheld}
use Rattle.opfs_space.proofs.Keeping.{both}
use Rattle.opfs_space.proofs.Taking.{marked_here, marked_other, marked_size}

module _ (used : Used) (gone kept : List ℕ) where
  abbrev pub left : Used
  left = marked true kept (marked false gone used)

  pub left_size : length left ≡ length used
  left_size = marked_size true kept (marked false gone used) ∙ marked_size false gone used

  still_used : (b : ℕ) → b < length used → is_used used b ≡ true → (has_block gone b ≡ true → has_block kept b ≡ true) → is_used left b ≡ true
  still_used b lt was held = elim (cases_Bool (has_block kept b)) [
    | inl here ↦ marked_here true true kept (marked false gone used) b (omega (arith, lt, marked_size false gone used)) here
    | inr apart ↦ marked_other true true kept (marked false gone used) b apart ∙ (marked_other false true gone used b (not_gone (has_block gone b) refl apart) ∙ was)
  ]
    where
      not_gone : (t : Bool) → has_block gone b ≡ t → has_block kept b ≡ false → has_block gone b ≡ false
      not_gone true is apart = absurd (both (has_block kept b) (held is) apart)
      not_gone false is apart = is

pub blocks_given : (h : Holders) (used own : Used) (gone kept : List ℕ) → AreBlocks h used own → AreUnheld h gone kept → AreBlocks h (marked true kept (marked false gone used)) own
blocks_given h used own gone kept are free = record {
  grounded = λ b g. let p = are.grounded b g in (omega (arith, p.0, left_size used gone kept), still_used used gone kept b p.0 p.1 (λ is. free.recorded b is g), p.2);
  inside = are.inside;
  held = are.held;
  once = are.once;
  pages = λ k n i b has. let p = are.pages k n i b has in (omega (arith, p.0, left_size used gone kept), still_used used gone kept b p.0 p.1 (λ is. free.paged k n i b is has));
  apart = are.apart;
  alone = are.alone;
  together = are.together;
  of_file = are.of_file;
  reserved = are.reserved;
  covered = are.covered;
}
