-- Pages that go into blocks which no record names are written beside what the records name.
use Rattle.std.proofs.Common.{◌≡◌, ◌⊎◌, ℕ, zero, suc, ◌+◌, ◌*◌, ◌<◌, ◌≤◌, ◌||◌, nat_eq, Bool, true, false, List, [], ◌∷◌, refl, sym, ap, ◌∙◌, inl, inr, arith}
use Rattle.std.specs.List.{range_with_len}
use Rattle.std.proofs.lemmas.Bool.{cases_lt, eq-eqb, false≢true}
use Rattle.opfs_base.specs.declared.extents.Extent.{Extent}
use Rattle.opfs_blocks.specs.Sets.{blocks_of}
use Rattle.opfs_data.specs.Pages.{runs_of}
use Rattle.opfs_data.specs.Places.{Aside}
use Rattle.opfs_data.specs.Writes.{PageWrite}
use Rattle.opfs_image.specs.Filling.{AreIn}
use Rattle.opfs_records.specs.Replay.Built.{has_block}
use Rattle.opfs_space.specs.Holders.{Writes}
use Rattle.opfs_space.proofs.Others.{member_left, member_right}

-- The block of a list that holds a byte.
pub record HasByte (base : ℕ) (blocks : List ℕ) (i : ℕ) : Type 0 where
  pub block : ℕ
  pub has : has_block blocks block ≡ true
  pub from : base + 4096 * block ≤ i
  pub below : i < base + 4096 * block + 4096

or-right : (s t : Bool) → t ≡ true → (s || t) ≡ true
or-right true t is = refl
or-right false t is = is

run-byte : (base start count i : ℕ) → base + 4096 * start ≤ i → i < base + 4096 * start + 4096 * count → HasByte base (range_with_len start count) i
run-byte base start zero i from below = absurd (omega (arith, from, below))
run-byte base start (suc count) i from below = elim (cases_lt i (base + 4096 * start + 4096)) [
  | inl here ↦ record { block = start; has = ap (λ (t : Bool). t || has_block (range_with_len (start + 1) count) start) (eq-eqb start start refl); from = from; below = here }
  | inr later ↦
      let rest = run-byte base (start + 1) count i (omega (arith, later)) (omega (arith, below)) in
      record { block = rest.block; has = or-right (nat_eq rest.block start) (has_block (range_with_len (start + 1) count) rest.block) rest.has; from = rest.from; below = rest.below }
]

named-byte : (base i : ℕ) (es : List Extent) → AreIn base es i → HasByte base (blocks_of es) i
named-byte base i [] is = absurd is
named-byte base i (e ∷ es) (inl here) =
    let first = run-byte base e.start e.count i here.0 here.1 in
    record { block = first.block; has = member_left (range_with_len e.start e.count) (blocks_of es) first.block first.has; from = first.from; below = first.below }
named-byte base i (e ∷ es) (inr later) =
    let rest = named-byte base i es later in
    record { block = rest.block; has = member_right (range_with_len e.start e.count) (blocks_of es) rest.block rest.has; from = rest.from; below = rest.below }

apart-at : (base b x i : ℕ) → (b ≡ x → ⊥) → base + 4096 * x ≤ i → i < base + 4096 * x + 4096 → (i < base + 4096 * b) ⊎ (base + 4096 * b + 4096 * 1 ≤ i)
apart-at base b x i apart from below = elim (cases_lt b x) [
  | inl less ↦ inr (omega (arith, less, from))
  | inr most ↦ elim (cases_lt x b) [
    | inl more ↦ inl (omega (arith, more, below))
    | inr least ↦ absurd (apart (omega (arith, most, least)))
  ]
]

writes-aside : (base i : ℕ) (es : List Extent) (ws : List PageWrite) → ((page b : ℕ) → Writes ws page b → has_block (blocks_of es) b ≡ false) → HasByte base (blocks_of es) i → Aside base (runs_of ws) i
writes-aside base i es [] none has = tt
writes-aside base i es (w ∷ ws) none has = (
  apart-at base w.block has.block i (λ same. false≢true (sym (none w.page w.block (inl (refl, refl))) ∙ ap (has_block (blocks_of es)) same ∙ has.has)) has.from has.below,
  writes-aside base i es ws (λ page b later. none page b (inr later)) has,
)

pub beside-named : (base i : ℕ) (es : List Extent) (ws : List PageWrite) → ((page b : ℕ) → Writes ws page b → has_block (blocks_of es) b ≡ false) → AreIn base es i → Aside base (runs_of ws) i
beside-named base i es ws none is = writes-aside base i es ws none (named-byte base i es is)
