use Rattle.std.proofs.Common.{◌≡◌, ℕ, List, length, refl, ap, arith}
use Rattle.std.specs.Prelude.{codes}
use Rattle.opfs_base.specs.Texts.{Text}
use Rattle.opfs_hist.specs.declared.op.Op.{Op}
use Rattle.opfs_hist.specs.declared.op.Op.TheVariants as op
use Rattle.opfs_examples.proofs.script_runs.a_wait_is_for_its_await.Goals as goal

tag_length : Op → ℕ
tag_length (op.Wait tag) = length tag
tag_length o = 0

other : op.Wait (codes "tt") ≡ op.Wait (codes "t") → ⊥
unfolding tag_length
other e = let sizes : 2 ≡ 1 = ap tag_length e in absurd (omega (arith, sizes))

pub returns : goal.returns
returns c = record {
  before = (refl, (refl, refl), ((refl, refl), ((refl, refl), (refl, refl, refl))));
  other = λ h. other h.1.1;
  elsewhere = λ h. h.1.1;
}
