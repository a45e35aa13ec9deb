use Rattle.std.proofs.Common.{◌≡◌, false, subst, sym, ◌∙◌, add-one, arith}
use Rattle.std.proofs.lemmas.List.{drop_all}
use Rattle.std.specs.Ordering.{is_lt}
use Rattle.opfs_base.specs.Texts.{Text}
use Rattle.opfs_desk_steps.proofs.iterating.Names.{text_cmp, level-itself, not-below, not-below-less, up-to-next}
use Rattle.opfs_desk_steps.proofs.iterating.iterators.greatest.Goals.{then-lt, else-lt}
use Rattle.opfs_desk_steps.proofs.iterating.iterators.greatest.Goals as goal

pub loop-name-preserved : goal.loop-name-preserved
loop-name-preserved c =
    rw add-one
    (λ x level rest. elim c.if-lt.branch [
      | then-lt w ↦
          let its : is_lt (text_cmp x c.name-item.result) ≡ false = subst (λ (n : Text). is_lt (text_cmp x n) ≡ false) (λ i. (w.most-is i).now) level in
          up-to-next c.args.past.now c.loop-name.name-index c.name-item.result x (omega arith) c.name-item.is
          (c.loop-name.invariant x (not-below x c.loop-name.most.now c.name-item.result its (sym c.lt.ensures ∙ w.if-lt.true))) its rest
      | else-lt w ↦
          let its : is_lt (text_cmp x c.loop-name.most.now) ≡ false = subst (λ (n : Text). is_lt (text_cmp x n) ≡ false) (λ i. (w.most-is i).now) level in
          up-to-next c.args.past.now c.loop-name.name-index c.name-item.result x (omega arith) c.name-item.is (c.loop-name.invariant x its)
          (not-below-less x c.loop-name.most.now c.name-item.result (sym c.lt.ensures ∙ w.if-lt.false) its) rest
    ])

pub returns : goal.returns
returns c =
    c.loop-name.invariant c.loop-name.most.now (level-itself c.loop-name.most.now)
    (rw (drop_all c.loop-name.name-index c.args.past.now (omega arith)) tt)
