-- A round, from how its two sides ended.
use Rattle.std.proofs.Common.{◌≡◌, ℕ, List, [], ◌++◌, append-nil, Result, Ok, Err, sym, ap, ◌∙◌, subst}
use Rattle.opfs_base.specs.Texts.{Text}
use Rattle.opfs_turns.specs.Asking.Rows.{SnapshotSeen, StreamSeen}
use Rattle.opfs_turns.specs.declared.asking.stop.Stop.{Stop}
use Rattle.opfs_turns.specs.Agents.{AgentSeen}
use Rattle.opfs_pipe.specs.Pieces.{IsCut}
use Rattle.opfs_pipe.specs.Rounds.{HasRound}
use Rattle.opfs_pipe.specs.Sides.{Drained, HasDrained, HasFilled, Lost}
use Rattle.opfs_pipe.proofs.Passes.{filled-any, round-done, round-lost, round-lost-later}

module _ {O : Type 0} (tells : Type 0) (ra rb wa wb : AgentSeen O) (x : SnapshotSeen) (at place end : ℕ) (y z : StreamSeen) (was pushed is got popped gotten known : List Text) (r : Result ℕ Stop) (d : Result (Unit {0}) Stop)
    (filled : HasFilled tells ra rb x at place end was pushed r) (drained : HasDrained tells wa wb y z got popped d) (from : got ≡ was) (still : is ≡ pushed) (same : gotten ≡ popped) (fifo : gotten ++ known ≡ is) where
  here : HasFilled tells ra rb x at place end was is r
  here = subst (λ ps. HasFilled tells ra rb x at place end was ps r) (sym still) filled

  there : HasDrained tells wa wb y z was gotten d
  there = subst (λ ps. HasDrained tells wa wb y z ps gotten d) from (subst (λ ps. HasDrained tells wa wb y z got ps d) (sym same) drained)

  -- The writer's side lost a piece.
  pub halted-early : (why : Stop) → d ≡ Err why → HasRound tells ra rb wa wb x at place end y z was is (Err why)
  halted-early why lost =
      round-lost tells ra rb wa wb x at place end y was is z gotten known why (filled-any tells ra rb wa wb x at place end y was is r here)
      (subst (λ e. HasDrained tells wa wb y z was gotten e) lost there) fifo

  module _ (ok : d ≡ Ok tt) where
    pub first : Drained tells wa wb y z was gotten
    first = subst (λ e. HasDrained tells wa wb y z was gotten e) ok there

    pub reached : (next : ℕ) × IsCut x.bytes at next end is
    reached = let f = filled-any tells ra rb wa wb x at place end y was is r here in (f.0, f.1.cut)

    module _ (wc : AgentSeen O) (v : StreamSeen) (last left : List Text) (all : last ++ left ≡ gotten ++ known) where
      -- The caller lost one of what was left.
      pub halted-late : (why : Stop) → Lost tells wb wc z v gotten last why → HasRound tells ra rb wa wc x at place end y v was is (Err why)
      halted-late why lost =
          round-lost-later tells ra rb wa wb x at place end y was is z gotten first wc v last left why (filled-any tells ra rb wa wb x at place end y was is r here) lost (all ∙ fifo)

      -- All was written.
      pub all-there : left ≡ [] → last ≡ is
      all-there none = sym (append-nil last) ∙ ap (λ ps. last ++ ps) (sym none) ∙ all ∙ fifo

      pub went-on : left ≡ [] → Drained tells wb wc z v gotten last → (seen : List Text) → seen ≡ is → HasRound tells ra rb wa wc x at place end y v was seen r
      went-on none second seen seen_is =
          subst (λ ps. HasRound tells ra rb wa wc x at place end y v was ps r) (sym seen_is)
          (round-done tells ra rb wa wb x at place end y was is z gotten first wc v last r here second (all-there none))
