-- What is judged of the charge is what it grows by. This project's own.
use Rattle.std.specs.Prelude.{◌≡◌, ◌+◌, ◌≤◌, Bool, true, false, List, fold, Ok}
use Rattle.opfs_base.specs.Texts.{Text}
use Rattle.opfs_hist.specs.declared.entry.Entry.{Entry}
use Rattle.opfs_hist.specs.declared.op.Op.{Op}
use Rattle.opfs_hist.specs.declared.op.Op.TheVariants as op
use Rattle.opfs_machine.specs.declared.own.Own.{Own}
use Rattle.opfs_machine.specs.declared.state.Need.{Need}
use Rattle.opfs_machine.specs.declared.state.State.{State}
use Rattle.opfs_machine.specs.Contents.{in_bytes}
use Rattle.opfs_machine.specs.Histories.{Legal, IsCall, state_after}
use Rattle.opfs_machine.specs.Openings.{Opening}
use Rattle.opfs_machine.specs.Replies.{sizes_of}
use Rattle.opfs_machine.specs.Rulings.{ruling}
use Rattle.opfs_machine.specs.Steps.{evicted, after_reply, is_refusal}
use Rattle.opfs_machine.specs.Sums.{charge}
use Rattle.opfs_laws.specs.Whole.{IsWholeOpening}

-- Calls that let rows or kept blocks go. Their charge may fall: a removal takes rows out, and an end of a stream or of an access
-- handle, and a flush, give back the blocks that were kept beyond those that are stored.
abbrev pub lets_charge_go : Op → Bool
lets_charge_go (op.RemoveEntry dir name recursive) = true
lets_charge_go (op.Close n) = true
lets_charge_go (op.Abort n) = true
lets_charge_go (op.SyncFlush n) = true
lets_charge_go (op.SyncClose n) = true
lets_charge_go (op.Discard n) = true
lets_charge_go called = false

-- The charge before a call is that once its units are cleared, which only lower it; none are where the call needs no block.
pub record GrowsAsJudged (s : State Text Own) (gone : List Text) (e : Entry) (need : Need) : Type 0 where
  pub cleared : charge in_bytes (fold evicted s gone) ≤ charge in_bytes s
  -- The charge after a call is the one before it and the growth that was judged, just so.
  pub grows : lets_charge_go e.op ≡ false → charge in_bytes (after_reply (fold evicted s gone) e.agent e.op e.reply) ≡ charge in_bytes (fold evicted s gone) + need.charge
  -- Of a call that lets rows or blocks go no growth is judged, and there is none.
  pub falls : lets_charge_go e.op ≡ true → (need.charge ≡ 0) × (charge in_bytes (after_reply (fold evicted s gone) e.agent e.op e.reply) ≤ charge in_bytes (fold evicted s gone))

-- It is so of every call of a legal history that is not refused.
abbrev pub TheChargeGrowsAsJudged : Type 0
TheChargeGrowsAsJudged =
    (o : Opening) (h : List Entry) (gone : List Text) (e : Entry) (need : Need) → IsWholeOpening o → Legal o h → IsCall (state_after o h) gone e → is_refusal e.reply ≡ false
    → ruling in_bytes (state_after o h) (sizes_of (state_after o h) e.agent e.op) e.agent e.op ≡ Ok need → GrowsAsJudged (state_after o h) gone e need
