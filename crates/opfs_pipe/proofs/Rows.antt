-- The row of a stream behind a write at its offset, and behind a close.
use Rattle.std.proofs.Common.{◌≡◌, ℕ, ◌+◌, ◌-◌, true, [], ◌++◌, append-nil, length, take, drop, replicate, Some, None, Err, refl, sym, ap, ◌∙◌, arith}
use Rattle.std.proofs.lemmas.List.{length-append, drop_all}
use Rattle.std.proofs.Math.Seq.{take-length}
use Rattle.opfs_store.specs.declared.acts.acted.Gift.{Gift}
use Rattle.opfs_base.specs.Texts.{Text}
use Rattle.opfs_turns.specs.Asking.Answers.{HasAnswer, Shared}
use Rattle.opfs_turns.specs.Asking.Rows.{HasStream, StreamSeen}
use Rattle.opfs_turns.specs.declared.asking.stop.Stop.{Stop}
use Rattle.opfs_turns.proofs.asking.Entered.{t, row-there}
use Rattle.opfs_turns.proofs.asking.Rowed.{stopped-own}
use Rattle.opfs_hist.specs.declared.op.Op.{Op}
use Rattle.opfs_hist.specs.declared.op.Op.TheVariants as op
use Rattle.opfs_hist.specs.declared.reply.Reply.{Reply}
use Rattle.opfs_hist.specs.declared.reply.Reply.TheVariants as reply
use Rattle.opfs_laws.specs.Leaving.{asks_nobody}
use Rattle.opfs_machine.specs.declared.own.Own.{Own}
use Rattle.opfs_machine.specs.declared.own.Own.TheVariants as own
use Rattle.opfs_machine.specs.declared.own.StreamRow.{StreamRow}
use Rattle.opfs_machine.specs.declared.state.Agent.{Agent}
use Rattle.opfs_machine.specs.declared.state.Sizes.{Sizes}
use Rattle.opfs_machine.specs.declared.state.State.{State}
use Rattle.opfs_machine.specs.Agents.{agent_of, own_of}
use Rattle.opfs_machine.specs.Contents.{outline_of, written_row}
use Rattle.opfs_machine.specs.Effects.{effect}
use Rattle.opfs_machine.specs.Replies.{sizes_in, sizes_of}
use Rattle.opfs_machine.specs.Rulings.{reserve_for, size_written, start_of}
use Rattle.opfs_machine.specs.Sums.{reserve_of}
use Rattle.opfs_splice.specs.Splicing.{splice}
use Rattle.opfs_agent.proofs.stream_calls.Facts.{facts, row-is}
use Rattle.opfs_agent.proofs.stream_calls.Shared.{changed-row, own-then}
use Rattle.opfs_turns.specs.Agents.{AgentSeen, IsAgent, own_row}
use Rattle.opfs_pipe.specs.Streams.{buffer_in, offset_in, stream_bytes, stream_offset}

abbrev pub IsDone : Unit {0} → Reply → Gift → Type 0
IsDone x answered given = answered ≡ reply.Done

-- What is written at the end of bytes stands behind them.
pub splice-end : (old new : Text) (place : ℕ) → place ≡ length old → splice old place new ≡ old ++ new
splice-end old new place is =
    let none : place - length old ≡ 0 = omega (arith, is) in
    let front : take place (old ++ replicate (place - length old) 0) ≡ old =
    (λ i. take (is i) (old ++ replicate (none i) 0)) ∙ ap (take (length old)) (append-nil old) ∙ take-length old
    in
    let long : place + length new ≡ length (old ++ new) = ap (λ n. n + length new) is ∙ sym (length-append old new) in
    let back : drop (place + length new) old ≡ [] = drop_all (place + length new) old (omega (arith, is)) in
    (λ i. (front i ++ new) ++ back i) ∙ append-nil (old ++ new)

-- ---- a stream's row, as its agent knows it

module _ {O : Type 0} (tells : Type 0) (a : AgentSeen O) (x : StreamSeen) (has : HasStream tells a x) where
  pub bytes-are : (facts tells a x has).w.buffer ≡ stream_bytes a x
  bytes-are = ap buffer_in (sym (row-is tells a x has))

  pub offset-is : (facts tells a x has).w.offset ≡ stream_offset a x
  offset-is = ap offset_in (sym (row-is tells a x has))

-- ---- a write at the offset

module _ {O : Type 0} (tells : Type 0) (before after : AgentSeen O) (kept : IsAgent tells before) (x : StreamSeen) (has : HasStream tells before x) (piece : Text)
    (h : HasAnswer tells before after (op.Write x.row piece None) IsDone tt) where
  abbrev called : Op
  called = op.Write x.row piece None

  abbrev w : StreamRow
  w = (facts tells before x has).w

  abbrev u : State Text Own
  u = t tells before after kept called h.answered h.given h.entered

  there : own_of (agent_of u before.pass.agent) x.row ≡ Some (own.Stream w)
  there = row-there tells before after kept called h.answered h.given h.entered x.row ∙ row-is tells before x has

  sizes-are : sizes_of u before.pass.agent called ≡ record { size = length w.buffer; position = w.offset }
  sizes-are = ap (sizes_in u) there

  abbrev after_by : Sizes → StreamRow
  after_by z = record w { buffer = splice w.buffer (start_of z None) piece; offset = start_of z None + length piece; reserve = reserve_for w.reserve (size_written z None piece) }

  row-after : own_row after x.row ≡ Some (own.Stream (after_by (record { size = length w.buffer; position = w.offset })))
  unfolding effect
  row-after =
      changed-row tells before after kept called h x.row w _
      (λ r. written_row r (start_of (sizes_of u before.pass.agent called) None) piece (reserve_for (reserve_of (outline_of r)) (size_written (sizes_of u before.pass.agent called) None piece)))
      (row-is tells before x has) (own-then tells before after kept called h) refl
      ∙ ap (λ (z : Sizes). Some (own.Stream (after_by z))) sizes-are

  pub written-bytes : stream_offset before x ≡ length (stream_bytes before x) → buffer_in (own_row after x.row) ≡ stream_bytes before x ++ piece
  written-bytes at_end =
      ap buffer_in row-after
      ∙ (λ i. splice (bytes-are tells before x has i) (offset-is tells before x has i) piece)
      ∙ splice-end (stream_bytes before x) piece (stream_offset before x) at_end

  pub written-offset : offset_in (own_row after x.row) ≡ stream_offset before x + length piece
  written-offset = ap offset_in row-after ∙ ap (λ n. n + length piece) (offset-is tells before x has)

-- ---- what gives nothing

module _ {O : Type 0} (tells : Type 0) (before after : AgentSeen O) (kept : IsAgent tells before) (called : Op) (why : Stop) (nobody : asks_nobody called ≡ true) (h : Shared tells before after called IsDone (Err why)) (n : ℕ) where
  pub stopped-row : own_row after n ≡ own_row before n
  stopped-row = ap (λ (a : Agent Own). own_of a n) (stopped-own tells before after called IsDone why kept nobody h)
