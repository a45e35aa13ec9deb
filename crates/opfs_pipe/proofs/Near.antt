-- A write at the end of a stream that fits.
use Rattle.std.proofs.Common.{◌≡◌, ◌+◌, max, [], ◌∷◌, ◌++◌, append-nil, length, Some, None, Result, Ok, Err, refl, sym, ap, ◌∙◌, subst, arith}
use Rattle.opfs_base.specs.Texts.{Text}
use Rattle.opfs_hist.specs.declared.op.Op.{Op}
use Rattle.opfs_hist.specs.declared.op.Op.TheVariants as op
use Rattle.opfs_hist.specs.declared.reply.Refusal.{Refusal}
use Rattle.opfs_hist.specs.declared.reply.Reply.TheVariants as reply
use Rattle.opfs_laws.specs.Histories.Unread.{unread}
use Rattle.opfs_machine.specs.declared.own.Own.{Own}
use Rattle.opfs_machine.specs.declared.own.Own.TheVariants as own
use Rattle.opfs_machine.specs.declared.own.StreamRow.{StreamRow}
use Rattle.opfs_machine.specs.declared.state.Agent.{Agent}
use Rattle.opfs_machine.specs.Agents.{own_of}
use Rattle.opfs_machine.specs.Rulings.{reserve_for}
use Rattle.opfs_splice.specs.Splicing.{splice}
use Rattle.opfs_work.specs.Works.{place_in, IsNearWrite}
use Rattle.opfs_turns.specs.Agents.{AgentSeen, IsAgent, own_row}
use Rattle.opfs_turns.specs.Asking.Locals.{IsMade, Local}
use Rattle.opfs_turns.specs.Asking.Rows.{HasStream, StreamSeen}
use Rattle.opfs_turns.specs.declared.asking.stop.Stop.{Stop}
use Rattle.opfs_turns.specs.declared.asking.stop.Stop.TheVariants as stop
use Rattle.opfs_turns.proofs.asking.Rowed.{kept-own}
use Rattle.opfs_agent.proofs.stream_calls.Facts.{facts}
use Rattle.opfs_agent.proofs.stream_calls.Within.{write-local, write-row}
use Rattle.opfs_sync_files.specs.Entries.{GoesOn}
use Rattle.opfs_sync_files.specs.Resting.{LeavesRest}
use Rattle.opfs_sync_files.proofs.Knowing.{goes-most, goes-none}
use Rattle.opfs_sync_files.proofs.Resting.{rest-made, rest-none}
use Rattle.opfs_sync_files.proofs.Served.{made-goes}
use Rattle.opfs_pipe.specs.Sides.{Failed, HasWritten, IsWrite, Written}
use Rattle.opfs_pipe.specs.Streams.{buffer_in, calls_of, offset_in, stream_bytes, stream_offset}
use Rattle.opfs_pipe.proofs.Calls.{calls-made}
use Rattle.opfs_pipe.proofs.Lists.{concat-one}
use Rattle.opfs_pipe.proofs.Rows.{bytes-are, offset-is, splice-end}

-- A reply by Done is no refusal.
not-done : (r : Refusal) → unread (reply.No r) ≡ unread reply.Done → ⊥
not-done r e = cc

module _ {O : Type 0} (tells : Type 0) (a b : AgentSeen O) (kept : IsAgent tells a) (later : IsAgent tells b) (x y : StreamSeen) (has : HasStream tells a x) (piece : Text)
    (near : IsNearWrite x.work (place_in x.work None) (length piece)) (at_end : stream_offset a x ≡ length (stream_bytes a x)) (then_has : HasStream tells b y) (row : y.row ≡ x.row) (file : y.file ≡ x.file) where
  abbrev called : Op
  called = op.Write x.row piece None

  abbrev w : StreamRow
  w = (facts tells a x has).w

  -- A write that was done.
  module _ (h : IsMade tells a b called reply.Done 0) where
    row-made : own_row b x.row ≡ Some (own.Stream (record w { buffer = splice w.buffer w.offset piece; offset = w.offset + length piece; reserve = reserve_for w.reserve (max (length w.buffer) (w.offset + length piece)) }))
    row-made = ap (λ (g : Agent Own). own_of g x.row) (kept-own tells a b kept called reply.Done 0 h.local h.kept) ∙ write-row tells a kept x has piece None near

    near-written : Written tells a b x y (piece ∷ [])
    near-written = record {
      has = then_has;
      row = row;
      file = file;
      goes = goes-most a b 1 (length (piece ∷ [])) (omega arith) (made-goes tells a b kept later called reply.Done h);
      others = rest-made tells a b kept later called reply.Done 0 h;
      bytes =
          ap (λ n. buffer_in (own_row b n)) row
          ∙ ap buffer_in row-made
          ∙ (λ i. splice (bytes-are tells a x has i) (offset-is tells a x has i) piece)
          ∙ splice-end (stream_bytes a x) piece (stream_offset a x) at_end
          ∙ ap (λ (t : Text). stream_bytes a x ++ t) (sym (concat-one piece));
      offset =
          ap (λ n. offset_in (own_row b n)) row
          ∙ ap offset_in row-made
          ∙ ap (λ n. n + length piece) (offset-is tells a x has)
          ∙ ap (λ (t : Text). stream_offset a x + length t) (sym (concat-one piece));
      calls = calls-made tells a b kept called reply.Done 0 h;
    }

  -- There was no memory.
  near-failed : b ≡ a → Failed tells a b x y [] (IsWrite piece) stop.NoMemory
  near-failed same = record {
    has = then_has;
    row = row;
    file = file;
    goes = subst (λ c. GoesOn a c 1) (sym same) (goes-most a a 0 1 (omega arith) (goes-none a));
    others = subst (λ c. LeavesRest tells a c x.row) (sym same) (rest-none tells a x.row);
    bytes = ap (λ n. buffer_in (own_row b n)) row ∙ ap (λ (c : AgentSeen O). buffer_in (own_row c x.row)) same ∙ sym (append-nil (stream_bytes a x));
    last = [];
    is_last = refl;
    calls = ap (λ (c : AgentSeen O). calls_of c) same ∙ sym (append-nil (calls_of a)) ∙ sym (append-nil (calls_of a ++ []));
  }

  pub near-does : (r : Result (Unit {0}) Stop) → Local tells a b called 0 (λ v answered. answered ≡ reply.Done) r → HasWritten tells a b x y piece r
  near-does (Ok v) h = near-written (subst (λ z. IsMade tells a b called z 0) h.gives h.entered)
  near-does (Err (stop.No r)) h = absurd (not-done r (h.local.alike ∙ sym (write-local tells a kept x has piece None near).alike))
  near-does (Err stop.NoMemory) h = near-failed h
