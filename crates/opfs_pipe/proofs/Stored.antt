-- What the close of a stream stores.
use Rattle.std.proofs.Common.{◌≡◌, List, [], ◌∷◌, ◌++◌, append_assoc, map, fold, Some, refl, sym, ap, ◌∙◌}
use Rattle.std.proofs.lemmas.List.Sums.{fold-append}
use Rattle.opfs_store.specs.declared.acts.acted.Gift.{Gift}
use Rattle.opfs_store.specs.Acts.Acting.{told_entry}
use Rattle.opfs_base.specs.Places.{place_of}
use Rattle.opfs_base.specs.Texts.{Text}
use Rattle.opfs_turns.specs.Asking.Rows.{HasStream, StreamSeen}
use Rattle.opfs_turns.proofs.asking.Entered.{t, row-there}
use Rattle.opfs_hist.specs.declared.entry.Entry.{Entry}
use Rattle.opfs_hist.specs.declared.op.Op.{Op}
use Rattle.opfs_hist.specs.declared.op.Op.TheVariants as op
use Rattle.opfs_hist.specs.declared.reply.Reply.TheVariants as reply
use Rattle.opfs_machine.specs.declared.own.Own.{Own}
use Rattle.opfs_machine.specs.declared.own.Own.TheVariants as own
use Rattle.opfs_machine.specs.declared.state.State.{State}
use Rattle.opfs_machine.specs.Agents.{agent_of, own_of}
use Rattle.opfs_machine.specs.Changes.{content, entry_changes, stored_by, stream_stored}
use Rattle.opfs_machine.specs.Effects.{moment_of}
use Rattle.opfs_machine.specs.Histories.{after_entry, state_after}
use Rattle.opfs_machine.specs.Openings.{begun}
use Rattle.opfs_machine.specs.Runs.{eviction}
use Rattle.opfs_machine.specs.Steps.{evicted}
use Rattle.opfs_agent.proofs.stream_calls.Facts.{facts, row-is}
use Rattle.opfs_turns.specs.Agents.{AgentSeen, IsAgent}
use Rattle.opfs_turns.specs.Calls.{before_call, call_of, IsEntered}
use Rattle.opfs_pipe.specs.Streams.{StoresLast, stream_bytes}
use Rattle.opfs_pipe.proofs.Rows.{bytes-are}

evictions-fold : (u : State Text Own) (gone : List Text) → fold after_entry u (map eviction gone) ≡ fold evicted u gone
evictions-fold u [] = refl
evictions-fold u (unit ∷ gone) = evictions-fold (evicted u unit) gone

module _ {O : Type 0} (tells : Type 0) (before after : AgentSeen O) (kept : IsAgent tells before) (x : StreamSeen) (has : HasStream tells before x) (given : Gift)
    (e : IsEntered tells before after (op.Close x.row) reply.Done given) where
  abbrev called : Op
  called = op.Close x.row

  abbrev last : Entry
  last = told_entry (call_of before called) reply.Done

  abbrev turn : List Entry
  turn = before_call before e.others

  abbrev u : State Text Own
  u = t tells before after kept called reply.Done given e

  grown-is : after.pass.base ≡ (turn ++ map eviction e.gone) ++ last ∷ []
  grown-is =
      e.grown
      ∙ sym (append_assoc (before.pass.base ++ e.others) before.pending (map eviction e.gone ++ last ∷ []))
      ∙ sym (append_assoc turn (map eviction e.gone) (last ∷ []))

  cleared-is : state_after before.opening (turn ++ map eviction e.gone) ≡ u
  cleared-is = fold-append after_entry (begun before.opening) turn (map eviction e.gone) ∙ evictions-fold (state_after before.opening turn) e.gone

  row-cleared : own_of (agent_of u before.pass.agent) x.row ≡ Some (own.Stream (facts tells before x has).w)
  row-cleared = row-there tells before after kept called reply.Done given e x.row ∙ row-is tells before x has

  stored-there : entry_changes u last ≡ content (place_of x.file) (moment_of u before.pass.agent) (stream_bytes before x) ∷ []
  unfolding stored_by
  stored-there =
      ap (stream_stored (moment_of u before.pass.agent)) row-cleared
      ∙ (λ i. content ((facts tells before x has).file_is i) (moment_of u before.pass.agent) (bytes-are tells before x has i) ∷ [])

  pub stores-last : StoresLast before after x (stream_bytes before x)
  stores-last = record {
    front = turn ++ map eviction e.gone;
    entry = last;
    grown = grown-is;
    mine = refl;
    called = refl;
    done = refl;
    stamp = moment_of u before.pass.agent;
    stored = ap (λ v. entry_changes v last) cleared-is ∙ stored-there;
  }
