-- A persist that gives a mode, once its agent's pending calls are taken in and the doubt is ended.
use Rattle.std.proofs.Common.{◌≡◌, ℕ, true, List, [], fold, length, sym, ap, ◌∙◌}
use Rattle.opfs_base.specs.Texts.{Text}
use Rattle.opfs_books.specs.Laws.Books.{Fixed}
use Rattle.opfs_hist.specs.declared.entry.Entry.{Entry}
use Rattle.opfs_hist.specs.declared.reply.Reply.TheVariants as reply
use Rattle.opfs_laws.specs.Histories.Unread.{ReadsLeaveTheState, unread}
use Rattle.opfs_laws.specs.Counting.{AStateCountsItsHistory, key_of}
use Rattle.opfs_laws.proofs.Bounded.{modes-gone}
use Rattle.opfs_laws.proofs.OwnKept.{evicted-agents}
use Rattle.opfs_laws.specs.Lengths.Bridge.{LengthsFollowEachCall, LocalCallsAreKnownByTheirWord}
use Rattle.opfs_laws.specs.Lengths.Outlines.{in_lengths_of}
use Rattle.opfs_laws.proofs.lengths.Readers.{agent-on}
use Rattle.opfs_machine.specs.declared.own.Own.{Own}
use Rattle.opfs_machine.specs.declared.state.State.{State}
use Rattle.opfs_machine.specs.Agents.{agent_in, agent_of}
use Rattle.opfs_machine.specs.Contents.{outline_of}
use Rattle.opfs_machine.specs.Histories.{state_after}
use Rattle.opfs_machine.specs.Openings.{begun}
use Rattle.opfs_machine.specs.Steps.{evicted}
use Rattle.opfs_outside.specs.declared.disk.Disk.{Ghosts as DiskWords}
use Rattle.opfs_records.specs.Replay.Built.{Built}
use Rattle.opfs_state_rows.specs.Standing.Seen.{Machine}
use Rattle.opfs_state.specs.Verdicts.Callers.{IsAgent}
use Rattle.opfs_work.specs.Works.{WorkingCopy}
use Rattle.opfs_desk_steps.specs.Parts.Asked.{IsAsked}
use Rattle.opfs_desk_steps.specs.Parts.Held.{AreHeldWhole}
use Rattle.opfs_desk_steps.specs.Parts.Seen.{machine_in, units_in}
use Rattle.opfs_desk_steps.specs.declared.parts.call.ReadyCall.{ReadyCall}
use Rattle.opfs_desk_steps.specs.declared.parts.parts.Ledger.{Ledger}
use Rattle.opfs_desk_steps.specs.declared.parts.parts.OpenPages.{OpenPages}
use Rattle.opfs_desk_steps.proofs.book_steps.Real.{real, real-legal, real-state}
use Rattle.opfs_desk_steps.specs.Answering.{IsReply}
use Rattle.opfs_desk_entries.specs.Answers.Silent.{BeginsCall}
use Rattle.opfs_desk_entries.proofs.answers.Noted.{mid-noted}
use Rattle.opfs_desk_steps.specs.Going.{HasTakenIn, HasMadeWay}
use Rattle.opfs_desk_entries.proofs.kept_back.Keys.{key-held}
use Rattle.opfs_desk_entries.specs.Buckets.Granting.{gives_mode}
use Rattle.opfs_desk_entries.proofs.buckets.Modes.{gives-grant, gives-still, gives-word, answers-mode}

-- ---- modes and grants, after evictions too

modes-of : (s : State Text Own) (gone : List Text) (m : Machine) → m ≡ in_lengths_of (fold evicted s gone) → m.persistent ≡ s.persistent
modes-of s gone m machine = ap (λ (x : Machine). x.persistent) machine ∙ modes-gone gone s

grant-of : (s : State Text Own) (gone : List Text) (k : ℕ) (m : Machine) → m ≡ in_lengths_of (fold evicted s gone) → (agent_of m k).grant ≡ (agent_of s k).grant
grant-of s gone k m machine =
    ap (λ (x : Machine). (agent_of x k).grant) machine
    ∙ ap (λ a. a.grant) (agent-on length outline_of (fold evicted s gone) k)
    ∙ ap (λ agents. (agent_in agents k).grant) (evicted-agents gone s)

grant-begun : {D : Type 0} (w : DiskWords D) (reads : ReadsLeaveTheState) (counts : AStateCountsItsHistory) (f : Fixed D) (recorded : Built) (l : Ledger D) (p : OpenPages) (held : AreHeldWhole w f recorded l p) (k : ℕ)
    → (agent_of (state_after f.opening l.books.history) k).grant ≡ (agent_of (begun f.opening) k).grant
grant-begun w reads counts f recorded l p held k =
    let t = held.books.told in
    ap (λ (s : State Text Own). (agent_of s k).grant) (real-state w.tells f.opening l.books.history reads t)
    ∙ counts.grants f.opening (real w.tells f.opening l.books.history reads t) k (real-legal w.tells f.opening l.books.history reads t)

-- ---- the call

module _ {D : Type 0} (w : DiskWords D) (follow : LengthsFollowEachCall) (local : LocalCallsAreKnownByTheirWord) (reads : ReadsLeaveTheState) (counts : AStateCountsItsHistory)
    (f : Fixed D) (recorded : Built) (l mid : Ledger D) (p : OpenPages) (calls : List Entry) (c : ReadyCall) (work : WorkingCopy)
    (held : AreHeldWhole w f recorded l p) (asked : IsAsked w.tells f.opening l.books.history calls l.books.state c work []) (agent : IsAgent (machine_in l) c.agent)
    (took : HasTakenIn w f recorded l mid p calls c) (gives : gives_mode (machine_in l) c.agent c.op ≡ true) where
  abbrev pub base : State Text Own
  base = state_after f.opening mid.books.history

  -- Pending calls give no mode.
  modes-mid : (machine_in mid).persistent ≡ (machine_in l).persistent
  modes-mid =
      let begins : BeginsCall w f recorded l p calls c work [] = record { held = held; asked = asked } in
      ap (λ (x : Machine). x.persistent)
      (mid-noted w follow local f recorded l p calls c work [] begins agent mid (record { taken = took.taken; held = took.held; prepared = took.prepared; tree = took.tree }))

  -- Its agent has the grant.
  grant-base : (agent_of base c.agent).grant ≡ (agent_of (machine_in l) c.agent).grant
  grant-base =
      grant-begun w reads counts f recorded mid p took.held c.agent
      ∙ (sym (grant-begun w reads counts f recorded l p held c.agent)
      ∙ sym (grant-of (state_after f.opening l.books.history) [] c.agent (machine_in l) held.books.machine))

  pub its-reply : IsReply w.tells base c (reply.Flag true)
  its-reply =
      let is = answers-mode base c.sizes c.agent c.op (gives-word (machine_in l) c.agent c.op gives) (grant-base ∙ gives-grant (machine_in l) c.agent c.op gives) in
      record { alike = ap unread (sym is); told = λ t. sym is }

  -- The call still gives a mode.
  pub gives-now : (back : Ledger D) → HasMadeWay w f mid back p c → (agent_of (machine_in back) c.agent).key ≡ key_of f.opening c.agent → gives_mode (machine_in back) c.agent c.op ≡ true
  gives-now back way keyed =
      let machine = way.cleared.are.books.machine in
      let units = units_in c.clearing.items in
      gives-still (machine_in l) (machine_in back) c.agent c.op
      (modes-of base units (machine_in back) machine ∙ (sym (modes-of base [] (machine_in mid) took.held.books.machine) ∙ modes-mid))
      (grant-of base units c.agent (machine_in back) machine ∙ grant-base)
      (keyed ∙ sym (key-held w reads counts f recorded l p held c.agent)) gives
