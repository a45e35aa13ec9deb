-- An await of an agent that is midway: it is answered, begins to wait, or goes on waiting.
use Rattle.std.proofs.Common.{◌≡◌, ◌≢◌, ℕ, ◌+◌, ◌≤◌, Bool, true, false, List, [], ◌∷◌, ◌++◌, append-nil, length, length-append, Some, None, Ok, refl, sym, ap, ◌∙◌, subst, inl, inr, arith}
use Rattle.std.proofs.lemmas.Bool.{false≢true}
use Rattle.std.proofs.lemmas.List.Elements.{All-nil}
use Rattle.std.specs.Cmp.Lexicographic.{nat_list_eq_equiv}
use Rattle.opfs_base.specs.Texts.{Text}
use Rattle.opfs_hall.specs.Seen.{HallSeen, PassSeen}
use Rattle.opfs_hist.specs.declared.entry.Entry.{Entry}
use Rattle.opfs_hist.specs.declared.op.Op.TheVariants as op
use Rattle.opfs_hist.specs.declared.reply.Reply.{Reply}
use Rattle.opfs_hist.specs.declared.reply.Reply.TheVariants as reply
use Rattle.opfs_machine.specs.Agents.{waits_for}
use Rattle.opfs_runner.specs.Stepping.{own_entries}
use Rattle.opfs_runner.specs.declared.agent_rows.agent_row.AgentRow.{AgentRow}
use Rattle.opfs_runner.proofs.Counting.{looked-own, turned-own}
use Rattle.opfs_runner.proofs.agent_rows.Tabled.{table-same}
use Rattle.opfs_script.specs.Scripts.{Asked}
use Rattle.opfs_script.specs.declared.step.Step.TheVariants as step
use Rattle.opfs_script_run.specs.Runs.Cuts.{Cuts}
use Rattle.opfs_script_run.specs.Runs.Running.{hand_then}
use Rattle.opfs_script_run.specs.declared.runs.hand.Hand.{Hand}
use Rattle.opfs_script_run.proofs.runs.Cuts.{cuts_more, cuts_wait}
use Rattle.opfs_store.specs.Acts.Acting.{told_entry}
use Rattle.opfs_turns.specs.Agents.{AgentSeen, IsAgent}
use Rattle.opfs_turns.specs.Calls.{HasLooked, call_of}
use Rattle.opfs_turns.specs.Waiting.{HasAwaited, HasBegun, HasWaitRoom, IsAwaitTurn, IsAwaited, IsWaiting, await_reply}
use Rattle.opfs_turns.specs.declared.waiting.AwaitTurn.{AwaitTurn}
use Rattle.opfs_turns.specs.declared.waiting.AwaitTurn.TheVariants as turn
use Rattle.opfs_turns.proofs.other_rows.Awaits.{leaves-awaited, leaves-begun}
use Rattle.opfs_turns.proofs.other_rows.Leaving.{leaves-looked}
use Rattle.opfs_serving.specs.Seats.{IsMidway, slack, with_steps}

-- An await leaves the hand as it was.
await-hand : (h : Hand) (tag : Text) (r : Reply) → hand_then h (step.Await tag) (op.Await tag) r ≡ h
await-hand h tag (reply.No refusal) = refl
await-hand h tag r = refl

slack-least : (tag : Text) (waited : Bool) → slack (Some tag) waited ≤ 1
slack-least tag true = omega arith
slack-least tag false = omega arith

some-none : {X : Type 0} {x : X} → Some x ≡ None → ⊥
some-none e = cc

same-tag : {X : Type 0} {x y : X} → Some x ≡ Some y → x ≡ y
same-tag e = cc

looked-same : {O : Type 0} (a : AgentSeen O) → HasLooked a a
looked-same a = record { others = []; apart = All-nil (λ e. e.agent ≢ a.pass.agent); grown = sym (append-nil a.pass.base); own = refl; rest = refl }

module _ {O : Type 0} (tells : Type 0) (of : HallSeen O) (k : ℕ) (asked : Asked) (a b : AgentSeen O) (rows : List AgentRow) (h : Hand) (tag : Text)
    (m : IsMidway tells of k asked a rows h (Some tag)) (then : IsAgent tells b) where
  pub await-room : HasWaitRoom a
  await-room =
      let few = m.few in let least = slack-least tag m.waited in let count = m.table.count in
      record { rows = omega (arith, few, least, count); entries = omega (arith, few, least) }

  -- It looked alone.
  pub still-midway : HasLooked a b → IsMidway tells of k asked b rows h (Some tag)
  still-midway looked =
      let pass : b.pass ≡ record a.pass { base = b.pass.base } = ap (λ (x : AgentSeen O). x.pass) looked.rest in
      record {
        done = m.done;
        waited = m.waited;
        steps = m.steps;
        cuts = λ more. subst (λ (x : List Entry × ℕ). Cuts (with_steps asked (asked.steps ++ more)) x.0 h x.1 m.waited (length m.done) (step.Await tag ∷ more))
            (sym (λ i. (looked-own a b looked i, (looked.rest i).number))) (m.cuts more);
        idle = m.idle;
        waits = λ t is w. ap (λ (x : AgentSeen O). waits_for x.waiting t) looked.rest ∙ m.waits t is w;
        number = ap (λ (x : AgentSeen O). x.number) looked.rest ∙ m.number;
        key = m.key;
        hand_key = m.hand_key;
        own_key = ap (λ (x : AgentSeen O). x.key) looked.rest ∙ m.own_key;
        agrees = m.agrees;
        table = table-same tells a b m.kept then rows m.table (leaves-looked tells a b m.kept then 0 looked) (ap (λ (x : AgentSeen O). x.rows) looked.rest);
        few = let few = m.few in let count = ap (λ (x : AgentSeen O). x.entries) looked.rest in omega (arith, few, count);
        fewer = let fewer = m.fewer in let own = ap length (looked-own a b looked) in omega (arith, fewer, own);
        pending = ap (λ (x : AgentSeen O). x.pending) looked.rest ∙ m.pending;
        kept = then;
        hall = ap (λ (x : PassSeen O Entry). x.hall) pass ∙ m.hall;
        agent = ap (λ (x : PassSeen O Entry). x.agent) pass ∙ m.agent;
        alone = ap (λ (x : PassSeen O Entry). x.ended) pass ∙ m.alone;
      }

  looked-self : HasLooked a a
  looked-self = looked-same a

  -- It is answered.
  pub answered-midway : (r : Reply) → IsAwaited tells a b tag r → IsMidway tells of k asked b rows h None
  answered-midway r w =
      let pass : b.pass ≡ record a.pass { base = b.pass.base } = ap (λ (x : AgentSeen O). x.pass) w.rest in
      let awaited : HasAwaited tells a b tag r = record { mid = a; waited = inl looked-self; awaited = w } in
      let grown : own_entries b ≡ own_entries a ++ told_entry (call_of a (op.Await tag)) r ∷ [] =
      turned-own tells a b (op.Await tag) r m.kept.real w.turned (ap (λ (x : AgentSeen O). x.pass.agent) w.rest) (ap (λ (x : AgentSeen O). x.pending) w.rest) in
      let count : length (m.done ++ step.Await tag ∷ []) ≡ length m.done + 1 = length-append m.done (step.Await tag ∷ []) in
      record {
        done = m.done ++ step.Await tag ∷ [];
        waited = false;
        steps = m.steps ∙ sym (append-nil (m.done ++ step.Await tag ∷ []));
        cuts = λ more. subst (λ (x : ℕ × ℕ). Cuts (with_steps asked (asked.steps ++ more)) (own_entries b) h x.0 false x.1 more)
            (sym (λ i. ((w.rest i).number, count i)))
            (cuts_more (with_steps asked (asked.steps ++ more)) (own_entries a) (own_entries b) h h a.number m.waited (length m.done) (step.Await tag) more
            (told_entry (call_of a (op.Await tag)) r) (m.cuts more) (refl, refl) grown (sym (await-hand h tag r)));
        idle = λ none. refl;
        waits = λ t is w. absurd (false≢true w);
        number = ap (λ (x : AgentSeen O). x.number) w.rest ∙ ap (λ x. x + 1) (m.number ∙ sym count);
        key = m.key;
        hand_key = m.hand_key;
        own_key = ap (λ (x : AgentSeen O). x.key) w.rest ∙ m.own_key;
        agrees = m.agrees;
        table = table-same tells a b m.kept then rows m.table (leaves-awaited tells a b m.kept then tag r awaited) (ap (λ (x : AgentSeen O). x.rows) w.rest);
        few = let few = m.few in let least = slack-least tag m.waited in let count_b = ap (λ (x : AgentSeen O). x.entries) w.rest in omega (arith, few, least, count_b);
        fewer = let fewer = m.fewer in let own = ap length grown ∙ length-append (own_entries a) (told_entry (call_of a (op.Await tag)) r ∷ []) in omega (arith, fewer, own);
        pending = ap (λ (x : AgentSeen O). x.pending) w.rest;
        kept = then;
        hall = ap (λ (x : PassSeen O Entry). x.hall) pass ∙ m.hall;
        agent = ap (λ (x : PassSeen O Entry). x.agent) pass ∙ m.agent;
        alone = ap (λ (x : PassSeen O Entry). x.ended) pass ∙ m.alone;
      }

  -- It begins to wait. It did not wait before.
  wait-by : (waited : Bool) → m.waited ≡ waited → waits_for a.waiting tag ≡ false → m.waited ≡ false
  wait-by true is first = absurd (false≢true (sym first ∙ m.waits tag refl is))
  wait-by false is first = is

  pub waiting-midway : IsWaiting tells a b tag → IsMidway tells of k asked b rows h (Some tag)
  waiting-midway w =
      let pass : b.pass ≡ record a.pass { base = b.pass.base } = ap (λ (x : AgentSeen O). x.pass) w.rest in
      let unwaited : m.waited ≡ false = wait-by m.waited refl w.first in
      let begun : HasBegun tells a b tag = record { first = a; then_on = b; looked = looked-self; wait = w; since = looked-same b } in
      let grown : own_entries b ≡ own_entries a ++ told_entry (call_of a (op.Wait tag)) reply.Done ∷ [] =
      turned-own tells a b (op.Wait tag) reply.Done m.kept.real w.turned (ap (λ (x : AgentSeen O). x.pass.agent) w.rest) (ap (λ (x : AgentSeen O). x.pending) w.rest) in
      record {
        done = m.done;
        waited = true;
        steps = m.steps;
        cuts = λ more. subst (λ x. Cuts (with_steps asked (asked.steps ++ more)) (own_entries b) h x true (length m.done) (step.Await tag ∷ more))
            (sym (ap (λ (x : AgentSeen O). x.number) w.rest))
            (cuts_wait (with_steps asked (asked.steps ++ more)) (own_entries a) (own_entries b) h a.number (length m.done) (step.Await tag) more
            (told_entry (call_of a (op.Wait tag)) reply.Done)
            (subst (λ x. Cuts (with_steps asked (asked.steps ++ more)) (own_entries a) h a.number x (length m.done) (step.Await tag ∷ more)) unwaited (m.cuts more)) (refl, refl) grown);
        idle = λ none. absurd (some-none none);
        waits = λ t is here. ap (λ (x : AgentSeen O). waits_for x.waiting t) w.rest ∙ ap (λ x. waits_for (Some tag) x) (sym (same-tag is)) ∙ nat_list_eq_equiv.refl tag;
        number = ap (λ (x : AgentSeen O). x.number) w.rest ∙ m.number;
        key = m.key;
        hand_key = m.hand_key;
        own_key = ap (λ (x : AgentSeen O). x.key) w.rest ∙ m.own_key;
        agrees = m.agrees;
        table = table-same tells a b m.kept then rows m.table (leaves-begun tells a b m.kept tag begun then) (ap (λ (x : AgentSeen O). x.rows) w.rest);
        few = let few : a.entries + length rows ≤ 59900000 = subst (λ x. a.entries + length rows ≤ 59900000 + slack (Some tag) x) unwaited m.few in let count = ap (λ (x : AgentSeen O). x.entries) w.rest in omega (arith, few, count);
        fewer = let fewer = m.fewer in let own = ap length grown ∙ length-append (own_entries a) (told_entry (call_of a (op.Wait tag)) reply.Done ∷ []) in omega (arith, fewer, own);
        pending = ap (λ (x : AgentSeen O). x.pending) w.rest;
        kept = then;
        hall = ap (λ (x : PassSeen O Entry). x.hall) pass ∙ m.hall;
        agent = ap (λ (x : PassSeen O Entry). x.agent) pass ∙ m.agent;
        alone = ap (λ (x : PassSeen O Entry). x.ended) pass ∙ m.alone;
      }

  -- By what its turn told.
  pub is-answered : (E : Type 0) (t : AwaitTurn) → (posted : Bool) × (t ≡ turn.Answered posted) → IsAwaitTurn {E = E} tells a b tag (Ok t) → IsMidway tells of k asked b rows h None
  is-answered E t is done = answered-midway (await_reply is.0) (subst (λ x. IsAwaitTurn {E = E} tells a b tag (Ok x)) is.1 done)

  by-waiting : (E : Type 0) (heard : ℕ) → IsAwaitTurn {E = E} tells a b tag (Ok (turn.Waits heard)) → IsMidway tells of k asked b rows h (Some tag)
  by-waiting E heard (inl looked) = still-midway looked.looked
  by-waiting E heard (inr begun) = waiting-midway begun

  pub is-waiting : (E : Type 0) (t : AwaitTurn) → (heard : ℕ) × (t ≡ turn.Waits heard) → IsAwaitTurn {E = E} tells a b tag (Ok t) → IsMidway tells of k asked b rows h (Some tag)
  is-waiting E t is done = by-waiting E is.0 (subst (λ x. IsAwaitTurn {E = E} tells a b tag (Ok x)) is.1 done)
