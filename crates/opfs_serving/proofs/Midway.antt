-- An agent that is midway in its script: a step more, an await that is answered or not, and its end.
use Rattle.std.proofs.Common.{◌≡◌, ℕ, ◌+◌, ◌≤◌, Bool, true, false, List, [], ◌∷◌, ◌++◌, append_assoc, append-nil, length, length-append, Option, Some, None, refl, sym, ap, ◌∙◌, subst, inl, inr, arith}
use Rattle.std.proofs.lemmas.Bool.{false≢true}
use lib.ListN.{length-map}
use Rattle.opfs_base.specs.Texts.{Text}
use Rattle.opfs_hall.specs.Seen.{HallSeen, PassSeen}
use Rattle.opfs_hist.specs.declared.entry.Entry.{Entry}
use Rattle.opfs_runner.specs.AgentRows.Tables.{kind_of, kinds_of}
use Rattle.opfs_runner.specs.Ending.{Closes}
use Rattle.opfs_runner.specs.RunLaws.Agreeing.{Agrees}
use Rattle.opfs_runner.specs.RunLaws.Kinds.{open_rows}
use Rattle.opfs_hist.specs.declared.op.Op.{Op}
use Rattle.opfs_hist.specs.declared.reply.Reply.{Reply}
use Rattle.opfs_runner.specs.Stepping.{IsDone, IsNoted, IsPassed, IsStepped, IsWaitedFor, own_entries}
use Rattle.opfs_runner.specs.declared.agent_rows.agent_row.AgentRow.{AgentRow}
use Rattle.opfs_runner.proofs.Way.{agent_rows-more, agent_rows-stepped, cut-closes, done-cuts, kept-key, waited-cuts}
use Rattle.opfs_runner.proofs.run_laws.Stepped.{goes, opened-then}
use Rattle.opfs_script.specs.Limits.{is_origin_key, keeps_bounds}
use Rattle.opfs_script.specs.Scripts.{Asked}
use Rattle.opfs_script.specs.declared.step.Step.{Step}
use Rattle.opfs_script.specs.declared.step.Step.TheVariants as step
use Rattle.opfs_script_run.specs.Runs.Cuts.{Cuts}
use Rattle.opfs_script_run.specs.Runs.Running.{IsEnd, hand_then, op_of}
use Rattle.opfs_script_run.specs.declared.runs.hand.Hand.{Hand}
use Rattle.opfs_script_run.proofs.runs.Cuts.{cuts_end, cuts_run}
use Rattle.opfs_turns.specs.Agents.{AgentSeen, IsAgent}
use Rattle.opfs_turns.specs.Calls.{HasRoom}
use Rattle.opfs_turns.specs.Entering.{HasEnteredPending}
use Rattle.opfs_serving.specs.Seats.{IsMidway, MayEnd, open_step, slack, with_steps}
use Rattle.opfs_runner.proofs.Pending.{pending-own, pending-table}

-- A call that is done has its own entry.
pub done-longer : {O : Type 0} (a b : AgentSeen O) (o : Op) (answered : Reply) → IsDone a b o answered → length (own_entries a) + 1 ≤ length (own_entries b)
done-longer a b o answered d =
    let long = ap length d.grown ∙ length-append d.before (d.entry ∷ []) in
    let front = before-longer d.before d.waited in
    omega (arith, long, front)
  where
    before-longer : (before : List Entry) → IsWaitedFor a.number o (own_entries a) before → length (own_entries a) ≤ length before
    before-longer before (inl same) = let long = ap length same in omega (arith, long)
    before-longer before (inr w) = let long = ap length w.grown ∙ length-append (own_entries a) (w.wait ∷ []) in omega (arith, long)

-- ---- a step more

module _ {O : Type 0} (tells : Type 0) (of : HallSeen O) (k : ℕ) (asked : Asked) (a b : AgentSeen O) (old new : List AgentRow) (h then_h : Hand) (s : Step)
    (m : IsMidway tells of k asked a old h None) (fits : keeps_bounds s ≡ true) where
  abbrev n : ℕ
  n = length m.done

  -- The script, with this step and more behind it.
  abbrev longer : List Step → Asked
  longer more = with_steps asked ((asked.steps ++ s ∷ []) ++ more)

  cuts-for : (more : List Step) → Cuts (longer more) (own_entries a) h a.number false n (s ∷ more)
  cuts-for more =
      subst (λ (xs : List Step). Cuts (with_steps asked xs) (own_entries a) h a.number false n (s ∷ more)) (sym (append_assoc asked.steps (s ∷ []) more))
      (subst (λ w. Cuts (with_steps asked (asked.steps ++ s ∷ more)) (own_entries a) h a.number w n (s ∷ more)) (m.idle refl) (m.cuts (s ∷ more)))

  hand-fine : is_origin_key h.key ≡ true
  hand-fine = ap is_origin_key m.hand_key ∙ m.key

  then-agrees : (p : IsPassed tells a b old new h then_h s) → Agrees (hand_then h s (op_of h s) p.answered) (kinds_of new)
  then-agrees p = subst (Agrees (hand_then h s (op_of h s) p.answered)) (sym p.kinds) (goes h (kinds_of old) m.agrees s p.answered fits hand-fine)

  then-opened : (p : IsNoted tells a b old new h s) → open_rows 1 (kinds_of new) ≡ (hand_then h s (op_of h s) p.answered).opened
  then-opened p = ap (open_rows 1) p.kinds ∙ sym (opened-then h (kinds_of old) m.agrees s p.answered fits hand-fine)

  module _ (room : a.entries + length old ≤ 59900000) where
    rows-more : (p : IsPassed tells a b old new h then_h s) → length new ≤ length old + 1
    rows-more p = agent_rows-stepped old new h s p.answered (length old) p.kinds (omega arith)

    pub passed-room : IsPassed tells a b old new h then_h s → HasRoom b
    passed-room p =
        let few = p.done.goes.few in let rows = rows-more p in let count = p.table.count in
        record { rows = omega (arith, room, rows, count); entries = omega (arith, few, room) }

    -- It was made, and all that was pending is entered.
    pub midway-more : IsPassed tells a b old new h then_h s → IsAgent tells b → (c : AgentSeen O) → IsAgent tells c → HasEnteredPending tells b c
        → IsMidway tells of k (with_steps asked (asked.steps ++ s ∷ [])) c new then_h None
    midway-more p kept c then e =
        let count : length (m.done ++ s ∷ []) ≡ n + 1 = length-append m.done (s ∷ []) in
        let pass : c.pass ≡ record a.pass { base = c.pass.base } =
        ap (λ (x : AgentSeen O). x.pass) e.rest ∙ (λ i. record (p.done.goes.same i) { base = c.pass.base }) in
        record {
          done = m.done ++ s ∷ [];
          waited = false;
          steps = ap (λ xs. xs ++ s ∷ []) (m.steps ∙ append-nil m.done) ∙ sym (append-nil (m.done ++ s ∷ []));
          cuts = λ more.
              subst (λ (x : List Entry × ℕ × ℕ). Cuts (longer more) x.0 then_h x.1 false x.2 more)
              (sym (λ i. (pending-own tells b c kept e i, (e.rest i).number, count i)))
              (done-cuts (longer more) a b h then_h n s more p.answered (cuts-for more) p.done p.noted);
          idle = λ none. refl;
          waits = λ tag is w. absurd (false≢true w);
          number = ap (λ (x : AgentSeen O). x.number) e.rest ∙ p.done.next ∙ ap (λ x. x + 1) (m.number ∙ sym count);
          key = m.key;
          hand_key = ap (λ (x : Hand). x.key) p.noted ∙ kept-key h s (op_of h s) p.answered ∙ m.hand_key;
          own_key = ap (λ (x : AgentSeen O). x.key) e.rest ∙ p.done.goes.key ∙ m.own_key;
          agrees = subst (λ x. Agrees x (kinds_of new)) (sym p.noted) (then-agrees p);
          table = pending-table tells b c kept e new then p.table;
          few = let count_c = ap (λ (x : AgentSeen O). x.entries) e.rest in let few = p.done.goes.few in let rows = rows-more p in omega (arith, count_c, few, rows, room);
          fewer =
              let own = ap length (pending-own tells b c kept e) in let longer_by = done-longer a b (op_of h s) p.answered p.done in let rows = rows-more p in let fewer = m.fewer in
              omega (arith, own, longer_by, rows, fewer);
          pending = ap (λ (x : AgentSeen O). x.pending) e.rest;
          kept = then;
          hall = ap (λ (x : PassSeen O Entry). x.hall) pass ∙ m.hall;
          agent = ap (λ (x : PassSeen O Entry). x.agent) pass ∙ m.agent;
          alone = ap (λ (x : PassSeen O Entry). x.ended) pass ∙ m.alone;
        }

    closes-here : {w : Bool} → Closes (longer []) w (own_entries b) b.number (open_rows 1 (kinds_of new)) → Closes (with_steps asked (asked.steps ++ s ∷ [])) w (own_entries b) b.number (open_rows 1 (kinds_of new))
    closes-here {w} = subst (λ (xs : List Step). Closes (with_steps asked xs) w (own_entries b) b.number (open_rows 1 (kinds_of new))) (append-nil (asked.steps ++ s ∷ []))

    -- It was not made whole, for want of memory.
    pub midway-stops : IsStepped tells a b old new h then_h s false → IsAgent tells b → MayEnd tells of k (with_steps asked (asked.steps ++ s ∷ [])) false b new
    midway-stops (inl p) kept =
        let after = hand_then h s (op_of h s) p.answered in
        let pass = p.done.goes.same in
        let few = p.done.goes.few in
        let rows = agent_rows-more old new (op_of h s) p.answered (length old) p.kinds (omega arith) in
        record {
          closes = closes-here (cut-closes (longer []) (own_entries b) after b.number false (n + 1) [] (open_rows 1 (kinds_of new))
              (done-cuts (longer []) a b h after n s [] p.answered (cuts-for []) p.done refl) (then-opened p));
          table = p.table;
          few = omega (arith, few, rows, room);
          kept = kept;
          hall = ap (λ (x : PassSeen O Entry). x.hall) pass ∙ m.hall;
          agent = ap (λ (x : PassSeen O Entry). x.agent) pass ∙ m.agent;
          alone = ap (λ (x : PassSeen O Entry). x.ended) pass ∙ m.alone;
        }
    midway-stops (inr l) kept =
        let pass = l.done.goes.same in
        let few = l.done.goes.few in
        let same = ap length l.kinds in
        let before = waited-cuts (longer []) (own_entries a) (own_entries b) h a.number n s [] (cuts-for []) l.done.waited in
        record {
          closes = closes-here (subst (λ x. Closes (longer []) false (own_entries b) x (open_rows 1 (kinds_of new))) (sym l.done.next)
              (cut-closes (longer []) (own_entries b) h a.number before.0 n (s ∷ []) (open_rows 1 (kinds_of new)) before.1
              (ap (open_rows 1) l.kinds ∙ sym m.agrees.still_open)));
          table = l.table;
          few = omega (arith, few, same, room, length-map old kind_of, length-map new kind_of);
          kept = kept;
          hall = ap (λ (x : PassSeen O Entry). x.hall) pass ∙ m.hall;
          agent = ap (λ (x : PassSeen O Entry). x.agent) pass ∙ m.agent;
          alone = ap (λ (x : PassSeen O Entry). x.ended) pass ∙ m.alone;
        }

-- ---- its end

module _ {O : Type 0} (tells : Type 0) (of : HallSeen O) (k : ℕ) (asked : Asked) (a : AgentSeen O) (rows : List AgentRow) (h : Hand) where
  as-asked : (x : Asked) → with_steps x (x.steps ++ []) ≡ x
  as-asked x = ap (λ (xs : List Step). with_steps x xs) (append-nil x.steps)

  slack-few : (awaits : Option Text) (waited : Bool) → slack awaits waited ≤ 3
  slack-few None waited = omega arith
  slack-few (Some tag) true = omega arith
  slack-few (Some tag) false = omega arith

  ends-by : (awaits : Option Text) (whole : Bool) (m : IsMidway tells of k asked a rows h awaits) → Closes asked whole (own_entries a) a.number (open_rows 1 (kinds_of rows)) → MayEnd tells of k asked whole a rows
  ends-by awaits whole m closes = record {
    closes = closes;
    table = m.table;
    few = let few = m.few in let most = slack-few awaits m.waited in omega (arith, few, most);
    kept = m.kept;
    hall = m.hall;
    agent = m.agent;
    alone = m.alone;
  }

  -- It has made all that it was asked for.
  pub midway-whole : IsMidway tells of k asked a rows h None → MayEnd tells of k asked true a rows
  midway-whole m = ends-by None true m closes
    where
      all : length m.done ≡ length asked.steps
      all = ap length (sym (append-nil m.done) ∙ sym m.steps)

      cuts : Cuts asked (own_entries a) h a.number false (length asked.steps) []
      cuts = subst (λ (x : Asked × Bool × ℕ). Cuts x.0 (own_entries a) h a.number x.1 x.2 []) (λ i. (as-asked asked i, m.idle refl i, all i)) (m.cuts [])

      closes : Closes asked true (own_entries a) a.number (open_rows 1 (kinds_of rows))
      closes rest end =
          let last : IsEnd a.number h.opened rest = subst (λ os. IsEnd a.number os rest) (sym m.agrees.still_open) end in
          record {
            cut = cuts_end asked (own_entries a) rest h a.number false (length asked.steps) [] cuts last;
            run = λ whole. cuts_run asked (own_entries a) rest h a.number false cuts last;
          }

  -- Or not, where it awaits.
  pub midway-ends : (awaits : Option Text) → IsMidway tells of k asked a rows h awaits → MayEnd tells of k asked false a rows
  midway-ends awaits m =
      ends-by awaits false m
      (cut-closes asked (own_entries a) h a.number m.waited (length m.done) (open_step awaits ++ []) (open_rows 1 (kinds_of rows))
      (subst (λ (x : Asked). Cuts x (own_entries a) h a.number m.waited (length m.done) (open_step awaits ++ [])) (as-asked asked) (m.cuts []))
      (sym m.agrees.still_open))

-- ---- a step that it awaits, or for which there was no memory at all

module _ {O : Type 0} (tells : Type 0) (of : HallSeen O) (k : ℕ) (asked : Asked) (a : AgentSeen O) (rows : List AgentRow) (h : Hand) (s : Step) (m : IsMidway tells of k asked a rows h None) where
  cuts-next : (more : List Step) → Cuts (with_steps asked ((asked.steps ++ s ∷ []) ++ more)) (own_entries a) h a.number false (length m.done) (s ∷ more)
  cuts-next more =
      subst (λ (xs : List Step). Cuts (with_steps asked xs) (own_entries a) h a.number false (length m.done) (s ∷ more)) (sym (append_assoc asked.steps (s ∷ []) more))
      (subst (λ w. Cuts (with_steps asked (asked.steps ++ s ∷ more)) (own_entries a) h a.number w (length m.done) (s ∷ more)) (m.idle refl) (m.cuts (s ∷ more)))

  some-none : {X : Type 0} {x : X} → Some x ≡ None → ⊥
  some-none e = cc

  pub midway-awaits : (tag : Text) → s ≡ step.Await tag → a.entries + length rows ≤ 59900000 → IsMidway tells of k (with_steps asked (asked.steps ++ s ∷ [])) a rows h (Some tag)
  midway-awaits tag is room = record {
    done = m.done;
    waited = false;
    steps = (λ i. (m.steps ∙ append-nil m.done) i ++ is i ∷ []);
    cuts = λ more. subst (λ x. Cuts (with_steps asked ((asked.steps ++ s ∷ []) ++ more)) (own_entries a) h a.number false (length m.done) (x ∷ more)) is (cuts-next more);
    idle = λ none. absurd (some-none none);
    waits = λ t here w. absurd (false≢true w);
    number = m.number;
    key = m.key;
    hand_key = m.hand_key;
    own_key = m.own_key;
    agrees = m.agrees;
    table = m.table;
    few = omega (arith, room);
    fewer = m.fewer;
    pending = m.pending;
    kept = m.kept;
    hall = m.hall;
    agent = m.agent;
    alone = m.alone;
  }

  pub midway-missed : a.entries + length rows ≤ 59900000 → MayEnd tells of k (with_steps asked (asked.steps ++ s ∷ [])) false a rows
  midway-missed room = record {
    closes =
        subst (λ (xs : List Step). Closes (with_steps asked xs) false (own_entries a) a.number (open_rows 1 (kinds_of rows))) (append-nil (asked.steps ++ s ∷ []))
        (cut-closes (with_steps asked ((asked.steps ++ s ∷ []) ++ [])) (own_entries a) h a.number false (length m.done) (s ∷ []) (open_rows 1 (kinds_of rows)) (cuts-next []) (sym m.agrees.still_open));
    table = m.table;
    few = omega (arith, room);
    kept = m.kept;
    hall = m.hall;
    agent = m.agent;
    alone = m.alone;
  }
