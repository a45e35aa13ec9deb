-- How far the run of a script is.
use Rattle.std.proofs.Common.{◌≡◌, ℕ, suc, ◌+◌, ◌-◌, ◌<◌, ◌≤◌, Bool, true, false, List, [], ◌∷◌, ◌++◌, drop, drop-cons, get_or, length, Option, Some, None, refl, sym, ap, ◌∙◌, subst, inl, inr, arith}
use Rattle.std.proofs.lemmas.Bool.{false≢true, and_parts, leb-true}
use Rattle.std.specs.Prelude.{slice_get, nat_le}
use Rattle.std.specs.List.{list_all}
use Rattle.std.proofs.lemmas.List.Sums.{AllPass-from_list_all}
use Rattle.std.proofs.lemmas.List.{length-append, drop_all}
use lib.ListN.{length-map, length-set}
use Rattle.opfs_base.specs.Texts.{Text}
use Rattle.opfs_base.specs.declared.locator.Locator.{Locator}
use Rattle.opfs_hall.specs.Seen.{PassSeen}
use Rattle.opfs_hist.specs.declared.entry.Entry.{Entry}
use Rattle.opfs_hist.specs.declared.op.Op.{Op}
use Rattle.opfs_hist.specs.declared.op.Op.TheVariants as op
use Rattle.opfs_hist.specs.declared.reply.Reply.{Reply}
use Rattle.opfs_hist.specs.declared.reply.Reply.TheVariants as reply
use Rattle.opfs_turns.specs.Agents.{AgentSeen, IsAgent}
use Rattle.opfs_turns.specs.Calls.{HasRoom}
use Rattle.opfs_turns.specs.Entering.{HasEnteredPending}
use Rattle.opfs_script_run.specs.declared.runs.hand.Hand.{Hand}
use Rattle.opfs_script_run.specs.declared.runs.hand.Open.{Open}
use Rattle.opfs_script_run.specs.Runs.Cuts.{Cuts}
use Rattle.opfs_script_run.specs.Runs.Running.{op_of, hand_after, hand_then, bind_name, binds_root, binds_child, empty_hand, entries_of, IsEnd}
use Rattle.opfs_script_run.proofs.runs.Cuts.{cuts_begin, cuts_more, cuts_wait, cuts_end, cuts_run}
use Rattle.opfs_script.specs.declared.step.Step.{Step}
use Rattle.opfs_script.specs.Limits.{is_origin_key, is_formed, fits_alone, bytes_of_agent, keeps_bounds, keeps_limits}
use Rattle.opfs_script.specs.Scripts.{Asked}
use Rattle.opfs_runner.specs.RunLaws.Agreeing.{Agrees}
use Rattle.opfs_runner.specs.RunLaws.Kinds as rows
use Rattle.opfs_runner.specs.RunLaws.Kinds.{RowKind, kinds_changed, kinds_after, open_rows}
use Rattle.opfs_runner.specs.RunLaws.Leaving.{row_left, snapshot_bound, kinds_without, kinds_stepped}
use Rattle.opfs_runner.proofs.Pending.{pending-own, pending-table}
use Rattle.opfs_runner.proofs.run_laws.StepOps.{waits}
use Rattle.opfs_runner.proofs.run_laws.Stepped.{begins, goes, opened-then}
use Rattle.opfs_runner.specs.AgentRows.Tables.{kind_of, kinds_of, HasTable}
use Rattle.opfs_runner.specs.declared.agent_rows.agent_row.AgentRow.{AgentRow}
use Rattle.opfs_runner.specs.Ending.{Closes}
use Rattle.opfs_runner.specs.Stepping.{own_entries, IsWaitedFor, IsDone, IsNoted, IsPassed, IsStepped, MayHaveEntered}

-- So many steps were made, and their hand has taken note.
pub record UnderWay {O : Type 0} (tells : Type 0) (asked : Asked) (start : PassSeen O Entry) (a : AgentSeen O) (agent_rows : List AgentRow) (h : Hand) (done : ℕ) : Type 0 where
  pub cuts : Cuts asked (own_entries a) h a.number false done (drop done asked.steps)
  pub agrees : Agrees h (kinds_of agent_rows)
  pub hand_key : h.key ≡ asked.key
  pub own_key : a.key ≡ asked.key
  pub table : HasTable tells a agent_rows
  pub same : a.pass ≡ record start { base = a.pass.base }
  pub entries : a.entries ≤ done + done
  pub rows : length agent_rows ≤ done

-- ---- the key stays

root-key : (h : Hand) (v bucket : Text) (key : Option Text) → (binds_root h v bucket key).key ≡ h.key
root-key h v bucket None = refl
root-key h v bucket (Some origin) = refl

child-key : (h : Hand) (v : Text) (dir : Locator) (r : Reply) → (binds_child h v dir r).key ≡ h.key
child-key h v dir (reply.Child k name) = refl
child-key h v dir r = refl

after-key : (h : Hand) (v : Text) (o : Op) (r : Reply) → (hand_after h v o r).key ≡ h.key
after-key h v (op.GetDirectory bucket) r = root-key h v bucket h.key
after-key h v (op.Next n dir) r = child-key h v dir r
after-key h v o r = refl

pub kept-key : (h : Hand) (s : Step) (o : Op) (r : Reply) → (hand_then h s o r).key ≡ h.key
kept-key h s o (reply.No refusal) = refl
kept-key h s o r = after-key h (bind_name s) o r

-- ---- one more row at most

more-rows : (kinds : List RowKind) (o : Op) → length (kinds_changed kinds o) ≤ length kinds + 1
more-rows kinds (op.Values dir) = let n = length-append kinds (rows.iterator dir ∷ []) in omega (arith, n)
more-rows kinds (op.GetFile at) = let n = length-append kinds (rows.snapshot ∷ []) in omega (arith, n)
more-rows kinds (op.CreateWritable at keep) = let n = length-append kinds (rows.stream ∷ []) in omega (arith, n)
more-rows kinds (op.CreateSyncAccessHandle at mode) = let n = length-append kinds (rows.handle ∷ []) in omega (arith, n)
more-rows kinds (op.Close n) = let long = length-set kinds (n - 1) rows.closed_stream in omega (arith, long)
more-rows kinds (op.Abort n) = let long = length-set kinds (n - 1) rows.closed_stream in omega (arith, long)
more-rows kinds (op.SyncClose n) = let long = length-set kinds (n - 1) rows.closed_handle in omega (arith, long)
more-rows kinds o = omega arith

rows-after : (kinds : List RowKind) (o : Op) (r : Reply) → length (kinds_after kinds o r) ≤ length kinds + 1
rows-after kinds o (reply.No refusal) = omega arith
rows-after kinds o r = more-rows kinds o

rows-without : (kinds : List RowKind) (x : Option ℕ) → length (kinds_without kinds x) ≡ length kinds
rows-without kinds None = refl
rows-without kinds (Some n) = length-set kinds (n - 1) rows.gone

rows-stepped : (h : Hand) (kinds : List RowKind) (s : Step) (r : Reply) → length (kinds_stepped h kinds s r) ≤ length kinds + 1
rows-stepped h kinds s r =
    let after = rows-after kinds (op_of h s) r in
    let same = rows-without (kinds_after kinds (op_of h s) r) (row_left (snapshot_bound h s) (snapshot_bound (hand_then h s (op_of h s) r) s)) in
    omega (arith, after, same)

pub agent_rows-stepped : (old new : List AgentRow) (h : Hand) (s : Step) (r : Reply) (done : ℕ) → kinds_of new ≡ kinds_stepped h (kinds_of old) s r → length old ≤ done → length new ≤ done + 1
agent_rows-stepped old new h s r done kinds few =
    let after = rows-stepped h (kinds_of old) s r in
    let long = ap length kinds in
    omega (arith, after, long, few, length-map old kind_of, length-map new kind_of)

pub agent_rows-more : (old new : List AgentRow) (o : Op) (r : Reply) (done : ℕ) → kinds_of new ≡ kinds_after (kinds_of old) o r → length old ≤ done → length new ≤ done + 1
agent_rows-more old new o r done kinds few =
    let after = rows-after (kinds_of old) o r in
    let long = ap length kinds in
    omega (arith, after, long, few, length-map old kind_of, length-map new kind_of)

-- ---- cuts

-- What is told before the entry of a step.
pub waited-cuts : (asked : Asked) (so_far before : List Entry) (h : Hand) (n done : ℕ) (s : Step) (left : List Step) → Cuts asked so_far h n false done (s ∷ left) → IsWaitedFor n (op_of h s) so_far before
    → (waited : Bool) × Cuts asked before h n waited done (s ∷ left)
waited-cuts asked so_far before h n done s left cuts (inl same) = (false, subst (λ es. Cuts asked es h n false done (s ∷ left)) (sym same) cuts)
waited-cuts asked so_far before h n done s left cuts (inr w) =
    (true, cuts_wait asked so_far before h n done s left w.wait cuts (waits h n w.tag w.wait w.number w.wait_is s w.await_is) w.grown)

pub done-cuts : {O : Type 0} (asked : Asked) (a b : AgentSeen O) (h then_h : Hand) (done : ℕ) (s : Step) (left : List Step) (r : Reply) → Cuts asked (own_entries a) h a.number false done (s ∷ left)
    → IsDone a b (op_of h s) r → then_h ≡ hand_then h s (op_of h s) r → Cuts asked (own_entries b) then_h b.number false (done + 1) left
done-cuts asked a b h then_h done s left r cuts d noted =
    let before = waited-cuts asked (own_entries a) d.before h a.number done s left cuts d.waited in
    subst (λ n. Cuts asked (own_entries b) then_h n false (done + 1) left) (sym d.next)
    (cuts_more asked d.before (own_entries b) h then_h a.number before.0 done s left d.entry before.1 (d.numbered, d.asked) d.grown
    (noted ∙ (λ i. hand_then h s (sym d.asked i) (sym d.told i))))

-- The end here, where not all steps were made.
pub cut-closes : (asked : Asked) (so_far : List Entry) (h : Hand) (n : ℕ) (waited : Bool) (done : ℕ) (left : List Step) (rows : List Open) → Cuts asked so_far h n waited done left → rows ≡ h.opened
    → Closes asked false so_far n rows
cut-closes asked so_far h n waited done left rows cuts same rest end = record {
  cut = cuts_end asked so_far rest h n waited done left cuts (subst (λ os. IsEnd n os rest) same end);
  run = λ e. absurd (false≢true e);
}

module _ {O : Type 0} (tells : Type 0) (asked : Asked) (start : PassSeen O Entry) (a b : AgentSeen O) (old new : List AgentRow) (h then_h : Hand) (done : ℕ) (s : Step) (left : List Step)
    (fine : is_origin_key asked.key ≡ true) (way : UnderWay tells asked start a old h done) (next : drop done asked.steps ≡ s ∷ left) (fits : keeps_bounds s ≡ true) where
  cuts : Cuts asked (own_entries a) h a.number false done (s ∷ left)
  cuts = subst (Cuts asked (own_entries a) h a.number false done) next way.cuts

  hand-fine : is_origin_key h.key ≡ true
  hand-fine = ap is_origin_key way.hand_key ∙ fine

  then-agrees : (p : IsPassed tells a b old new h then_h s) → Agrees (hand_then h s (op_of h s) p.answered) (kinds_of new)
  then-agrees p = subst (Agrees (hand_then h s (op_of h s) p.answered)) (sym p.kinds) (goes h (kinds_of old) way.agrees s p.answered fits hand-fine)

  -- What is open behind the call of the step.
  then-opened : (n : IsNoted tells a b old new h s) → open_rows 1 (kinds_of new) ≡ (hand_then h s (op_of h s) n.answered).opened
  then-opened n = ap (open_rows 1) n.kinds ∙ sym (opened-then h (kinds_of old) way.agrees s n.answered fits hand-fine)

  key-stays : (o : Op) (r : Reply) → (hand_then h s o r).key ≡ h.key
  key-stays o r = kept-key h s o r

  then-same : (goes_on : b.pass ≡ record a.pass { base = b.pass.base }) → b.pass ≡ record start { base = b.pass.base }
  then-same goes_on = goes_on ∙ (λ i. record (way.same i) { base = b.pass.base })

  pub way-more : drop (done + 1) asked.steps ≡ left → IsStepped tells a b old new h then_h s true → UnderWay tells asked start b new then_h (done + 1)
  way-more later p = record {
    cuts = subst (Cuts asked (own_entries b) then_h b.number false (done + 1)) (sym later) (done-cuts asked a b h then_h done s left p.answered cuts p.done p.noted);
    agrees = subst (λ x. Agrees x (kinds_of new)) (sym p.noted) (then-agrees p);
    hand_key = ap (λ (x : Hand). x.key) p.noted ∙ key-stays (op_of h s) p.answered ∙ way.hand_key;
    own_key = p.done.goes.key ∙ way.own_key;
    table = p.table;
    same = then-same p.done.goes.same;
    entries = let few = p.done.goes.few in omega (arith, few, way.entries);
    rows = agent_rows-stepped old new h s p.answered done p.kinds way.rows;
  }

  -- What is known where the run stops there.
  pub way-stops : IsStepped tells a b old new h then_h s false → Closes asked false (own_entries b) b.number (open_rows 1 (kinds_of new))
  way-stops (inl n) =
      let after = hand_then h s (op_of h s) n.answered in
      cut-closes asked (own_entries b) after b.number false (done + 1) left (open_rows 1 (kinds_of new))
      (done-cuts asked a b h after done s left n.answered cuts n.done refl) (then-opened n)
  way-stops (inr l) =
      let before = waited-cuts asked (own_entries a) (own_entries b) h a.number done s left cuts l.done.waited in
      subst (λ m. Closes asked false (own_entries b) m (open_rows 1 (kinds_of new))) (sym l.done.next)
      (cut-closes asked (own_entries b) h a.number before.0 done (s ∷ left) (open_rows 1 (kinds_of new)) before.1
      (ap (open_rows 1) l.kinds ∙ sym way.agrees.still_open))

-- ---- before the first step, and behind the last

pub no-table : {O : Type 0} (tells : Type 0) (a : AgentSeen O) (agent_rows : List AgentRow) → a.rows ≡ 0 → agent_rows ≡ [] → HasTable tells a agent_rows
no-table {O} tells a agent_rows rows empty = subst (HasTable tells a) (sym empty) (record { count = sym rows; each = λ i s is. absurd (nothing i s is) })
  where
    nothing : (i : ℕ) (s : AgentRow) → slice_get {X = AgentRow} [] i ≡ Some s → ⊥
    nothing i s is = cc

pub way-begins : {O : Type 0} (tells : Type 0) (asked : Asked) (a : AgentSeen O) (agent_rows : List AgentRow) (h : Hand) → a.pass.base ≡ [] → a.pending ≡ [] → a.number ≡ 1 → a.entries ≡ 0 → a.rows ≡ 0
    → a.key ≡ asked.key → agent_rows ≡ [] → h ≡ empty_hand asked.key → UnderWay tells asked a.pass a agent_rows h 0
way-begins tells asked a agent_rows h fresh none number entries rows key empty hand = record {
  cuts = subst (λ n. Cuts asked (own_entries a) h n false 0 asked.steps) (sym number)
      (subst (λ x. Cuts asked (own_entries a) x 1 false 0 asked.steps) (sym hand)
      (subst (λ es. Cuts asked es (empty_hand asked.key) 1 false 0 asked.steps) (sym own_none) (cuts_begin asked)));
  agrees = subst (λ x. Agrees x (kinds_of agent_rows)) (sym hand) (subst (λ ks. Agrees (empty_hand asked.key) (kinds_of ks)) (sym empty) (begins asked.key));
  hand_key = ap (λ (x : Hand). x.key) hand;
  own_key = key;
  table = no-table tells a agent_rows rows empty;
  same = refl;
  entries = omega (arith, entries);
  rows = let long = ap length empty in omega (arith, long);
}
  where
    own_none : own_entries a ≡ []
    own_none = (λ i. entries_of a.pass.agent (fresh i ++ none i))

-- Without a hand nothing was made.
pub none-closes : {O : Type 0} (tells : Type 0) (asked : Asked) (a : AgentSeen O) (agent_rows : List AgentRow) → a.pass.base ≡ [] → a.pending ≡ [] → a.number ≡ 1 → agent_rows ≡ []
    → Closes asked false (own_entries a) a.number (open_rows 1 (kinds_of agent_rows))
none-closes tells asked a agent_rows fresh none number empty =
    let own_none : own_entries a ≡ [] = (λ i. entries_of a.pass.agent (fresh i ++ none i)) in
    subst (λ es. Closes asked false es a.number (open_rows 1 (kinds_of agent_rows))) (sym own_none)
    (subst (λ n. Closes asked false [] n (open_rows 1 (kinds_of agent_rows))) (sym number)
    (cut-closes asked [] (empty_hand asked.key) 1 false 0 asked.steps (open_rows 1 (kinds_of agent_rows)) (cuts_begin asked) (ap (λ ks. open_rows 1 (kinds_of ks)) empty)))

pub way-ends : {O : Type 0} (tells : Type 0) (asked : Asked) (start : PassSeen O Entry) (a : AgentSeen O) (agent_rows : List AgentRow) (h : Hand) (done : ℕ) → UnderWay tells asked start a agent_rows h done
    → done ≡ length asked.steps → Closes asked true (own_entries a) a.number (open_rows 1 (kinds_of agent_rows))
way-ends tells asked start a agent_rows h done way all rest end =
    let last : IsEnd a.number h.opened rest = subst (λ os. IsEnd a.number os rest) (sym way.agrees.still_open) end in
    let none : drop done asked.steps ≡ [] = drop_all done asked.steps (omega (arith, all)) in
    let cuts : Cuts asked (own_entries a) h a.number false (length asked.steps) [] =
    subst (λ n. Cuts asked (own_entries a) h a.number false n []) all (subst (Cuts asked (own_entries a) h a.number false done) none way.cuts) in
    record {
      cut = cuts_end asked (own_entries a) rest h a.number false (length asked.steps) [] cuts last;
      run = λ whole. cuts_run asked (own_entries a) rest h a.number false cuts last;
    }

-- ---- the limits of a script

module _ (asked : Asked) (limits : keeps_limits asked ≡ true) where
  formed : is_formed asked ≡ true
  formed = (and_parts (is_formed asked) (fits_alone asked) limits).0

  pub key-fine : is_origin_key asked.key ≡ true
  key-fine = (and_parts (is_origin_key asked.key) (list_all keeps_bounds asked.steps) formed).0

  pub few-steps : length asked.steps ≤ 20000
  few-steps = leb-true (length asked.steps) 20000 (and_parts (nat_le (length asked.steps) 20000) (nat_le (bytes_of_agent asked) 67108864) (and_parts (is_formed asked) (fits_alone asked) limits).1).0

  pub step-fits : (i : ℕ) (d : Step) → i < length asked.steps → keeps_bounds (get_or asked.steps i d) ≡ true
  step-fits i d within = AllPass-from_list_all keeps_bounds asked.steps (and_parts (is_origin_key asked.key) (list_all keeps_bounds asked.steps) formed).1 i d within

-- The next step.
pub step-next : (asked : Asked) (i : ℕ) (s : Step) → s ≡ get_or asked.steps i s → i < length asked.steps → drop i asked.steps ≡ s ∷ drop (i + 1) asked.steps
step-next asked i s is within =
    let one : suc i ≡ i + 1 = omega arith in
    drop-cons asked.steps i s within ∙ (λ j. sym is j ∷ drop (one j) asked.steps)

-- What a step that stops the run leaves.
module _ {O : Type 0} (tells : Type 0) (a b : AgentSeen O) (old new : List AgentRow) (h then_h : Hand) (s : Step) where
  pub stop-table : IsStepped tells a b old new h then_h s false → HasTable tells b new
  stop-table (inl n) = n.table
  stop-table (inr l) = l.table

  pub stop-same : IsStepped tells a b old new h then_h s false → b.pass ≡ record a.pass { base = b.pass.base }
  stop-same (inl n) = n.done.goes.same
  stop-same (inr l) = l.done.goes.same

  pub stop-few : (done : ℕ) → done < 20000 → a.entries ≤ done + done → length old ≤ done → IsStepped tells a b old new h then_h s false → (b.entries ≤ 50000) × (length new ≤ 20000)
  stop-few done few entries rows (inl n) =
      let more = agent_rows-more old new (op_of h s) n.answered done n.kinds rows in
      let few_more = n.done.goes.few in
      (omega (arith, few, entries, few_more), omega (arith, few, more))
  stop-few done few entries rows (inr l) =
      let same = ap length l.kinds in
      let few_more = l.done.goes.few in
      (omega (arith, few, entries, few_more), omega (arith, few, rows, same, length-map old kind_of, length-map new kind_of))

-- ---- the agent's local calls are entered

module _ {O : Type 0} (tells : Type 0) (asked : Asked) (start : PassSeen O Entry) (a b : AgentSeen O) (rows : List AgentRow) (h : Hand) (done : ℕ) (way : UnderWay tells asked start a rows h done) where
  entered : HasEnteredPending tells a b → IsAgent tells a → IsAgent tells b → UnderWay tells asked start b rows h done
  entered e kept then =
      let rest = e.rest in record {
        cuts = subst (λ (es : List Entry). Cuts asked es h b.number false done (drop done asked.steps)) (sym (pending-own tells a b kept e))
            (subst (λ (n : ℕ). Cuts asked (own_entries a) h n false done (drop done asked.steps)) (sym (ap (λ (x : AgentSeen O). x.number) rest)) way.cuts);
        agrees = way.agrees;
        hand_key = way.hand_key;
        own_key = ap (λ (x : AgentSeen O). x.key) rest ∙ way.own_key;
        table = pending-table tells a b kept e rows then way.table;
        same = ap (λ (x : AgentSeen O). x.pass) rest ∙ ap (λ (p : PassSeen O Entry). record p { base = b.pass.base }) way.same;
        entries = subst (λ (n : ℕ). n ≤ done + done) (sym (ap (λ (x : AgentSeen O). x.entries) rest)) way.entries;
        rows = way.rows;
      }

  pub way-enters : MayHaveEntered tells a b → UnderWay tells asked start b rows h done
  way-enters (inl same) = subst (λ (x : AgentSeen O). UnderWay tells asked start x rows h done) (sym same) way
  way-enters (inr e) = entered e.0 e.1 e.2

pub way-room : {O : Type 0} (tells : Type 0) (asked : Asked) (start : PassSeen O Entry) (a : AgentSeen O) (rows : List AgentRow) (h : Hand) (done : ℕ) → UnderWay tells asked start a rows h done → done ≤ 20000 → HasRoom a
way-room tells asked start a rows h done way few =
    let count = way.table.count in let made = way.rows in let entered = way.entries in
    record { rows = omega (arith, count, made, few); entries = omega (arith, entered, few) }
