-- A legal history without its waits is legal.
use Rattle.std.proofs.Common.{◌≡◌, ◌+◌, ◌-◌, ◌==◌, ◌<◌, ℕ, zero, suc, Bool, true, false, List, [], ◌∷◌, ◌++◌, length, map, All, slice_get, Option, Some, None, refl, sym, ap, subst, ◌∙◌, arith}
use Rattle.std.proofs.lemmas.List.{length-set}
use Rattle.std.proofs.lemmas.List.Elements.{All-head, All-tail}
use Rattle.opfs_base.specs.Texts.{Text}
use Rattle.opfs_hist.specs.declared.entry.Entry.{Entry}
use Rattle.opfs_hist.specs.declared.op.Op.{Op}
use Rattle.opfs_hist.specs.declared.op.Op.TheVariants as op
use Rattle.opfs_hist.specs.declared.reply.Reply.{Reply}
use Rattle.opfs_hist.specs.declared.reply.Reply.TheVariants as reply
use Rattle.opfs_machine.specs.declared.own.Own.{Own}
use Rattle.opfs_machine.specs.declared.state.Agent.{Agent}
use Rattle.opfs_machine.specs.declared.state.State.{State}
use Rattle.opfs_machine.specs.Agents.{agent_of, with_agent, counted, party_with}
use Rattle.opfs_machine.specs.Ordered.{insert_by}
use Rattle.std.specs.Ordering.{nat_cmp}
use Rattle.std.specs.Cmp.Lexicographic.{slice_cmp}
use Rattle.opfs_machine.specs.Contents.{in_bytes}
use Rattle.opfs_machine.specs.Effects.{effect, refused}
use Rattle.opfs_machine.specs.Histories.{may_enter, asks_stuck, evicted_by, IsCall, LegalFrom}
use Rattle.opfs_machine.specs.Openings.{Who, agent_begun, begun}
use Rattle.opfs_machine.specs.Replies.{sizes_of}
use Rattle.opfs_machine.specs.Rows.{row_at, children_of, with_row, with_file, without}
use Rattle.opfs_machine.specs.Steps.{after_reply, is_refusal}
use Rattle.opfs_script_run.specs.Runs.Running.{entries_of, is_wait, empty_hand, IsRun}
use Rattle.opfs_script.specs.Scripts.{Asked}
use Rattle.opfs_laws.proofs.separation.Calls.{IsAbove, live-above, Kept, kept-after, changed-follows}
use Rattle.opfs_laws.proofs.separation.Follows.{Follows, IsPlain}
use Rattle.opfs_laws.proofs.separation.Numbered.{agent_at}
use Rattle.opfs_laws.proofs.separation.SameRuling.{sizes-same}
use Rattle.opfs_laws.proofs.separation.Separation.{keys-plain, begun-kept}
use Rattle.opfs_laws.proofs.separation.Small.{key-acts}
use Rattle.opfs_script_run.specs.Stage.Runs.{EachRuns}
use Rattle.opfs_transcripts.specs.Told.Reading.{is_stuck, is_stuck_await, IsPlainEntry}
use Rattle.opfs_transcripts.proofs.told.CallKinds.{Kind, kind_of, a_wait, an_eviction, an_await, a_call}
use Rattle.opfs_transcripts.proofs.told.Fixing.{NextIs, next-is}
use Rattle.opfs_transcripts.proofs.told.Goes.{own-entry, other-entry, from-test, self-here}
use Rattle.opfs_transcripts.specs.Waiting.Waiting.{without_waits, WaitsDecideNothing}
use Rattle.opfs_transcripts.proofs.waiting.Calm.{Calm, CalmAt, quiet, calm-room, calm-reads, calm-follows, waiting_too, calm-begins, calm-ends}
use Rattle.opfs_transcripts.proofs.waiting.RunsWithout.{WaitsWell, never, run-without, run-well, entries-without, text-without, without-wait, without-call}
use Rattle.opfs_transcripts.proofs.waiting.SameCalls.{call-same, await-same}

true-false : true ≡ false → ⊥
true-false h = cc

-- ---- as many agents

record SameSize (n : ℕ) (key : Option Text) (k : ℕ) (s t : State Text Own) : Type 0 where
  same : s ≡ t
  size : length s.agents ≡ n
  keyed : (agent_of s k).key ≡ key

abbrev with_unit : State Text Own → Text → State Text Own
with_unit x unit = record x { persistent = insert_by (slice_cmp nat_cmp) unit x.persistent }

abbrev with_tag : State Text Own → Option Text → ℕ → Text → State Text Own
with_tag x key k tag = record x { posted = x.posted ++ record { party = party_with key k; tag = tag } ∷ [] }

size-follows : (n : ℕ) (key : Option Text) (i : ℕ) → Follows key (suc i) (SameSize n key (suc i))
size-follows n key i = record {
  agent = λ s t q. ap (λ x. agent_of x (suc i)) q.same;
  keyed = λ s t q. q.keyed;
  rows = λ s t place is q. ap (λ x. row_at x place) q.same;
  children = λ s t dir is q. ap (λ x. children_of x dir) q.same;
  put = λ s t place r is q. record { same = ap (λ x. with_row x place r) q.same; size = q.size; keyed = q.keyed };
  alter = λ s t place change is q. record { same = ap (λ x. with_file x place change) q.same; size = q.size; keyed = q.keyed };
  remove = λ s t place is q. record { same = ap (λ x. without x place) q.same; size = q.size; keyed = q.keyed };
  act = λ s t a is q. record {
    same = ap (λ x. with_agent x (suc i) a) q.same;
    size = length-set s.agents (suc i - 1) a ∙ q.size;
    keyed = key-acts s i a key is q.keyed;
  };
  mode = λ s t unit is q. record { same = ap (λ x. with_unit x unit) q.same; size = q.size; keyed = q.keyed };
  post = λ s t tag q. record { same = ap (λ x. with_tag x key (suc i) tag) q.same; size = q.size; keyed = q.keyed };
}

size-at : (n : ℕ) (key : Option Text) (k : ℕ) → IsAbove k → Follows key k (SameSize n key k)
size-at n key k above = subst (λ j. Follows key j (SameSize n key j)) (sym above.1) (size-follows n key above.0)

pub size-after : (keys : ℕ → Option Text) (s : State Text Own) (k : ℕ) (o : Op) (answered : Reply) → IsAbove k → IsPlain (keys k) → may_enter s k o ≡ true → Kept keys s
    → length (after_reply s k o answered).agents ≡ length s.agents
size-after keys s k o answered above plain may kept =
    (changed-follows (keys k) k (SameSize (length s.agents) (keys k) k) (size-at (length s.agents) (keys k) k above) plain s s o answered may kept.files refl
    (record { same = refl; size = refl; keyed = kept.keyed k })).size

within : (agents : List (Agent Own)) (i : ℕ) → (agent_at agents i).live ≡ true → i < length agents
within [] i live = absurd (true-false (sym live))
within (a ∷ agents) zero live = omega arith
within (a ∷ agents) (suc i) live = let more = within agents i live in omega (arith, more)

pub live-within : (s : State Text Own) (k : ℕ) (above : IsAbove k) → (agent_of s k).live ≡ true → above.0 < length s.agents
live-within s k above live = within s.agents above.0 (sym (ap (λ j. (agent_of s j).live) above.1) ∙ live)

-- ---- one call

calm-at : (waits : ℕ → Bool) (key : Option Text) (k : ℕ) → IsAbove k → waits k ≡ false → Follows key k (CalmAt waits key k)
calm-at waits key k above calm =
    subst (λ j. waits j ≡ false → Follows key j (CalmAt waits key j)) (sym above.1) (λ h. calm-follows waits key above.0 h) calm

-- A call of an agent that does not wait leaves the states alike.
calm-after : (waits : ℕ → Bool) (keys : ℕ → Option Text) (s t : State Text Own) (k : ℕ) (o : Op) (answered : Reply) → IsAbove k → IsPlain (keys k) → may_enter s k o ≡ true → Kept keys s
    → waits k ≡ false → Calm waits s t → Calm waits (after_reply s k o answered) (after_reply t k o answered)
calm-after waits keys s t k o answered above plain may kept calm q =
    let reads = calm-reads waits s t k q calm in
    let after = (changed-follows (keys k) k (CalmAt waits (keys k) k) (calm-at waits (keys k) k above calm) plain s t o answered may kept.files (sizes-same k s t reads kept.files o)
    (record { calm = q; keyed = kept.keyed k })).calm in
    record { rows = after.rows; modes = after.modes; posted = after.posted; limits = after.limits; agents = after.agents; same = after.same }

-- That an agent does not wait is told again.
calm-again : (waits : ℕ → Bool) (k : ℕ) (now : Bool) (s t : State Text Own) → (now ≡ false → waits k ≡ false) → Calm waits s t → Calm (waiting_too waits k now) s t
calm-again waits k now s t still q = record {
  rows = q.rows;
  modes = q.modes;
  posted = q.posted;
  limits = q.limits;
  agents = q.agents;
  same = λ j h. elim (k == j) as (λ b. (k == j) ≡ b → elim b [ true ↦ now | false ↦ waits j ] ≡ false → agent_of s j ≡ agent_of t j) [
    | true ↦ λ is h. q.same j (sym (ap waits (from-test k j is)) ∙ still h)
    | false ↦ λ is h. q.same j h
  ] refl h;
}

-- Wait, in the first alone.
wait-after : (waits : ℕ → Bool) (s t : State Text Own) (k : ℕ) (tag : Text) (answered : Reply) → IsAbove k → Calm waits s t → Calm (waiting_too waits k true) (after_reply s k (op.Wait tag) answered) t
unfolding effect
wait-after waits s t k tag answered above q =
    let began : Calm (waiting_too waits k true) (with_agent s k (record (agent_of s k) { waits = Some tag })) t =
    subst (λ j. Calm (waiting_too waits j true) (with_agent s j (record (agent_of s j) { waits = Some tag })) t) (sym above.1) (calm-begins waits s t above.0 (Some tag) q) in
    let still = calm-again waits k true s t (λ h. absurd (true-false h)) q in
    elim (is_refusal answered) as (λ b. Calm (waiting_too waits k true) (counted (elim b [ true ↦ refused s k (op.Wait tag) | false ↦ effect in_bytes s (sizes_of s k (op.Wait tag)) k (op.Wait tag) ]) k) t) [
      | true ↦ record { rows = still.rows; modes = still.modes; posted = still.posted; limits = still.limits; agents = still.agents; same = still.same }
      | false ↦ record { rows = began.rows; modes = began.modes; posted = began.posted; limits = began.limits; agents = began.agents; same = began.same }
    ]

-- An await that is answered, in both.
await-after : (waits : ℕ → Bool) (s t : State Text Own) (k : ℕ) (tag : Text) → IsAbove k → Calm waits s t
    → Calm (waiting_too waits k false) (after_reply s k (op.Await tag) reply.Done) (after_reply t k (op.Await tag) reply.Done)
unfolding effect
await-after waits s t k tag above q =
    let ended : Calm (waiting_too waits k false) (with_agent s k (quiet (agent_of s k))) (with_agent t k (quiet (agent_of t k))) =
    subst (λ j. Calm (waiting_too waits j false) (with_agent s j (quiet (agent_of s j))) (with_agent t j (quiet (agent_of t j)))) (sym above.1) (calm-ends waits s t above.0 q) in
    record { rows = ended.rows; modes = ended.modes; posted = ended.posted; limits = ended.limits; agents = ended.agents; same = ended.same }

-- ---- waits that come well

abbrev AllWell : ℕ → (ℕ → Bool) → List Entry → Type 0
AllWell n waits es = (i : ℕ) → i < n → WaitsWell (waits (suc i)) (entries_of (suc i) es)

abbrev WellBy : Bool → Entry → List Entry → Bool → Type 0
WellBy waited e es waits = elim waits [
  | true ↦ (waited ≡ false) × WaitsWell true es
  | false ↦ (waited ≡ true → asks_stuck e.op ≡ true) × WaitsWell false es
]

-- What the next entry's own agent keeps to.
own-well : (n : ℕ) (waits : ℕ → Bool) (e : Entry) (es : List Entry) (above : IsAbove e.agent) → above.0 < n → AllWell n waits (e ∷ es)
    → WellBy (waits e.agent) e (entries_of e.agent es) (is_wait e.op)
own-well n waits e es above inside well =
    let here : WaitsWell (waits (suc above.0)) (e ∷ entries_of (suc above.0) es) =
    subst (WaitsWell (waits (suc above.0))) (own-entry (suc above.0) e es (ap (λ k. k == suc above.0) above.1 ∙ self-here (suc above.0))) (well above.0 inside) in
    subst (λ k. WellBy (waits k) e (entries_of k es) (is_wait e.op)) (sym above.1) here

rest-by : (waited now : Bool) (e : Entry) (es : List Entry) → WellBy waited e es now → WaitsWell now es
rest-by waited true e es h = h.1
rest-by waited false e es h = h.1

-- And what all keep to behind it.
rest-well : (n : ℕ) (waits : ℕ → Bool) (e : Entry) (es : List Entry) (above : IsAbove e.agent) → above.0 < n → AllWell n waits (e ∷ es)
    → AllWell n (waiting_too waits e.agent (is_wait e.op)) es
rest-well n waits e es above inside well i h =
    elim (e.agent == suc i) as (λ b. (e.agent == suc i) ≡ b → WaitsWell (elim b [ true ↦ is_wait e.op | false ↦ waits (suc i) ]) (entries_of (suc i) es)) [
      | true ↦ λ own.
          subst (λ k. WaitsWell (is_wait e.op) (entries_of k es)) (from-test e.agent (suc i) own)
          (rest-by (waits e.agent) (is_wait e.op) e (entries_of e.agent es) (own-well n waits e es above inside well))
      | false ↦ λ other. subst (WaitsWell (waits (suc i))) (other-entry (suc i) e es other) (well i h)
    ] refl

-- ---- the fold

-- An agent that makes another call than await does not wait.
no-wait : (waited : Bool) (e : Entry) (es : List Entry) → is_wait e.op ≡ false → asks_stuck e.op ≡ false → WellBy waited e es (is_wait e.op) → waited ≡ false
no-wait true e es moves other h = absurd (true-false (sym ((subst (WellBy true e es) moves h).0 refl) ∙ other))
no-wait false e es moves other h = refl

-- A history goes on with a call that is no wait.
goes-on : (t : State Text Own) (e : Entry) (es : List Entry) → is_wait e.op ≡ false → evicted_by e.op ≡ None → IsCall t [] e → LegalFrom (after_reply t e.agent e.op e.reply) [] (without_waits es)
    → LegalFrom t [] (without_waits (e ∷ es))
goes-on t e es moves plain call rest = subst (LegalFrom t []) (sym (without-call e es moves)) (subst (NextIs t [] e (without_waits es)) (sym plain) (call, rest))

one-call : (n : ℕ) (keys : ℕ → Option Text) (waits : ℕ → Bool) (s t : State Text Own) (e : Entry) (es : List Entry) (o : Op) → Kind o → e.op ≡ o → IsPlainEntry e → (above : IsAbove e.agent)
    → IsPlain (keys e.agent) → Kept keys s → Calm waits s t → WellBy (waits e.agent) e (entries_of e.agent es) (is_wait e.op) → IsCall s [] e
    → ((u : State Text Own) → Calm (waiting_too waits e.agent (is_wait e.op)) (after_reply s e.agent e.op e.reply) u → LegalFrom u [] (without_waits es))
    → LegalFrom t [] (without_waits (e ∷ es))
one-call n keys waits s t e es _ (a_wait tag) is plain_entry above plain kept q well call again =
    let moved = wait-after waits s t e.agent tag e.reply above q in
    let wait : is_wait e.op ≡ true = ap is_wait is in
    subst (LegalFrom t []) (sym (without-wait e es wait))
    (again t (subst (λ w. Calm (waiting_too waits e.agent w) (after_reply s e.agent e.op e.reply) t) (sym wait) (subst (λ o. Calm (waiting_too waits e.agent true) (after_reply s e.agent o e.reply) t) (sym is) moved)))
one-call n keys waits s t e es _ (an_eviction unit) is plain_entry above plain kept q well call again = absurd (none-some (sym plain_entry.no_eviction ∙ ap evicted_by is))
  where
    none-some : {u : Text} → None ≡ Some u → ⊥
    none-some h = cc
one-call n keys waits s t e es _ (an_await tag) is plain_entry above plain kept q well call again =
    let free : is_stuck e.reply ≡ false = sym (ap (λ o. is_stuck_await o e.reply) is) ∙ plain_entry.not_stuck in
    let same = await-same waits s t e tag is q free call in
    let moves : is_wait e.op ≡ false = ap is_wait is in
    let moved = await-after waits s t e.agent tag above q in
    let after : Calm (waiting_too waits e.agent false) (after_reply s e.agent e.op e.reply) (after_reply t e.agent e.op e.reply) =
    subst (λ (x : Op × Reply). Calm (waiting_too waits e.agent false) (after_reply s e.agent x.0 x.1) (after_reply t e.agent x.0 x.1)) (λ i. (sym is i, sym same.1 i)) moved in
    goes-on t e es moves plain_entry.no_eviction same.0
    (again (after_reply t e.agent e.op e.reply) (subst (λ w. Calm (waiting_too waits e.agent w) (after_reply s e.agent e.op e.reply) (after_reply t e.agent e.op e.reply)) (sym moves) after))
one-call n keys waits s t e es o (a_call told) is plain_entry above plain kept q well call again =
    let moves : is_wait e.op ≡ false = ap is_wait is ∙ told.moves in
    let asks : asks_stuck e.op ≡ false = ap asks_stuck is ∙ told.asks in
    let calm = no-wait (waits e.agent) e (entries_of e.agent es) moves asks well in
    let reads = calm-reads waits s t e.agent q calm in
    let key_plain : IsPlain (agent_of s e.agent).key = subst IsPlain (sym (kept.keyed e.agent)) plain in
    let same = call-same s t e reads (calm-room waits s t q) key_plain kept.files asks call in
    let after = calm-after waits keys s t e.agent e.op e.reply above plain call.fitting kept calm q in
    let told_again = calm-again waits e.agent (is_wait e.op) (after_reply s e.agent e.op e.reply) (after_reply t e.agent e.op e.reply) (λ h. calm) after in
    goes-on t e es moves plain_entry.no_eviction same (again (after_reply t e.agent e.op e.reply) told_again)

without-from : (n : ℕ) (keys : ℕ → Option Text) (plain : (k : ℕ) → IsPlain (keys k)) (waits : ℕ → Bool) (s t : State Text Own) (es : List Entry) → LegalFrom s [] es → All IsPlainEntry es
    → AllWell n waits es → Kept keys s → length s.agents ≡ n → Calm waits s t → LegalFrom t [] (without_waits es)
without-from n keys plain waits s t [] legal entries well kept size q = refl
without-from n keys plain waits s t (e ∷ es) legal entries well kept size q =
    let plain_entry = All-head IsPlainEntry e es entries in
    let next = next-is s [] e es None plain_entry.no_eviction legal in
    let above = live-above s e.agent next.0.live in
    let inside : above.0 < n = subst (λ m. above.0 < m) size (live-within s e.agent above next.0.live) in
    one-call n keys waits s t e es e.op (kind_of e.op) refl plain_entry above (plain e.agent) kept q (own-well n waits e es above inside well) next.0
    (λ u after. without-from n keys plain (waiting_too waits e.agent (is_wait e.op)) (after_reply s e.agent e.op e.reply) u es next.1 (All-tail IsPlainEntry e es entries)
    (rest-well n waits e es above inside well) (kept-after keys s e.agent e.op e.reply above (plain e.agent) next.0.fitting kept)
    (size-after keys s e.agent e.op e.reply above (plain e.agent) next.0.fitting kept ∙ size) after)

-- ---- the law

pub length-begun : (agents : List Who) → length (map agent_begun agents) ≡ length agents
length-begun [] = refl
length-begun (w ∷ agents) = ap suc (length-begun agents)

found-at : (script : List Asked) (i : ℕ) → i < length script → (a : Asked) × (slice_get script i ≡ Some a)
found-at [] i h = absurd (omega arith)
found-at (a ∷ script) zero h = (a, refl)
found-at (a ∷ script) (suc i) h = found-at script i (omega arith)

begun-well : (script : List Asked) (es : List Entry) → EachRuns script es → AllWell (length script) (λ k. false) es
begun-well script es runs i h =
    let found = found-at script i h in
    let run : IsRun found.0 (entries_of (suc i) es) = subst (λ k. IsRun found.0 (entries_of k es)) (omega arith) (runs i found.0 found.1) in
    run-well (empty_hand found.0.key) 1 false found.0.steps (entries_of (suc i) es) (λ none. refl) (never found.0.steps) run

runs-without : (script : List Asked) (es : List Entry) → EachRuns script es → EachRuns script (without_waits es)
runs-without script es runs k a is =
    subst (IsRun a) (entries-without (k + 1) es) (run-without (empty_hand a.key) 1 false a.steps (entries_of (k + 1) es) (runs k a is))

pub waits-decide-nothing : WaitsDecideNothing
waits-decide-nothing o script es order same plain_entries h =
    let calm : Calm (λ k. false) (begun o) (begun o) = record { rows = refl; modes = refl; posted = refl; limits = refl; agents = refl; same = λ k still. refl } in
    let legal = without-from (length script) (λ k. (agent_of (begun o) k).key) (keys-plain o order) (λ k. false) (begun o) (begun o) es h.legal plain_entries
    (begun-well script es h.runs) (begun-kept o order) (length-begun o.agents ∙ same) calm in
    (record { legal = legal; runs = runs-without script es h.runs }, text-without es)
