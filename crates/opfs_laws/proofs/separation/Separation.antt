-- Each party's part of a legal history is a run of its own machine.
use Rattle.std.proofs.Common.{◌≡◌, ◌&&◌, ◌||◌, ◌+◌, ◌==◌, ℕ, zero, suc, not, unwrap_or, slice_get, Bool, true, false, T, cond, map, All, List, [], ◌∷◌, ◌++◌, append_assoc, fold, Option, Some, None, IsTrue, refl, sym, ap, ◌∙◌, subst, arith}
use Rattle.std.proofs.lemmas.Bool.Decides.{nat_tests}
use Rattle.std.proofs.lemmas.List.Sums.{fold-append}
use Rattle.std.proofs.lemmas.List.Elements.{All-head, All-tail, All-nil, All-cons}
use Rattle.std.specs.List.{list_any, enumerate_from}
use Rattle.std.specs.Cmp.{first_so}
use Rattle.std.specs.Cmp.Lexicographic.{nat_list_eq_equiv, same_text as equal_texts}
use Rattle.std.specs.FinMap.Entries.{is_sorted, below_all, is_sorted-where_key}
use Rattle.std.specs.Ordering.{is_lt}
use Rattle.opfs_base.specs.Places.{Place, place_cmp}
use Rattle.opfs_base.specs.Texts.{Text, same_text}
use Rattle.opfs_base.specs.Units.{unit_of, origin_of}
use Rattle.opfs_base.proofs.UnitLemmas.{origin_of-unit_of, plain-from_is_origin}
use Rattle.opfs_hist.specs.declared.entry.Entry.{Entry}
use Rattle.opfs_machine.specs.declared.own.Own.{Own}
use Rattle.opfs_machine.specs.declared.state.Agent.{Agent}
use Rattle.opfs_machine.specs.declared.state.Party.{Party}
use Rattle.opfs_machine.specs.declared.state.State.{State}
use Rattle.opfs_machine.specs.Agents.{agent_of, nobody, party_with, same_party}
use Rattle.opfs_machine.specs.Alone.{is_partys, is_member, is_partys_entry, project, kept_agent, begun_alone, IsCallAlone, IsEvictionAlone, AloneFrom}
use Rattle.opfs_machine.specs.Histories.{may_enter, evicted_by, IsEviction, IsCall, IsFront, LegalFrom}
use Rattle.opfs_machine.specs.Openings.{Opening, Stored, Who, begun, row_of, agent_begun}
use Rattle.opfs_machine.specs.Steps.{evicted, after_reply}
use Rattle.opfs_machine.specs.Victims.{candidates, is_callers}
use Rattle.opfs_laws.specs.Separation.Apart.{has_origin_key, IsInOrder, EachPartyRunsAlone}
use Rattle.opfs_laws.proofs.separation.Alike.{Alike, alike-same, alike-then, alike-back}
use Rattle.opfs_laws.proofs.separation.Calls.{IsAbove, live-above, Kept, kept-evicted, kept-after, after-apart, after-both}
use Rattle.opfs_laws.proofs.separation.Clearing.{may-evict, may-others, evictable-after, evictable-alike, evicted-both, evicted-apart, first_out, second_out}
use Rattle.opfs_laws.proofs.separation.Follows.{IsPlain}
use Rattle.opfs_laws.proofs.separation.Fronts.{front-fine, call-front}
use Rattle.opfs_laws.proofs.separation.Numbered.{agent_at, seen, seen_by, seen_from, is_ours, plus_zero, plus_suc}
use Rattle.opfs_laws.proofs.OwnFiles.{HasOwnFile, own_files-begun, may-after}
use Rattle.opfs_laws.proofs.OwnKept.{AgentKeeps}
use Rattle.opfs_laws.proofs.separation.Lists.{filter-within, any-within}
use Rattle.opfs_laws.proofs.separation.Parties.{partys-own}
use Rattle.opfs_laws.proofs.separation.Reading.{ours-reads, ours-stuck}
use Rattle.opfs_laws.proofs.separation.SameCall.{call-alone}
use Rattle.opfs_laws.proofs.separation.SameRuling.{may-same, sizes-same}
use Rattle.opfs_laws.proofs.separation.Sides.{Ours}

-- A legal history from an entry on, whose eviction is told.
abbrev NextFrom : State Text Own → List Text → Entry → List Entry → Option Text → Type 0
NextFrom s gone e es (Some unit) = IsEviction unit e × LegalFrom s (gone ++ unit ∷ []) es
NextFrom s gone e es None = IsCall s gone e × LegalFrom (after_reply (fold evicted s gone) e.agent e.op e.reply) [] es

-- The same of a party's own run.
abbrev pub NextAlone : State Text Own → Entry → List Entry → Option Text → Type 0
NextAlone t e es (Some unit) = IsEvictionAlone t unit e × AloneFrom (evicted t unit) es
NextAlone t e es None = IsCallAlone t e × AloneFrom (after_reply t e.agent e.op e.reply) es

abbrev Pending : State Text Own → List Text → Type 0
Pending s gone = (caller : Option Text) × IsFront gone (candidates s caller)

-- The evictions before the next call are a front of some caller's candidates.
pending-front : (s : State Text Own) (gone : List Text) (es : List Entry) → LegalFrom s gone es → Pending s gone
pending-front s gone [] ends = (None, subst (λ g. IsFront g (candidates s None)) (sym ends) (candidates s None, refl))
pending-front s gone (e ∷ es) legal =
    elim (evicted_by e.op) as (λ told. NextFrom s gone e es told → Pending s gone) [
      | Some unit ↦ λ next.
          let more = pending-front s (gone ++ unit ∷ []) es next.1 in
          (more.0, ((unit ∷ []) ++ more.1.0, more.1.1 ∙ append_assoc gone (unit ∷ []) more.1.0))
      | None ↦ λ next. ((agent_of s e.agent).key, call-front s gone e next.0)
    ] legal

-- No unit that is cleared for a party's agent is the party's.
no-own : (p : Party) (s : State Text Own) (k : ℕ) → same_party p (party_with (agent_of s k).key k) ≡ true
    → (before units : List Text) → IsFront (before ++ units) (candidates s (agent_of s k).key) → list_any (is_partys p) units ≡ false
no-own p s k member before [] front = refl
no-own p s k member before (unit ∷ units) front =
    let key = (agent_of s k).key in
    let fine = front-fine s key before unit units front in
    let here : is_partys p unit ≡ false = partys-own p key k unit member ∙ may-others s key unit fine.may in
    let rest = no-own p s k member (before ++ unit ∷ []) units (subst (λ xs. IsFront xs (candidates s key)) (sym (append_assoc before (unit ∷ []) units)) front) in
    λ i. here i || rest i

fold-apart : (p : Party) (gone : List Text) (s : State Text Own) → list_any (is_partys p) gone ≡ false → Alike p (fold evicted s gone) s
fold-apart p [] s out = alike-same p s
fold-apart p (g ∷ gone) s out =
    alike-then p (fold evicted (evicted s g) gone) (evicted s g) s
    (fold-apart p gone (evicted s g) (second_out (is_partys p g) (list_any (is_partys p) gone) out))
    (evicted-apart p s g (first_out (is_partys p g) (list_any (is_partys p) gone) out))

strip : (a b : Bool) → b ≡ false → (a && not b) ≡ false → a ≡ false
strip true b is h = sym (ap not is) ∙ h
strip false b is h = refl

above_zero : (k i : ℕ) → k ≡ suc i → (k == 0) ≡ false
above_zero k i is = grind (arith, nat_tests)

not_none : (key : Option Text) (k : ℕ) (p : Party) → IsAbove k → (same_party p (party_with key k) && not (k == 0)) ≡ false → same_party p (party_with key k) ≡ false
not_none key k p above h = strip (same_party p (party_with key k)) (k == 0) (above_zero k above.0 above.1) h

true_test : (b : Bool) → b ≡ true → T b
true_test b h = subst T (sym h) tt

key-plain_of : (key : Option Text) → has_origin_key key ≡ true → IsPlain key
key-plain_of None h = λ origin bucket is. cc
key-plain_of (Some key) h = λ origin bucket is.
    let same : origin_of (unit_of key bucket) ≡ key = origin_of-unit_of key bucket (plain-from_is_origin key h) in
    let at : is_callers (Some key) (unit_of key bucket) ≡ true = ap (same_text key) same ∙ nat_list_eq_equiv.refl key in
    ap (λ o. is_callers (Some key) (unit_of o bucket)) (inside key origin is) ∙ at
  where
    inside : (a b : Text) → Some a ≡ Some b → b ≡ a
    inside a b e = cc

-- The agents of a party, where it begins alone.
module _ (p : Party) where
  abbrev kept_by : Bool → Agent Own → Agent Own
  kept_by b a = elim b [ true ↦ a | false ↦ nobody ]

  kept-nobody : (n : ℕ) → nobody ≡ kept_agent p (n, nobody)
  kept-nobody n = elim (is_ours p n None) as (λ b. nobody ≡ kept_by b nobody) [ true ↦ refl | false ↦ refl ]

  kept-at : (n i : ℕ) (agents : List (Agent Own)) → agent_at (map (kept_agent p) (enumerate_from n agents)) i ≡ kept_agent p (n + i, agent_at agents i)
  kept-at n i [] = kept-nobody (n + i)
  kept-at n zero (a ∷ agents) = ap (λ k. kept_agent p (k, a)) (sym (plus_zero n))
  kept-at n (suc i) (a ∷ agents) = kept-at (n + 1) i agents ∙ ap (λ k. kept_agent p (k, agent_at agents i)) (plus_suc n i)

  -- Who stands at a number: the agent, where it is the party's, and else nobody.
  alone-at : (o : Opening) (i : ℕ) → agent_of (begun_alone o p) (suc i) ≡ kept_agent p (1 + i, agent_of (begun o) (suc i))
  alone-at o i = kept-at 1 i (begun o).agents

  kept-plain : (n : ℕ) (a : Agent Own) → IsPlain a.key → IsPlain (kept_agent p (n, a)).key
  kept-plain n a h = elim (is_ours p n a.key) as (λ b. IsPlain (kept_by b a).key) [ true ↦ h | false ↦ key-plain_of None refl ]

  alone-plain : (o : Opening) → ((k : ℕ) → IsPlain (agent_of (begun o) k).key) → (k : ℕ) → IsPlain (agent_of (begun_alone o p) k).key
  alone-plain o plain zero = key-plain_of None refl
  alone-plain o plain (suc i) =
      subst (λ a. IsPlain a.key) (sym (alone-at o i)) (kept-plain (1 + i) (agent_of (begun o) (suc i)) (plain (suc i)))

  one_more : (i : ℕ) → 1 + i ≡ suc i
  one_more i = omega arith

  alone-own : (o : Opening) (k : ℕ) → same_party p (party_with (agent_of (begun o) k).key k) ≡ true → (agent_of (begun_alone o p) k).key ≡ (agent_of (begun o) k).key
  alone-own o zero member = refl
  alone-own o (suc i) member =
      let a = agent_of (begun o) (suc i) in
      let is : is_ours p (1 + i) a.key ≡ true = ap (λ k. is_ours p k a.key) (one_more i) ∙ member in
      ap (λ x. x.key) (alone-at o i) ∙ ap (λ b. (kept_by b a).key) is

module _ (o : Opening) (p : Party) (plain : (k : ℕ) → IsPlain (agent_of (begun o) k).key) where
  abbrev keys : ℕ → Option Text
  keys k = (agent_of (begun o) k).key

  abbrev alone_keys : ℕ → Option Text
  alone_keys k = (agent_of (begun_alone o p) k).key

  -- What is known of the party's own state.
  record Beside (s t : State Text Own) : Type 0 where
    alike : Alike p s t
    kept : Kept alone_keys t

  key-plain : (s : State Text Own) → Kept keys s → (k : ℕ) → IsPlain (agent_of s k).key
  key-plain s h k = subst IsPlain (sym (h.keyed k)) (plain k)

  abbrev StepAlone : State Text Own → List Text → State Text Own → Entry → List Entry → Option Text → Type 0
  StepAlone s gone t e es told =
      evicted_by e.op ≡ told → NextFrom s gone e es told → AloneFrom t (cond (is_partys_entry o p e told) (e ∷ project o p es) (project o p es))

  enters : (t : State Text Own) (e : Entry) (es : List Entry) (told : Option Text) → evicted_by e.op ≡ told → NextAlone t e es told → AloneFrom t (e ∷ es)
  enters t e es told is next = subst (NextAlone t e es) (sym is) next

  alone-from : (s : State Text Own) (gone : List Text) (t : State Text Own) (es : List Entry)
      → LegalFrom s gone es → Kept keys s → Beside (fold evicted s gone) t → AloneFrom t (project o p es)
  alone-from s gone t [] legal kept beside = tt
  alone-from s gone t (e ∷ es) legal kept beside =
      let now = fold evicted s gone in
      elim (evicted_by e.op) as (StepAlone s gone t e es) [
        | Some unit ↦ λ is next.
            let pending = pending-front s (gone ++ unit ∷ []) es next.1 in
            let fine = front-fine s pending.0 gone unit [] pending.1 in
            let may = evictable-after gone s unit fine.first (may-evict s pending.0 unit fine.may) in
            let more : fold evicted s (gone ++ unit ∷ []) ≡ evicted now unit = fold-append evicted s gone (unit ∷ []) in
            elim (is_partys p unit) as (λ b. is_partys p unit ≡ b → AloneFrom t (cond b (e ∷ project o p es) (project o p es))) [
              | true ↦ λ own.
                  let seen = evictable-alike p now t beside.alike unit own may in
                  let rest = alone-from s (gone ++ unit ∷ []) (evicted t unit) es next.1 kept (record {
                    alike = subst (λ x. Alike p x (evicted t unit)) (sym more) (evicted-both p now t beside.alike unit);
                    kept = kept-evicted alone_keys (unit ∷ []) t beside.kept;
                  }) in
                  enters t e (project o p es) (Some unit) is (record { entry = next.0; root = seen.root; best_effort = seen.best_effort; unlocked = seen.unlocked }, rest)
              | false ↦ λ out.
                  alone-from s (gone ++ unit ∷ []) t es next.1 kept (record {
                    alike = subst (λ x. Alike p x t) (sym more) (alike-then p (evicted now unit) now t (evicted-apart p now unit out) beside.alike);
                    kept = beside.kept;
                  })
            ] refl
        | None ↦ λ is next.
            let call = next.0 in
            let k = e.agent in
            let above = live-above s k call.live in
            let before = kept-evicted keys gone s kept in
            let may : may_enter now k e.op ≡ true = may-after gone s k e.op ∙ call.fitting in
            let after = kept-after keys now k e.op e.reply above (plain k) may before in
            elim (is_member o p k) as (λ b. is_member o p k ≡ b → AloneFrom t (cond b (e ∷ project o p es) (project o p es))) [
              | true ↦ λ inside.
                  let member : same_party p (party_with (keys k) k) ≡ true = first_so (same_party p (party_with (keys k) k)) (not (k == 0)) inside in
                  let keyed : (agent_of t k).key ≡ keys k = beside.kept.keyed k ∙ alone-own p o k member in
                  let own : same_party p (party_with (agent_of s k).key k) ≡ true = ap (λ x. same_party p (party_with x k)) (kept.keyed k) ∙ member in
                  let same = fold-apart p gone s (no-own p s k own [] gone (call-front s gone e call)) in
                  let here : Ours p (keys k) k s t = record {
                    alike = alike-then p s now t (alike-back p now s same) beside.alike;
                    left = kept.order;
                    right = beside.kept.order;
                    keyed = kept.keyed k;
                    beside = keyed;
                  } in
                  let there : Ours p (keys k) k now t = record { alike = beside.alike; left = before.order; right = beside.kept.order; keyed = before.keyed k; beside = keyed } in
                  let reads = ours-reads p (keys k) k s t member here kept.files beside.kept.files in
                  let reads_now = ours-reads p (keys k) k now t member there before.files beside.kept.files in
                  let may_too : may_enter t k e.op ≡ true = sym (may-same k now t reads_now e.op (λ asks. ours-stuck p (keys k) k now t member there)) ∙ may in
                  let both = after-both p (keys k) now t k e.op e.reply above (plain k) member may before.files (sizes-same k now t reads_now before.files e.op) there in
                  let rest = alone-from (after_reply now k e.op e.reply) [] (after_reply t k e.op e.reply) es next.1 after (record {
                    alike = both.alike;
                    kept = kept-after alone_keys t k e.op e.reply above (alone-plain p o plain k) may_too beside.kept;
                  }) in
                  enters t e (project o p es) None is (call-alone s t gone e reads (λ asks. ours-stuck p (keys k) k s t member here) (key-plain s kept k) kept.files call, rest)
              | false ↦ λ outside.
                  let stranger = not_none (keys k) k p above outside in
                  alone-from (after_reply now k e.op e.reply) [] t es next.1 after (record {
                    alike = alike-then p (after_reply now k e.op e.reply) now t (after-apart p keys now k e.op e.reply above (plain k) stranger may before) beside.alike;
                    kept = beside.kept;
                  })
            ] refl
      ] refl legal

-- Where the runs begin.
rows-begun : (x : Place) (rows : List (Place × Stored)) → below_all place_cmp x (map (λ e. (e.0, row_of e.1)) rows) ≡ below_all place_cmp x rows
rows-begun x [] = refl
rows-begun x (e ∷ es) = ap (λ b. is_lt (place_cmp x e.0) && b) (rows-begun x es)

order-begun : (rows : List (Place × Stored)) → is_sorted place_cmp (map (λ e. (e.0, row_of e.1)) rows) ≡ is_sorted place_cmp rows
order-begun [] = refl
order-begun (e ∷ es) = λ i. rows-begun e.0 es i && order-begun es i

key-at_begun : (agents : List Who) (i : ℕ) → All (λ who. IsTrue (has_origin_key who.key)) agents → has_origin_key (unwrap_or (slice_get (map agent_begun agents) i) nobody).key ≡ true
key-at_begun [] i h = refl
key-at_begun (w ∷ agents) zero h = All-head (λ who. IsTrue (has_origin_key who.key)) w agents h
key-at_begun (w ∷ agents) (suc i) h = key-at_begun agents i (All-tail (λ who. IsTrue (has_origin_key who.key)) w agents h)

pub keys-plain : (o : Opening) → IsInOrder o → (k : ℕ) → IsPlain (agent_of (begun o) k).key
keys-plain o h zero = key-plain_of None refl
keys-plain o h (suc i) = key-plain_of (agent_of (begun o) (suc i)).key (key-at_begun o.agents i h.keys)

module _ (p : Party) where
  seen-nobody : (n : ℕ) → seen p n nobody ≡ nobody
  seen-nobody n = elim (is_ours p n None) as (λ b. seen_by b nobody ≡ nobody) [ true ↦ refl | false ↦ refl ]

  kept-seen : (n : ℕ) (a : Agent Own) → seen p n a ≡ seen p n (kept_agent p (n, a))
  kept-seen n a =
      elim (is_ours p n a.key) as (λ b. is_ours p n a.key ≡ b → seen p n a ≡ seen p n (kept_by p b a)) [
        | true ↦ λ is. refl
        | false ↦ λ is. ap (λ b. seen_by b a) is ∙ sym (seen-nobody n)
      ] refl

  agents-kept : (n : ℕ) (agents : List (Agent Own)) → seen_from p n agents ≡ seen_from p n (map (kept_agent p) (enumerate_from n agents))
  agents-kept n [] = refl
  agents-kept n (a ∷ agents) = λ i. kept-seen n a i ∷ agents-kept (n + 1) agents i

  files-kept_one : (n : ℕ) (a : Agent Own) → AgentKeeps HasOwnFile a → AgentKeeps HasOwnFile (kept_agent p (n, a))
  files-kept_one n a h = elim (is_ours p n a.key) as (λ b. AgentKeeps HasOwnFile (kept_by p b a)) [ true ↦ h | false ↦ All-nil (HasOwnFile None) ]

  files-kept : (n : ℕ) (agents : List (Agent Own)) → All (AgentKeeps HasOwnFile) agents → All (AgentKeeps HasOwnFile) (map (kept_agent p) (enumerate_from n agents))
  files-kept n [] h = All-nil (AgentKeeps HasOwnFile)
  files-kept n (a ∷ agents) h =
      All-cons (AgentKeeps HasOwnFile) (kept_agent p (n, a)) (map (kept_agent p) (enumerate_from (n + 1) agents))
      (files-kept_one n a (All-head (AgentKeeps HasOwnFile) a agents h))
      (files-kept (n + 1) agents (All-tail (AgentKeeps HasOwnFile) a agents h))

  alike-begun : (o : Opening) → Alike p (begun o) (begun_alone o p)
  alike-begun o = record {
    rows = sym (filter-within (λ e. is_partys p e.0.0) (λ e. is_partys p e.0.0) (λ e own. own) (begun o).rows);
    modes = λ unit own. sym (any-within (is_partys p) (same_text unit) (λ x same. ap (is_partys p) (sym (equal_texts unit x (sym same))) ∙ own) (begun o).persistent);
    tags = refl;
    agents = agents-kept 1 (begun o).agents;
    quota = refl;
  }

-- What holds where a run begins.
pub begun-kept : (o : Opening) → IsInOrder o → Kept (λ k. (agent_of (begun o) k).key) (begun o)
begun-kept o order = record {
  files = own_files-begun o;
  order = true_test _ (order-begun o.stored.rows ∙ order.rows);
  keyed = λ k. refl;
}

-- Separation of origins.
pub each-alone : EachPartyRunsAlone
each-alone o p es order legal =
    alone-from o p (keys-plain o order) (begun o) [] (begun_alone o p) es legal (begun-kept o order)
    (record {
      alike = alike-begun p o;
      kept = record {
        files = files-kept p 1 (begun o).agents (own_files-begun o);
        order = is_sorted-where_key place_cmp (λ x. is_partys p x.0) (begun o).rows (begun-kept o order).order;
        keyed = λ k. refl;
      };
    })
