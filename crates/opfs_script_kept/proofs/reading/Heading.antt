-- What an agent's members say together.
use Rattle.std.proofs.Common.{◌≡◌, ℕ, Bool, true, false, List, ◌∷◌, length, Option, Some, None, Ok, option_map, option_and_then, refl, sym, ap, ap₂, ◌∙◌, subst, arith}
use Rattle.std.specs.Prelude.{IfSome, codes}
use Rattle.json.specs.Token.{Token}
use Rattle.json.specs.Json.{members, parse_map, value}
use Rattle.json.proofs.Grammar.{value-begin_object}
use Rattle.serde_json.specs.Data.{Data, string, array, object, Members}
use Rattle.serde_json.specs.Find.{as_array, as_str, get_member}
use Rattle.serde_json.specs.Read.{converted, of_json}
use Rattle.serde_json.specs.View.{items_of}
use Rattle.opfs_base.specs.Texts.{Text}
use Rattle.opfs_script.specs.declared.step.Step.{Step}
use Rattle.opfs_script.specs.Members as members
use Rattle.opfs_script.specs.Members.{all_among, has_only, text, values, values_of}
use Rattle.opfs_script.specs.Reading.{Head, agent_of, each_from, grant_of, granted_by, head_of, if_headed, key_of_agent, step_of, ◌>>=◌}
use Rattle.opfs_script.specs.Scripts.{Asked}
use Rattle.opfs_script.proofs.HeadLemmas.{values_of-items_of}
use Rattle.opfs_script_kept.specs.Packed.Telling.{steps_told}
use Rattle.opfs_script_kept.specs.declared.reading.members.Draft.{Draft}
use Rattle.opfs_script_kept.specs.Reading.Agents.{IsAgent, IsFinished}
use Rattle.opfs_script_kept.specs.Reading.Members.{AreMembers, AreTextsOf, HoldsKey, HoldsSteps, IsKeyOf, agent_names}
use Rattle.opfs_script_kept.proofs.reading.Grammar.{of-object}

-- The head of an agent, once its members are found.
abbrev head_by : Bool → Option Text → Option Bool → Option (List Data) → Option Head
head_by false origin grant steps = None
head_by true origin grant steps = members.◌>>=◌ origin (λ o. members.◌>>=◌ grant (λ g. members.◌>>=◌ steps (λ s. Some (o, g, s))))

headed : (d : Data) → head_of d ≡ head_by (has_only agent_names d) (text (codes "origin") d) (grant_of d) (values (codes "steps") d)
headed d = at (has_only agent_names d)
  where
    at : (b : Bool) → elim b [ true ↦ members.◌>>=◌ (text (codes "origin") d) (λ o. members.◌>>=◌ (grant_of d) (λ g. members.◌>>=◌ (values (codes "steps") d) (λ s. Some (o, g, s)))) | false ↦ None ]
        ≡ head_by b (text (codes "origin") d) (grant_of d) (values (codes "steps") d)
    at true = refl
    at false = refl

agent-read : (agent : ℕ) (found : Members) (origin : Text) (key : Option Text) (grant : Bool) (ds : List Data) (steps : List Step) → all_among agent_names found ≡ true
    → get_member (codes "origin") found ≡ Some (string origin) → key_of_agent agent origin ≡ Ok key → granted_by (get_member (codes "grants") found) ≡ Some grant
    → get_member (codes "steps") found ≡ Some (array (items_of ds)) → each_from (step_of agent) 1 ds ≡ Ok steps
    → agent_of agent (object found) ≡ Ok (record { key = key; grant = grant; steps = steps })
unfolding agent_of
agent-read agent found origin key grant ds steps among at-origin read granted at-steps all =
    let head : head_of (object found) ≡ Some (origin, grant, ds) =
    headed (object found)
    ∙ ap (λ b. head_by b (text (codes "origin") (object found)) (grant_of (object found)) (values (codes "steps") (object found))) among
    ∙ ap₂ (λ o g. head_by true o g (values (codes "steps") (object found))) (ap (option_and_then as_str) at-origin) granted
    ∙ ap (λ v. head_by true (Some origin) (Some grant) (option_map values_of (option_and_then as_array v))) at-steps
    ∙ ap (λ v. Some (origin, grant, v)) (values_of-items_of ds) in
    ap (if_headed agent) head
    ∙ ap (λ r. r >>= λ unit. each_from (step_of agent) 1 ds >>= λ steps. Ok (record { key = unit; grant = grant; steps = steps })) read
    ∙ ap (λ r. r >>= λ steps. Ok (record { key = key; grant = grant; steps = steps })) all

pub finished-agent : (agent : ℕ) (old mid new : List Token) (draft : Draft) (o : Option Asked) → old ≡ Token.begin_object ∷ mid → AreMembers agent mid draft new → IfSome o (IsFinished draft)
    → IfSome o (λ asked. IsAgent agent old asked new)
finished-agent agent old mid new draft None is all finished = finished
finished-agent agent old mid new draft (Some asked) is all finished =
    let h = all.holds in
    let less = all.shorter in
    let key : IsKeyOf agent asked.key (get_member (codes "origin") all.found) = subst (λ k. HoldsKey agent k (get_member (codes "origin") all.found)) finished.key h.key in
    let texts : AreTextsOf agent finished.texts (get_member (codes "steps") all.found) = subst (λ t. HoldsSteps agent t (get_member (codes "steps") all.found)) finished.kept h.steps in
    record {
      value = object all.found;
      tokens = ap (converted of_json) (ap (value 125) is ∙ value-begin_object 125 mid (omega arith)) ∙ of-object (members (value 124) (length mid) mid) ∙ ap (parse_map object) all.tokens;
      shorter = omega (arith, ap length is, less);
      read = agent-read agent all.found key.origin asked.key draft.grant texts.values (steps_told finished.texts) h.among key.member key.read h.grant texts.member texts.read
          ∙ ap₂ (λ grant steps. Ok (record { key = asked.key; grant = grant; steps = steps })) (sym finished.grant) (sym finished.steps);
    }
