-- The members of an agent, one after another.
use Rattle.std.proofs.Common.{◌≡◌, ℕ, ◌-◌, ◌<◌, ◌&&◌, Bool, true, false, List, ◌∷◌, length, Option, Some, Ok, Ordering, Less, Equal, Greater, nat_cmp, true≢false, refl, sym, ap, ap₂, ◌∙◌, subst, arith}
use Rattle.std.specs.Prelude.{IsTrue, codes, slice_index}
use Rattle.std.specs.Cmp.Lexicographic.{slice_cmp}
use Rattle.std.specs.List.{list_any}
use Rattle.std.specs.Ordering.{match_ordering}
use Rattle.json.specs.Token.{Token}
use Rattle.json.specs.Json.{items, parse_map, value}
use Rattle.json.proofs.Grammar.{value-begin_array, value_is}
use Rattle.serde_json.specs.Data.{Data, string, array, Members, no_members, member, put}
use Rattle.serde_json.specs.Read.{converted, of_json}
use Rattle.serde_json.specs.View.{items_of}
use Rattle.serde_json.proofs.Views.{get_member-put, get_member-put_other}
use Rattle.opfs_base.specs.Texts.{Text, same_text}
use Rattle.opfs_script.specs.Limits.{is_origin_key}
use Rattle.opfs_script.specs.Members.{all_among}
use Rattle.opfs_script.specs.Reading.{granted_by, key_of_agent}
use Rattle.opfs_script_kept.specs.Packed.Telling.{steps_told}
use Rattle.opfs_script_kept.specs.declared.reading.members.Draft.{Draft}
use Rattle.opfs_script_kept.specs.Reading.Members.{HoldsKey, HoldsSteps, TakesMember, agent_names}
use Rattle.opfs_script_kept.specs.Reading.Steps.{AreSteps}
use Rattle.opfs_script_kept.specs.Reading.Values.{AreValues, IsValue}
use Rattle.opfs_script_kept.proofs.reading.Grammar.{of-array}

-- ---- names

both : (a b : Bool) → (a && b) ≡ true → (a ≡ true) × (b ≡ true)
both true b e = (refl, e)
both false b e = absurd (true≢false (sym e))

all-among-at : (names : List Text) (o : Ordering) (k l : Text) (d e : Data) (ms : Members) → list_any (same_text k) names ≡ true → list_any (same_text l) names ≡ true → all_among names ms ≡ true
    → all_among names (put k d ms) ≡ true → all_among names (match_ordering o (member k d (member l e ms)) (member l d ms) (member l e (put k d ms))) ≡ true
all-among-at names Less k l d e ms any other all later = ap₂ (λ a b. a && b) any (ap₂ (λ a b. a && b) other all)
all-among-at names Equal k l d e ms any other all later = ap₂ (λ a b. a && b) other all
all-among-at names Greater k l d e ms any other all later = ap₂ (λ a b. a && b) other later

pub all-among-put : (names : List Text) (k : Text) (d : Data) (ms : Members) → list_any (same_text k) names ≡ true → all_among names ms ≡ true → all_among names (put k d ms) ≡ true
all-among-put names k d no_members any all = ap₂ (λ a b. a && b) any all
all-among-put names k d (member l e ms) any all =
    let parts = both (list_any (same_text l) names) (all_among names ms) all in
    all-among-at names (slice_cmp nat_cmp k l) k l d e ms any parts.0 parts.1 (all-among-put names k d ms any parts.1)

grants-origin : codes "grants" ≡ codes "origin" → ⊥
grants-origin e = omega (arith, ap (λ t. slice_index t 0) e)

steps-origin : codes "steps" ≡ codes "origin" → ⊥
steps-origin e = omega (arith, ap (λ t. slice_index t 0) e)

origin-grants : codes "origin" ≡ codes "grants" → ⊥
origin-grants e = grants-origin (sym e)

steps-grants : codes "steps" ≡ codes "grants" → ⊥
steps-grants e = omega (arith, ap (λ t. slice_index t 0) e)

origin-steps : codes "origin" ≡ codes "steps" → ⊥
origin-steps e = steps-origin (sym e)

grants-steps : codes "grants" ≡ codes "steps" → ⊥
grants-steps e = steps-grants (sym e)

-- ---- one member

string-value : (old new : List Token) (s : Text) → old ≡ Token.string s ∷ new → IsValue 124 old (string s) new
string-value old new s is = ap (converted of_json) (ap (value 124) is ∙ value_is 124 (Token.string s ∷ new))

pub takes-origin : (agent : ℕ) (old new : List Token) (origin : Text) (key : Option Text) (draft : Draft) → old ≡ Token.string origin ∷ new → key_of_agent agent origin ≡ Ok key
    → IsTrue (is_origin_key key) → TakesMember agent (codes "origin") old new draft (record draft { key = Some key })
takes-origin agent old new origin key draft is read origins = record {
  value = string origin;
  tokens = string-value old new origin is;
  shorter = omega (arith, ap length is);
  holds = λ found h. record {
    among = all-among-put agent_names (codes "origin") (string origin) found refl h.among;
    key = record { origin = origin; member = get_member-put (codes "origin") (string origin) found; read = read; origins = origins };
    grant = ap granted_by (get_member-put_other (codes "grants") (codes "origin") (string origin) found grants-origin) ∙ h.grant;
    steps = subst (HoldsSteps agent draft.steps) (sym (get_member-put_other (codes "steps") (codes "origin") (string origin) found steps-origin)) h.steps;
  };
}

pub takes-grants : (agent : ℕ) (old new : List Token) (d : Data) (grant : Bool) (draft : Draft) → IsValue 124 old d new → length new < length old → granted_by (Some d) ≡ Some grant
    → TakesMember agent (codes "grants") old new draft (record draft { grant = grant })
takes-grants agent old new d grant draft is shorter granted = record {
  value = d;
  tokens = is;
  shorter = shorter;
  holds = λ found h. record {
    among = all-among-put agent_names (codes "grants") d found refl h.among;
    key = subst (HoldsKey agent draft.key) (sym (get_member-put_other (codes "origin") (codes "grants") d found origin-grants)) h.key;
    grant = ap granted_by (get_member-put (codes "grants") d found) ∙ granted;
    steps = subst (HoldsSteps agent draft.steps) (sym (get_member-put_other (codes "steps") (codes "grants") d found steps-grants)) h.steps;
  };
}

pub array-value : (depth : ℕ) (old mid new : List Token) (ds : List Data) → 0 < depth → old ≡ Token.begin_array ∷ mid
    → AreValues (depth - 1) mid ds new → IsValue depth old (array (items_of ds)) new
array-value depth old mid new ds some is values =
    ap (converted of_json) (ap (value depth) is ∙ value-begin_array depth mid some)
    ∙ of-array (items (value (depth - 1)) (length mid) mid)
    ∙ ap (parse_map array) values

pub takes-steps : (agent : ℕ) (old mid new : List Token) (texts : List Text) (draft : Draft) → old ≡ Token.begin_array ∷ mid → AreSteps mid (steps_told texts) new
    → TakesMember agent (codes "steps") old new draft (record draft { steps = Some texts })
takes-steps agent old mid new texts draft is steps =
    let less = steps.shorter in
    let d = array (items_of steps.values) in
    record {
      value = d;
      tokens = array-value 124 old mid new steps.values (omega arith) is steps.tokens;
      shorter = omega (arith, ap length is, less);
      holds = λ found h. record {
        among = all-among-put agent_names (codes "steps") d found refl h.among;
        key = subst (HoldsKey agent draft.key) (sym (get_member-put_other (codes "origin") (codes "steps") d found origin-steps)) h.key;
        grant = ap granted_by (get_member-put_other (codes "grants") (codes "steps") d found grants-steps) ∙ h.grant;
        steps = record { values = steps.values; member = get_member-put (codes "steps") d found; read = steps.read agent };
      };
    }
