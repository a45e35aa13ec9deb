-- The agents of a first line have no steps.
use Rattle.std.proofs.Common.{◌≡◌, ◌&&◌, nat_le, Bool, true, false, IsTrue, ℕ, ◌+◌, ◌<◌, ◌≤◌, List, [], ◌∷◌, length, take, All, Option, Some, None, Ok, Err, refl, sym, ap, subst}
use Rattle.std.specs.Prelude.{get_or, codes}
use Rattle.std.proofs.lemmas.Bool.{and_parts, leb-true}
use Rattle.std.proofs.lemmas.Grind.{take_at_read}
use Rattle.std.proofs.lemmas.List.Elements.{All-append, All-cons, All-head, All-nil, All-tail}
use Rattle.serde_json.specs.Data as json
use Rattle.opfs_base.specs.Texts.{Text}
use Rattle.opfs_script.specs.Limits.{bytes_of_all, fits_alone, fits_limits, is_origin_key, keeps_bounds, keeps_limits, steps_of_all}
use Rattle.std.specs.List.{list_all}
use Rattle.opfs_script.specs.Lines.{agent_alone, head_alone, heard_agents, if_agents, if_named, if_told}
use Rattle.opfs_script.specs.Members.{has_only, text}
use Rattle.opfs_script.specs.Members as members
use Rattle.opfs_script.specs.Reading.{Head, Read, ◌>>=◌, after, agents_of, each_from, grant_of, if_headed, if_within, json_of, key_of_agent, step_of}
use Rattle.opfs_script.specs.Scripts.{Asked}
use Rattle.opfs_script.specs.declared.refusal.ScriptRefusal.TheVariants as refused

-- An agent without steps.
abbrev Idle : Asked → Type 0
Idle a = a.steps ≡ []

-- ---- the head of an agent alone names no steps

granted : (origin : Text) (grant : Option Bool) (x : Head) → members.◌>>=◌ grant (λ g. Some (origin, g, [])) ≡ Some x → x.2 ≡ []
granted origin None x is = absurd cc
granted origin (Some g) x is = let same : (origin, g, []) ≡ x = cc in sym (ap (λ (h : Head). h.2) same)

named : (value : json.Data) (origin : Option Text) (x : Head) → members.◌>>=◌ origin (λ o. members.◌>>=◌ (grant_of value) (λ g. Some (o, g, []))) ≡ Some x → x.2 ≡ []
named value None x is = absurd cc
named value (Some o) x is = granted o (grant_of value) x is

head-by : (value : json.Data) (b : Bool) (x : Head)
    → elim b [ true ↦ members.◌>>=◌ (text (codes "origin") value) (λ o. members.◌>>=◌ (grant_of value) (λ g. Some (o, g, []))) | false ↦ None ] ≡ Some x → x.2 ≡ []
head-by value true x is = named value (text (codes "origin") value) x is
head-by value false x is = absurd cc

head-none : (value : json.Data) (x : Head) → head_alone value ≡ Some x → x.2 ≡ []
head-none value x is = head-by value (has_only (codes "origin" ∷ codes "grants" ∷ []) value) x is

-- ---- so the agent has none

keyed : (agent : ℕ) (key : Read (Option Text)) (grant : Bool) (a : Asked) → (key >>= λ unit. each_from (step_of agent) 1 [] >>= λ steps. Ok (record { key = unit; grant = grant; steps = steps })) ≡ Ok a → Idle a
keyed agent (Ok unit) grant a is = let same : record { key = unit; grant = grant; steps = [] } ≡ a = cc in sym (ap (λ (x : Asked). x.steps) same)
keyed agent (Err why) grant a is = absurd cc

headed : (agent : ℕ) (h : Option Head) (a : Asked) → ((x : Head) → h ≡ Some x → x.2 ≡ []) → if_headed agent h ≡ Ok a → Idle a
headed agent None a none is = absurd cc
headed agent (Some (origin, grant, items)) a none is =
    let empty : items ≡ [] = none (origin, grant, items) refl in
    keyed agent (key_of_agent agent origin) grant a (subst (λ xs. if_headed agent (Some (origin, grant, xs)) ≡ Ok a) empty is)

alone-idle : (agent : ℕ) (value : json.Data) (a : Asked) → agent_alone agent value ≡ Ok a → Idle a
unfolding agent_alone
alone-idle agent value a is = headed agent (head_alone value) a (head-none value) is

-- ---- all of them

one-and-more : (r : Read Asked) (more : Read (List Asked)) (xs : List Asked) → ((a : Asked) → r ≡ Ok a → Idle a) → ((ys : List Asked) → more ≡ Ok ys → All Idle ys)
    → (r >>= λ x. after (x ∷ []) more) ≡ Ok xs → All Idle xs
one-and-more (Err why) more xs one rest is = absurd cc
one-and-more (Ok a) (Err why) xs one rest is = absurd cc
one-and-more (Ok a) (Ok ys) xs one rest is = let same : a ∷ ys ≡ xs = cc in subst (All Idle) same (All-cons Idle a ys (one a refl) (rest ys refl))

each-idle : (values : List json.Data) (number : ℕ) (xs : List Asked) → each_from agent_alone number values ≡ Ok xs → All Idle xs
each-idle [] number xs is = let same : [] ≡ xs = cc in subst (All Idle) same (All-nil Idle)
each-idle (value ∷ values) number xs is =
    one-and-more (agent_alone number value) (each_from agent_alone (number + 1) values) xs (alone-idle number value) (each-idle values (number + 1)) is

abbrev limited : Bool → List Asked → Read (List Asked)
limited fits xs = elim fits [ true ↦ Ok xs | false ↦ Err refused.TooMany ]

fits-by : (b : Bool) (xs scripts : List Asked) → limited b xs ≡ Ok scripts → xs ≡ scripts
fits-by true xs scripts is = cc
fits-by false xs scripts is = absurd cc

within : (r : Read (List Asked)) (scripts : List Asked) → ((xs : List Asked) → r ≡ Ok xs → All Idle xs) → (r >>= if_within) ≡ Ok scripts → All Idle scripts
within (Ok xs) scripts all is = subst (All Idle) (fits-by (fits_limits xs) xs scripts is) (all xs refl)
within (Err why) scripts all is = absurd cc

agents-idle : (items : List json.Data) (scripts : List Asked) → if_agents items ≡ Ok scripts → All Idle scripts
agents-idle [] scripts is = absurd cc
agents-idle (item ∷ items) scripts is = within (each_from agent_alone 1 (item ∷ items)) scripts (each-idle (item ∷ items) 1) is

named-idle : (items : Option (List json.Data)) (scripts : List Asked) → if_named items ≡ Ok scripts → All Idle scripts
named-idle None scripts is = absurd cc
named-idle (Some items) scripts is = agents-idle items scripts is

told-idle : (value : Option json.Data) (scripts : List Asked) → if_told value ≡ Ok scripts → All Idle scripts
told-idle None scripts is = absurd cc
told-idle (Some value) scripts is = named-idle (agents_of value) scripts is

pub heard-idle : (line : Text) (scripts : List Asked) → heard_agents line ≡ Ok scripts → All Idle scripts
unfolding heard_agents
heard-idle line scripts is = told-idle (json_of line) scripts is

-- ---- and keys of origins

pub has-key : (a : Asked) → IsTrue (keeps_limits a) → is_origin_key a.key ≡ true
has-key a limits =
    let formed = and_parts (is_origin_key a.key && list_all keeps_bounds a.steps) (fits_alone a) limits in
    (and_parts (is_origin_key a.key) (list_all keeps_bounds a.steps) formed.0).0

pub both-all : (xs : List Asked) → All Idle xs → All (λ (a : Asked). is_origin_key a.key ≡ true) xs → All (λ (a : Asked). (a.steps ≡ []) × (is_origin_key a.key ≡ true)) xs
both-all [] idle keys = All-nil (λ (a : Asked). (a.steps ≡ []) × (is_origin_key a.key ≡ true))
both-all (x ∷ xs) idle keys =
    All-cons (λ (a : Asked). (a.steps ≡ []) × (is_origin_key a.key ≡ true)) x xs
    (All-head Idle x xs idle, All-head (λ (a : Asked). is_origin_key a.key ≡ true) x xs keys)
    (both-all xs (All-tail Idle x xs idle) (All-tail (λ (a : Asked). is_origin_key a.key ≡ true) x xs keys))

-- ---- and they are few

pub few-agents : (agents : List Asked) → IsTrue (fits_limits agents) → length agents ≤ 64
few-agents agents limits =
    let parts = and_parts (nat_le (length agents) 64 && nat_le (steps_of_all agents) 20000) (nat_le (bytes_of_all agents) 67108864) limits in
    leb-true (length agents) 64 (and_parts (nat_le (length agents) 64) (nat_le (steps_of_all agents) 20000) parts.0).0

-- one item more of a front
pub one-more : {A : Type 0} (P : A → Type 0) (xs : List A) (i : ℕ) (x : A) → i < length xs → x ≡ get_or xs i x → All P (take i xs) → P x → All P (take (i + 1) xs)
one-more P xs i x below is h px =
    subst (All P) (sym (take_at_read xs i x below).1)
    (All-append P (take i xs) (get_or xs i x ∷ []) h (All-cons P (get_or xs i x) [] (subst P is px) (All-nil P)))
