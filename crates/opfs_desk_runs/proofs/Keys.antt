-- The keys of agents.
use Rattle.std.proofs.Common.{◌≡◌, ◌&&◌, Bool, true, IsTrue, ℕ, zero, suc, ◌+◌, ◌<◌, ◌≤◌, List, [], ◌∷◌, length, map, take, All, Option, Some, None, sym, ap, ◌∙◌, subst, arith}
use Rattle.std.specs.Prelude.{get_or, slice_get, unwrap_or}
use Rattle.std.proofs.lemmas.Grind.{take_at_read}
use Rattle.std.proofs.lemmas.List.{length-map}
use Rattle.std.specs.List.{list_all}
use Rattle.std.specs.Str.{IsUtf8}
use Rattle.std.proofs.lemmas.Bool.{and_parts}
use Rattle.std.proofs.lemmas.Str.{is_utf8-from_IsUtf8}
use Rattle.std.proofs.lemmas.List.Elements.{All-append, All-cons, All-head, All-nil, All-tail}
use Rattle.opfs_base.specs.Texts.{Text}
use Rattle.opfs_codec.specs.Spelling.{IsText, is_origin_text}
use Rattle.opfs_machine.specs.Agents.{agent_in, nobody}
use Rattle.opfs_machine.specs.Openings.{Who, agent_begun}
use Rattle.opfs_base.specs.Keys.{is_origin, is_one_line}
use Rattle.opfs_script.specs.Limits.{fits_alone, is_origin_key, is_short_key, keeps_bounds, keeps_limits}
use Rattle.opfs_script.specs.Scripts.{Asked}
use Rattle.opfs_script_run.specs.Stage.Openings.{who_of}
use Rattle.opfs_desk_runs.specs.Agents.{IsOwnKey}

-- one item more of a front
pub one-more : {A : Type 0} (P : A → Type 0) (xs : List A) (i : ℕ) (x : A) → i < length xs → x ≡ get_or xs i x → All P (take i xs) → P x → All P (take (i + 1) xs)
one-more P xs i x below is h px =
    subst (All P) (sym (take_at_read xs i x below).1)
    (All-append P (take i xs) (get_or xs i x ∷ []) h (All-cons P (get_or xs i x) [] (subst P is px) (All-nil P)))

-- the key of each agent of scripts
own-at : (script : List Asked) (i : ℕ) (key : Text) → All (λ s. IsOwnKey s.key) script → (unwrap_or (slice_get (map agent_begun (map who_of script)) i) nobody).key ≡ Some key → IsText is_origin_text key
own-at [] i key own is = absurd (cc is)
own-at (s ∷ script) zero key own is = All-head (λ (x : Asked). IsOwnKey x.key) s script own key is
own-at (s ∷ script) (suc i) key own is = own-at script i key (All-tail (λ (x : Asked). IsOwnKey x.key) s script own) is

key-own : (script : List Asked) (k : ℕ) (key : Text) → All (λ s. IsOwnKey s.key) script → (agent_in (map agent_begun (map who_of script)) k).key ≡ Some key → IsText is_origin_text key
key-own script zero key own is = absurd (cc is)
key-own script (suc i) key own is = own-at script i key own is

pub own-keys : (script : List Asked) (agents : List Who) → agents ≡ map who_of script → All (λ s. IsOwnKey s.key) script
    → (k : ℕ) (key : Text) → (agent_in (map agent_begun agents) k).key ≡ Some key → IsText is_origin_text key
own-keys script agents same own k key is =
    key-own script k key own (sym (ap (λ (as_ : List Who). (agent_in (map agent_begun as_) k).key) same) ∙ is)

both-true : (a b : Bool) → a ≡ true → b ≡ true → a && b ≡ true
both-true a b x y = (λ i. x i && y i)

-- the key of a script keeps its limits, and is a text
pub has-own-key : (a : Asked) (key text : Text) → a.key ≡ Some key → IsTrue (keeps_limits a) → IsUtf8 text → text ≡ key → IsOwnKey a.key
has-own-key a key text is limits utf8 same origin at =
    let one : key ≡ origin = of-some key origin (sym is ∙ at) in
    let formed = and_parts (is_origin_key a.key && list_all keeps_bounds a.steps) (fits_alone a) limits in
    let keyed : is_origin_key (Some origin) ≡ true = ap is_origin_key (sym at) ∙ (and_parts (is_origin_key a.key) (list_all keeps_bounds a.steps) formed.0).0 in
    let parts = and_parts (is_origin origin && is_one_line origin) (is_short_key origin) keyed in
    (is_utf8-from_IsUtf8 origin (subst IsUtf8 (same ∙ one) utf8), both-true (is_short_key origin) (is_origin origin) parts.1 (and_parts (is_origin origin) (is_one_line origin) parts.0).0)
  where
    of-some : {A : Type 0} (x y : A) → Some x ≡ Some y → x ≡ y
    of-some x y e = cc

-- an agent without one
pub no-key : (key : Option Text) → key ≡ None → IsOwnKey key
no-key key none origin at = let never : None ≡ Some origin = sym none ∙ at in absurd (cc never)

-- as many agents as scripts
pub few-agents : {W : Type 0} (caller : W → Who) (agents : List W) (script : List Asked) → map caller agents ≡ map who_of script → length script ≤ 64 → length agents ≤ 64
few-agents caller agents script same few =
    let count = ap length same in
    omega (arith, few, count, length-map agents caller, length-map script who_of)
