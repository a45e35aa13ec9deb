-- How two agents begin and end.
use Rattle.std.proofs.Common.{◌≡◌, ◌≢◌, ◌&&◌, ℕ, zero, suc, ◌≤◌, Bool, true, false, List, [], ◌∷◌, ◌++◌, length, map, Option, Some, None, Result, Ok, Err, refl, sym, ap, ◌∙◌, subst, arith, length-append}
use Rattle.std.specs.Prelude.{codes, nat_le, slice_get, Contains, IsTrue}
use Rattle.std.specs.Str.{IsUtf8}
use Rattle.std.proofs.lemmas.Bool.{and_parts, leb-false}
use Rattle.std.proofs.lemmas.List.{length-map, map-append}
use Rattle.std.proofs.lemmas.List.Elements.{Contains-append_right}
use Rattle.std.proofs.lemmas.Str.{is_utf8-from_IsUtf8}
use Rattle.url.specs.Parser.{parse_url}
use Rattle.url.specs.Parts.{Parts, text_between}
use Rattle.url.specs.declared.slicing.Position.TheVariants.{BeforeHost, AfterPort}
use Rattle.opfs_base.specs.Keys.{checked_key, has_tuple_origin, is_origin, key_of, key_of_parts, origin_text}
use Rattle.opfs_base.specs.Texts.{Text}
use Rattle.opfs_base.specs.declared.key.KeyRefusal.{KeyRefusal}
use Rattle.opfs_base.specs.declared.key.KeyRefusal.TheVariants.{BadUrl, Opaque, TooLong}
use Rattle.opfs_codec.specs.Spelling.{IsText, is_key_text, is_origin_text}
use Rattle.opfs_hall.specs.Seen.{HallSeen, HasAll, PassSeen, joined, new_pass}
use Rattle.opfs_hist.specs.declared.entry.Entry.{Entry}
use Rattle.opfs_machine.specs.Agents.{agent_in, agent_of, is_open_row, own_of}
use Rattle.opfs_machine.specs.Contents.{outline_of}
use Rattle.opfs_machine.specs.Openings.{Opening, Who, agent_begun, begun}
use Rattle.opfs_machine.specs.declared.own.Own.{Own}
use Rattle.opfs_machine.specs.declared.state.Agent.{Agent}
use Rattle.opfs_turns.specs.Agents.{AgentSeen}
use Rattle.opfs_turns.specs.Calls.{MayBegin, new_agent}
use Rattle.opfs_notebook.specs.Ready.{IsAgentOf, IsIdle, IsPassOf, asks}

some-same : {X : Type 0} {x y : X} → Some x ≡ Some y → x ≡ y
some-same e = cc

both-true : (a b : Bool) → a ≡ true → b ≡ true → a && b ≡ true
both-true a b x y = (λ i. x i && y i)

-- ---- the key of a URL

one-more : (n : ℕ) → 1 ≤ n → nat_le 1 n ≡ true
one-more n some = elim (nat_le 1 n) as (λ t. nat_le 1 n ≡ t → t ≡ true) [
  | true ↦ λ is. refl
  | false ↦ λ is. let none = leb-false 1 n is in absurd (omega (arith, some, none))
] refl

some-bytes : (url : Parts) → nat_le 1 (length (origin_text url)) ≡ true
some-bytes url =
    one-more (length (origin_text url))
    (let all = length-append url.scheme (codes "://" ++ text_between url BeforeHost AfterPort) in
    omega (arith, all))

checked-short : (t : Bool) (k key : Text) → nat_le 1 (length k) ≡ true → nat_le (length k) 255 ≡ t → elim t as (λ b. Result Text KeyRefusal) [ true ↦ Ok k | false ↦ Err TooLong ] ≡ Ok key → is_key_text key ≡ true
checked-short true k key some few is =
    let same : k ≡ key = cc in
    subst (λ (x : Text). is_key_text x ≡ true) same (both-true (nat_le 1 (length k)) (nat_le (length k) 255) some few)
checked-short false k key some few is = absurd (cc)

parts-short : (t : Bool) (url : Parts) (key : Text) → elim t as (λ b. Result Text KeyRefusal) [ true ↦ checked_key (origin_text url) | false ↦ Err Opaque ] ≡ Ok key → is_key_text key ≡ true
parts-short true url key is = checked-short (nat_le (length (origin_text url)) 255) (origin_text url) key (some-bytes url) refl is
parts-short false url key is = absurd (cc)

url-short : {E : Type 0} (r : Result Parts E) (key : Text) → elim r as (λ x. Result Text KeyRefusal) [ Ok url ↦ key_of_parts url | Err e ↦ Err BadUrl ] ≡ Ok key → is_key_text key ≡ true
url-short (Ok url) key is = parts-short (has_tuple_origin url.scheme) url key is
url-short (Err e) key is = absurd (cc)

pub origin-key : (text key told : Text) → key_of text ≡ Ok key → IsTrue (is_origin key) → IsUtf8 told → told ≡ key → IsText is_origin_text key
origin-key text key told is plain utf8 same =
    (is_utf8-from_IsUtf8 key (subst IsUtf8 same utf8), both-true (is_key_text key) (is_origin key) (url-short (parse_url None text) key is) plain)

plain-of : (key : Text) → IsText is_origin_text key → IsTrue (is_origin key)
plain-of key text = (and_parts (is_key_text key) (is_origin key) text.1).1

-- ---- the agents of a store

module _ (first second : Text) where
  abbrev two : List Who
  two = asks first ∷ asks second ∷ []

  key-at : (k : ℕ) (key : Text) → IsText is_origin_text first → IsText is_origin_text second → (agent_in (map agent_begun two) k).key ≡ Some key → IsText is_origin_text key
  key-at zero key one other is = absurd (cc)
  key-at (suc zero) key one other is = subst (IsText is_origin_text) (some-same is) one
  key-at (suc (suc zero)) key one other is = subst (IsText is_origin_text) (some-same is) other
  key-at (suc (suc (suc k))) key one other is = absurd (cc)

  module _ (agents : List Who) (same : agents ≡ asks first ∷ asks second ∷ []) (one : IsText is_origin_text first) (other : IsText is_origin_text second) where
    pub two-keys : (k : ℕ) (key : Text) → (agent_in (map agent_begun agents) k).key ≡ Some key → IsText is_origin_text key
    two-keys k key is = key-at k key one other (sym (ap (λ (ws : List Who). (agent_in (map agent_begun ws) k).key) same) ∙ is)

    at-number : (k : ℕ) → agent_in (map agent_begun agents) k ≡ agent_in (map agent_begun two) k
    at-number k = ap (λ (ws : List Who). agent_in (map agent_begun ws) k) same

  pub first-of : (o : Opening) → o.agents ≡ asks first ∷ asks second ∷ [] → IsText is_origin_text first → IsText is_origin_text second → IsAgentOf o 1 first
  first-of o same one other = record {
    real = λ none. omega (arith, none);
    text = one;
    live = ap (λ (a : Agent Own). a.live) (at-number o.agents same one other 1);
    own_key = ap (λ (a : Agent Own). a.key) (at-number o.agents same one other 1);
    none = ap (λ (a : Agent Own). a.own) (at-number o.agents same one other 1);
  }

  pub second-of : (o : Opening) → o.agents ≡ asks first ∷ asks second ∷ [] → IsText is_origin_text first → IsText is_origin_text second → IsAgentOf o 2 second
  second-of o same one other = record {
    real = λ none. omega (arith, none);
    text = other;
    live = ap (λ (a : Agent Own). a.live) (at-number o.agents same one other 2);
    own_key = ap (λ (a : Agent Own). a.key) (at-number o.agents same one other 2);
    none = ap (λ (a : Agent Own). a.own) (at-number o.agents same one other 2);
  }

pub few-two : {W : Type 0} (caller : W → Who) (agents : List W) (one other : Who) → map caller agents ≡ one ∷ other ∷ [] → length agents ≤ 64
few-two caller agents one other same = let count = ap length same in omega (arith, count, length-map agents caller)

-- ---- an agent begins

none-open : (a : Agent Own) (m : ℕ) (r : Own) → a.own ≡ [] → own_of a m ≡ Some r → is_open_row (outline_of r) ≡ false
none-open a zero r none is = absurd (no-row is)
  where
    no-row : ◌≡◌ {A = Option Own} None (Some r) → ⊥
    no-row e = cc
none-open a (suc i) r none is = absurd (no-row (sym (ap (λ (rows : List Own). slice_get rows i) none) ∙ is))
  where
    no-row : ◌≡◌ {A = Option Own} None (Some r) → ⊥
    no-row e = cc

module _ {O : Type 0} (opened : O → Opening) (hall : HallSeen O) (number : ℕ) (key : Text) (h : IsAgentOf (opened hall.opening) number key) where
  pub may-begin : (pass : PassSeen O Entry) → pass ≡ new_pass hall number [] → MayBegin opened pass (Some key)
  may-begin pass new =
      subst (λ (p : PassSeen O Entry). MayBegin opened p (Some key)) (sym new)
      (record { idle = refl; real = h.real; fresh = refl; live = h.live; own_key = h.own_key })

  pub stands-new : (pass : PassSeen O Entry) (a : AgentSeen O) → pass ≡ new_pass hall number [] → a ≡ new_agent opened pass (Some key) → IsIdle hall a number 0
  stands-new pass a new is =
      subst (λ (x : AgentSeen O). IsIdle hall x number 0) (sym (is ∙ ap (λ (p : PassSeen O Entry). new_agent opened p (Some key)) new))
      (record {
        ready = record {
          own = refl;
          origin = key;
          key = refl;
          plain = plain-of key h.text;
          rests = λ m r apart is-row. none-open (agent_of (begun (opened hall.opening)) number) m r h.none is-row;
        };
        made = record { rows = omega arith; entries = omega arith };
        agent = refl;
      })

-- ---- they end

module _ {O : Type 0} (first second : PassSeen O Entry) where
  abbrev numbers : List (ℕ × List Entry) → List ℕ
  numbers ps = map (λ p. p.0) ps

  first-in : first.agent ≡ 1 → Contains (first.agent ∷ numbers (first.ended ++ (second.agent, second.base) ∷ second.ended)) 1
  first-in is = (0, omega arith, is)

  second-in : second.agent ≡ 2 → Contains (first.agent ∷ numbers (first.ended ++ (second.agent, second.base) ∷ second.ended)) 2
  second-in is =
      subst (λ (ns : List ℕ). Contains (first.agent ∷ ns) 2) (sym (map-append (λ p. p.0) first.ended ((second.agent, second.base) ∷ second.ended)))
      (Contains-append_right (first.agent ∷ numbers first.ended) (second.agent ∷ numbers second.ended) 2 (0, omega arith, is))

  joined-in : (k : ℕ) → first.agent ≡ 1 → second.agent ≡ 2 → k ≤ 2 → k ≢ 0 → Contains (first.agent ∷ numbers (first.ended ++ (second.agent, second.base) ∷ second.ended)) k
  joined-in zero one other most apart = absurd (apart refl)
  joined-in (suc zero) one other most apart = first-in one
  joined-in (suc (suc zero)) one other most apart = second-in other
  joined-in (suc (suc (suc k))) one other most apart = absurd (omega (arith, most))

pub all-joined : {O : Type 0} (hall : HallSeen O) (owner first second : PassSeen O Entry) → owner ≡ new_pass hall 0 [] → hall.agents ≡ 2 → IsPassOf hall 1 first → IsPassOf hall 2 second
    → HasAll (joined (joined owner first) second)
all-joined {O} hall owner first second new agents one other =
    subst (λ (p : PassSeen O Entry). HasAll (joined (joined p first) second)) (sym new)
    (λ k most apart. joined-in first second k one.agent other.agent (omega (arith, most, agents)) apart)
