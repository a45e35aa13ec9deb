-- What is counted of an agent's entries, and that a lone agent's line is that of its own run.
use Rattle.std.proofs.Common.{◌≡◌, ◌+◌, ◌<◌, ◌≤◌, ◌^◌, ◌==◌, ◌&&◌, ℕ, zero, suc, Bool, true, false, not, cond, List, [], ◌∷◌, ◌++◌, append-nil, codes, decimal, Vec, length, length-append, map, filter, All, Option, Some, None, IsTrue, slice_get, ◌⊎◌, inl, inr, refl, sym, ap, ◌∙◌, subst, arith}
use Rattle.std.specs.declared.alloc.Global.{Global}
use Rattle.std.proofs.lemmas.Bool.Decides.{nat_tests}
use Rattle.std.proofs.lemmas.Grind.{flat_map-append}
use Rattle.std.proofs.lemmas.List.Elements.{All-nil, All-cons, All-head, All-tail, All-filter, filter-append}
use Rattle.hex.specs.Hex.{encode_lower}
use Rattle.sha2.specs.Sha256.{sha256}
use Rattle.opfs_base.specs.Texts.{Text, same_text}
use Rattle.opfs_hist.specs.declared.entry.Entry.{Entry}
use Rattle.opfs_transcripts.specs.Lone.Lone.{IsLone, IsOwnEntry, own_run}
use Rattle.opfs_transcripts.proofs.lone.Owning.{lone-runs-are-their-own}
use Rattle.opfs_machine.specs.declared.state.Party.TheVariants.{Origin}
use Rattle.opfs_machine.specs.Agents.{agent_in, party_with, same_party}
use Rattle.opfs_machine.specs.Alone.{is_member}
use Rattle.opfs_machine.specs.Histories.{Legal, evicted_by}
use Rattle.opfs_machine.specs.Openings.{agent_begun}
use Rattle.opfs_machine.specs.Steps.{is_refusal}
use Rattle.opfs_print.specs.Lines.{call_text, joined, line_of, text_of}
use Rattle.opfs_script_run.specs.Runs.Running.{entries_of, is_wait, IsRun}
use Rattle.opfs_script.specs.Scripts.{Asked}
use Rattle.opfs_laws.specs.Separation.Apart.{IsInOrder, has_origin_key}
use Rattle.opfs_script_run.specs.Stage.Openings.{trial_opening, who_of}
use Rattle.opfs_script_run.specs.Stage.Runs.{EachRuns}
use Rattle.opfs_transcripts.specs.Told.Goings.{as_told}
use Rattle.opfs_transcripts.proofs.told.Fixing.{Line, of_unit, of_call, line-is}
use Rattle.opfs_gen.specs.declared.summing.Told.{Told}
use Rattle.opfs_gen.specs.Making.{IsGenRange, agents_from, gen_asked, gen_key, gen_script}
use Rattle.opfs_gen.specs.Own.{SummariesAreOfOwnRuns}
use Rattle.opfs_gen.specs.Summing.{accepted_among, agent_line, is_accepted, lines_among, lines_from, refused_among}
use Rattle.opfs_gen.specs.Telling.{IsCounted, IsTold, one_where}
use Rattle.opfs_gen.proofs.Keys.{key-origin, other-key, same-key}

-- ---- counts

one-line : (e : Entry) → length (lines_among (e ∷ [])) ≡ one_where (not (is_wait e.op))
one-line e = elim (not (is_wait e.op)) as (λ b. length (cond b (e ∷ []) []) ≡ one_where b) [ true ↦ refl | false ↦ refl ]

one-among : (p : Entry → Bool) (e : Entry) → length (filter p (lines_among (e ∷ []))) ≡ one_where (not (is_wait e.op) && p e)
one-among p e = elim (not (is_wait e.op)) as (λ b. length (filter p (cond b (e ∷ []) [])) ≡ one_where (b && p e)) [
  | true ↦ elim (p e) as (λ b. length (cond b (e ∷ []) []) ≡ one_where b) [ true ↦ refl | false ↦ refl ]
  | false ↦ refl
]

lines-more : (es : List Entry) (e : Entry) → lines_among (es ++ e ∷ []) ≡ lines_among es ++ lines_among (e ∷ [])
lines-more es e = filter-append (λ x. not (is_wait x.op)) es (e ∷ [])

count-more : (p : Entry → Bool) (es : List Entry) (e : Entry) → length (filter p (lines_among (es ++ e ∷ []))) ≡ length (filter p (lines_among es)) + one_where (not (is_wait e.op) && p e)
count-more p es e =
    ap (λ xs. length (filter p xs)) (lines-more es e)
    ∙ ap length (filter-append p (lines_among es) (lines_among (e ∷ [])))
    ∙ length-append (filter p (lines_among es)) (filter p (lines_among (e ∷ [])))
    ∙ ap (λ n. length (filter p (lines_among es)) + n) (one-among p e)

pub told-more : (es : List Entry) (e : Entry) (old mid new : Told) → IsTold es old → mid.lines ≡ old.lines → mid.accepted ≡ old.accepted → mid.refused ≡ old.refused
    → mid.text.items ≡ old.text.items ++ line_of e → IsCounted e mid new → IsTold (es ++ e ∷ []) new
told-more es e old mid new told lines accepted refused text counted = record {
  lines =
      counted.lines ∙ ap (λ n. n + one_where (not (is_wait e.op))) (lines ∙ told.lines)
      ∙ sym (ap length (lines-more es e) ∙ length-append (lines_among es) (lines_among (e ∷ [])) ∙ ap (λ n. length (lines_among es) + n) (one-line e));
  accepted = counted.accepted ∙ ap (λ n. n + one_where (not (is_wait e.op) && not (is_refusal e.reply))) (accepted ∙ told.accepted) ∙ sym (count-more is_accepted es e);
  refused = counted.refused ∙ ap (λ n. n + one_where (not (is_wait e.op) && is_refusal e.reply)) (refused ∙ told.refused) ∙ sym (count-more (λ x. is_refusal x.reply) es e);
  text =
      ap (λ (t : Vec ℕ Global). t.items) counted.text ∙ text ∙ ap (λ t. t ++ line_of e) told.text
      ∙ sym (flat_map-append line_of es (e ∷ []) ∙ ap (λ t. text_of es ++ t) (append-nil (line_of e)));
}

-- One entry more of an agent, or of another one.
pub mine-more : (k : ℕ) (es : List Entry) (e : Entry) → (e.agent == k) ≡ true → entries_of k (es ++ e ∷ []) ≡ entries_of k es ++ e ∷ []
mine-more k es e mine = filter-append (λ x. x.agent == k) es (e ∷ []) ∙ ap (λ b. entries_of k es ++ cond b (e ∷ []) []) mine

pub other-more : (k : ℕ) (es : List Entry) (e : Entry) → (e.agent == k) ≡ false → entries_of k (es ++ e ∷ []) ≡ entries_of k es
other-more k es e other = filter-append (λ x. x.agent == k) es (e ∷ []) ∙ ap (λ b. entries_of k es ++ cond b (e ∷ []) []) other ∙ append-nil (entries_of k es)

-- ---- entries that had a turn, and that had none

none-some : (unit : Text) → None ≡ Some unit → ⊥
none-some unit h = cc

call-line : (e : Entry) → evicted_by e.op ≡ None → is_wait e.op ≡ false → line_of e ≡ call_text e
call-line e plain moves = by-kind (line-is e moves)
  where
    by-kind : Line e → line_of e ≡ call_text e
    by-kind (of_call is) = is.line
    by-kind (of_unit unit is) = absurd (none-some unit (sym plain ∙ ap evicted_by is))

text-told : (es : List Entry) → All IsOwnEntry es → text_of (map as_told es) ≡ text_of es
text-told [] own = refl
text-told (e ∷ es) own =
    let here = All-head IsOwnEntry e es own in
    let line : line_of (as_told e) ≡ line_of e = call-line (as_told e) here.stays here.moves ∙ sym (call-line e here.stays here.moves) in
    λ i. line i ++ text-told es (All-tail IsOwnEntry e es own) i

lines-told : (es : List Entry) → lines_among (map as_told es) ≡ map as_told (lines_among es)
lines-told [] = refl
lines-told (e ∷ es) = elim (not (is_wait e.op)) as (λ b. cond b (as_told e ∷ lines_among (map as_told es)) (lines_among (map as_told es)) ≡ map as_told (cond b (e ∷ lines_among es) (lines_among es))) [
  | true ↦ λ i. as_told e ∷ lines-told es i
  | false ↦ lines-told es
]

length-told : (es : List Entry) → length (map as_told es) ≡ length es
length-told [] = refl
length-told (e ∷ es) = ap suc (length-told es)

accepted-told : (es : List Entry) → length (filter is_accepted (map as_told es)) ≡ length (filter is_accepted es)
accepted-told [] = refl
accepted-told (e ∷ es) = elim (is_accepted e) as (λ b. length (cond b (as_told e ∷ filter is_accepted (map as_told es)) (filter is_accepted (map as_told es))) ≡ length (cond b (e ∷ filter is_accepted es) (filter is_accepted es))) [
  | true ↦ ap suc (accepted-told es)
  | false ↦ accepted-told es
]

abbrev is_refused : Entry → Bool
is_refused e = is_refusal e.reply

refused-told : (es : List Entry) → length (filter is_refused (map as_told es)) ≡ length (filter is_refused es)
refused-told [] = refl
refused-told (e ∷ es) = elim (is_refused e) as (λ b. length (cond b (as_told e ∷ filter is_refused (map as_told es)) (filter is_refused (map as_told es))) ≡ length (cond b (e ∷ filter is_refused es) (filter is_refused es))) [
  | true ↦ ap suc (refused-told es)
  | false ↦ refused-told es
]

abbrev line_with : ℕ → ℕ → ℕ → ℕ → Text → Text
line_with k n a r text =
    joined (codes "agent " ∷ decimal k ∷ codes " " ∷ decimal n ∷ codes " " ∷ decimal a ∷ codes " " ∷ decimal r ∷ codes " " ∷ encode_lower (sha256 text) ∷ codes "\n" ∷ [])

line-told : (k : ℕ) (es : List Entry) → All IsOwnEntry es → agent_line k (map as_told es) ≡ agent_line k es
unfolding agent_line
line-told k es own =
    let lines : length (lines_among (map as_told es)) ≡ length (lines_among es) = ap length (lines-told es) ∙ length-told (lines_among es) in
    let accepted : accepted_among (map as_told es) ≡ accepted_among es = ap (λ xs. length (filter is_accepted xs)) (lines-told es) ∙ accepted-told (lines_among es) in
    let refused : refused_among (map as_told es) ≡ refused_among es = ap (λ xs. length (filter is_refused xs)) (lines-told es) ∙ refused-told (lines_among es) in
    let text = text-told es own in
    λ i. line_with k (lines i) (accepted i) (refused i) (text i)

-- ---- each agent is alone in its origin

abbrev key_in : List Asked → ℕ → Option Text
key_in [] i = None
key_in (a ∷ script) zero = a.key
key_in (a ∷ script) (suc i) = key_in script i

key-begun : (script : List Asked) (i : ℕ) → (agent_in (map agent_begun (map who_of script)) (suc i)).key ≡ key_in script i
key-begun [] i = refl
key-begun (a ∷ script) zero = refl
key-begun (a ∷ script) (suc i) = key-begun script i

module _ (seed rounds : ℕ) where
  key-at : (count k i : ℕ) → i < count → key_in (agents_from seed rounds k count) i ≡ Some (gen_key (k + i))
  key-at zero k i below = absurd (omega (arith, below))
  key-at (suc count) k zero below = ap (λ n. Some (gen_key n)) (no-more k)
    where
      no-more : (k : ℕ) → k ≡ k + 0
      no-more k = omega arith
  key-at (suc count) k (suc i) below = key-at count (k + 1) i (omega (arith, below)) ∙ ap (λ n. Some (gen_key n)) (one-on k i)
    where
      one-on : (k i : ℕ) → (k + 1) + i ≡ k + suc i
      one-on k i = omega arith

  no-key-at : (count k i : ℕ) → count ≤ i → key_in (agents_from seed rounds k count) i ≡ None
  no-key-at zero k i beyond = refl
  no-key-at (suc count) k zero beyond = absurd (omega (arith, beyond))
  no-key-at (suc count) k (suc i) beyond = no-key-at count (k + 1) i (omega (arith, beyond))

  found-at : (count k i : ℕ) → i < count → slice_get (agents_from seed rounds k count) i ≡ Some (gen_asked seed rounds (k + i))
  found-at zero k i below = absurd (omega (arith, below))
  found-at (suc count) k zero below = ap (λ n. Some (gen_asked seed rounds n)) (no-more k)
    where
      no-more : (k : ℕ) → k ≡ k + 0
      no-more k = omega arith
  found-at (suc count) k (suc i) below = found-at count (k + 1) i (omega (arith, below)) ∙ ap (λ n. Some (gen_asked seed rounds n)) (one-on k i)
    where
      one-on : (k i : ℕ) → (k + 1) + i ≡ k + suc i
      one-on k i = omega arith

  keys-formed : (count k : ℕ) → k + count < 2 ^ 64 → All (λ who. IsTrue (has_origin_key who.key)) (map who_of (agents_from seed rounds k count))
  keys-formed zero k few = All-nil (λ who. IsTrue (has_origin_key who.key))
  keys-formed (suc count) k few =
      All-cons (λ who. IsTrue (has_origin_key who.key)) (who_of (gen_asked seed rounds k)) (map who_of (agents_from seed rounds (k + 1) count)) (key-origin k (omega (arith, few)))
      (keys-formed count (k + 1) (omega (arith, few)))

not-zero : (k : ℕ) → 1 ≤ k → (0 == k) ≡ false
not-zero k some = grind (arith, nat_tests)

suc-not-zero : (i : ℕ) → (suc i == 0) ≡ false
suc-not-zero i = grind (arith, nat_tests)

beyond-test : (i k n : ℕ) → n ≤ i → k ≤ n → (suc i == k) ≡ false
beyond-test i k n beyond within = grind (arith, nat_tests)

test-is : (j k : ℕ) → (j == k) ≡ true → j ≡ k
test-is j k h = grind (arith, nat_tests)

module _ (seed agents rounds : ℕ) (range : IsGenRange seed agents rounds) where
  abbrev script : List Asked
  script = gen_script seed agents rounds

  abbrev shared_with : ℕ → Option Text → ℕ → Bool
  shared_with k key j = same_party (Origin (gen_key k)) (party_with key j) && not (j == 0)

  -- By the key of the agent of a number.
  member-key : (k i : ℕ) (key : Option Text) → key_in script i ≡ key → is_member (trial_opening script) (Origin (gen_key k)) (suc i) ≡ shared_with k key (suc i)
  member-key k i key is = ap (λ x. shared_with k x (suc i)) (key-begun script i ∙ is)

  same-keys : (k i : ℕ) → k ≤ agents → i < agents → shared_with k (Some (gen_key (1 + i))) (suc i) ≡ (suc i == k)
  same-keys k i within below =
      let few = range.few_agents in
      elim (suc i == k) as (λ b. (suc i == k) ≡ b → shared_with k (Some (gen_key (1 + i))) (suc i) ≡ b) [
        | true ↦ λ is. (λ j. same_text (gen_key (sym (place is) j)) (gen_key (1 + i)) && not (suc-not-zero i j)) ∙ ap (λ b. b && true) (same-key (1 + i))
        | false ↦ λ differ. ap (λ b. b && not (suc i == 0)) (other-key k (1 + i) (omega (arith, within, few)) (omega (arith, below, few)) (other-place differ))
      ] refl
    where
      place : (suc i == k) ≡ true → 1 + i ≡ k
      place is = let same = test-is (suc i) k is in omega (arith, same)

      next : (i : ℕ) → 1 + i ≡ suc i
      next i = omega arith

      other-place : (suc i == k) ≡ false → (1 + i == k) ≡ false
      other-place differ = ap (λ n. n == k) (next i) ∙ differ

  lone : (k : ℕ) → 1 ≤ k → k ≤ agents → IsLone (trial_opening script) k (gen_asked seed rounds k)
  lone k some within zero = sym (not-zero k some)
  lone k some within (suc i) = elim (below-or i agents) as (λ p. is_member (trial_opening script) (Origin (gen_key k)) (suc i) ≡ (suc i == k)) [
    | inl below ↦ member-key k i (Some (gen_key (1 + i))) (key-at seed rounds agents 1 i below) ∙ same-keys k i within below
    | inr beyond ↦ member-key k i None (no-key-at seed rounds agents 1 i beyond) ∙ sym (beyond-test i k agents beyond within)
  ]
    where
      below-or : (i n : ℕ) → (i < n) ⊎ (n ≤ i)
      below-or i n = search (arith)

  order : IsInOrder (trial_opening script)
  order = let few = range.few_agents in record { rows = refl; keys = keys-formed seed rounds agents 1 (omega (arith, few)) }

  module _ (es : List Entry) (legal : Legal (trial_opening script) es) (runs : EachRuns script es) (own : All IsOwnEntry es) where
    mine : (k : ℕ) (xs : List Entry) → All IsOwnEntry xs → All IsOwnEntry (entries_of k xs)
    mine k xs all = All-filter (λ e. e.agent == k) IsOwnEntry xs all

    run-of : (k : ℕ) → 1 ≤ k → k ≤ agents → IsRun (gen_asked seed rounds k) (entries_of k es)
    run-of zero some within = absurd (omega (arith, some))
    run-of (suc i) some within =
        let found = found-at seed rounds agents 1 i (omega (arith, within)) in
        subst (λ n. IsRun (gen_asked seed rounds n) (entries_of n es)) (next i) (subst (λ n. IsRun (gen_asked seed rounds (1 + i)) (entries_of n es)) (other i) (runs i (gen_asked seed rounds (1 + i)) found))
      where
        next : (i : ℕ) → 1 + i ≡ suc i
        next i = omega arith

        other : (i : ℕ) → i + 1 ≡ 1 + i
        other i = omega arith

    own-line : (k : ℕ) → 1 ≤ k → k ≤ agents → agent_line k (entries_of k es) ≡ agent_line k (own_run (trial_opening script) k (gen_asked seed rounds k))
    own-line k some within =
        sym (line-told k (entries_of k es) (mine k es own))
        ∙ ap (agent_line k) (lone-runs-are-their-own (trial_opening script) es k (gen_asked seed rounds k) order legal own (lone k some within) (run-of k some within))

    lines-same : (k count : ℕ) → 1 ≤ k → k + count ≤ agents + 1 → lines_from (λ j. entries_of j es) k count ≡ lines_from (λ j. own_run (trial_opening script) j (gen_asked seed rounds j)) k count
    lines-same k zero some within = refl
    lines-same k (suc count) some within = λ i. own-line k some (omega (arith, within)) i ++ lines-same (k + 1) count (omega (arith, some)) (omega (arith, within)) i

pub summaries-are-of-own-runs : SummariesAreOfOwnRuns
summaries-are-of-own-runs seed agents rounds es range legal runs own = lines-same seed agents rounds range es legal runs own 1 agents (omega arith) (omega arith)
