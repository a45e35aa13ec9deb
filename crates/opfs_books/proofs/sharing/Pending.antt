-- An agent's pending calls are taken in by their sum.
use Rattle.std.proofs.Common.{◌≡◌, ℕ, zero, suc, ◌+◌, ◌-◌, ◌<◌, ◌≤◌, ◌==◌, Bool, true, false, ◌&&◌, not, cond, List, [], ◌∷◌, ◌++◌, fold, length, slice_set, Option, Some, None, refl, sym, ap, ◌∙◌, subst, filter, ◌⊎◌, inl, inr, arith}
use Rattle.std.specs.Prelude.{slice_get, unwrap_or, replicate, count_by, is_some}
use Rattle.std.proofs.lemmas.List.Sums.{length-filter}
use Rattle.std.proofs.lemmas.List.{append_assoc, append-nil, replicate-append-replicate, length-set}
use Rattle.std.specs.Cmp.Lexicographic.{slice_cmp}
use Rattle.std.proofs.lemmas.Bool.Decides.{nat_tests}
use Rattle.std.proofs.lemmas.Cmp.{nat_list_cmp_total}
use Rattle.std.specs.FinMap.Entries.{put, by_order}
use Rattle.std.specs.Option.{option_or}
use Rattle.std.specs.Ordering.{nat_cmp, ordering_reverse}
use Rattle.std.specs.declared.cmp.Ordering.{Ordering}
use Rattle.std.specs.declared.cmp.Ordering.TheVariants.{Less, Equal, Greater}
use Rattle.opfs_base.specs.Texts.{Text}
use Rattle.opfs_state_rows.specs.Changes.Asking.{makes_slot}
use Rattle.opfs_hist.specs.declared.entry.Entry.{Entry}
use Rattle.opfs_hist.specs.declared.history.PendingSum.{PendingSum}
use Rattle.opfs_hist.specs.declared.op.Op.{Op}
use Rattle.opfs_hist.specs.declared.op.Op.TheVariants as op
use Rattle.opfs_hist.specs.declared.reply.Reply.{Reply}
use Rattle.opfs_hist.specs.declared.reply.Reply.TheVariants as reply
use Rattle.opfs_base.specs.declared.locator.Locator.{Locator}
use Rattle.opfs_hist.specs.Sums.{is_refusal as told_refusal, asks_for_row, makes_row, set_moment, later_moment, last_moment}
use Rattle.opfs_laws.specs.Lengths.Outlines.{local_change}
use Rattle.opfs_machine.specs.declared.own.Outline.{Outline}
use Rattle.opfs_machine.specs.declared.own.Outline.TheVariants as outline
use Rattle.opfs_machine.specs.declared.state.Agent.{Agent}
use Rattle.opfs_machine.specs.Agents.{agent_of, counted, nobody, used_now, with_agent}
use Rattle.opfs_machine.specs.Steps.{is_refusal}
use Rattle.opfs_register.specs.Seating.{noted as noted_agent, used_by}
use Rattle.opfs_state_rows.proofs.standing.AgentMoves.{number, agent-set}
use Rattle.opfs_state_rows.specs.Standing.Noted.{with_sum, used_more}
use Rattle.opfs_state_rows.specs.Standing.Seen.{Machine}
use Rattle.opfs_books.specs.Sharing.Noting.{noted, IsSumOf, IsNote, AreNotes}

abbrev texts : Text → Text → Ordering
texts = slice_cmp nat_cmp

-- ---- lists

set-itself : {X : Type 0} (xs : List X) (at : ℕ) (d : X) → slice_set xs at (unwrap_or (slice_get xs at) d) ≡ xs
set-itself [] zero d = refl
set-itself [] (suc at) d = refl
set-itself (x ∷ xs) zero d = refl
set-itself (x ∷ xs) (suc at) d = ap (λ ys. x ∷ ys) (set-itself xs at d)

set-again : {X : Type 0} (xs : List X) (at : ℕ) (a b : X) → slice_set (slice_set xs at a) at b ≡ slice_set xs at b
set-again [] zero a b = refl
set-again [] (suc at) a b = refl
set-again (x ∷ xs) zero a b = refl
set-again (x ∷ xs) (suc at) a b = ap (λ ys. x ∷ ys) (set-again xs at a b)

get-set : {X : Type 0} (xs : List X) (at : ℕ) (a : X) → at < length xs → slice_get (slice_set xs at a) at ≡ Some a
get-set [] at a inside = absurd (omega (arith, inside))
get-set (x ∷ xs) zero a inside = refl
get-set (x ∷ xs) (suc at) a inside = get-set xs at a (omega (arith, inside))

equal-itself : (o : Ordering) → o ≡ ordering_reverse o → o ≡ Equal
equal-itself Less is = cc
equal-itself Equal is = refl
equal-itself Greater is = cc

put-step : (k : Text) (a b : ℕ) (e : Text × ℕ) (es : List (Text × ℕ)) (o : Ordering) → o ≡ texts k e.0 → put texts k b (put texts k a es) ≡ put texts k b es
    → put texts k b (by_order o ((k, a) ∷ e ∷ es) ((e.0, a) ∷ es) (e ∷ put texts k a es)) ≡ by_order o ((k, b) ∷ e ∷ es) ((e.0, b) ∷ es) (e ∷ put texts k b es)
put-step k a b e es Less told tail = ap (λ o. by_order o ((k, b) ∷ (k, a) ∷ e ∷ es) ((k, b) ∷ e ∷ es) ((k, a) ∷ put texts k b (e ∷ es))) (equal-itself (texts k k) (nat_list_cmp_total.antisymm k k))
put-step k a b e es Equal told tail = ap (λ o. by_order o ((k, b) ∷ (e.0, a) ∷ es) ((e.0, b) ∷ es) ((e.0, a) ∷ put texts k b es)) (sym told)
put-step k a b e es Greater told tail =
    ap (λ o. by_order o ((k, b) ∷ e ∷ put texts k a es) ((e.0, b) ∷ put texts k a es) (e ∷ put texts k b (put texts k a es))) (sym told) ∙ ap (λ (r : List (Text × ℕ)). e ∷ r) tail

-- The last of two numbers at one key stays.
put-again : (k : Text) (a b : ℕ) (es : List (Text × ℕ)) → put texts k b (put texts k a es) ≡ put texts k b es
put-again k a b [] = ap (λ o. by_order o ((k, b) ∷ (k, a) ∷ []) ((k, b) ∷ []) ((k, a) ∷ (k, b) ∷ [])) (equal-itself (texts k k) (nat_list_cmp_total.antisymm k k))
put-again k a b (e ∷ es) = put-step k a b e es (texts k e.0) refl (put-again k a b es)

-- ---- sums

abbrev one : Entry → PendingSum
one e = record { entries = 1; rows = cond (makes_row e) 1 0; moment = set_moment e.op }

abbrev sum_of : List Entry → PendingSum
sum_of es = record { entries = length es; rows = count_by makes_row es; moment = last_moment es }

or-assoc : (a b c : Option ℕ) → option_or a (option_or b c) ≡ option_or (option_or a b) c
or-assoc None b c = refl
or-assoc (Some x) b c = refl

or-none : (a : Option ℕ) → option_or a None ≡ a
or-none None = refl
or-none (Some x) = refl

later : (last : Option ℕ) (es : List Entry) → fold later_moment last es ≡ option_or (last_moment es) last
later last [] = refl
later last (e ∷ es) =
    later (option_or (set_moment e.op) last) es ∙ or-assoc (last_moment es) (set_moment e.op) last
    ∙ ap (λ (o : Option ℕ). option_or o last) (ap (λ (o : Option ℕ). option_or (last_moment es) o) (sym (or-none (set_moment e.op))) ∙ sym (later (option_or (set_moment e.op) None) es))

clock : (more before : Option ℕ) (now : ℕ) → unwrap_or more (unwrap_or before now) ≡ unwrap_or (option_or more before) now
clock None before now = refl
clock (Some x) before now = refl

refusals : (r : Reply) → is_refusal r ≡ told_refusal r
refusals (reply.No r) = refl
refusals reply.Done = refl
refusals (reply.Length n) = refl
refusals (reply.Flag b) = refl
refusals (reply.Child kind name) = refl
refusals reply.Last = refl
refusals reply.NoPath = refl
refusals (reply.Names path) = refl
refusals (reply.FileInfo size stamp) = refl
refusals (reply.Read bytes) = refl
refusals (reply.Estimate usage quota) = refl
refusals (reply.Gone unit) = refl

and-false : (b : Bool) → (b && false) ≡ false
and-false true = refl
and-false false = refl

-- ---- one entry

module _ (m : Machine) (at : ℕ) where
  abbrev agent : Agent Outline
  agent = agent_of m (suc at)

  abbrev stepped : Bool → Op → Machine
  stepped b o = counted (elim b [ true ↦ m | false ↦ local_change m (suc at) o ]) (suc at)

  used-one : (key : Option Text) → used_now m key ≡ used_by m.used key (m.entries + 1)
  used-one None = refl
  used-one (Some k) = refl

  none-noted : noted_agent agent 0 None ≡ agent
  none-noted = λ i. record agent { own = append-nil agent.own i }

  quiet : counted m (suc at) ≡ with_sum m at (record { entries = 1; rows = 0; moment = None })
  quiet =
      let agents : m.agents ≡ slice_set m.agents at (noted_agent agent 0 None) = sym (ap (λ (a : Agent Outline). slice_set m.agents at a) none-noted ∙ set-itself m.agents at nobody) in
      λ i. record m { agents = agents i; entries = m.entries + 1; used = used-one agent.key i }

  -- A call that makes no row and sets no clock.
  abbrev pub IsQuiet : Op → Type 0
  IsQuiet o = (asks_for_row o ≡ false) × (set_moment o ≡ None) × (local_change m (suc at) o ≡ m)

  -- Which calls do something.
  abbrev pub Does : Op → Type 0
  Does o = makes_slot o ≡ false → IsQuiet o ⊎ (((dir : Locator) × (o ≡ op.Values dir)) ⊎ ((ms : ℕ) × (o ≡ op.Moment ms)))

  pub does : (o : Op) → Does o
  does (op.Values dir) slot = inr (inl (dir, refl))
  does (op.Moment ms) slot = inr (inr (ms, refl))
  does (op.GetFile at) slot = cc
  does (op.CreateWritable at keep) slot = cc
  does (op.CreateSyncAccessHandle at mode) slot = cc
  does (op.GetDirectory bucket) slot = inl (refl, refl, refl)
  does (op.GetDirectoryHandle dir name create) slot = inl (refl, refl, refl)
  does (op.GetFileHandle dir name create) slot = inl (refl, refl, refl)
  does (op.RemoveEntry dir name recursive) slot = inl (refl, refl, refl)
  does (op.Next n dir) slot = inl (refl, refl, refl)
  does (op.Resolve dir entry) slot = inl (refl, refl, refl)
  does (op.IsSameEntry entry other) slot = inl (refl, refl, refl)
  does (op.Slice n at len) slot = inl (refl, refl, refl)
  does (op.Write n bytes position) slot = inl (refl, refl, refl)
  does (op.Seek n position) slot = inl (refl, refl, refl)
  does (op.Truncate n size) slot = inl (refl, refl, refl)
  does (op.Close n) slot = inl (refl, refl, refl)
  does (op.Abort n) slot = inl (refl, refl, refl)
  does (op.SyncRead n len at) slot = inl (refl, refl, refl)
  does (op.SyncWrite n bytes at) slot = inl (refl, refl, refl)
  does (op.SyncTruncate n size) slot = inl (refl, refl, refl)
  does (op.SyncGetSize n) slot = inl (refl, refl, refl)
  does (op.SyncFlush n) slot = inl (refl, refl, refl)
  does (op.SyncClose n) slot = inl (refl, refl, refl)
  does (op.Persist bucket) slot = inl (refl, refl, refl)
  does (op.Persisted bucket) slot = inl (refl, refl, refl)
  does op.Estimate slot = inl (refl, refl, refl)
  does (op.Post tag) slot = inl (refl, refl, refl)
  does (op.Await tag) slot = inl (refl, refl, refl)
  does (op.Wait tag) slot = inl (refl, refl, refl)
  does (op.Discard n) slot = inl (refl, refl, refl)
  does op.End slot = inl (refl, refl, refl)
  does (op.Unbound word) slot = inl (refl, refl, refl)
  does (op.Evict unit) slot = inl (refl, refl, refl)

  module _ (inside : at < length m.agents) where
    -- An iterator more, and a clock.
    changed : (a : Agent Outline) → counted (record m { agents = slice_set m.agents at a }) (suc at) ≡ record m { agents = slice_set m.agents at a; entries = m.entries + 1; used = used_now m a.key }
    changed a = ap (λ (o : Option (Agent Outline)). record m { agents = slice_set m.agents at a; entries = m.entries + 1; used = used_now m (unwrap_or o nobody).key }) (get-set m.agents at a inside)

    noted-by : (a : Agent Outline) (rows : ℕ) (moment : Option ℕ) → a ≡ noted_agent agent rows moment → counted (record m { agents = slice_set m.agents at a }) (suc at) ≡ with_sum m at (record { entries = 1; rows = rows; moment = moment })
    noted-by a rows moment is =
        changed a ∙ (λ i. record m { agents = slice_set m.agents at (is i); entries = m.entries + 1; used = used_now m (is i).key })
        ∙ ap (λ (u : List (Text × ℕ)). record m { agents = slice_set m.agents at (noted_agent agent rows moment); entries = m.entries + 1; used = u }) (used-one agent.key)

    of_values : counted (with_agent m (suc at) (record agent { own = agent.own ++ outline.Iterator ∷ [] })) (suc at) ≡ with_sum m at (record { entries = 1; rows = 1; moment = None })
    of_values =
        ap (λ (s : Machine). counted s (suc at)) (sym (agent-set m at (record agent { own = agent.own ++ outline.Iterator ∷ [] })))
        ∙ noted-by (record agent { own = agent.own ++ outline.Iterator ∷ [] }) 1 None refl

    of_moment : (ms : ℕ) → counted (with_agent m (suc at) (record agent { moment = ms })) (suc at) ≡ with_sum m at (record { entries = 1; rows = 0; moment = Some ms })
    of_moment ms =
        ap (λ (s : Machine). counted s (suc at)) (sym (agent-set m at (record agent { moment = ms })))
        ∙ noted-by (record agent { moment = ms }) 0 (Some ms) (λ i. record agent { moment = ms; own = sym (append-nil agent.own) i })

    refused-quiet : (o : Op) → (is_some (set_moment o) ≡ true → true ≡ false) → set_moment o ≡ None
    refused-quiet o denies = elim (set_moment o) as (λ (t : Option ℕ). (is_some t ≡ true → true ≡ false) → t ≡ None) [
      | None ↦ λ denied. refl
      | Some x ↦ λ denied. absurd (differ (denied refl))
    ] denies
      where
        differ : true ≡ false → ⊥
        differ e = cc

    -- One entry is taken in by its sum.
    noted-one : (k count : ℕ) (o : Op) (r : Reply) (turn : Bool) → IsNote (record { agent = k; number = count; op = o; reply = r; turn = turn }) → stepped (is_refusal r) o ≡ with_sum m at (one (record { agent = k; number = count; op = o; reply = r; turn = turn }))
    noted-one k count o r turn note =
        plain r note
      where
        by_does : (does : IsQuiet o ⊎ (((dir : Locator) × (o ≡ op.Values dir)) ⊎ ((ms : ℕ) × (o ≡ op.Moment ms)))) → counted (local_change m (suc at) o) (suc at) ≡ with_sum m at (record { entries = 1; rows = cond (asks_for_row o && true) 1 0; moment = set_moment o })
        by_does (inl q) =
            ap (λ (s : Machine). counted s (suc at)) q.2 ∙ quiet
            ∙ (λ i. with_sum m at (record { entries = 1; rows = cond (sym q.0 i && true) 1 0; moment = sym q.1 i }))
        by_does (inr (inl v)) = subst (λ (x : Op). counted (local_change m (suc at) x) (suc at) ≡ with_sum m at (record { entries = 1; rows = cond (asks_for_row x && true) 1 0; moment = set_moment x })) (sym v.1) of_values
        by_does (inr (inr v)) = subst (λ (x : Op). counted (local_change m (suc at) x) (suc at) ≡ with_sum m at (record { entries = 1; rows = cond (asks_for_row x && true) 1 0; moment = set_moment x })) (sym v.1) (of_moment v.0)

        by_refusal : (b : Bool) → (is_some (set_moment o) ≡ true → b ≡ false) → stepped b o ≡ with_sum m at (record { entries = 1; rows = cond (asks_for_row o && not b) 1 0; moment = set_moment o })
        by_refusal true denies =
            quiet ∙ (λ i. with_sum m at (record { entries = 1; rows = cond (sym (and-false (asks_for_row o)) i) 1 0; moment = sym (refused-quiet o denies) i }))
        by_refusal false denies = by_does (does o note.slot)

        plain : (t : Reply) → IsNote (record { agent = k; number = count; op = o; reply = t; turn = turn }) → stepped (is_refusal t) o ≡ with_sum m at (one (record { agent = k; number = count; op = o; reply = t; turn = turn }))
        plain t note = by_refusal (is_refusal t) note.moment ∙ ap (λ b. with_sum m at (record { entries = 1; rows = cond (asks_for_row o && not b) 1 0; moment = set_moment o })) (refusals t)

-- ---- one after another

abbrev plus : PendingSum → PendingSum → PendingSum
plus a b = record { entries = a.entries + b.entries; rows = a.rows + b.rows; moment = option_or b.moment a.moment }

more-uses : (used : List (Text × ℕ)) (key : Option Text) (x y : ℕ) → used_by (used_by used key x) key y ≡ used_by used key y
more-uses used None x y = refl
more-uses used (Some k) x y = put-again k x y used

sums : (x y z : ℕ) → x + y + z ≡ x + (y + z)
sums x y z = omega arith

one-none : (x : ℕ) → x + 1 ≡ x + (1 + 0)
one-none x = omega arith

not-none : (n : ℕ) → (suc n == 0) ≡ false
not-none n = grind (arith, nat_tests)

uses-after : (used : List (Text × ℕ)) (key : Option Text) (x n : ℕ)
    → elim (n == 0) [ true ↦ used_by used key (x + 1) | false ↦ used_by (used_by used key (x + 1)) key (x + 1 + n) ] ≡ used_by used key (x + (1 + n))
uses-after used key x zero = ap (λ n. used_by used key n) (one-none x)
uses-after used key x (suc n) =
    ap (λ t. elim t [ true ↦ used_by used key (x + 1) | false ↦ used_by (used_by used key (x + 1)) key (x + 1 + suc n) ]) (not-none n)
    ∙ more-uses used key (x + 1) (x + 1 + suc n) ∙ ap (λ n. used_by used key n) (sums x 1 (suc n))

some-more : (n : ℕ) → (1 + n == 0) ≡ false
some-more n = grind (arith, nat_tests)

more-is : (m : Machine) (key : Option Text) (n : ℕ) → used_more m key (1 + n) ≡ used_by m.used key (m.entries + (1 + n))
more-is m key n = ap (λ t. elim t [ true ↦ m.used | false ↦ used_by m.used key (m.entries + (1 + n)) ]) (some-more n)

module _ (m : Machine) (at : ℕ) (rows : ℕ) (moment : Option ℕ) (b : PendingSum) (inside : at < length m.agents) where
  abbrev first : PendingSum
  first = record { entries = 1; rows = rows; moment = moment }

  abbrev was : Agent Outline
  was = agent_of m (suc at)

  abbrev mid : Agent Outline
  mid = noted_agent was rows moment

  here : agent_of (with_sum m at first) (suc at) ≡ mid
  here = ap (λ (o : Option (Agent Outline)). unwrap_or o nobody) (get-set m.agents at mid inside)

  last : noted_agent mid b.rows b.moment ≡ noted_agent was (rows + b.rows) (option_or b.moment moment)
  last =
      let own : was.own ++ replicate rows outline.Iterator ++ replicate b.rows outline.Iterator ≡ was.own ++ replicate (rows + b.rows) outline.Iterator =
      append_assoc was.own (replicate rows outline.Iterator) (replicate b.rows outline.Iterator) ∙ ap (λ (r : List Outline). was.own ++ r) (replicate-append-replicate rows b.rows outline.Iterator) in
      let now = clock b.moment moment was.moment in
      λ i. record was { moment = now i; own = own i }

  twice : with_sum (with_sum m at first) at b ≡ with_sum m at (record { entries = 1 + b.entries; rows = rows + b.rows; moment = option_or b.moment moment })
  twice =
      let agents : slice_set (slice_set m.agents at mid) at (noted_agent (agent_of (with_sum m at first) (suc at)) b.rows b.moment) ≡ slice_set m.agents at (noted_agent was (rows + b.rows) (option_or b.moment moment)) =
      ap (λ (x : Agent Outline). slice_set (slice_set m.agents at mid) at (noted_agent x b.rows b.moment)) here
      ∙ ap (λ (x : Agent Outline). slice_set (slice_set m.agents at mid) at x) last
      ∙ set-again m.agents at mid (noted_agent was (rows + b.rows) (option_or b.moment moment)) in
      let used : used_more (with_sum m at first) (agent_of (with_sum m at first) (suc at)).key b.entries ≡ used_more m was.key (1 + b.entries) =
      ap (λ (x : Agent Outline). used_more (with_sum m at first) x.key b.entries) here ∙ uses-after m.used was.key m.entries b.entries ∙ sym (more-is m was.key b.entries) in
      let entries = sums m.entries 1 b.entries in
      λ i. record m { agents = agents i; entries = entries i; used = used i }

nothing-noted : (m : Machine) (at : ℕ) → m ≡ with_sum m at (record { entries = 0; rows = 0; moment = None })
nothing-noted m at =
    let agents : m.agents ≡ slice_set m.agents at (noted_agent (agent_of m (suc at)) 0 None) = sym (ap (λ (a : Agent Outline). slice_set m.agents at a) (none-noted m at) ∙ set-itself m.agents at nobody) in
    let entries = none-more m.entries in
    λ i. record m { agents = agents i; entries = entries i }
  where
    none-more : (x : ℕ) → x ≡ x + 0
    none-more x = omega arith

count-more : (e : Entry) (es : List Entry) → cond (makes_row e) 1 0 + count_by makes_row es ≡ count_by makes_row (e ∷ es)
count-more e es =
    (λ i. cond (makes_row e) 1 0 + sym (length-filter makes_row es) i)
    ∙ by-test (makes_row e) (filter makes_row es)
    ∙ length-filter makes_row (e ∷ es)
  where
    by-test : (t : Bool) (xs : List Entry) → cond t 1 0 + length xs ≡ length (cond t (e ∷ xs) xs)
    by-test true xs = omega arith
    by-test false xs = omega arith

one-suc : (n : ℕ) → 1 + n ≡ suc n
one-suc n = omega arith

-- Entries are taken in by their sum.
pub all-noted : (m : Machine) (at : ℕ) (es : List Entry) → at < length m.agents → AreNotes es → noted m (suc at) es ≡ with_sum m at (sum_of es)
all-noted m at [] inside notes = nothing-noted m at
all-noted m at (e ∷ es) inside notes =
    ap (λ (s : Machine). noted s (suc at) es) (noted-one m at inside e.agent e.number e.op e.reply e.turn notes.0)
    ∙ (all-noted (with_sum m at (one e)) at es (subst (λ n. at < n) (sym (length-set m.agents at (noted_agent (agent_of m (suc at)) (cond (makes_row e) 1 0) (set_moment e.op)))) inside) notes.1
    ∙ (twice m at (cond (makes_row e) 1 0) (set_moment e.op) (sum_of es) inside
    ∙ (let rows = count-more e es in let clock = sym (later (option_or (set_moment e.op) None) es ∙ ap (λ (o : Option ℕ). option_or (last_moment es) o) (or-none (set_moment e.op))) in
    λ i. with_sum m at (record { entries = one-suc (length es) i; rows = rows i; moment = clock i }))))

-- A sum that is that of the entries.
pub sum-noted : (m : Machine) (k : ℕ) (sum : PendingSum) (es : List Entry) → 0 < k → k ≤ length m.agents → IsSumOf sum es → AreNotes es → with_sum m (k - 1) sum ≡ noted m k es
sum-noted m zero sum es above within is notes = absurd (omega (arith, above))
sum-noted m (suc at) sum es above within is notes =
    ap (λ n. with_sum m n sum) (number at)
    ∙ ((λ i. with_sum m at (record { entries = is.entries i; rows = is.rows i; moment = is.moment i }))
    ∙ sym (all-noted m at es (omega (arith, within)) notes))
