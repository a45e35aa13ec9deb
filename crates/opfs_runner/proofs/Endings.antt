-- Rows that end one after the other.
use Rattle.std.proofs.Common.{◌≡◌, ◌≢◌, ◌⊎◌, ℕ, suc, ◌+◌, ◌<◌, ◌≤◌, ◌||◌, Bool, true, false, not, List, [], ◌∷◌, ◌++◌, append_assoc, length, Some, Ok, refl, sym, ap, ◌∙◌, subst, inl, inr, arith}
use Rattle.std.specs.Prelude.{slice_get}
use Rattle.std.specs.List.{list_any}
use Rattle.std.proofs.lemmas.Bool.{cases_eq}
use Rattle.std.proofs.lemmas.Option.{slice_get_within}
use mathlib.Core.List.{reverse}
use Rattle.std.proofs.lemmas.List.{reverse-append}
use Rattle.opfs_hall.specs.Seen.{HallSeen, PassSeen}
use Rattle.opfs_hist.specs.Sums.{asks_for_row}
use Rattle.opfs_hist.specs.declared.entry.Entry.{Entry}
use Rattle.opfs_hist.specs.declared.op.Op.{Op}
use Rattle.opfs_hist.specs.declared.op.Op.TheVariants as op
use Rattle.opfs_hist.specs.declared.reply.Reply.TheVariants as reply
use Rattle.opfs_machine.specs.declared.own.Own.{Own}
use Rattle.opfs_machine.specs.declared.own.Own.TheVariants as own
use Rattle.opfs_machine.specs.Agents.{agent_of, is_open_row}
use Rattle.opfs_machine.specs.Contents.{outline_of}
use Rattle.opfs_machine.specs.Histories.{may_enter}
use Rattle.opfs_laws.specs.Leaving.{row_used}
use Rattle.opfs_store.specs.declared.acts.acted.Gift.{Gift}
use Rattle.opfs_store.specs.Acts.Acting.{told_entry}
use Rattle.opfs_turns.specs.Agents.{AgentSeen, IsAgent, state_of, own_row}
use Rattle.opfs_turns.specs.Calls.{call_of, IsEntered, HasEnded}
use Rattle.opfs_turns.proofs.other_rows.Leaving.{Leaves, leaves-self, leaves-entered}
use Rattle.opfs_script_run.specs.declared.runs.hand.Open.{Open}
use Rattle.opfs_script_run.specs.declared.runs.hand.Open.TheVariants as opened
use Rattle.opfs_script_run.specs.Runs.Running.{IsEnd, ending, entries_of}
use Rattle.opfs_script.specs.Scripts.{Asked}
use Rattle.opfs_runner.specs.RunLaws.Kinds.{open_rows}
use Rattle.opfs_runner.specs.AgentRows.Tables.{kinds_of, HasAgentRow, HasTable}
use Rattle.opfs_runner.specs.declared.agent_rows.agent_row.AgentRow.{AgentRow}
use Rattle.opfs_runner.specs.declared.agent_rows.agent_row.AgentRow.TheVariants as agent_row
use Rattle.opfs_runner.proofs.agent_rows.Tabled.{agent_row-stays, rows-same}
use Rattle.opfs_runner.specs.Ending.{Closes, IsEnded}
use Rattle.opfs_runner.specs.Runs.{HasEntries, HasRun, IsReady}
use Rattle.opfs_runner.specs.Stepping.{own_entries}
use Rattle.opfs_runner.proofs.Counting.{entered-own, ended-own}

-- So many rows are closed, and these are left.
pub record EndsFrom {O : Type 0} (tells : Type 0) (a : AgentSeen O) (done : ℕ) (left : List AgentRow) : Type 0 where
  pub count : done + length left ≡ a.rows
  pub shut : (n : ℕ) → n < done → (r : Own) × (own_row a (suc n) ≡ Some r) × (is_open_row (outline_of r) ≡ false)
  pub each : (i : ℕ) (s : AgentRow) → slice_get left i ≡ Some s → HasAgentRow tells a (suc (done + i)) s

pub ends-begin : {O : Type 0} (tells : Type 0) (a : AgentSeen O) (agent_rows : List AgentRow) → HasTable tells a agent_rows → EndsFrom tells a 0 agent_rows
ends-begin tells a agent_rows table = record {
  count = omega (arith, table.count);
  shut = λ n less. absurd (omega (arith, less));
  each = λ i s is. subst (λ m. HasAgentRow tells a (suc m) s) (omega arith) (table.each i s is);
}

-- The end of an open row in front of the others.
closes-more : (asked : Asked) (whole : Bool) (so_far now : List Entry) (n m : ℕ) (o : Open) (rows : List Open) (e : Entry) → Closes asked whole so_far n (o ∷ rows) → e.number ≡ n → e.op ≡ ending o
    → now ≡ so_far ++ e ∷ [] → m ≡ n + 1 → Closes asked whole now m rows
closes-more asked whole so_far now n m o rows e closes number is grown next rest end =
    subst (HasEntries asked whole) (sym (ap (λ xs. xs ++ rest) grown ∙ append_assoc so_far (e ∷ []) rest))
    (closes (e ∷ rest) (number, is, subst (λ k. IsEnd k rows rest) next end))

module _ {O : Type 0} (tells : Type 0) (a b : AgentSeen O) (kept : IsAgent tells a) (then : IsAgent tells b) (done : ℕ) (rest : List AgentRow) where
  -- A row more is closed.
  shut-more : (s : AgentRow) → EndsFrom tells a done (s ∷ rest) → Leaves tells a b (suc done) → b.rows ≡ a.rows → (r : Own) → own_row b (suc done) ≡ Some r → is_open_row (outline_of r) ≡ false
      → EndsFrom tells b (done + 1) rest
  shut-more s ends leaves rows r there closed = record {
    count = let old = ends.count in omega (arith, old, rows);
    shut = λ n less. by_place n less (n_or n);
    each = λ i t is.
        let old = ends.each (suc i) t is in
        let place : suc (done + suc i) ≡ suc ((done + 1) + i) = omega arith in
        subst (λ m. HasAgentRow tells b m t) place (agent_row-stays tells a b kept then (suc done) leaves (suc (done + suc i)) t (λ e. absurd (omega (arith, e))) old);
  }
    where
      n_or : (n : ℕ) → (n ≡ done) ⊎ (n ≢ done)
      n_or n = cases_eq n done

      by_place : (n : ℕ) → n < done + 1 → (n ≡ done) ⊎ (n ≢ done) → (x : Own) × (own_row b (suc n) ≡ Some x) × (is_open_row (outline_of x) ≡ false)
      by_place n less (inl same) = (r, ap (λ m. own_row b (suc m)) same ∙ there, closed)
      by_place n less (inr other) =
          let old = ends.shut n (omega (arith, less, other)) in
          (old.0, leaves.row (suc n) old.0 (λ e. other (omega (arith, e))) old.1, old.2)

  as-before : (s : AgentRow) → EndsFrom tells a done (s ∷ rest) → b ≡ a → (r : Own) → own_row a (suc done) ≡ Some r → is_open_row (outline_of r) ≡ false → EndsFrom tells b (done + 1) rest
  as-before s ends same r there closed =
      shut-more s ends (leaves-self tells a b (suc done) same) (ap (λ (x : AgentSeen O). x.rows) same) r (ap (λ (x : AgentSeen O). own_row x (suc done)) same ∙ there) closed

  first-row : (m : ℕ) → m ≡ suc (done + 0) → m ≡ suc done
  first-row m is = omega (arith, is)

  entered-ends : (s : AgentRow) (called : Op) (given : Gift) (n : ℕ) (r : Own) → EndsFrom tells a done (s ∷ rest) → IsEntered tells a b called reply.Done given → n ≡ suc done → row_used called ≡ n
      → asks_for_row called ≡ false → own_row b n ≡ Some r → is_open_row (outline_of r) ≡ false → EndsFrom tells b (done + 1) rest
  entered-ends s called given n r ends entered is used none there closed =
      shut-more s ends (subst (Leaves tells a b) (used ∙ is) (leaves-entered tells a b kept then called reply.Done given entered))
      (rows-same tells a b kept then called (Ok reply.Done) (inl (given, entered)) none) r (ap (own_row b) (sym is) ∙ there) closed

  pub ends-more : (s : AgentRow) → EndsFrom tells a done (s ∷ rest) → IsEnded tells a b s → EndsFrom tells b (done + 1) rest
  ends-more (agent_row.Stream w) ends h =
      let row = first-row w.row (ends.each 0 (agent_row.Stream w) refl).0 in
      entered-ends (agent_row.Stream w) (op.Abort w.row) h.1.given w.row own.ClosedStream ends h.1.entered row refl refl (ap (own_row b) (sym h.1.same) ∙ h.1.has) refl
  ends-more (agent_row.Handle x) ends h =
      let row = first-row x.row (ends.each 0 (agent_row.Handle x) refl).0 in
      entered-ends (agent_row.Handle x) (op.Discard x.row) h.1.given x.row own.ClosedHandle ends h.1.entered row refl refl (ap (own_row b) (sym h.1.same) ∙ h.1.has) refl
  ends-more (agent_row.ClosedStream c) ends same =
      let has = ends.each 0 (agent_row.ClosedStream c) refl in
      as-before (agent_row.ClosedStream c) ends same own.ClosedStream (ap (own_row a) (sym (first-row c.row has.0)) ∙ has.1) refl
  ends-more (agent_row.ClosedHandle c) ends same =
      let has = ends.each 0 (agent_row.ClosedHandle c) refl in
      as-before (agent_row.ClosedHandle c) ends same own.ClosedHandle (ap (own_row a) (sym (first-row c.row has.0)) ∙ has.1) refl
  ends-more (agent_row.Snapshot x) ends same =
      let has = ends.each 0 (agent_row.Snapshot x) refl in
      as-before (agent_row.Snapshot x) ends same (own.Snapshot has.1.bytes) (ap (own_row a) (sym (first-row x.row has.0)) ∙ has.1.there) refl
  ends-more agent_row.Gone ends same =
      let has = ends.each 0 agent_row.Gone refl in
      let place : suc done ≡ suc (done + 0) = omega arith in
      as-before agent_row.Gone ends same (own.Snapshot has.0) (ap (own_row a) place ∙ has.1) refl
  ends-more (agent_row.Iterator x) ends same =
      let has = ends.each 0 (agent_row.Iterator x) refl in
      as-before (agent_row.Iterator x) ends same (own.Iterator (record { dir = x.dir; given = x.given })) (ap (own_row a) (sym (first-row x.row has.0)) ∙ has.1.there) refl
  ends-more agent_row.Taken ends h = absurd (ends.each 0 agent_row.Taken refl)

  -- Its entries are those of the end.
  pub closes-on : (asked : Asked) (whole : Bool) (s : AgentRow) → EndsFrom tells a done (s ∷ rest) → IsEnded tells a b s → Closes asked whole (own_entries a) a.number (open_rows (done + 1) (kinds_of (s ∷ rest)))
      → Closes asked whole (own_entries b) b.number (open_rows ((done + 1) + 1) (kinds_of rest))
  closes-on asked whole (agent_row.Stream w) ends h closes =
      let row : w.row ≡ done + 1 = let has = (ends.each 0 (agent_row.Stream w) refl).0 in omega (arith, has) in
      closes-more asked whole (own_entries a) (own_entries b) a.number b.number (opened.Stream (done + 1)) (open_rows ((done + 1) + 1) (kinds_of rest)) (told_entry (call_of a (op.Abort w.row)) reply.Done) closes refl
      (ap op.Abort row) (entered-own tells a b kept (op.Abort w.row) reply.Done h.1.given h.1.entered) (ap (λ (x : AgentSeen O). x.number) h.1.entered.rest)
  closes-on asked whole (agent_row.Handle x) ends h closes =
      let row : x.row ≡ done + 1 = let has = (ends.each 0 (agent_row.Handle x) refl).0 in omega (arith, has) in
      closes-more asked whole (own_entries a) (own_entries b) a.number b.number (opened.Handle (done + 1)) (open_rows ((done + 1) + 1) (kinds_of rest)) (told_entry (call_of a (op.Discard x.row)) reply.Done) closes refl
      (ap op.Discard row) (entered-own tells a b kept (op.Discard x.row) reply.Done h.1.given h.1.entered) (ap (λ (y : AgentSeen O). y.number) h.1.entered.rest)
  closes-on asked whole (agent_row.ClosedStream c) ends same closes = subst (λ (y : AgentSeen O). Closes asked whole (own_entries y) y.number (open_rows ((done + 1) + 1) (kinds_of rest))) (sym same) closes
  closes-on asked whole (agent_row.ClosedHandle c) ends same closes = subst (λ (y : AgentSeen O). Closes asked whole (own_entries y) y.number (open_rows ((done + 1) + 1) (kinds_of rest))) (sym same) closes
  closes-on asked whole (agent_row.Snapshot x) ends same closes = subst (λ (y : AgentSeen O). Closes asked whole (own_entries y) y.number (open_rows ((done + 1) + 1) (kinds_of rest))) (sym same) closes
  closes-on asked whole agent_row.Gone ends same closes = subst (λ (y : AgentSeen O). Closes asked whole (own_entries y) y.number (open_rows ((done + 1) + 1) (kinds_of rest))) (sym same) closes
  closes-on asked whole (agent_row.Iterator x) ends same closes = subst (λ (y : AgentSeen O). Closes asked whole (own_entries y) y.number (open_rows ((done + 1) + 1) (kinds_of rest))) (sym same) closes
  closes-on asked whole agent_row.Taken ends same closes = subst (λ (y : AgentSeen O). Closes asked whole (own_entries y) y.number (open_rows ((done + 1) + 1) (kinds_of rest))) (sym same) closes

-- ---- nothing is open

any-none : {X : Type 0} (f : X → Bool) (xs : List X) → ((i : ℕ) (x : X) → slice_get xs i ≡ Some x → f x ≡ false) → list_any f xs ≡ false
any-none f [] all = refl
any-none f (x ∷ xs) all = (λ i. all 0 x refl i || any-none f xs (λ j y is. all (suc j) y is) i)

some-same : {X : Type 0} {x y : X} → Some x ≡ Some y → x ≡ y
some-same e = cc

pub ends-none : {O : Type 0} (tells : Type 0) (a : AgentSeen O) (done : ℕ) → IsAgent tells a → EndsFrom tells a done [] → may_enter (state_of a) a.pass.agent op.End ≡ true
unfolding may_enter
ends-none tells a done kept ends =
    let rows = (agent_of (state_of a) a.pass.agent).own in
    let none : list_any (λ r. is_open_row (outline_of r)) rows ≡ false = any-none (λ r. is_open_row (outline_of r)) rows (λ i x is.
    let within : i < length rows = slice_get_within rows i x is in
    let found = ends.shut i (omega (arith, within, ends.count, kept.made)) in
    ap (λ r. is_open_row (outline_of r)) (some-same (sym is ∙ found.1)) ∙ found.2) in
    ap not none

-- ---- the loop

-- What is known while the rows end.
pub record Ending {O : Type 0} (tells : Type 0) (start : AgentSeen O) (agent_rows : List AgentRow) (a : AgentSeen O) (left : List AgentRow) : Type 0 where
  pub done : ℕ
  pub ends : EndsFrom tells a done left
  pub kept : IsAgent tells a
  pub same : a.pass ≡ record start.pass { base = a.pass.base }
  pub few : a.entries + length left ≤ 60000000
  pub rows : a.rows ≤ 60000000
  pub closes : (asked : Asked) (whole : Bool) → Closes asked whole (own_entries start) start.number (open_rows 1 (kinds_of agent_rows)) → Closes asked whole (own_entries a) a.number (open_rows (done + 1) (kinds_of left))

pub ending-begins : {O : Type 0} (tells : Type 0) (a : AgentSeen O) (agent_rows : List AgentRow) → IsAgent tells a → HasTable tells a agent_rows → a.entries + length agent_rows ≤ 60000000 → Ending tells a agent_rows a agent_rows
ending-begins tells a agent_rows kept table few = record {
  done = 0;
  ends = ends-begin tells a agent_rows table;
  kept = kept;
  same = refl;
  few = few;
  rows = omega (arith, few, table.count);
  closes = λ asked whole closes. subst (λ n. Closes asked whole (own_entries a) a.number (open_rows n (kinds_of agent_rows))) (omega arith) closes;
}

-- How many entries a row's end adds, and that the pass stays.
module _ {O : Type 0} (tells : Type 0) (a b : AgentSeen O) where
  ended-few : (s : AgentRow) → IsEnded tells a b s → b.entries ≤ a.entries + 1
  ended-few (agent_row.Stream w) h = let n = ap (λ (x : AgentSeen O). x.entries) h.1.entered.rest in omega (arith, n)
  ended-few (agent_row.Handle x) h = let n = ap (λ (y : AgentSeen O). y.entries) h.1.entered.rest in omega (arith, n)
  ended-few (agent_row.ClosedStream c) same = let n = ap (λ (x : AgentSeen O). x.entries) same in omega (arith, n)
  ended-few (agent_row.ClosedHandle c) same = let n = ap (λ (x : AgentSeen O). x.entries) same in omega (arith, n)
  ended-few (agent_row.Snapshot x) same = let n = ap (λ (y : AgentSeen O). y.entries) same in omega (arith, n)
  ended-few agent_row.Gone same = let n = ap (λ (y : AgentSeen O). y.entries) same in omega (arith, n)
  ended-few (agent_row.Iterator x) same = let n = ap (λ (y : AgentSeen O). y.entries) same in omega (arith, n)
  ended-few agent_row.Taken same = let n = ap (λ (y : AgentSeen O). y.entries) same in omega (arith, n)

  as-is : b ≡ a → b.pass ≡ record a.pass { base = b.pass.base }
  as-is same = ap (λ (x : AgentSeen O). x.pass) same ∙ (λ i. record a.pass { base = (sym same i).pass.base })

  pub ended-pass : (s : AgentRow) → IsEnded tells a b s → b.pass ≡ record a.pass { base = b.pass.base }
  ended-pass (agent_row.Stream w) h = ap (λ (x : AgentSeen O). x.pass) h.1.entered.rest
  ended-pass (agent_row.Handle x) h = ap (λ (y : AgentSeen O). y.pass) h.1.entered.rest
  ended-pass (agent_row.ClosedStream c) same = as-is same
  ended-pass (agent_row.ClosedHandle c) same = as-is same
  ended-pass (agent_row.Snapshot x) same = as-is same
  ended-pass agent_row.Gone same = as-is same
  ended-pass (agent_row.Iterator x) same = as-is same
  ended-pass agent_row.Taken same = as-is same

pub ending-more : {O : Type 0} (tells : Type 0) (start a b : AgentSeen O) (agent_rows rest : List AgentRow) (s : AgentRow) → Ending tells start agent_rows a (s ∷ rest) → IsAgent tells b → IsEnded tells a b s → Ending tells start agent_rows b rest
ending-more tells start a b agent_rows rest s h then ended =
    let ends = ends-more tells a b h.kept then h.done rest s h.ends ended in
    record {
      done = h.done + 1;
      ends = ends;
      kept = then;
      same = ended-pass tells a b s ended ∙ (λ i. record (h.same i) { base = b.pass.base });
      few = let one = ended-few tells a b s ended in omega (arith, one, h.few);
      rows = let old = h.ends.count in let now = ends.count in omega (arith, old, now, h.rows);
      closes = λ asked whole closes. closes-on tells a b h.kept then h.done rest asked whole s h.ends ended (h.closes asked whole closes);
    }

-- ---- the end

pub closes-last : {O : Type 0} (tells : Type 0) (asked : Asked) (whole : Bool) (a : AgentSeen O) (es : List Entry) (e : Entry) → Closes asked whole (own_entries a) a.number [] → e.number ≡ a.number → e.op ≡ op.End
    → es ≡ own_entries a ++ e ∷ [] → HasEntries asked whole es
closes-last tells asked whole a es e closes number is grown = subst (HasEntries asked whole) (sym grown) (closes (e ∷ []) (number, is, refl))

-- ---- the list that is popped

pub pop-left : (items new : List AgentRow) (s : AgentRow) → items ≡ new ++ s ∷ [] → reverse items ≡ s ∷ reverse new
pop-left items new s is = ap reverse is ∙ reverse-append new (s ∷ [])

pub nothing-left : (items : List AgentRow) → length items ≡ 0 → reverse items ≡ []
nothing-left [] is = refl
nothing-left (s ∷ items) is = absurd (omega (arith, is))

module _ {O : Type 0} (tells : Type 0) (start a : AgentSeen O) (agent_rows : List AgentRow) where
  pub ending-first : (s : AgentRow) (rest : List AgentRow) → Ending tells start agent_rows a (s ∷ rest) → (n : ℕ) × HasAgentRow tells a n s
  ending-first s rest h = (suc (h.done + 0), h.ends.each 0 s refl)

  pub ending-none : (left : List AgentRow) → left ≡ [] → Ending tells start agent_rows a left → may_enter (state_of a) a.pass.agent op.End ≡ true
  ending-none left is h = ends-none tells a h.done h.kept (subst (EndsFrom tells a h.done) is h.ends)

  pub ending-closes : (left : List AgentRow) → left ≡ [] → Ending tells start agent_rows a left → (asked : Asked) (whole : Bool) → Closes asked whole (own_entries start) start.number (open_rows 1 (kinds_of agent_rows))
      → Closes asked whole (own_entries a) a.number []
  ending-closes left is h asked whole closes =
      subst (λ xs. Closes asked whole (own_entries a) a.number (open_rows (h.done + 1) (kinds_of xs))) is (h.closes asked whole closes)

-- The run of an agent, from its first step to its end.
pub has-run : {O : Type 0} (tells : Type 0) (of : HallSeen O) (asked : Asked) (start mid last : AgentSeen O) (pass : PassSeen O Entry) (whole : Bool) → IsReady of asked start → IsAgent tells start
    → mid.pass ≡ record start.pass { base = mid.pass.base } → last.pass ≡ record mid.pass { base = last.pass.base } → Closes asked whole (own_entries last) last.number []
    → HasEnded tells last pass → HasRun of asked start.pass.agent pass whole
has-run tells of asked start mid last pass whole ready kept one two closes ended =
    let all : pass ≡ record start.pass { base = pass.base } = ended.rest ∙ (λ i. record (two i) { base = pass.base }) ∙ (λ i. record (one i) { base = pass.base }) in
    let agent : last.pass.agent ≡ start.pass.agent = ap (λ p. p.agent) two ∙ ap (λ p. p.agent) one in
    record {
      hall = ap (λ p. p.hall) all ∙ ready.hall;
      agent_is = ap (λ p. p.agent) all;
      real = kept.real;
      ended = ap (λ p. p.ended) all ∙ ready.ended;
      idle = ap (λ p. p.busy) all ∙ kept.idle;
      entries = subst (λ k. HasEntries asked whole (entries_of k pass.base)) agent
          (closes-last tells asked whole last (entries_of last.pass.agent pass.base) (told_entry (call_of last op.End) ended.answered) closes refl refl
          (ended-own tells last pass ended (λ zero_is. kept.real (sym agent ∙ zero_is))));
    }
