-- Behind a call that stored something nothing is in doubt.
use Rattle.std.proofs.Common.{◌≡◌, ℕ, ◌+◌, ◌-◌, ◌<◌, ◌≤◌, zero, suc, Bool, true, false, if◌then◌else◌, List, [], ◌∷◌, ◌++◌, map, fold, length, take, drop, Option, Some, None, refl, sym, ap, ◌∙◌, inl, inr, append_assoc, arith}
use Rattle.std.proofs.lemmas.Bool.{cases_lt, true≢false}
use Rattle.std.proofs.lemmas.List.{length-append, take-append-drop, take-append-le, take_all}
use Rattle.opfs_base.specs.Texts.{Text}
use Rattle.opfs_books.specs.Laws.Fronts.{IsRecent}
use Rattle.opfs_hist.specs.Faults.{is_disk_fault}
use Rattle.opfs_hist.specs.declared.entry.Entry.{Entry}
use Rattle.opfs_hist.specs.declared.reply.Reply.{Reply}
use Rattle.opfs_hist.specs.declared.reply.Reply.TheVariants as reply
use Rattle.opfs_laws.specs.Histories.Doubts.{doubt_from, doubted, faulted, next_stored}
use Rattle.opfs_laws.specs.Histories.Opened.{added}
use Rattle.opfs_laws.proofs.histories.Adding.{changes-append}
use Rattle.opfs_machine.specs.declared.own.Own.{Own}
use Rattle.opfs_machine.specs.declared.state.State.{State}
use Rattle.opfs_machine.specs.Changes.{Change, changes, changes_from, entry_changes, stored_by}
use Rattle.opfs_machine.specs.Histories.{evicted_by, state_after}
use Rattle.opfs_machine.specs.Openings.{Opening, begun}
use Rattle.opfs_machine.specs.Runs.{eviction}
use Rattle.opfs_machine.specs.Steps.{after_reply, evicted, is_refusal, step}

-- ---- places

some-same : (m n : ℕ) → ◌≡◌ {A = Option ℕ} (Some m) (Some n) → m ≡ n
some-same m n is = cc

-- The last entry.
pub recent-last : (o : Opening) (h : List Entry) → 0 < length h → IsRecent o h (Some (length h - 1))
recent-last o h some = record {
  inside = λ n is. let same = some-same (length h - 1) n is in omega (arith, same, some);
  last = λ n is. let same = some-same (length h - 1) n is in ap (changes o) (take_all (n + 1) h (omega (arith, same, some)));
}

pub recent-none : (o : Opening) (h : List Entry) → IsRecent o h None
recent-none o h = record { inside = λ n is. absurd cc; last = λ n is. absurd cc }

-- The place of a doubt, if there is one.
pub recent-if : (b : Bool) (o : Opening) (h : List Entry) (place : Option ℕ) → IsRecent o h place → IsRecent o h (if b then place else None)
recent-if true o h place recent = recent
recent-if false o h place recent = recent-none o h

-- ---- in a call's group

fault-none : (s : State Text Own) (gone : List Text) (e : Entry) → is_disk_fault e.reply ≡ false → faulted s gone e ≡ []
fault-none s gone e fine = ap (λ (b : Bool). elim b as (λ y. List Change) [ true ↦ next_stored (drop (length gone) (step s e.agent e.op).victims) (stored_by (fold evicted s gone) e.agent e.op) | false ↦ [] ]) fine

in-group : (units : List Text) (e : Entry) (s : State Text Own) (gone : List Text) (place : ℕ) → is_disk_fault e.reply ≡ false → doubt_from s gone (map eviction units ++ e ∷ []) place ≡ []
in-group [] e s gone zero fine = elim (evicted_by e.op) as (λ t. (elim t as (λ y. List Change) [ Some unit ↦ [] | None ↦ faulted s gone e ]) ≡ []) [
  | Some unit ↦ refl
  | None ↦ fault-none s gone e fine
]
in-group [] e s gone (suc place) fine = elim (evicted_by e.op) as (λ t. (elim t as (λ y. List Change) [ Some unit ↦ doubt_from s (gone ++ unit ∷ []) [] place | None ↦ doubt_from (after_reply (fold evicted s gone) e.agent e.op e.reply) [] [] place ]) ≡ []) [
  | Some unit ↦ refl
  | None ↦ refl
]
in-group (u ∷ us) e s gone zero fine = refl
in-group (u ∷ us) e s gone (suc place) fine = in-group us e s (gone ++ u ∷ []) place fine

behind : (xs : List Entry) (units : List Text) (e : Entry) (s : State Text Own) (gone : List Text) (place : ℕ) → length xs ≤ place → is_disk_fault e.reply ≡ false → doubt_from s gone (xs ++ (map eviction units ++ e ∷ [])) place ≡ []
behind [] units e s gone place le fine = in-group units e s gone place fine
behind (x ∷ xs) units e s gone zero le fine = absurd (omega (arith, le))
behind (x ∷ xs) units e s gone (suc place) le fine =
    elim (evicted_by x.op) as (λ t. (elim t as (λ y. List Change) [ Some unit ↦ doubt_from s (gone ++ unit ∷ []) (xs ++ (map eviction units ++ e ∷ [])) place | None ↦ doubt_from (after_reply (fold evicted s gone) x.agent x.op x.reply) [] (xs ++ (map eviction units ++ e ∷ [])) place ]) ≡ []) [
      | Some unit ↦ behind xs units e s (gone ++ unit ∷ []) place (omega (arith, le)) fine
      | None ↦ behind xs units e (after_reply (fold evicted s gone) x.agent x.op x.reply) [] place (omega (arith, le)) fine
    ]

-- ---- a front stores no more

front-less : (o : Opening) (h : List Entry) (n : ℕ) → length (changes o (take n h)) ≤ length (changes o h)
front-less o h n =
    let grown : changes o h ≡ changes o (take n h) ++ changes_from (state_after o (take n h)) (drop n h) = ap (changes o) (sym (take-append-drop n h)) ∙ changes-append (begun o) (take n h) (drop n h) in
    let long : length (changes o h) ≡ length (changes o (take n h)) + length (changes_from (state_after o (take n h)) (drop n h)) = ap (λ (xs : List Change). length xs) grown ∙ length-append (changes o (take n h)) (changes_from (state_after o (take n h)) (drop n h)) in
    omega (arith, long)

module _ (o : Opening) (h calls : List Entry) (gone : List Text) (e : Entry) (fine : is_disk_fault e.reply ≡ false) (same : changes o (h ++ calls) ≡ changes o h) (more : length (changes o h) < length (changes o (h ++ added calls gone e))) where
  group : h ++ added calls gone e ≡ (h ++ calls) ++ (map eviction gone ++ e ∷ [])
  group = sym (append_assoc h calls (map eviction gone ++ e ∷ []))

  at-place : (place : ℕ) → IsRecent o (h ++ added calls gone e) (Some place) → doubted o (h ++ added calls gone e) (Some place) ≡ []
  at-place place recent = elim (cases_lt place (length (h ++ calls))) [
    | inl lt ↦
        let front : take (place + 1) (h ++ added calls gone e) ≡ take (place + 1) (h ++ calls) = ap (λ (xs : List Entry). take (place + 1) xs) group ∙ take-append-le (place + 1) (h ++ calls) (map eviction gone ++ e ∷ []) (omega (arith, lt)) in
        let whole : length (changes o (take (place + 1) (h ++ calls))) ≡ length (changes o (h ++ added calls gone e)) = ap (λ (xs : List Entry). length (changes o xs)) (sym front) ∙ ap (λ (cs : List Change). length cs) (recent.last place refl) in
        let less = front-less o (h ++ calls) (place + 1) in
        let size = ap (λ (cs : List Change). length cs) same in
        absurd (omega (arith, whole, less, size, more))
    | inr le ↦ ap (λ (xs : List Entry). doubt_from (begun o) [] xs place) group ∙ behind (h ++ calls) gone e (begun o) [] place le fine
  ]

  -- The history has grown by a call in which the disk did not fail, and more is stored: no entry is in doubt.
  pub none-doubted : (place : Option ℕ) → IsRecent o (h ++ added calls gone e) place → doubted o (h ++ added calls gone e) place ≡ []
  none-doubted None recent = refl
  none-doubted (Some place) recent = at-place place recent

-- ---- a call that stores is not refused

no-fault : (r : Reply) → is_refusal r ≡ false → is_disk_fault r ≡ false
no-fault (reply.No x) done = absurd (true≢false done)
no-fault r done = refl

pub stored-no-fault : (s : State Text Own) (e : Entry) (change : Change) → entry_changes s e ≡ change ∷ [] → is_disk_fault e.reply ≡ false
stored-no-fault s e change stored =
    elim (is_refusal e.reply) as (λ t. is_refusal e.reply ≡ t → (elim t as (λ y. List Change) [ true ↦ [] | false ↦ stored_by s e.agent e.op ]) ≡ change ∷ [] → is_disk_fault e.reply ≡ false) [
      | true ↦ λ is none. absurd (nothing change none)
      | false ↦ λ is some. no-fault e.reply is
    ] refl stored
  where
    nothing : (x : Change) → ◌≡◌ {A = List Change} [] (x ∷ []) → ⊥
    nothing x h = let long = ap (λ (cs : List Change). length cs) h in omega (arith, long)
