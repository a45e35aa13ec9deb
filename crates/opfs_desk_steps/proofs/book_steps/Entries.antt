-- A state has counted the entries of its history, also where the last group is not whole.
use Rattle.std.proofs.Common.{◌≡◌, ℕ, ◌+◌, ◌<◌, ◌^◌, suc, List, [], ◌∷◌, ◌++◌, map, fold, length, Option, Some, None, sym, ap, subst, ◌∙◌, arith}
use Rattle.std.specs.Prelude.{IsTrue}
use Rattle.std.proofs.lemmas.List.{length-map}
use Rattle.std.proofs.lemmas.List.Sums.{fold-append}
use Rattle.opfs_base.specs.Texts.{Text}
use Rattle.opfs_books.specs.Laws.Books.{IsToldAt}
use Rattle.opfs_hist.specs.declared.entry.Entry.{Entry}
use Rattle.opfs_laws.specs.Histories.Opened.{LegalTo}
use Rattle.opfs_laws.specs.Histories.Unread.{unread_entry}
use Rattle.opfs_laws.proofs.Acting.{changed-acts}
use Rattle.opfs_laws.proofs.Numbers.{number-of}
use Rattle.opfs_laws.proofs.OwnKept.{evicted-agents}
use Rattle.opfs_laws.specs.Lengths.Outlines.{in_lengths_of}
use Rattle.opfs_machine.specs.declared.own.Own.{Own}
use Rattle.opfs_machine.specs.declared.state.State.{State}
use Rattle.opfs_machine.specs.Agents.{agent_in}
use Rattle.opfs_machine.specs.Histories.{evicted_by, IsEviction, IsCall}
use Rattle.opfs_machine.specs.Openings.{Opening, begun}
use Rattle.opfs_machine.specs.Steps.{evicted, after_reply}
use Rattle.opfs_space.specs.Room.{Machine}

abbrev StepTo : State Text Own → List Text → Entry → List Entry → State Text Own → List Text → Option Text → Type 0
StepTo s gone e es base last told =
    elim told [
      | Some unit ↦ IsEviction unit e × LegalTo s (gone ++ unit ∷ []) es base last
      | None ↦ IsCall s gone e × LegalTo (after_reply (fold evicted s gone) e.agent e.op e.reply) [] es base last
    ]

plus-none : (n : ℕ) → n ≡ n + 0
plus-none n = omega arith

one-more : (n m : ℕ) → n + 1 + m ≡ n + suc m
one-more n m = omega arith

entries-from : (s : State Text Own) (gone : List Text) (es : List Entry) (base : State Text Own) (last : List Text) → LegalTo s gone es base last → (fold evicted base last).entries ≡ (fold evicted s gone).entries + length es
entries-from s gone [] base last legal = sym (λ i. (fold evicted (legal.0 i) (legal.1 i)).entries) ∙ plus-none ((fold evicted s gone).entries)
entries-from s gone (e ∷ es) base last legal =
    elim (evicted_by e.op) as (λ told. StepTo s gone e es base last told → (fold evicted base last).entries ≡ (fold evicted s gone).entries + suc (length es)) [
      | Some unit ↦ λ next.
          entries-from s (gone ++ unit ∷ []) es base last next.1
          ∙ ap (λ (x : State Text Own). x.entries + length es) (fold-append evicted s gone (unit ∷ []))
          ∙ one-more ((fold evicted s gone).entries) (length es)
      | None ↦ λ next.
          let t = fold evicted s gone in
          let number = number-of t e.agent (subst (λ agents. IsTrue (agent_in agents e.agent).live) (sym (evicted-agents gone s)) next.0.live) in
          entries-from (after_reply t e.agent e.op e.reply) [] es base last next.1
          ∙ ap (λ n. n + 1 + length es) (changed-acts t e.agent number e.op e.reply).entries
          ∙ one-more (t.entries) (length es)
    ] legal

limits-from : (s : State Text Own) (gone : List Text) (es : List Entry) (base : State Text Own) (last : List Text) → LegalTo s gone es base last → (fold evicted base last).limits ≡ (fold evicted s gone).limits
limits-from s gone [] base last legal = sym (λ i. (fold evicted (legal.0 i) (legal.1 i)).limits)
limits-from s gone (e ∷ es) base last legal =
    elim (evicted_by e.op) as (λ told. StepTo s gone e es base last told → (fold evicted base last).limits ≡ (fold evicted s gone).limits) [
      | Some unit ↦ λ next.
          limits-from s (gone ++ unit ∷ []) es base last next.1
          ∙ ap (λ (x : State Text Own). x.limits) (fold-append evicted s gone (unit ∷ []))
      | None ↦ λ next.
          let t = fold evicted s gone in
          let number = number-of t e.agent (subst (λ agents. IsTrue (agent_in agents e.agent).live) (sym (evicted-agents gone s)) next.0.live) in
          limits-from (after_reply t e.agent e.op e.reply) [] es base last next.1
          ∙ (changed-acts t e.agent number e.op e.reply).limits
    ] legal

same-length : (h real : List Entry) → map unread_entry h ≡ map unread_entry real → length real ≡ length h
same-length h real alike = sym (length-map real unread_entry) ∙ sym (ap length alike) ∙ length-map h unread_entry

pub entries-told : (tells : Type 0) (o : Opening) (h : List Entry) (base : State Text Own) (gone : List Text) → IsToldAt tells o h base gone → (fold evicted base gone).entries ≡ length h
entries-told tells o h base gone t =
    entries-from (begun o) [] t.real base gone t.opened
    ∙ ap (λ n. 0 + n) (same-length h t.real t.alike)
    ∙ zero-plus (length h)
  where
    zero-plus : (n : ℕ) → 0 + n ≡ n
    zero-plus n = omega arith

-- And the limits are those of the opening.
pub limits-are : (tells : Type 0) (o : Opening) (h : List Entry) (base : State Text Own) (gone : List Text) (m : Machine) → IsToldAt tells o h base gone → m ≡ in_lengths_of (fold evicted base gone) → m.limits ≡ o.limits
limits-are tells o h base gone m t machine = ap (λ (x : Machine). x.limits) machine ∙ limits-from (begun o) [] t.real base gone t.opened

pub entries-are : (tells : Type 0) (o : Opening) (h : List Entry) (base : State Text Own) (gone : List Text) (m : Machine) → IsToldAt tells o h base gone → m ≡ in_lengths_of (fold evicted base gone) → m.entries ≡ length h
entries-are tells o h base gone m t machine = ap (λ (x : Machine). x.entries) machine ∙ entries-told tells o h base gone t

-- So a state in lengths has room for one more, and for as many more as a history may have.
pub entries-few : (tells : Type 0) (o : Opening) (h : List Entry) (base : State Text Own) (gone : List Text) (m : Machine) → IsToldAt tells o h base gone → m ≡ in_lengths_of (fold evicted base gone) → length h < 2 ^ 34 → m.entries + 1 < 2 ^ 64
entries-few tells o h base gone m t machine short =
    let count = entries-are tells o h base gone m t machine in
    omega (arith, count, short)
