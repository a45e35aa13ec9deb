-- What holds of each state that a legal history reaches.
use Rattle.std.proofs.Common.{◌≡◌, ◌⊎◌, List, [], ◌∷◌, ◌++◌, fold, Option, Some, None, refl, sym, subst, inl, inr}
use Rattle.std.proofs.lemmas.List.Sums.{fold-append}
use Rattle.opfs_base.specs.Texts.{Text}
use Rattle.opfs_hist.specs.declared.entry.Entry.{Entry}
use Rattle.opfs_machine.specs.declared.own.Own.{Own}
use Rattle.opfs_machine.specs.declared.state.State.{State}
use Rattle.opfs_machine.specs.Histories.{evicted_by, IsEviction, IsCall, LegalFrom, after_op, after_entry}
use Rattle.opfs_machine.specs.Steps.{evicted, after_reply}
use Rattle.opfs_laws.proofs.Going.{NextFrom}

-- What a call with its evictions keeps.
abbrev pub IsKeptBy : (State Text Own → Type 0) → Type 0
IsKeptBy P = (s : State Text Own) (gone : List Text) (e : Entry) → IsCall s gone e → P s → P (after_reply (fold evicted s gone) e.agent e.op e.reply)

-- An entry that is an eviction, or a call after some evictions in a state that keeps what is kept.
pub record Stands (P : State Text Own → Type 0) (t : State Text Own) (e : Entry) : Type 0 where
  pub before : State Text Own
  pub gone : List Text
  pub holds : P before
  pub call : IsCall before gone e
  pub is : fold evicted before gone ≡ t

abbrev pub Found : (State Text Own → Type 0) → State Text Own → Entry → Type 0
Found P t e = ((unit : Text) × IsEviction unit e) ⊎ Stands P t e

module _ (P : State Text Own → Type 0) (kept : IsKeptBy P) where
  abbrev KeptOn : State Text Own → List Text → Entry → List Entry → Option Text → Type 0
  KeptOn s gone e es told = NextFrom s gone e es told → P s → P (fold after_entry (after_op (fold evicted s gone) e told) es)

  -- The last state keeps what each call keeps.
  pub kept-all : (s : State Text Own) (gone : List Text) (es : List Entry) → LegalFrom s gone es → P s → P (fold after_entry (fold evicted s gone) es)
  kept-all s gone [] legal h = subst (λ g. P (fold evicted s g)) (sym legal) h
  kept-all s gone (e ∷ es) legal h =
      elim (evicted_by e.op) as (KeptOn s gone e es) [
        | Some unit ↦ λ next p. subst (λ t. P (fold after_entry t es)) (fold-append evicted s gone (unit ∷ [])) (kept-all s (gone ++ unit ∷ []) es next.1 p)
        | None ↦ λ next p. kept-all (after_reply (fold evicted s gone) e.agent e.op e.reply) [] es next.1 (kept s gone e next.0 p)
      ] legal h

  abbrev FoundOn : State Text Own → List Text → Entry → List Entry → Entry → List Entry → Option Text → Type 0
  FoundOn s gone d front e rest told =
      NextFrom s gone d (front ++ e ∷ rest) told → P s → Found P (fold after_entry (after_op (fold evicted s gone) d told) front) e

  abbrev FoundAt : State Text Own → List Text → Entry → List Entry → Option Text → Type 0
  FoundAt s gone e rest told = NextFrom s gone e rest told → P s → Found P (fold evicted s gone) e

  -- What stands in a legal history.
  pub found-at : (s : State Text Own) (gone : List Text) (front : List Entry) (e : Entry) (rest : List Entry)
      → LegalFrom s gone (front ++ e ∷ rest) → P s → Found P (fold after_entry (fold evicted s gone) front) e
  found-at s gone [] e rest legal h =
      elim (evicted_by e.op) as (FoundAt s gone e rest) [
        | Some unit ↦ λ next p. inl (unit, next.0)
        | None ↦ λ next p. inr (record { before = s; gone = gone; holds = p; call = next.0; is = refl })
      ] legal h
  found-at s gone (d ∷ front) e rest legal h =
      elim (evicted_by d.op) as (FoundOn s gone d front e rest) [
        | Some unit ↦ λ next p.
            subst (λ t. Found P (fold after_entry t front) e) (fold-append evicted s gone (unit ∷ [])) (found-at s (gone ++ unit ∷ []) front e rest next.1 p)
        | None ↦ λ next p. found-at (after_reply (fold evicted s gone) d.agent d.op d.reply) [] front e rest next.1 (kept s gone d next.0 p)
      ] legal h
