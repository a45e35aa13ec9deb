-- What is so of each item so far, and of the next one; and of agents that have just begun.
use Rattle.std.proofs.Common.{◌≡◌, ℕ, ◌+◌, ◌<◌, List, [], ◌∷◌, All, length, map, flat_map, subst, refl, sym, ap, ◌∙◌, get_or, take}
use Rattle.std.proofs.lemmas.Grind.{take_at_read}
use Rattle.std.proofs.lemmas.List.Elements.{All-append, All-cons, All-nil}
use Rattle.opfs_machine.specs.declared.own.Own.{Own}
use Rattle.opfs_machine.specs.declared.state.Agent.{Agent}
use Rattle.opfs_machine.specs.Openings.{Who, agent_begun}

pub All_take_more : {A : Type 0} (P : A → Type 0) (xs : List A) (i : ℕ) (x : A) → i < length xs → x ≡ get_or xs i x
    → All P (take i xs) → P x → All P (take (i + 1) xs)
All_take_more P xs i x below is h px =
    subst (All P) (sym (take_at_read xs i x below).1)
    (All-append P (take i xs) (get_or xs i x ∷ []) h (All-cons P (get_or xs i x) [] (subst P is px) (All-nil P)))

-- Agents that have just begun have no own row.
pub no_own_rows : (who : List Who) (agents : List (Agent Own)) → agents ≡ map agent_begun who → flat_map (λ a. a.own) agents ≡ []
no_own_rows who agents is = ap (flat_map (λ a. a.own)) is ∙ none who
  where
    none : (ws : List Who) → flat_map (λ a. a.own) (map agent_begun ws) ≡ []
    none [] = refl
    none (w ∷ ws) = none ws
