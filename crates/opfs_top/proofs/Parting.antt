-- What stands before the first 0 of a text, and behind it.
use Rattle.std.proofs.Common.{◌≡◌, ◌+◌, ◌==◌, ◌-◌, ℕ, suc, true, false, [], ◌∷◌, drop, take, length, refl, sym, ap, ◌∙◌, arith}
use Rattle.std.proofs.lemmas.List.{drop-drop, length-drop, take_all}
use Rattle.opfs_base.specs.Texts.{Text}
use Rattle.opfs_top.specs.Doing.{script_part}

pub script-taken : (text : Text) → take (length (script_part text)) text ≡ script_part text
script-taken [] = refl
script-taken (c ∷ cs) = elim (c == 0) as (λ b. take (length (elim b as (λ x. Text) [ true ↦ [] | false ↦ c ∷ script_part cs ])) (c ∷ cs) ≡ elim b [ true ↦ [] | false ↦ c ∷ script_part cs ]) [
  | true ↦ refl
  | false ↦ ap (λ t. c ∷ t) (script-taken cs)
]

-- A text whose first byte is no 0, and one whose first byte is.
pub script-on : (c : ℕ) (cs : Text) → (c == 0) ≡ false → length (script_part (c ∷ cs)) ≡ suc (length (script_part cs))
script-on c cs is = ap (λ b. length (elim b as (λ x. Text) [ true ↦ [] | false ↦ c ∷ script_part cs ])) is

pub script-end : (c : ℕ) (cs : Text) → (c == 0) ≡ true → length (script_part (c ∷ cs)) ≡ 0
script-end c cs is = ap (λ b. length (elim b as (λ x. Text) [ true ↦ [] | false ↦ c ∷ script_part cs ])) is

pub behind-script : (n : ℕ) (text rest : Text) → rest ≡ drop n text → take (length rest - 1) (drop 1 rest) ≡ drop (n + 1) text
behind-script n text rest is =
    let short = length-drop 1 rest in
    take_all (length rest - 1) (drop 1 rest) (omega (arith, short)) ∙ ap (drop 1) is ∙ drop-drop 1 n text

none-behind : (n : ℕ) (text rest : Text) → rest ≡ drop n text → rest ≡ [] → [] ≡ drop (n + 1) text
none-behind n text rest is none = sym (ap (drop 1) (sym is ∙ none)) ∙ drop-drop 1 n text
