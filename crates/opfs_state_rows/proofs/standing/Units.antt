-- Texts of units that are the same or not.
use Rattle.std.proofs.Common.{◌≡◌, true, false, sym, ◌∙◌, inl, inr}
use Rattle.std.proofs.lemmas.Bool.{cases_Bool}
use Rattle.std.specs.Cmp.Lexicographic.{same_text as equal_texts, bytes_decides}
use Rattle.opfs_base.specs.Texts.{Text, same_text}

pub same_unit : (a b : Text) → same_text a b ≡ true → a ≡ b
same_unit a b told = equal_texts a b (sym told)

pub unit_itself : (a b : Text) → a ≡ b → same_text a b ≡ true
unit_itself a b same = (bytes_decides a b).1 same

true_false : true ≡ false → ⊥
true_false h = cc

pub apart_back : (a b : Text) → same_text a b ≡ false → same_text b a ≡ false
apart_back a b apart = elim (cases_Bool (same_text b a)) [
  | inl same ↦ absurd (true_false (sym (unit_itself a b (sym (same_unit b a same))) ∙ apart))
  | inr other ↦ other
]
