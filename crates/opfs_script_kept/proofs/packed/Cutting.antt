-- A text more behind others.
use Rattle.std.proofs.Common.{◌≡◌, ◌+◌, ◌≤◌, ℕ, List, [], ◌∷◌, ◌++◌, take, drop, length, refl, ap, ap₂, ◌∙◌, arith}
use Rattle.std.proofs.lemmas.List.{take-append-le, drop-append-le, length-drop, take_all}
use Rattle.opfs_script_kept.specs.Packed.Texts.{cut, sum_of}

pub sum_of-push : (ns : List ℕ) (n : ℕ) → sum_of (ns ++ n ∷ []) ≡ sum_of ns + n
sum_of-push [] n = omega arith
sum_of-push (m ∷ ns) n = omega (arith, sum_of-push ns n)

nothing : (bytes : List ℕ) → length bytes ≡ 0 → bytes ≡ []
nothing [] none = refl
nothing (x ∷ bytes) none = absurd (omega (arith, none))

pub cut-push : (ns : List ℕ) (n : ℕ) (bytes text : List ℕ) → sum_of ns ≡ length bytes → n ≡ length text
    → cut (ns ++ n ∷ []) (bytes ++ text) ≡ cut ns bytes ++ text ∷ []
cut-push [] n bytes text all is =
    let none : bytes ≡ [] = nothing bytes (omega (arith, all)) in
    ap (λ b. take n (b ++ text) ∷ []) none ∙ ap (λ t. t ∷ []) (take_all n text (omega (arith, is)))
cut-push (m ∷ ns) n bytes text all is =
    let within : m ≤ length bytes = omega (arith, all) in
    let rest : sum_of ns ≡ length (drop m bytes) = omega (arith, all, length-drop m bytes) in
    ap₂ (λ first more. first ∷ cut (ns ++ n ∷ []) more) (take-append-le m bytes text within) (drop-append-le m bytes text within)
    ∙ ap (λ more. take m bytes ∷ more) (cut-push ns n (drop m bytes) text rest is)
