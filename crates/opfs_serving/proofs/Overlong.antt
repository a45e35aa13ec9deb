-- A line that was too long: what was heard has it, where the port tells; else any line of that length will do.
use Rattle.std.proofs.Common.{◌≡◌, ℕ, suc, ◌<◌, Bool, true, false, List, [], ◌∷◌, ◌++◌, length, nat_lt, refl, sym, ap, ◌∙◌, arith}
use Rattle.std.specs.Prelude.{replicate}
use Rattle.std.proofs.lemmas.List.{length-replicate}
use Rattle.opfs_base.specs.Texts.{Text}
use Rattle.opfs_port.specs.Said.{CameIn, Said, heard, told}

filler : (most : ℕ) → (text : Text) × (most < length text)
filler most = let long = length-replicate {A = ℕ} (suc most) 0 in (replicate (suc most) 0, omega (arith, long))

if-long : (most : ℕ) (text : Text) (b : Bool) → nat_lt most (length text) ≡ b → (line : Text) × (most < length line)
if-long most text true is = (text, grind (arith, is))
if-long most text false is = filler most

is-long : (most : ℕ) (text : Text) → most < length text → (b : Bool) (is : nat_lt most (length text) ≡ b) → (if-long most text b is).0 ≡ text
unfolding if-long
is-long most text less true is = refl
is-long most text less false is = absurd (grind (arith, is, less))

-- The line that was said last, if it is long.
module _ {T : Type 0} (most : ℕ) where
  of-said : Said T → (line : Text) × (most < length line)
  of-said (heard text) = if-long most text (nat_lt most (length text)) refl
  of-said (told text at) = filler most

  last-said : List (Said T) → (line : Text) × (most < length line)
  last-said [] = filler most
  last-said (s ∷ []) = of-said s
  last-said (s ∷ t ∷ more) = last-said (t ∷ more)

  last-push : (xs : List (Said T)) (s : Said T) → last-said (xs ++ s ∷ []) ≡ of-said s
  unfolding of-said last-said
  last-push [] s = refl
  last-push (x ∷ []) s = refl
  last-push (x ∷ y ∷ ys) s = last-push (y ∷ ys) s

  pub overlong : (tells : Type 0) (old new : List (Said T)) (rest then_rest : List (List ℕ)) → (tells → (text : List ℕ) × (most < length text) × CameIn text old new rest then_rest)
      → (line : Text) × (most < length line) × (tells → new ≡ old ++ heard line ∷ [])
  unfolding of-said if-long
  overlong tells old new rest then_rest came = (
    (last-said new).0,
    (last-said new).1,
    λ b. let c = came b in
        let same : (last-said new).0 ≡ c.0 = ap (λ l. (last-said l).0) c.2.said ∙ ap (λ (x : (line : Text) × (most < length line)). x.0) (last-push old (heard c.0)) ∙ is-long most c.0 c.1 (nat_lt most (length c.0)) refl in
        c.2.said ∙ ap (λ t. old ++ heard t ∷ []) (sym same),
  )
