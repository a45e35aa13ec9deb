-- Steps that texts tell, and what is read one after another.
use Rattle.std.proofs.Common.{◌≡◌, ℕ, ◌+◌, List, [], ◌∷◌, ◌++◌, length, Option, Some, None, option_map, Ok, Err, refl, sym, ap, ◌∙◌, arith}
use Rattle.std.specs.Prelude.{⊤, codes}
use Rattle.serde_json.specs.Data.{Data}
use Rattle.opfs_base.specs.Texts.{Text}
use Rattle.opfs_hist.specs.declared.op.Word.{Word}
use Rattle.opfs_script.specs.declared.refusal.ScriptRefusal.TheVariants as refused
use Rattle.opfs_script.specs.declared.step.Step.{Step}
use Rattle.opfs_script.specs.Limits.{bytes_asked}
use Rattle.opfs_script.specs.Members.{text}
use Rattle.opfs_script.specs.Reading.{Read, after, each_from, if_known, if_shaped, json_of, step_of, ◌>>=◌}
use Rattle.opfs_script.specs.Shapes.{shaped}
use Rattle.opfs_script.specs.Words.{word_named}
use Rattle.opfs_script_kept.specs.Packed.Telling.{before, step_told, steps_told, told_by, unless_refused}

-- ---- a step is the same whatever its numbers

if-shaped : (a n b m : ℕ) (o : Option Step) (s : Step) → if_shaped a n o ≡ Ok s → if_shaped b m o ≡ Ok s
if-shaped a n b m None s e = absurd (cc)
if-shaped a n b m (Some t) s e = e

if-known : (a n b m : ℕ) (d : Data) (o : Option Word) (s : Step) → if_known a n d o ≡ Ok s → if_known b m d o ≡ Ok s
if-known a n b m d None s e = absurd (cc)
if-known a n b m d (Some word) s e = if-shaped a n b m (shaped word d) s e

abbrev if_named : ℕ → ℕ → Data → Option Text → Read Step
if_named a n d o = elim o [ None ↦ Err (refused.BadShape a n) | Some name ↦ if_known a n d (word_named name) ]

if-named : (a n b m : ℕ) (d : Data) (o : Option Text) (s : Step) → if_named a n d o ≡ Ok s → if_named b m d o ≡ Ok s
if-named a n b m d None s e = absurd (cc)
if-named a n b m d (Some name) s e = if-known a n b m d (word_named name) s e

pub whatever-numbers : (a n b m : ℕ) (d : Data) (s : Step) → step_of a n d ≡ Ok s → step_of b m d ≡ Ok s
unfolding step_of
whatever-numbers a n b m d s e = if-named a n b m d (text (codes "do") d) s e

-- ---- a step that a value is

pub not-refused : {A : Type 0} (r : Read A) (x : A) → unless_refused r ≡ Some x → r ≡ Ok x
not-refused (Ok y) x e = ap (λ o. elim o [ None ↦ Ok y | Some z ↦ Ok z ]) e
not-refused (Err why) x e = absurd (cc)

pub some-asked : (o : Option Step) (n : ℕ) → Some n ≡ option_map bytes_asked o → (s : Step) × (o ≡ Some s) × (n ≡ bytes_asked s)
some-asked None n e = absurd (cc)
some-asked (Some s) n e = (s, refl, ap (λ o. elim o [ None ↦ n | Some k ↦ k ]) e)

pub text-told : (t : Text) (d : Data) (s : Step) → json_of t ≡ Some d → told_by (Some d) ≡ Some s → step_told t ≡ Some s
unfolding step_told
text-told t d s is told = ap told_by is ∙ told

-- ---- one value more

abbrev ok_or : {A : Type 0} → A → Read A → A
ok_or x (Ok y) = y
ok_or x (Err why) = x

module _ {A B : Type 0} (one : ℕ → B → Read A) where
  each-push-at : (n : ℕ) (w : B) (vs : List B) (v : B) (xs : List A) (x : A) (r : Read A) (more : Read (List A)) → one n w ≡ r → each_from one (n + 1) vs ≡ more
      → ((ys : List A) → each_from one (n + 1) vs ≡ Ok ys → each_from one (n + 1) (vs ++ v ∷ []) ≡ Ok (ys ++ x ∷ []))
      → (r >>= λ y. after (y ∷ []) more) ≡ Ok xs → (one n w >>= λ y. after (y ∷ []) (each_from one (n + 1) (vs ++ v ∷ []))) ≡ Ok (xs ++ x ∷ [])
  each-push-at n w vs v xs x (Err why) more first rest on e = absurd (cc)
  each-push-at n w vs v xs x (Ok y) (Err why) first rest on e = absurd (cc)
  each-push-at n w vs v xs x (Ok y) (Ok ys) first rest on e =
      ap (λ r. r >>= λ y. after (y ∷ []) (each_from one (n + 1) (vs ++ v ∷ []))) first
      ∙ ap (after (y ∷ [])) (on ys rest)
      ∙ ap (λ done. Ok (done ++ x ∷ [])) (ap (ok_or xs) e)

  pub each-push : (n : ℕ) (vs : List B) (v : B) (xs : List A) (x : A) → each_from one n vs ≡ Ok xs → one (n + length vs) v ≡ Ok x → each_from one n (vs ++ v ∷ []) ≡ Ok (xs ++ x ∷ [])
  each-push n [] v xs x all last =
      let same : n + 0 ≡ n = omega arith in
      let none : [] ≡ xs = ap (ok_or xs) all in
      ap (λ k. one k v >>= λ y. after (y ∷ []) (Ok [])) (sym same) ∙ ap (λ r. r >>= λ y. after (y ∷ []) (Ok [])) last ∙ ap (λ done. Ok (done ++ x ∷ [])) none
  each-push n (w ∷ vs) v xs x all last =
      let moved : n + 1 + length vs ≡ n + length (w ∷ vs) = omega arith in
      each-push-at n w vs v xs x (one n w) (each_from one (n + 1) vs) refl refl
      (λ ys rest. each-push (n + 1) vs v ys x rest (ap (λ k. one k v) moved ∙ last)) all

-- ---- each text tells a step

abbrev pub Tells : List Text → List Step → Type 0
Tells [] [] = ⊤
Tells [] (s ∷ steps) = ⊥
Tells (t ∷ texts) [] = ⊥
Tells (t ∷ texts) (s ∷ steps) = (step_told t ≡ Some s) × Tells texts steps

pub tells-told : (texts : List Text) (steps : List Step) → Tells texts steps → steps_told texts ≡ steps
tells-told [] [] tells = refl
tells-told [] (s ∷ steps) tells = absurd tells
tells-told (t ∷ texts) [] tells = absurd tells
tells-told (t ∷ texts) (s ∷ steps) tells = ap (λ o. before o (steps_told texts)) tells.0 ∙ ap (λ more. s ∷ more) (tells-told texts steps tells.1)

pub tells-push : (texts : List Text) (steps : List Step) (t : Text) (s : Step) → Tells texts steps → step_told t ≡ Some s → Tells (texts ++ t ∷ []) (steps ++ s ∷ [])
tells-push [] [] t s tells told = (told, tt)
tells-push [] (u ∷ steps) t s tells told = absurd tells
tells-push (u ∷ texts) [] t s tells told = absurd tells
tells-push (u ∷ texts) (v ∷ steps) t s tells told = (tells.0, tells-push texts steps t s tells.1 told)
