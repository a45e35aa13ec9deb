-- The evictions at the front of a transcript, while they are counted.
use Rattle.std.proofs.Common.{◌≡◌, ◌+◌, ◌-◌, ◌==◌, ◌&&◌, ◌<◌, ℕ, Bool, true, false, not, List, [], ◌∷◌, ◌++◌, append_assoc, drop, length, map, codes, nat_lt, Option, Some, None, option_map, refl, sym, ap, ◌∙◌, arith}
use Rattle.std.proofs.lemmas.Bool.{false≢true, and_parts, lt-ltb, ltb-true}
use Rattle.std.proofs.lemmas.Bool.Decides.{nat_tests}
use Rattle.std.proofs.Math.Seq.{drop-append-add}
use Rattle.std.proofs.lemmas.List.{length-append, length-drop}
use Rattle.std.proofs.lemmas.List.Elements.{All-head, All-tail}
use Rattle.opfs_base.specs.Texts.{Text}
use Rattle.opfs_machine.specs.Runs.{eviction}
use Rattle.opfs_print.specs.Lines.{text_of}
use Rattle.opfs_transcripts.specs.Told.Goings.{has_no}
use Rattle.opfs_transcripts.specs.Told.Reading.{begins}
use Rattle.opfs_transcripts.specs.Told.Turns.{AreLines}
use Rattle.opfs_transcripts.proofs.told.Fixing.{unit-line}
use Rattle.opfs_judge.specs.Fronts.{first_line, after_eviction, is_other, IsScanned}

-- So many evictions are read, and the rest has the others.
pub record Left (text rest : Text) (count : ℕ) (units : List Text) (x : Text) : Type 0 where
  pub more : List Text
  pub lines : AreLines more
  pub is : rest ≡ text_of (map eviction more) ++ x
  pub counted : length units ≡ count + length more
  pub sized : length text ≡ length (text_of (map eviction units)) + length x

abbrev pub Scanning : Text → Text → ℕ → Type 0
Scanning text rest count = (units : List Text) (x : Text) → AreLines units → is_other x ≡ true → text ≡ text_of (map eviction units) ++ x → Left text rest count units x

pub scanning-first : (text : Text) → Scanning text text 0
scanning-first text units x lines other is = record {
  more = units;
  lines = lines;
  is = is;
  counted = omega arith;
  sized = ap length is ∙ length-append (text_of (map eviction units)) x;
}

-- ---- one eviction more

line-first : (line more : Text) → has_no 10 line ≡ true → first_line (line ++ 10 ∷ more) ≡ line
line-first [] more h = refl
line-first (c ∷ line) more h =
    elim (c == 10) as (λ b. (c == 10) ≡ b → (not b && has_no 10 line) ≡ true → (elim b as (λ x. Text) [ true ↦ [] | false ↦ c ∷ first_line (line ++ 10 ∷ more) ]) ≡ c ∷ line) [
      | true ↦ λ is t. absurd (false≢true t)
      | false ↦ λ is t. ap (λ x. c ∷ x) (line-first line more t)
    ] refl h

behind : (line more : Text) → drop (length line + 1) (line ++ 10 ∷ more) ≡ more
behind line more = drop-append-add line (10 ∷ more) 1

shorter : (line more : Text) → nat_lt (length line) (length (line ++ 10 ∷ more)) ≡ true
shorter line more = lt-ltb (length line) (length (line ++ 10 ∷ more)) (let both = length-append line (10 ∷ more) in omega (arith, both))

abbrev read_by : Text → Bool → Text → Option Text
read_by line b text = elim (nat_lt (length line) (length text) && b) [ true ↦ Some (drop (length line + 1) text) | false ↦ None ]

eviction-read : (unit more : Text) → has_no 10 unit ≡ true → after_eviction (codes "evict " ++ (unit ++ 10 ∷ more)) ≡ Some more
eviction-read unit more h =
    let line = codes "evict " ++ unit in
    let text = line ++ 10 ∷ more in
    let read : read_by (first_line text) true text ≡ Some more =
    ap (λ l. read_by l true text) (line-first line more h)
    ∙ ap (λ b. elim (b && true) as (λ x. Option Text) [ true ↦ Some (drop (length line + 1) text) | false ↦ None ]) (shorter line more)
    ∙ ap (λ t. Some t) (behind line more) in
    read

other-read : (x : Text) → is_other x ≡ true → after_eviction x ≡ None
other-read [] h = refl
other-read (c ∷ cs) h = ap (λ b. read_by (first_line (c ∷ cs)) b (c ∷ cs)) (not-begun c cs h) ∙ neither (nat_lt (length (first_line (c ∷ cs))) (length (c ∷ cs))) (drop (length (first_line (c ∷ cs)) + 1) (c ∷ cs))
  where
    neither : (b : Bool) (t : Text) → (elim (b && false) as (λ x. Option Text) [ true ↦ Some t | false ↦ None ]) ≡ None
    neither true t = refl
    neither false t = refl

    not-begun : (c : ℕ) (cs : Text) → not (c == 101) ≡ true → begins (codes "evict ") (c ∷ cs) ≡ false
    not-begun c cs h = ap (λ b. b && begins (codes "vict ") cs) (apart c h)
      where
        apart : (c : ℕ) → not (c == 101) ≡ true → (101 == c) ≡ false
        apart c h = grind (arith, nat_tests)

none-some : {t : Text} → None ≡ Some t → ⊥
none-some h = cc

same-some : (a b : Text) → Some a ≡ Some b → a ≡ b
same-some a b h = cc

step-on : (text rest next : Text) (count : ℕ) (units : List Text) (x : Text) → is_other x ≡ true → Left text rest count units x → after_eviction rest ≡ Some next → Left text next (count + 1) units x
step-on text rest next count units x other h is = by h.more h.lines h.is h.counted
  where
    by : (more : List Text) → AreLines more → rest ≡ text_of (map eviction more) ++ x → length units ≡ count + length more → Left text next (count + 1) units x
    by [] lines at counted = absurd (none-some (sym (other-read x other) ∙ ap after_eviction (sym at) ∙ is))
    by (unit ∷ more) lines at counted =
        let behind_it = text_of (map eviction more) ++ x in
        let line = All-head (λ u. has_no 10 u ≡ true) unit more lines in
        let whole : rest ≡ codes "evict " ++ (unit ++ 10 ∷ behind_it) =
        at ∙ append_assoc (codes "evict " ++ (unit ++ codes "\n")) (text_of (map eviction more)) x ∙ unit-line unit behind_it in
        record {
          more = more;
          lines = All-tail (λ u. has_no 10 u ≡ true) unit more lines;
          is = sym (same-some behind_it next (sym (eviction-read unit behind_it line) ∙ ap after_eviction (sym whole) ∙ is));
          counted = omega (arith, counted);
          sized = h.sized;
        }

pub scanning-next : (text rest next : Text) (count : ℕ) → Scanning text rest count → after_eviction rest ≡ Some next → Scanning text next (count + 1)
scanning-next text rest next count h is units x lines other at = step-on text rest next count units x other (h units x lines other at) is

done-by : (text rest : Text) (count : ℕ) (units : List Text) (x : Text) → Left text rest count units x → after_eviction rest ≡ None
    → ◌≡◌ {A = ℕ × ℕ} (count, length text - length rest) (length units, length (text_of (map eviction units)))
done-by text rest count units x h none = by h.more h.lines h.is h.counted
  where
    by : (more : List Text) → AreLines more → rest ≡ text_of (map eviction more) ++ x → length units ≡ count + length more
        → ◌≡◌ {A = ℕ × ℕ} (count, length text - length rest) (length units, length (text_of (map eviction units)))
    by [] lines at counted =
        let many : count ≡ length units = omega (arith, counted) in
        let rest_is = ap length at in
        let sized = h.sized in
        let long : length text - length rest ≡ length (text_of (map eviction units)) = omega (arith, rest_is, sized) in
        λ i. (many i, long i)
    by (unit ∷ more) lines at counted =
        let behind_it = text_of (map eviction more) ++ x in
        let line = All-head (λ u. has_no 10 u ≡ true) unit more lines in
        let whole : rest ≡ codes "evict " ++ (unit ++ 10 ∷ behind_it) =
        at ∙ append_assoc (codes "evict " ++ (unit ++ codes "\n")) (text_of (map eviction more)) x ∙ unit-line unit behind_it in
        absurd (none-some (sym none ∙ ap after_eviction whole ∙ eviction-read unit behind_it line))

pub scanning-done : (text rest : Text) (count : ℕ) → Scanning text rest count → after_eviction rest ≡ None → IsScanned text (count, length text - length rest)
scanning-done text rest count h none units x lines other at = done-by text rest count units x (h units x lines other at) none

-- One line less is left.
pub shorter-rest : (rest next : Text) → after_eviction rest ≡ Some next → length next < length rest
shorter-rest rest next is =
    elim (nat_lt (length (first_line rest)) (length rest) && begins (codes "evict ") rest) as (λ b. (nat_lt (length (first_line rest)) (length rest) && begins (codes "evict ") rest) ≡ b
    → (elim b as (λ x. Option Text) [ true ↦ Some (drop (length (first_line rest) + 1) rest) | false ↦ None ]) ≡ Some next → length next < length rest) [
      | true ↦ λ both some.
          let long = ltb-true (length (first_line rest)) (length rest) (and_parts (nat_lt (length (first_line rest)) (length rest)) (begins (codes "evict ") rest) both).0 in
          let left = length-drop (length (first_line rest) + 1) rest in
          let same = ap length (same-some (drop (length (first_line rest) + 1) rest) next some) in
          omega (arith, long, left, same)
      | false ↦ λ neither none. absurd (none-some none)
    ] refl is

-- An option of a slice, and what is seen of it.
pub seen-some : {A B : Type 0} (f : A → B) (o : Option A) (a : A) (b : Option B) → o ≡ Some a → option_map f o ≡ b → b ≡ Some (f a)
seen-some f o a b is told = sym told ∙ ap (option_map f) is

pub seen-none : {A B : Type 0} (f : A → B) (o : Option A) (b : Option B) → o ≡ None → option_map f o ≡ b → b ≡ None
seen-none f o b is told = sym told ∙ ap (option_map f) is
