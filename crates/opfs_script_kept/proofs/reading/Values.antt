-- The values of an array, one after another.
use Rattle.std.proofs.Common.{◌≡◌, ℕ, ◌-◌, ◌<◌, ◌≤◌, List, [], ◌∷◌, ◌++◌, length, Option, Some, None, option_and_then, refl, ap, ◌∙◌, arith}
use Rattle.json.specs.Token.{Token}
use Rattle.json.specs.Lex.{tokens}
use Rattle.json.specs.Json as json
use Rattle.json.specs.Json.{after_end_array, document, if_last, items, parse_map, value}
use Rattle.json.proofs.Grammar.{after_end_array-shorter}
use Rattle.json.proofs.Found.{not_found, one_reading, Some_inj}
use Rattle.serde_json.specs.Data.{Data, Items, no_items, item}
use Rattle.serde_json.specs.Read.{converted, of_items, of_json, read}
use Rattle.serde_json.specs.View.{items_of}
use Rattle.opfs_script_kept.proofs.reading.Grammar.{item-read, items-over}
use Rattle.opfs_script_kept.specs.Reading.Values.{AreValues, IsValue}

-- ---- a value that was read and written, and read again

last : (o : Option (json.Json × List Token)) (j : json.Json) → option_and_then (λ p. if_last p.0 p.1) o ≡ Some j → o ≡ Some (j, [])
last None j e = not_found j e
last (Some (i, [])) j e = ap (λ x. Some (x, [])) (Some_inj i j e)
last (Some (i, t ∷ ts)) j e = not_found j e

whole : (o : Option (json.Json × List Token)) (d : Data) → option_and_then of_json (option_and_then (λ p. if_last p.0 p.1) o) ≡ Some d → (j : json.Json) × (o ≡ Some (j, [])) × (of_json j ≡ Some d)
whole None d e = not_found d e
whole (Some (i, [])) d e = (i, refl, e)
whole (Some (i, t ∷ ts)) d e = not_found d e

-- What a text is as a tree and as data agree.
pub same-value : (text : List ℕ) (j : json.Json) (d : Data) → document text ≡ Some j → read text ≡ Some d → of_json j ≡ Some d
same-value text j d tree seen =
    let other = whole (value 127 (tokens text)) d seen in
    let same = one_reading 128 127 (tokens text) (j, []) (other.0, []) (last (value 128 (tokens text)) j tree) other.1 in
    ap of_json (ap (λ p. p.0) (Some_inj (j, []) (other.0, []) same)) ∙ other.2

pub value-read : (depth : ℕ) (old new : List Token) (j : json.Json) (d : Data) → value depth old ≡ Some (j, new) → of_json j ≡ Some d → IsValue depth old d new
value-read depth old new j d tree seen = ap (converted of_json) tree ∙ rw seen

-- ---- values before others

abbrev pub before : List Data → Items → Items
before [] rest = rest
before (d ∷ ds) rest = item d (before ds rest)

before-end : (ds : List Data) → before ds no_items ≡ items_of ds
before-end [] = refl
before-end (d ∷ ds) = ap (item d) (before-end ds)

before-push : (ds : List Data) (d : Data) (rest : Items) → before ds (item d rest) ≡ before (ds ++ d ∷ []) rest
before-push [] d rest = refl
before-push (e ∷ ds) d rest = ap (item e) (before-push ds d rest)

one-more : (ds : List Data) (d : Data) (o : Option (Items × List Token)) → parse_map (before ds) (parse_map (item d) o) ≡ parse_map (before (ds ++ d ∷ [])) o
one-more ds d None = refl
one-more ds d (Some p) = ap (λ more. Some (more, p.1)) (before-push ds d p.0)

none-before : (o : Option (Items × List Token)) → o ≡ parse_map (before []) o
none-before None = refl
none-before (Some p) = refl

-- These values were read of an array so far.
pub record SoFar (depth : ℕ) (first : List Token) (values : List Data) (now : List Token) : Type 0 where
  pub left : ℕ
  pub enough : length now ≤ left
  pub within : length now ≤ length first
  pub tokens : converted of_items (items (value depth) (length first) first) ≡ parse_map (before values) (converted of_items (items (value depth) left now))

pub none-so-far : (depth : ℕ) (first : List Token) → SoFar depth first [] first
none-so-far depth first = record { left = length first; enough = omega arith; within = omega arith; tokens = none-before (converted of_items (items (value depth) (length first) first)) }

pub one-more-so-far : (depth : ℕ) (first : List Token) (values : List Data) (now new : List Token) (d : Data) → SoFar depth first values now → after_end_array now ≡ None
    → IsValue depth now d new → length new < length now → SoFar depth first (values ++ d ∷ []) new
one-more-so-far depth first values now new d far going is less =
    let enough = far.enough in
    let within = far.within in
    let some : 0 < far.left = omega (arith, enough, less) in
    record {
      left = far.left - 1;
      enough = omega (arith, enough, less);
      within = omega (arith, within, less);
      tokens = far.tokens ∙ ap (parse_map (before values)) (item-read (value depth) far.left now new d some going is)
          ∙ one-more values d (converted of_items (items (value depth) (far.left - 1) new));
    }

pub all-so-far : (depth : ℕ) (first : List Token) (values : List Data) (now new : List Token) → SoFar depth first values now → after_end_array now ≡ Some new → AreValues depth first values new
all-so-far depth first values now new far closed =
    far.tokens ∙ ap (parse_map (before values)) (items-over (value depth) far.left now new far.enough closed) ∙ ap (λ ds. Some (ds, new)) (before-end values)

pub shorter-so-far : (depth : ℕ) (first : List Token) (values : List Data) (now new : List Token) → SoFar depth first values now → after_end_array now ≡ Some new → length new < length first
shorter-so-far depth first values now new far closed =
    let within = far.within in
    omega (arith, within, after_end_array-shorter now new closed)
