-- A record's spelling is its front and its value, and no other's begins so.
use Rattle.std.proofs.Common.{◌≡◌, ◌≢◌, ℕ, List, [], ◌∷◌, ◌++◌, length, take, drop, option_map, unwrap_or, Option, Some, None, IfSome, refl, sym, ap, ◌∙◌, append_assoc, arith}
use Rattle.std.specs.Int.{w32, to_le_bytes}
use Rattle.std.specs.List.{AllByRecursion}
use Rattle.std.proofs.lemmas.List.{append-nil, append_cancel_left, length-append, take_at, drop_at}
use Rattle.opfs_base.specs.Texts.{Text}
use Rattle.opfs_codec.proofs.FieldLemmas.{wide32}
use Rattle.opfs_kv.specs.Records.Heads.{Head, front_of, head_at, size_by}
use Rattle.opfs_kv.specs.Records.Records.{Record, IsValue, IsRecord, spelled_by, spelled, log_of}
use Rattle.opfs_kv.proofs.records.Fronts.{IsSize, head-again, some-is}

abbrev pub size_of : Record → Option ℕ
size_of r = option_map length r.value

pub front-by : (key : Text) (value : Option Text) → spelled_by key value ≡ front_of key (option_map length value) ++ unwrap_or value []
front-by key (Some value) = ap (λ (t : Text). 1 ∷ (length key ∷ t)) (sym (append_assoc key (to_le_bytes w32 (length value)) value))
front-by key None = sym (append-nil (2 ∷ (length key ∷ key)))

pub length-by : (key : Text) (value : Option Text) → length (spelled_by key value) ≡ size_by (length key) (option_map length value)
length-by key (Some value) =
    omega (arith, length-append key (to_le_bytes w32 (length value) ++ value), length-append (to_le_bytes w32 (length value)) value, wide32.len (length value))
length-by key None = omega arith

size-is : (value : Option Text) → IfSome value IsValue → IsSize (option_map length value)
size-is (Some value) h = h
size-is None h = tt

-- What begins with a record's spelling is read so.
pub head-spelled : (r : Record) (rest : Text) → IsRecord r → head_at (spelled r ++ rest) ≡ Some (r.key, size_of r)
head-spelled r rest good =
    ap (λ (t : Text). head_at (t ++ rest)) (front-by r.key r.value)
    ∙ ap head_at (append_assoc (front_of r.key (size_of r)) (unwrap_or r.value []) rest)
    ∙ head-again r.key (size_of r) (unwrap_or r.value [] ++ rest) good.0 (size-is r.value good.1)

-- ---- one record begins bytes

same-length : (a b : Option Text) → option_map length a ≡ option_map length b → length (unwrap_or a []) ≡ length (unwrap_or b [])
same-length (Some a) (Some b) e = some-is (length a) (length b) e
same-length (Some a) None e = absurd cc
same-length None (Some b) e = absurd cc
same-length None None e = refl

same-option : (a b : Option Text) → option_map length a ≡ option_map length b → unwrap_or a [] ≡ unwrap_or b [] → a ≡ b
same-option (Some a) (Some b) e is = ap Some is
same-option (Some a) None e is = absurd cc
same-option None (Some b) e is = absurd cc
same-option None None e is = refl

split-lists : (v w x y : Text) → length v ≡ length w → v ++ x ≡ w ++ y → (v ≡ w) × (x ≡ y)
split-lists v w x y long is = (
  sym (take_at v x (length w) long) ∙ ap (take (length w)) is ∙ take_at w y (length w) refl,
  sym (drop_at v x (length w) long) ∙ ap (drop (length w)) is ∙ drop_at w y (length w) refl,
)

same-head : (a b : Head) → a ≡ b → (a.0 ≡ b.0) × (a.1 ≡ b.1)
same-head a b e = (ap (λ h. h.0) e, ap (λ h. h.1) e)

fronted : (r : Record) (x : Text) → spelled r ++ x ≡ front_of r.key (size_of r) ++ (unwrap_or r.value [] ++ x)
fronted r x = ap (λ (t : Text). t ++ x) (front-by r.key r.value) ∙ append_assoc (front_of r.key (size_of r)) (unwrap_or r.value []) x

pub one-record : (a b : Record) (x y : Text) → IsRecord a → IsRecord b → spelled a ++ x ≡ spelled b ++ y → (a ≡ b) × (x ≡ y)
one-record a b x y good fine is =
    let heads = same-head (a.key, size_of a) (b.key, size_of b) (some-is (a.key, size_of a) (b.key, size_of b) (sym (head-spelled a x good) ∙ ap head_at is ∙ head-spelled b y fine)) in
    let fronts : front_of a.key (size_of a) ≡ front_of b.key (size_of b) = λ i. front_of (heads.0 i) (heads.1 i) in
    let tails : unwrap_or a.value [] ++ x ≡ unwrap_or b.value [] ++ y =
    append_cancel_left (front_of b.key (size_of b)) (unwrap_or a.value [] ++ x) (unwrap_or b.value [] ++ y)
    (ap (λ (t : Text). t ++ (unwrap_or a.value [] ++ x)) (sym fronts) ∙ sym (fronted a x) ∙ is ∙ fronted b y)
    in
    let parts = split-lists (unwrap_or a.value []) (unwrap_or b.value []) x y (same-length a.value b.value heads.1) tails in
    let values : a.value ≡ b.value = same-option a.value b.value heads.1 parts.0 in
    (λ i. record { key = heads.0 i; value = values i }, parts.1)

-- ---- one list of records is bytes

abbrev pub AreGood : List Record → Type 0
AreGood records = AllByRecursion IsRecord records

spelled-some : (r : Record) (x : Text) → spelled r ++ x ≡ [] → ⊥
spelled-some r x e = absurd (by r.value (ap length e))
  where
    by : (value : Option Text) → length (spelled_by r.key value ++ x) ≡ 0 → ⊥
    by (Some value) e = omega (arith, e)
    by None e = omega (arith, e)

pub one-list : (a b : List Record) → AreGood a → AreGood b → log_of a ≡ log_of b → a ≡ b
one-list [] [] good fine e = refl
one-list [] (r ∷ b) good fine e = absurd (spelled-some r (log_of b) (sym e))
one-list (r ∷ a) [] good fine e = absurd (spelled-some r (log_of a) e)
one-list (r ∷ a) (q ∷ b) good fine e =
    let one = one-record r q (log_of a) (log_of b) good.0 fine.0 e in
    λ i. one.0 i ∷ one-list a b good.1 fine.1 one.1 i

-- Behind a front of good records, good records have no bad place.
pub no-bad : (records front : List Record) (rest : Text) → AreGood records → AreGood front → log_of records ≡ log_of front ++ rest → rest ≢ [] → ((r : Record) (x : Text) → IsRecord r → rest ≡ spelled r ++ x → ⊥) → ⊥
no-bad [] [] rest good fine e some bad = some (sym e)
no-bad (r ∷ records) [] rest good fine e some bad = bad r (log_of records) good.0 (sym e)
no-bad [] (q ∷ front) rest good fine e some bad = spelled-some q (log_of front ++ rest) (sym (e ∙ append_assoc (spelled q) (log_of front) rest))
no-bad (r ∷ records) (q ∷ front) rest good fine e some bad =
    no-bad records front rest good.1 fine.1 (one-record r q (log_of records) (log_of front ++ rest) good.0 fine.0 (e ∙ append_assoc (spelled q) (log_of front) rest)).1 some bad
