-- What a record in a piece says of its file.
use Rattle.std.proofs.Common.{◌≡◌, ℕ, ◌+◌, ◌-◌, ◌<◌, ◌≤◌, List, [], ◌∷◌, ◌++◌, length, take, drop, option_map, Option, Some, None, IfSome, refl, sym, ap, subst, ◌∙◌, append_assoc, arith, inl, inr}
use Rattle.std.specs.Int.{w32, to_le_bytes}
use Rattle.std.proofs.lemmas.Bool.{cases_lt, cases_eq}
use Rattle.std.proofs.lemmas.Grind.{flat_map-append}
use Rattle.std.proofs.lemmas.List.{append-nil, length-append, length-drop, length-take, take-append-drop, drop-drop, drop-take, drop_at, nil_from_length, take_rest}
use Rattle.opfs_base.specs.Texts.{Text}
use Rattle.opfs_codec.proofs.FieldLemmas.{IsBytes, wide32}
use Rattle.opfs_kv.specs.Records.Heads.{Head, front_of, head_at, size_by}
use Rattle.opfs_kv.specs.Records.Indexes.{Places, placed_by, placed, indexed}
use Rattle.opfs_kv.specs.Records.Records.{Record, IsValue, spelled_by, spelled, log_of}
use Rattle.opfs_kv.specs.Records.Scans.{IsPiece, IsBadAt, HasRead, HasFailed, HasStopped, IsShort, put_in}
use Rattle.opfs_kv.specs.declared.records.miss.Miss.{Miss}
use Rattle.opfs_kv.specs.declared.records.miss.Miss.TheVariants as miss
use Rattle.opfs_kv.proofs.records.Fronts.{IsFront, IsSize, head-more, head-same, head-takes, some-is}
use Rattle.opfs_kv.proofs.records.Spelled.{AreGood, front-by, head-spelled, length-by, size_of}

none-some : {A : Type 0} (y : A) → ◌≡◌ {A = Option A} None (Some y) → ⊥
none-some y e = cc

-- ---- what a front says

pub front-facts : (bytes : Text) (h : Head) → IsBytes bytes → head_at bytes ≡ Some h → IsFront bytes h
front-facts bytes h fits e = head-takes bytes h fits e

-- ---- where no record is

bad-none : (whole : Text) (at : ℕ) → head_at (drop at whole) ≡ None → IsBadAt whole at
bad-none whole at e r rest good is = none-some (r.key, size_of r) (sym e ∙ ap head_at is ∙ head-spelled r rest good)

bad-long : (whole : Text) (at : ℕ) (h : Head) → head_at (drop at whole) ≡ Some h → length (drop at whole) < size_by (length h.0) h.1 → IsBadAt whole at
bad-long whole at h e over r rest good is =
    let same : h ≡ (r.key, size_of r) = some-is h (r.key, size_of r) (sym e ∙ ap head_at is ∙ head-spelled r rest good) in
    let long : length (drop at whole) ≡ length (spelled r) + length rest = ap length is ∙ length-append (spelled r) rest in
    let size : size_by (length h.0) h.1 ≡ length (spelled r) = ap (λ (x : Head). size_by (length x.0) x.1) same ∙ sym (length-by r.key r.value) in
    omega (arith, over, long, size)

-- ---- a record that is there

size-some : (key : ℕ) (len : Option ℕ) → 0 < size_by key len
size-some key (Some n) = omega arith
size-some key None = omega arith

value-good : (value : Option Text) → IsSize (option_map length value) → IfSome value IsValue
value-good (Some value) h = h
value-good None h = tt

put-is : (at : ℕ) (index : Places) (key : Text) (value : Option Text) → put_in at index key (option_map length value) ≡ placed_by at index key value
put-is at index key (Some value) = refl
put-is at index key None = refl

front-long : (key : Text) (n : ℕ) → length (front_of key (Some n)) ≡ 6 + length key
front-long key n = omega (arith, length-append key (to_le_bytes w32 n), wide32.len n)

-- The value is cut off behind its front.
cut-record : (key : Text) (len : Option ℕ) (tail : Text) → size_by (length key) len ≤ length (front_of key len ++ tail)
    → (value : Option Text) × (option_map length value ≡ len) × (front_of key len ++ tail ≡ spelled_by key value ++ drop (size_by (length key) len) (front_of key len ++ tail))
cut-record key (Some n) tail enough =
    let front = front_of key (Some n) in
    let value = take n tail in
    let long : length front ≡ 6 + length key = front-long key n in
    let is : length value ≡ n = omega (arith, length-take n tail, enough, length-append front tail, long) in
    let spelled-is : spelled_by key (Some value) ≡ front ++ value = front-by key (Some value) ∙ ap (λ (m : ℕ). front_of key (Some m) ++ value) is in
    let rest-is : drop (6 + length key + n) (front ++ tail) ≡ drop n tail =
    ap (λ (m : ℕ). drop (m + n) (front ++ tail)) (sym long) ∙ sym (drop-drop n (length front) (front ++ tail)) ∙ ap (drop n) (drop_at front tail (length front) refl)
    in (
      Some value,
      ap Some is,
      ap (λ (t : Text). front ++ t) (sym (take-append-drop n tail)) ∙ sym (append_assoc front value (drop n tail))
          ∙ (λ i. sym spelled-is i ++ sym rest-is i),
    )
cut-record key None tail enough = (None, refl, ap (λ (t : Text). front_of key None ++ t) (sym (drop_at (front_of key None) tail (2 + length key) (omega arith))))

-- ---- one piece of reading after another

pub log-append : (a b : List Record) → log_of (a ++ b) ≡ log_of a ++ log_of b
log-append a b = flat_map-append spelled a b

pub good-append : (a b : List Record) → AreGood a → AreGood b → AreGood (a ++ b)
good-append [] b p q = q
good-append (r ∷ a) b p q = (p.0, good-append a b p.1 q)

pub indexed-append : (at : ℕ) (a b : List Record) (index : Places) → indexed at (a ++ b) index ≡ indexed (at + length (log_of a)) b (indexed at a index)
indexed-append at [] b index = ap (λ (n : ℕ). indexed n b index) (omega arith)
indexed-append at (r ∷ a) b index =
    indexed-append (at + length (spelled r)) a b (placed at index r)
    ∙ ap (λ (n : ℕ). indexed n b (indexed (at + length (spelled r)) a (placed at index r))) (omega (arith, length-append (spelled r) (log_of a)))

pub read-then : (whole : Text) (a : ℕ) (i : Places) (b : ℕ) (j : Places) (c : ℕ) (k : Places) → HasRead whole a i b j → HasRead whole b j c k → HasRead whole a i c k
read-then whole a i b j c k p q = record {
  records = p.records ++ q.records;
  good = good-append p.records q.records p.good q.good;
  are =
      p.are ∙ ap (λ (t : Text). log_of p.records ++ t) q.are
      ∙ sym (append_assoc (log_of p.records) (log_of q.records) (drop c whole))
      ∙ ap (λ (t : Text). t ++ drop c whole) (sym (log-append p.records q.records));
  long = omega (arith, p.long, q.long, ap length (log-append p.records q.records), length-append (log_of p.records) (log_of q.records));
  index_is =
      q.index_is ∙ (λ t. indexed (p.long t) q.records (p.index_is t)) ∙ sym (indexed-append a p.records q.records i);
}

pub failed-then : (whole : Text) (a : ℕ) (i : Places) (b : ℕ) (j : Places) (place : ℕ) → HasRead whole a i b j → HasFailed whole b j place → HasFailed whole a i place
failed-then whole a i b j place p f = record { index = f.index; read = read-then whole a i b j place f.index p f.read; inside = f.inside; bad = f.bad }

module _ (whole : Text) (size at : ℕ) (piece : Text) (is : IsPiece whole size at piece) (inside : at + length piece ≤ size) where
  behind : drop at whole ≡ piece ++ drop (length piece) (drop at whole)
  behind = sym (take-append-drop (length piece) (drop at whole)) ∙ ap (λ (t : Text). t ++ drop (length piece) (drop at whole)) (sym is.here)

  rest-long : length (drop at whole) ≡ size - at
  rest-long = length-drop at whole ∙ ap (λ n. n - at) is.sized

  failed-here : (before : Places) → at < size → IsBadAt whole at → HasFailed whole at before at
  failed-here before less bad = record {
    index = before;
    read = record { records = []; good = tt; are = refl; long = omega arith; index_is = refl };
    inside = omega (arith, less, is.sized);
    bad = bad;
  }

  none-there : IsBytes piece → head_at piece ≡ None → (IsShort size at (length piece) → ⊥) → head_at (drop at whole) ≡ None
  none-there fits e over =
      let more = drop (length piece) (drop at whole) in
      elim (cases_lt (length piece) 261) [
        | inl less ↦ elim (cases_eq (at + length piece) size) [
          | inl all ↦
              let none : more ≡ [] = nil_from_length more (omega (arith, all, rest-long, length-drop (length piece) (drop at whole))) in
              ap head_at (behind ∙ ap (λ (t : Text). piece ++ t) none ∙ append-nil piece) ∙ e
          | inr not-all ↦ absurd (over (less, not-all))
        ]
        | inr long ↦ ap head_at behind ∙ head-same piece more fits long ∙ e
      ]

  pub fails-none : (before : Places) → IsBytes piece → head_at piece ≡ None → 0 < length piece → (IsShort size at (length piece) → ⊥) → HasFailed whole at before at
  fails-none before fits e some over = failed-here before (omega (arith, some, inside)) (bad-none whole at (none-there fits e over))

  pub there : (h : Head) → IsBytes piece → head_at piece ≡ Some h → head_at (drop at whole) ≡ Some h
  there h fits e = ap head_at behind ∙ head-more piece (drop (length piece) (drop at whole)) h fits e

  pub fails-long : (before : Places) (h : Head) → IsBytes piece → head_at piece ≡ Some h → 0 < length piece → size < at + size_by (length h.0) h.1 → HasFailed whole at before at
  fails-long before h fits e some over =
      failed-here before (omega (arith, some, inside)) (bad-long whole at h (there h fits e) (omega (arith, over, rest-long, some, inside)))

  pub reads-none : (before : Places) → HasRead whole at before at before
  reads-none before = record { records = []; good = tt; are = refl; long = omega arith; index_is = refl }

  pub reads-one : (before : Places) (h : Head) → IsBytes piece → head_at piece ≡ Some h → at + size_by (length h.0) h.1 ≤ size
      → HasRead whole at before (at + size_by (length h.0) h.1) (put_in at before h.0 h.1)
  reads-one before h fits e fit =
      let f = head-takes piece h fits e in
      let more = drop (length piece) (drop at whole) in
      let all : drop at whole ≡ front_of h.0 h.1 ++ (f.rest ++ more) = behind ∙ ap (λ (t : Text). t ++ more) f.parts ∙ append_assoc (front_of h.0 h.1) f.rest more in
      let n = size_by (length h.0) h.1 in
      let enough : n ≤ length (front_of h.0 h.1 ++ (f.rest ++ more)) = omega (arith, fit, rest-long, ap length all, size-some (length h.0) h.1) in
      let c = cut-record h.0 h.1 (f.rest ++ more) enough in
      record {
        records = record { key = h.0; value = c.0 } ∷ [];
        good = ((f.key, value-good c.0 (subst IsSize (sym c.1) f.size)), tt);
        are =
            all ∙ c.2
            ∙ ap (λ (t : Text). spelled_by h.0 c.0 ++ drop n t) (sym all)
            ∙ ap (λ (t : Text). spelled_by h.0 c.0 ++ t) (drop-drop n at whole)
            ∙ ap (λ (t : Text). t ++ drop (at + n) whole) (sym (append-nil (spelled_by h.0 c.0)));
        long = ap (λ m. at + m) (ap (size_by (length h.0)) (sym c.1) ∙ sym (length-by h.0 c.0) ∙ ap length (sym (append-nil (spelled_by h.0 c.0))));
        index_is = ap (put_in at before h.0) (sym c.1) ∙ put-is at before h.0 c.0;
      }

-- ---- the rest of a piece

pub rest-piece : (whole : Text) (size at next : ℕ) (piece : Text) → at ≤ next → next ≤ at + length piece → IsPiece whole size at piece
    → IsPiece whole size next (take (length piece - (next - at)) (drop (next - at) piece))
rest-piece whole size at next piece from within is =
    let n = next - at in
    let k = length piece - n in
    let all : length piece ≡ n + k = omega (arith, from, within) in
    let rest : take k (drop n piece) ≡ drop n piece = take_rest piece n in
    let place : at + n ≡ next = omega (arith, from) in
    let long : length (take k (drop n piece)) ≡ k = omega (arith, ap length rest, length-drop n piece) in
    record {
      sized = is.sized;
      here =
          rest ∙ ap (drop n) (is.here ∙ ap (λ (m : ℕ). take m (drop at whole)) all) ∙ drop-take n k (drop at whole)
          ∙ ap (take k) (drop-drop n at whole) ∙ (λ i. take (sym long i) (drop (place i) whole));
    }

pub stopped-then : (size at next : ℕ) (piece rest : Text) (i j : Places) (why : Miss) → ((whole : Text) → IsPiece whole size at piece → IsPiece whole size next rest)
    → ((whole : Text) → IsPiece whole size at piece → HasRead whole at i next j) → HasStopped size next rest j why → HasStopped size at piece i why
stopped-then size at next piece rest i j miss.Memory same read stopped = tt
stopped-then size at next piece rest i j (miss.Bad place) same read stopped = λ whole is. failed-then whole at i next j place (read whole is) (stopped whole (same whole is))
