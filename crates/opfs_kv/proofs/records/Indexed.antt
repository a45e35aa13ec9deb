-- An index reads the map of records out of their bytes.
use Rattle.std.proofs.Common.{◌≡◌, ◌+◌, Bool, true, false, cond, List, [], ◌∷◌, ◌++◌, length, take, map, fold, Option, Some, None, option_map, Ordering, Less, Equal, Greater, refl, sym, ap, ◌∙◌, append_assoc, arith}
use Rattle.std.specs.Int.{w32, to_le_bytes}
use Rattle.std.specs.Ordering.{match_ordering}
use Rattle.std.proofs.lemmas.List.{take_at, drop_at, length-append}
use Rattle.opfs_base.specs.Texts.{Text}
use Rattle.opfs_codec.proofs.FieldLemmas.{wide32}
use Rattle.opfs_kv.specs.Records.Indexes.{Places, placed_by, placed, indexed, read_out}
use Rattle.opfs_kv.specs.Records.Maps.{Map, key_cmp, is_key, found, with_key, without_key}
use Rattle.opfs_kv.specs.Records.Records.{Record, spelled_by, spelled, log_of, after_by, after, map_of}
use Rattle.opfs_kv.specs.declared.records.place.Place.{Place}
use Rattle.opfs_splice.specs.Splicing.{window}

-- ---- a change of the values alone

module _ {X Y : Type 0} (f : X → Y) where
  abbrev over : List (Text × X) → List (Text × Y)
  over es = map (λ e. (e.0, f e.1)) es

  over-with : (es : List (Text × X)) (key : Text) (x : X) → over (with_key es key x) ≡ with_key (over es) key (f x)
  over-with [] key x = refl
  over-with (e ∷ es) key x = by (over-with es key x) (key_cmp key e.0)
    where
      by : over (with_key es key x) ≡ with_key (over es) key (f x) → (o : Ordering) → over (match_ordering o ((key, x) ∷ (e ∷ es)) ((e.0, x) ∷ es) (e ∷ with_key es key x)) ≡ match_ordering o ((key, f x) ∷ ((e.0, f e.1) ∷ over es)) ((e.0, f x) ∷ over es) ((e.0, f e.1) ∷ with_key (over es) key (f x))
      by rest Less = refl
      by rest Equal = refl
      by rest Greater = ap (λ (t : List (Text × Y)). (e.0, f e.1) ∷ t) rest

  over-without : (es : List (Text × X)) (key : Text) → over (without_key es key) ≡ without_key (over es) key
  over-without [] key = refl
  over-without (e ∷ es) key = by (over-without es key) (is_key key e.0)
    where
      by : over (without_key es key) ≡ without_key (over es) key → (b : Bool) → over (cond b es (e ∷ without_key es key)) ≡ cond b (over es) ((e.0, f e.1) ∷ without_key (over es) key)
      by rest true = refl
      by rest false = ap (λ (t : List (Text × Y)). (e.0, f e.1) ∷ t) rest

  pub over-found : (es : List (Text × X)) (key : Text) → found (over es) key ≡ option_map f (found es key)
  over-found [] key = refl
  over-found (e ∷ es) key = by (over-found es key) (is_key key e.0)
    where
      by : found (over es) key ≡ option_map f (found es key) → (b : Bool) → cond b (Some (f e.1)) (found (over es) key) ≡ option_map f (cond b (Some e.1) (found es key))
      by rest true = refl
      by rest false = rest

-- What bytes have at a place.
abbrev pub read_at : Text → Place → Text
read_at bytes p = window bytes p.at p.len

-- ---- one record more

value-there : (front rest key value : Text) → window (front ++ (spelled_by key (Some value) ++ rest)) (length front + (6 + length key)) (length value) ≡ value
value-there front rest key value =
    let le = to_le_bytes w32 (length value) in
    let head = 1 ∷ (length key ∷ (key ++ le)) in
    let long : length (front ++ head) ≡ length front + (6 + length key) = omega (arith, length-append front head, length-append key le, wide32.len (length value)) in
    let parts : front ++ (spelled_by key (Some value) ++ rest) ≡ (front ++ head) ++ (value ++ rest) =
    ap (λ (t : Text). front ++ (1 ∷ (length key ∷ t)))
    (append_assoc key (le ++ value) rest ∙ ap (λ (t : Text). key ++ t) (append_assoc le value rest) ∙ sym (append_assoc key le (value ++ rest)))
    ∙ sym (append_assoc front head (value ++ rest))
    in
    ap (λ (t : Text). window t (length front + (6 + length key)) (length value)) parts
    ∙ ap (take (length value)) (drop_at (front ++ head) (value ++ rest) (length front + (6 + length key)) long)
    ∙ take_at value rest (length value) refl

placed-reads : (front rest key : Text) (value : Option Text) (index : Places) → read_out (front ++ (spelled_by key value ++ rest)) (placed_by (length front) index key value) ≡ after_by (read_out (front ++ (spelled_by key value ++ rest)) index) key value
placed-reads front rest key (Some value) index =
    let whole = front ++ (spelled_by key (Some value) ++ rest) in
    over-with (read_at whole) index key (record { at = length front + (6 + length key); len = length value })
    ∙ ap (with_key (read_out whole index) key) (value-there front rest key value)
placed-reads front rest key None index = over-without (read_at (front ++ (spelled_by key None ++ rest))) index key

-- ---- all records

reads-from : (front : Text) (records : List Record) (rest : Text) (index : Places)
    → read_out (front ++ (log_of records ++ rest)) (indexed (length front) records index) ≡ fold after (read_out (front ++ (log_of records ++ rest)) index) records
reads-from front [] rest index = refl
reads-from front (r ∷ records) rest index =
    let whole = front ++ (log_of (r ∷ records) ++ rest) in
    let first : whole ≡ front ++ (spelled r ++ (log_of records ++ rest)) = ap (λ (t : Text). front ++ t) (append_assoc (spelled r) (log_of records) rest) in
    let second : whole ≡ (front ++ spelled r) ++ (log_of records ++ rest) = first ∙ sym (append_assoc front (spelled r) (log_of records ++ rest)) in
    let long : length front + length (spelled r) ≡ length (front ++ spelled r) = sym (length-append front (spelled r)) in
    (λ i. read_out (second i) (indexed (long i) records (placed (length front) index r)))
    ∙ reads-from (front ++ spelled r) records rest (placed (length front) index r)
    ∙ ap (λ (t : Text). fold after (read_out t (placed (length front) index r)) records) (sym second)
    ∙ ap (λ (m : Map). fold after m records)
    (ap (λ (t : Text). read_out t (placed (length front) index r)) first
    ∙ placed-reads front (log_of records ++ rest) r.key r.value index
    ∙ ap (λ (t : Text). after (read_out t index) r) (sym first))

pub reads : (records : List Record) (rest : Text) → read_out (log_of records ++ rest) (indexed 0 records []) ≡ map_of records
reads records rest = reads-from [] records rest []
