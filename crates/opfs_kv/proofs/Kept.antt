-- What calls do to a key-value file, by its bytes and its index.
use Rattle.std.proofs.Common.{◌≡◌, ℕ, ◌+◌, ◌≤◌, Bool, true, false, cond, List, [], ◌∷◌, ◌++◌, length, take, drop, map, option_map, Option, Some, None, refl, sym, ap, subst, ◌∙◌, arith}
use Rattle.std.specs.Prelude.{is_some, IfSome}
use Rattle.std.specs.Map.{keys_of}
use Rattle.std.specs.List.{AllByRecursion}
use Rattle.std.specs.List.Sorted.{IsStrictlySortedBy}
use Rattle.std.proofs.lemmas.List.{length-append, length-drop, length-take, take-append-le, take_all, drop_all, append-nil}
use Rattle.opfs_base.specs.Texts.{Text}
use Rattle.opfs_kv.specs.Records.Heads.{size_by}
use Rattle.opfs_kv.specs.Records.Indexes.{IsFitting, IsIndexed, Places, indexed, placed_by, read_out}
use Rattle.opfs_kv.specs.Records.Maps.{Map, found, is_key, key_cmp, without_key}
use Rattle.opfs_kv.specs.Records.Records.{IsRecord, IsValue, Record, after_all, after_by, log_of, put_of, spelled_by}
use Rattle.opfs_kv.specs.Records.Scans.{HasRead}
use Rattle.opfs_kv.specs.declared.records.place.Place.{Place}
use Rattle.opfs_kv.proofs.records.Fitted.{fitting-out, fitting-with}
use Rattle.opfs_kv.proofs.records.Growing.{more-indexed, more-map, packed-indexed, packed-map, reads-all, reads-same, resize-cut, splice-end, splice-start}
use Rattle.opfs_kv.proofs.records.Many.{fitting-many, many-indexed, many-map}
use Rattle.opfs_kv.proofs.records.Spelled.{length-by}
use Rattle.opfs_splice.specs.Splicing.{resize, splice, window}
use Rattle.opfs_kv.specs.Keeping.{Keeps, Spells}

-- ---- what the index reads

pub found-out : (bytes : Text) (index : Places) (key : Text) → found (read_out bytes index) key ≡ option_map (λ (p : Place). window bytes p.at p.len) (found index key)
found-out bytes [] key = refl
found-out bytes (e ∷ es) key =
    elim (is_key key e.0) as (λ (b : Bool). cond b (Some (window bytes e.1.at e.1.len)) (found (read_out bytes es) key) ≡ option_map (λ (p : Place). window bytes p.at p.len) (cond b (Some e.1) (found es key))) [
      | true ↦ refl
      | false ↦ found-out bytes es key
    ]

some-mapped : (bytes : Text) (o : Option Place) → is_some (option_map (λ (p : Place). window bytes p.at p.len) o) ≡ is_some o
some-mapped bytes None = refl
some-mapped bytes (Some p) = refl

pub found-some : (bytes : Text) (index : Places) (key : Text) → is_some (found (read_out bytes index) key) ≡ is_some (found index key)
found-some bytes index key = ap (λ (o : Option Text). is_some o) (found-out bytes index key) ∙ some-mapped bytes (found index key)

pub found-none : (bytes : Text) (index : Places) (key : Text) → found index key ≡ None → found (read_out bytes index) key ≡ None
found-none bytes index key is = found-out bytes index key ∙ ap (option_map (λ (p : Place). window bytes p.at p.len)) is

pub found-here : (bytes : Text) (index : Places) (key : Text) (p : Place) → found index key ≡ Some p → found (read_out bytes index) key ≡ Some (window bytes p.at p.len)
found-here bytes index key p is = found-out bytes index key ∙ ap (option_map (λ (q : Place). window bytes q.at q.len)) is

pub no-place : (p : Place) → ◌≡◌ {A = Option Place} (Some p) None → ⊥
no-place p h = cc

-- A key that is not there is taken out by nothing.
pub out-none : (m : Map) (key : Text) → found m key ≡ None → without_key m key ≡ m
out-none [] key is = refl
out-none (e ∷ es) key is =
    elim (is_key key e.0) as (λ (b : Bool). cond b (Some e.1) (found es key) ≡ None → cond b es (e ∷ without_key es key) ≡ e ∷ es) [
      | true ↦ λ h. absurd (some-none e.1 h)
      | false ↦ λ h. ap (λ (t : Map). e ∷ t) (out-none es key h)
    ] is
  where
    some-none : (x : Text) → ◌≡◌ {A = Option Text} (Some x) None → ⊥
    some-none x h = cc

-- ---- a tail is cut

module _ (tells : Type 0) (bytes : Text) (live : ℕ) (tail : Bool) (index : Places) (k : Keeps tells bytes live tail index) where
  live-long : length (take live bytes) ≡ live
  live-long = let long = length-take live bytes in omega (arith, long, k.inside)

  take-twice : take live (take live bytes) ≡ take live bytes
  take-twice = take_all live (take live bytes) (omega (arith, live-long))

  module _ (new : Text) (is : new ≡ resize bytes live) where
    cut-is : new ≡ take live bytes
    cut-is = is ∙ resize-cut bytes live k.inside

    pub same-front : take live new ≡ take live bytes
    same-front = ap (take live) cut-is ∙ take-twice

    pub cut-keeps : Keeps tells new live false index
    cut-keeps = record {
      inside = let long = ap length cut-is ∙ live-long in omega (arith, long);
      small = k.small;
      whole = λ none. ap length cut-is ∙ live-long;
      fitting = k.fitting;
      indexed = λ tell. subst (λ (b : Text). IsIndexed b index) (sym same-front) (k.indexed tell);
    }

    pub cut-map : tells → read_out new index ≡ read_out bytes index
    cut-map tell = reads-same bytes new live index (k.indexed tell) same-front

  -- The live bytes are all, where there is no tail.
  pub all-live : tail ≡ false → take live bytes ≡ bytes
  all-live none = take_all live bytes (let long = k.whole none in omega (arith, long))

  pub all-indexed : tail ≡ false → tells → IsIndexed bytes index
  all-indexed none tell = subst (λ (b : Text). IsIndexed b index) (all-live none) (k.indexed tell)

  pub spells-map : tail ≡ false → tells → Spells bytes (read_out bytes index)
  spells-map none tell = let i = all-indexed none tell in record { records = i.records; log = i.log; stands_for = sym (reads-all bytes index i) }

  -- ---- other bytes behind the live ones

  module _ (none : tail ≡ false) (more new : Text) (is : new ≡ splice bytes live more) where
    tail-is : new ≡ bytes ++ more
    tail-is = is ∙ splice-end bytes more live (k.whole none)

    tail-front : take live new ≡ take live bytes
    tail-front = ap (take live) tail-is ∙ take-append-le live bytes more k.inside

    pub tail-keeps : Keeps tells new live true index
    tail-keeps = record {
      inside = let long = ap length tail-is ∙ length-append bytes more in omega (arith, long, k.inside);
      small = k.small;
      whole = λ h. absurd (true-false h);
      fitting = k.fitting;
      indexed = λ tell. subst (λ (b : Text). IsIndexed b index) (sym tail-front) (k.indexed tell);
    }
      where
        true-false : true ≡ false → ⊥
        true-false h = cc

    pub tail-map : tells → read_out new index ≡ read_out bytes index
    tail-map tell = reads-same bytes new live index (k.indexed tell) tail-front

  -- ---- a record more

  module _ (none : tail ≡ false) (key : Text) (value : Option Text) (good : IsRecord (record { key = key; value = value })) (new : Text) (is : new ≡ splice bytes live (spelled_by key value))
      (room : live + size_by (length key) (option_map length value) ≤ 16777216) where
    abbrev pub r : Record
    r = record { key = key; value = value }

    more-is : new ≡ bytes ++ spelled_by key value
    more-is = is ∙ splice-end bytes (spelled_by key value) live (k.whole none)

    more-long : length new ≡ live + size_by (length key) (option_map length value)
    more-long =
        let joined = length-append bytes (spelled_by key value) in
        ap length more-is ∙ joined ∙ (λ i. k.whole none i + length-by key value i)

    pub more-fitting : (v : Option Text) → value ≡ v → IsFitting (live + size_by (length key) (option_map length v)) (placed_by live index key v)
    more-fitting (Some text) is_v =
        let most : IfSome (Some text) IsValue = subst (λ (o : Option Text). IfSome o IsValue) is_v good.1 in
        fitting-with live (live + (6 + length key + length text)) index key (record { at = live + (6 + length key); len = length text }) k.fitting (good.0, most) (omega arith)
    more-fitting None is_v = fitting-out live (live + (2 + length key)) index key k.fitting (omega arith)

    pub more-keeps : Keeps tells new (live + size_by (length key) (option_map length value)) false (placed_by live index key value)
    more-keeps = record {
      inside = omega (arith, more-long);
      small = room;
      whole = λ h. more-long;
      fitting = more-fitting value refl;
      indexed = λ tell.
          subst (λ (b : Text). IsIndexed b (placed_by live index key value)) (sym (take_all (live + size_by (length key) (option_map length value)) new (omega (arith, more-long)) ∙ more-is))
          (subst (λ (n : ℕ). IsIndexed (bytes ++ spelled_by key value) (placed_by n index key value)) (k.whole none) (more-indexed bytes index r (all-indexed none tell) good));
    }

    pub more-reads : tells → read_out new (placed_by live index key value) ≡ after_by (read_out bytes index) key value
    more-reads tell =
        (λ i. read_out (more-is i) (placed_by (sym (k.whole none) i) index key value))
        ∙ more-map bytes index r (all-indexed none tell) good

  -- ---- several records more

  module _ (none : tail ≡ false) (records : List Record) (good : AllByRecursion IsRecord records) (new : Text) (is : new ≡ splice bytes live (log_of records)) (room : live + length (log_of records) ≤ 16777216) where
    many-is : new ≡ bytes ++ log_of records
    many-is = is ∙ splice-end bytes (log_of records) live (k.whole none)

    many-long : length new ≡ live + length (log_of records)
    many-long =
        let joined = length-append bytes (log_of records) in
        ap length many-is ∙ joined ∙ ap (λ (n : ℕ). n + length (log_of records)) (k.whole none)

    many-all : take (live + length (log_of records)) new ≡ bytes ++ log_of records
    many-all = take_all (live + length (log_of records)) new (omega (arith, many-long)) ∙ many-is

    pub many-keeps : Keeps tells new (live + length (log_of records)) false (indexed live records index)
    many-keeps = record {
      inside = omega (arith, many-long);
      small = room;
      whole = λ h. many-long;
      fitting = fitting-many live index records k.fitting good;
      indexed = λ tell.
          subst (λ (b : Text). IsIndexed b (indexed live records index)) (sym many-all)
          (subst (λ (n : ℕ). IsIndexed (bytes ++ log_of records) (indexed n records index)) (k.whole none) (many-indexed bytes index records (all-indexed none tell) good));
    }

    pub many-reads : tells → read_out new (indexed live records index) ≡ after_all (read_out bytes index) records
    many-reads tell =
        (λ i. read_out (many-is i) (indexed (sym (k.whole none) i) records index))
        ∙ many-map bytes index records (all-indexed none tell) good

    pub many-front : take (live + length (log_of records)) new ≡ take live bytes ++ log_of records
    many-front = many-all ∙ ap (λ (t : Text). t ++ log_of records) (sym (all-live none))

  -- ---- written by key

  module _ (none : tail ≡ false) (read packed : Text) (made : Places) (read-is : tells → read ≡ bytes) (short : length packed ≤ live)
      (fitting : IsFitting (length packed) made) (packed-is : packed ≡ log_of (map put_of (read_out read index))) (made-is : made ≡ indexed 0 (map put_of (read_out read index)) [])
      (sorted : IsStrictlySortedBy key_cmp (keys_of index)) (new : Text) (is : new ≡ splice bytes 0 packed) where
    packed-new : new ≡ packed ++ drop (length packed) bytes
    packed-new = is ∙ splice-start bytes packed

    pub packed-front : take (length packed) new ≡ packed
    packed-front = ap (take (length packed)) packed-new ∙ take-first packed (drop (length packed) bytes)
      where
        take-first : (a b : Text) → take (length a) (a ++ b) ≡ a
        take-first a b = take-append-le (length a) a b (omega arith) ∙ take_all (length a) a (omega arith)

    pub packed-keeps : (left : Bool) → (left ≡ false → length packed ≡ live) → Keeps tells new (length packed) left made
    packed-keeps left all =
        let long : length new ≡ length packed + length (drop (length packed) bytes) = ap length packed-new ∙ length-append packed (drop (length packed) bytes) in
        let rest = length-drop (length packed) bytes in
        let size = k.whole none in
        record {
          inside = omega (arith, long);
          small = omega (arith, short, k.small);
          whole = λ h. let same = all h in omega (arith, long, rest, size, same);
          fitting = fitting;
          indexed = λ tell. subst (λ (b : Text). IsIndexed b made) (sym packed-front) (packed-indexed read index k.fitting.good sorted packed made packed-is made-is);
        }

    pub packed-reads : tells → read_out new made ≡ read_out bytes index
    packed-reads tell =
        ap (λ (b : Text). read_out b made) packed-new
        ∙ packed-map read index k.fitting.good sorted packed made packed-is made-is (drop (length packed) bytes)
        ∙ ap (λ (b : Text). read_out b index) (read-is tell)

-- ---- opened

pub opened-keeps : (tells : Type 0) (bytes : Text) (size : ℕ) (index : Places) → length bytes ≡ size → size ≤ 16777216 → IsFitting size index → (tells → HasRead bytes 0 [] size index) → Keeps tells bytes size false index
opened-keeps tells bytes size index long small fitting read = record {
  inside = omega (arith, long);
  small = small;
  whole = λ h. long;
  fitting = fitting;
  indexed = λ tell. let r = read tell in record {
    records = r.records;
    log = record {
      good = r.good;
      are = take_all size bytes (omega (arith, long)) ∙ r.are ∙ ap (λ (b : Text). log_of r.records ++ b) (drop_all size bytes (omega (arith, long))) ∙ append-nil (log_of r.records);
    };
    index_is = r.index_is;
  };
}
