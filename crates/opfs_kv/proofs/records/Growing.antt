-- A file of records, with the index of it: cut, with a record more, and written by key.
use Rattle.std.proofs.Common.{◌≡◌, ℕ, ◌+◌, ◌-◌, ◌≤◌, List, [], ◌∷◌, ◌++◌, length, take, drop, replicate, map, refl, sym, ap, subst, ◌∙◌, arith}
use Rattle.std.specs.List.{AllByRecursion}
use Rattle.std.specs.List.Sorted.{IsStrictlySortedBy}
use Rattle.std.specs.Map.{keys_of}
use Rattle.std.proofs.lemmas.List.{append-nil, length-take, take-append-drop, take_all, drop_all}
use Rattle.std.proofs.lemmas.List.Sums.{fold-append}
use Rattle.opfs_base.specs.Texts.{Text}
use Rattle.opfs_kv.specs.Records.Indexes.{Places, IsEntry, IsIndexed, placed, indexed, read_out}
use Rattle.opfs_kv.specs.Records.Maps.{Map, key_cmp}
use Rattle.opfs_kv.specs.Records.Records.{Record, IsRecord, spelled, log_of, after, map_of, put_of}
use Rattle.opfs_kv.proofs.records.ByKey.{map-by-key}
use Rattle.opfs_kv.proofs.records.Indexed.{reads}
use Rattle.opfs_kv.proofs.records.Spelled.{AreGood}
use Rattle.opfs_kv.proofs.records.Steps.{log-append, good-append, indexed-append}
use Rattle.opfs_splice.specs.Splicing.{splice, resize, window}

-- ---- bytes by position

pub resize-cut : (bytes : Text) (size : ℕ) → size ≤ length bytes → resize bytes size ≡ take size bytes
resize-cut bytes size enough =
    let none : size - length bytes ≡ 0 = omega (arith, enough) in
    ap (λ (n : ℕ). take size bytes ++ replicate n 0) none ∙ append-nil (take size bytes)

pub splice-end : (bytes new : Text) (at : ℕ) → length bytes ≡ at → splice bytes at new ≡ bytes ++ new
splice-end bytes new at is =
    let none : at - length bytes ≡ 0 = omega (arith, is) in
    let front : take at (bytes ++ replicate (at - length bytes) 0) ≡ bytes =
    ap (λ (n : ℕ). take at (bytes ++ replicate n 0)) none ∙ ap (take at) (append-nil bytes) ∙ take_all at bytes (omega (arith, is))
    in
    let back : drop (at + length new) bytes ≡ [] = drop_all (at + length new) bytes (omega (arith, is)) in
    (λ i. front i ++ new ++ back i) ∙ append-nil (bytes ++ new)

pub splice-start : (bytes new : Text) → splice bytes 0 new ≡ new ++ drop (length new) bytes
splice-start bytes new = ap (λ (n : ℕ). new ++ drop n bytes) (omega arith)

-- ---- what an index reads

-- It reads the map of the records that the bytes begin with.
pub reads-front : (bytes : Text) (live : ℕ) (index : Places) (i : IsIndexed (take live bytes) index) → read_out bytes index ≡ map_of i.records
reads-front bytes live index i =
    (λ t. read_out (sym (take-append-drop live bytes) t) (i.index_is t))
    ∙ ap (λ (x : Text). read_out (x ++ drop live bytes) (indexed 0 i.records [])) i.log.are
    ∙ reads i.records (drop live bytes)

-- Other bytes that begin so read the same.
pub reads-same : (old new : Text) (live : ℕ) (index : Places) → IsIndexed (take live old) index → take live new ≡ take live old → read_out new index ≡ read_out old index
reads-same old new live index i same =
    let j : IsIndexed (take live new) index = subst (λ (t : Text). IsIndexed t index) (sym same) i in
    reads-front new live index (record { records = i.records; log = record { good = i.log.good; are = same ∙ i.log.are }; index_is = i.index_is })
    ∙ sym (reads-front old live index i)

-- ---- a record more

pub more-indexed : (bytes : Text) (index : Places) (r : Record) → IsIndexed bytes index → IsRecord r → IsIndexed (bytes ++ spelled r) (placed (length bytes) index r)
more-indexed bytes index r i good = record {
  records = i.records ++ r ∷ [];
  log = record {
    good = good-append i.records (r ∷ []) i.log.good (good, tt);
    are =
        ap (λ (x : Text). x ++ spelled r) i.log.are
        ∙ ap (λ (x : Text). log_of i.records ++ x) (sym (append-nil (spelled r)))
        ∙ sym (log-append i.records (r ∷ []));
  };
  index_is =
      (λ t. placed (ap length i.log.are t) (i.index_is t) r)
      ∙ ap (λ (n : ℕ). placed n (indexed 0 i.records []) r) (omega arith)
      ∙ sym (indexed-append 0 i.records (r ∷ []) []);
}

pub reads-all : (bytes : Text) (index : Places) (i : IsIndexed bytes index) → read_out bytes index ≡ map_of i.records
reads-all bytes index i =
    (λ t. read_out (i.log.are t) (i.index_is t))
    ∙ ap (λ (x : Text). read_out x (indexed 0 i.records [])) (sym (append-nil (log_of i.records)))
    ∙ reads i.records []

pub more-map : (bytes : Text) (index : Places) (r : Record) → IsIndexed bytes index → IsRecord r → read_out (bytes ++ spelled r) (placed (length bytes) index r) ≡ after (read_out bytes index) r
unfolding more-indexed
more-map bytes index r i good =
    let more = more-indexed bytes index r i good in
    reads-all (bytes ++ spelled r) (placed (length bytes) index r) more
    ∙ fold-append after [] i.records (r ∷ [])
    ∙ ap (λ (m : Map). after m r) (sym (reads-all bytes index i))

-- ---- by key

abbrev pub by_key : Text → Places → List Record
by_key bytes index = map put_of (read_out bytes index)

window-short : (bytes : Text) (at len : ℕ) → length (window bytes at len) ≤ len
window-short bytes at len = omega (arith, length-take len (drop at bytes))

good-by-key : (bytes : Text) (index : Places) → AllByRecursion IsEntry index → AreGood (by_key bytes index)
good-by-key bytes [] good = tt
good-by-key bytes (e ∷ es) good =
    let short = window-short bytes e.1.at e.1.len in
    let most : e.1.len ≤ 65536 = good.0.1 in
    ((good.0.0, omega (arith, short, most)), good-by-key bytes es good.1)

keys-same : (bytes : Text) (index : Places) → keys_of (read_out bytes index) ≡ keys_of index
keys-same bytes [] = refl
keys-same bytes (e ∷ es) = ap (λ (ks : List Text). e.0 ∷ ks) (keys-same bytes es)

module _ (bytes : Text) (index : Places) (good : AllByRecursion IsEntry index) (sorted : IsStrictlySortedBy key_cmp (keys_of index)) (packed : Text) (made : Places)
    (bytes-are : packed ≡ log_of (by_key bytes index)) (index-is : made ≡ indexed 0 (by_key bytes index) []) where
  pub packed-indexed : IsIndexed packed made
  packed-indexed = record { records = by_key bytes index; log = record { good = good-by-key bytes index good; are = bytes-are }; index_is = index-is }

  pub packed-map : (rest : Text) → read_out (packed ++ rest) made ≡ read_out bytes index
  packed-map rest =
      (λ t. read_out (bytes-are t ++ rest) (index-is t))
      ∙ reads (by_key bytes index) rest
      ∙ map-by-key (read_out bytes index) (subst (λ (ks : List Text). IsStrictlySortedBy key_cmp ks) (sym (keys-same bytes index)) sorted)
