-- A file of records with several more.
use Rattle.std.proofs.Common.{◌≡◌, ℕ, ◌+◌, List, [], ◌∷◌, ◌++◌, length, fold, Some, None, sym, ap, subst, ◌∙◌, arith}
use Rattle.std.specs.Prelude.{Option}
use Rattle.std.specs.List.{AllByRecursion}
use Rattle.std.proofs.lemmas.List.{length-append}
use Rattle.std.proofs.lemmas.List.Sums.{fold-append}
use Rattle.opfs_base.specs.Texts.{Text}
use Rattle.opfs_kv.specs.Records.Indexes.{IsFitting, IsIndexed, Places, indexed, placed, placed_by, read_out}
use Rattle.opfs_kv.specs.Records.Maps.{Map}
use Rattle.opfs_kv.specs.Records.Records.{IsRecord, Record, after, log_of, spelled, spelled_by}
use Rattle.opfs_kv.proofs.records.Fitted.{fitting-out, fitting-with}
use Rattle.opfs_kv.proofs.records.Growing.{reads-all}
use Rattle.opfs_kv.proofs.records.Spelled.{length-by}
use Rattle.opfs_kv.proofs.records.Steps.{good-append, indexed-append, log-append}

module _ (bytes : Text) (index : Places) (records : List Record) (i : IsIndexed bytes index) (good : AllByRecursion IsRecord records) where
  pub many-indexed : IsIndexed (bytes ++ log_of records) (indexed (length bytes) records index)
  many-indexed = record {
    records = i.records ++ records;
    log = record {
      good = good-append i.records records i.log.good good;
      are = ap (λ (x : Text). x ++ log_of records) i.log.are ∙ sym (log-append i.records records);
    };
    index_is =
        (λ t. indexed (ap length i.log.are t) records (i.index_is t))
        ∙ ap (λ (n : ℕ). indexed n records (indexed 0 i.records [])) (omega arith)
        ∙ sym (indexed-append 0 i.records records []);
  }

  pub many-map : read_out (bytes ++ log_of records) (indexed (length bytes) records index) ≡ fold after (read_out bytes index) records
  unfolding many-indexed
  many-map =
      reads-all (bytes ++ log_of records) (indexed (length bytes) records index) many-indexed
      ∙ fold-append after [] i.records records
      ∙ ap (λ (m : Map). fold after m records) (sym (reads-all bytes index i))

-- ---- what they take

fitting-record : (at : ℕ) (index : Places) (key : Text) (value : Option Text) → IsFitting at index → IsRecord (record { key = key; value = value }) → IsFitting (at + length (spelled_by key value)) (placed_by at index key value)
fitting-record at index key (Some v) fit good = fitting-with at (at + length (spelled_by key (Some v))) index key (record { at = at + (6 + length key); len = length v }) fit good (omega (arith, length-by key (Some v)))
fitting-record at index key None fit good = fitting-out at (at + length (spelled_by key None)) index key fit (omega arith)

pub fitting-many : (at : ℕ) (index : Places) (records : List Record) → IsFitting at index → AllByRecursion IsRecord records → IsFitting (at + length (log_of records)) (indexed at records index)
fitting-many at index [] fit good = subst (λ (n : ℕ). IsFitting n index) (omega arith) fit
fitting-many at index (r ∷ records) fit good =
    let long : (at + length (spelled r)) + length (log_of records) ≡ at + length (log_of (r ∷ records)) = omega (arith, length-append (spelled r) (log_of records)) in
    subst (λ (n : ℕ). IsFitting n (indexed at (r ∷ records) index)) long
    (fitting-many (at + length (spelled r)) (placed at index r) records (fitting-record at index r.key r.value fit good.0) good.1)
