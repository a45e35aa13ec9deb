-- A batch's records, one after another.
use Rattle.std.proofs.Common.{◌≡◌, ℕ, ◌+◌, List, [], ◌∷◌, ◌++◌, length, ap, arith}
use Rattle.std.proofs.lemmas.List.{length-append}
use Rattle.opfs_kv.specs.Records.Records.{Record, log_of, spelled}
use Rattle.opfs_kv.proofs.records.Steps.{log-append}

-- With a record more.
pub need-more : (records : List Record) (r : Record) (need more : ℕ) → need ≡ length (log_of records) → more ≡ length (spelled r) → need + more ≡ length (log_of (records ++ r ∷ []))
need-more records r need more is more-is =
    let long = ap length (log-append records (r ∷ [])) in
    omega (arith, is, more-is, long, length-append (log_of records) (log_of (r ∷ [])), length-append (spelled r) [])
