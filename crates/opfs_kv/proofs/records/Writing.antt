-- A map that is written by key, entry by entry.
use Rattle.std.proofs.Common.{◌≡◌, ℕ, ◌+◌, ◌≤◌, List, [], ◌∷◌, ◌++◌, length, map, drop, Some, sym, ap, subst, ◌∙◌, append_assoc, arith}
use Rattle.std.specs.List.{AllByRecursion}
use Rattle.std.proofs.lemmas.List.{length-take, length-append}
use Rattle.std.proofs.lemmas.List.Sums.{sum_by-cons}
use Rattle.opfs_base.specs.Texts.{Text}
use Rattle.opfs_kv.specs.Records.Indexes.{Places, IsEntry, IsFitting, cost_of, indexed, read_out}
use Rattle.opfs_kv.specs.Records.Maps.{with_key}
use Rattle.opfs_kv.specs.Records.Records.{Record, spelled_by, log_of, put_of}
use Rattle.opfs_kv.specs.declared.records.place.Place.{Place}
use Rattle.opfs_kv.proofs.records.Fitted.{cost, fitting-with}
use Rattle.opfs_kv.proofs.records.Spelled.{length-by}
use Rattle.opfs_splice.specs.Splicing.{window}

abbrev pub records_in : Text → Places → List Record
records_in bytes index = map put_of (read_out bytes index)

-- The rest of an index, when its first entries are written.
pub record IsPacked (bytes : Text) (all rest : Places) (made : Text) (index : Places) : Type 0 where
  pub good : AllByRecursion IsEntry rest
  pub short : length made + cost rest ≤ cost all
  pub fitting : IsFitting (length made) index
  pub bytes_are : made ++ log_of (records_in bytes rest) ≡ log_of (records_in bytes all)
  pub index_is : indexed (length made) (records_in bytes rest) index ≡ indexed 0 (records_in bytes all) []

window-short : (bytes : Text) (at len : ℕ) → length (window bytes at len) ≤ len
window-short bytes at len = omega (arith, length-take len (drop at bytes))

pub packed-next : (bytes : Text) (all : Places) (key : Text) (place : Place) (next : Places) (made : Text) (index : Places) (made' : Text) (index' : Places)
    → IsPacked bytes all ((key, place) ∷ next) made index
    → made' ≡ made ++ spelled_by key (Some (window bytes place.at place.len))
    → index' ≡ with_key index key (record { at = length made + (6 + length key); len = length (window bytes place.at place.len) })
    → IsPacked bytes all next made' index'
packed-next bytes all key place next made index made' index' p made-is index-is =
    let value = window bytes place.at place.len in
    let less : length value ≤ place.len = window-short bytes place.at place.len in
    let long : length made' ≡ length made + (6 + length key + length value) = ap length made-is ∙ length-append made (spelled_by key (Some value)) ∙ ap (λ n. length made + n) (length-by key (Some value)) in
    let small : place.len ≤ 65536 = p.good.0.1 in
    record {
      good = p.good.1;
      short = omega (arith, p.short, sum_by-cons cost_of (key, place) next, long, less);
      fitting = subst (IsFitting (length made')) (sym index-is)
          (fitting-with (length made) (length made') index key (record { at = length made + (6 + length key); len = length value }) p.fitting (p.good.0.0, omega (arith, less, small)) (omega (arith, long)));
      bytes_are = ap (λ (t : Text). t ++ log_of (records_in bytes next)) made-is ∙ append_assoc made (spelled_by key (Some value)) (log_of (records_in bytes next)) ∙ p.bytes_are;
      index_is =
          (λ i. indexed ((long ∙ sym (ap (λ n. length made + n) (length-by key (Some value)))) i) (records_in bytes next) (index-is i))
          ∙ p.index_is;
    }
