-- Each row is read back from its value, and all rows one after another.
use Rattle.std.proofs.Common.{◌≡◌, ℕ, ◌+◌, true, map, List, [], ◌∷◌, ◌++◌, Some, None, Ok, refl, sym, ap, ◌∙◌, append_assoc, append-nil}
use Rattle.std.specs.Prelude.{codes, if◌then◌else◌}
use Rattle.std.specs.List.{AllByRecursion}
use Rattle.hex.proofs.HexLemmas.{decode_of-encode_lower}
use Rattle.serde_json.specs.Data.{Data, string}
use Rattle.serde_json.specs.View.{items_of}
use Rattle.opfs_base.specs.Places.{Place}
use Rattle.opfs_base.specs.Texts.{Text}
use Rattle.opfs_machine.specs.Openings.{Stored, folder, document}
use Rattle.opfs_script.specs.Members.{◌>>=◌, values_of}
use Rattle.opfs_dump.specs.Text.Limits.{may_follow}
use Rattle.opfs_dump.specs.Text.Reading.{texts_of, names_of, file_in, row_in, next_row, rows_from}
use Rattle.opfs_dump.specs.Text.Texts.{document_value, row_value}
use Rattle.opfs_commands.specs.DumpLaws.Dumpable.{IsNamed, IsToldRow, AllFollow}

-- What is put into an array comes out of it.
pub items-back : (values : List Data) → values_of (items_of values) ≡ values
items-back [] = refl
items-back (v ∷ more) = ap (λ vs. v ∷ vs) (items-back more)

pub texts-back : (texts : List Text) → texts_of (map string texts) ≡ Some texts
texts-back [] = refl
texts-back (t ∷ more) = ap (λ o. o >>= λ rest. Some (t ∷ rest)) (texts-back more)

names-back : (names : List Text) → AllByRecursion IsNamed names → names_of (map string names) ≡ Some names
names-back [] all = refl
names-back (n ∷ more) all =
    ap (λ t. (if t then Some n else None) >>= λ first. names_of (map string more) >>= λ rest. Some (first ∷ rest)) all.0.1
    ∙ ap (λ o. o >>= λ rest. Some (n ∷ rest)) (names-back more all.1)

path-back : (names : List Text) → AllByRecursion IsNamed names → names_of (values_of (items_of (map string names))) ≡ Some names
path-back names all = ap names_of (items-back (map string names)) ∙ names-back names all

pub row-back : (e : Place × Stored) → IsToldRow e → row_in (row_value e) ≡ Some e
unfolding row_in
row-back (place, folder) told =
    ap (λ o. (o >>= λ path. Some (place.0, path)) >>= λ at. Some (at, folder)) (path-back place.1 told.1)
row-back (place, document bytes stamp) told =
    ap (λ o. (o >>= λ path. Some (place.0, path)) >>= λ at. file_in (document_value place bytes stamp) >>= λ stored. Some (at, stored)) (path-back place.1 told.1)
    ∙ ap (λ o. (elim o [ Ok bytes ↦ Some bytes | Rattle.std.specs.Prelude.Err error ↦ None ] >>= λ read. Some (document read stamp)) >>= λ stored. Some (place, stored)) (decode_of-encode_lower bytes told.2.0)

next-back : (done : List (Place × Stored)) (e : Place × Stored) → IsToldRow e → may_follow done e ≡ true → next_row done (row_value e) ≡ Some e
unfolding next_row
next-back done e told may =
    ap (λ o. o >>= λ x. (if may_follow done x then Some x else None)) (row-back e told) ∙ ap (λ t. if t then Some e else None) may

pub rows-back : (at : ℕ) (done rest : List (Place × Stored)) → AllByRecursion IsToldRow rest → AllFollow done rest → rows_from at done (map row_value rest) ≡ Ok (done ++ rest)
unfolding rows_from
rows-back at done [] told follow = ap Ok (sym (append-nil done))
rows-back at done (e ∷ more) told follow =
    ap (λ o. elim o [ None ↦ Rattle.std.specs.Prelude.Err (Rattle.opfs_dump.specs.declared.text.refusal.DumpRefusal.TheVariants.BadDump at) | Some x ↦ rows_from (at + 1) (done ++ x ∷ []) (map row_value more) ]) (next-back done e told.0 follow.0)
    ∙ rows-back (at + 1) (done ++ e ∷ []) more told.1 follow.1 ∙ ap Ok (append_assoc done (e ∷ []) more)
