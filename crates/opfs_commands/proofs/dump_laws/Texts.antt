-- The text of what is dumpable is read back.
use Rattle.std.proofs.Common.{◌≡◌, ◌+◌, ◌≤◌, true, false, map, [], length, Some, None, Ok, Err, ap, ◌∙◌}
use Rattle.std.specs.Prelude.{if◌then◌else◌, nat_lt}
use Rattle.std.proofs.lemmas.Bool.{le-ltb}
use Rattle.serde_json.specs.Data.{string}
use Rattle.serde_json.specs.Read.{read}
use Rattle.serde_json.specs.View.{items_of}
use Rattle.opfs_image.specs.Superblock.{area_bytes}
use Rattle.opfs_image.specs.declared.geometry.Geometry.{Geometry}
use Rattle.opfs_machine.specs.Openings.{Map}
use Rattle.opfs_script.specs.Members.{◌>>=◌, values_of}
use Rattle.opfs_script.specs.Reading.{json_of}
use Rattle.opfs_dump.specs.Text.Limits.{are_units, blocks_needed, charge_of_map}
use Rattle.opfs_dump.specs.Text.Reading.{Dump, Top, texts_of, top_in, if_fits, if_rows, if_topped, if_json, most_bytes, reads_dump}
use Rattle.opfs_dump.specs.Text.Texts.{row_value, dump_value, dump_text}
use Rattle.opfs_dump.specs.declared.text.refusal.DumpRefusal.TheVariants as refusal
use Rattle.opfs_commands.specs.DumpLaws.Dumpable.{IsDumpable}
use Rattle.opfs_commands.proofs.dump_laws.Back.{read-back, line-utf8}
use Rattle.opfs_commands.proofs.dump_laws.Rows.{items-back, texts-back, rows-back}
use Rattle.opfs_commands.proofs.dump_laws.Values.{dump-plain, dump-depth}

-- The value that the text is as JSON.
json-back : (g : Geometry) (m : Map) → IsDumpable g m → json_of (dump_text g m) ≡ Some (dump_value g m)
unfolding dump_text
json-back g m is =
    let value = dump_value g m in
    let plain = dump-plain g m is in
    ap (λ t. elim t [ true ↦ read (dump_text g m) | false ↦ None ]) (line-utf8 value plain) ∙ read-back value plain (dump-depth g m)

abbrev top_of : Geometry → Map → Top
top_of g m = record { geometry = g; persistent = m.persistent; rows = map row_value m.rows }

-- What the whole has besides its rows.
top-back : (g : Geometry) (m : Map) → IsDumpable g m → top_in (dump_value g m) ≡ Some (top_of g m)
unfolding top_in
top-back g m is =
    ap (λ t. (if t then Some g else None) >>= λ geometry.
    (texts_of (values_of (items_of (map string m.persistent))) >>= λ units. (if are_units units then Some units else None)) >>= λ persistent.
    Some (record { geometry = geometry; persistent = persistent; rows = values_of (items_of (map row_value m.rows)) })) is.range
    ∙ ap (λ o. (o >>= λ units. (if are_units units then Some units else None)) >>= λ persistent. Some (record { geometry = g; persistent = persistent; rows = values_of (items_of (map row_value m.rows)) }))
    (ap texts_of (items-back (map string m.persistent)) ∙ texts-back m.persistent)
    ∙ ap (λ t. (if t then Some m.persistent else None) >>= λ persistent. Some (record { geometry = g; persistent = persistent; rows = values_of (items_of (map row_value m.rows)) })) is.units
    ∙ ap (λ rows. Some (record { geometry = g; persistent = m.persistent; rows = rows })) (items-back (map row_value m.rows))

fits-back : (d : Dump) → blocks_needed d.map.rows ≤ d.geometry.blocks → charge_of_map d.map + 7 ≤ area_bytes d.geometry → if_fits d ≡ Ok d
unfolding if_fits
fits-back d blocks room =
    ap (λ t. if t then Err (refusal.Full (blocks_needed d.map.rows) d.geometry.blocks)
    else (if nat_lt (area_bytes d.geometry) (charge_of_map d.map + 7) then Err (refusal.Overfull (charge_of_map d.map) (area_bytes d.geometry)) else Ok d)) (le-ltb _ _ blocks)
    ∙ ap (λ t. if t then Err (refusal.Overfull (charge_of_map d.map) (area_bytes d.geometry)) else Ok d) (le-ltb _ _ room)

pub text-back : (g : Geometry) (m : Map) → IsDumpable g m → length (dump_text g m) ≤ most_bytes → reads_dump (dump_text g m) ≡ Ok (record { geometry = g; map = m })
unfolding reads_dump
text-back g m is short =
    ap (λ t. if t then Err refusal.TooLong else if_json (json_of (dump_text g m))) (le-ltb _ _ short)
    ∙ ap if_json (json-back g m is) ∙ ap if_topped (top-back g m is)
    ∙ ap (if_rows (top_of g m)) (rows-back 1 [] m.rows is.rows is.follow)
    ∙ fits-back (record { geometry = g; map = m }) is.blocks is.room
