-- Sums over rows.
use Rattle.std.proofs.Common.{◌≡◌, ℕ, ◌+◌, ◌*◌, List, [], ◌∷◌, refl, arith}
use Rattle.std.specs.Prelude.{map, sum_by}
use Rattle.std.proofs.lemmas.List.Sums.{sum_by-cons}
use Rattle.opfs_base.specs.Measures.{mode_charge, place_charge, block_charge}
use Rattle.opfs_base.specs.Places.{Place}
use Rattle.opfs_base.specs.Texts.{Text}
use Rattle.opfs_codec.specs.declared.change.Format.TheVariants.{New}
use Rattle.opfs_machine.specs.Openings.{Stored, folder, document}
use Rattle.opfs_records.specs.Replay.Sums.{charge_of, row_charge}
use Rattle.opfs_tree.specs.Rows.{kind_of}
use Rattle.opfs_tree.specs.declared.row.Row.{Row}
use Rattle.opfs_dump.specs.declared.text.dumped.DumpedRow.{DumpedRow}
use Rattle.opfs_dump.specs.Text.Limits.{bare_row, bare_rows, blocks_needed, charge_of_map, stored_blocks}
use Rattle.opfs_dump.specs.Text.Seen.{map_of, row_of, stored_of}

pub needed_is : (rows : List DumpedRow) → sum_by (λ r. stored_blocks (stored_of r.file)) rows ≡ blocks_needed (map row_of rows)
needed_is [] = refl
needed_is (r ∷ rs) =
    omega (arith, needed_is rs, sum_by-cons (λ (x : DumpedRow). stored_blocks (stored_of x.file)) r rs, sum_by-cons (λ (x : Place × Stored). stored_blocks x.1) (row_of r) (map row_of rs))

pub charged : (place : Place) (s : Stored) (made stored whole : ℕ) → made ≡ place_charge (kind_of (bare_row s)) place → stored ≡ block_charge * stored_blocks s → whole ≡ made + stored → whole ≡ row_charge New place (bare_row s)
charged (unit, []) folder made stored whole m s w = omega (arith, m, s, w)
charged (unit, name ∷ names) folder made stored whole m s w = omega (arith, m, s, w)
charged (unit, []) (document bytes stamp) made stored whole m s w = omega (arith, m, s, w)
charged (unit, name ∷ names) (document bytes stamp) made stored whole m s w = omega (arith, m, s, w)

rows_charge_is : (rows : List DumpedRow) → sum_by (λ r. row_charge New r.place (bare_row (stored_of r.file))) rows ≡ sum_by (λ e. row_charge New e.0 e.1) (bare_rows (map row_of rows))
rows_charge_is [] = refl
rows_charge_is (r ∷ rs) =
    omega (
      arith,
      rows_charge_is rs,
      sum_by-cons (λ (x : DumpedRow). row_charge New x.place (bare_row (stored_of x.file))) r rs,
      sum_by-cons (λ (x : Place × Row). row_charge New x.0 x.1) (r.place, bare_row (stored_of r.file)) (bare_rows (map row_of rs)),
    )

pub charge_is : (items : List DumpedRow) (persistent : List Text) (rows modes whole : ℕ) → rows ≡ sum_by (λ r. row_charge New r.place (bare_row (stored_of r.file))) items → modes ≡ sum_by mode_charge persistent → whole ≡ rows + modes
    → whole ≡ charge_of_map (map_of items persistent)
unfolding charge_of
charge_is items persistent rows modes whole r m w = omega (arith, r, m, w, rows_charge_is items)
