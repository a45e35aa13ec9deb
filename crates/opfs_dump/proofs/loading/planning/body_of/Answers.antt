use Rattle.std.proofs.Common.{◌≡◌, ℕ, List, Some, sym, ap, subst, ◌∙◌, arith}
use Rattle.std.specs.Prelude.{map}
use Rattle.opfs_base.specs.Places.{Place}
use Rattle.opfs_codec.specs.declared.change.Format.TheVariants.{New}
use Rattle.opfs_machine.specs.Openings.{Stored}
use Rattle.opfs_records.specs.Replay.Built.{Built, IsSound}
use Rattle.opfs_records.specs.Replay.Sums.{charge_of, persistent_in}
use Rattle.opfs_records.specs.Checkpoint.Written.{stored_rows}
use Rattle.opfs_tree.specs.Rows.{Rows}
use Rattle.opfs_dump.specs.Text.Seen.{row_of}
use Rattle.opfs_dump.specs.Text.Whole.{dump_of}
use Rattle.opfs_dump.specs.declared.text.dumped.DumpedRow.{DumpedRow}
use Rattle.opfs_dump.specs.Loading.Laid.{laid, laid_map}
use Rattle.opfs_dump.proofs.loading.Lying.{laid_charge, laid_sound, stored_laid}
use Rattle.opfs_dump.proofs.loading.planning.body_of.Goals as goal

pub returns-clause-builds : goal.returns-clause-builds
returns-clause-builds c =
    let size : ℕ = c.args.dumped.now.geometry.blocks in
    let items : List DumpedRow = c.args.dumped.now.rows.items in
    let rows : List (Place × Stored) = map row_of items in
    let units : List (List ℕ) = persistent_in c.in_ok-shed.shed.buckets in
    let tree : c.in_ok-tree.tree ≡ laid 0 rows = c.in_ok-tree.ensures ∙ ap (λ (xs : List DumpedRow). laid 0 (map row_of xs)) c.deref.ensures.value in
    let sound : IsSound size (stored_rows c.in_ok-tree.tree) = subst (λ (x : Rows). IsSound size (stored_rows x)) (sym tree) (laid_sound size rows c.args.dumped.now.few) in
    let modes : units ≡ c.args.dumped.now.persistent.items = c.in_ok-shed.ensures ∙ c.deref-2.ensures.value in
    c.in_ok-body.ensures.builds size sound
    ∙ (ap (λ (x : Rows). Some (record { rows = stored_rows x; persistent = units })) tree
    ∙ (ap Some (stored_laid rows units) ∙ ap (λ (p : List (List ℕ)). Some (record { rows = laid 0 rows; persistent = p })) modes))

pub returns-clause-short : goal.returns-clause-short
returns-clause-short c =
    let size : ℕ = c.args.dumped.now.geometry.blocks in
    let items : List DumpedRow = c.args.dumped.now.rows.items in
    let rows : List (Place × Stored) = map row_of items in
    let units : List (List ℕ) = persistent_in c.in_ok-shed.shed.buckets in
    let tree : c.in_ok-tree.tree ≡ laid 0 rows = c.in_ok-tree.ensures ∙ ap (λ (xs : List DumpedRow). laid 0 (map row_of xs)) c.deref.ensures.value in
    let sound : IsSound size (stored_rows c.in_ok-tree.tree) = subst (λ (x : Rows). IsSound size (stored_rows x)) (sym tree) (laid_sound size rows c.args.dumped.now.few) in
    let modes : units ≡ c.args.dumped.now.persistent.items = c.in_ok-shed.ensures ∙ c.deref-2.ensures.value in
    let built : record { rows = stored_rows c.in_ok-tree.tree; persistent = units } ≡ laid_map (dump_of c.args.dumped.now).map =
    ap (λ (x : Rows). record { rows = stored_rows x; persistent = units }) tree
    ∙ (stored_laid rows units ∙ ap (λ (p : List (List ℕ)). record { rows = laid 0 rows; persistent = p }) modes) in
    omega (arith, c.in_ok-body.ensures.fits size sound, ap (λ (b : Built). charge_of New b) built, laid_charge (dump_of c.args.dumped.now).map)
