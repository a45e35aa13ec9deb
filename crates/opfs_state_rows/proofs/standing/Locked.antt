-- A file whose lock is taken or released: no sum changes, and its unit is marked anew.
use Rattle.std.proofs.Common.{◌≡◌, ℕ, true, not, ◌&&◌, List, Option, Some, None, is_some, option_map, refl, sym, ap, subst, ◌∙◌}
use Rattle.opfs_base.specs.Blocks.{blocks}
use Rattle.opfs_base.specs.Texts.{Text}
use Rattle.opfs_machine.specs.declared.state.FileRow.{FileRow as File}
use Rattle.opfs_machine.specs.Rows.{file_at, with_file}
use Rattle.opfs_pool.specs.Shares.{Blocks, share_at, changed}
use Rattle.opfs_shed.specs.Buckets.{Storage, bucket_at}
use Rattle.opfs_tree.specs.declared.row.FileRow.{FileRow}
use Rattle.opfs_tree.specs.Rows as tree
use Rattle.opfs_state_rows.specs.Standing.Seen.{Machine, machine_of, lines_of}
use Rattle.opfs_register.specs.Registers.{Registered}
use Rattle.opfs_state_rows.specs.Standing.Tied.{IsKnown, IsTied}
use Rattle.opfs_state_rows.specs.Standing.Moves.{Amounts, Moves}
use Rattle.opfs_state_rows.specs.Standing.Sums.{clearable}
use Rattle.opfs_state_rows.proofs.standing.FileMoves.{amounts_of, file-moves}
use Rattle.opfs_state_rows.proofs.standing.Lines.{file_line, file-at, lines-changed, there-at, clear-lines}
use Rattle.opfs_state_rows.proofs.standing.Stores.{shed-kept, pool-marked, marked-here}
use Rattle.opfs_state_rows.proofs.standing.TiedMoved.{tied_moved}

pub some_there : {X : Type 0} (o : Option X) → is_some o ≡ true → (x : X) × (o ≡ Some x)
some_there None h = cc
some_there (Some x) h = (x, refl)

file_row : (o : Option _) (f : FileRow) → tree.file_of o ≡ Some f → is_some o ≡ true
file_row None f h = cc
file_row (Some r) f h = refl

module _ (rows new : tree.Rows) (shed : Storage) (register : Registered) (unit : Text) (path : List Text) (change : FileRow → FileRow) (to : File ℕ → File ℕ)
    (same : (f : FileRow) → file_line (change f) ≡ to (file_line f)) (is : new ≡ tree.change_at (unit, path) change rows) where
  pub locked-machine : machine_of new shed.buckets register ≡ with_file (machine_of rows shed.buckets register) (unit, path) to
  locked-machine = ap (λ (ls : _). record (machine_of rows shed.buckets register) { rows = ls }) (ap lines_of is ∙ lines-changed (unit, path) change to same rows)

  module _ (pool pool_after : Blocks) (cost : ℕ) (top : List Text) (tied : IsTied (machine_of rows shed.buckets register) shed pool cost top) (there : is_some (tree.file_at (unit, path) rows) ≡ true) where
    file : (f : FileRow) × (tree.file_at (unit, path) rows ≡ Some f)
    file = some_there (tree.file_at (unit, path) rows) there

    pub file-known : IsKnown shed pool unit
    file-known = tied.known (unit, path) (there-at (unit, path) rows ∙ file_row (tree.row_at (unit, path) rows) file.0 file.1)

    pub locked-tied : ((f : File ℕ) → (to f).present ≡ f.present) → ((f : File ℕ) → (to f).durable ≡ f.durable)
        → pool_after ≡ changed pool unit (record (share_at pool.shares unit) { candidate = is_some (tree.row_at (unit, top) new) && not (bucket_at shed.buckets unit).persistent && tree.none_taken unit new })
        → IsTied (machine_of new shed.buckets register) shed pool_after cost top
    locked-tied present durable marked =
        let m = machine_of rows shed.buckets register in
        let f = file_line file.0 in
        let found : file_at m (unit, path) ≡ Some f = file-at (unit, path) rows ∙ ap (option_map file_line) file.1 in
        let after = with_file m (unit, path) to in
        let even : amounts_of (to f) ≡ amounts_of f = λ i. record { usage = blocks (present f i); blocks = blocks (durable f i); charge = 0 } in
        let moves : Moves m after unit (amounts_of f) (amounts_of f) = subst (λ (a : Amounts). Moves m after unit (amounts_of f) a) even (file-moves m (unit, path) to f found) in
        let told = λ (at : List Text). is_some (tree.row_at (unit, at) new) && not (bucket_at shed.buckets unit).persistent && tree.none_taken unit new in
        let mark : (share_at pool_after.shares unit).candidate ≡ clearable after unit =
        marked-here pool pool_after unit (told top) file-known.share marked ∙ (ap told tied.root ∙ (sym (clear-lines unit new shed.buckets register) ∙ ap (λ (x : Machine). clearable x unit) locked-machine)) in
        subst (λ (x : Machine). IsTied x shed pool_after cost top) (sym locked-machine)
        (tied_moved m after shed shed pool pool_after cost cost top unit (amounts_of f) (amounts_of f) tied file-known moves (shed-kept shed unit (blocks f.present))
        (pool-marked pool pool_after unit (told top) file-known.share marked (blocks f.durable)) mark refl)
