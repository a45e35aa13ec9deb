-- No call but persist changes which units are persistent.
use Rattle.std.proofs.Common.{◌≡◌, ℕ, Bool, true, false, Option, Some, None, [], refl, ◌∙◌}
use Rattle.std.specs.Prelude.{if◌then◌else◌}
use Rattle.opfs_base.specs.Units.{unit_of}
use Rattle.opfs_machine.specs.declared.state.Row.TheVariants as row
use Rattle.opfs_base.specs.Places.{Place, place_of, child}
use Rattle.opfs_base.specs.Texts.{Text}
use Rattle.opfs_hist.specs.declared.op.Mode.{Mode}
use Rattle.opfs_hist.specs.declared.op.Op.{Op}
use Rattle.opfs_hist.specs.declared.op.Op.TheVariants as op
use Rattle.opfs_machine.specs.declared.own.HandleOutline.{HandleOutline}
use Rattle.opfs_machine.specs.declared.own.Outline.{Outline}
use Rattle.opfs_machine.specs.declared.own.StreamOutline.{StreamOutline}
use Rattle.opfs_machine.specs.declared.state.FileRow.{FileRow}
use Rattle.opfs_machine.specs.declared.state.Row.{Row}
use Rattle.opfs_machine.specs.declared.state.Sizes.{Sizes}
use Rattle.opfs_machine.specs.Agents.{agent_of, own_of, with_own, open_stream, open_handle}
use Rattle.opfs_machine.specs.Contents.{in_lengths}
use Rattle.opfs_machine.specs.Effects.{made, with_written, with_changed, opens_bucket, opens_stream, takes_snapshot, closes_stream, aborts_stream, changes_file, flushes, closes_handle, discards, effect}
use Rattle.opfs_machine.specs.Rows.{row_at, with_row, file_at, with_file}
use Rattle.opfs_machine.specs.Rulings.{is_read_write, first_reserve}
use Rattle.opfs_state_rows.specs.Standing.Seen.{Machine}

made-modes : (m : Machine) (place : Place) (r : Row ℕ) → (made m place r).persistent ≡ m.persistent
made-modes m place r = by (row_at m place)
  where
    by : (o : Option (Row ℕ)) → (elim o as (λ x. Machine) [ Some old ↦ m | None ↦ with_row m place r ]).persistent ≡ m.persistent
    by None = refl
    by (Some old) = refl

changed-modes : (m : Machine) (k n : ℕ) (change : Outline → Outline) → (with_changed m k n change).persistent ≡ m.persistent
unfolding with_changed
changed-modes m k n change = by (own_of (agent_of m k) n)
  where
    by : (o : Option Outline) → (elim o as (λ x. Machine) [ Some r ↦ with_own m k n (change r) | None ↦ m ]).persistent ≡ m.persistent
    by None = refl
    by (Some r) = refl

written-modes : (m : Machine) (mode : Mode) (file : Place) (change : FileRow ℕ → FileRow ℕ) → (with_written m mode file change).persistent ≡ m.persistent
written-modes m mode file change = elim (is_read_write mode) as (λ b. (if b then with_file m file change else m).persistent ≡ m.persistent) [ true ↦ refl | false ↦ refl ]

bucket-modes : (m : Machine) (bucket : Text) (o : Option Text) → (opens_bucket m bucket o).persistent ≡ m.persistent
bucket-modes m bucket None = refl
bucket-modes m bucket (Some origin) = made-modes m (unit_of origin bucket, []) row.Directory

stream-modes : (m : Machine) (k : ℕ) (file : Place) (reserve : ℕ) (keep : Bool) (o : Option (FileRow ℕ)) → (opens_stream in_lengths m k file reserve keep o).persistent ≡ m.persistent
stream-modes m k file reserve keep None = refl
stream-modes m k file reserve keep (Some f) = refl

snapshot-modes : (m : Machine) (k : ℕ) (o : Option (FileRow ℕ)) → (takes_snapshot in_lengths m k o).persistent ≡ m.persistent
snapshot-modes m k None = refl
snapshot-modes m k (Some f) = refl

close-modes : (m : Machine) (z : Sizes) (k n : ℕ) (o : Option StreamOutline) → (closes_stream in_lengths m z k n o).persistent ≡ m.persistent
close-modes m z k n None = refl
close-modes m z k n (Some w) = refl

abort-modes : (m : Machine) (k n : ℕ) (o : Option StreamOutline) → (aborts_stream in_lengths m k n o).persistent ≡ m.persistent
abort-modes m k n None = refl
abort-modes m k n (Some w) = refl

file-modes : (m : Machine) (k n : ℕ) (change : ℕ → ℕ) (cursor size : ℕ) (o : Option HandleOutline) → (changes_file in_lengths m k n change cursor size o).persistent ≡ m.persistent
unfolding changes_file
file-modes m k n change cursor size None = refl
file-modes m k n change cursor size (Some h) = changed-modes _ k n _

flush-modes : (m : Machine) (z : Sizes) (k n : ℕ) (o : Option HandleOutline) → (flushes in_lengths m z k n o).persistent ≡ m.persistent
flush-modes m z k n None = refl
flush-modes m z k n (Some h) = changed-modes _ k n _ ∙ written-modes m h.mode h.file _

handle-modes : (m : Machine) (k n : ℕ) (o : Option HandleOutline) → (closes_handle in_lengths m k n o).persistent ≡ m.persistent
handle-modes m k n None = refl
handle-modes m k n (Some h) = written-modes m h.mode h.file _

discard-modes : (m : Machine) (k n : ℕ) (o : Option HandleOutline) → (discards in_lengths m k n o).persistent ≡ m.persistent
discard-modes m k n None = refl
discard-modes m k n (Some h) = written-modes m h.mode h.file _

-- Whether a call is persist.
abbrev pub is_persist : Op → Bool
is_persist (op.Persist bucket) = true
is_persist o = false

pub effect-modes : (m : Machine) (z : Sizes) (k : ℕ) (o : Op) → is_persist o ≡ false → (effect in_lengths m z k o).persistent ≡ m.persistent
unfolding effect
effect-modes m z k (op.GetDirectory bucket) h = bucket-modes m bucket (agent_of m k).key
effect-modes m z k (op.GetDirectoryHandle dir name create) h = made-modes m (child (place_of dir) name) _
effect-modes m z k (op.GetFileHandle dir name create) h = made-modes m (child (place_of dir) name) _
effect-modes m z k (op.Next n dir) h = changed-modes m k n _
effect-modes m z k (op.GetFile at) h = snapshot-modes m k (file_at m (place_of at))
effect-modes m z k (op.CreateWritable at keep) h = stream-modes m k (place_of at) (first_reserve in_lengths m at keep) keep (file_at m (place_of at))
effect-modes m z k (op.Write n bytes position) h = changed-modes m k n _
effect-modes m z k (op.Seek n position) h = changed-modes m k n _
effect-modes m z k (op.Truncate n size) h = changed-modes m k n _
effect-modes m z k (op.Close n) h = close-modes m z k n (open_stream in_lengths m k n)
effect-modes m z k (op.Abort n) h = abort-modes m k n (open_stream in_lengths m k n)
effect-modes m z k (op.SyncRead n len at) h = changed-modes m k n _
effect-modes m z k (op.SyncWrite n bytes at) h = file-modes m k n _ _ _ (open_handle in_lengths m k n)
effect-modes m z k (op.SyncTruncate n size) h = file-modes m k n _ _ _ (open_handle in_lengths m k n)
effect-modes m z k (op.SyncFlush n) h = flush-modes m z k n (open_handle in_lengths m k n)
effect-modes m z k (op.SyncClose n) h = handle-modes m k n (open_handle in_lengths m k n)
effect-modes m z k (op.Discard n) h = discard-modes m k n (open_handle in_lengths m k n)
effect-modes m z k (op.Persist bucket) h = absurd (bad h)
  where
    bad : true ≡ false → ⊥
    bad e = cc
effect-modes m z k o h = refl
