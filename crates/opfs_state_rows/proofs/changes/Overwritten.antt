-- Access handles that write their file.
use Rattle.std.proofs.Common.{◌≡◌, ℕ, suc, ◌+◌, ◌-◌, ◌^◌, ◌<◌, ◌≤◌, Some, None, Option, List, length, refl, sym, ap, ◌∙◌, subst, arith}
use Rattle.std.specs.Prelude.{max}
use Rattle.opfs_base.specs.Blocks.{blocks}
use Rattle.opfs_base.specs.Places.{Place}
use Rattle.opfs_base.specs.Texts.{Text}
use Rattle.opfs_base.specs.Units.{origin_of}
use Rattle.opfs_base.specs.declared.extents.Extent.{Extent}
use Rattle.opfs_hist.specs.declared.op.Op.TheVariants as op
use Rattle.opfs_laws.specs.Lengths.Kept.{Kept}
use Rattle.opfs_machine.specs.declared.own.HandleOutline.{HandleOutline}
use Rattle.opfs_machine.specs.declared.own.Outline.{Outline}
use Rattle.opfs_machine.specs.declared.own.Outline.TheVariants as outline
use Rattle.opfs_machine.specs.declared.state.FileRow.{FileRow as File}
use Rattle.opfs_machine.specs.declared.state.Sizes.{Sizes}
use Rattle.opfs_machine.specs.Agents.{agent_of, own_of, with_own, open_handle, counted}
use Rattle.opfs_machine.specs.Contents.{in_lengths, handle_with}
use Rattle.opfs_machine.specs.Effects.{effect, with_changed, changes_file, moment_of}
use Rattle.opfs_machine.specs.Rows as machine
use Rattle.opfs_machine.specs.Rulings.{ruling, reserve_for, start_of, size_written}
use Rattle.opfs_machine.specs.Sums.{usage, pool}
use Rattle.opfs_register.specs.Slots.{handle_at}
use Rattle.opfs_state_rows.proofs.standing.Flushed.{row-change, line-change}
use Rattle.opfs_state_rows.proofs.standing.Lines.{file_line}
use Rattle.opfs_state_rows.proofs.standing.SlotMoves.{handle-row}
use Rattle.opfs_state_rows.specs.Standing.Contents.{showing}
use Rattle.opfs_state_rows.specs.Standing.Seen.{Machine, Seen}
use Rattle.opfs_state_rows.proofs.changes.Found.{some-is, handle-place, handle-own}
use Rattle.opfs_state_rows.proofs.changes.Grown.{changed-row, as-many}
use Rattle.opfs_state_rows.proofs.changes.Reckoned.{Reckons, handle-reckons}
use Rattle.opfs_state_rows.specs.Changes.Asking.{made_at}
use Rattle.opfs_state_rows.specs.Changes.Changed.{IsDone, tree_by, overwritten_by}
use Rattle.opfs_tree.specs.declared.row.FileRow.{FileRow}
use Rattle.opfs_tree.specs.Rows.{Rows, file_at, change_at, written}

grown-to : (h : HandleOutline) (size more : ℕ) → more ≡ reserve_for h.reserve size - h.reserve → ◌≡◌ {A = Outline} (outline.Handle (record h { reserve = h.reserve + more })) (outline.Handle (record h { reserve = max h.reserve (blocks size) }))
grown-to h size more is = ap (λ (n : ℕ). outline.Handle (record h { reserve = n })) (let same : h.reserve + more ≡ max h.reserve (blocks size) = omega (arith, is) in same)

module _ (m one : Machine) (at n size more : ℕ) (h : HandleOutline) (found : handle_at m.agents at n ≡ Some h) (is : more ≡ reserve_for h.reserve size - h.reserve)
    (grown : (v : HandleOutline) → handle_at m.agents at n ≡ Some v → one ≡ with_own m (suc at) (suc n) (outline.Handle (record v { reserve = v.reserve + more }))) where
  pub handle-grown : (place : Place) (change : File ℕ → File ℕ) → machine.with_file one place change ≡ with_changed (machine.with_file m place change) (suc at) (suc n) (λ r. handle_with r (reserve_for h.reserve size))
  handle-grown place change =
      ap (λ (x : Machine). machine.with_file x place change) (grown h found ∙ ap (with_own m (suc at) (suc n)) (grown-to h size more is))
      ∙ sym (changed-row (machine.with_file m place change) (suc at) (suc n) (λ r. handle_with r (reserve_for h.reserve size)) (outline.Handle h)
      (handle-own m (suc at) (suc n) h (sym (handle-place m (suc at) at (suc n) n refl refl) ∙ found)))

  pub handle-many : length one.agents ≡ length m.agents
  handle-many = as-many m one (suc at) (suc n) _ (grown h found)

  pub handle-entries : one.entries ≡ m.entries
  handle-entries = ap (λ (x : Machine). x.entries) (grown h found)

  pub handle-usage : usage in_lengths one (origin_of h.file.0) ≡ usage in_lengths m (origin_of h.file.0)
  handle-usage =
      let new = outline.Handle (record h { reserve = h.reserve + more }) in
      let moves = handle-reckons m at n h new found (handle-row (record h { reserve = h.reserve + more })) in
      ap (λ (x : Machine). usage in_lengths x (origin_of h.file.0)) (grown h found) ∙ omega (arith, moves.usage)

-- A change of a file as of the file that is there.
pub shown-as : (m : Machine) (place : Place) (present stamp : ℕ) (f : File ℕ) (change : ℕ → ℕ) → machine.file_at m place ≡ Some f → present ≡ change f.present
    → machine.with_file m place (showing present stamp) ≡ machine.with_file m place (λ x. record x { present = change x.present; stamp = stamp })
shown-as m place present stamp f change found is =
    ap (λ (rows : machine.Rows ℕ). record m { rows = rows })
    (line-change place (showing present stamp) (λ x. record x { present = change x.present; stamp = stamp }) m.rows
    (λ g same. ap (λ (n : ℕ). record g { present = n; stamp = stamp }) (is ∙ ap (λ (x : File ℕ). change x.present) (some-is (sym found ∙ same)))))

pub written-as : (t : Rows) (place : Place) (present stamp : ℕ) (f : FileRow) (change : ℕ → ℕ) → file_at place t ≡ Some f → present ≡ change f.present
    → change_at place (written present stamp) t ≡ change_at place (λ x. written (change x.present) stamp x) t
written-as t place present stamp f change found is =
    row-change place (written present stamp) (λ x. written (change x.present) stamp x) t (λ g same. ap (λ (n : ℕ). written n stamp g) (is ∙ ap (λ (x : FileRow). change x.present) (some-is (sym found ∙ same))))

-- The whole calls.
module _ (s new : Seen) (z : Sizes) (k n : ℕ) (h : HandleOutline) (extents : Option (List Extent)) (is : open_handle in_lengths s.machine k n ≡ Some h) where
  pub sync-truncated : (size : ℕ) → new.machine ≡ counted (with_changed (machine.with_file s.machine h.file (showing size (moment_of s.machine k))) k n (λ r. handle_with r (reserve_for h.reserve size))) k
      → new.tree ≡ change_at h.file (written size (moment_of s.machine k)) s.tree → IsDone s new z k (op.SyncTruncate n size) extents
  unfolding effect tree_by changes_file
  sync-truncated size machine tree = record {
    machine = machine ∙ ap (λ o. counted (changes_file in_lengths s.machine k n (λ f. size) 0 size o) k) (sym is);
    tree = tree ∙ ap (overwritten_by s.tree (written size (moment_of s.machine k))) (sym is);
  }

  pub sync-written : (bytes : Text) (at : Option ℕ) (present : ℕ) (f : File ℕ) (row : FileRow) → machine.file_at s.machine h.file ≡ Some f → file_at h.file s.tree ≡ Some row → f ≡ file_line row → present ≡ max f.present (start_of z at + length bytes)
      → new.machine ≡ counted (with_changed (machine.with_file s.machine h.file (showing present (moment_of s.machine k))) k n (λ r. handle_with r (reserve_for h.reserve (size_written z at bytes)))) k
      → new.tree ≡ change_at h.file (written present (moment_of s.machine k)) s.tree → IsDone s new z k (op.SyncWrite n bytes at) extents
  unfolding effect tree_by changes_file
  sync-written bytes at present f row found there same long machine tree = record {
    machine =
        machine
        ∙ ap (λ (x : Machine). counted (with_changed x k n (λ r. handle_with r (reserve_for h.reserve (size_written z at bytes)))) k)
        (shown-as s.machine h.file present (moment_of s.machine k) f (λ p. max p (start_of z at + length bytes)) found long)
        ∙ ap (λ o. counted (changes_file in_lengths s.machine k n (λ p. max p (start_of z at + length bytes)) 0 (size_written z at bytes) o) k) (sym is);
    tree =
        tree ∙ written-as s.tree h.file present (moment_of s.machine k) row (λ p. max p (start_of z at + length bytes)) there (long ∙ ap (λ (x : File ℕ). max x.present (start_of z at + length bytes)) same)
        ∙ ap (overwritten_by s.tree (λ f. written (max f.present (start_of z at + length bytes)) (moment_of s.machine k) f)) (sym is);
  }
