-- Who stores a file that an access handle may write.
use Rattle.std.proofs.Common.{◌≡◌, ℕ, Bool, true, false, not, ◌&&◌, ◌||◌, if◌then◌else◌, List, [], ◌∷◌, ◌++◌, fold, Option, Some, None, refl, sym, ap, ◌∙◌, subst, inl, inr}
use Rattle.std.proofs.lemmas.Bool.{false≢true, cases_eq}
use Rattle.std.proofs.lemmas.List.Sums.{fold-append}
use Rattle.std.specs.List.{list_any}
use Rattle.opfs_base.specs.Places.{Place, place_of, child}
use Rattle.opfs_base.specs.Texts.{Text}
use Rattle.opfs_base.specs.Units.{unit_of}
use Rattle.opfs_hist.specs.declared.entry.Entry.{Entry}
use Rattle.opfs_hist.specs.declared.op.Mode.{Mode}
use Rattle.opfs_hist.specs.declared.op.Mode.TheVariants as mode
use Rattle.opfs_hist.specs.declared.op.Op.{Op}
use Rattle.opfs_hist.specs.declared.op.Op.TheVariants as op
use Rattle.opfs_locks.specs.declared.Want.TheVariants as want
use Rattle.opfs_machine.specs.declared.own.HandleOutline.{HandleOutline}
use Rattle.opfs_machine.specs.declared.own.HandleRow.{HandleRow}
use Rattle.opfs_machine.specs.declared.own.Own.{Own}
use Rattle.opfs_machine.specs.declared.own.Own.TheVariants as own
use Rattle.opfs_machine.specs.declared.state.FileRow.{FileRow}
use Rattle.opfs_machine.specs.declared.state.Row.{Row}
use Rattle.opfs_machine.specs.declared.state.State.{State}
use Rattle.opfs_machine.specs.Agents.{agent_of, own_of, open_handle}
use Rattle.opfs_machine.specs.Changes.{Change, make_root, make_directory, make_file, content, persist, where_missing, root_made, stream_stored, file_stored, handle_stored, mode_changed, stored_by, entry_changes, is_content}
use Rattle.opfs_machine.specs.Contents.{in_bytes}
use Rattle.opfs_machine.specs.Effects.{moment_of}
use Rattle.opfs_machine.specs.Histories.{evicted_by, LegalFrom, after_op, after_entry}
use Rattle.opfs_machine.specs.Openings.{begun}
use Rattle.opfs_machine.specs.Rows.{row_at, file_at}
use Rattle.opfs_machine.specs.Rulings.{is_read_write, want_of}
use Rattle.opfs_machine.specs.Steps.{is_refusal, evicted, after_reply}
use Rattle.opfs_machine.specs.Sums.{is_persistent}
use Rattle.opfs_laws.specs.Contents.{OnlyTheHolderStoresItsFile}
use Rattle.opfs_laws.specs.Holders.{AreLocksOfHolders}
use Rattle.opfs_laws.proofs.Apart.{no-handle-stream, no-handle-writer}
use Rattle.opfs_laws.proofs.Going.{NextFrom}
use Rattle.opfs_laws.proofs.LocksEffect.{IsHolder, handle-holder, locks-fold, locks-kept, locks-begun}
use Rattle.opfs_laws.proofs.Others.{legal-untaken}

-- At every point of a legal history each lock tells its holders.
abbrev LocksOn : State Text Own → List Text → Entry → List Entry → List Entry → Option Text → Type 0
LocksOn s gone d front rest told = NextFrom s gone d (front ++ rest) told → AreLocksOfHolders (fold after_entry (after_op (fold evicted s gone) d told) front)

pub locks-at : (s : State Text Own) (gone : List Text) (front rest : List Entry) → LegalFrom s gone (front ++ rest) → AreLocksOfHolders s
    → AreLocksOfHolders (fold after_entry (fold evicted s gone) front)
locks-at s gone [] rest legal locks = locks-fold gone s (legal-untaken s gone rest legal) locks
locks-at s gone (d ∷ front) rest legal locks =
    elim (evicted_by d.op) as (LocksOn s gone d front rest) [
      | Some unit ↦ λ next.
          subst (λ t. AreLocksOfHolders (fold after_entry t front)) (fold-append evicted s gone (unit ∷ [])) (locks-at s (gone ++ unit ∷ []) front rest next.1 locks)
      | None ↦ λ next. locks-at (after_reply (fold evicted s gone) d.agent d.op d.reply) [] front rest next.1 (locks-kept s gone d next.0 locks)
    ] legal

-- What stores no content.
abbrev stores : List Change → Bool
stores cs = list_any is_content cs

missing-none : (o : Option (Row Text)) (c : Change) → is_content c ≡ false → stores (where_missing o c) ≡ false
missing-none None c h = ap (λ b. b || false) h
missing-none (Some r) c h = refl

root-none : (s : State Text Own) (bucket : Text) (o : Option Text) → stores (root_made s bucket o) ≡ false
root-none s bucket None = refl
root-none s bucket (Some origin) = missing-none (row_at s (unit_of origin bucket, [])) (make_root (unit_of origin bucket)) refl

mode-none : (s : State Text Own) (grant : Bool) (bucket : Text) (o : Option Text) → stores (mode_changed s grant bucket o) ≡ false
mode-none s grant bucket None = refl
mode-none s grant bucket (Some origin) =
    elim (grant && not (is_persistent s (unit_of origin bucket))) as (λ b. stores (if b then persist (unit_of origin bucket) ∷ [] else []) ≡ false) [ true ↦ refl | false ↦ refl ]

module _ (s : State Text Own) (locks : AreLocksOfHolders s) (k n : ℕ) (h : HandleRow) (is : own_of (agent_of s k) n ≡ Some (own.Handle h)) (stamp : ℕ) (bytes : Text) where
  abbrev told : List Change
  told = content h.file stamp bytes ∷ []

  none : {A : Type 0} (cs : List Change) → stores cs ≡ false → cs ≡ told → A
  none cs no_one same = absurd (false≢true (sym no_one ∙ ap stores same))

  first-file : (p : Place) (m : ℕ) (new : Text) → content p m new ∷ [] ≡ told → p ≡ h.file
  first-file p m new same = ap file_in same
    where
      file_in : List Change → Place
      file_in [] = p
      file_in (content q x y ∷ cs) = q
      file_in (c ∷ cs) = p

  by-stream : (j m : ℕ) (o : Option Own) → own_of (agent_of s j) m ≡ o → (at : ℕ) → stream_stored at o ≡ told → j ≡ k
  by-stream j m None there at same = none [] refl same
  by-stream j m (Some (own.Stream w)) there at same =
      let file : w.file ≡ h.file = first-file w.file at w.buffer same in
      absurd (no-handle-stream s k j m w.file locks (record { row = own.Stream w; is = there; holds = refl }) n h is file)
  by-stream j m (Some own.ClosedStream) there at same = none [] refl same
  by-stream j m (Some (own.Handle x)) there at same = none [] refl same
  by-stream j m (Some own.ClosedHandle) there at same = none [] refl same
  by-stream j m (Some (own.Snapshot x)) there at same = none [] refl same
  by-stream j m (Some (own.Iterator x)) there at same = none [] refl same

  file-found : (p : Place) (o : Option (FileRow Text)) → file_stored p o ≡ told → p ≡ h.file
  file-found p None same = none [] refl same
  file-found p (Some f) same = first-file p f.stamp f.present same

  writer-found : (p : Place) (m : Mode) (w : HandleOutline) → w.file ≡ p → w.mode ≡ m → (elim (is_read_write m) as (λ x. List Change) [ true ↦ file_stored p (file_at s p) | false ↦ [] ]) ≡ told
      → (p ≡ h.file) × (want_of m ≡ want.Exclusive)
  writer-found p mode.ReadWrite w file kind same = (file-found p (file_at s p) same, refl)
  writer-found p mode.ReadOnly w file kind same = none [] refl same

  by-handle : (j m : ℕ) (o : Option HandleOutline) → open_handle in_bytes s j m ≡ o → handle_stored s o ≡ told → j ≡ k
  by-handle j m None there same = none [] refl same
  by-handle j m (Some w) there same =
      let found = writer-found w.file w.mode w refl refl same in
      let holder = handle-holder (own_of (agent_of s j) m) w there in
      let writer : IsHolder (own_of (agent_of s j) m) w.file want.Exclusive =
      record { row = holder.row; is = holder.is; holds = holder.holds ∙ ap (λ v. Some (w.file, v)) found.1 }
      in
      elim (cases_eq j k) [
        | inl equal ↦ equal
        | inr apart ↦ absurd (no-handle-writer s k j m w.file locks (λ e. apart (sym e)) writer n h is found.0)
      ]

  stored-own : (j : ℕ) (o : Op) → stored_by s j o ≡ told → j ≡ k
  unfolding stored_by
  stored-own j (op.Close m) same = by-stream j m (own_of (agent_of s j) m) refl (moment_of s j) same
  stored-own j (op.SyncFlush m) same = by-handle j m (open_handle in_bytes s j m) refl same
  stored-own j (op.SyncClose m) same = by-handle j m (open_handle in_bytes s j m) refl same
  stored-own j (op.GetDirectory bucket) same = none (root_made s bucket (agent_of s j).key) (root-none s bucket (agent_of s j).key) same
  stored-own j (op.GetDirectoryHandle dir name create) same =
      none (where_missing (row_at s (child (place_of dir) name)) (make_directory (child (place_of dir) name)))
      (missing-none (row_at s (child (place_of dir) name)) (make_directory (child (place_of dir) name)) refl) same
  stored-own j (op.GetFileHandle dir name create) same =
      none (where_missing (row_at s (child (place_of dir) name)) (make_file (child (place_of dir) name) (moment_of s j)))
      (missing-none (row_at s (child (place_of dir) name)) (make_file (child (place_of dir) name) (moment_of s j)) refl) same
  stored-own j (op.Persist bucket) same =
      none (mode_changed s (agent_of s j).grant bucket (agent_of s j).key) (mode-none s (agent_of s j).grant bucket (agent_of s j).key) same
  stored-own j (op.RemoveEntry dir name recursive) same = none (stored_by s j (op.RemoveEntry dir name recursive)) refl same
  stored-own j (op.Evict unit) same = none (stored_by s j (op.Evict unit)) refl same
  stored-own j o same = none [] refl same

  pub entry-own : (e : Entry) → entry_changes s e ≡ told → e.agent ≡ k
  entry-own e same =
      elim (is_refusal e.reply) as (λ b. (elim b as (λ x. List Change) [ true ↦ [] | false ↦ stored_by s e.agent e.op ]) ≡ told → e.agent ≡ k) [
        | true ↦ λ h. none [] refl h
        | false ↦ λ h. stored-own e.agent e.op h
      ] same

pub holder-stores : OnlyTheHolderStoresItsFile
holder-stores o front e rest k n h stamp bytes legal is told =
    entry-own (fold after_entry (begun o) front) (locks-at (begun o) [] front (e ∷ rest) legal (locks-begun o)) k n h is stamp bytes e told
