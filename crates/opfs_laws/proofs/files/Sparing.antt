-- What a change leaves of a file that stays.
use Rattle.std.proofs.Common.{◌≡◌, ◌≢◌, ℕ, Bool, true, false, cond, not, ◌&&◌, if◌then◌else◌, filter, List, [], ◌∷◌, ◌++◌, fold, Option, Some, None, refl, sym, ap, ◌∙◌, subst}
use Rattle.std.specs.FinMap.Entries.{find, find-put, find-where_key}
use Rattle.opfs_base.specs.Places.{Place, place_cmp, place_of, child, is_within}
use Rattle.opfs_base.specs.Texts.{Text}
use Rattle.opfs_base.specs.Units.{unit_of}
use Rattle.opfs_hist.specs.declared.entry.Entry.{Entry}
use Rattle.opfs_hist.specs.declared.op.Op.{Op}
use Rattle.opfs_hist.specs.declared.op.Op.TheVariants as op
use Rattle.opfs_machine.specs.declared.own.HandleOutline.{HandleOutline}
use Rattle.opfs_machine.specs.declared.own.Own.{Own}
use Rattle.opfs_machine.specs.declared.own.Own.TheVariants as own
use Rattle.opfs_machine.specs.declared.state.FileRow.{FileRow}
use Rattle.opfs_machine.specs.declared.state.State.{State}
use Rattle.opfs_machine.specs.Agents.{agent_of, own_of, open_handle}
use Rattle.opfs_machine.specs.Changes.{Change, make_root, make_directory, make_file, content, persist, where_missing, root_made, stream_stored, file_stored, handle_stored, mode_changed, stored_by, entry_changes, stored_at, changed}
use Rattle.opfs_machine.specs.Contents.{in_bytes}
use Rattle.opfs_machine.specs.Effects.{effect, refused, moment_of}
use Rattle.opfs_machine.specs.Histories.{evicted_by, after_op, after_entry}
use Rattle.opfs_machine.specs.Openings.{Map, Stored, folder, document}
use Rattle.opfs_machine.specs.Replies.{sizes_of}
use Rattle.opfs_machine.specs.Rows.{row_at, file_at, file_of, without}
use Rattle.opfs_machine.specs.Rulings.{is_read_write}
use Rattle.opfs_machine.specs.Steps.{evicted, is_refusal}
use Rattle.opfs_machine.specs.Sums.{is_persistent}
use Rattle.opfs_laws.proofs.Spots.{place_total, exact_places, place_apart, row-without}
use Rattle.opfs_laws.specs.Files.Staying.{kept_by, standing_at}

abbrev pub Keeps : Place → Change → Type 0
Keeps p c = (m : Map) → standing_at (changed m c) p ≡ kept_by p (standing_at m p) c

abbrev pub AllKeep : Place → List Change → Type 0
AllKeep p [] = Unit {0}
AllKeep p (c ∷ cs) = Keeps p c × AllKeep p cs

pub keep-both : (p : Place) (xs ys : List Change) → AllKeep p xs → AllKeep p ys → AllKeep p (xs ++ ys)
keep-both p [] ys h g = g
keep-both p (x ∷ xs) ys h g = (h.0, keep-both p xs ys h.1 g)

pub keep-front : (p : Place) (front rest : List Change) → AllKeep p (front ++ rest) → (m : Map) → standing_at (fold changed m front) p ≡ fold (kept_by p) (standing_at m p) front
keep-front p [] rest h m = refl
keep-front p (c ∷ front) rest h m = keep-front p front rest h.1 (changed m c) ∙ ap (λ x. fold (kept_by p) x front) (h.0 m)

-- ---- one change

put-other : (p q : Place) (x : Stored) (m : Map) → p ≢ q → standing_at (stored_at m q x) p ≡ standing_at m p
put-other p q x m apart = find-put place_cmp place_total p q x m.rows ∙ ap (λ b. cond b (Some x) (standing_at m p)) (place_apart p q apart)

content-keeps : (p q : Place) (stamp : ℕ) (bytes : Text) → Keeps p (content q stamp bytes)
content-keeps p q stamp bytes m = find-put place_cmp place_total p q (document bytes stamp) m.rows

remove-keeps : (p q : Place) (m : Map) → is_within q p ≡ false → find place_cmp p (filter (λ e. not (is_within q e.0)) m.rows) ≡ standing_at m p
remove-keeps p q m out =
    find-where_key place_cmp (λ x. not (is_within q x)) p (λ x ties. ap (λ z. not (is_within q z)) (sym (exact_places p x ties))) m.rows
    ∙ ap (λ b. cond (not b) (standing_at m p) None) out

-- ---- what a call stores

-- A removal or an eviction does not reach the file.
abbrev Spares : Place → Op → Type 0
Spares p (op.RemoveEntry dir name recursive) = is_within (child (place_of dir) name) p ≡ false
Spares p (op.Evict unit) = is_within (unit, []) p ≡ false
Spares p o = Unit {0}

none-file : (f : FileRow Text) → ◌≡◌ {A = Option (FileRow Text)} None (Some f) → ⊥
none-file f e = cc

module _ (s : State Text Own) (p : Place) (f : FileRow Text) (there : file_at s p ≡ Some f) where
  apart-missing : (q : Place) → row_at s q ≡ None → p ≢ q
  apart-missing q missing same = none-file f (sym (ap file_of (ap (row_at s) same ∙ missing)) ∙ there)

  missing-keeps : (q : Place) (c : Change) → (p ≢ q → Keeps p c) → AllKeep p (where_missing (row_at s q) c)
  missing-keeps q c keeps =
      elim (row_at s q) as (λ o. row_at s q ≡ o → AllKeep p (where_missing o c)) [
        | Some r ↦ λ is. tt
        | None ↦ λ is. (keeps (apart-missing q is), tt)
      ] refl

  root-keeps : (bucket : Text) (o : Option Text) → AllKeep p (root_made s bucket o)
  root-keeps bucket None = tt
  root-keeps bucket (Some origin) = missing-keeps (unit_of origin bucket, []) (make_root (unit_of origin bucket)) (λ apart m. put-other p (unit_of origin bucket, []) folder m apart)

  mode-keeps : (grant : Bool) (bucket : Text) (o : Option Text) → AllKeep p (mode_changed s grant bucket o)
  mode-keeps grant bucket None = tt
  mode-keeps grant bucket (Some origin) =
      elim (grant && not (is_persistent s (unit_of origin bucket))) as (λ b. AllKeep p (if b then persist (unit_of origin bucket) ∷ [] else [])) [
        | true ↦ ((λ m. refl), tt)
        | false ↦ tt
      ]

  stream-keeps : (stamp : ℕ) (o : Option Own) → AllKeep p (stream_stored stamp o)
  stream-keeps stamp None = tt
  stream-keeps stamp (Some (own.Stream w)) = (content-keeps p w.file stamp w.buffer, tt)
  stream-keeps stamp (Some own.ClosedStream) = tt
  stream-keeps stamp (Some (own.Handle h)) = tt
  stream-keeps stamp (Some own.ClosedHandle) = tt
  stream-keeps stamp (Some (own.Snapshot bytes)) = tt
  stream-keeps stamp (Some (own.Iterator i)) = tt

  file-keeps : (q : Place) (o : Option (FileRow Text)) → AllKeep p (file_stored q o)
  file-keeps q None = tt
  file-keeps q (Some g) = (content-keeps p q g.stamp g.present, tt)

  handle-keeps : (o : Option HandleOutline) → AllKeep p (handle_stored s o)
  handle-keeps None = tt
  handle-keeps (Some h) =
      elim (is_read_write h.mode) as (λ b. AllKeep p (elim b as (λ x. List Change) [ true ↦ file_stored h.file (file_at s h.file) | false ↦ [] ])) [
        | true ↦ file-keeps h.file (file_at s h.file)
        | false ↦ tt
      ]

  pub call-keeps : (j : ℕ) (o : Op) → Spares p o → AllKeep p (stored_by s j o)
  unfolding stored_by
  call-keeps j (op.GetDirectory bucket) spares = root-keeps bucket (agent_of s j).key
  call-keeps j (op.GetDirectoryHandle dir name create) spares =
      missing-keeps (child (place_of dir) name) (make_directory (child (place_of dir) name)) (λ apart m. put-other p (child (place_of dir) name) folder m apart)
  call-keeps j (op.GetFileHandle dir name create) spares =
      missing-keeps (child (place_of dir) name) (make_file (child (place_of dir) name) (moment_of s j)) (λ apart m. put-other p (child (place_of dir) name) (document [] (moment_of s j)) m apart)
  call-keeps j (op.RemoveEntry dir name recursive) spares = ((λ m. remove-keeps p (child (place_of dir) name) m spares), tt)
  call-keeps j (op.Close n) spares = stream-keeps (moment_of s j) (own_of (agent_of s j) n)
  call-keeps j (op.SyncFlush n) spares = handle-keeps (open_handle in_bytes s j n)
  call-keeps j (op.SyncClose n) spares = handle-keeps (open_handle in_bytes s j n)
  call-keeps j (op.Persist bucket) spares = mode-keeps (agent_of s j).grant bucket (agent_of s j).key
  call-keeps j (op.Evict unit) spares = ((λ m. remove-keeps p (unit, []) m spares), tt)
  call-keeps j o spares = tt

  -- ---- what an entry stores, where the file is still there behind it

  left-out : (q : Place) (g : FileRow Text) → file_at (without s q) p ≡ Some g → is_within q p ≡ false
  left-out q g after =
      elim (is_within q p) as (λ b. file_of (cond (not b) (row_at s p) None) ≡ Some g → b ≡ false) [
        | true ↦ λ h. absurd (none-file g h)
        | false ↦ λ h. refl
      ] (ap file_of (sym (row-without s q p)) ∙ after)

  call-spares : (j : ℕ) (o : Op) (g : FileRow Text) → evicted_by o ≡ None → file_at (effect in_bytes s (sizes_of s j o) j o) p ≡ Some g → Spares p o
  unfolding effect
  call-spares j (op.RemoveEntry dir name recursive) g plain after = left-out (child (place_of dir) name) g after
  call-spares j (op.Evict unit) g plain after = absurd (some_none plain)
    where
      some_none : ◌≡◌ {A = Option Text} (Some unit) None → ⊥
      some_none e = cc
  call-spares j o g plain after = tt

  accepted-keeps : (e : Entry) (g : FileRow Text) (told : Option Text) → evicted_by e.op ≡ told → is_refusal e.reply ≡ false → file_at (after_op s e told) p ≡ Some g → AllKeep p (stored_by s e.agent e.op)
  accepted-keeps e g (Some unit) is ok after = evict-keeps e.op is
    where
      evict-keeps : (o : Op) → evicted_by o ≡ Some unit → AllKeep p (stored_by s e.agent o)
      evict-keeps (op.Evict u) same = call-keeps e.agent (op.Evict u) (left-out (u, []) g (subst (λ v. file_at (evicted s v) p ≡ Some g) (one same) after))
        where
          one : Some u ≡ Some unit → unit ≡ u
          one h = cc
      evict-keeps o same = absurd (none_some same)
        where
          none_some : ◌≡◌ {A = Option Text} None (Some unit) → ⊥
          none_some h = cc
  accepted-keeps e g None is ok after =
      call-keeps e.agent e.op (call-spares e.agent e.op g is
      (ap (λ (b : Bool). file_at (elim b as (λ x. State Text Own) [ true ↦ refused s e.agent e.op | false ↦ effect in_bytes s (sizes_of s e.agent e.op) e.agent e.op ]) p) (sym ok) ∙ after))

  pub entry-keeps : (e : Entry) (g : FileRow Text) → file_at (after_entry s e) p ≡ Some g → AllKeep p (entry_changes s e)
  entry-keeps e g after =
      elim (is_refusal e.reply) as (λ b. is_refusal e.reply ≡ b → AllKeep p (elim b as (λ x. List Change) [ true ↦ [] | false ↦ stored_by s e.agent e.op ])) [
        | true ↦ λ is. tt
        | false ↦ λ is. accepted-keeps e g (evicted_by e.op) refl is after
      ] refl
