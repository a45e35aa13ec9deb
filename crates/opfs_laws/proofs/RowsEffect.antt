-- How a call changes the rows: it makes one, removes some, or changes a file.
use Rattle.std.proofs.Common.{◌≡◌, ℕ, Bool, true, false, not, List, [], ◌∷◌, ◌++◌, filter, Option, Some, None, Ok, refl, sym, ap, ◌∙◌}
use Rattle.std.specs.FinMap.Entries.{put, find}
use Rattle.std.specs.Ordering.{nat_cmp}
use Rattle.std.specs.Cmp.Lexicographic.{slice_cmp}
use Rattle.std.proofs.lemmas.Bool.{false≢true, and_parts}
use Rattle.opfs_base.specs.Places.{Place, place_cmp, place_of, child, is_within}
use Rattle.opfs_base.specs.Texts.{Text}
use Rattle.opfs_base.specs.Units.{unit_of}
use Rattle.opfs_base.specs.declared.locator.Kind.{Kind}
use Rattle.opfs_base.specs.declared.locator.Kind.TheVariants as kind
use Rattle.opfs_base.specs.declared.locator.Locator.{Locator}
use Rattle.opfs_hist.specs.declared.op.Mode.{Mode}
use Rattle.opfs_hist.specs.declared.op.Mode.TheVariants as mode
use Rattle.opfs_hist.specs.declared.op.Op.{Op}
use Rattle.opfs_hist.specs.declared.op.Op.TheVariants as op
use Rattle.opfs_locks.specs.declared.Want.TheVariants as want
use Rattle.opfs_machine.specs.declared.own.HandleOutline.{HandleOutline}
use Rattle.opfs_machine.specs.declared.own.StreamOutline.{StreamOutline}
use Rattle.opfs_machine.specs.declared.own.Own.{Own}
use Rattle.opfs_machine.specs.declared.state.FileRow.{FileRow}
use Rattle.opfs_machine.specs.declared.state.Limits.{Limits}
use Rattle.opfs_machine.specs.declared.state.Need.{Need}
use Rattle.opfs_machine.specs.declared.state.Row.{Row}
use Rattle.opfs_machine.specs.declared.state.Row.TheVariants as row
use Rattle.opfs_machine.specs.declared.state.Sizes.{Sizes}
use Rattle.opfs_machine.specs.declared.state.State.{State}
use Rattle.opfs_machine.specs.Agents.{agent_of, own_of, open_stream, open_handle, with_own}
use Rattle.opfs_machine.specs.Contents.{in_bytes}
use Rattle.opfs_machine.specs.Effects.{effect, made, new_row, moment_of, opens_bucket, opens_stream, takes_snapshot, closes_stream, aborts_stream, changes_file, flushes, closes_handle, discards, persists, with_written, with_changed, with_lock, flushed, unlocked, undone, replaced, content_of}
use Rattle.opfs_machine.specs.Ordered.{insert_by}
use Rattle.opfs_machine.specs.Rows.{Rows, row_at, file_at, with_row, with_file, change_at, is_located, holds_kind, wants}
use Rattle.opfs_machine.specs.Rulings.{want_of, get_handle_ruling, ruling, first_reserve}
use Rattle.opfs_laws.proofs.Gone.{then-gave, unless-gave}
use Rattle.opfs_laws.proofs.Maps.{HasParent}

-- A row that is made stands in a directory.
abbrev pub IsPlaced : State Text Own → Op → Type 0
IsPlaced s (op.GetDirectoryHandle dir name create) = row_at s (place_of dir) ≡ Some row.Directory
IsPlaced s (op.GetFileHandle dir name create) = row_at s (place_of dir) ≡ Some row.Directory
IsPlaced s o = Unit {0}

located-directory : (r : Option (Row Text)) → holds_kind kind.Directory r ≡ true → r ≡ Some row.Directory
located-directory None h = absurd (false≢true h)
located-directory (Some row.Directory) h = refl
located-directory (Some (row.File f)) h = absurd (false≢true h)

handle-placed : (s : State Text Own) (k : Kind) (dir : Locator) (name : Text) (create : Bool) (need : Need) → get_handle_ruling s k dir name create ≡ Ok need → row_at s (place_of dir) ≡ Some row.Directory
unfolding get_handle_ruling
handle-placed s k dir name create need h =
    located-directory (row_at s (place_of dir)) (and_parts (wants kind.Directory dir) _ (unless-gave (is_located s kind.Directory dir) _ (then-gave _ _ need (then-gave _ _ need h).1).0)).1

pub placed : (s : State Text Own) (z : Sizes) (k : ℕ) (o : Op) (need : Need) → ruling in_bytes s z k o ≡ Ok need → IsPlaced s o
unfolding ruling
placed s z k (op.GetDirectoryHandle dir name create) need h = handle-placed s kind.Directory dir name create need h
placed s z k (op.GetFileHandle dir name create) need h = handle-placed s kind.File dir name create need h
placed s z k o need h = tt

last-same : (xs ys : List Text) (x y : Text) → xs ++ x ∷ [] ≡ ys ++ y ∷ [] → xs ≡ ys
last-same [] [] x y h = refl
last-same [] (b ∷ []) x y h = cc
last-same [] (b ∷ c ∷ ys) x y h = cc
last-same (a ∷ []) [] x y h = cc
last-same (a ∷ c ∷ xs) [] x y h = cc
last-same (a ∷ xs) (b ∷ ys) x y h = let first : a ≡ b = cc in let rest : xs ++ x ∷ [] ≡ ys ++ y ∷ [] = cc in let more = last-same xs ys x y rest in λ i. first i ∷ more i

pub child-parent : (a b : Place) (x y : Text) → child a x ≡ child b y → a ≡ b
child-parent a b x y h =
    let unit : a.0 ≡ b.0 = ap (λ (p : Place). p.0) h in
    let path : a.1 ≡ b.1 = last-same a.1 b.1 x y (ap (λ (p : Place). p.1) h) in
    λ i. (unit i, path i)

no-parent : (unit : Text) (dir : Place) (name : Text) → (unit, []) ≡ child dir name → ⊥
no-parent unit dir name h = empty dir.1 (ap (λ (p : Place). p.1) h)
  where
    empty : (xs : List Text) → [] ≡ xs ++ name ∷ [] → ⊥
    empty [] e = cc
    empty (x ∷ xs) e = cc

-- The rows keep what each of the three keeps.
module _ (Q : Rows Text → List Text → Limits → Type 0)
    (puts : (p : Place) (r : Row Text) (rows : Rows Text) (modes : List Text) (limits : Limits) → find place_cmp p rows ≡ None → HasParent p rows → Q rows modes limits → Q (put place_cmp p r rows) modes limits)
    (removes : (p : Place) (rows : Rows Text) (modes : List Text) (limits : Limits) → Q rows modes limits → Q (filter (λ e. not (is_within p e.0)) rows) modes limits)
    (changes : (p : Place) (change : FileRow Text → FileRow Text) (rows : Rows Text) (modes : List Text) (limits : Limits) → Q rows modes limits → Q (change_at p change rows) modes limits)
    (inserts : (unit : Text) (rows : Rows Text) (modes : List Text) (limits : Limits) → Q rows modes limits → Q rows (insert_by (slice_cmp nat_cmp) unit modes) limits) where
  abbrev K : State Text Own → Type 0
  K s = Q s.rows s.persistent s.limits

  made-rows : (s : State Text Own) (p : Place) (r : Row Text) → HasParent p s.rows → K s → K (made s p r)
  made-rows s p r parent h =
      elim (row_at s p) as (λ o. row_at s p ≡ o → K (elim o as (λ x. State Text Own) [ Some old ↦ s | None ↦ with_row s p r ])) [
        | Some old ↦ λ is. h
        | None ↦ λ is. puts p r s.rows s.persistent s.limits is parent h
      ] refl

  bucket-rows : (s : State Text Own) (bucket : Text) (key : Option Text) → K s → K (opens_bucket s bucket key)
  bucket-rows s bucket None h = h
  bucket-rows s bucket (Some origin) h = made-rows s (unit_of origin bucket, []) row.Directory (λ dir name is. absurd (no-parent (unit_of origin bucket) dir name is)) h

  changed-rows : (s : State Text Own) (k n : ℕ) (change : Own → Own) → K s → K (with_changed s k n change)
  unfolding with_changed
  changed-rows s k n change h =
      elim (own_of (agent_of s k) n) as (λ o. K (elim o as (λ x. State Text Own) [ Some r ↦ with_own s k n (change r) | None ↦ s ])) [ Some r ↦ h | None ↦ h ]

  stream-rows : (s : State Text Own) (k : ℕ) (p : Place) (reserve : ℕ) (keep : Bool) (f : Option (FileRow Text)) → K s → K (opens_stream in_bytes s k p reserve keep f)
  stream-rows s k p reserve keep None h = h
  stream-rows s k p reserve keep (Some f) h = changes p (with_lock want.Shared) s.rows s.persistent s.limits h

  snapshot-rows : (s : State Text Own) (k : ℕ) (f : Option (FileRow Text)) → K s → K (takes_snapshot in_bytes s k f)
  snapshot-rows s k None h = h
  snapshot-rows s k (Some f) h = h

  closes-rows : (s : State Text Own) (z : Sizes) (k n : ℕ) (w : Option StreamOutline) → K s → K (closes_stream in_bytes s z k n w)
  closes-rows s z k n None h = h
  closes-rows s z k n (Some w) h = changes w.file unlocked _ s.persistent s.limits (changes w.file (replaced (content_of in_bytes (own_of (agent_of s k) n) z.size) (moment_of s k)) s.rows s.persistent s.limits h)

  aborts-rows : (s : State Text Own) (k n : ℕ) (w : Option StreamOutline) → K s → K (aborts_stream in_bytes s k n w)
  aborts-rows s k n None h = h
  aborts-rows s k n (Some w) h = changes w.file unlocked s.rows s.persistent s.limits h

  file-rows : (s : State Text Own) (k n : ℕ) (change : Text → Text) (cursor size : ℕ) (o : Option HandleOutline) → K s → K (changes_file in_bytes s k n change cursor size o)
  unfolding changes_file
  file-rows s k n change cursor size None h = h
  file-rows s k n change cursor size (Some o) h =
      let to : FileRow Text → FileRow Text = λ f. record f { present = change f.present; stamp = moment_of s k } in
      changed-rows (with_file s o.file to) k n _ (changes o.file to s.rows s.persistent s.limits h)

  written-rows : (s : State Text Own) (m : Mode) (p : Place) (change : FileRow Text → FileRow Text) → K s → K (with_written s m p change)
  written-rows s mode.ReadWrite p change h = changes p change s.rows s.persistent s.limits h
  written-rows s mode.ReadOnly p change h = h

  flushes-rows : (s : State Text Own) (z : Sizes) (k n : ℕ) (o : Option HandleOutline) → K s → K (flushes in_bytes s z k n o)
  flushes-rows s z k n None h = h
  flushes-rows s z k n (Some o) h = changed-rows (with_written s o.mode o.file flushed) k n _ (written-rows s o.mode o.file flushed h)

  closed-rows : (s : State Text Own) (k n : ℕ) (o : Option HandleOutline) → K s → K (closes_handle in_bytes s k n o)
  closed-rows s k n None h = h
  closed-rows s k n (Some o) h = changes o.file unlocked _ _ _ (written-rows s o.mode o.file flushed h)

  discards-rows : (s : State Text Own) (k n : ℕ) (o : Option HandleOutline) → K s → K (discards in_bytes s k n o)
  discards-rows s k n None h = h
  discards-rows s k n (Some o) h = changes o.file unlocked _ _ _ (written-rows s o.mode o.file undone h)

  persists-rows : (s : State Text Own) (bucket : Text) (grant : Bool) (key : Option Text) → K s → K (persists s bucket grant key)
  persists-rows s bucket grant None h = h
  persists-rows s bucket true (Some origin) h = inserts (unit_of origin bucket) s.rows s.persistent s.limits h
  persists-rows s bucket false (Some origin) h = h

  child-placed : (s : State Text Own) (dir : Place) (name : Text) → row_at s dir ≡ Some row.Directory → HasParent (child dir name) s.rows
  child-placed s dir name there other last is = ap (row_at s) (sym (child-parent dir other name last is)) ∙ there

  pub effect-rows : (s : State Text Own) (z : Sizes) (k : ℕ) (o : Op) → IsPlaced s o → K s → K (effect in_bytes s z k o)
  unfolding effect
  effect-rows s z k (op.GetDirectory bucket) may h = bucket-rows s bucket (agent_of s k).key h
  effect-rows s z k (op.GetDirectoryHandle dir name create) may h = made-rows s (child (place_of dir) name) row.Directory (child-placed s (place_of dir) name may) h
  effect-rows s z k (op.GetFileHandle dir name create) may h = made-rows s (child (place_of dir) name) (new_row in_bytes kind.File (moment_of s k)) (child-placed s (place_of dir) name may) h
  effect-rows s z k (op.RemoveEntry dir name recursive) may h = removes (child (place_of dir) name) s.rows s.persistent s.limits h
  effect-rows s z k (op.Next n dir) may h = changed-rows s k n _ h
  effect-rows s z k (op.GetFile at) may h = snapshot-rows s k (file_at s (place_of at)) h
  effect-rows s z k (op.CreateWritable at keep) may h = stream-rows s k (place_of at) (first_reserve in_bytes s at keep) keep (file_at s (place_of at)) h
  effect-rows s z k (op.Write n bytes position) may h = changed-rows s k n _ h
  effect-rows s z k (op.Seek n position) may h = changed-rows s k n _ h
  effect-rows s z k (op.Truncate n size) may h = changed-rows s k n _ h
  effect-rows s z k (op.Close n) may h = closes-rows s z k n (open_stream in_bytes s k n) h
  effect-rows s z k (op.Abort n) may h = aborts-rows s k n (open_stream in_bytes s k n) h
  effect-rows s z k (op.CreateSyncAccessHandle at m) may h = changes (place_of at) (with_lock (want_of m)) s.rows s.persistent s.limits h
  effect-rows s z k (op.SyncRead n len at) may h = changed-rows s k n _ h
  effect-rows s z k (op.SyncWrite n bytes at) may h = file-rows s k n _ _ _ (open_handle in_bytes s k n) h
  effect-rows s z k (op.SyncTruncate n size) may h = file-rows s k n _ _ _ (open_handle in_bytes s k n) h
  effect-rows s z k (op.SyncFlush n) may h = flushes-rows s z k n (open_handle in_bytes s k n) h
  effect-rows s z k (op.SyncClose n) may h = closed-rows s k n (open_handle in_bytes s k n) h
  effect-rows s z k (op.Persist bucket) may h = persists-rows s bucket (agent_of s k).grant (agent_of s k).key h
  effect-rows s z k (op.Discard n) may h = discards-rows s k n (open_handle in_bytes s k n) h
  effect-rows s z k o may h = h
