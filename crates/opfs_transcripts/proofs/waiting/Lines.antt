-- Units without a line feed: each call keeps those of the rows so.
use Rattle.std.proofs.Common.{◌≡◌, ◌==◌, ◌&&◌, ◌||◌, ℕ, Bool, true, false, cond, not, [], ◌∷◌, ◌++◌, filter, length, Option, Some, None, Ok, refl, sym, ap, ◌∙◌, subst}
use Rattle.std.specs.Prelude.{nat_le}
use Rattle.std.specs.List.{list_all, list_any, filter_map, cons_option}
use Rattle.std.specs.FinMap.Entries.{put, find, by_order}
use Rattle.std.specs.Ordering.{is_eq, eq_by_cmp}
use Rattle.std.specs.Cmp.Lexicographic.{same_text as equal_texts}
use Rattle.std.specs.declared.cmp.Ordering.TheVariants.{Less, Equal, Greater}
use Rattle.std.proofs.lemmas.Bool.{false≢true, and_parts}
use Rattle.opfs_base.specs.Measures.{is_root}
use Rattle.opfs_base.specs.Places.{Place, place_cmp, place_of, child, is_within}
use Rattle.opfs_base.specs.Texts.{Text, same_text}
use Rattle.opfs_base.specs.Units.{default_bucket, hash_sign, is_letter_or_digit, is_bucket_byte, is_bucket_name, unit_of}
use Rattle.opfs_base.specs.declared.locator.Kind.TheVariants as kind
use Rattle.opfs_hist.specs.declared.op.Mode.{Mode}
use Rattle.opfs_hist.specs.declared.op.Mode.TheVariants as mode
use Rattle.opfs_hist.specs.declared.op.Op.{Op}
use Rattle.opfs_hist.specs.declared.op.Op.TheVariants as op
use Rattle.opfs_hist.specs.declared.reply.Refusal.TheVariants as refusal
use Rattle.opfs_hist.specs.declared.reply.Reply.{Reply}
use Rattle.opfs_locks.specs.declared.Want.TheVariants as want
use Rattle.opfs_machine.specs.declared.own.HandleOutline.{HandleOutline}
use Rattle.opfs_machine.specs.declared.own.StreamOutline.{StreamOutline}
use Rattle.opfs_machine.specs.declared.own.Own.{Own}
use Rattle.opfs_machine.specs.declared.state.FileRow.{FileRow}
use Rattle.opfs_machine.specs.declared.state.Need.{Need}
use Rattle.opfs_machine.specs.declared.state.Row.{Row}
use Rattle.opfs_machine.specs.declared.state.Row.TheVariants as row
use Rattle.opfs_machine.specs.declared.state.Sizes.{Sizes}
use Rattle.opfs_machine.specs.declared.state.State.{State}
use Rattle.opfs_machine.specs.Agents.{agent_of, own_of, open_stream, open_handle, with_own}
use Rattle.opfs_machine.specs.Contents.{in_bytes}
use Rattle.opfs_machine.specs.Effects.{effect, refused, made, new_row, moment_of, opens_bucket, opens_stream, takes_snapshot, closes_stream, aborts_stream, changes_file, flushes, closes_handle, discards, persists, with_written, with_changed, with_lock, flushed, unlocked, undone, replaced, content_of}
use Rattle.opfs_machine.specs.Replies.{sizes_of}
use Rattle.opfs_machine.specs.Rows.{Rows, row_at, file_at, with_row, with_file, change_at, changed_row}
use Rattle.opfs_machine.specs.Ruled.{some_or}
use Rattle.opfs_machine.specs.Rulings.{ruling, get_directory_ruling, want_of, first_reserve}
use Rattle.opfs_machine.specs.Steps.{changed_by, is_refusal}
use Rattle.opfs_machine.specs.Victims.{root_unit}
use Rattle.opfs_laws.proofs.Gone.{bind-gave, then-gave, unless-gave}
use Rattle.opfs_laws.proofs.RowsEffect.{IsPlaced}
use Rattle.opfs_laws.proofs.Spots.{same_place}
use Rattle.opfs_transcripts.specs.Told.Goings.{has_no, is_line}
use Rattle.opfs_transcripts.proofs.told.Goes.{from-test}

abbrev pub IsLine : Text → Type 0
IsLine text = has_no 10 text ≡ true

-- No unit of these rows has a line feed.
abbrev pub InLines : Rows Text → Type 0
InLines [] = Unit {0}
InLines (e ∷ es) = IsLine e.0.0 × InLines es

lines-put : (p : Place) (r : Row Text) (rows : Rows Text) → IsLine p.0 → InLines rows → InLines (put place_cmp p r rows)
lines-put p r [] line h = (line, tt)
lines-put p r (e ∷ es) line h =
    elim (place_cmp p e.0) as (λ o. InLines (by_order o ((p, r) ∷ e ∷ es) ((e.0, r) ∷ es) (e ∷ put place_cmp p r es))) [
      | Less ↦ (line, h)
      | Equal ↦ h
      | Greater ↦ (h.0, lines-put p r es line h.1)
    ]

pub lines-without : (p : Place) (rows : Rows Text) → InLines rows → InLines (filter (λ e. not (is_within p e.0)) rows)
lines-without p [] h = tt
lines-without p (e ∷ es) h =
    elim (not (is_within p e.0)) as (λ b. InLines (cond b (e ∷ filter (λ x. not (is_within p x.0)) es) (filter (λ x. not (is_within p x.0)) es))) [
      | true ↦ (h.0, lines-without p es h.1)
      | false ↦ lines-without p es h.1
    ]

lines-change : (p : Place) (change : FileRow Text → FileRow Text) (rows : Rows Text) → InLines rows → InLines (change_at p change rows)
lines-change p change [] h = tt
lines-change p change (e ∷ es) h =
    elim (is_eq (place_cmp p e.0)) as (λ b. InLines (elim b as (λ y. Rows Text) [ true ↦ (e.0, changed_row change e.1) ∷ es | false ↦ e ∷ change_at p change es ])) [
      | true ↦ h
      | false ↦ (h.0, lines-change p change es h.1)
    ]

line-found : (p : Place) (rows : Rows Text) (r : Row Text) → InLines rows → find place_cmp p rows ≡ Some r → IsLine p.0
line-found p [] r h is = cc
line-found p (e ∷ es) r h is =
    elim (eq_by_cmp place_cmp p e.0) as (λ b. eq_by_cmp place_cmp p e.0 ≡ b → ◌≡◌ {A = Option (Row Text)} (cond b (Some e.1) (find place_cmp p es)) (Some r) → IsLine p.0) [
      | true ↦ λ same found. subst (λ (q : Place). IsLine q.0) (sym (same_place p e.0 same)) h.0
      | false ↦ λ other found. line-found p es r h.1 found
    ] refl is

-- A unit with a root is one of the rows'.
pub line-root : (unit : Text) (rows : Rows Text) → InLines rows → list_any (same_text unit) (filter_map root_unit rows) ≡ true → IsLine unit
line-root unit [] h is = absurd (false≢true is)
line-root unit (e ∷ es) h is =
    elim (is_root e.0) as (λ b. list_any (same_text unit) (cons_option (elim b as (λ x. Option Text) [ true ↦ Some e.0.0 | false ↦ None ]) (filter_map root_unit es)) ≡ true → IsLine unit) [
      | true ↦ λ found.
          elim (same_text unit e.0.0) as (λ b. same_text unit e.0.0 ≡ b → (b || list_any (same_text unit) (filter_map root_unit es)) ≡ true → IsLine unit) [
            | true ↦ λ same t. subst IsLine (sym (equal_texts unit e.0.0 (sym same))) h.0
            | false ↦ λ other t. line-root unit es h.1 t
          ] refl found
      | false ↦ λ found. line-root unit es h.1 found
    ] is

-- ---- names of buckets

byte-apart : (b : ℕ) → is_bucket_byte b ≡ true → not (b == 10) ≡ true
byte-apart b h = elim (b == 10) as (λ c. (b == 10) ≡ c → not c ≡ true) [
  | true ↦ λ is. let ten : 10 ≡ b = sym (from-test b 10 is) in absurd (false≢true (ap is_bucket_byte ten ∙ h))
  | false ↦ λ is. refl
] refl

both-true : (a b : Bool) → a ≡ true → b ≡ true → (a && b) ≡ true
both-true a b p q = λ i. p i && q i

bytes-line : (text : Text) → list_all is_bucket_byte text ≡ true → IsLine text
bytes-line [] h = refl
bytes-line (b ∷ bs) h =
    let parts = and_parts (is_bucket_byte b) (list_all is_bucket_byte bs) h in
    both-true (not (b == 10)) (has_no 10 bs) (byte-apart b parts.0) (bytes-line bs parts.1)

name-line : (bucket : Text) → is_bucket_name bucket ≡ true → IsLine bucket
name-line [] h = refl
name-line (b ∷ bs) h =
    let first = and_parts (is_letter_or_digit b) (list_all is_bucket_byte bs) (and_parts (is_letter_or_digit b && list_all is_bucket_byte bs) (nat_le (length bs) 63) h).0 in
    let byte : is_bucket_byte b ≡ true = ap (λ x. x || b == 45 || b == 95) first.0 in
    both-true (not (b == 10)) (has_no 10 bs) (byte-apart b byte) (bytes-line bs first.1)

line-append : (a b : Text) → IsLine a → IsLine b → IsLine (a ++ b)
line-append [] b p q = q
line-append (x ∷ a) b p q =
    let parts = and_parts (not (x == 10)) (has_no 10 a) p in
    both-true (not (x == 10)) (has_no 10 (a ++ b)) parts.0 (line-append a b parts.1 q)

unit-line : (origin bucket : Text) → IsLine origin → is_bucket_name bucket ≡ true → IsLine (unit_of origin bucket)
unit-line origin bucket line name =
    elim (same_text bucket default_bucket) as (λ b. IsLine (elim b as (λ x. Text) [ true ↦ origin | false ↦ origin ++ hash_sign ∷ bucket ])) [
      | true ↦ line
      | false ↦ line-append origin (hash_sign ∷ bucket) line (name-line bucket name)
    ]

-- ---- calls

-- The bucket that a call makes has a name.
abbrev pub IsNamed : Op → Type 0
IsNamed (op.GetDirectory bucket) = is_bucket_name bucket ≡ true
IsNamed o = Unit {0}

pub named : (s : State Text Own) (z : Sizes) (k : ℕ) (o : Op) (need : Need) → ruling in_bytes s z k o ≡ Ok need → IsNamed o
unfolding ruling get_directory_ruling
named s z k (op.GetDirectory bucket) need h =
    let origin = bind-gave (some_or (agent_of s k).key refusal.SecurityError) _ need h in
    unless-gave (is_bucket_name bucket) refusal.TypeError (then-gave _ _ need origin.2).0
named s z k o need h = tt

abbrev K : State Text Own → Type 0
K s = InLines s.rows

made-lines : (s : State Text Own) (p : Place) (r : Row Text) → IsLine p.0 → K s → K (made s p r)
made-lines s p r line h = elim (row_at s p) as (λ o. K (elim o as (λ x. State Text Own) [ Some old ↦ s | None ↦ with_row s p r ])) [
  | Some old ↦ h
  | None ↦ lines-put p r s.rows line h
]

bucket-lines : (s : State Text Own) (bucket : Text) (key : Option Text) → is_bucket_name bucket ≡ true → is_line key ≡ true → K s → K (opens_bucket s bucket key)
bucket-lines s bucket None name line h = h
bucket-lines s bucket (Some origin) name line h = made-lines s (unit_of origin bucket, []) row.Directory (unit-line origin bucket line name) h

changed-lines : (s : State Text Own) (k n : ℕ) (change : Own → Own) → K s → K (with_changed s k n change)
unfolding with_changed
changed-lines s k n change h =
    elim (own_of (agent_of s k) n) as (λ o. K (elim o as (λ x. State Text Own) [ Some r ↦ with_own s k n (change r) | None ↦ s ])) [ Some r ↦ h | None ↦ h ]

stream-lines : (s : State Text Own) (k : ℕ) (p : Place) (reserve : ℕ) (keep : Bool) (f : Option (FileRow Text)) → K s → K (opens_stream in_bytes s k p reserve keep f)
stream-lines s k p reserve keep None h = h
stream-lines s k p reserve keep (Some f) h = lines-change p (with_lock want.Shared) s.rows h

snapshot-lines : (s : State Text Own) (k : ℕ) (f : Option (FileRow Text)) → K s → K (takes_snapshot in_bytes s k f)
snapshot-lines s k None h = h
snapshot-lines s k (Some f) h = h

closes-lines : (s : State Text Own) (z : Sizes) (k n : ℕ) (w : Option StreamOutline) → K s → K (closes_stream in_bytes s z k n w)
closes-lines s z k n None h = h
closes-lines s z k n (Some w) h = lines-change w.file unlocked _ (lines-change w.file (replaced (content_of in_bytes (own_of (agent_of s k) n) z.size) (moment_of s k)) s.rows h)

aborts-lines : (s : State Text Own) (k n : ℕ) (w : Option StreamOutline) → K s → K (aborts_stream in_bytes s k n w)
aborts-lines s k n None h = h
aborts-lines s k n (Some w) h = lines-change w.file unlocked s.rows h

file-lines : (s : State Text Own) (k n : ℕ) (change : Text → Text) (cursor size : ℕ) (o : Option HandleOutline) → K s → K (changes_file in_bytes s k n change cursor size o)
unfolding changes_file
file-lines s k n change cursor size None h = h
file-lines s k n change cursor size (Some o) h =
    let to : FileRow Text → FileRow Text = λ f. record f { present = change f.present; stamp = moment_of s k } in
    changed-lines (with_file s o.file to) k n _ (lines-change o.file to s.rows h)

written-lines : (s : State Text Own) (m : Mode) (p : Place) (change : FileRow Text → FileRow Text) → K s → K (with_written s m p change)
written-lines s mode.ReadWrite p change h = lines-change p change s.rows h
written-lines s mode.ReadOnly p change h = h

flushes-lines : (s : State Text Own) (z : Sizes) (k n : ℕ) (o : Option HandleOutline) → K s → K (flushes in_bytes s z k n o)
flushes-lines s z k n None h = h
flushes-lines s z k n (Some o) h = changed-lines (with_written s o.mode o.file flushed) k n _ (written-lines s o.mode o.file flushed h)

closed-lines : (s : State Text Own) (k n : ℕ) (o : Option HandleOutline) → K s → K (closes_handle in_bytes s k n o)
closed-lines s k n None h = h
closed-lines s k n (Some o) h = lines-change o.file unlocked _ (written-lines s o.mode o.file flushed h)

discards-lines : (s : State Text Own) (k n : ℕ) (o : Option HandleOutline) → K s → K (discards in_bytes s k n o)
discards-lines s k n None h = h
discards-lines s k n (Some o) h = lines-change o.file unlocked _ (written-lines s o.mode o.file undone h)

persists-lines : (s : State Text Own) (bucket : Text) (grant : Bool) (key : Option Text) → K s → K (persists s bucket grant key)
persists-lines s bucket grant None h = h
persists-lines s bucket true (Some origin) h = h
persists-lines s bucket false (Some origin) h = h

effect-lines : (s : State Text Own) (z : Sizes) (k : ℕ) (o : Op) → IsPlaced s o → IsNamed o → is_line (agent_of s k).key ≡ true → K s → K (effect in_bytes s z k o)
unfolding effect
effect-lines s z k (op.GetDirectory bucket) may name line h = bucket-lines s bucket (agent_of s k).key name line h
effect-lines s z k (op.GetDirectoryHandle dir name create) may named line h = made-lines s (child (place_of dir) name) row.Directory (line-found (place_of dir) s.rows row.Directory h may) h
effect-lines s z k (op.GetFileHandle dir name create) may named line h =
    made-lines s (child (place_of dir) name) (new_row in_bytes kind.File (moment_of s k)) (line-found (place_of dir) s.rows row.Directory h may) h
effect-lines s z k (op.RemoveEntry dir name recursive) may named line h = lines-without (child (place_of dir) name) s.rows h
effect-lines s z k (op.Next n dir) may named line h = changed-lines s k n _ h
effect-lines s z k (op.GetFile at) may named line h = snapshot-lines s k (file_at s (place_of at)) h
effect-lines s z k (op.CreateWritable at keep) may named line h = stream-lines s k (place_of at) (first_reserve in_bytes s at keep) keep (file_at s (place_of at)) h
effect-lines s z k (op.Write n bytes position) may named line h = changed-lines s k n _ h
effect-lines s z k (op.Seek n position) may named line h = changed-lines s k n _ h
effect-lines s z k (op.Truncate n size) may named line h = changed-lines s k n _ h
effect-lines s z k (op.Close n) may named line h = closes-lines s z k n (open_stream in_bytes s k n) h
effect-lines s z k (op.Abort n) may named line h = aborts-lines s k n (open_stream in_bytes s k n) h
effect-lines s z k (op.CreateSyncAccessHandle at m) may named line h = lines-change (place_of at) (with_lock (want_of m)) s.rows h
effect-lines s z k (op.SyncRead n len at) may named line h = changed-lines s k n _ h
effect-lines s z k (op.SyncWrite n bytes at) may named line h = file-lines s k n _ _ _ (open_handle in_bytes s k n) h
effect-lines s z k (op.SyncTruncate n size) may named line h = file-lines s k n _ _ _ (open_handle in_bytes s k n) h
effect-lines s z k (op.SyncFlush n) may named line h = flushes-lines s z k n (open_handle in_bytes s k n) h
effect-lines s z k (op.SyncClose n) may named line h = closed-lines s k n (open_handle in_bytes s k n) h
effect-lines s z k (op.Persist bucket) may named line h = persists-lines s bucket (agent_of s k).grant (agent_of s k).key h
effect-lines s z k (op.Discard n) may named line h = discards-lines s k n (open_handle in_bytes s k n) h
effect-lines s z k o may named line h = h

refused-lines : (s : State Text Own) (k : ℕ) (o : Op) → K s → K (refused s k o)
refused-lines s k (op.Await tag) h = h
refused-lines s k o h = h

-- What a call leaves.
pub changed-lines-kept : (s : State Text Own) (k : ℕ) (o : Op) (answered : Reply) → (is_refusal answered ≡ false → IsPlaced s o × IsNamed o) → is_line (agent_of s k).key ≡ true → K s
    → K (changed_by s k o answered)
changed-lines-kept s k o answered may line h =
    elim (is_refusal answered) as (λ b. (b ≡ false → IsPlaced s o × IsNamed o) → K (elim b as (λ x. State Text Own) [ true ↦ refused s k o | false ↦ effect in_bytes s (sizes_of s k o) k o ])) [
      | true ↦ λ m. refused-lines s k o h
      | false ↦ λ m. effect-lines s (sizes_of s k o) k o (m refl).0 (m refl).1 line h
    ] may
