-- What the flush and the close of an access handle have in common, word by word.
use Rattle.std.proofs.Common.{◌≡◌, ℕ, Bool, true, false, not, if◌then◌else◌, List, [], length, Option, Some, None, option_map, Ok, refl, sym, ap, ◌∙◌, subst, inl, inr}
use Rattle.std.specs.Prelude.{IsTrue}
use Rattle.opfs_store.specs.Acts.Acting.{brings_position, gift_of, row_left}
use Rattle.opfs_store.specs.declared.acts.acted.Gift.TheVariants as gift
use Rattle.opfs_base.specs.Places.{Place}
use Rattle.opfs_base.specs.Texts.{Text}
use Rattle.opfs_books.specs.Stored.Spelled.{flush_spelled, handle_spelled, spelled_by}
use Rattle.opfs_state_rows.specs.Changes.Allowed.{IsSized}
use Rattle.opfs_state_rows.specs.Changes.Changed.{changed_by as tree_changed_by, ended_by, flushed_by, flushed_in, tree_by}
use Rattle.opfs_desk_contents.specs.Words.{ends_row, flushes_nothing, may_only_read, may_write, stores_row}
use Rattle.opfs_pages.specs.HistoryLaws.Hands.{row_in_hand}
use Rattle.opfs_pages.specs.HistoryLaws.Laws.{TreesKeepBlocks}
use Rattle.opfs_pages.specs.HistoryLaws.RowsAfter.{IsDone}
use Rattle.opfs_pages.proofs.history_laws.HandleFiles.{changed-same}
use Rattle.opfs_desk_entries.proofs.answers.Words.{from-some, none-for, ok-is}
use Rattle.opfs_hist.specs.Sums.{asks_for_row}
use Rattle.opfs_hist.specs.declared.op.Mode.{Mode}
use Rattle.opfs_hist.specs.declared.op.Mode.TheVariants as mode
use Rattle.opfs_hist.specs.declared.op.Op.{Op}
use Rattle.opfs_hist.specs.declared.op.Op.TheVariants as op
use Rattle.opfs_hist.specs.declared.reply.Reply.{Reply}
use Rattle.opfs_hist.specs.declared.reply.Reply.TheVariants as reply
use Rattle.opfs_laws.proofs.Spots.{same_or_apart, file-changed, file-other}
use Rattle.opfs_laws.specs.Lengths.Bridge.{LengthsDecideEachRuling}
use Rattle.opfs_laws.specs.Lengths.Outlines.{in_lengths_of}
use Rattle.opfs_laws.proofs.lengths.Readers.{row-at-on}
use Rattle.opfs_machine.specs.declared.own.HandleOutline.{HandleOutline}
use Rattle.opfs_machine.specs.declared.own.HandleRow.{HandleRow}
use Rattle.opfs_machine.specs.declared.own.Outline.{Outline}
use Rattle.opfs_machine.specs.declared.own.Outline.TheVariants as outline
use Rattle.opfs_machine.specs.declared.own.Own.{Own}
use Rattle.opfs_machine.specs.declared.own.Own.TheVariants as own
use Rattle.opfs_machine.specs.declared.state.FileRow.{FileRow as File}
use Rattle.opfs_machine.specs.declared.state.Need.{Need}
use Rattle.opfs_machine.specs.declared.state.Sizes.{Sizes}
use Rattle.opfs_machine.specs.declared.state.State.{State}
use Rattle.opfs_machine.specs.Agents.{agent_of, handle_in, of_row, open_handle, own_of, with_own}
use Rattle.opfs_machine.specs.Contents.{in_bytes, in_lengths, outline_of, moved_row}
use Rattle.opfs_machine.specs.Effects.{closes_handle, effect, flushed, flushes, refused, with_changed, with_written}
use Rattle.opfs_machine.specs.Histories.{evicted_by, is_disk_op, is_stream, may_enter, writes_in}
use Rattle.opfs_machine.specs.Replies.{answer, bytes_at, bytes_in, row_named, sizes_of}
use Rattle.opfs_machine.specs.Rows.{file_at, with_file}
use Rattle.opfs_machine.specs.Rulings.{handle_ruling, is_read_write, ruling}
use Rattle.opfs_machine.specs.Steps.{after_reply, judged}
use Rattle.opfs_machine.specs.Sums.{no_need}
use Rattle.opfs_space.specs.Files.{file_has}
use Rattle.opfs_state_rows.specs.Standing.Seen.{Machine}
use Rattle.opfs_tree.specs.Rows.{Rows as Tree, file_at as tree_file_at, unlocked}
use Rattle.opfs_tree.specs.declared.row.FileRow.{FileRow}
use Rattle.opfs_desk_contents.specs.Unchanged.Saving.{saves_handle}

no-way : false ≡ true → ⊥
no-way x = cc

-- ---- the words

pub plain : (o : Op) → saves_handle o ≡ true → evicted_by o ≡ None
plain (op.SyncFlush n) h = refl
plain (op.SyncClose n) h = refl
plain o h = absurd (no-way h)

pub in-hand : (s : State Text Own) (k : ℕ) (o : Op) → saves_handle o ≡ true → row_in_hand s k o ≡ row_named o
unfolding row_in_hand
in-hand s k (op.SyncFlush n) h = refl
in-hand s k (op.SyncClose n) h = refl
in-hand s k o h = absurd (no-way h)

pub not-near : (o : Op) → saves_handle o ≡ true → brings_position o ≡ false
not-near (op.SyncFlush n) h = refl
not-near (op.SyncClose n) h = refl
not-near o h = absurd (no-way h)

pub sized : (m : Machine) (z : Sizes) (k : ℕ) (o : Op) → saves_handle o ≡ true → IsSized m z k o
unfolding IsSized
sized m z k (op.SyncFlush n) h = tt
sized m z k (op.SyncClose n) h = tt
sized m z k o h = absurd (no-way h)

pub makes-none : (o : Op) → saves_handle o ≡ true → asks_for_row o ≡ false
makes-none (op.SyncFlush n) h = refl
makes-none (op.SyncClose n) h = refl
makes-none o h = absurd (no-way h)

pub answers-done : (s : State Text Own) (z : Sizes) (k : ℕ) (o : Op) → saves_handle o ≡ true → answer s z k o ≡ reply.Done
unfolding answer
answers-done s z k (op.SyncFlush n) h = refl
answers-done s z k (op.SyncClose n) h = refl
answers-done s z k o h = absurd (no-way h)

pub no-gift : (s : State Text Own) (o : Op) → saves_handle o ≡ true → gift_of s o reply.Done ≡ gift.Nothing
unfolding gift_of
no-gift s (op.SyncFlush n) h = refl
no-gift s (op.SyncClose n) h = refl
no-gift s o h = absurd (no-way h)

-- A flush leaves its row, and a close leaves none.
pub leaves-named : (rows : ℕ) (o : Op) → saves_handle o ≡ true → ends_row o ≡ false → row_left rows o ≡ row_named o
leaves-named rows (op.SyncFlush n) h last = refl
leaves-named rows (op.SyncClose n) h last = absurd (no-way (sym last))
leaves-named rows o h last = absurd (no-way h)

pub leaves-none : (rows : ℕ) (o : Op) → saves_handle o ≡ true → ends_row o ≡ true → row_left rows o ≡ 0
leaves-none rows (op.SyncClose n) h last = refl
leaves-none rows (op.SyncFlush n) h last = absurd (no-way last)
leaves-none rows o h last = absurd (no-way h)

pub refused-same : (s : State Text Own) (k : ℕ) (o : Op) → saves_handle o ≡ true → refused s k o ≡ s
refused-same s k (op.SyncFlush n) h = refl
refused-same s k (op.SyncClose n) h = refl
refused-same s k o h = absurd (no-way h)

-- ---- its row is an open access handle

pub idle-word : (m : Machine) (k : ℕ) (o : Op) → flushes_nothing m k o ≡ true → saves_handle o ≡ true
idle-word m k (op.SyncFlush n) h = refl
idle-word m k o h = absurd (no-way h)

pub idle-stays : (m : Machine) (k : ℕ) (o : Op) → flushes_nothing m k o ≡ true → ends_row o ≡ false
idle-stays m k (op.SyncFlush n) h = refl
idle-stays m k o h = absurd (no-way h)

reader-in : (o : Option HandleOutline) → may_only_read o ≡ true → (h : HandleOutline) × (o ≡ Some h) × (is_read_write h.mode ≡ false)
reader-in None is = absurd (no-way is)
reader-in (Some h) is = (h, refl, not_true (is_read_write h.mode) is)
  where
    not_true : (b : Bool) → not b ≡ true → b ≡ false
    not_true false x = refl
    not_true true x = absurd (no-way x)

pub idle-reader : (m : Machine) (k : ℕ) (o : Op) → flushes_nothing m k o ≡ true → (h : HandleOutline) × (open_handle in_lengths m k (row_named o) ≡ Some h) × (is_read_write h.mode ≡ false)
idle-reader m k (op.SyncFlush n) is = reader-in (open_handle in_lengths m k n) is
idle-reader m k o is = absurd (no-way is)

handle-by : (o : Option Own) (h : HandleOutline) → of_row handle_in (option_map outline_of o) ≡ Some h → (x : HandleRow) × (o ≡ Some (own.Handle x)) × (outline_of (own.Handle x) ≡ outline.Handle h)
handle-by None h is = absurd (none_some is)
  where
    none_some : ◌≡◌ {A = Option HandleOutline} None (Some h) → ⊥
    none_some e = cc
handle-by (Some (own.Handle x)) h is = (x, refl, ap (λ (y : HandleOutline). outline.Handle y) (one is))
  where
    one : {a b : HandleOutline} → ◌≡◌ {A = Option HandleOutline} (Some a) (Some b) → a ≡ b
    one e = cc
handle-by (Some r) h is = absurd cc

-- What the machine in lengths says of an access handle, the one in bytes says.
pub handle-in-bytes : (s : State Text Own) (k n : ℕ) (h : HandleOutline) → open_handle in_lengths (in_lengths_of s) k n ≡ Some h
    → (x : HandleRow) × (own_of (agent_of s k) n ≡ Some (own.Handle x)) × (outline_of (own.Handle x) ≡ outline.Handle h)
handle-in-bytes s k n h is = handle-by (own_of (agent_of s k) n) h (ap (λ (o : Option Outline). of_row handle_in o) (sym (row-at-on length outline_of s k n)) ∙ is)

-- ---- each file keeps its blocks, where no other extents are told

module _ (keep : TreesKeepBlocks) where
  written-has : (t : Tree) (m : Mode) (place : Place) (change : FileRow → FileRow) → ((f : FileRow) → (change f).extents ≡ f.extents) → (f : Option Place) (b : ℕ) → file_has (tree_changed_by t m place change) f b ≡ file_has t f b
  written-has t mode.ReadWrite place change same f b = keep.changed place change t same f b
  written-has t mode.ReadOnly place change same f b = refl

  flushed-has : (t : Tree) (o : Option HandleOutline) (f : Option Place) (b : ℕ) → file_has (flushed_by t None o) f b ≡ file_has t f b
  flushed-has t None f b = refl
  flushed-has t (Some h) f b = written-has t h.mode h.file (flushed_in None) (λ x. refl) f b

  ended-has : (t : Tree) (o : Option HandleOutline) (f : Option Place) (b : ℕ) → file_has (ended_by t (flushed_in None) o) f b ≡ file_has t f b
  ended-has t None f b = refl
  ended-has t (Some h) f b = keep.changed h.file unlocked (tree_changed_by t h.mode h.file (flushed_in None)) (λ x. refl) f b ∙ written-has t h.mode h.file (flushed_in None) (λ x. refl) f b

  pub saved-has : (m : Machine) (t : Tree) (k : ℕ) (o : Op) (z : Sizes) → saves_handle o ≡ true → (f : Option Place) (b : ℕ) → file_has (tree_by m t k o z None) f b ≡ file_has t f b
  unfolding tree_by
  saved-has m t k (op.SyncFlush n) z h f b = flushed-has t (open_handle in_lengths m k n) f b
  saved-has m t k (op.SyncClose n) z h f b = ended-has t (open_handle in_lengths m k n) f b
  saved-has m t k o z h f b = absurd (no-way h)

-- ---- an idle flush stores nothing

reader-silent : (t : Tree) (h : HandleOutline) → is_read_write h.mode ≡ false → handle_spelled t None (Some h) ≡ None
reader-silent t h reads = ap (λ b. if b then flush_spelled h.file None (tree_file_at h.file t) else None) reads

silent-by : (t : Tree) (o : Option HandleOutline) → may_only_read o ≡ true → handle_spelled t None o ≡ None
silent-by t None is = absurd (no-way is)
silent-by t (Some h) is = reader-silent t h (not_true (is_read_write h.mode) is)
  where
    not_true : (b : Bool) → not b ≡ true → b ≡ false
    not_true false x = refl
    not_true true x = absurd (no-way x)

pub silent : (m : Machine) (t : Tree) (k : ℕ) (o : Op) (z : Sizes) → flushes_nothing m k o ≡ true → spelled_by m t k o z None ≡ None
unfolding spelled_by
silent m t k (op.SyncFlush n) z h = silent-by t (open_handle in_lengths m k n) h
silent m t k o z h = absurd (no-way h)

-- ---- limits stay

written-limits : (s : Machine) (m : Mode) (place : Place) (change : File ℕ → File ℕ) → (with_written s m place change).limits ≡ s.limits
written-limits s mode.ReadWrite place change = refl
written-limits s mode.ReadOnly place change = refl

row-limits : (s : Machine) (k n : ℕ) (change : Outline → Outline) → (with_changed s k n change).limits ≡ s.limits
unfolding with_changed
row-limits s k n change = elim (own_of (agent_of s k) n) as (λ o. (elim o as (λ x. Machine) [ Some x ↦ with_own s k n (change x) | None ↦ s ]).limits ≡ s.limits) [ Some x ↦ refl | None ↦ refl ]

flush-limits : (s : Machine) (z : Sizes) (k n : ℕ) (o : Option HandleOutline) → (flushes in_lengths s z k n o).limits ≡ s.limits
flush-limits s z k n None = refl
flush-limits s z k n (Some h) = row-limits (with_written s h.mode h.file flushed) k n _ ∙ written-limits s h.mode h.file flushed

close-limits : (s : Machine) (k n : ℕ) (o : Option HandleOutline) → (closes_handle in_lengths s k n o).limits ≡ s.limits
close-limits s k n None = refl
close-limits s k n (Some h) = written-limits s h.mode h.file flushed

pub limits-stay : (m : Machine) (z : Sizes) (k : ℕ) (o : Op) → saves_handle o ≡ true → (effect in_lengths m z k o).limits ≡ m.limits
unfolding effect
limits-stay m z k (op.SyncFlush n) h = flush-limits m z k n (open_handle in_lengths m k n)
limits-stay m z k (op.SyncClose n) h = close-limits m k n (open_handle in_lengths m k n)
limits-stay m z k o h = absurd (no-way h)

-- ---- a flush leaves the bytes that a read gives

bytes-option : (f : Option (File Text)) → bytes_in (option_map flushed f) ≡ bytes_in f
bytes-option None = refl
bytes-option (Some f) = refl

bytes-flushed : (s : State Text Own) (p q : Place) → bytes_at (with_file s p flushed) q ≡ bytes_at s q
bytes-flushed s p q = elim (same_or_apart p q) as (λ x. bytes_at (with_file s p flushed) q ≡ bytes_at s q) [
  | inl same ↦ subst (λ (r : Place). bytes_at (with_file s p flushed) r ≡ bytes_at s r) same (ap bytes_in (file-changed s p flushed) ∙ bytes-option (file_at s p))
  | inr other ↦ ap bytes_in (file-other s p q flushed other)
]

bytes-written : (s : State Text Own) (m : Mode) (p q : Place) → bytes_at (with_written s m p flushed) q ≡ bytes_at s q
bytes-written s mode.ReadWrite p q = bytes-flushed s p q
bytes-written s mode.ReadOnly p q = refl

bytes-flushes : (s : State Text Own) (z : Sizes) (k n : ℕ) (o : Option HandleOutline) (q : Place) → bytes_at (flushes in_bytes s z k n o) q ≡ bytes_at s q
bytes-flushes s z k n None q = refl
bytes-flushes s z k n (Some h) q = changed-same s q (with_written s h.mode h.file flushed) k n (λ r. moved_row r z.position 0) (bytes-written s h.mode h.file q)

pub bytes-after : (s : State Text Own) (k : ℕ) (told : Reply) (done : IsDone s k told) (o : Op) (q : Place) → saves_handle o ≡ true → ends_row o ≡ false → bytes_at (after_reply s k o told) q ≡ bytes_at s q
unfolding effect
bytes-after s k told done (op.SyncFlush n) q h last =
    ap (λ (t : State Text Own). bytes_at t q) (ap (λ b. elim b as (λ x. State Text Own) [ true ↦ refused s k (op.SyncFlush n) | false ↦ effect in_bytes s (sizes_of s k (op.SyncFlush n)) k (op.SyncFlush n) ]) done.done)
    ∙ bytes-flushes s (sizes_of s k (op.SyncFlush n)) k n (open_handle in_bytes s k n) q
bytes-after s k told done (op.SyncClose n) q h last = absurd (no-way (sym last))
bytes-after s k told done o q h last = absurd (no-way h)

-- ---- it clears no unit

handle-asks : (m : Machine) (k n : ℕ) (need : Need) → handle_ruling in_lengths m k n ≡ Ok need → need ≡ no_need
unfolding handle_ruling
handle-asks m k n need is = ok-is no_need need (from-some (open_handle in_lengths m k n) _ _ need is).2

asks-none : (m : Machine) (z : Sizes) (k : ℕ) (o : Op) (need : Need) → saves_handle o ≡ true → ruling in_lengths m z k o ≡ Ok need → need ≡ no_need
unfolding ruling
asks-none m z k (op.SyncFlush n) need h is = handle-asks m k n need is
asks-none m z k (op.SyncClose n) need h is = ok-is no_need need is
asks-none m z k o need h is = absurd (no-way h)

pub no-units : LengthsDecideEachRuling → (s : State Text Own) (k : ℕ) (o : Op) (units : List Text) → saves_handle o ≡ true → judged s k o ≡ Ok units → units ≡ []
unfolding judged
no-units decide s k o units h is =
    none-for s (agent_of s k).key (ruling in_bytes s (sizes_of s k o) k o) units
    (λ need asks. asks-none (in_lengths_of s) (sizes_of s k o) k o need h (decide.ruling s (sizes_of s k o) k o ∙ asks)) is

-- ---- a call that stores a content, of an access handle

writer-in : (o : Option HandleOutline) → may_write o ≡ true → (h : HandleOutline) × (o ≡ Some h) × (is_read_write h.mode ≡ true)
writer-in None is = absurd (no-way is)
writer-in (Some h) is = (h, refl, is)

-- No stream is an access handle.
stream-none : (o : Option Own) (x : HandleRow) → is_stream o ≡ true → o ≡ Some (own.Handle x) → ⊥
stream-none o x stream is = no-way (sym (ap (λ (y : Option Own). is_stream y) is) ∙ stream)

pub saves-word : (m : Machine) (s : State Text Own) (k : ℕ) (o : Op) (x : HandleRow) → stores_row m k o ≡ true → IsTrue (may_enter s k o) → own_of (agent_of s k) (row_named o) ≡ Some (own.Handle x) → saves_handle o ≡ true
unfolding may_enter
saves-word m s k (op.SyncFlush n) x h may is = refl
saves-word m s k (op.SyncClose n) x h may is = refl
saves-word m s k (op.Close n) x h may is = absurd (stream-none (own_of (agent_of s k) n) x may is)
saves-word m s k o x h may is = absurd (no-way h)

pub stores-writer : (m : Machine) (k : ℕ) (o : Op) → saves_handle o ≡ true → stores_row m k o ≡ true → (h : HandleOutline) × (open_handle in_lengths m k (row_named o) ≡ Some h) × (is_read_write h.mode ≡ true)
stores-writer m k (op.SyncFlush n) saves is = writer-in (open_handle in_lengths m k n) is
stores-writer m k (op.SyncClose n) saves is = writer-in (open_handle in_lengths m k n) is
stores-writer m k o saves is = absurd (no-way saves)

-- The disk may fail in it.
pub on-disk : (s : State Text Own) (k : ℕ) (o : Op) (x : HandleRow) → saves_handle o ≡ true → own_of (agent_of s k) (row_named o) ≡ Some (own.Handle x) → is_read_write x.mode ≡ true → IsTrue (is_disk_op s k o)
unfolding is_disk_op
on-disk s k (op.SyncFlush n) x saves is writes = ap (λ (r : Option Own). writes_in (of_row (λ y. handle_in (outline_of y)) r)) is ∙ writes
on-disk s k (op.SyncClose n) x saves is writes = ap (λ (r : Option Own). writes_in (of_row (λ y. handle_in (outline_of y)) r)) is ∙ writes
on-disk s k o x saves is writes = absurd (no-way saves)
