-- A read of an access handle, word by word.
use Rattle.std.proofs.Common.{◌≡◌, ◌≢◌, ℕ, ◌-◌, zero, suc, true, false, [], ◌∷◌, List, length, slice_set, Option, Some, None, Ok, refl, sym, ap, ◌∙◌, arith}
use Rattle.std.proofs.lemmas.Bool.{false≢true}
use Rattle.std.specs.Prelude.{IsTrue}
use Rattle.opfs_store.specs.Acts.Acting.{brings_position, gift_of, row_left}
use Rattle.opfs_store.specs.declared.acts.acted.Gift.TheVariants as gift
use Rattle.opfs_base.specs.Places.{Place}
use Rattle.opfs_base.specs.Texts.{Text}
use Rattle.opfs_books.specs.Stored.Spelled.{spelled_by}
use Rattle.opfs_state_rows.specs.Changes.Allowed.{IsSized}
use Rattle.opfs_state_rows.specs.Changes.Asking.{made_at}
use Rattle.opfs_state_rows.specs.Changes.Changed.{tree_by}
use Rattle.opfs_store.specs.Copies.Copies.{IsCopyOf}
use Rattle.opfs_pages.specs.HistoryLaws.Hands.{row_in_hand}
use Rattle.opfs_pages.specs.HistoryLaws.RowsAfter.{IsDone}
use Rattle.opfs_pages.proofs.history_laws.Own.{own-changed}
use Rattle.opfs_desk_bytes.specs.Reading.Words.{reads_row, reads_bytes, read_start, read_len, cursor_read}
use Rattle.opfs_hist.specs.declared.op.Op.{Op}
use Rattle.opfs_hist.specs.declared.op.Op.TheVariants as op
use Rattle.opfs_hist.specs.declared.reply.Reply.{Reply}
use Rattle.opfs_hist.specs.declared.reply.Reply.TheVariants as reply
use Rattle.opfs_laws.proofs.Numbers.{agent-set, number-of}
use Rattle.opfs_laws.specs.GoingOn.{LegalHistoriesGoOn}
use Rattle.opfs_machine.specs.declared.own.HandleRow.{HandleRow}
use Rattle.opfs_machine.specs.declared.own.Own.{Own}
use Rattle.opfs_machine.specs.declared.own.Own.TheVariants as own
use Rattle.opfs_machine.specs.declared.state.Sizes.{Sizes}
use Rattle.opfs_machine.specs.declared.state.State.{State}
use Rattle.opfs_machine.specs.Agents.{agent_of, own_of, of_row, handle_in, with_own}
use Rattle.opfs_machine.specs.Contents.{in_bytes, outline_of, moved_row}
use Rattle.opfs_machine.specs.Effects.{effect, refused, with_changed, cursor_after_read}
use Rattle.opfs_machine.specs.Histories.{evicted_by, is_disk_op, is_handle, may_enter}
use Rattle.opfs_machine.specs.OwnRows.{is_local}
use Rattle.opfs_machine.specs.Replies.{answer, bytes_at, handle_bytes, row_named, sizes_of}
use Rattle.opfs_machine.specs.Ruled.{Ruled}
use Rattle.opfs_machine.specs.Rulings.{start_of}
use Rattle.opfs_machine.specs.Steps.{after_reply, changed_by, judged, step, outcome_of}
use Rattle.opfs_machine.specs.Sums.{reserve_of}
use Rattle.opfs_splice.specs.Splicing.{window}
use Rattle.opfs_state_rows.specs.Standing.Seen.{Machine}
use Rattle.opfs_tree.specs.Rows.{Rows as Tree}
use Rattle.opfs_work.specs.Works.{WorkingCopy}

pub sized : (m : Machine) (z : Sizes) (k : ℕ) (o : Op) → reads_row o ≡ true → IsSized m z k o
unfolding IsSized
sized m z k (op.SyncRead n len at) h = tt
sized m z k o h = cc

pub on-disk : (s : State Text Own) (k : ℕ) (o : Op) → reads_row o ≡ true → IsTrue (is_disk_op s k o)
unfolding is_disk_op
on-disk s k (op.SyncRead n len at) h = refl
on-disk s k o h = cc

pub plain : (o : Op) → reads_row o ≡ true → evicted_by o ≡ None
plain (op.SyncRead n len at) h = refl
plain o h = cc

pub in-hand : (s : State Text Own) (k : ℕ) (o : Op) → reads_row o ≡ true → row_in_hand s k o ≡ row_named o
unfolding row_in_hand
in-hand s k (op.SyncRead n len at) h = refl
in-hand s k o h = cc

pub no-gift : (s : State Text Own) (o : Op) (bytes : Text) → reads_row o ≡ true → gift_of s o (reply.Read bytes) ≡ gift.Nothing
unfolding gift_of
no-gift s (op.SyncRead n len at) bytes h = refl
no-gift s o bytes h = cc

pub leaves-named : (rows : ℕ) (o : Op) → reads_row o ≡ true → row_left rows o ≡ row_named o
leaves-named rows (op.SyncRead n len at) h = refl
leaves-named rows o h = cc

pub not-near : (o : Op) → reads_row o ≡ true → brings_position o ≡ false
not-near (op.SyncRead n len at) h = refl
not-near o h = cc

pub silent : (m : Machine) (t : Tree) (k : ℕ) (o : Op) (z : Sizes) → reads_bytes o ≡ true → spelled_by m t k o z None ≡ None
unfolding spelled_by made_at
silent m t k (op.SyncRead n len at) z h = refl
silent m t k (op.GetFile at) z h = refl
silent m t k o z h = cc

pub same-tree : (m : Machine) (t : Tree) (k : ℕ) (o : Op) (z : Sizes) → reads_bytes o ≡ true → tree_by m t k o z None ≡ t
unfolding tree_by made_at
same-tree m t k (op.SyncRead n len at) z h = refl
same-tree m t k (op.GetFile at) z h = refl
same-tree m t k o z h = cc

-- ---- the row

suc-some : (n : ℕ) → suc n ≡ 0 → ⊥
suc-some n is = absurd (omega (arith, is))

pub row-some : (s : State Text Own) (k : ℕ) (o : Op) → reads_row o ≡ true → IsTrue (may_enter s k o) → row_named o ≢ 0
unfolding may_enter
row-some s k (op.SyncRead zero len at) h may is = absurd (false≢true may)
row-some s k (op.SyncRead (suc n) len at) h may is = suc-some n is
row-some s k o h may is = absurd cc

is-handle : (s : State Text Own) (k : ℕ) (o : Op) → reads_row o ≡ true → IsTrue (may_enter s k o) → is_handle (own_of (agent_of s k) (row_named o)) ≡ true
unfolding may_enter
is-handle s k (op.SyncRead n len at) h may = may
is-handle s k o h may = cc

none-some : (bytes : Text) → ◌≡◌ {A = Option Text} None (Some bytes) → ⊥
none-some bytes x = cc

open-handle : (tells : Type 0) (s : State Text Own) (r : Own) (work : WorkingCopy) → is_handle (Some r) ≡ true → IsCopyOf tells s r work → (x : HandleRow) × (r ≡ own.Handle x)
open-handle tells s (own.Handle x) work is copy = (x, refl)
open-handle tells s own.ClosedHandle work is copy = absurd (none-some copy.bytes copy.open_row)
open-handle tells s r work is copy = absurd cc

-- A working copy of the row that such a call names is one of an open access handle.
pub handle-there : (tells : Type 0) (s : State Text Own) (k : ℕ) (o : Op) (r : Own) (work : WorkingCopy) → reads_row o ≡ true → IsTrue (may_enter s k o) → own_of (agent_of s k) (row_named o) ≡ Some r → IsCopyOf tells s r work → (x : HandleRow) × (r ≡ own.Handle x)
handle-there tells s k o r work h may there copy = open-handle tells s r work (sym (ap is_handle there) ∙ is-handle s k o h may) copy

pub answers-read : (s : State Text Own) (z : Sizes) (k : ℕ) (o : Op) (x : HandleRow) → reads_row o ≡ true → own_of (agent_of s k) (row_named o) ≡ Some (own.Handle x) → answer s z k o ≡ reply.Read (window (bytes_at s x.file) (read_start z o) (read_len o))
unfolding answer
answers-read s z k (op.SyncRead n len at) x h there = ap (λ (r : Option Own). reply.Read (window (handle_bytes s (of_row (λ y. handle_in (outline_of y)) r)) (start_of z at) len)) there
answers-read s z k o x h there = cc

-- ---- after it

length-set : {X : Type 0} (xs : List X) (i : ℕ) (y : X) → length (slice_set xs i y) ≡ length xs
length-set [] i y = refl
length-set (x ∷ xs) zero y = refl
length-set (x ∷ xs) (suc i) y = ap suc (length-set xs i y)

module _ (s : State Text Own) (k : ℕ) (told : Reply) (done : IsDone s k told) where
  after-is : (o : Op) → changed_by s k o told ≡ effect in_bytes s (sizes_of s k o) k o
  after-is o = ap (λ b. elim b as (λ x. State Text Own) [ true ↦ refused s k o | false ↦ effect in_bytes s (sizes_of s k o) k o ]) done.done

  pub own-read : (o : Op) (x : HandleRow) → reads_row o ≡ true → own_of (agent_of s k) (row_named o) ≡ Some (own.Handle x)
      → own_of (agent_of (after_reply s k o told) k) (row_named o) ≡ Some (own.Handle (record x { cursor = cursor_read (sizes_of s k o) o }))
  unfolding effect
  own-read (op.SyncRead n len at) x h there =
      ap (λ (t : State Text Own). own_of (agent_of t k) n) (after-is (op.SyncRead n len at))
      ∙ own-changed s k n (own.Handle x) (λ r. moved_row r (cursor_after_read (sizes_of s k (op.SyncRead n len at)) len at) (reserve_of (outline_of r))) (number-of s k done.live) there
  own-read o x h there = cc

  changed-bytes : (n : ℕ) (g : Own → Own) (p : Place) → bytes_at (with_changed s k n g) p ≡ bytes_at s p
  unfolding with_changed
  changed-bytes n g p =
      elim (own_of (agent_of s k) n) as (λ o. bytes_at (elim o as (λ x. State Text Own) [ Some x ↦ with_own s k n (g x) | None ↦ s ]) p ≡ bytes_at s p) [ Some x ↦ refl | None ↦ refl ]

  same-length : (n : ℕ) (g : Own → Own) → length (agent_of (with_changed s k n g) k).own ≡ length (agent_of s k).own
  unfolding with_changed
  same-length n g =
      elim (own_of (agent_of s k) n) as (λ o. length (agent_of (elim o as (λ x. State Text Own) [ Some x ↦ with_own s k n (g x) | None ↦ s ]) k).own ≡ length (agent_of s k).own) [
        | Some x ↦ ap (λ a. length a.own) (agent-set s k (record (agent_of s k) { own = slice_set (agent_of s k).own (n - 1) (g x) }) (number-of s k done.live)) ∙ length-set (agent_of s k).own (n - 1) (g x)
        | None ↦ refl
      ]

  -- Its agent has as many rows.
  pub rows-read : (o : Op) → reads_row o ≡ true → length (agent_of (after_reply s k o told) k).own ≡ length (agent_of s k).own
  unfolding effect
  rows-read (op.SyncRead n len at) h =
      ap (λ (t : State Text Own). length (agent_of t k).own) (after-is (op.SyncRead n len at))
      ∙ same-length n (λ r. moved_row r (cursor_after_read (sizes_of s k (op.SyncRead n len at)) len at) (reserve_of (outline_of r)))
  rows-read o h = cc

  same-limits : (n : ℕ) (g : Own → Own) → (with_changed s k n g).limits ≡ s.limits
  unfolding with_changed
  same-limits n g =
      elim (own_of (agent_of s k) n) as (λ o. (elim o as (λ x. State Text Own) [ Some x ↦ with_own s k n (g x) | None ↦ s ]).limits ≡ s.limits) [ Some x ↦ refl | None ↦ refl ]

  pub limits-read : (o : Op) → reads_row o ≡ true → (after_reply s k o told).limits ≡ s.limits
  unfolding effect
  limits-read (op.SyncRead n len at) h =
      ap (λ (t : State Text Own). t.limits) (after-is (op.SyncRead n len at))
      ∙ same-limits n (λ r. moved_row r (cursor_after_read (sizes_of s k (op.SyncRead n len at)) len at) (reserve_of (outline_of r)))
  limits-read o h = cc

  pub bytes-read : (o : Op) (p : Place) → reads_row o ≡ true → bytes_at (after_reply s k o told) p ≡ bytes_at s p
  unfolding effect
  bytes-read (op.SyncRead n len at) p h =
      ap (λ (t : State Text Own). bytes_at t p) (after-is (op.SyncRead n len at))
      ∙ changed-bytes n (λ r. moved_row r (cursor_after_read (sizes_of s k (op.SyncRead n len at)) len at) (reserve_of (outline_of r))) p
  bytes-read o p h = cc

-- ---- no unit is cleared for it

is-read-local : (s : State Text Own) (k : ℕ) (o : Op) → reads_row o ≡ true → IsTrue (is_local s k o)
unfolding is_local
is-read-local s k (op.SyncRead n len at) h = refl
is-read-local s k o h = cc

judged-victims : (s : State Text Own) (k : ℕ) (o : Op) (units : List Text) → judged s k o ≡ Ok units → (step s k o).victims ≡ units
unfolding step outcome_of
judged-victims s k o units is = ap (λ (u : Ruled (List Text)). (outcome_of s k o u).victims) is

pub no-units : LegalHistoriesGoOn → (s : State Text Own) (k : ℕ) (o : Op) (units : List Text) → reads_row o ≡ true → IsTrue (agent_of s k).live → IsTrue (may_enter s k o) → judged s k o ≡ Ok units → units ≡ []
no-units go s k o units h live may is =
    sym (judged-victims s k o units is)
    ∙ go.local s k (record { agent = k; number = 0; op = o; reply = (step s k o).answered; turn = false })
    (record { agent = refl; live = live; fitting = may; local = is-read-local s k o h; answered = refl; turn = refl })

pub as-bytes : (o : Op) → reads_row o ≡ true → reads_bytes o ≡ true
as-bytes (op.SyncRead n len at) h = refl
as-bytes o h = cc
