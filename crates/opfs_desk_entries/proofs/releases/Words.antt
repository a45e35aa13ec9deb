-- What calls that end a row have in common, word by word.
use Rattle.std.proofs.Common.{◌≡◌, ℕ, ◌-◌, zero, suc, ◌==◌, ◌||◌, Bool, true, false, not, if◌then◌else◌, List, [], Option, Some, None, option_map, Ok, refl, ap, ◌∙◌, arith}
use Rattle.std.proofs.lemmas.Bool.{eqb-true}
use Rattle.std.specs.Prelude.{IsTrue}
use Rattle.opfs_store.specs.Acts.Acting.{brings_position, gift_of, row_left}
use Rattle.opfs_store.specs.Acts.Asking.{is_open_own, names_open}
use Rattle.opfs_store.specs.declared.acts.acted.Gift.TheVariants as gift
use Rattle.opfs_base.specs.Places.{Place}
use Rattle.opfs_base.specs.Texts.{Text}
use Rattle.opfs_books.specs.Stored.Spelled.{flush_spelled, handle_spelled, spelled_by}
use Rattle.opfs_state_rows.specs.Changes.Allowed.{IsSized}
use Rattle.opfs_state_rows.specs.Changes.Asking.{made_at}
use Rattle.opfs_state_rows.specs.Changes.Changed.{aborted_by, changed_by, ended_by, flushed_in, tree_by}
use Rattle.opfs_pages.specs.HistoryLaws.Hands.{row_in_hand}
use Rattle.opfs_pages.specs.HistoryLaws.Laws.{TreesKeepBlocks}
use Rattle.opfs_pages.specs.HistoryLaws.Open.{if_open, open_at}
use Rattle.opfs_pages.specs.HistoryLaws.RowsAfter.{CallsChangeTheirRow, IsDone}
use Rattle.opfs_pages.proofs.history_laws.Leaving.{open-is}
use Rattle.opfs_hist.specs.Sums.{asks_for_row}
use Rattle.opfs_hist.specs.declared.history.PendingSum.{PendingSum}
use Rattle.opfs_hist.specs.declared.op.Mode.{Mode}
use Rattle.opfs_hist.specs.declared.op.Mode.TheVariants as mode
use Rattle.opfs_hist.specs.declared.op.Op.{Op}
use Rattle.opfs_hist.specs.declared.op.Op.TheVariants as op
use Rattle.opfs_hist.specs.declared.reply.Reply.{Reply}
use Rattle.opfs_hist.specs.declared.reply.Reply.TheVariants as reply
use Rattle.opfs_laws.specs.Lengths.Bridge.{LengthsDecideEachRuling}
use Rattle.opfs_laws.specs.Lengths.Outlines.{in_lengths_of}
use Rattle.opfs_machine.specs.declared.own.HandleOutline.{HandleOutline}
use Rattle.opfs_machine.specs.declared.own.HandleRow.{HandleRow}
use Rattle.opfs_machine.specs.declared.own.Outline.{Outline}
use Rattle.opfs_machine.specs.declared.own.Own.{Own}
use Rattle.opfs_machine.specs.declared.own.Own.TheVariants as own
use Rattle.opfs_machine.specs.declared.own.StreamOutline.{StreamOutline}
use Rattle.opfs_machine.specs.declared.own.StreamRow.{StreamRow}
use Rattle.opfs_machine.specs.declared.state.Agent.{Agent}
use Rattle.opfs_machine.specs.declared.state.FileRow.{FileRow as File}
use Rattle.opfs_machine.specs.declared.state.Need.{Need}
use Rattle.opfs_machine.specs.declared.state.Sizes.{Sizes}
use Rattle.opfs_machine.specs.declared.state.State.{State}
use Rattle.opfs_machine.specs.Agents.{agent_of, handle_in, of_row, open_handle, open_stream, own_of}
use Rattle.opfs_machine.specs.Contents.{in_bytes, in_lengths, outline_of}
use Rattle.opfs_machine.specs.Effects.{aborts_stream, closes_handle, discards, effect, with_written}
use Rattle.opfs_machine.specs.Histories.{evicted_by, is_handle, is_open_handle, is_stream, may_enter}
use Rattle.opfs_machine.specs.Replies.{answer, row_named, sizes_of}
use Rattle.opfs_machine.specs.Rulings.{is_read_write, ruling, stream_ruling}
use Rattle.opfs_machine.specs.Steps.{after_reply, judged}
use Rattle.opfs_machine.specs.Sums.{no_need}
use Rattle.opfs_space.specs.Files.{file_has}
use Rattle.opfs_state_rows.specs.Standing.Contents.{undone_row}
use Rattle.opfs_state_rows.specs.Standing.Noted.{with_sum}
use Rattle.opfs_state_rows.specs.Standing.Seen.{Machine}
use Rattle.opfs_state.proofs.laws.Readying.{agent-noted, handle-noted}
use Rattle.opfs_tree.specs.Rows.{Rows as Tree, file_at as tree_file_at, unlocked}
use Rattle.opfs_tree.specs.declared.row.FileRow.{FileRow}
use Rattle.opfs_state.specs.Verdicts.Callers.{IsAgent}
use Rattle.opfs_desk_entries.proofs.answers.Words.{before, from-some, none-for, ok-is}
use Rattle.opfs_desk_entries.specs.Releases.Leaving.{is_leaving, is_reader, leaves_row}

pub word-is : (m : Machine) (k : ℕ) (o : Op) → leaves_row m k o ≡ true → is_leaving o ≡ true
word-is m k (op.Abort n) h = refl
word-is m k (op.Discard n) h = refl
word-is m k (op.SyncClose n) h = refl
word-is m k o h = cc

-- ---- nothing is stored

not-true : (b : Bool) → not b ≡ true → b ≡ false
not-true false h = refl
not-true true h = cc

reader-silent : (t : Tree) (o : Option HandleOutline) → is_reader o ≡ true → handle_spelled t None o ≡ None
reader-silent t None h = refl
reader-silent t (Some x) h = ap (λ b. if b then flush_spelled x.file None (tree_file_at x.file t) else None) (not-true (is_read_write x.mode) h)

pub silent : (m : Machine) (t : Tree) (k : ℕ) (o : Op) (z : Sizes) → leaves_row m k o ≡ true → spelled_by m t k o z None ≡ None
unfolding spelled_by made_at
silent m t k (op.Abort n) z h = refl
silent m t k (op.Discard n) z h = refl
silent m t k (op.SyncClose n) z h = reader-silent t (open_handle in_lengths m k n) h
silent m t k o z h = cc

-- ---- each file keeps its blocks

module _ (keep : TreesKeepBlocks) where
  written-has : (t : Tree) (m : Mode) (place : Place) (change : FileRow → FileRow) → ((f : FileRow) → (change f).extents ≡ f.extents) → (f : Option Place) (b : ℕ) → file_has (changed_by t m place change) f b ≡ file_has t f b
  written-has t mode.ReadWrite place change same f b = keep.changed place change t same f b
  written-has t mode.ReadOnly place change same f b = refl

  ended-has : (t : Tree) (change : FileRow → FileRow) (o : Option HandleOutline) → ((f : FileRow) → (change f).extents ≡ f.extents) → (f : Option Place) (b : ℕ) → file_has (ended_by t change o) f b ≡ file_has t f b
  ended-has t change None same f b = refl
  ended-has t change (Some h) same f b = keep.changed h.file unlocked (changed_by t h.mode h.file change) (λ x. refl) f b ∙ written-has t h.mode h.file change same f b

  aborted-has : (t : Tree) (o : Option StreamOutline) (f : Option Place) (b : ℕ) → file_has (aborted_by t o) f b ≡ file_has t f b
  aborted-has t None f b = refl
  aborted-has t (Some w) f b = keep.changed w.file unlocked t (λ x. refl) f b

  pub has-same : (m : Machine) (t : Tree) (k : ℕ) (o : Op) (z : Sizes) → is_leaving o ≡ true → (f : Option Place) (b : ℕ) → file_has (tree_by m t k o z None) f b ≡ file_has t f b
  unfolding tree_by
  has-same m t k (op.Abort n) z h f b = aborted-has t (open_stream in_lengths m k n) f b
  has-same m t k (op.Discard n) z h f b = ended-has t undone_row (open_handle in_lengths m k n) (λ x. refl) f b
  has-same m t k (op.SyncClose n) z h f b = ended-has t (flushed_in None) (open_handle in_lengths m k n) (λ x. refl) f b
  has-same m t k o z h f b = cc

-- ---- limits stay

written-limits : (s : Machine) (m : Mode) (place : Place) (change : File ℕ → File ℕ) → (with_written s m place change).limits ≡ s.limits
written-limits s mode.ReadWrite place change = refl
written-limits s mode.ReadOnly place change = refl

abort-limits : (s : Machine) (k n : ℕ) (o : Option StreamOutline) → (aborts_stream in_lengths s k n o).limits ≡ s.limits
abort-limits s k n None = refl
abort-limits s k n (Some w) = refl

discard-limits : (s : Machine) (k n : ℕ) (o : Option HandleOutline) → (discards in_lengths s k n o).limits ≡ s.limits
discard-limits s k n None = refl
discard-limits s k n (Some h) = written-limits s h.mode h.file _

close-limits : (s : Machine) (k n : ℕ) (o : Option HandleOutline) → (closes_handle in_lengths s k n o).limits ≡ s.limits
close-limits s k n None = refl
close-limits s k n (Some h) = written-limits s h.mode h.file _

pub limits-stay : (m : Machine) (z : Sizes) (k : ℕ) (o : Op) → is_leaving o ≡ true → (effect in_lengths m z k o).limits ≡ m.limits
unfolding effect
limits-stay m z k (op.Abort n) h = abort-limits m k n (open_stream in_lengths m k n)
limits-stay m z k (op.Discard n) h = discard-limits m k n (open_handle in_lengths m k n)
limits-stay m z k (op.SyncClose n) h = close-limits m k n (open_handle in_lengths m k n)
limits-stay m z k o h = cc

-- ---- the row is not open any more

no-way : false ≡ true → ⊥
no-way x = cc

open-stream : (o : Option Own) → is_stream o ≡ true → is_open_own o ≡ true → (w : StreamRow) × (o ≡ Some (own.Stream w))
open-stream (Some (own.Stream w)) kind opened = (w, refl)
open-stream (Some own.ClosedStream) kind opened = absurd (no-way opened)
open-stream (Some (own.Handle x)) kind opened = absurd (no-way kind)
open-stream (Some own.ClosedHandle) kind opened = absurd (no-way kind)
open-stream (Some (own.Snapshot b)) kind opened = absurd (no-way kind)
open-stream (Some (own.Iterator i)) kind opened = absurd (no-way kind)
open-stream None kind opened = absurd (no-way kind)

open-handle : (o : Option Own) → is_handle o ≡ true → is_open_own o ≡ true → (h : HandleRow) × (o ≡ Some (own.Handle h))
open-handle (Some (own.Handle x)) kind opened = (x, refl)
open-handle (Some own.ClosedHandle) kind opened = absurd (no-way opened)
open-handle (Some (own.Stream w)) kind opened = absurd (no-way kind)
open-handle (Some own.ClosedStream) kind opened = absurd (no-way kind)
open-handle (Some (own.Snapshot b)) kind opened = absurd (no-way kind)
open-handle (Some (own.Iterator i)) kind opened = absurd (no-way kind)
open-handle None kind opened = absurd (no-way kind)

held-handle : (o : Option Own) → is_open_handle o ≡ true → (h : HandleRow) × (o ≡ Some (own.Handle h))
held-handle (Some (own.Handle x)) kind = (x, refl)
held-handle (Some own.ClosedHandle) kind = absurd (no-way kind)
held-handle (Some (own.Stream w)) kind = absurd (no-way kind)
held-handle (Some own.ClosedStream) kind = absurd (no-way kind)
held-handle (Some (own.Snapshot b)) kind = absurd (no-way kind)
held-handle (Some (own.Iterator i)) kind = absurd (no-way kind)
held-handle None kind = absurd (no-way kind)

or-second : (a b : Bool) → (a ≡ true → ⊥) → (a || b) ≡ true → b ≡ true
or-second true b never h = absurd (never refl)
or-second false b never h = h

not-zero : (n : ℕ) → (suc n == 0) ≡ true → ⊥
not-zero n is = omega (arith, eqb-true (suc n) 0 is)

-- What a call names is open, and it names something.
named-open : (s : State Text Own) (k n : ℕ) → (own_of (agent_of s k) zero ≡ own_of (agent_of s k) n → ⊥) → (n == 0 || is_open_own (own_of (agent_of s k) n)) ≡ true → is_open_own (own_of (agent_of s k) n) ≡ true
named-open s k zero never opened = absurd (never refl)
named-open s k (suc n) never opened = or-second (suc n == 0) (is_open_own (own_of (agent_of s k) (suc n))) (not-zero n) opened

none-stream : (o : Option Own) → is_stream o ≡ true → None ≡ o → ⊥
none-stream o kind is = no-way (ap (λ x. is_stream x) is ∙ kind)

none-handle : (o : Option Own) → is_handle o ≡ true → None ≡ o → ⊥
none-handle o kind is = no-way (ap (λ x. is_handle x) is ∙ kind)

shut : (s : State Text Own) (k n : ℕ) (r : Own) → if_open (Some (outline_of r)) ≡ None → own_of (agent_of s k) n ≡ Some r → open_at (in_lengths_of s) k n ≡ None
shut s k n r closed is = open-is s k n ∙ (ap (λ (o : Option Own). if_open (option_map outline_of o)) is ∙ closed)

module _ (changes : CallsChangeTheirRow) (s : State Text Own) (k : ℕ) (r : Reply) (done : IsDone s k r) where
  pub row-closed : (o : Op) → is_leaving o ≡ true → IsTrue (may_enter s k o) → IsTrue (names_open s k o) → open_at (in_lengths_of (after_reply s k o r)) k (row_named o) ≡ None
  unfolding may_enter
  row-closed (op.Abort n) h may opened =
      let it = open-stream (own_of (agent_of s k) n) may (named-open s k n (none-stream (own_of (agent_of s k) n) may) opened) in
      shut (after_reply s k (op.Abort n) r) k n own.ClosedStream refl (changes.aborted s k r n it.0 done it.1)
  row-closed (op.Discard n) h may opened =
      let it = held-handle (own_of (agent_of s k) n) may in
      shut (after_reply s k (op.Discard n) r) k n own.ClosedHandle refl (changes.discarded s k r n it.0 done it.1)
  row-closed (op.SyncClose n) h may opened =
      let it = open-handle (own_of (agent_of s k) n) may (named-open s k n (none-handle (own_of (agent_of s k) n) may) opened) in
      shut (after_reply s k (op.SyncClose n) r) k n own.ClosedHandle refl (changes.sync_closed s k r n it.0 done it.1)
  row-closed o h may opened = cc

-- ---- it leaves no row open, and gives nothing

pub in-hand : (s : State Text Own) (k : ℕ) (o : Op) → is_leaving o ≡ true → row_in_hand s k o ≡ row_named o
unfolding row_in_hand
in-hand s k (op.Abort n) h = refl
in-hand s k (op.Discard n) h = refl
in-hand s k (op.SyncClose n) h = refl
in-hand s k o h = cc

pub no-eviction : (o : Op) → is_leaving o ≡ true → evicted_by o ≡ None
no-eviction (op.Evict unit) h = cc
no-eviction o h = refl

pub leaves-none : (rows : ℕ) (o : Op) → is_leaving o ≡ true → row_left rows o ≡ 0
leaves-none rows (op.Abort n) h = refl
leaves-none rows (op.Discard n) h = refl
leaves-none rows (op.SyncClose n) h = refl
leaves-none rows o h = cc

pub not-near : (o : Op) → is_leaving o ≡ true → brings_position o ≡ false
not-near (op.Write n bytes position) h = cc
not-near (op.Truncate n size) h = cc
not-near o h = refl

pub sized : (m : Machine) (z : Sizes) (k : ℕ) (o : Op) → is_leaving o ≡ true → IsSized m z k o
unfolding IsSized
sized m z k (op.Write n bytes position) h = cc
sized m z k (op.SyncWrite n bytes at) h = cc
sized m z k (op.Close n) h = cc
sized m z k o h = tt

pub makes-none : (o : Op) → is_leaving o ≡ true → asks_for_row o ≡ false
makes-none (op.Abort n) h = refl
makes-none (op.Discard n) h = refl
makes-none (op.SyncClose n) h = refl
makes-none o h = cc

pub answers-done : (s : State Text Own) (z : Sizes) (k : ℕ) (o : Op) → is_leaving o ≡ true → answer s z k o ≡ reply.Done
unfolding answer
answers-done s z k (op.Abort n) h = refl
answers-done s z k (op.Discard n) h = refl
answers-done s z k (op.SyncClose n) h = refl
answers-done s z k o h = cc

pub no-gift : (s : State Text Own) (o : Op) → is_leaving o ≡ true → gift_of s o reply.Done ≡ gift.Nothing
unfolding gift_of
no-gift s (op.GetFile at) h = cc
no-gift s (op.Next n dir) h = cc
no-gift s o h = refl

-- ---- it clears no unit

abort-asks : (m : Machine) (k n : ℕ) (need : Need) → stream_ruling in_lengths m k n ≡ Ok need → need ≡ no_need
unfolding stream_ruling
abort-asks m k n need is = ok-is no_need need (from-some (open_stream in_lengths m k n) _ _ need is).2

asks-none : (m : Machine) (z : Sizes) (k : ℕ) (o : Op) (need : Need) → is_leaving o ≡ true → ruling in_lengths m z k o ≡ Ok need → need ≡ no_need
unfolding ruling
asks-none m z k (op.Abort n) need h is = abort-asks m k n need is
asks-none m z k (op.Discard n) need h is = ok-is no_need need is
asks-none m z k (op.SyncClose n) need h is = ok-is no_need need is
asks-none m z k o need h is = absurd (no-way h)

pub no-units : LengthsDecideEachRuling → (s : State Text Own) (k : ℕ) (o : Op) (units : List Text) → is_leaving o ≡ true → judged s k o ≡ Ok units → units ≡ []
unfolding judged
no-units decide s k o units h is =
    none-for s (agent_of s k).key (ruling in_bytes s (sizes_of s k o) k o) units
    (λ need asks. asks-none (in_lengths_of s) (sizes_of s k o) k o need h (decide.ruling s (sizes_of s k o) k o ∙ asks)) is

-- ---- its handle is the same through its agent's pending calls

handle-at : (m : Machine) (k : ℕ) (sum : PendingSum) (n : ℕ) → IsAgent m k → open_handle in_lengths (with_sum m (k - 1) sum) k n ≡ open_handle in_lengths m k n
handle-at m zero sum n agent = absurd (omega (arith, agent.above))
handle-at m (suc at) sum n agent =
    ap (λ (i : ℕ). open_handle in_lengths (with_sum m i sum) (suc at) n) (before at)
    ∙ (ap (λ (a : Agent Outline). of_row handle_in (own_of a n)) (agent-noted m at sum (omega (arith, agent.within))) ∙ handle-noted (agent_of m (suc at)) sum.rows sum.moment n)

pub leaves-noted : (m : Machine) (k : ℕ) (sum : PendingSum) (o : Op) → IsAgent m k → leaves_row m k o ≡ true → leaves_row (with_sum m (k - 1) sum) k o ≡ true
leaves-noted m k sum (op.Abort n) agent h = refl
leaves-noted m k sum (op.Discard n) agent h = refl
leaves-noted m k sum (op.SyncClose n) agent h = ap (λ o. is_reader o) (handle-at m k sum n agent) ∙ h
leaves-noted m k sum o agent h = absurd (no-way h)
