-- What a call that puts bytes into a row leaves of it.
use Rattle.std.proofs.Common.{◌≡◌, ◌⊎◌, ℕ, ◌≤◌, Bool, true, false, [], length, option_map, Option, Some, None, refl, sym, ap, subst, ◌∙◌, inl, inr, arith}
use Rattle.std.proofs.lemmas.Bool.{false≢true}
use Rattle.std.specs.Prelude.{IsTrue}
use Rattle.opfs_base.specs.Blocks.{blocks}
use Rattle.opfs_base.specs.Texts.{Text}
use Rattle.opfs_data.specs.Rows.{IsOther}
use Rattle.opfs_pages.specs.HistoryLaws.Laws.{CallsLeaveOtherRows}
use Rattle.opfs_pages.specs.HistoryLaws.Open.{if_open, open_at, file_in, reserve_in, is_stream, StaysOpen}
use Rattle.opfs_pages.specs.HistoryLaws.RowsAfter.{CallsChangeTheirRow, IsDone}
use Rattle.opfs_pages.specs.HistoryLaws.Shelves.{KeepsOpen}
use Rattle.opfs_pages.proofs.history_laws.Leaving.{open-is}
use Rattle.opfs_desk_steps.specs.RowLaws.InHand.{HasInHand}
use Rattle.opfs_desk_steps.specs.RowLaws.Puts.{puts_row, size_put}
use Rattle.opfs_hist.specs.declared.entry.Entry.{Entry}
use Rattle.opfs_hist.specs.declared.op.Op.{Op}
use Rattle.opfs_hist.specs.declared.op.Op.TheVariants as op
use Rattle.opfs_hist.specs.declared.reply.Reply.{Reply}
use Rattle.opfs_laws.proofs.Acting.{changed-acts}
use Rattle.opfs_laws.proofs.Moved.{call-moves}
use Rattle.opfs_laws.proofs.Numbers.{number-of}
use Rattle.opfs_laws.specs.Lengths.Outlines.{in_lengths_of}
use Rattle.opfs_machine.specs.declared.own.HandleRow.{HandleRow}
use Rattle.opfs_machine.specs.declared.own.Own.{Own}
use Rattle.opfs_machine.specs.declared.own.Own.TheVariants as own
use Rattle.opfs_machine.specs.declared.own.StreamRow.{StreamRow}
use Rattle.opfs_machine.specs.declared.state.FileRow.{FileRow}
use Rattle.opfs_machine.specs.declared.state.Sizes.{Sizes}
use Rattle.opfs_machine.specs.declared.state.State.{State}
use Rattle.opfs_machine.specs.Agents.{agent_of, own_of}
use Rattle.opfs_machine.specs.Contents.{outline_of}
use Rattle.opfs_machine.specs.Histories.{may_enter, is_handle, is_stream as is_stream_row}
use Rattle.opfs_machine.specs.Replies.{bytes_at, bytes_in, row_named, sizes_in, sizes_of}
use Rattle.opfs_machine.specs.Rows.{file_at}
use Rattle.opfs_machine.specs.Rulings.{reserve_for, start_of}
use Rattle.opfs_machine.specs.Steps.{after_reply}
use Rattle.opfs_machine.specs.Sums.{reserve_of}
use Rattle.opfs_pages.proofs.Rest.{written_is, resized_is}
use Rattle.opfs_splice.specs.Splicing.{splice, resize}
use Rattle.opfs_laws.specs.Steady.Steady.{open_bytes, row_bytes}
use Rattle.opfs_desk_bytes.specs.Writing.Words.{position_put, text_put}
use Rattle.opfs_desk_bytes.proofs.writing.Words.{in-hand, plain, asks-none}

-- An own row that stays what it is, with these bytes, this position and this reserve.
pub record IsNext (t : State Text Own) (k n : ℕ) (old : Own) (bytes : Text) (position reserve : ℕ) : Type 0 where
  pub next : Own
  pub there : own_of (agent_of t k) n ≡ Some next
  pub opened : open_bytes t (Some next) ≡ Some bytes
  pub position_is : (sizes_in t (Some next)).position ≡ position
  pub reserve_is : reserve_of (outline_of next) ≡ reserve
  pub before_kept : reserve_in (if_open (Some (outline_of old))) ≡ reserve_of (outline_of old)
  pub after_kept : reserve_in (if_open (Some (outline_of next))) ≡ reserve_of (outline_of next)
  pub file : file_in (if_open (Some (outline_of next))) ≡ file_in (if_open (Some (outline_of old)))
  pub stream : is_stream (if_open (Some (outline_of next))) ≡ is_stream (if_open (Some (outline_of old)))

-- ---- which row it is

none-some : (bytes : Text) → ◌≡◌ {A = Option Text} None (Some bytes) → ⊥
none-some bytes x = cc

pub one-text : (a b : Text) → ◌≡◌ {A = Option Text} (Some a) (Some b) → a ≡ b
one-text a b is = cc

only-stream : (s : State Text Own) (r : Own) (before : Text) → is_stream_row (Some r) ≡ true → open_bytes s (Some r) ≡ Some before → (w : StreamRow) × (r ≡ own.Stream w) × (w.buffer ≡ before)
only-stream s (own.Stream w) before is opened = (w, refl, one-text w.buffer before opened)
only-stream s own.ClosedStream before is opened = absurd (none-some before opened)
only-stream s r before is opened = absurd cc

only-handle : (s : State Text Own) (r : Own) (before : Text) → is_handle (Some r) ≡ true → open_bytes s (Some r) ≡ Some before → (h : HandleRow) × (r ≡ own.Handle h) × (bytes_at s h.file ≡ before)
only-handle s (own.Handle h) before is opened = (h, refl, one-text (bytes_at s h.file) before opened)
only-handle s own.ClosedHandle before is opened = absurd (none-some before opened)
only-handle s r before is opened = absurd cc

-- ---- by its word

abbrev pub puts_stream : Op → Bool
puts_stream (op.Write n bytes position) = true
puts_stream (op.Truncate n size) = true
puts_stream o = false

abbrev pub puts_handle : Op → Bool
puts_handle (op.SyncWrite n bytes at) = true
puts_handle (op.SyncTruncate n size) = true
puts_handle o = false

which : (o : Op) → puts_row o ≡ true → (puts_stream o ≡ true) ⊎ (puts_handle o ≡ true)
which (op.Write n bytes position) h = inl refl
which (op.Truncate n size) h = inl refl
which (op.SyncWrite n bytes at) h = inr refl
which (op.SyncTruncate n size) h = inr refl
which o h = absurd (false≢true h)

may-stream : (s : State Text Own) (k : ℕ) (o : Op) → puts_stream o ≡ true → IsTrue (may_enter s k o) → is_stream_row (own_of (agent_of s k) (row_named o)) ≡ true
unfolding may_enter
may-stream s k (op.Write n bytes position) h may = may
may-stream s k (op.Truncate n size) h may = may
may-stream s k o h may = absurd (false≢true h)

may-handle : (s : State Text Own) (k : ℕ) (o : Op) → puts_handle o ≡ true → IsTrue (may_enter s k o) → is_handle (own_of (agent_of s k) (row_named o)) ≡ true
unfolding may_enter
may-handle s k (op.SyncWrite n bytes at) h may = may
may-handle s k (op.SyncTruncate n size) h may = may
may-handle s k o h may = absurd (false≢true h)

-- ---- what is left of it

module _ (laws : CallsChangeTheirRow) (s : State Text Own) (k : ℕ) (told : Reply) (done : IsDone s k told) where
  abbrev Left : Op → Own → Text → Sizes → Type 0
  Left o r before z = IsNext (after_reply s k o told) k (row_named o) r (text_put z o before) (position_put z o) (reserve_for (reserve_of (outline_of r)) (size_put z o))

  stream-left : (o : Op) (w : StreamRow) → puts_stream o ≡ true → own_of (agent_of s k) (row_named o) ≡ Some (own.Stream w) → Left o (own.Stream w) w.buffer (sizes_in s (Some (own.Stream w)))
  stream-left (op.Write n bytes position) w h there =
      let z = sizes_in s (Some (own.Stream w)) in
      record {
        next = _;
        there = laws.wrote s k told n bytes position w done there;
        opened = ap Some (sym (written_is w.buffer bytes (start_of z position)));
        position_is = refl;
        reserve_is = refl;
        before_kept = refl;
        after_kept = refl;
        file = refl;
        stream = refl;
      }
  stream-left (op.Truncate n size) w h there =
      record {
        next = _;
        there = laws.truncated s k told n size w done there;
        opened = ap Some (sym (resized_is w.buffer size));
        position_is = refl;
        reserve_is = refl;
        before_kept = refl;
        after_kept = refl;
        file = refl;
        stream = refl;
      }
  stream-left o w h there = absurd (false≢true h)

  handle-left : (o : Op) (h : HandleRow) (f : FileRow Text) → puts_handle o ≡ true → own_of (agent_of s k) (row_named o) ≡ Some (own.Handle h) → file_at s h.file ≡ Some f → Left o (own.Handle h) (bytes_at s h.file) (sizes_in s (Some (own.Handle h)))
  handle-left (op.SyncWrite n bytes at) h f word there file =
      let z = sizes_in s (Some (own.Handle h)) in
      let present : bytes_at s h.file ≡ f.present = ap bytes_in file in
      record {
        next = _;
        there = laws.sync_wrote s k told n bytes at h done there;
        opened =
            ap Some
            (laws.sync_wrote_bytes s k told n bytes at h f done there file
            ∙ ap (λ (xs : Text). splice xs (start_of z at) bytes) (sym present)
            ∙ sym (written_is (bytes_at s h.file) bytes (start_of z at)));
        position_is = refl;
        reserve_is = refl;
        before_kept = refl;
        after_kept = refl;
        file = refl;
        stream = refl;
      }
  handle-left (op.SyncTruncate n size) h f word there file =
      let present : bytes_at s h.file ≡ f.present = ap bytes_in file in
      record {
        next = _;
        there = laws.sync_truncated s k told n size h done there;
        opened =
            ap Some
            (laws.sync_truncated_bytes s k told n size h f done there file
            ∙ ap (λ (xs : Text). resize xs size) (sym present)
            ∙ sym (resized_is (bytes_at s h.file) size));
        position_is = refl;
        reserve_is = refl;
        before_kept = refl;
        after_kept = refl;
        file = refl;
        stream = refl;
      }
  handle-left o h f word there file = absurd (false≢true word)

  module _ (o : Op) (puts : puts_row o ≡ true) (may : IsTrue (may_enter s k o)) (r : Own) (there : own_of (agent_of s k) (row_named o) ≡ Some r) (before : Text) (opened : open_bytes s (Some r) ≡ Some before)
      (files : (h : HandleRow) → r ≡ own.Handle h → (f : FileRow Text) × (file_at s h.file ≡ Some f)) where
    by-word : (puts_stream o ≡ true) ⊎ (puts_handle o ≡ true) → Left o r before (sizes_in s (Some r))
    by-word (inl h) =
        let w = only-stream s r before (ap is_stream_row (sym there) ∙ may-stream s k o h may) opened in
        subst (λ (x : Own). Left o x before (sizes_in s (Some x))) (sym w.1)
        (subst (λ (b : Text). Left o (own.Stream w.0) b (sizes_in s (Some (own.Stream w.0)))) w.2
        (stream-left o w.0 h (there ∙ ap Some w.1)))
    by-word (inr h) =
        let x = only-handle s r before (ap is_handle (sym there) ∙ may-handle s k o h may) opened in
        let f = files x.0 x.1 in
        subst (λ (y : Own). Left o y before (sizes_in s (Some y))) (sym x.1)
        (subst (λ (b : Text). Left o (own.Handle x.0) b (sizes_in s (Some (own.Handle x.0)))) x.2
        (handle-left o x.0 f.0 h (there ∙ ap Some x.1) f.1))

    -- With the sizes that the row had.
    pub row-left : (z : Sizes) → z ≡ sizes_of s k o → Left o r before z
    row-left z is = subst (λ (y : Sizes). Left o r before y) (sym (is ∙ ap (sizes_in s) there)) (by-word (which o puts))

    -- ---- it stays open

    abbrev after : State Text Own
    after = after_reply s k o told

    open-before : open_at (in_lengths_of s) k (row_named o) ≡ if_open (Some (outline_of r))
    open-before = open-is s k (row_named o) ∙ ap (λ (x : Option Own). if_open (option_map outline_of x)) there

    module _ (z : Sizes) (is : z ≡ sizes_of s k o) where
      abbrev pub left : Left o r before z
      left = row-left z is

      open-after : open_at (in_lengths_of after) k (row_named o) ≡ if_open (Some (outline_of left.next))
      open-after = open-is after k (row_named o) ∙ ap (λ (x : Option Own). if_open (option_map outline_of x)) left.there

      pub reserve-after : reserve_in (open_at (in_lengths_of after) k (row_named o)) ≡ reserve_for (reserve_of (outline_of r)) (size_put z o)
      reserve-after = ap reserve_in open-after ∙ left.after_kept ∙ left.reserve_is

      stays : StaysOpen (open_at (in_lengths_of s) k (row_named o)) (open_at (in_lengths_of after) k (row_named o))
      stays = record {
        file = ap file_in open-after ∙ left.file ∙ ap file_in (sym open-before);
        reserve =
            let old : reserve_in (open_at (in_lengths_of s) k (row_named o)) ≡ reserve_of (outline_of r) = ap reserve_in open-before ∙ left.before_kept in
            omega (arith, old, reserve-after);
        stream = ap is_stream open-after ∙ left.stream ∙ ap is_stream (sym open-before);
      }

      pub keeps-open : CallsLeaveOtherRows → KeepsOpen (in_lengths_of s) (in_lengths_of after) k (row_named o)
      keeps-open leave = record {
        others = λ j n apart. leave.called s k o told done.live j n (subst (λ (i : ℕ). IsOther k i j n) (sym (in-hand s k o puts)) apart);
        here = stays;
        limits = (changed-acts s k (number-of s k done.live) o told).limits;
      }

      pub row-after : row_bytes after k (row_named o) ≡ Some (text_put z o before)
      row-after = ap (open_bytes after) left.there ∙ left.opened

      pub reserve-enough : blocks (size_put z o) ≤ reserve_in (open_at (in_lengths_of after) k (row_named o))
      reserve-enough = omega (arith, reserve-after)

-- Its agent has as many rows.
pub rows-put : (s : State Text Own) (k : ℕ) (o : Op) (told : Reply) → IsTrue (agent_of s k).live → puts_row o ≡ true → length (agent_of (after_reply s k o told) k).own ≡ length (agent_of s k).own
rows-put s k o told live puts = elim (call-moves s [] k o told live).more [
  | inl same ↦ same
  | inr more ↦ absurd (false≢true (sym (asks-none o puts) ∙ more.1))
]

pub hand-put : (s : State Text Own) (e : Entry) → puts_row e.op ≡ true → IsTrue (agent_of s e.agent).live → HasInHand s e (row_named e.op)
hand-put s e puts live = record { plain = plain e.op puts; live = live; in_hand = in-hand s e.agent e.op puts }
