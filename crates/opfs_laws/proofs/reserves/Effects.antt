-- Each call keeps that a file's writer keeps nothing, or blocks enough for the file.
use Rattle.std.proofs.Common.{◌≡◌, ℕ, ◌+◌, ◌*◌, ◌≤◌, zero, suc, Bool, true, false, cond, ◌&&◌, List, [], length, max, Option, Some, None, refl, sym, ap, ◌∙◌, subst, inl, inr, arith}
use Rattle.std.proofs.lemmas.Bool.{false≢true}
use Rattle.std.specs.Ordering.{eq_by_cmp}
use Rattle.opfs_base.specs.Blocks.{blocks}
use Rattle.opfs_base.specs.Places.{Place, place_cmp, place_of, child}
use Rattle.opfs_base.specs.Texts.{Text}
use Rattle.opfs_base.specs.Units.{unit_of}
use Rattle.opfs_base.specs.declared.locator.Kind.TheVariants as kind
use Rattle.opfs_hist.specs.declared.op.Mode.{Mode}
use Rattle.opfs_hist.specs.declared.op.Mode.TheVariants as mode
use Rattle.opfs_hist.specs.declared.op.Op.{Op}
use Rattle.opfs_hist.specs.declared.op.Op.TheVariants as op
use Rattle.opfs_hist.specs.declared.reply.Reply.{Reply}
use Rattle.opfs_locks.specs.declared.Want.{Want}
use Rattle.opfs_locks.specs.declared.Want.TheVariants as want
use Rattle.opfs_machine.specs.declared.own.HandleOutline.{HandleOutline}
use Rattle.opfs_machine.specs.declared.own.StreamOutline.{StreamOutline}
use Rattle.opfs_machine.specs.declared.own.Own.{Own}
use Rattle.opfs_machine.specs.declared.own.Own.TheVariants as own
use Rattle.opfs_machine.specs.declared.state.FileRow.{FileRow}
use Rattle.opfs_machine.specs.declared.state.Row.TheVariants as row
use Rattle.opfs_machine.specs.declared.state.Sizes.{Sizes}
use Rattle.opfs_machine.specs.declared.state.State.{State}
use Rattle.opfs_machine.specs.Agents.{agent_of, own_of, open_stream, open_handle, of_row, handle_in, with_own}
use Rattle.opfs_machine.specs.Contents.{in_bytes, outline_of, written_row, truncated_row, sought_row, moved_row, advanced_row}
use Rattle.opfs_machine.specs.Effects.{effect, refused, new_row, moment_of, opens_bucket, opens_stream, takes_snapshot, closes_stream, aborts_stream, changes_file, flushes, closes_handle, discards, persists, with_written, with_changed, with_lock, flushed, unlocked, undone, replaced, content_of}
use Rattle.opfs_machine.specs.Replies.{sizes_of, sizes_in, bytes_at, bytes_in}
use Rattle.opfs_machine.specs.Rows.{file_at, with_file, children_of}
use Rattle.opfs_machine.specs.Rulings.{start_of, size_written, reserve_for, want_of, is_read_write, first_reserve}
use Rattle.opfs_machine.specs.Steps.{changed_by, is_refusal}
use Rattle.opfs_machine.specs.Sums.{reserve_of}
use Rattle.opfs_splice.specs.Splicing.{splice, resize}
use Rattle.opfs_laws.specs.Covered.{writer_reserve, reserve_at}
use Rattle.opfs_laws.specs.Holders.{hold_of, same_want, counts, AreLocksOfHolders}
use Rattle.opfs_laws.proofs.Allowed.{IsAllowed}
use Rattle.opfs_laws.proofs.LocksEffect.{IsHolder, stream-holder, handle-holder}
use Rattle.opfs_laws.proofs.LocksKept.{counts-here, counts-there}
use Rattle.opfs_laws.proofs.Numbers.{IsNumber}
use Rattle.opfs_laws.proofs.OwnSums.{sum-sets, row-part}
use Rattle.opfs_laws.proofs.Splices.{length-splice, length-resize}
use Rattle.opfs_laws.proofs.Spots.{same_or_apart, file-other}
use Rattle.opfs_laws.proofs.reserves.AllOrNone.{AreAllOrNone, IsAllOrNone, ChangesTo, all-like, keeps-sets, all-agent, all-adds, all-sets, all-changed, all-file, all-idle, all-made, all-without, found-changed, some-file}
use Rattle.opfs_laws.proofs.reserves.Alone.{writers, only-writer, stream-writer}

-- ---- rows that keep as much, or nothing for a writer

none-times : (n : ℕ) → 0 * n ≡ 0
none-times n = omega arith

times-none : (n : ℕ) → n * 0 ≡ 0
times-none n = omega arith

-- Who writes nothing keeps nothing for a writer.
none-reserve : (q : Place) (r : Own) → writers q r ≡ 0 → writer_reserve q r ≡ 0
none-reserve q r none = ap (λ n. n * reserve_of (outline_of r)) none ∙ none-times (reserve_of (outline_of r))

shared-none : (q p : Place) → counts q want.Exclusive (Some (p, want.Shared)) ≡ 0
shared-none q p = elim (eq_by_cmp place_cmp q p) as (λ b. ◌≡◌ {A = ℕ} (cond (b && false) 1 0) 0) [ true ↦ refl | false ↦ refl ]

holds-none : (o : Option Own) (p q : Place) (w : Want) (h : IsHolder o p w) → same_want want.Exclusive w ≡ false → writers q h.row ≡ 0
holds-none o p q w h other =
    ap (counts q want.Exclusive) h.holds ∙ elim (eq_by_cmp place_cmp q p) as (λ b. ◌≡◌ {A = ℕ} (cond (b && same_want want.Exclusive w) 1 0) 0) [ true ↦ ap (λ b. cond b 1 0) other | false ↦ refl ]

both-none : (q : Place) (r new : Own) → writers q r ≡ 0 → writers q new ≡ 0 → writer_reserve q new ≡ writer_reserve q r
both-none q r new was is = none-reserve q new is ∙ sym (none-reserve q r was)

same-row : (q : Place) (r new : Own) → hold_of new ≡ hold_of r → reserve_of (outline_of new) ≡ reserve_of (outline_of r) → writer_reserve q new ≡ writer_reserve q r
same-row q r new holds keeps = (λ i. counts q want.Exclusive (holds i) * keeps i)

written-same : (q : Place) (position : ℕ) (bytes : Text) (reserve : ℕ) (r : Own) → writer_reserve q (written_row r position bytes reserve) ≡ writer_reserve q r
written-same q position bytes reserve (own.Stream w) = both-none q (own.Stream w) (written_row (own.Stream w) position bytes reserve) (shared-none q w.file) (shared-none q w.file)
written-same q position bytes reserve r = refl

truncated-same : (q : Place) (size reserve : ℕ) (r : Own) → writer_reserve q (truncated_row r size reserve) ≡ writer_reserve q r
truncated-same q size reserve (own.Stream w) = both-none q (own.Stream w) (truncated_row (own.Stream w) size reserve) (shared-none q w.file) (shared-none q w.file)
truncated-same q size reserve r = refl

sought-same : (q : Place) (offset : ℕ) (r : Own) → writer_reserve q (sought_row r offset) ≡ writer_reserve q r
sought-same q offset (own.Stream w) = refl
sought-same q offset r = refl

read-same : (q : Place) (cursor : ℕ) (r : Own) → writer_reserve q (moved_row r cursor (reserve_of (outline_of r))) ≡ writer_reserve q r
read-same q cursor (own.Handle w) = refl
read-same q cursor r = refl

advanced-same : (q : Place) (names : List Text) (r : Own) → writer_reserve q (advanced_row r names) ≡ writer_reserve q r
advanced-same q names (own.Iterator i) = refl
advanced-same q names r = refl

-- ---- numbers, and rows of a state with other files

number-file : (s : State Text Own) (k : ℕ) (p : Place) (change : FileRow Text → FileRow Text) → IsNumber s k → IsNumber (with_file s p change) k
number-file s k p change h = record { index = h.index; is = h.is; within = h.within }

own-file : (s : State Text Own) (k n : ℕ) (p : Place) (change : FileRow Text → FileRow Text) → own_of (agent_of (with_file s p change) k) n ≡ own_of (agent_of s k) n
own-file s zero n p change = refl
own-file s (suc i) n p change = refl

number-written : (s : State Text Own) (k : ℕ) (m : Mode) (p : Place) (change : FileRow Text → FileRow Text) → IsNumber s k → IsNumber (with_written s m p change) k
number-written s k mode.ReadWrite p change h = number-file s k p change h
number-written s k mode.ReadOnly p change h = h

own-written : (s : State Text Own) (k n : ℕ) (m : Mode) (p : Place) (change : FileRow Text → FileRow Text) → own_of (agent_of (with_written s m p change) k) n ≡ own_of (agent_of s k) n
own-written s k n mode.ReadWrite p change = own-file s k n p change
own-written s k n mode.ReadOnly p change = refl

kept-written : (s : State Text Own) (m : Mode) (p q : Place) (change : FileRow Text → FileRow Text) → reserve_at (with_written s m p change) q ≡ reserve_at s q
kept-written s mode.ReadWrite p q change = refl
kept-written s mode.ReadOnly p q change = refl

some-row : {a b : Own} → Some a ≡ Some b → a ≡ b
some-row h = cc

-- ---- calls, one by one

bucket-all : (s : State Text Own) (bucket : Text) (key : Option Text) → AreAllOrNone s → AreAllOrNone (opens_bucket s bucket key)
bucket-all s bucket None h = h
bucket-all s bucket (Some origin) h = all-made s (unit_of origin bucket, []) row.Directory (λ g is. absurd (none_some is)) h
  where
    none_some : {g : FileRow Text} → None ≡ Some g → ⊥
    none_some e = cc

snapshot-all : (s : State Text Own) (k : ℕ) (f : Option (FileRow Text)) → IsNumber s k → AreAllOrNone s → AreAllOrNone (takes_snapshot in_bytes s k f)
snapshot-all s k None number h = h
snapshot-all s k (Some f) number h = all-adds s k (own.Snapshot f.present) number (λ q. refl) h

stream-all : (s : State Text Own) (k : ℕ) (p : Place) (reserve : ℕ) (keep : Bool) (f : Option (FileRow Text)) → IsNumber s k → AreAllOrNone s → AreAllOrNone (opens_stream in_bytes s k p reserve keep f)
stream-all s k p reserve keep None number h = h
stream-all s k p reserve keep (Some f) number h =
    all-adds (with_file s p (with_lock want.Shared)) k _ (number-file s k p (with_lock want.Shared) number) (λ q. ap (λ n. n * reserve) (shared-none q p) ∙ none-times reserve)
    (all-file s p (with_lock want.Shared) (λ f. refl) h)

stream-goes : (s : State Text Own) (k n : ℕ) (w : StreamOutline) → IsNumber s k → IsHolder (own_of (agent_of s k) n) w.file want.Shared → AreAllOrNone s
    → AreAllOrNone (with_own (with_file s w.file unlocked) k n own.ClosedStream)
stream-goes s k n w number holder h =
    all-sets (with_file s w.file unlocked) k n holder.row own.ClosedStream (number-file s k w.file unlocked number) (own-file s k n w.file unlocked ∙ holder.is)
    (λ q. inl (both-none q holder.row own.ClosedStream (holds-none (own_of (agent_of s k) n) w.file q want.Shared holder refl) refl))
    (all-file s w.file unlocked (λ f. refl) h)

closes-all : (s : State Text Own) (z : Sizes) (k n : ℕ) (w : Option StreamOutline) → open_stream in_bytes s k n ≡ w → IsNumber s k → AreLocksOfHolders s → AreAllOrNone s → AreAllOrNone (closes_stream in_bytes s z k n w)
closes-all s z k n None is number locks h = h
closes-all s z k n (Some w) is number locks h =
    let change = replaced (content_of in_bytes (own_of (agent_of s k) n) z.size) (moment_of s k) in
    let holder = stream-holder (own_of (agent_of s k) n) w is in
    stream-goes (with_file s w.file change) k n w (number-file s k w.file change number)
    (record { row = holder.row; is = own-file s k n w.file change ∙ holder.is; holds = holder.holds })
    (all-idle s w.file change (stream-writer s k n holder.row w.file locks holder.is holder.holds) h)

aborts-all : (s : State Text Own) (k n : ℕ) (w : Option StreamOutline) → open_stream in_bytes s k n ≡ w → IsNumber s k → AreAllOrNone s → AreAllOrNone (aborts_stream in_bytes s k n w)
aborts-all s k n None is number h = h
aborts-all s k n (Some w) is number h = stream-goes s k n w number (stream-holder (own_of (agent_of s k) n) w is) h

-- An access handle that keeps nothing any more.
idle-handle : (s : State Text Own) (k n : ℕ) (o : HandleOutline) (q : Place) (new : Own) → AreLocksOfHolders s → IsNumber s k → (h : IsHolder (own_of (agent_of s k) n) o.file (want_of o.mode))
    → reserve_of (outline_of new) ≡ 0 → ChangesTo s q h.row new
idle-handle s k n o q new locks number h none = elim o.mode as (λ m. hold_of h.row ≡ Some (o.file, want_of m) → ChangesTo s q h.row new) [
  | mode.ReadOnly ↦ λ holds. inl (new_none ∙ sym (none-reserve q h.row (holds-none (own_of (agent_of s k) n) o.file q want.ReadOnly (record { row = h.row; is = h.is; holds = holds }) refl)))
  | mode.ReadWrite ↦ λ holds. elim (same_or_apart o.file q) as (λ c. ChangesTo s q h.row new) [
    | inl same ↦
        let here : hold_of h.row ≡ Some (q, want.Exclusive) = holds ∙ ap (λ x. Some (x, want.Exclusive)) same in
        inr (new_none, only-writer s k n h.row q locks number h.is here ∙ sym (ap (λ i. i * reserve_of (outline_of h.row)) (counts-here q want.Exclusive want.Exclusive h.row here) ∙ one_times (reserve_of (outline_of h.row))))
    | inr apart ↦ inl (new_none ∙ sym (none-reserve q h.row (counts-there o.file q want.Exclusive want.Exclusive h.row apart holds)))
  ]
] h.holds
  where
    new_none : writer_reserve q new ≡ 0
    new_none = ap (λ i. writers q new * i) none ∙ times-none (writers q new)

    one_times : (i : ℕ) → 1 * i ≡ i
    one_times i = omega arith

moved-reserve : (o : Option Own) (out : HandleOutline) (r : Own) → of_row (λ x. handle_in (outline_of x)) o ≡ Some out → o ≡ Some r → (cursor : ℕ) → reserve_of (outline_of (moved_row r cursor 0)) ≡ 0
moved-reserve None out r h is cursor = cc
moved-reserve (Some (own.Handle w)) out r h is cursor = subst (λ x. reserve_of (outline_of (moved_row x cursor 0)) ≡ 0) (some-row is) refl
moved-reserve (Some x) out r h is cursor = cc

-- Locks and numbers that a change of a file's bytes leaves: what is kept is the same in both states.
to-other : (s t : State Text Own) (q : Place) (r new : Own) → reserve_at t q ≡ reserve_at s q → ChangesTo s q r new → ChangesTo t q r new
to-other s t q r new same (inl keeps) = inl keeps
to-other s t q r new same (inr gone) = inr (gone.0, same ∙ gone.1)

written-all : (s : State Text Own) (m : Mode) (p : Place) (change : FileRow Text → FileRow Text) → ((f : FileRow Text) → (change f).present ≡ f.present) → AreAllOrNone s → AreAllOrNone (with_written s m p change)
written-all s mode.ReadWrite p change same h = all-file s p change same h
written-all s mode.ReadOnly p change same h = h

flushes-all : (s : State Text Own) (z : Sizes) (k n : ℕ) (o : Option HandleOutline) → open_handle in_bytes s k n ≡ o → IsNumber s k → AreLocksOfHolders s → AreAllOrNone s → AreAllOrNone (flushes in_bytes s z k n o)
flushes-all s z k n None is number locks h = h
flushes-all s z k n (Some o) is number locks h =
    let t = with_written s o.mode o.file flushed in
    let holder = handle-holder (own_of (agent_of s k) n) o is in
    all-changed t k n (λ r. moved_row r z.position 0) (number-written s k o.mode o.file flushed number)
    (λ r row q.
    let here : holder.row ≡ r = some-row (sym holder.is ∙ sym (own-written s k n o.mode o.file flushed) ∙ row) in
    to-other s t q r (moved_row r z.position 0) (kept-written s o.mode o.file q flushed)
    (subst (λ x. ChangesTo s q x (moved_row r z.position 0)) here
    (idle-handle s k n o q (moved_row r z.position 0) locks number holder (moved-reserve (own_of (agent_of s k) n) o r is (holder.is ∙ ap Some here) z.position))))
    (written-all s o.mode o.file flushed (λ f. refl) h)

-- A row that ends, whatever becomes of its file if it may write it.
handle-goes : (s : State Text Own) (k n : ℕ) (o : HandleOutline) (m : Mode) (change : FileRow Text → FileRow Text) → o.mode ≡ m → open_handle in_bytes s k n ≡ Some o → IsNumber s k → AreLocksOfHolders s → AreAllOrNone s
    → AreAllOrNone (with_own (with_file (with_written s m o.file change) o.file unlocked) k n own.ClosedHandle)
handle-goes s k n o mode.ReadOnly change mode_is is number locks h =
    let u = with_file s o.file unlocked in
    let holder = handle-holder (own_of (agent_of s k) n) o is in
    all-sets u k n holder.row own.ClosedHandle (number-file s k o.file unlocked number) (own-file s k n o.file unlocked ∙ holder.is)
    (λ q. idle-handle s k n o q own.ClosedHandle locks number holder refl) (all-file s o.file unlocked (λ f. refl) h)
handle-goes s k n o mode.ReadWrite change mode_is is number locks h = λ q f found.
    let t = with_file s o.file change in
    let u = with_file t o.file unlocked in
    let holder = handle-holder (own_of (agent_of s k) n) o is in
    let number_u = number-file t k o.file unlocked (number-file s k o.file change number) in
    let there = own-file t k n o.file unlocked ∙ own-file s k n o.file change ∙ holder.is in
    let keeps = keeps-sets u k n holder.row own.ClosedHandle q number_u there (idle-handle s k n o q own.ClosedHandle locks number holder refl) in
    elim (same_or_apart o.file q) as (λ c. IsAllOrNone (with_own u k n own.ClosedHandle) q f) [
      | inl same ↦
          let holds : hold_of holder.row ≡ Some (q, want.Exclusive) = holder.holds ∙ ap (λ x. Some (o.file, want_of x)) mode_is ∙ ap (λ x. Some (x, want.Exclusive)) same in
          let w = sum-sets (writer_reserve q) u k n holder.row own.ClosedHandle number_u there in
          let all = only-writer s k n holder.row q locks number holder.is holds in
          let one = counts-here q want.Exclusive want.Exclusive holder.row holds in
          let part : writer_reserve q holder.row ≡ 1 * reserve_of (outline_of holder.row) = ap (λ i. i * reserve_of (outline_of holder.row)) one in
          inl (omega (arith, w, all, part))
      | inr apart ↦ all-like s (with_own u k n own.ClosedHandle) q f keeps (h q f (sym (file-other s o.file q change apart) ∙ sym (file-other t o.file q unlocked apart) ∙ found))
    ]

closed-all : (s : State Text Own) (k n : ℕ) (o : Option HandleOutline) → open_handle in_bytes s k n ≡ o → IsNumber s k → AreLocksOfHolders s → AreAllOrNone s → AreAllOrNone (closes_handle in_bytes s k n o)
closed-all s k n None is number locks h = h
closed-all s k n (Some o) is number locks h = handle-goes s k n o o.mode flushed refl is number locks h

discards-all : (s : State Text Own) (k n : ℕ) (o : Option HandleOutline) → open_handle in_bytes s k n ≡ o → IsNumber s k → AreLocksOfHolders s → AreAllOrNone s → AreAllOrNone (discards in_bytes s k n o)
discards-all s k n None is number locks h = h
discards-all s k n (Some o) is number locks h = handle-goes s k n o o.mode undone refl is number locks h

persists-all : (s : State Text Own) (bucket : Text) (grant : Bool) (key : Option Text) → AreAllOrNone s → AreAllOrNone (persists s bucket grant key)
persists-all s bucket grant None h = h
persists-all s bucket true (Some origin) h = h
persists-all s bucket false (Some origin) h = h

opened-none : (q p : Place) (m : Mode) → counts q want.Exclusive (Some (p, want_of m)) * 0 ≡ 0
opened-none q p m = times-none (counts q want.Exclusive (Some (p, want_of m)))

-- ---- a file that its access handle changes

writer-row : (o : Option Own) (out : HandleOutline) (r : Own) → of_row (λ x. handle_in (outline_of x)) o ≡ Some out → o ≡ Some r → (cursor reserve : ℕ)
    → (hold_of (moved_row r cursor reserve) ≡ hold_of r) × (reserve_of (outline_of (moved_row r cursor reserve)) ≡ reserve)
writer-row None out r h is cursor reserve = cc
writer-row (Some (own.Handle w)) out r h is cursor reserve =
    subst (λ x. (hold_of (moved_row x cursor reserve) ≡ hold_of x) × (reserve_of (outline_of (moved_row x cursor reserve)) ≡ reserve)) (some-row is) (refl, refl)
writer-row (Some x) out r h is cursor reserve = cc

one-written : (c w res a b size bytes : ℕ) → c ≡ 1 → w ≡ c * res → res ≡ max a size → bytes ≤ size → w ≤ b → bytes ≤ b
one-written c w res a b size bytes one is most below within = let same : w ≡ 1 * res = is ∙ ap (λ n. n * res) one in omega (arith, same, most, below, within)

exclusive : (m : Mode) → is_read_write m ≡ true → want_of m ≡ want.Exclusive
exclusive mode.ReadWrite h = refl
exclusive mode.ReadOnly h = absurd (false≢true h)

writes-all : (s : State Text Own) (k n : ℕ) (change : Text → Text) (cursor size : ℕ) (o : HandleOutline) (r : Own) → open_handle in_bytes s k n ≡ Some o → is_read_write o.mode ≡ true
    → IsNumber s k → own_of (agent_of s k) n ≡ Some r
    → ((f : FileRow Text) → file_at s o.file ≡ Some f → blocks (length (change f.present)) ≤ blocks size)
    → AreAllOrNone s
    → AreAllOrNone (with_own (with_file s o.file (λ f. record f { present = change f.present; stamp = moment_of s k })) k n (moved_row r cursor (reserve_for o.reserve size)))
writes-all s k n change cursor size o r is writes number there fits h q f found =
    let to : FileRow Text → FileRow Text = λ f. record f { present = change f.present; stamp = moment_of s k } in
    let new = moved_row r cursor (reserve_for o.reserve size) in
    let u = with_file s o.file to in
    let t = with_own u k n new in
    let parts = writer-row (own_of (agent_of s k) n) o r is there cursor (reserve_for o.reserve size) in
    let row_there = own-file s k n o.file to ∙ there in
    let w = sum-sets (writer_reserve q) u k n r new (number-file s k o.file to number) row_there in
    let wpart = row-part (writer_reserve q) s k n r there in
    let holder = handle-holder (own_of (agent_of s k) n) o is in
    let row_same : holder.row ≡ r = some-row (sym holder.is ∙ there) in
    let holds : hold_of r ≡ Some (o.file, want.Exclusive) = ap hold_of (sym row_same) ∙ holder.holds ∙ ap (λ v. Some (o.file, v)) (exclusive o.mode writes) in
    let same_count : writers q new ≡ writers q r = ap (counts q want.Exclusive) parts.0 in
    elim (same_or_apart o.file q) as (λ x. IsAllOrNone t q f) [
      | inl same ↦
          let old = found-changed s o.file q to f same found in
          let one : writers q r ≡ 1 = counts-here q want.Exclusive want.Exclusive r (holds ∙ ap (λ x. Some (x, want.Exclusive)) same) in
          let length_is : length f.present ≡ length (change old.0.present) = ap (λ x. length x.present) old.2 in
          let below_f : blocks (length f.present) ≤ blocks size = subst (λ x. blocks x ≤ blocks size) (sym length_is) (fits old.0 (ap (file_at s) same ∙ old.1)) in
          let enough : writer_reserve q new ≤ reserve_at t q = omega (arith, w, wpart) in
          inr (one-written (writers q r) (writer_reserve q new) (reserve_of (outline_of new)) o.reserve (reserve_at t q) (blocks size) (blocks (length f.present)) one
          (ap (λ i. i * reserve_of (outline_of new)) same_count) parts.1 below_f enough)
      | inr apart ↦
          let none = counts-there o.file q want.Exclusive want.Exclusive r apart holds in
          all-like s t q f (keeps-sets u k n r new q (number-file s k o.file to number) row_there (inl (both-none q r new none (same_count ∙ none)))) (h q f (sym (file-other s o.file q to apart) ∙ found))
    ]

changes-all : (s : State Text Own) (k n : ℕ) (change : Text → Text) (cursor size : ℕ) (o : Option HandleOutline) → open_handle in_bytes s k n ≡ o
    → (h : HandleOutline) × (open_handle in_bytes s k n ≡ Some h) × (is_read_write h.mode ≡ true) → IsNumber s k
    → ((h : HandleOutline) → open_handle in_bytes s k n ≡ Some h → (f : FileRow Text) → file_at s h.file ≡ Some f → blocks (length (change f.present)) ≤ blocks size)
    → AreAllOrNone s → AreAllOrNone (changes_file in_bytes s k n change cursor size o)
unfolding changes_file with_changed
changes-all s k n change cursor size None is may number fits h = h
changes-all s k n change cursor size (Some o) is may number fits h =
    let to : FileRow Text → FileRow Text = λ f. record f { present = change f.present; stamp = moment_of s k } in
    let u = with_file s o.file to in
    let same : may.0 ≡ o = one (sym may.1 ∙ is) in
    elim (own_of (agent_of u k) n) as (λ x. own_of (agent_of u k) n ≡ x → AreAllOrNone (elim x as (λ y. State Text Own) [ Some r ↦ with_own u k n (moved_row r cursor (reserve_for o.reserve size)) | None ↦ u ])) [
      | Some r ↦ λ there. writes-all s k n change cursor size o r is (subst (λ x. is_read_write x.mode ≡ true) same may.2) number (sym (own-file s k n o.file to) ∙ there) (fits o is) h
      | None ↦ λ none. absurd (none_some (sym none ∙ own-file s k n o.file to ∙ (handle-holder (own_of (agent_of s k) n) o is).is))
    ] refl
  where
    one : {a b : HandleOutline} → Some a ≡ Some b → a ≡ b
    one e = cc

    none_some : {r : Own} → None ≡ Some r → ⊥
    none_some e = cc

-- The size that a call tells is that of the handle's file.
size-told : (s : State Text Own) (o : Option Own) (out : HandleOutline) (f : FileRow Text) → of_row (λ r. handle_in (outline_of r)) o ≡ Some out → file_at s out.file ≡ Some f → (sizes_in s o).size ≡ length f.present
size-told s None out f h is = cc
size-told s (Some (own.Handle w)) out f h is = ap (λ x. length (bytes_at s x.file)) (same h) ∙ ap (λ x. length (bytes_in x)) is
  where
    same : {a b : HandleOutline} → Some a ≡ Some b → a ≡ b
    same e = cc
size-told s (Some r) out f h is = cc

-- ---- any call

pub effect-all : (s : State Text Own) (k : ℕ) (o : Op) → IsNumber s k → IsAllowed s k o → AreLocksOfHolders s → AreAllOrNone s → AreAllOrNone (effect in_bytes s (sizes_of s k o) k o)
unfolding effect
effect-all s k (op.GetDirectory bucket) number may locks h = bucket-all s bucket (agent_of s k).key h
effect-all s k (op.GetDirectoryHandle dir name create) number may locks h = all-made s (child (place_of dir) name) row.Directory (λ g is. absurd (none_some is)) h
  where
    none_some : {g : FileRow Text} → None ≡ Some g → ⊥
    none_some e = cc
effect-all s k (op.GetFileHandle dir name create) number may locks h =
    all-made s (child (place_of dir) name) (new_row in_bytes kind.File (moment_of s k)) (λ g is. ap (λ (x : FileRow Text). x.present) (sym (some-file is))) h
effect-all s k (op.RemoveEntry dir name recursive) number may locks h = all-without s (child (place_of dir) name) h
effect-all s k (op.Values dir) number may locks h = all-adds s k (own.Iterator (record { dir = dir; given = [] })) number (λ q. refl) h
effect-all s k (op.Next n dir) number may locks h =
    all-changed s k n (λ r. advanced_row r (children_of s (place_of dir))) number (λ r is q. inl (advanced-same q (children_of s (place_of dir)) r)) h
effect-all s k (op.GetFile at) number may locks h = snapshot-all s k (file_at s (place_of at)) number h
effect-all s k (op.CreateWritable at keep) number may locks h = stream-all s k (place_of at) (first_reserve in_bytes s at keep) keep (file_at s (place_of at)) number h
effect-all s k (op.Write n bytes position) number may locks h = all-changed s k n _ number (λ r is q. inl (written-same q _ bytes _ r)) h
effect-all s k (op.Seek n position) number may locks h = all-changed s k n (λ r. sought_row r position) number (λ r is q. inl (sought-same q position r)) h
effect-all s k (op.Truncate n size) number may locks h = all-changed s k n _ number (λ r is q. inl (truncated-same q size _ r)) h
effect-all s k (op.Close n) number may locks h = closes-all s (sizes_of s k (op.Close n)) k n (open_stream in_bytes s k n) refl number locks h
effect-all s k (op.Abort n) number may locks h = aborts-all s k n (open_stream in_bytes s k n) refl number h
effect-all s k (op.CreateSyncAccessHandle at m) number may locks h =
    all-adds (with_file s (place_of at) (with_lock (want_of m))) k _ (number-file s k (place_of at) (with_lock (want_of m)) number) (λ q. opened-none q (place_of at) m)
    (all-file s (place_of at) (with_lock (want_of m)) (λ f. refl) h)
effect-all s k (op.SyncRead n len at) number may locks h = all-changed s k n _ number (λ r is q. inl (read-same q _ r)) h
effect-all s k (op.SyncWrite n bytes at) number may locks h =
    let z = sizes_of s k (op.SyncWrite n bytes at) in
    changes-all s k n (λ f. splice f (start_of z at) bytes) _ (size_written z at bytes) (open_handle in_bytes s k n) refl may number
    (λ o is f there.
    let size = size-told s (own_of (agent_of s k) n) o f is there in
    let same : blocks (length (splice f.present (start_of z at) bytes)) ≡ blocks (size_written z at bytes) =
    ap blocks (length-splice f.present (start_of z at) bytes ∙ ap (λ x. max x (start_of z at + length bytes)) (sym size)) in
    omega (arith, same)) h
effect-all s k (op.SyncTruncate n size) number may locks h =
    changes-all s k n (λ f. resize f size) _ size (open_handle in_bytes s k n) refl may number
    (λ o is f there. let same : blocks (length (resize f.present size)) ≡ blocks size = ap blocks (length-resize f.present size) in omega (arith, same)) h
effect-all s k (op.SyncFlush n) number may locks h = flushes-all s (sizes_of s k (op.SyncFlush n)) k n (open_handle in_bytes s k n) refl number locks h
effect-all s k (op.SyncClose n) number may locks h = closed-all s k n (open_handle in_bytes s k n) refl number locks h
effect-all s k (op.Persist bucket) number may locks h = persists-all s bucket (agent_of s k).grant (agent_of s k).key h
effect-all s k (op.Moment ms) number may locks h = all-agent s k (record (agent_of s k) { moment = ms }) number refl h
effect-all s k (op.Await tag) number may locks h = all-agent s k (record (agent_of s k) { waits = None }) number refl h
effect-all s k (op.Wait tag) number may locks h = all-agent s k (record (agent_of s k) { waits = Some tag }) number refl h
effect-all s k (op.Discard n) number may locks h = discards-all s k n (open_handle in_bytes s k n) refl number locks h
effect-all s k op.End number may locks h = all-agent s k (record (agent_of s k) { live = false; waits = None }) number refl h
effect-all s k o number may locks h = h

refused-all : (s : State Text Own) (k : ℕ) (o : Op) → IsNumber s k → AreAllOrNone s → AreAllOrNone (refused s k o)
refused-all s k (op.Await tag) number h = all-agent s k (record (agent_of s k) { waits = None }) number refl h
refused-all s k o number h = h

pub changed-all : (s : State Text Own) (k : ℕ) (o : Op) (answered : Reply) → IsNumber s k → (is_refusal answered ≡ false → IsAllowed s k o) → AreLocksOfHolders s → AreAllOrNone s → AreAllOrNone (changed_by s k o answered)
changed-all s k o answered number may locks h =
    elim (is_refusal answered) as (λ b. (b ≡ false → IsAllowed s k o) → AreAllOrNone (elim b as (λ x. State Text Own) [ true ↦ refused s k o | false ↦ effect in_bytes s (sizes_of s k o) k o ])) [
      | true ↦ λ m. refused-all s k o number h
      | false ↦ λ m. effect-all s k o number (m refl) locks h
    ] may
