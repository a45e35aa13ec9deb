-- What calls that store a row's content have in common, word by word.
use Rattle.std.proofs.Common.{◌≡◌, ◌≢◌, ℕ, ◌-◌, ◌≤◌, zero, suc, true, false, List, [], length, Option, Some, None, Ok, refl, sym, ap, ◌∙◌, arith}
use Rattle.std.proofs.lemmas.Bool.{false≢true}
use Rattle.std.specs.Prelude.{IsTrue}
use Rattle.opfs_store.specs.Acts.Acting.{brings_position, gift_of, row_left}
use Rattle.opfs_store.specs.declared.acts.acted.Gift.TheVariants as gift
use Rattle.opfs_base.specs.Blocks.{blocks}
use Rattle.opfs_base.specs.Places.{Place}
use Rattle.opfs_base.specs.Texts.{Text}
use Rattle.opfs_state_rows.specs.Changes.Allowed.{IsSized}
use Rattle.opfs_pages.specs.HistoryLaws.Hands.{row_in_hand}
use Rattle.opfs_hist.specs.Sums.{asks_for_row}
use Rattle.opfs_hist.specs.declared.history.PendingSum.{PendingSum}
use Rattle.opfs_hist.specs.declared.op.Op.{Op}
use Rattle.opfs_hist.specs.declared.op.Op.TheVariants as op
use Rattle.opfs_hist.specs.declared.reply.Reply.TheVariants as reply
use Rattle.opfs_laws.proofs.lengths.Instance.{lengths-fit}
use Rattle.opfs_laws.proofs.lengths.Readers.{handle-on}
use Rattle.opfs_laws.specs.Lengths.Bridge.{LengthsDecideEachRuling}
use Rattle.opfs_laws.specs.Lengths.Outlines.{in_lengths_of}
use Rattle.opfs_machine.specs.declared.own.HandleOutline.{HandleOutline}
use Rattle.opfs_machine.specs.declared.own.Outline.{Outline}
use Rattle.opfs_machine.specs.declared.own.Own.{Own}
use Rattle.opfs_machine.specs.declared.own.StreamOutline.{StreamOutline}
use Rattle.opfs_machine.specs.declared.state.Agent.{Agent}
use Rattle.opfs_machine.specs.declared.state.Need.{Need}
use Rattle.opfs_machine.specs.declared.state.Sizes.{Sizes}
use Rattle.opfs_machine.specs.declared.state.State.{State}
use Rattle.opfs_machine.specs.Agents.{agent_of, handle_in, of_row, open_handle, open_stream, own_of}
use Rattle.opfs_machine.specs.Contents.{in_bytes, in_lengths, outline_of}
use Rattle.opfs_machine.specs.Histories.{is_disk_op, may_enter, writes_in}
use Rattle.opfs_machine.specs.Replies.{answer, row_named, sizes_of}
use Rattle.opfs_machine.specs.Rulings.{handle_ruling, ruling, stream_ruling}
use Rattle.opfs_machine.specs.Steps.{judged}
use Rattle.opfs_machine.specs.Sums.{no_need}
use Rattle.opfs_state_rows.specs.Standing.Noted.{with_sum}
use Rattle.opfs_state_rows.specs.Standing.Seen.{Machine}
use Rattle.opfs_state.proofs.laws.Readying.{agent-noted, handle-noted}
use Rattle.opfs_state.specs.Verdicts.Callers.{IsAgent}
use Rattle.opfs_desk_contents.specs.Rows.{IsWriterOf, StoresFile}
use Rattle.opfs_desk_contents.specs.Words.{ends_row, is_storing, may_write, stores_row}
use Rattle.opfs_desk_entries.proofs.answers.Words.{before, from-some, none-for, ok-is}

pub word-is : (m : Machine) (k : ℕ) (o : Op) → stores_row m k o ≡ true → is_storing o ≡ true
word-is m k (op.Close n) h = refl
word-is m k (op.SyncFlush n) h = refl
word-is m k (op.SyncClose n) h = refl
word-is m k o h = cc

-- What it stores of says so.
writer-word : (m : Machine) (k n : ℕ) (place : Place) (reserve : ℕ) → IsWriterOf m k n place reserve → may_write (open_handle in_lengths m k n) ≡ true
writer-word m k n place reserve is = ap (λ (x : Option HandleOutline). may_write x) is.there ∙ is.writes

pub is-word : (m : Machine) (k : ℕ) (o : Op) (place : Place) (reserve : ℕ) → StoresFile m k o place reserve → stores_row m k o ≡ true
is-word m k (op.Close n) place reserve is = refl
is-word m k (op.SyncFlush n) place reserve is = writer-word m k n place reserve is
is-word m k (op.SyncClose n) place reserve is = writer-word m k n place reserve is
is-word m k o place reserve is = absurd is

pub in-hand : (s : State Text Own) (k : ℕ) (o : Op) → is_storing o ≡ true → row_in_hand s k o ≡ row_named o
unfolding row_in_hand
in-hand s k (op.Close n) h = refl
in-hand s k (op.SyncFlush n) h = refl
in-hand s k (op.SyncClose n) h = refl
in-hand s k o h = cc

pub leaves-none : (rows : ℕ) (o : Op) → is_storing o ≡ true → ends_row o ≡ true → row_left rows o ≡ 0
leaves-none rows (op.Close n) h ends = refl
leaves-none rows (op.SyncFlush n) h ends = absurd (false≢true ends)
leaves-none rows (op.SyncClose n) h ends = refl
leaves-none rows o h ends = absurd (false≢true h)

pub leaves-named : (rows : ℕ) (o : Op) → is_storing o ≡ true → ends_row o ≡ false → row_left rows o ≡ row_named o
leaves-named rows (op.Close n) h ends = absurd (false≢true (sym ends))
leaves-named rows (op.SyncFlush n) h ends = refl
leaves-named rows (op.SyncClose n) h ends = absurd (false≢true (sym ends))
leaves-named rows o h ends = absurd (false≢true h)

pub not-near : (o : Op) → is_storing o ≡ true → brings_position o ≡ false
not-near (op.Write n bytes position) h = cc
not-near (op.Truncate n size) h = cc
not-near o h = refl

pub makes-none : (o : Op) → is_storing o ≡ true → asks_for_row o ≡ false
makes-none (op.Close n) h = refl
makes-none (op.SyncFlush n) h = refl
makes-none (op.SyncClose n) h = refl
makes-none o h = cc

pub answers-done : (s : State Text Own) (z : Sizes) (k : ℕ) (o : Op) → is_storing o ≡ true → answer s z k o ≡ reply.Done
unfolding answer
answers-done s z k (op.Close n) h = refl
answers-done s z k (op.SyncFlush n) h = refl
answers-done s z k (op.SyncClose n) h = refl
answers-done s z k o h = cc

pub no-gift : (s : State Text Own) (o : Op) → is_storing o ≡ true → gift_of s o reply.Done ≡ gift.Nothing
unfolding gift_of
no-gift s (op.GetFile at) h = cc
no-gift s (op.Next n dir) h = cc
no-gift s o h = refl

suc-some : (n : ℕ) → suc n ≡ 0 → ⊥
suc-some n is = absurd (omega (arith, is))

pub row-some : (s : State Text Own) (k : ℕ) (o : Op) → is_storing o ≡ true → IsTrue (may_enter s k o) → row_named o ≢ 0
unfolding may_enter
row-some s k (op.Close zero) h may is = absurd (false≢true may)
row-some s k (op.Close (suc n)) h may is = suc-some n is
row-some s k (op.SyncFlush zero) h may is = absurd (false≢true may)
row-some s k (op.SyncFlush (suc n)) h may is = suc-some n is
row-some s k (op.SyncClose zero) h may is = absurd (false≢true may)
row-some s k (op.SyncClose (suc n)) h may is = suc-some n is
row-some s k o h may is = absurd cc

-- The size of a stream's buffer has blocks enough.
pub sized : (m : Machine) (z : Sizes) (k : ℕ) (o : Op) → is_storing o ≡ true → ((w : StreamOutline) → open_stream in_lengths m k (row_named o) ≡ Some w → blocks z.size ≤ w.reserve) → IsSized m z k o
unfolding IsSized
sized m z k (op.Write n bytes position) h fits = cc
sized m z k (op.SyncWrite n bytes at) h fits = cc
sized m z k (op.Close n) h fits = fits
sized m z k o h fits = tt

-- ---- it clears no unit

stream-asks : (m : Machine) (k n : ℕ) (need : Need) → stream_ruling in_lengths m k n ≡ Ok need → need ≡ no_need
unfolding stream_ruling
stream-asks m k n need is = ok-is no_need need (from-some (open_stream in_lengths m k n) _ _ need is).2

handle-asks : (m : Machine) (k n : ℕ) (need : Need) → handle_ruling in_lengths m k n ≡ Ok need → need ≡ no_need
unfolding handle_ruling
handle-asks m k n need is = ok-is no_need need (from-some (open_handle in_lengths m k n) _ _ need is).2

asks-none : (m : Machine) (z : Sizes) (k : ℕ) (o : Op) (need : Need) → is_storing o ≡ true → ruling in_lengths m z k o ≡ Ok need → need ≡ no_need
unfolding ruling
asks-none m z k (op.Close n) need h is = stream-asks m k n need is
asks-none m z k (op.SyncFlush n) need h is = handle-asks m k n need is
asks-none m z k (op.SyncClose n) need h is = ok-is no_need need is
asks-none m z k o need h is = absurd (false≢true h)

pub no-units : LengthsDecideEachRuling → (s : State Text Own) (k : ℕ) (o : Op) (units : List Text) → is_storing o ≡ true → judged s k o ≡ Ok units → units ≡ []
unfolding judged
no-units decide s k o units h is =
    none-for s (agent_of s k).key (ruling in_bytes s (sizes_of s k o) k o) units
    (λ need asks. asks-none (in_lengths_of s) (sizes_of s k o) k o need h (decide.ruling s (sizes_of s k o) k o ∙ asks)) is

-- ---- its handle is the same through its agent's pending calls

pub handle-at : (m : Machine) (k : ℕ) (sum : PendingSum) (n : ℕ) → IsAgent m k → open_handle in_lengths (with_sum m (k - 1) sum) k n ≡ open_handle in_lengths m k n
handle-at m zero sum n agent = absurd (omega (arith, agent.above))
handle-at m (suc at) sum n agent =
    ap (λ (i : ℕ). open_handle in_lengths (with_sum m i sum) (suc at) n) (before at)
    ∙ (ap (λ (a : Agent Outline). of_row handle_in (own_of a n)) (agent-noted m at sum (omega (arith, agent.within))) ∙ handle-noted (agent_of m (suc at)) sum.rows sum.moment n)

pub stores-noted : (m : Machine) (k : ℕ) (sum : PendingSum) (o : Op) → IsAgent m k → stores_row m k o ≡ true → stores_row (with_sum m (k - 1) sum) k o ≡ true
stores-noted m k sum (op.Close n) agent h = refl
stores-noted m k sum (op.SyncFlush n) agent h = ap (λ x. may_write x) (handle-at m k sum n agent) ∙ h
stores-noted m k sum (op.SyncClose n) agent h = ap (λ x. may_write x) (handle-at m k sum n agent) ∙ h
stores-noted m k sum o agent h = absurd (false≢true h)

-- ---- the disk may fail in it

same-writes : (x : Option HandleOutline) → writes_in x ≡ may_write x
same-writes None = refl
same-writes (Some h) = refl

-- An open access handle, as the shared store knows it.
pub handle-same : (s : State Text Own) (k n : ℕ) → open_handle in_lengths (in_lengths_of s) k n ≡ open_handle in_bytes s k n
handle-same s k n = handle-on in_bytes in_lengths length outline_of lengths-fit s k n

pub on-disk : (s : State Text Own) (k : ℕ) (o : Op) → stores_row (in_lengths_of s) k o ≡ true → IsTrue (is_disk_op s k o)
unfolding is_disk_op
on-disk s k (op.Close n) h = refl
on-disk s k (op.SyncFlush n) h = same-writes (open_handle in_bytes s k n) ∙ (ap (λ (x : Option HandleOutline). may_write x) (sym (handle-same s k n)) ∙ h)
on-disk s k (op.SyncClose n) h = same-writes (open_handle in_bytes s k n) ∙ (ap (λ (x : Option HandleOutline). may_write x) (sym (handle-same s k n)) ∙ h)
on-disk s k o h = absurd (false≢true h)
