-- Calls that put bytes into a row, word by word.
use Rattle.std.proofs.Common.{◌≡◌, ◌≢◌, ℕ, ◌+◌, ◌^◌, ◌<◌, ◌≤◌, min, max, zero, suc, true, false, [], List, length, None, Ok, refl, ap, ◌∙◌, arith}
use Rattle.std.proofs.lemmas.Bool.{false≢true}
use Rattle.std.specs.Prelude.{IsTrue}
use Rattle.opfs_store.specs.Acts.Acting.{brings_position, gift_of, row_left}
use Rattle.opfs_store.specs.declared.acts.acted.Gift.TheVariants as gift
use Rattle.opfs_base.specs.Texts.{Text}
use Rattle.opfs_books.specs.Stored.Spelled.{spelled_by}
use Rattle.opfs_state_rows.specs.Changes.Allowed.{IsSized}
use Rattle.opfs_state_rows.specs.Changes.Asking.{made_at}
use Rattle.opfs_state_rows.specs.Changes.Changed.{freed_in}
use Rattle.opfs_pages.specs.HistoryLaws.Hands.{row_in_hand}
use Rattle.opfs_desk_steps.specs.RowLaws.Puts.{puts_row, size_put}
use Rattle.opfs_desk_bytes.specs.Writing.Words.{beside_put, bytes_put, place_put, position_put, reply_put, writes_bytes}
use Rattle.opfs_hist.specs.Sums.{asks_for_row}
use Rattle.opfs_hist.specs.declared.op.Op.{Op}
use Rattle.opfs_hist.specs.declared.op.Op.TheVariants as op
use Rattle.opfs_laws.proofs.Gone.{bind-gave, then-gave, unless-gave, some-gave}
use Rattle.opfs_machine.specs.declared.own.Own.{Own}
use Rattle.opfs_machine.specs.declared.state.Need.{Need}
use Rattle.opfs_machine.specs.declared.state.Sizes.{Sizes}
use Rattle.opfs_machine.specs.declared.state.State.{State}
use Rattle.opfs_machine.specs.Contents.{in_bytes}
use Rattle.opfs_machine.specs.Histories.{evicted_by, is_disk_op, is_writer, may_enter, writes_in}
use Rattle.opfs_machine.specs.Replies.{answer, row_named, sizes_of}
use Rattle.opfs_machine.specs.Rulings.{grow_handle_ruling, ruling, size_written}
use Rattle.opfs_machine.specs.Steps.{is_refusal, judged}
use Rattle.opfs_space.specs.Room.{Machine}
use Rattle.opfs_tree.specs.Rows.{Rows as Tree}

pub sized : (m : Machine) (z : Sizes) (k : ℕ) (o : Op) → puts_row o ≡ true → size_put z o < 2 ^ 63 → IsSized m z k o
unfolding IsSized
sized m z k (op.Write n bytes position) h small = omega (arith, small)
sized m z k (op.Truncate n size) h small = tt
sized m z k (op.SyncWrite n bytes at) h small = omega (arith, small)
sized m z k (op.SyncTruncate n size) h small = tt
sized m z k o h small = cc

pub stays : (z : Sizes) (o : Op) → puts_row o ≡ true → place_put z o + length (bytes_put o) ≤ size_put z o
stays z (op.Write n bytes position) h = omega arith
stays z (op.Truncate n size) h = omega arith
stays z (op.SyncWrite n bytes at) h = omega arith
stays z (op.SyncTruncate n size) h = omega arith
stays z o h = cc

pub position-within : (z : Sizes) (o : Op) → puts_row o ≡ true → position_put z o ≤ size_put z o
position-within z (op.Write n bytes position) h = omega arith
position-within z (op.Truncate n size) h = omega arith
position-within z (op.SyncWrite n bytes at) h = omega arith
position-within z (op.SyncTruncate n size) h = omega arith
position-within z o h = cc

pub beside-within : (z : Sizes) (o : Op) → puts_row o ≡ true → beside_put z o ≤ size_put z o
beside-within z (op.Write n bytes position) h = omega arith
beside-within z (op.Truncate n size) h = omega arith
beside-within z (op.SyncWrite n bytes at) h = omega arith
beside-within z (op.SyncTruncate n size) h = omega arith
beside-within z o h = cc

pub beside-position : (z : Sizes) (o : Op) → puts_row o ≡ true → brings_position o ≡ true → beside_put z o ≡ position_put z o
beside-position z (op.Write n bytes position) h brings = refl
beside-position z (op.Truncate n size) h brings = refl
beside-position z (op.SyncWrite n bytes at) h brings = absurd (false≢true brings)
beside-position z (op.SyncTruncate n size) h brings = absurd (false≢true brings)
beside-position z o h brings = cc

pub plain : (o : Op) → puts_row o ≡ true → evicted_by o ≡ None
plain (op.Write n bytes position) h = refl
plain (op.Truncate n size) h = refl
plain (op.SyncWrite n bytes at) h = refl
plain (op.SyncTruncate n size) h = refl
plain o h = cc

pub in-hand : (s : State Text Own) (k : ℕ) (o : Op) → puts_row o ≡ true → row_in_hand s k o ≡ row_named o
unfolding row_in_hand
in-hand s k (op.Write n bytes position) h = refl
in-hand s k (op.Truncate n size) h = refl
in-hand s k (op.SyncWrite n bytes at) h = refl
in-hand s k (op.SyncTruncate n size) h = refl
in-hand s k o h = cc

pub asks-none : (o : Op) → puts_row o ≡ true → asks_for_row o ≡ false
asks-none (op.Write n bytes position) h = refl
asks-none (op.Truncate n size) h = refl
asks-none (op.SyncWrite n bytes at) h = refl
asks-none (op.SyncTruncate n size) h = refl
asks-none o h = cc

pub answers-put : (s : State Text Own) (z : Sizes) (k : ℕ) (o : Op) → puts_row o ≡ true → answer s z k o ≡ reply_put o
unfolding answer
answers-put s z k (op.Write n bytes position) h = refl
answers-put s z k (op.Truncate n size) h = refl
answers-put s z k (op.SyncWrite n bytes at) h = refl
answers-put s z k (op.SyncTruncate n size) h = refl
answers-put s z k o h = cc

pub done-put : (o : Op) → puts_row o ≡ true → is_refusal (reply_put o) ≡ false
done-put (op.Write n bytes position) h = refl
done-put (op.Truncate n size) h = refl
done-put (op.SyncWrite n bytes at) h = refl
done-put (op.SyncTruncate n size) h = refl
done-put o h = cc

pub no-gift : (s : State Text Own) (o : Op) → puts_row o ≡ true → gift_of s o (reply_put o) ≡ gift.Nothing
unfolding gift_of
no-gift s (op.Write n bytes position) h = refl
no-gift s (op.Truncate n size) h = refl
no-gift s (op.SyncWrite n bytes at) h = refl
no-gift s (op.SyncTruncate n size) h = refl
no-gift s o h = cc

pub leaves-named : (rows : ℕ) (o : Op) → puts_row o ≡ true → row_left rows o ≡ row_named o
leaves-named rows (op.Write n bytes position) h = refl
leaves-named rows (op.Truncate n size) h = refl
leaves-named rows (op.SyncWrite n bytes at) h = refl
leaves-named rows (op.SyncTruncate n size) h = refl
leaves-named rows o h = cc

pub silent : (m : Machine) (t : Tree) (k : ℕ) (o : Op) (z : Sizes) → puts_row o ≡ true → spelled_by m t k o z None ≡ None
unfolding spelled_by made_at
silent m t k (op.Write n bytes position) z h = refl
silent m t k (op.Truncate n size) z h = refl
silent m t k (op.SyncWrite n bytes at) z h = refl
silent m t k (op.SyncTruncate n size) z h = refl
silent m t k o z h = cc

suc-some : (n : ℕ) → suc n ≡ 0 → ⊥
suc-some n is = absurd (omega (arith, is))

pub row-some : (s : State Text Own) (k : ℕ) (o : Op) → puts_row o ≡ true → IsTrue (may_enter s k o) → row_named o ≢ 0
unfolding may_enter
row-some s k (op.Write zero bytes position) h may is = absurd (false≢true may)
row-some s k (op.Write (suc n) bytes position) h may is = suc-some n is
row-some s k (op.Truncate zero size) h may is = absurd (false≢true may)
row-some s k (op.Truncate (suc n) size) h may is = suc-some n is
row-some s k (op.SyncWrite zero bytes at) h may is = absurd (false≢true may)
row-some s k (op.SyncWrite (suc n) bytes at) h may is = suc-some n is
row-some s k (op.SyncTruncate zero size) h may is = absurd (false≢true may)
row-some s k (op.SyncTruncate (suc n) size) h may is = suc-some n is
row-some s k o h may is = absurd cc

-- ---- the disk may fail in it

ruled : (s : State Text Own) (k : ℕ) (o : Op) (units : List Text) → judged s k o ≡ Ok units → (need : Need) × (ruling in_bytes s (sizes_of s k o) k o ≡ Ok need)
unfolding judged
ruled s k o units is = let both = bind-gave _ _ units is in (both.0, both.1)

writer : (s : State Text Own) (z : Sizes) (k n size : ℕ) (need : Need) → grow_handle_ruling in_bytes s z k n size ≡ Ok need → is_writer s k n ≡ true
unfolding grow_handle_ruling
writer s z k n size need is =
    let both = bind-gave _ _ need is in
    let rest = then-gave _ _ need both.2 in
    ap writes_in (some-gave _ _ both.0 both.1) ∙ unless-gave _ _ rest.0

pub on-disk : (s : State Text Own) (k : ℕ) (o : Op) (units : List Text) → puts_row o ≡ true → judged s k o ≡ Ok units → IsTrue (is_disk_op s k o)
unfolding is_disk_op ruling
on-disk s k (op.Write n bytes position) units h is = refl
on-disk s k (op.Truncate n size) units h is = refl
on-disk s k (op.SyncWrite n bytes at) units h is =
    let need = ruled s k (op.SyncWrite n bytes at) units is in writer s (sizes_of s k (op.SyncWrite n bytes at)) k n (size_written (sizes_of s k (op.SyncWrite n bytes at)) at bytes) need.0 need.1
on-disk s k (op.SyncTruncate n size) units h is =
    let need = ruled s k (op.SyncTruncate n size) units is in writer s (sizes_of s k (op.SyncTruncate n size)) k n size need.0 need.1
on-disk s k o units h is = cc

-- ---- what it does to a working copy

pub written-at : (z : Sizes) (o : Op) → writes_bytes o ≡ true → (size_put z o ≡ max z.size (place_put z o + length (bytes_put o))) × (position_put z o ≡ place_put z o + length (bytes_put o))
written-at z (op.Write n bytes position) h = (refl, refl)
written-at z (op.SyncWrite n bytes at) h = (refl, refl)
written-at z o h = cc

pub cut-at : (z : Sizes) (o : Op) → puts_row o ≡ true → writes_bytes o ≡ false → (place_put z o ≡ 0) × (length (bytes_put o) ≡ 0) × (position_put z o ≡ min z.position (size_put z o)) × (beside_put z o ≡ min z.position (size_put z o))
cut-at z (op.Truncate n size) h w = (refl, refl, refl, refl)
cut-at z (op.SyncTruncate n size) h w = (refl, refl, refl, refl)
cut-at z o h w = cc

pub frees-none : (m : Machine) (t : Tree) (k : ℕ) (o : Op) → puts_row o ≡ true → freed_in m t k o None ≡ []
unfolding freed_in
frees-none m t k (op.Write n bytes position) h = refl
frees-none m t k (op.Truncate n size) h = refl
frees-none m t k (op.SyncWrite n bytes at) h = refl
frees-none m t k (op.SyncTruncate n size) h = refl
frees-none m t k o h = cc
