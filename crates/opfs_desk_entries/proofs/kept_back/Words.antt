-- What calls that make or remove an entry have in common, word by word.
use Rattle.std.proofs.Common.{◌≡◌, ℕ, true, false, [], Option, Some, None, refl}
use Rattle.std.specs.Prelude.{IsTrue}
use Rattle.opfs_store.specs.Acts.Acting.{gift_of, row_left, brings_position}
use Rattle.opfs_store.specs.declared.acts.acted.Gift.TheVariants as gift
use Rattle.opfs_base.specs.Places.{Place, place_of, child}
use Rattle.opfs_base.specs.Texts.{Text}
use Rattle.opfs_base.specs.Units.{unit_of}
use Rattle.opfs_state_rows.specs.Changes.Allowed.{IsSized}
use Rattle.opfs_hist.specs.Sums.{asks_for_row}
use Rattle.opfs_hist.specs.declared.op.Op.{Op}
use Rattle.opfs_hist.specs.declared.op.Op.TheVariants as op
use Rattle.opfs_hist.specs.declared.reply.Reply.TheVariants as reply
use Rattle.opfs_machine.specs.declared.own.Own.{Own}
use Rattle.opfs_machine.specs.declared.state.Row.{Row}
use Rattle.opfs_machine.specs.declared.state.Sizes.{Sizes}
use Rattle.opfs_machine.specs.declared.state.State.{State}
use Rattle.opfs_machine.specs.Agents.{agent_of}
use Rattle.opfs_machine.specs.Contents.{Contents, in_bytes, in_lengths}
use Rattle.opfs_machine.specs.Effects.{effect, made, opens_bucket, refused}
use Rattle.opfs_machine.specs.Histories.{is_disk_op, evicted_by}
use Rattle.opfs_machine.specs.Replies.{answer, row_named}
use Rattle.opfs_machine.specs.Rows.{row_at, with_row}
use Rattle.opfs_space.specs.Room.{Machine}
use Rattle.opfs_pages.specs.HistoryLaws.Hands.{row_in_hand}
use Rattle.opfs_desk_entries.specs.KeptBack.Keeping.{is_of_entry, keeps_back}
use Rattle.opfs_desk_entries.specs.KeptBack.Words.{IsQuietCall}

pub kept-word : (m : Machine) (k : ℕ) (o : Op) → keeps_back m k o ≡ true → is_of_entry o ≡ true
kept-word m k (op.GetDirectory bucket) h = refl
kept-word m k (op.GetDirectoryHandle dir name create) h = refl
kept-word m k (op.GetFileHandle dir name create) h = refl
kept-word m k (op.RemoveEntry dir name recursive) h = refl
kept-word m k o h = cc

pub answers-done : (s : State Text Own) (z : Sizes) (k : ℕ) (o : Op) → is_of_entry o ≡ true → answer s z k o ≡ reply.Done
unfolding answer
answers-done s z k (op.GetDirectory bucket) h = refl
answers-done s z k (op.GetDirectoryHandle dir name create) h = refl
answers-done s z k (op.GetFileHandle dir name create) h = refl
answers-done s z k (op.RemoveEntry dir name recursive) h = refl
answers-done s z k o h = cc

pub sized : (m : Machine) (z : Sizes) (k : ℕ) (o : Op) → is_of_entry o ≡ true → IsSized m z k o
unfolding IsSized
sized m z k (op.GetDirectory bucket) h = tt
sized m z k (op.GetDirectoryHandle dir name create) h = tt
sized m z k (op.GetFileHandle dir name create) h = tt
sized m z k (op.RemoveEntry dir name recursive) h = tt
sized m z k o h = cc

pub on-disk : (s : State Text Own) (k : ℕ) (o : Op) → is_of_entry o ≡ true → IsTrue (is_disk_op s k o)
unfolding is_disk_op
on-disk s k (op.GetDirectory bucket) h = refl
on-disk s k (op.GetDirectoryHandle dir name create) h = refl
on-disk s k (op.GetFileHandle dir name create) h = refl
on-disk s k (op.RemoveEntry dir name recursive) h = refl
on-disk s k o h = cc

pub no-gift : (s : State Text Own) (o : Op) → is_of_entry o ≡ true → gift_of s o reply.Done ≡ gift.Nothing
unfolding gift_of
no-gift s (op.GetDirectory bucket) h = refl
no-gift s (op.GetDirectoryHandle dir name create) h = refl
no-gift s (op.GetFileHandle dir name create) h = refl
no-gift s (op.RemoveEntry dir name recursive) h = refl
no-gift s o h = cc

pub leaves-none : (rows : ℕ) (o : Op) → is_of_entry o ≡ true → row_left rows o ≡ 0
leaves-none rows (op.GetDirectory bucket) h = refl
leaves-none rows (op.GetDirectoryHandle dir name create) h = refl
leaves-none rows (op.GetFileHandle dir name create) h = refl
leaves-none rows (op.RemoveEntry dir name recursive) h = refl
leaves-none rows o h = cc

pub not-near : (o : Op) → is_of_entry o ≡ true → brings_position o ≡ false
not-near (op.GetDirectory bucket) h = refl
not-near (op.GetDirectoryHandle dir name create) h = refl
not-near (op.GetFileHandle dir name create) h = refl
not-near (op.RemoveEntry dir name recursive) h = refl
not-near o h = cc

pub names-none : (o : Op) → is_of_entry o ≡ true → (row_named o ≡ 0) × (asks_for_row o ≡ false)
names-none (op.GetDirectory bucket) h = (refl, refl)
names-none (op.GetDirectoryHandle dir name create) h = (refl, refl)
names-none (op.GetFileHandle dir name create) h = (refl, refl)
names-none (op.RemoveEntry dir name recursive) h = (refl, refl)
names-none o h = cc

pub no-eviction : (o : Op) → is_of_entry o ≡ true → evicted_by o ≡ None
no-eviction (op.GetDirectory bucket) h = refl
no-eviction (op.GetDirectoryHandle dir name create) h = refl
no-eviction (op.GetFileHandle dir name create) h = refl
no-eviction (op.RemoveEntry dir name recursive) h = refl
no-eviction o h = cc

-- ---- agents and limits stay

module _ {F R : Type 0} (c : Contents F R) where
  made-agents : (s : State F R) (place : Place) (r : Row F) → (made s place r).agents ≡ s.agents
  made-agents s place r = elim (row_at s place) as (λ o. (elim o as (λ x. State F R) [ Some old ↦ s | None ↦ with_row s place r ]).agents ≡ s.agents) [ Some old ↦ refl | None ↦ refl ]

  made-limits : (s : State F R) (place : Place) (r : Row F) → (made s place r).limits ≡ s.limits
  made-limits s place r = elim (row_at s place) as (λ o. (elim o as (λ x. State F R) [ Some old ↦ s | None ↦ with_row s place r ]).limits ≡ s.limits) [ Some old ↦ refl | None ↦ refl ]

  bucket-agents : (s : State F R) (bucket : Text) (key : Option Text) → (opens_bucket s bucket key).agents ≡ s.agents
  bucket-agents s bucket None = refl
  bucket-agents s bucket (Some origin) = made-agents s (unit_of origin bucket, []) _

  bucket-limits : (s : State F R) (bucket : Text) (key : Option Text) → (opens_bucket s bucket key).limits ≡ s.limits
  bucket-limits s bucket None = refl
  bucket-limits s bucket (Some origin) = made-limits s (unit_of origin bucket, []) _

  pub kept-agents : (s : State F R) (z : Sizes) (k : ℕ) (o : Op) → is_of_entry o ≡ true → (effect c s z k o).agents ≡ s.agents
  unfolding effect
  kept-agents s z k (op.GetDirectory bucket) h = bucket-agents s bucket (agent_of s k).key
  kept-agents s z k (op.GetDirectoryHandle dir name create) h = made-agents s (child (place_of dir) name) _
  kept-agents s z k (op.GetFileHandle dir name create) h = made-agents s (child (place_of dir) name) _
  kept-agents s z k (op.RemoveEntry dir name recursive) h = refl
  kept-agents s z k o h = cc

  pub kept-limits : (s : State F R) (z : Sizes) (k : ℕ) (o : Op) → is_of_entry o ≡ true → (effect c s z k o).limits ≡ s.limits
  unfolding effect
  kept-limits s z k (op.GetDirectory bucket) h = bucket-limits s bucket (agent_of s k).key
  kept-limits s z k (op.GetDirectoryHandle dir name create) h = made-limits s (child (place_of dir) name) _
  kept-limits s z k (op.GetFileHandle dir name create) h = made-limits s (child (place_of dir) name) _
  kept-limits s z k (op.RemoveEntry dir name recursive) h = refl
  kept-limits s z k o h = cc

pub refused-same : (s : State Text Own) (k : ℕ) (o : Op) → is_of_entry o ≡ true → refused s k o ≡ s
refused-same s k (op.GetDirectory bucket) h = refl
refused-same s k (op.GetDirectoryHandle dir name create) h = refl
refused-same s k (op.GetFileHandle dir name create) h = refl
refused-same s k (op.RemoveEntry dir name recursive) h = refl
refused-same s k o h = cc

-- ---- all of it

no-hand : (s : State Text Own) (k : ℕ) (o : Op) → is_of_entry o ≡ true → row_in_hand s k o ≡ 0
unfolding row_in_hand
no-hand s k (op.GetDirectory bucket) h = refl
no-hand s k (op.GetDirectoryHandle dir name create) h = refl
no-hand s k (op.GetFileHandle dir name create) h = refl
no-hand s k (op.RemoveEntry dir name recursive) h = refl
no-hand s k o h = cc

pub quiet-call : (k : ℕ) (o : Op) → is_of_entry o ≡ true → IsQuietCall k o reply.Done
quiet-call k o h = record {
  done = refl;
  disk = λ s. on-disk s k o h;
  sized = λ m z. sized m z k o h;
  gift = λ s. no-gift s o h;
  hand = λ s. no-hand s k o h;
  left = λ rows. leaves-none rows o h;
  near = not-near o h;
  plain = no-eviction o h;
  refused = λ s. refused-same s k o h;
  agents = λ s z. kept-agents in_bytes s z k o h;
  outlines = λ m z. kept-agents in_lengths m z k o h;
  limits = λ m z. kept-limits in_lengths m z k o h;
}
