-- getFile, word by word.
use Rattle.std.proofs.Common.{◌≡◌, ℕ, true, false, [], ◌∷◌, ◌++◌, List, length, Option, Some, None, Ok, refl, sym, ap, ◌∙◌, arith}
use Rattle.std.proofs.lemmas.Bool.{and_parts, false≢true}
use Rattle.std.proofs.lemmas.List.{length-append}
use Rattle.std.specs.Prelude.{IsTrue, slice_get}
use Rattle.opfs_store.specs.Acts.Acting.{brings_position, gift_of, row_left}
use Rattle.opfs_store.specs.declared.acts.acted.Gift.TheVariants as gift
use Rattle.opfs_base.specs.Places.{place_of}
use Rattle.opfs_base.specs.Texts.{Text}
use Rattle.opfs_base.specs.declared.locator.Kind.TheVariants as kind
use Rattle.opfs_state_rows.specs.Changes.Allowed.{IsSized}
use Rattle.opfs_pages.specs.HistoryLaws.Hands.{row_in_hand}
use Rattle.opfs_pages.specs.HistoryLaws.RowsAfter.{IsDone}
use Rattle.opfs_desk_bytes.specs.Reading.Words.{file_read, gets_file, reads_bytes}
use Rattle.opfs_desk_steps.specs.RowLaws.Opens.{next_row}
use Rattle.opfs_desk_steps.proofs.row_laws.Opens.{number-of as row-number}
use Rattle.opfs_hist.specs.declared.op.Op.{Op}
use Rattle.opfs_hist.specs.declared.op.Op.TheVariants as op
use Rattle.opfs_hist.specs.declared.reply.Reply.{Reply}
use Rattle.opfs_hist.specs.declared.reply.Reply.TheVariants as reply
use Rattle.opfs_laws.proofs.Gone.{bind-gave, then-gave, unless-gave}
use Rattle.opfs_laws.proofs.Local.{room_for_nothing}
use Rattle.opfs_laws.proofs.Numbers.{agent-set, number-of}
use Rattle.opfs_machine.specs.declared.own.Own.{Own}
use Rattle.opfs_machine.specs.declared.own.Own.TheVariants as own
use Rattle.opfs_machine.specs.declared.state.FileRow.{FileRow}
use Rattle.opfs_machine.specs.declared.state.Need.{Need}
use Rattle.opfs_machine.specs.declared.state.Row.{Row}
use Rattle.opfs_machine.specs.declared.state.Row.TheVariants as row
use Rattle.opfs_machine.specs.declared.state.Sizes.{Sizes}
use Rattle.opfs_machine.specs.declared.state.State.{State}
use Rattle.opfs_machine.specs.Agents.{adds_own, agent_of, own_of}
use Rattle.opfs_machine.specs.Contents.{in_bytes}
use Rattle.opfs_machine.specs.Effects.{effect, refused, takes_snapshot}
use Rattle.opfs_machine.specs.Histories.{evicted_by, is_disk_op}
use Rattle.opfs_machine.specs.Replies.{answer, bytes_at, file_reply, sizes_of}
use Rattle.opfs_machine.specs.Ruled.{Ruled}
use Rattle.opfs_machine.specs.Rows.{file_at, file_of, holds_kind, is_located, row_at, wants}
use Rattle.opfs_machine.specs.Rulings.{located_ruling, ruling}
use Rattle.opfs_machine.specs.Steps.{after_reply, changed_by, judged, room_for}
use Rattle.opfs_machine.specs.Sums.{no_need}
use Rattle.opfs_space.specs.Room.{Machine}

pub sized : (m : Machine) (z : Sizes) (k : ℕ) (o : Op) → gets_file o ≡ true → IsSized m z k o
unfolding IsSized
sized m z k (op.GetFile at) h = tt
sized m z k o h = cc

pub on-disk : (s : State Text Own) (k : ℕ) (o : Op) → gets_file o ≡ true → IsTrue (is_disk_op s k o)
unfolding is_disk_op
on-disk s k (op.GetFile at) h = refl
on-disk s k o h = cc

pub plain : (o : Op) → gets_file o ≡ true → evicted_by o ≡ None
plain (op.GetFile at) h = refl
plain o h = cc

pub in-hand : (s : State Text Own) (k : ℕ) (o : Op) → gets_file o ≡ true → row_in_hand s k o ≡ next_row s k
unfolding row_in_hand
in-hand s k (op.GetFile at) h = row-number (length (agent_of s k).own)
in-hand s k o h = cc

pub gift-is : (s : State Text Own) (o : Op) (size stamp : ℕ) → gets_file o ≡ true → gift_of s o (reply.FileInfo size stamp) ≡ gift.Bytes (bytes_at s (file_read o))
unfolding gift_of
gift-is s (op.GetFile at) size stamp h = refl
gift-is s o size stamp h = cc

pub leaves-none : (rows : ℕ) (o : Op) → gets_file o ≡ true → row_left rows o ≡ 0
leaves-none rows (op.GetFile at) h = refl
leaves-none rows o h = cc

pub not-near : (o : Op) → gets_file o ≡ true → brings_position o ≡ false
not-near (op.GetFile at) h = refl
not-near o h = cc

pub as-bytes : (o : Op) → gets_file o ≡ true → reads_bytes o ≡ true
as-bytes (op.GetFile at) h = refl
as-bytes o h = cc

pub answers-file : (s : State Text Own) (z : Sizes) (k : ℕ) (o : Op) → gets_file o ≡ true → answer s z k o ≡ file_reply (file_at s (file_read o))
unfolding answer
answers-file s z k (op.GetFile at) h = refl
answers-file s z k o h = cc

-- ---- its file is there, and no unit is cleared for it

file-of : (r : Option (Row Text)) → holds_kind kind.File r ≡ true → (f : FileRow Text) × (file_of r ≡ Some f)
file-of None h = absurd (false≢true h)
file-of (Some row.Directory) h = absurd (false≢true h)
file-of (Some (row.File f)) h = (f, refl)

one-list : (a b : List Text) → ◌≡◌ {A = Ruled (List Text)} (Ok a) (Ok b) → a ≡ b
one-list a b is = cc

one-need : (a b : Need) → ◌≡◌ {A = Ruled Need} (Ok a) (Ok b) → a ≡ b
one-need a b is = cc

pub ruled : (s : State Text Own) (k : ℕ) (o : Op) (units : List Text) → gets_file o ≡ true → judged s k o ≡ Ok units → (units ≡ []) × ((f : FileRow Text) × (file_at s (file_read o) ≡ Some f))
unfolding judged ruling located_ruling
ruled s k (op.GetFile at) units h is =
    let asked = bind-gave (located_ruling s kind.File at) (room_for in_bytes s (agent_of s k).key) units is in
    let both = then-gave _ _ asked.0 asked.1 in
    let here = unless-gave (is_located s kind.File at) _ both.0 in
    let need : asked.0 ≡ no_need = one-need asked.0 no_need (sym both.1) in (
      one-list units [] (sym asked.2 ∙ ap (room_for in_bytes s (agent_of s k).key) need ∙ room_for_nothing s (agent_of s k).key),
      file-of (row_at s (place_of at)) (and_parts (wants kind.File at) _ here).1,
    )
ruled s k o units h is = absurd (false≢true h)

-- ---- after it

last : (xs : List Own) (r : Own) → slice_get (xs ++ r ∷ []) (length xs) ≡ Some r
last [] r = refl
last (x ∷ xs) r = last xs r

module _ (s : State Text Own) (k : ℕ) (told : Reply) (done : IsDone s k told) where
  after-is : (o : Op) → changed_by s k o told ≡ effect in_bytes s (sizes_of s k o) k o
  after-is o = ap (λ b. elim b as (λ x. State Text Own) [ true ↦ refused s k o | false ↦ effect in_bytes s (sizes_of s k o) k o ]) done.done

  adds-row : (o : Op) (f : FileRow Text) → gets_file o ≡ true → file_at s (file_read o) ≡ Some f → changed_by s k o told ≡ adds_own s k (own.Snapshot f.present)
  unfolding effect
  adds-row (op.GetFile at) f h there = after-is (op.GetFile at) ∙ ap (takes_snapshot in_bytes s k) there
  adds-row o f h there = absurd (false≢true h)

  agent-is : (o : Op) (f : FileRow Text) → gets_file o ≡ true → file_at s (file_read o) ≡ Some f → (agent_of (after_reply s k o told) k).own ≡ (agent_of s k).own ++ own.Snapshot f.present ∷ []
  agent-is o f h there =
      ap (λ (t : State Text Own). (agent_of t k).own) (adds-row o f h there)
      ∙ ap (λ a. a.own) (agent-set s k (record (agent_of s k) { own = (agent_of s k).own ++ own.Snapshot f.present ∷ [] }) (number-of s k done.live))

  -- Its agent has the snapshot as its last row.
  pub own-file : (o : Op) (f : FileRow Text) → gets_file o ≡ true → file_at s (file_read o) ≡ Some f → own_of (agent_of (after_reply s k o told) k) (next_row s k) ≡ Some (own.Snapshot f.present)
  own-file o f h there = ap (λ (rows : List Own). slice_get rows (length (agent_of s k).own)) (agent-is o f h there) ∙ last (agent_of s k).own (own.Snapshot f.present)

  pub rows-file : (o : Op) (f : FileRow Text) → gets_file o ≡ true → file_at s (file_read o) ≡ Some f → length (agent_of (after_reply s k o told) k).own ≡ next_row s k
  rows-file o f h there = ap length (agent-is o f h there) ∙ omega (arith, length-append (agent_of s k).own (own.Snapshot f.present ∷ []))

  pub limits-file : (o : Op) (f : FileRow Text) → gets_file o ≡ true → file_at s (file_read o) ≡ Some f → (after_reply s k o told).limits ≡ s.limits
  limits-file o f h there = ap (λ (t : State Text Own). t.limits) (adds-row o f h there)
