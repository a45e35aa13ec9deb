-- What createWritable and createSyncAccessHandle have in common, word by word.
use Rattle.std.proofs.Common.{◌≡◌, ℕ, true, false, [], Option, Some, None, refl, ap}
use Rattle.std.specs.Prelude.{IsTrue}
use Rattle.opfs_store.specs.Acts.Acting.{brings_position, gift_of, row_left}
use Rattle.opfs_store.specs.declared.acts.acted.Gift.TheVariants as gift
use Rattle.opfs_base.specs.Places.{Place, place_of}
use Rattle.opfs_base.specs.Texts.{Text}
use Rattle.opfs_base.specs.declared.locator.Locator.{Locator}
use Rattle.opfs_books.specs.Stored.Spelled.{spelled_by}
use Rattle.opfs_state_rows.specs.Changes.Allowed.{IsSized}
use Rattle.opfs_state_rows.specs.Changes.Asking.{made_at}
use Rattle.opfs_hist.specs.declared.op.Op.{Op}
use Rattle.opfs_hist.specs.declared.op.Op.TheVariants as op
use Rattle.opfs_hist.specs.declared.reply.Reply.TheVariants as reply
use Rattle.opfs_machine.specs.declared.own.Own.{Own}
use Rattle.opfs_machine.specs.declared.state.Sizes.{Sizes}
use Rattle.opfs_machine.specs.declared.state.State.{State}
use Rattle.opfs_machine.specs.Agents.{agent_of}
use Rattle.opfs_machine.specs.Histories.{is_disk_op, is_of_origin, may_enter}
use Rattle.opfs_machine.specs.Replies.{answer}
use Rattle.opfs_machine.specs.Victims.{is_callers}
use Rattle.opfs_space.specs.Files.{extents_in}
use Rattle.opfs_state_rows.specs.Standing.Seen.{Machine}
use Rattle.opfs_tree.specs.Rows.{Rows as Tree, row_at}
use Rattle.opfs_desk_steps.specs.RowLaws.Opens.{opens_row, opened_extents}

pub answers-done : (s : State Text Own) (z : Sizes) (k : ℕ) (o : Op) → opens_row o ≡ true → answer s z k o ≡ reply.Done
unfolding answer
answers-done s z k (op.CreateWritable at keep) h = refl
answers-done s z k (op.CreateSyncAccessHandle at mode) h = refl
answers-done s z k o h = cc

pub sized : (m : Machine) (z : Sizes) (k : ℕ) (o : Op) → opens_row o ≡ true → IsSized m z k o
unfolding IsSized
sized m z k (op.CreateWritable at keep) h = tt
sized m z k (op.CreateSyncAccessHandle at mode) h = tt
sized m z k o h = cc

pub on-disk : (s : State Text Own) (k : ℕ) (o : Op) → opens_row o ≡ true → IsTrue (is_disk_op s k o)
unfolding is_disk_op
on-disk s k (op.CreateWritable at keep) h = refl
on-disk s k (op.CreateSyncAccessHandle at mode) h = refl
on-disk s k o h = cc

pub no-gift : (s : State Text Own) (o : Op) → opens_row o ≡ true → gift_of s o reply.Done ≡ gift.Nothing
unfolding gift_of
no-gift s (op.CreateWritable at keep) h = refl
no-gift s (op.CreateSyncAccessHandle at mode) h = refl
no-gift s o h = cc

pub leaves-last : (rows : ℕ) (o : Op) → opens_row o ≡ true → row_left rows o ≡ rows
leaves-last rows (op.CreateWritable at keep) h = refl
leaves-last rows (op.CreateSyncAccessHandle at mode) h = refl
leaves-last rows o h = cc

pub not-near : (o : Op) → opens_row o ≡ true → brings_position o ≡ false
not-near (op.CreateWritable at keep) h = refl
not-near (op.CreateSyncAccessHandle at mode) h = refl
not-near o h = cc

pub silent : (m : Machine) (t : Tree) (k : ℕ) (o : Op) (z : Sizes) → opens_row o ≡ true → spelled_by m t k o z None ≡ None
unfolding spelled_by made_at
silent m t k (op.CreateWritable at keep) z h = refl
silent m t k (op.CreateSyncAccessHandle at mode) z h = refl
silent m t k o z h = cc

-- The place of the file.
abbrev pub file_place : Op → Place
file_place (op.CreateWritable at keep) = place_of at
file_place (op.CreateSyncAccessHandle at mode) = place_of at
file_place o = ([], [])

own-place : (key : Option Text) (at : Locator) → is_of_origin key at ≡ true → is_callers key (place_of at).0 ≡ true
own-place None at h = cc
own-place (Some origin) at h = h

pub own-file : (s : State Text Own) (k : ℕ) (o : Op) → opens_row o ≡ true → IsTrue (may_enter s k o) → is_callers (agent_of s k).key (file_place o).0 ≡ true
unfolding may_enter
own-file s k (op.CreateWritable at keep) h may = own-place (agent_of s k).key at may
own-file s k (op.CreateSyncAccessHandle at mode) h may = own-place (agent_of s k).key at may
own-file s k o h may = cc

pub same-extents : (t u : Tree) (o : Op) → opens_row o ≡ true → row_at (file_place o) u ≡ row_at (file_place o) t → opened_extents u o ≡ opened_extents t o
same-extents t u (op.CreateWritable at true) h is = ap extents_in is
same-extents t u (op.CreateWritable at false) h is = refl
same-extents t u (op.CreateSyncAccessHandle at mode) h is = ap extents_in is
same-extents t u o h is = cc
