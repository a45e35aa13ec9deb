-- A call that opens a row gives its agent one row more.
use Rattle.std.proofs.Common.{◌≡◌, ℕ, Bool, [], ◌∷◌, ◌++◌, length, Some, ap, ◌∙◌, arith}
use Rattle.std.proofs.lemmas.List.{length-append}
use Rattle.opfs_base.specs.Places.{place_of}
use Rattle.opfs_base.specs.Texts.{Text}
use Rattle.opfs_base.specs.declared.locator.Locator.{Locator}
use Rattle.opfs_hist.specs.declared.op.Mode.{Mode}
use Rattle.opfs_hist.specs.declared.op.Op.TheVariants as op
use Rattle.opfs_locks.specs.declared.Want.TheVariants as want
use Rattle.opfs_laws.proofs.Numbers.{IsNumber, agent-set}
use Rattle.opfs_machine.specs.declared.own.Own.{Own}
use Rattle.opfs_machine.specs.declared.state.FileRow.{FileRow as File}
use Rattle.opfs_machine.specs.declared.state.Sizes.{Sizes}
use Rattle.opfs_machine.specs.declared.state.State.{State}
use Rattle.opfs_machine.specs.Agents.{agent_of, adds_own}
use Rattle.opfs_machine.specs.Contents.{in_bytes}
use Rattle.opfs_machine.specs.Effects.{effect, opens_stream, with_lock}
use Rattle.opfs_machine.specs.Rows.{file_at, with_file}
use Rattle.opfs_machine.specs.Rulings.{first_reserve, want_of}
use Rattle.opfs_desk_steps.specs.RowLaws.Opens.{next_row}

added : (t : State Text Own) (k : ℕ) (r : Own) → IsNumber t k → length (agent_of (adds_own t k r) k).own ≡ next_row t k
added t k r number =
    ap (λ a. length a.own) (agent-set t k (record (agent_of t k) { own = (agent_of t k).own ++ r ∷ [] }) number)
    ∙ omega (arith, length-append (agent_of t k).own (r ∷ []))

pub writable-grown : (s : State Text Own) (z : Sizes) (k : ℕ) (at : Locator) (keep : Bool) (f : File Text) → IsNumber s k → file_at s (place_of at) ≡ Some f
    → length (agent_of (effect in_bytes s z k (op.CreateWritable at keep)) k).own ≡ next_row s k
unfolding effect
writable-grown s z k at keep f number there =
    ap (λ o. length (agent_of (opens_stream in_bytes s k (place_of at) (first_reserve in_bytes s at keep) keep o) k).own) there
    ∙ added (with_file s (place_of at) (with_lock want.Shared)) k _ (record { index = number.index; is = number.is; within = number.within })

pub sync-grown : (s : State Text Own) (z : Sizes) (k : ℕ) (at : Locator) (mode : Mode) → IsNumber s k → length (agent_of (effect in_bytes s z k (op.CreateSyncAccessHandle at mode)) k).own ≡ next_row s k
unfolding effect
sync-grown s z k at mode number = added (with_file s (place_of at) (with_lock (want_of mode))) k _ (record { index = number.index; is = number.is; within = number.within })
