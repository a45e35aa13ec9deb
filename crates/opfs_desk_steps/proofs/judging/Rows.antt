-- The sizes of the row that a call names are those of the machine.
use Rattle.std.proofs.Common.{◌≡◌, ◌≢◌, ℕ, zero, suc, List, length, Some, unwrap_or, [], refl, sym, ap, ◌∙◌}
use Rattle.opfs_store.specs.Acts.Asking.{IsHandedIn}
use Rattle.opfs_base.specs.Texts.{Text}
use Rattle.opfs_hist.specs.declared.entry.Entry.{Entry}
use Rattle.opfs_hist.specs.declared.op.Op.{Op}
use Rattle.opfs_machine.specs.declared.own.Own.{Own}
use Rattle.opfs_machine.specs.declared.own.Own.TheVariants as own
use Rattle.opfs_machine.specs.declared.state.State.{State}
use Rattle.opfs_machine.specs.Agents.{agent_of, own_of}
use Rattle.opfs_machine.specs.Histories.{state_after}
use Rattle.opfs_machine.specs.Openings.{Opening}
use Rattle.opfs_machine.specs.Replies.{row_named, sizes_in, sizes_of}
use Rattle.opfs_laws.specs.Steady.Steady.{open_bytes}
use Rattle.opfs_work.specs.Works.{WorkingCopy}
use Rattle.opfs_desk_steps.specs.Judging.Sizes.{sizes_at, sizes_by}

pub of-row : (n : ℕ) (work : WorkingCopy) → n ≢ 0 → sizes_at n work ≡ record { size = work.length; position = work.position }
of-row zero work some = absurd (some refl)
of-row (suc n) work some = refl

size-in : (s : State Text Own) (r : Own) (bytes : Text) → open_bytes s (Some r) ≡ Some bytes → (sizes_in s (Some r)).size ≡ length bytes
size-in s (own.Stream w) bytes is = ap (λ o. length (unwrap_or o [])) is
size-in s (own.Handle h) bytes is = ap (λ o. length (unwrap_or o [])) is
size-in s r bytes is = cc

by-row : (tells : Type 0) (o : Opening) (known : List Entry) (k n : ℕ) (work : WorkingCopy) → IsHandedIn tells o known k n work
    → sizes_at n work ≡ sizes_in (state_after o known) (own_of (agent_of (state_after o known) k) n)
by-row tells o known k zero work h = refl
by-row tells o known k (suc n) work h =
    let s = state_after o known in
    let size : work.length ≡ (sizes_in s (Some h.row)).size = h.copy.size ∙ sym (size-in s h.row h.copy.bytes h.copy.open_row) in
    let same : sizes_at (suc n) work ≡ sizes_in s (Some h.row) = λ i. record { size = size i; position = h.copy.position i } in
    same ∙ ap (λ r. sizes_in s r) (sym h.there)

pub sizes-are : (tells : Type 0) (o : Opening) (known : List Entry) (k : ℕ) (op : Op) (work : WorkingCopy) → IsHandedIn tells o known k (row_named op) work → sizes_by op work ≡ sizes_of (state_after o known) k op
sizes-are tells o known k op work h = by-row tells o known k (row_named op) work h
