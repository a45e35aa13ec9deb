-- What pending calls leave of the machine in lengths. This project's own.
use Rattle.std.specs.Prelude.{◌≡◌, ℕ, true, false, List, fold, length, count_by, is_some}
use Rattle.std.specs.List.{AllByRecursion}
use Rattle.opfs_state_rows.specs.Changes.Asking.{makes_slot}
use Rattle.opfs_hist.specs.Sums.{makes_row, set_moment, last_moment}
use Rattle.opfs_hist.specs.declared.entry.Entry.{Entry}
use Rattle.opfs_hist.specs.declared.history.PendingSum.{PendingSum}
use Rattle.opfs_laws.specs.Lengths.Outlines.{local_change}
use Rattle.opfs_machine.specs.Agents.{counted}
use Rattle.opfs_machine.specs.Steps.{is_refusal}
use Rattle.opfs_state_rows.specs.Standing.Seen.{Machine}

-- One entry after another: a refused one counts alone.
abbrev pub noted : Machine → ℕ → List Entry → Machine
noted m k es = fold (λ s e. counted (elim (is_refusal e.reply) [ true ↦ s | false ↦ local_change s k e.op ]) k) m es

-- The sum is that of the entries.
pub record IsSumOf (sum : PendingSum) (es : List Entry) : Type 0 where
  pub entries : sum.entries ≡ length es
  pub rows : sum.rows ≡ count_by makes_row es
  pub moment : sum.moment ≡ last_moment es

-- It opens no stream or access handle and takes no snapshot, and is not refused where it sets the moment.
pub record IsNote (e : Entry) : Type 0 where
  pub slot : makes_slot e.op ≡ false
  pub moment : is_some (set_moment e.op) ≡ true → is_refusal e.reply ≡ false

abbrev pub AreNotes : List Entry → Type 0
AreNotes es = AllByRecursion IsNote es
