-- Rows that are not open: they have no bytes, and no pages.
use Rattle.std.proofs.Common.{◌≡◌, ℕ, true, false, is_some, Option, Some, None, option_map, refl, sym, ap, ◌∙◌}
use Rattle.opfs_base.specs.Texts.{Text}
use Rattle.opfs_data.specs.Rows.{Rows, row_of}
use Rattle.opfs_pages.specs.HistoryLaws.Open.{if_open, open_at}
use Rattle.opfs_pages.proofs.history_laws.Leaving.{open-is}
use Rattle.opfs_laws.specs.Lengths.Outlines.{in_lengths_of}
use Rattle.opfs_machine.specs.Contents.{outline_of}
use Rattle.opfs_machine.specs.declared.own.Own.{Own}
use Rattle.opfs_machine.specs.declared.own.Own.TheVariants as own
use Rattle.opfs_machine.specs.declared.state.State.{State}
use Rattle.opfs_machine.specs.Agents.{agent_of, own_of}
use Rattle.opfs_space.specs.Room.{Machine}
use Rattle.opfs_laws.specs.Steady.Steady.{open_bytes, row_bytes}

-- A row with bytes is open.
open-by : (s : State Text Own) (o : Option Own) (bytes : Text) → open_bytes s o ≡ Some bytes → is_some (if_open (option_map outline_of o)) ≡ true
open-by s None bytes is = cc
open-by s (Some (own.Stream w)) bytes is = refl
open-by s (Some (own.Handle h)) bytes is = refl
open-by s (Some r) bytes is = cc

bytes-open : (s : State Text Own) (k n : ℕ) (bytes : Text) → row_bytes s k n ≡ Some bytes → is_some (open_at (in_lengths_of s) k n) ≡ true
bytes-open s k n bytes is = ap (λ x. is_some x) (open-is s k n) ∙ open-by s (own_of (agent_of s k) n) bytes is

impossible : true ≡ false → ⊥
impossible e = cc

-- So one that is not open has none.
pub shut-none : (s : State Text Own) (k n : ℕ) → open_at (in_lengths_of s) k n ≡ None → row_bytes s k n ≡ None
shut-none s k n shut = by (row_bytes s k n) refl
  where
    by : (o : Option Text) → row_bytes s k n ≡ o → o ≡ None
    by None is = refl
    by (Some bytes) is = absurd (impossible (sym (bytes-open s k n bytes is) ∙ ap (λ x. is_some x) shut))

none-of : {X : Type 0} (x : Option X) → is_some x ≡ false → x ≡ None
none-of None is = refl
none-of (Some x) is = cc

-- Nor pages, where there are pages for just the open rows.
pub none-rowed : (m : Machine) (swap : Rows) (k n : ℕ) → is_some (row_of k n swap) ≡ is_some (open_at m k n) → open_at m k n ≡ None → row_of k n swap ≡ None
none-rowed m swap k n rowed closed = none-of (row_of k n swap) (rowed ∙ ap (λ x. is_some x) closed)
