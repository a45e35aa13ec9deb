-- The number of the row that a call makes, which is not there yet.
use Rattle.std.proofs.Common.{◌≡◌, ℕ, ◌+◌, ◌≤◌, suc, zero, false, is_some, List, [], ◌∷◌, fold, length, Option, Some, None, refl, sym, ap, ◌∙◌, subst, arith}
use Rattle.std.specs.Prelude.{slice_get}
use Rattle.opfs_base.specs.Texts.{Text}
use Rattle.opfs_data.specs.Rows.{Rows, row_of}
use Rattle.opfs_pages.specs.HistoryLaws.Open.{if_open, open_at}
use Rattle.opfs_pages.specs.HistoryLaws.Told.{AreRowed}
use Rattle.opfs_machine.specs.declared.own.Outline.{Outline}
use Rattle.opfs_machine.specs.declared.own.Own.{Own}
use Rattle.opfs_machine.specs.declared.state.State.{State}
use Rattle.opfs_machine.specs.Agents.{agent_of}
use Rattle.opfs_machine.specs.Steps.{evicted}
use Rattle.opfs_space.specs.Room.{Machine}
use Rattle.opfs_desk_steps.specs.RowLaws.Opens.{next_row}
use Rattle.opfs_desk_steps.proofs.Numbers.{agent-stays}

get-behind : {X : Type 0} (xs : List X) (i : ℕ) → length xs ≤ i → slice_get xs i ≡ None
get-behind [] i h = refl
get-behind (x ∷ xs) zero h = absurd (omega (arith, h))
get-behind (x ∷ xs) (suc i) h = get-behind xs i (omega (arith, h))

none-open : (m : Machine) (k i : ℕ) → length (agent_of m k).own ≤ i → open_at m k (suc i) ≡ None
none-open m k i h = ap if_open (get-behind (agent_of m k).own i h)

none-there : {X : Type 0} (o : Option X) → is_some o ≡ false → o ≡ None
none-there None is = refl
none-there (Some x) is = cc

-- No pages are there for a row behind all that its agent has.
pub row-absent : (m : Machine) (swap : Rows) (k i : ℕ) → AreRowed m swap → length (agent_of m k).own ≤ i → row_of k (suc i) swap ≡ None
row-absent m swap k i rowed behind = none-there (row_of k (suc i) swap) (rowed k (suc i) ∙ ap (λ (x : Option Outline). is_some x) (none-open m k i behind))

-- Evictions leave the number of the next row.
pub next-stays : (s : State Text Own) (gone : List Text) (k : ℕ) → next_row (fold evicted s gone) k ≡ next_row s k
next-stays s gone k = ap (λ a. suc (length a.own)) (agent-stays s gone k)

pub absent-at : (m : Machine) (swap : Rows) (k row more : ℕ) → AreRowed m swap → row ≡ length (agent_of m k).own + more + 1 → row_of k row swap ≡ None
absent-at m swap k row more rowed is =
    let i = length (agent_of m k).own + more in
    let same : row ≡ suc i = omega (arith, is) in
    subst (λ (n : ℕ). row_of k n swap ≡ None) (sym same) (row-absent m swap k i rowed (omega arith))
