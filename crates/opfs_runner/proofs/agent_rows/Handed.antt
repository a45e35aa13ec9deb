-- The row that a call is lent or spends: where it stands, and what the rows are once it is put back.
use Rattle.std.proofs.Common.{◌≡◌, ℕ, zero, suc, ◌-◌, ◌<◌, false, List, [], ◌∷◌, get_or, length, slice_set, Result, Ok, Err, IfOk, Some, refl, sym, ap, ◌∙◌, subst, arith}
use Rattle.std.specs.Prelude.{slice_get}
use Rattle.std.proofs.lemmas.Option.{get_or_from_slice_get, slice_get_within}
use lib.ListN.{length-set}
use Rattle.opfs_hist.specs.Sums.{asks_for_row}
use Rattle.opfs_hist.specs.declared.op.Op.{Op}
use Rattle.opfs_hist.specs.declared.reply.Reply.{Reply}
use Rattle.opfs_hist.specs.declared.reply.Reply.TheVariants as reply
use Rattle.opfs_laws.specs.Leaving.{row_used}
use Rattle.opfs_turns.specs.Agents.{AgentSeen, IsAgent}
use Rattle.opfs_turns.specs.Asking.Rows.{HasClosedStream, HasClosedHandle}
use Rattle.opfs_turns.specs.declared.asking.stop.Stop.{Stop}
use Rattle.opfs_agent.specs.declared.stream_calls.stream.ClosedStream.{ClosedStream}
use Rattle.opfs_agent.specs.declared.handle_calls.handle.ClosedSync.{ClosedSync}
use Rattle.opfs_runner.specs.RunLaws.Kinds.{RowKind}
use Rattle.opfs_runner.specs.declared.agent_rows.agent_row.AgentRow.{AgentRow}
use Rattle.opfs_runner.specs.declared.agent_rows.agent_row.AgentRow.TheVariants as agent_row
use Rattle.opfs_runner.specs.AgentRows.Called.{Calls}
use Rattle.opfs_runner.specs.AgentRows.Spending.{IsLeftAs}
use Rattle.opfs_runner.specs.AgentRows.Tables.{closed_of, kind_of, HasAgentRow, HasTable, row_lent}
use Rattle.opfs_runner.proofs.agent_rows.Tabled.{table-set, leaves-calls, rows-same}
use Rattle.opfs_runner.proofs.agent_rows.Using.{IsAgentRowAt, other-used}

get-set : {X : Type 0} (xs : List X) (i : ℕ) (x y : X) → slice_get xs i ≡ Some x → slice_get (slice_set xs i y) i ≡ Some y
get-set [] i x y is = absurd cc
get-set (z ∷ xs) zero x y is = refl
get-set (z ∷ xs) (suc i) x y is = get-set xs i x y is

set-set : {X : Type 0} (xs : List X) (i : ℕ) (x y : X) → slice_set (slice_set xs i x) i y ≡ slice_set xs i y
set-set [] i x y = refl
set-set (z ∷ xs) zero x y = refl
set-set (z ∷ xs) (suc i) x y = ap (λ zs. z ∷ zs) (set-set xs i x y)

module _ (agent_rows : List AgentRow) (m : ℕ) (o : Op) (P : RowKind → Type 0) (found : IsAgentRowAt agent_rows (row_lent o) P) (row : row_lent o ≡ m) where
  at : m - 1 ≡ found.place
  at = omega (arith, row, found.is)

  pub handed-is : (d : AgentRow) → get_or agent_rows (m - 1) d ≡ found.agent_row
  handed-is d = ap (λ j. get_or agent_rows j d) at ∙ get_or_from_slice_get agent_rows found.place found.agent_row d found.there

  there : slice_get agent_rows (m - 1) ≡ Some found.agent_row
  there = ap (slice_get agent_rows) at ∙ found.there

  pub handed-within : (t : AgentRow) → m - 1 < length (slice_set agent_rows (m - 1) t)
  handed-within t = let within = slice_get_within agent_rows (m - 1) found.agent_row there in omega (arith, within, length-set agent_rows (m - 1) t)

  pub handed-taken : (t : AgentRow) → slice_get (slice_set agent_rows (m - 1) t) (m - 1) ≡ Some t
  handed-taken t = get-set agent_rows (m - 1) found.agent_row t there

  pub handed-fits : (s d : AgentRow) → s ≡ get_or agent_rows (m - 1) d → P (kind_of s)
  handed-fits s d is = subst (λ x. P (kind_of x)) (sym (is ∙ handed-is d)) found.fits

  pub handed-kind : (s d : AgentRow) → s ≡ get_or agent_rows (m - 1) d → kind_of s ≡ kind_of found.agent_row
  handed-kind s d is = ap kind_of (is ∙ handed-is d)

  pub handed-place : (t new : AgentRow) → slice_set (slice_set agent_rows (m - 1) t) (m - 1) new ≡ slice_set agent_rows found.place new
  handed-place t new = set-set agent_rows (m - 1) t new ∙ ap (λ j. slice_set agent_rows j new) at

  pub handed-set : (new : AgentRow) → slice_set agent_rows (m - 1) new ≡ slice_set agent_rows found.place new
  handed-set new = ap (λ j. slice_set agent_rows j new) at

  module _ {O : Type 0} (tells : Type 0) (a b : AgentSeen O) (kept : IsAgent tells a) (then : IsAgent tells b) (table : HasTable tells a agent_rows) where
    pub handed-has : (s d : AgentRow) → s ≡ get_or agent_rows (m - 1) d → HasAgentRow tells a (row_lent o) s
    handed-has s d is =
        subst (HasAgentRow tells a (row_lent o)) (sym (is ∙ handed-is d))
        (subst (λ n. HasAgentRow tells a n found.agent_row) (sym found.is) (table.each found.place found.agent_row found.there))

    pub handed-table : (r : Result Reply Stop) (new : AgentRow) → Calls tells a b o r → asks_for_row o ≡ false → HasAgentRow tells b (row_lent o) new → HasTable tells b (slice_set agent_rows found.place new)
    handed-table r new called none has =
        table-set tells a b kept then agent_rows table (row_used o) found.place new (λ j. other-used o found.place j found.is)
        (leaves-calls tells a b kept then o r called) (rows-same tells a b kept then o r called none)
        (subst (λ n. HasAgentRow tells b n new) found.is has)

-- ---- what is closed stays so

module _ {O : Type 0} (tells : Type 0) (b : AgentSeen O) (n : ℕ) where
  pub stream-left : (old : AgentRow) (c : ClosedStream) (answer : Result Reply Stop) → old ≡ agent_row.ClosedStream c → c.row ≡ n → HasClosedStream b c.row → IfOk answer (λ r. ⊥)
      → IsLeftAs tells b n (kind_of old) (record { agent_row = agent_row.ClosedStream c; answer = answer })
  stream-left old c (Ok r) is row has never = absurd never
  stream-left old c (Err why) is row has never = record { agent_row = (row, has); kind_is = sym (ap kind_of is); done = tt }

  pub handle-left : (old : AgentRow) (c : ClosedSync) (answer : Result Reply Stop) → old ≡ agent_row.ClosedHandle c → c.row ≡ n → HasClosedHandle b c.row → IfOk answer (λ r. r ≡ reply.Done)
      → IsLeftAs tells b n (kind_of old) (record { agent_row = agent_row.ClosedHandle c; answer = answer })
  handle-left old c (Ok r) is row has done = record { agent_row = (row, has); kind_is = sym (ap (λ s. closed_of (kind_of s)) is); done = done }
  handle-left old c (Err why) is row has done = record { agent_row = (row, has); kind_is = sym (ap kind_of is); done = tt }
