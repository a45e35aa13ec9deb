-- Pending calls that are taken in: what stands ready stays, and nothing more is told.
use Rattle.std.proofs.Common.{◌≡◌, ℕ, ◌+◌, ◌-◌, ◌<◌, ◌≤◌, ◌^◌, List, [], ◌∷◌, ◌++◌, length, refl, sym, ap, subst, ◌∙◌, append-nil, arith}
use Rattle.std.specs.Prelude.{count_by}
use Rattle.opfs_base.specs.Texts.{Text}
use Rattle.opfs_hist.specs.Sums.{makes_row, last_moment}
use Rattle.opfs_hist.specs.declared.entry.Entry.{Entry}
use Rattle.opfs_hist.specs.declared.history.PendingSum.{PendingSum}
use Rattle.opfs_hist.specs.declared.op.Op.{Op}
use Rattle.opfs_laws.specs.Histories.Unread.{ArePendingFor}
use Rattle.opfs_laws.proofs.histories.Adding.{changes-append}
use Rattle.opfs_laws.proofs.Building.{local-none}
use Rattle.opfs_machine.specs.declared.own.Own.{Own}
use Rattle.opfs_machine.specs.declared.state.State.{State}
use Rattle.opfs_machine.specs.Changes.{changes_from, changes}
use Rattle.opfs_machine.specs.Histories.{after_entry, state_after}
use Rattle.opfs_machine.specs.Openings.{Opening, begun}
use Rattle.opfs_books.specs.Sharing.Noting.{noted, AreNotes, IsSumOf}
use Rattle.opfs_books.specs.Sharing.Serving.{MayNoteTo}
use Rattle.opfs_books.proofs.sharing.Pending.{sum-noted}
use Rattle.opfs_register.specs.Slots.{most_rows}
use Rattle.opfs_state_rows.specs.Standing.Noted.{with_sum}
use Rattle.opfs_state_rows.specs.Standing.Seen.{Seen}
use Rattle.opfs_state.specs.Applied.{StateSeen, IsReady, IsPrepared}
use Rattle.opfs_state.specs.Laws.Readied.{StaysReadyAsNoted}
use Rattle.opfs_machine.specs.Agents.{agent_of}
use Rattle.opfs_state.specs.Verdicts.Callers.{IsAgent}
use Rattle.opfs_desk_steps.proofs.book_steps.Ready.{ready-same}

abbrev sum_of : List Entry → PendingSum
sum_of es = record { entries = length es; rows = count_by makes_row es; moment = last_moment es }

-- The store once they are taken in is the one with their sum.
same-store : (s t : Seen) (k : ℕ) (es : List Entry) → IsAgent s.machine k → AreNotes es → t.machine ≡ noted s.machine k es → t.tree ≡ s.tree → t.prepared ≡ s.prepared
    → record s { machine = with_sum s.machine (k - 1) (sum_of es) } ≡ t
same-store s t k es agent notes machine tree prepared =
    let sum : with_sum s.machine (k - 1) (sum_of es) ≡ t.machine = sum-noted s.machine k (sum_of es) es agent.above agent.within (record { entries = refl; rows = refl; moment = refl }) notes ∙ sym machine in
    λ i. record { machine = sum i; tree = sym tree i; prepared = sym prepared i }

pub prepared-noted : StaysReadyAsNoted → (s t : StateSeen) (k : ℕ) (es : List Entry) (op : Op) → IsAgent s.store.machine k → AreNotes es → t.store.machine ≡ noted s.store.machine k es → t.store.tree ≡ s.store.tree
    → t.store.prepared ≡ s.store.prepared → t.target ≡ s.target → t.growth ≡ s.growth → IsPrepared s k op → IsPrepared t k op
prepared-noted stays s t k es op agent notes machine tree prepared target growth ready =
    ready-same s t k op
    (subst (λ (x : Seen). IsReady x s.target s.growth k op) (same-store s.store t.store k es agent notes machine tree prepared)
    (stays s.store s.target s.growth k op (sum_of es) agent ready))
    target growth

-- They may be noted.
pub may-note : (s : StateSeen) (k : ℕ) (es : List Entry) (sum : PendingSum) → IsSumOf sum es → IsAgent s.store.machine k → length (agent_of s.store.machine k).own + count_by makes_row es ≤ most_rows
    → (n : ℕ) → s.store.machine.entries ≡ n → n < 2 ^ 34 → length es ≤ 60000002 → MayNoteTo s k sum
may-note s k es sum is agent rows n count short few = record {
  agent = agent;
  few = omega (arith, rows, is.rows);
  entries = omega (arith, is.entries, count, short, few);
}

-- ---- what they tell

stores-none : (tells : Type 0) (k : ℕ) (es : List Entry) (s : State Text Own) → ArePendingFor tells s k es → changes_from s es ≡ []
stores-none tells k [] s h = refl
stores-none tells k (e ∷ es) s h = (λ i. local-none s e h.0.local i ++ stores-none tells k es (after_entry s e) h.1 i)

pub pending-told : (tells : Type 0) (o : Opening) (k : ℕ) (h es now : List Entry) → ArePendingFor tells (state_after o h) k es → now ≡ h ++ es → changes o now ≡ changes o h
pending-told tells o k h es now pending entries =
    ap (changes o) entries ∙ changes-append (begun o) h es ∙ ap (λ cs. changes o h ++ cs) (stores-none tells k es (state_after o h) pending) ∙ append-nil (changes o h)
