-- Entries of other agents leave an agent's open rows.
use Rattle.std.proofs.Common.{◌≡◌, ◌≢◌, ℕ, All, List, [], ◌∷◌, ◌++◌, Option, Some, None, refl, sym, ap, ◌∙◌, subst, append_assoc}
use Rattle.std.proofs.lemmas.List.Elements.{All-head, All-tail}
use Rattle.std.proofs.lemmas.List.Sums.{fold-append}
use Rattle.opfs_base.specs.Texts.{Text}
use Rattle.opfs_hist.specs.declared.entry.Entry.{Entry}
use Rattle.opfs_machine.specs.declared.own.Own.{Own}
use Rattle.opfs_machine.specs.declared.own.Own.TheVariants as own
use Rattle.opfs_machine.specs.declared.state.State.{State}
use Rattle.opfs_machine.specs.Agents.{agent_of, own_of}
use Rattle.opfs_machine.specs.Histories.{Legal, after_entry, state_after}
use Rattle.opfs_machine.specs.Openings.{Opening, begun}
use Rattle.opfs_machine.specs.OwnRows.{mine, handle_file}
use Rattle.opfs_laws.proofs.Alike.{own-alike, row-files}
use Rattle.opfs_laws.proofs.Others.{others-same}
use Rattle.opfs_laws.specs.Steady.Settling.{NoneSettles, BytesStay, OthersLeaveARow}
use Rattle.opfs_laws.specs.Steady.Steady.{open_bytes, row_bytes}
use Rattle.opfs_laws.proofs.steady.Leaving.{other-leaves}

bytes-by : (s t : State Text Own) (o : Option Own) → ((r : Own) → o ≡ Some r → handle_file s r ≡ handle_file t r) → open_bytes s o ≡ open_bytes t o
bytes-by s t None files = refl
bytes-by s t (Some (own.Stream w)) files = refl
bytes-by s t (Some own.ClosedStream) files = refl
bytes-by s t (Some (own.Handle h)) files = files (own.Handle h) refl
bytes-by s t (Some own.ClosedHandle) files = refl
bytes-by s t (Some (own.Snapshot bytes)) files = refl
bytes-by s t (Some (own.Iterator i)) files = refl

pub bytes-alike : (s t : State Text Own) (k n : ℕ) → mine s k ≡ mine t k → row_bytes s k n ≡ row_bytes t k n
bytes-alike s t k n same =
    bytes-by s t (own_of (agent_of s k) n) (λ r is. row-files s t k same n r is) ∙ ap (open_bytes t) (own-alike s t k same n)

pub others-stay : (o : Opening) (h more rest : List Entry) (k n : ℕ) → Legal o ((h ++ more) ++ rest) → All (λ e. e.agent ≢ k) more
    → BytesStay (state_after o h) k n more × NoneSettles (state_after o h) k n more
others-stay o h [] rest k n legal all = (tt, tt)
others-stay o h (e ∷ more) rest k n legal all =
    let joined : h ++ e ∷ more ≡ (h ++ e ∷ []) ++ more = sym (append_assoc h (e ∷ []) more) in
    let whole : (h ++ e ∷ more) ++ rest ≡ h ++ e ∷ (more ++ rest) = append_assoc h (e ∷ more) rest in
    let first = All-head (λ x. x.agent ≢ k) e more all in
    let next : state_after o (h ++ e ∷ []) ≡ after_entry (state_after o h) e = fold-append after_entry (begun o) h (e ∷ []) in
    let same = others-same o h e (more ++ rest) k (subst (Legal o) whole legal) (λ is. first (sym is)) in
    let here : row_bytes (after_entry (state_after o h) e) k n ≡ row_bytes (state_after o h) k n =
    bytes-alike (after_entry (state_after o h) e) (state_after o h) k n (ap (λ t. mine t k) (sym next) ∙ same)
    in
    let more_legal : Legal o (((h ++ e ∷ []) ++ more) ++ rest) = subst (λ xs. Legal o (xs ++ rest)) joined legal in
    let left = others-stay o (h ++ e ∷ []) more rest k n more_legal (All-tail (λ x. x.agent ≢ k) e more all) in (
      (here, subst (λ t. BytesStay t k n more) next left.0),
      (other-leaves (state_after o h) k n e first, subst (λ t. NoneSettles t k n more) next left.1),
    )

pub others-leave-row : OthersLeaveARow
others-leave-row = record { alike = bytes-alike; stay = others-stay }
