-- An own row, and a working copy of it, behind entries that do not use it.
use Rattle.std.specs.Prelude.{⊤}
use Rattle.std.proofs.Common.{◌≡◌, ◌≢◌, ℕ, true, false, All, List, [], ◌∷◌, ◌++◌, append_assoc, append-nil, map, fold, Some, refl, sym, ap, ◌∙◌, subst, inl, inr, eqb}
use Rattle.std.proofs.lemmas.Bool.{eqb-true, eqb-false}
use Rattle.std.proofs.lemmas.List.Elements.{All-cons, All-head, All-tail}
use Rattle.std.proofs.lemmas.List.Sums.{fold-append}
use Rattle.opfs_base.specs.Texts.{Text}
use Rattle.opfs_hist.specs.declared.entry.Entry.{Entry}
use Rattle.opfs_machine.specs.declared.own.Own.{Own}
use Rattle.opfs_machine.specs.declared.own.Own.TheVariants as own
use Rattle.opfs_machine.specs.declared.state.State.{State}
use Rattle.opfs_machine.specs.Agents.{agent_of, own_of}
use Rattle.opfs_machine.specs.Histories.{Legal, after_op, after_entry, state_after}
use Rattle.opfs_machine.specs.Openings.{Opening, begun}
use Rattle.opfs_machine.specs.Steps.{evicted, after_reply}
use Rattle.opfs_laws.specs.Holders.{AreLocksOfHolders}
use Rattle.opfs_laws.specs.Leaving.{row_used, seen_by}
use Rattle.opfs_laws.proofs.Allowed.{agent-stays}
use Rattle.opfs_laws.proofs.Going.{not_evict}
use Rattle.opfs_laws.proofs.LocksEffect.{locks-fold, gone-untaken, call-allowed, locks-kept, locks-begun}
use Rattle.opfs_laws.proofs.Moved.{call-moves}
use Rattle.opfs_laws.proofs.Others.{others-seen}
use Rattle.opfs_laws.proofs.Reaching.{Stands, found-at}
use Rattle.opfs_laws.specs.Histories.Unread.{unread_entry}
use Rattle.opfs_laws.proofs.histories.Reading.{unread-state}
use Rattle.opfs_laws.specs.Steady.Settling.{BytesStay}
use Rattle.opfs_laws.specs.Steady.Steady.{open_bytes, row_bytes}
use Rattle.opfs_laws.proofs.steady.Others.{bytes-alike}
use Rattle.opfs_store.specs.Copies.Copies.{StandsFor}
use Rattle.opfs_store.proofs.copies.Copying.{stands-kept}
use Rattle.opfs_work.specs.Works.{WorkingCopy}
use Rattle.opfs_turns.proofs.Others.{Splits, heads-alike, tails-alike, alike-split, after-alike}
use Rattle.opfs_turns.specs.OtherRows.Staying.{IsBesideRow, GoesBeside, OtherRowsStay}
use Rattle.opfs_turns.proofs.other_rows.Files.{changed-bytes}

-- ---- one call of the agent

module _ (t : State Text Own) (e : Entry) (k n : ℕ) (call : Stands AreLocksOfHolders t e) (mine : e.agent ≡ k) (other : n ≢ row_used e.op) where
  abbrev cleared : State Text Own
  cleared = fold evicted call.before call.gone

  after-is : after_entry t e ≡ after_reply cleared e.agent e.op e.reply
  after-is =
      ap (after_op t e) (not_evict call.before e.agent e.op call.call.fitting)
      ∙ ap (λ u. after_reply u e.agent e.op e.reply) (sym call.is)

  row-there : (r : Own) → own_of (agent_of t k) n ≡ Some r → own_of (agent_of call.before e.agent) n ≡ Some r
  row-there r there =
      ap (λ a. own_of a n) (sym (agent-stays call.gone call.before e.agent))
      ∙ ap (λ u. own_of (agent_of u e.agent) n) call.is
      ∙ ap (λ j. own_of (agent_of t j) n) mine
      ∙ there

  call-row : (r : Own) → own_of (agent_of t k) n ≡ Some r → own_of (agent_of (after_entry t e) k) n ≡ Some r
  call-row r there =
      ap (λ j. own_of (agent_of (after_entry t e) j) n) (sym mine)
      ∙ ap (λ u. own_of (agent_of u e.agent) n) after-is
      ∙ (call-moves call.before call.gone e.agent e.op e.reply call.call.live).rows n r other (row-there r there)

  call-bytes : (r : Own) → own_of (agent_of t k) n ≡ Some r → open_bytes (after_entry t e) (Some r) ≡ open_bytes t (Some r)
  call-bytes (own.Handle h) there =
      let locks = locks-fold call.gone call.before (gone-untaken call.before call.gone e call.call) call.holds in
      let here : own_of (agent_of cleared e.agent) n ≡ Some (own.Handle h) =
      ap (λ a. own_of a n) (agent-stays call.gone call.before e.agent) ∙ row-there (own.Handle h) there in
      let same = changed-bytes cleared e.agent n h here locks e.op e.reply other (call-allowed call.before call.gone e call.call) in
      ap (λ u. open_bytes u (Some (own.Handle h))) after-is ∙ ap Some same ∙ ap (λ u. open_bytes u (Some (own.Handle h))) call.is
  call-bytes (own.Stream w) there = refl
  call-bytes own.ClosedStream there = refl
  call-bytes own.ClosedHandle there = refl
  call-bytes (own.Snapshot bytes) there = refl
  call-bytes (own.Iterator i) there = refl

-- ---- entries behind a legal history

pub record Stays (t u : State Text Own) (k n : ℕ) (r : Own) : Type 0 where
  pub row : own_of (agent_of u k) n ≡ Some r
  pub bytes : row_bytes u k n ≡ row_bytes t k n

stays-by : (t u : State Text Own) (k n : ℕ) (r : Own) → own_of (agent_of t k) n ≡ Some r → own_of (agent_of u k) n ≡ Some r
    → open_bytes u (Some r) ≡ open_bytes t (Some r) → Stays t u k n r
stays-by t u k n r there row bytes = record { row = row; bytes = ap (open_bytes u) row ∙ bytes ∙ ap (open_bytes t) (sym there) }

module _ (o : Opening) (h : List Entry) (e : Entry) (rest : List Entry) (k n : ℕ) (real : k ≢ 0) (legal : Legal o (h ++ e ∷ rest)) (beside : IsBesideRow k n e) (r : Own)
    (there : own_of (agent_of (state_after o h) k) n ≡ Some r) where
  abbrev s : State Text Own
  s = state_after o h

  next : state_after o (h ++ e ∷ []) ≡ after_entry s e
  next = fold-append after_entry (begun o) h (e ∷ [])

  other-stays : k ≢ e.agent → Stays s (after_entry s e) k n r
  other-stays apart =
      let alike : seen_by (after_entry s e) k ≡ seen_by s k = ap (λ u. seen_by u k) (sym next) ∙ others-seen o h e rest k legal apart in
      record {
        row = ap (λ x. own_of x.0 n) alike ∙ there;
        bytes = bytes-alike (after_entry s e) s k n (ap (λ x. x.1) alike);
      }

  own-stays : e.agent ≡ k → Stays s (after_entry s e) k n r
  own-stays mine =
      elim (found-at AreLocksOfHolders locks-kept (begun o) [] h e rest legal (locks-begun o)) as (λ x. Stays s (after_entry s e) k n r) [
        | inl eviction ↦ absurd (real (sym mine ∙ eviction.1.agent))
        | inr call ↦
            let other : n ≢ row_used e.op = λ same. beside mine (sym same) in
            stays-by s (after_entry s e) k n r there (call-row s e k n call mine other r there) (call-bytes s e k n call mine other r there)
      ]

  pub entry-stays : Stays s (after_entry s e) k n r
  entry-stays =
      elim (eqb e.agent k) as (λ b. eqb e.agent k ≡ b → Stays s (after_entry s e) k n r) [
        | true ↦ λ is. own-stays (eqb-true e.agent k is)
        | false ↦ λ is. other-stays (λ same. eqb-false e.agent k is (sym same))
      ] refl

pub record AllStay (o : Opening) (h more : List Entry) (k n : ℕ) (r : Own) : Type 0 where
  pub row : own_of (agent_of (state_after o (h ++ more)) k) n ≡ Some r
  pub bytes : BytesStay (state_after o h) k n more

pub legal-stay : (o : Opening) (h more rest : List Entry) (k n : ℕ) (r : Own) → k ≢ 0 → Legal o ((h ++ more) ++ rest) → All (IsBesideRow k n) more
    → own_of (agent_of (state_after o h) k) n ≡ Some r → AllStay o h more k n r
legal-stay o h [] rest k n r real legal all there = record {
  row = subst (λ xs. own_of (agent_of (state_after o xs) k) n ≡ Some r) (sym (append-nil h)) there;
  bytes = tt;
}
legal-stay o h (e ∷ more) rest k n r real legal all there =
    let joined : h ++ e ∷ more ≡ (h ++ e ∷ []) ++ more = sym (append_assoc h (e ∷ []) more) in
    let whole : (h ++ e ∷ more) ++ rest ≡ h ++ e ∷ (more ++ rest) = append_assoc h (e ∷ more) rest in
    let first = entry-stays o h e (more ++ rest) k n real (subst (Legal o) whole legal) (All-head (IsBesideRow k n) e more all) r there in
    let next : state_after o (h ++ e ∷ []) ≡ after_entry (state_after o h) e = fold-append after_entry (begun o) h (e ∷ []) in
    let more_legal : Legal o (((h ++ e ∷ []) ++ more) ++ rest) = subst (λ xs. Legal o (xs ++ rest)) joined legal in
    let left = legal-stay o (h ++ e ∷ []) more rest k n r real more_legal (All-tail (IsBesideRow k n) e more all)
    (ap (λ u. own_of (agent_of u k) n) next ∙ first.row) in
    record {
      row = ap (λ xs. own_of (agent_of (state_after o xs) k) n) joined ∙ left.row;
      bytes = (first.bytes, subst (λ u. BytesStay u k n more) next left.bytes);
    }

-- ---- the same where the bytes of reads are not told

no-cons : (e : Entry) (xs : List Entry) → e ∷ xs ≡ [] → ⊥
no-cons e xs h = cc

stay-alike : (s : State Text Own) (k n : ℕ) (more rest : List Entry) → map unread_entry more ≡ map unread_entry rest → BytesStay s k n rest → BytesStay s k n more
stay-alike s k n [] rest alike stay = tt
stay-alike s k n (e ∷ more) [] alike stay = absurd (no-cons (unread_entry e) (map unread_entry more) alike)
stay-alike s k n (e ∷ more) (r ∷ rest) alike stay =
    let here = after-alike s e r (heads-alike e r (map unread_entry more) (map unread_entry rest) alike) in
    let then = stay-alike (after_entry s r) k n more rest (tails-alike (unread_entry e) (unread_entry r) (map unread_entry more) (map unread_entry rest) alike) stay.1 in
    (ap (λ t. row_bytes t k n) here ∙ stay.0, subst (λ t. BytesStay t k n more) (sym here) then)

beside-alike : (k n : ℕ) (more rest : List Entry) → map unread_entry more ≡ map unread_entry rest → All (IsBesideRow k n) more → All (IsBesideRow k n) rest
beside-alike k n [] [] alike all = all
beside-alike k n [] (r ∷ rest) alike all = absurd (no-cons (unread_entry r) (map unread_entry rest) (sym alike))
beside-alike k n (e ∷ more) [] alike all = absurd (no-cons (unread_entry e) (map unread_entry more) alike)
beside-alike k n (e ∷ more) (r ∷ rest) alike all =
    let here = heads-alike e r (map unread_entry more) (map unread_entry rest) alike in
    let first = All-head (IsBesideRow k n) e more all in
    All-cons (IsBesideRow k n) r rest
    (λ mine used. first (ap (λ (x : Entry). x.agent) here ∙ mine) (ap (λ (x : Entry). row_used x.op) here ∙ used))
    (beside-alike k n more rest (tails-alike (unread_entry e) (unread_entry r) (map unread_entry more) (map unread_entry rest) alike) (All-tail (IsBesideRow k n) e more all))

module _ (tells : Type 0) (o : Opening) (h more : List Entry) (k n : ℕ) (goes : GoesBeside tells o h more k n) where
  outer : Splits (h ++ more) goes.rest goes.told.real
  outer = alike-split (h ++ more) goes.rest goes.told.real goes.told.alike

  inner : Splits h more outer.front
  inner = alike-split h more outer.front outer.first

  legal : Legal o ((inner.front ++ inner.rest) ++ outer.rest)
  legal = subst (Legal o) (outer.whole ∙ ap (λ xs. xs ++ outer.rest) inner.whole) goes.told.legal

  before : state_after o h ≡ state_after o inner.front
  before = unread-state o h inner.front inner.first

  after : state_after o (h ++ more) ≡ state_after o (inner.front ++ inner.rest)
  after = unread-state o (h ++ more) outer.front outer.first ∙ ap (state_after o) inner.whole

  all : (r : Own) → own_of (agent_of (state_after o h) k) n ≡ Some r → AllStay o inner.front inner.rest k n r
  all r there =
      legal-stay o inner.front inner.rest outer.rest k n r goes.real legal (beside-alike k n more inner.rest inner.last goes.beside)
      (ap (λ u. own_of (agent_of u k) n) (sym before) ∙ there)

  pub row-goes : (r : Own) → own_of (agent_of (state_after o h) k) n ≡ Some r → own_of (agent_of (state_after o (h ++ more)) k) n ≡ Some r
  row-goes r there = ap (λ u. own_of (agent_of u k) n) after ∙ (all r there).row

  pub copy-goes : (work : WorkingCopy) → StandsFor tells o h k n work → StandsFor tells o (h ++ more) k n work
  copy-goes work stands =
      let stay = (all stands.row stands.there).bytes in
      let bytes = subst (λ u. BytesStay u k n more) (sym before) (stay-alike (state_after o inner.front) k n more inner.rest inner.last stay) in
      stands-kept tells o h more k n work stands bytes (row-goes stands.row stands.there ∙ sym stands.there)

pub stay : OtherRowsStay
stay = record { row = λ o h more k n r goes. row-goes ⊤ o h more k n goes r; copy = λ o h more k n work goes. copy-goes ⊤ o h more k n goes work }
