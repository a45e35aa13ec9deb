-- A file of which an access handle is open stays.
use Rattle.std.proofs.Common.{◌≡◌, ℕ, List, [], ◌∷◌, ◌++◌, append-nil, append_assoc, Option, Some, refl, sym, ap, ◌∙◌, subst, inl, inr}
use Rattle.std.proofs.lemmas.Bool.{cases_eq}
use Rattle.std.proofs.lemmas.List.Sums.{fold-append}
use Rattle.opfs_base.specs.Places.{Place}
use Rattle.opfs_base.specs.Texts.{Text}
use Rattle.opfs_hist.specs.declared.entry.Entry.{Entry}
use Rattle.opfs_machine.specs.declared.own.Own.{Own}
use Rattle.opfs_machine.specs.declared.own.Own.TheVariants as own
use Rattle.opfs_machine.specs.declared.state.Agent.{Agent}
use Rattle.opfs_machine.specs.declared.state.FileRow.{FileRow}
use Rattle.opfs_machine.specs.declared.state.State.{State}
use Rattle.opfs_machine.specs.Agents.{agent_of, own_of, of_row}
use Rattle.opfs_machine.specs.Changes.{changes_from, entry_changes}
use Rattle.opfs_machine.specs.Histories.{Legal, after_entry, state_after}
use Rattle.opfs_machine.specs.Openings.{Opening, begun}
use Rattle.opfs_machine.specs.Rows.{file_at}
use Rattle.opfs_machine.specs.Rulings.{want_of}
use Rattle.opfs_laws.specs.Holders.{AreLocksOfHolders}
use Rattle.opfs_laws.proofs.LocksEffect.{locks-begun}
use Rattle.opfs_laws.proofs.Others.{others-seen}
use Rattle.opfs_laws.proofs.Storing.{locks-at}
use Rattle.opfs_laws.proofs.Wholes.{file-there}
use Rattle.opfs_laws.specs.Files.Staying.{AnOpenFileStays}
use Rattle.opfs_laws.proofs.files.Following.{Follows, entry-follows, file_held, follows-held, follows-self, follows-there, held-row}
use Rattle.opfs_laws.proofs.files.Sparing.{AllKeep, entry-keeps, keep-both, keep-front}

module _ (o : Opening) (k n : ℕ) (p : Place) where
  abbrev at_end : List Entry → Option Own
  at_end es = own_of (agent_of (state_after o es) k) n

  next-state : (front : List Entry) (e : Entry) → state_after o (front ++ e ∷ []) ≡ after_entry (state_after o front) e
  next-state front e = fold-append after_entry (begun o) front (e ∷ [])

  -- One entry more.
  next-follows : (front : List Entry) (e : Entry) (more : List Entry) (r : Own) → Legal o (front ++ e ∷ more) → at_end front ≡ Some r → Follows (at_end front) (at_end (front ++ e ∷ []))
  next-follows front e more r legal is = elim (cases_eq k e.agent) [
    | inl same ↦
        subst (λ (t : State Text Own). Follows (at_end front) (own_of (agent_of t k) n)) (sym (next-state front e))
        (subst (λ j. Follows (own_of (agent_of (state_after o front) j) n) (own_of (agent_of (after_entry (state_after o front) e) j) n)) (sym same)
        (entry-follows (state_after o front) e n r (subst (λ j. own_of (agent_of (state_after o front) j) n ≡ Some r) same is)))
    | inr apart ↦
        subst (λ (a : Agent Own). Follows (at_end front) (own_of a n)) (sym (ap (λ x. x.0) (others-seen o front e more k legal apart))) (follows-self (at_end front))
  ]

  joined : (front : List Entry) (e : Entry) (more : List Entry) → front ++ e ∷ more ≡ (front ++ e ∷ []) ++ more
  joined front e more = sym (append_assoc front (e ∷ []) more)

  -- What is open behind entries was open before them.
  open-before : (front more : List Entry) (r : Own) → Legal o (front ++ more) → at_end front ≡ Some r → of_row file_held (at_end (front ++ more)) ≡ Some p → of_row file_held (at_end front) ≡ Some p
  open-before front [] r legal is after = ap (λ es. of_row file_held (at_end es)) (sym (append-nil front)) ∙ after
  open-before front (e ∷ more) r legal is after =
      let follows = next-follows front e more r legal is in
      let there = follows-there (at_end front) (at_end (front ++ e ∷ [])) r is follows in
      let next = open-before (front ++ e ∷ []) more there.0 (subst (Legal o) (joined front e more) legal) there.1 (ap (λ es. of_row file_held (at_end es)) (sym (joined front e more)) ∙ after) in
      follows-held (at_end front) (at_end (front ++ e ∷ [])) r p is follows next

  -- The file is there while the handle is open.
  file-at : (front rest : List Entry) → Legal o (front ++ rest) → of_row file_held (at_end front) ≡ Some p → (f : FileRow Text) × (file_at (state_after o front) p ≡ Some f)
  file-at front rest legal is =
      let row = held-row (at_end front) p is in
      let locks : AreLocksOfHolders (state_after o front) = locks-at (begun o) [] front rest legal (locks-begun o) in
      subst (λ q. (f : FileRow Text) × (file_at (state_after o front) q ≡ Some f)) row.2
      (file-there (state_after o front) locks k n (own.Handle row.0) row.0.file (want_of row.0.mode) row.1 refl)

  all-keep : (front more : List Entry) (r : Own) → Legal o (front ++ more) → at_end front ≡ Some r → of_row file_held (at_end (front ++ more)) ≡ Some p → AllKeep p (changes_from (state_after o front) more)
  all-keep front [] r legal is after = tt
  all-keep front (e ∷ more) r legal is after =
      let s = state_after o front in
      let follows = next-follows front e more r legal is in
      let there = follows-there (at_end front) (at_end (front ++ e ∷ [])) r is follows in
      let legal_more : Legal o ((front ++ e ∷ []) ++ more) = subst (Legal o) (joined front e more) legal in
      let after_more = ap (λ es. of_row file_held (at_end es)) (sym (joined front e more)) ∙ after in
      let here = open-before front (e ∷ more) r legal is after in
      let behind = open-before (front ++ e ∷ []) more there.0 legal_more there.1 after_more in
      let f = file-at front (e ∷ more) legal here in
      let g = file-at (front ++ e ∷ []) more legal_more behind in
      keep-both p (entry_changes s e) (changes_from (after_entry s e) more)
      (entry-keeps s p f.0 f.1 e g.0 (ap (λ t. file_at t p) (sym (next-state front e)) ∙ g.1))
      (subst (λ t. AllKeep p (changes_from t more)) (next-state front e) (all-keep (front ++ e ∷ []) more there.0 legal_more there.1 after_more))

one-file : (p q : Place) → ◌≡◌ {A = Option Place} (Some p) (Some q) → p ≡ q
one-file p q e = cc

pub open-file-stays : AnOpenFileStays
open-file-stays o base more k n h g legal before after front rest split =
    let last : of_row file_held (own_of (agent_of (state_after o (base ++ more)) k) n) ≡ Some g.file = ap (of_row file_held) after in
    let first = open-before o k n g.file base more (own.Handle h) legal before last in
    let same : g.file ≡ h.file = one-file g.file h.file (sym first ∙ ap (of_row file_held) before) in
    let all = all-keep o k n h.file base more (own.Handle h) legal before (last ∙ ap Some same) in
    keep-front h.file front rest (subst (AllKeep h.file) split all)
