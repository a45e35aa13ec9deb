-- Access handles stay whole through pending calls, and whatever bytes reads gave.
use Rattle.std.proofs.Common.{◌≡◌, ℕ, Bool, true, false, not, ◌&&◌, ◌==◌, List, [], ◌∷◌, ◌++◌, map, Some, refl, sym, ap, subst, ◌∙◌}
use Rattle.std.proofs.lemmas.List.{append_assoc, map-append}
use Rattle.opfs_store.specs.Acts.Acting.{told_entry}
use Rattle.opfs_base.specs.Texts.{Text}
use Rattle.opfs_pages.specs.HistoryLaws.Handles.{HandlesStayWhole, AreHandlesWhole, handle_on}
use Rattle.opfs_desk_bytes.specs.Reading.Handles.{HandlesGoOn}
use Rattle.opfs_hist.specs.declared.entry.Entry.{Entry}
use Rattle.opfs_laws.specs.Histories.Unread.{ArePendingFor, unread_entry}
use Rattle.opfs_laws.proofs.histories.Reading.{entry-same, refuses-same, pending-told, unread-state}
use Rattle.opfs_laws.specs.GoingOn.{ArePending, LegalHistoriesGoOn}
use Rattle.opfs_machine.specs.declared.own.Own.{Own}
use Rattle.opfs_machine.specs.declared.state.State.{State}
use Rattle.opfs_machine.specs.Agents.{agent_of, own_of}
use Rattle.opfs_machine.specs.Histories.{IsCall, after_entry, state_after}
use Rattle.opfs_machine.specs.Openings.{Opening, begun}
use Rattle.opfs_machine.specs.Replies.{bytes_at}
use Rattle.opfs_machine.specs.Runs.{eviction}
use Rattle.opfs_laws.specs.Steady.Steady.{concerns, settles, is_steady, steady_by, steady_from, has_page, row_bytes}

settles-same : (s : State Text Own) (k n : ℕ) (e : Entry) → settles s k n (unread_entry e) ≡ settles s k n e
settles-same s k n e = ap (λ b. e.turn && not b && (e.agent == k && concerns s k n e.op)) (refuses-same e.reply)

steady-same : (es : List Entry) (s : State Text Own) (was : Bool) (k n i : ℕ) → steady_from s was k n i (map unread_entry es) ≡ steady_from s was k n i es
steady-same [] s was k n i = refl
steady-same (e ∷ es) s was k n i =
    (λ j. steady_from (entry-same s e j) (steady_by (settles-same s k n e j) was (row_bytes s k n) (row_bytes (entry-same s e j) k n) i) k n i (map unread_entry es))
    ∙ steady-same es (after_entry s e) (steady_by (settles s k n e) was (row_bytes s k n) (row_bytes (after_entry s e) k n) i) k n i

unread-steady : (o : Opening) (h real : List Entry) (k n i : ℕ) → map unread_entry h ≡ map unread_entry real → is_steady o h k n i ≡ is_steady o real k n i
unread-steady o h real k n i alike = sym (steady-same h (begun o) false k n i) ∙ ap (steady_from (begun o) false k n i) alike ∙ steady-same real (begun o) false k n i

pub unread-whole : (o : Opening) (h real : List Entry) → map unread_entry h ≡ map unread_entry real → AreHandlesWhole o h → AreHandlesWhole o real
unread-whole o h real alike whole k n p there i =
    let same = unread-state o h real alike in
    sym (unread-steady o h real k n i alike) ∙ whole k n p (ap (λ (s : State Text Own). handle_on (own_of (agent_of s k) n)) same ∙ there) i ∙ ap (λ (s : State Text Own). has_page (Some (bytes_at s p)) i) same

pub pending-whole : HandlesStayWhole → (tells : Type 0) (o : Opening) (h calls : List Entry) (k : ℕ) → ArePendingFor tells (state_after o h) k calls → AreHandlesWhole o h → AreHandlesWhole o (h ++ calls)
pending-whole handles tells o h calls k pending whole =
    let told = pending-told tells (state_after o h) k calls pending in
    unread-whole o (h ++ told.real) (h ++ calls) (map-append unread_entry h told.real ∙ ap (λ es. map unread_entry h ++ es) (sym told.alike) ∙ sym (map-append unread_entry h calls))
    (handles.pending o h told.real k told.pending whole)

-- ---- a whole call

alike-both : (a b x y : List Entry) → map unread_entry a ≡ map unread_entry b → map unread_entry x ≡ map unread_entry y → map unread_entry (a ++ x) ≡ map unread_entry (b ++ y)
alike-both a b x y first second = map-append unread_entry a x ∙ (λ i. first i ++ second i) ∙ sym (map-append unread_entry b y)

pub handles-go-on : HandlesStayWhole → LegalHistoriesGoOn → (tells : Type 0) → HandlesGoOn tells
handles-go-on handles goes tells o h pending new c answered told waiting acted whole =
    let e = told_entry c answered in
    let its = acted.call in
    let more = pending-told tells (state_after o h) c.agent pending waiting in
    let same = unread-state o h told.real told.alike in
    let pends = subst (λ (s : State Text Own). ArePending s c.agent more.real) same more.pending in
    let front = alike-both h told.real pending more.real told.alike more.alike in
    let then = unread-state o (h ++ pending) (told.real ++ more.real) front in
    let legal = goes.pending o told.real more.real c.agent told.legal pends in
    let before = handles.pending o told.real more.real c.agent pends (unread-whole o h told.real told.alike whole) in
    let turn : its.real.turn ≡ true = sym (ap (λ (x : Entry). x.turn) its.alike) in
    let after = handles.called o (told.real ++ more.real) acted.gone its.real legal (subst (λ (s : State Text Own). IsCall s acted.gone its.real) then its.call) turn before in
    let last : map unread_entry (map eviction acted.gone ++ its.real ∷ []) ≡ map unread_entry (map eviction acted.gone ++ e ∷ []) =
    alike-both (map eviction acted.gone) (map eviction acted.gone) (its.real ∷ []) (e ∷ []) refl (ap (λ (x : Entry). x ∷ []) (sym its.alike)) in
    subst (AreHandlesWhole o) (append_assoc h pending (map eviction acted.gone ++ e ∷ []) ∙ sym acted.grown)
    (unread-whole o ((told.real ++ more.real) ++ (map eviction acted.gone ++ its.real ∷ [])) ((h ++ pending) ++ (map eviction acted.gone ++ e ∷ []))
    (alike-both (told.real ++ more.real) (h ++ pending) (map eviction acted.gone ++ its.real ∷ []) (map eviction acted.gone ++ e ∷ []) (sym front) last) after)
