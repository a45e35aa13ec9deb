-- What the entry of a disk fault leaves in doubt, in a legal history.
use Rattle.std.proofs.Common.{◌≡◌, ◌≢◌, ◌⊎◌, ℕ, Bool, true, false, cond, not, if◌then◌else◌, All, List, [], ◌∷◌, ◌++◌, append_assoc, append-nil, drop, fold, length, map, Option, Some, None, refl, sym, ap, ◌∙◌, subst, inl, inr}
use Rattle.std.proofs.lemmas.Bool.{false≢true}
use Rattle.std.proofs.lemmas.List.Elements.{All-append, All-cons, All-nil}
use Rattle.std.proofs.lemmas.List.Sums.{fold-append}
use Rattle.std.specs.FinMap.Entries.{find-put, find-where_key}
use Rattle.std.specs.Ordering.{eq_by_cmp}
use Rattle.opfs_base.specs.Places.{Place, place_cmp, is_within}
use Rattle.opfs_base.specs.Texts.{Text}
use Rattle.opfs_laws.specs.Files.Staying.{kept_by, standing_at}
use Rattle.opfs_laws.proofs.files.Held.{open-file-stays}
use Rattle.opfs_hist.specs.Faults.{is_disk_fault}
use Rattle.opfs_hist.specs.declared.entry.Entry.{Entry}
use Rattle.opfs_laws.specs.Histories.Doubts.{next_stored}
use Rattle.opfs_laws.specs.Histories.Opened.{LegalTo}
use Rattle.opfs_laws.proofs.histories.Doubting.{doubt-next}
use Rattle.opfs_laws.proofs.histories.Opening.{NextTo, open-ended, open-more, open-state}
use Rattle.opfs_laws.specs.Leaving.{asks_nobody}
use Rattle.opfs_laws.proofs.Going.{NextFrom, not_evict}
use Rattle.opfs_laws.proofs.NeverFaults.{step_sound}
use Rattle.opfs_laws.proofs.Others.{others-left}
use Rattle.opfs_laws.proofs.Spots.{exact_places, place_itself, place_total}
use Rattle.opfs_laws.proofs.Storing.{holder-stores}
use Rattle.opfs_machine.specs.declared.own.HandleRow.{HandleRow}
use Rattle.opfs_machine.specs.declared.own.Own.{Own}
use Rattle.opfs_machine.specs.declared.own.Own.TheVariants as own
use Rattle.opfs_machine.specs.declared.state.FileRow.{FileRow}
use Rattle.opfs_machine.specs.declared.state.State.{State}
use Rattle.opfs_machine.specs.Agents.{agent_of, own_of, of_row, handle_in, open_handle}
use Rattle.opfs_machine.specs.Changes.{Change, make_root, make_directory, make_file, remove, content, persist, evict, changed, changes_from, entry_changes, stored_at, stored_without, file_stored, handle_stored, stored_by}
use Rattle.opfs_machine.specs.Contents.{in_bytes, outline_of}
use Rattle.opfs_machine.specs.Effects.{effect, refused}
use Rattle.opfs_machine.specs.Histories.{after_op, evicted_by, IsCall, IsFault, Legal, LegalFrom, after_entry, state_after}
use Rattle.opfs_machine.specs.Openings.{Map, Opening, Stored, begun, document, folder}
use Rattle.opfs_machine.specs.Replies.{bytes_at, bytes_in, sizes_of}
use Rattle.opfs_machine.specs.Rows.{file_at}
use Rattle.opfs_machine.specs.Rulings.{is_read_write}
use Rattle.opfs_machine.specs.Runs.{eviction}
use Rattle.opfs_machine.specs.Agents.{counted}
use Rattle.opfs_machine.specs.Steps.{after_reply, evicted, is_refusal, step}
use Rattle.opfs_sync_files.specs.Doubts.{LeavesPlace, StoresAt, doubt_of}
use Rattle.opfs_sync_files.specs.Files.{contents_at}
use Rattle.opfs_sync_files.proofs.Behind.{evictions-apart, nobody-stuck}
use Rattle.opfs_sync_files.proofs.Storing.{call-stores}

-- ---- what a change leaves at a place is told by what stood there

module _ (p : Place) (a b : Map) (same : standing_at a p ≡ standing_at b p) where
  put-local : (q : Place) (x : Stored) → standing_at (stored_at a q x) p ≡ standing_at (stored_at b q x) p
  put-local q x = find-put place_cmp place_total p q x a.rows ∙ ap (λ s. cond (eq_by_cmp place_cmp p q) (Some x) s) same ∙ sym (find-put place_cmp place_total p q x b.rows)

  without-is : (q : Place) (m : Map) → standing_at (stored_without m q) p ≡ cond (not (is_within q p)) (standing_at m p) None
  without-is q m = find-where_key place_cmp (λ x. not (is_within q x)) p (λ x ties. ap (λ z. not (is_within q z)) (sym (exact_places p x ties))) m.rows

  without-local : (q : Place) → standing_at (stored_without a q) p ≡ standing_at (stored_without b q) p
  without-local q = without-is q a ∙ ap (λ s. cond (not (is_within q p)) s None) same ∙ sym (without-is q b)

  changed-local : (c : Change) → standing_at (changed a c) p ≡ standing_at (changed b c) p
  changed-local (make_root unit) = put-local (unit, []) folder
  changed-local (make_directory q) = put-local q folder
  changed-local (make_file q stamp) = put-local q (document [] stamp)
  changed-local (remove q) = without-local q
  changed-local (content q stamp bytes) = put-local q (document bytes stamp)
  changed-local (persist unit) = same
  changed-local (evict unit) = without-local (unit, [])

pub changes-local : (p : Place) (cs : List Change) (a b : Map) → standing_at a p ≡ standing_at b p → standing_at (fold changed a cs) p ≡ standing_at (fold changed b cs) p
changes-local p [] a b same = same
changes-local p (c ∷ cs) a b same = changes-local p cs (changed a c) (changed b c) (changed-local p a b same c)

-- ---- a legal history at one of its entries

-- The whole groups before it, the evictions that stand there, and how it goes on.
record IsAt (s : State Text Own) (gone : List Text) (h rest : List Entry) (e : Entry) : Type 0 where
  base : State Text Own
  last : List Text
  opened : LegalTo s gone h base last
  next : NextFrom base last e rest (evicted_by e.op)

abbrev IsAtBy : State Text Own → List Text → Entry → List Entry → List Entry → Entry → Option Text → Type 0
IsAtBy s gone x h rest e o = (base : State Text Own) × (last : List Text) × NextTo s gone x h base last o × NextFrom base last e rest (evicted_by e.op)

legal-at : (s : State Text Own) (gone : List Text) (h rest : List Entry) (e : Entry) → LegalFrom s gone (h ++ e ∷ rest) → IsAt s gone h rest e
legal-at s gone [] rest e legal = record { base = s; last = gone; opened = (refl, refl); next = legal }
legal-at s gone (x ∷ h) rest e legal =
    let by : IsAtBy s gone x h rest e (evicted_by x.op) = elim (evicted_by x.op) as (λ o. NextFrom s gone x (h ++ e ∷ rest) o → IsAtBy s gone x h rest e o) [
      | Some unit ↦ λ next. let at = legal-at s (gone ++ unit ∷ []) h rest e next.1 in (at.base, at.last, (next.0, at.opened), at.next)
      | None ↦ λ next. let at = legal-at (after_reply (fold evicted s gone) x.agent x.op x.reply) [] h rest e next.1 in (at.base, at.last, (next.0, at.opened), at.next)
    ] legal in
    record { base = by.0; last = by.1; opened = by.2; next = by.3 }

fault-call : (base : State Text Own) (last : List Text) (e : Entry) (rest : List Entry) → is_disk_fault e.reply ≡ true → NextFrom base last e rest (evicted_by e.op) → IsCall base last e
fault-call base last e rest fault next =
    elim (evicted_by e.op) as (λ o. NextFrom base last e rest o → IsCall base last e) [
      | Some unit ↦ λ n. absurd (false≢true (sym (ap is_disk_fault n.0.told) ∙ fault))
      | None ↦ λ n. n.0
    ] next

fault-of : (base : State Text Own) (last : List Text) (e : Entry) → is_disk_fault e.reply ≡ true → IsCall base last e → IsFault base last e.agent e.op e.reply (step base e.agent e.op)
fault-of base last e fault call = elim call.agrees [
  | inl answer ↦ absurd (false≢true (sym (step_sound base e.agent e.op) ∙ ap is_disk_fault (sym answer.same_reply) ∙ fault))
  | inr f ↦ f
]

drop-front : (xs ys : List Text) → drop (length xs) (xs ++ ys) ≡ ys
drop-front [] ys = refl
drop-front (x ∷ xs) ys = drop-front xs ys

-- Evictions stand one after another.
open-mores : (s : State Text Own) (gone : List Text) (h : List Entry) (base : State Text Own) (last units : List Text) → LegalTo s gone h base last → LegalTo s gone (h ++ map eviction units) base (last ++ units)
open-mores s gone h base last [] opened = subst (λ es. LegalTo s gone es base (last ++ [])) (sym (append-nil h)) (subst (λ us. LegalTo s gone h base us) (sym (append-nil last)) opened)
open-mores s gone h base last (unit ∷ units) opened =
    subst (λ es. LegalTo s gone es base (last ++ unit ∷ units)) (append_assoc h (eviction unit ∷ []) (map eviction units))
    (subst (λ us. LegalTo s gone ((h ++ eviction unit ∷ []) ++ map eviction units) base us) (append_assoc last (unit ∷ []) units)
    (open-mores s gone (h ++ eviction unit ∷ []) base (last ++ unit ∷ []) units (open-more s gone h base last unit opened)))

-- ---- changes without a content of a place

no-bytes : (b : Text) (bs : List Text) → b ∷ bs ≡ [] → ⊥
no-bytes b bs h = cc

pub kept-none : (p : Place) (x : Option Stored) (cs : List Change) → contents_at p cs ≡ [] → fold (kept_by p) x cs ≡ x
kept-none p x [] none = refl
kept-none p x (content q stamp bytes ∷ cs) none =
    elim (eq_by_cmp place_cmp p q) as (λ b. (if b then bytes ∷ [] else []) ++ contents_at p cs ≡ [] → fold (kept_by p) (cond b (Some (document bytes stamp)) x) cs ≡ x) [
      | true ↦ λ h. absurd (no-bytes bytes (contents_at p cs) h)
      | false ↦ λ h. kept-none p x cs h
    ] none
kept-none p x (make_root unit ∷ cs) none = kept-none p x cs none
kept-none p x (make_directory q ∷ cs) none = kept-none p x cs none
kept-none p x (make_file q stamp ∷ cs) none = kept-none p x cs none
kept-none p x (remove q ∷ cs) none = kept-none p x cs none
kept-none p x (persist unit ∷ cs) none = kept-none p x cs none
kept-none p x (evict unit ∷ cs) none = kept-none p x cs none

-- ---- the entry of a disk fault

module _ (o : Opening) (h rest : List Entry) (e : Entry) (legal : Legal o (h ++ e ∷ rest)) (fault : is_disk_fault e.reply ≡ true) where
  abbrev at : IsAt (begun o) [] h rest e
  at = legal-at (begun o) [] h rest e legal

  call : IsCall at.base at.last e
  call = fault-call at.base at.last e rest fault at.next

  is-fault : IsFault at.base at.last e.agent e.op e.reply (step at.base e.agent e.op)
  is-fault = fault-of at.base at.last e fault call

  abbrev there : State Text Own
  there = state_after o h

  there-is : there ≡ fold evicted at.base at.last
  there-is = open-state (begun o) [] h at.base at.last at.opened

  abbrev units : List Text
  units = is-fault.front.0

  abbrev stored : List Change
  stored = stored_by there e.agent e.op

  doubt-is : doubt_of o h e ≡ next_stored units stored
  doubt-is =
      doubt-next (begun o) [] h at.base at.last e at.opened call
      ∙ ap (λ b. elim b as (λ x. List Change) [ true ↦ next_stored (drop (length at.last) (step at.base e.agent e.op).victims) (stored_by (fold evicted at.base at.last) e.agent e.op) | false ↦ [] ]) fault
      ∙ (λ i. next_stored ((ap (drop (length at.last)) is-fault.front.1 ∙ drop-front at.last units) i) (stored_by (sym there-is i) e.agent e.op))

  -- The history where the same call met the fault after all its evictions.
  abbrev later : List Entry
  later = map eviction units ++ e ∷ []

  later-legal : Legal o (h ++ later)
  later-legal =
      let f = is-fault in
      subst (Legal o) (append_assoc h (map eviction units) (e ∷ []))
      (open-ended (begun o) [] (h ++ map eviction units) at.base (at.last ++ units) e (open-mores (begun o) [] h at.base at.last units at.opened)
      (record { live = call.live; fitting = call.fitting; agrees = inr (record { told = f.told; accepted = f.accepted; disk = f.disk; front = ([], f.front.1 ∙ sym (append-nil (at.last ++ units))) }) }))

  -- The one where it was answered, where no eviction is left.
  abbrev answered : Entry
  answered = record e { reply = (step at.base e.agent e.op).answered }

  answered-legal : units ≡ [] → Legal o (h ++ answered ∷ [])
  answered-legal none =
      open-ended (begun o) [] h at.base at.last answered at.opened
      (record { live = call.live; fitting = call.fitting; agrees = inl (record { same_reply = refl; victims = sym (is-fault.front.1 ∙ ap (λ us. at.last ++ us) none ∙ append-nil at.last) }) })

  -- ---- over an open access handle

  module _ (k n : ℕ) (real : k ≢ 0) (r : HandleRow) (row : own_of (agent_of (state_after o h) k) n ≡ Some (own.Handle r)) where
    abbrev p : Place
    p = r.file

    -- An eviction leaves the file.
    spared : (unit : Text) (us : List Text) → units ≡ unit ∷ us → own_of (agent_of (state_after o (h ++ later)) k) n ≡ Some (own.Handle r) → LeavesPlace p (evict unit ∷ [])
    unfolding stored_by
    spared unit us is row_later m =
        open-file-stays o h later k n r r later-legal row row_later (evict unit ∷ []) (changes_from (after_entry there (eviction unit)) (map eviction us ++ e ∷ []))
        (ap (λ vs. changes_from there (map eviction vs ++ e ∷ [])) is) m

    left-row : (more : List Entry) → Legal o (h ++ more) → All (λ x. x.agent ≢ k) more → own_of (agent_of (state_after o (h ++ more)) k) n ≡ Some (own.Handle r)
    left-row more legal_more all =
        ap (λ x. own_of x.0 n) (others-left o h more [] k (subst (Legal o) (sym (append-nil (h ++ more))) legal_more) all) ∙ row

    -- ---- of another agent's call

    module _ (apart : e.agent ≢ k) where
      one-apart : (x : Entry) → x.agent ≡ e.agent → All (λ y. y.agent ≢ k) (x ∷ [])
      one-apart x same = All-cons (λ y. y.agent ≢ k) x [] (λ is. apart (sym same ∙ is)) (All-nil (λ y. y.agent ≢ k))

      split : units ≡ [] → changes_from there (answered ∷ []) ≡ stored
      split none = ap (λ b. (elim b as (λ x. List Change) [ true ↦ [] | false ↦ stored ]) ++ []) is-fault.accepted ∙ append-nil stored

      none-here : units ≡ [] → contents_at p stored ≡ []
      none-here none = elim (call-stores p there e.agent e.op) [
        | inl is ↦ is
        | inr c ↦ absurd (apart (holder-stores o h answered [] k n r c.0 c.1 (answered-legal none) row (sym (append-nil (entry_changes there answered)) ∙ split none ∙ c.2)))
      ]

      stored-leaves : units ≡ [] → LeavesPlace p stored
      stored-leaves none m =
          open-file-stays o h (answered ∷ []) k n r r (answered-legal none) row (left-row (answered ∷ []) (answered-legal none) (one-apart answered refl)) stored [] (split none ∙ sym (append-nil stored)) m
          ∙ kept-none p (standing_at m p) stored (none-here none)

      pub others-leave : LeavesPlace p (doubt_of o h e)
      others-leave =
          subst (LeavesPlace p) (sym doubt-is)
          (elim units as (λ us. units ≡ us → LeavesPlace p (next_stored us stored)) [
            | [] ↦ λ is. stored-leaves is
            | unit ∷ us ↦ λ is. spared unit us is (left-row later later-legal (All-append (λ x. x.agent ≢ k) (map eviction units) (e ∷ []) (evictions-apart k real units) (one-apart e refl)))
          ] refl)

    -- ---- of the agent's own call

    module _ (mine : e.agent ≡ k) (nobody : asks_nobody e.op ≡ true) where
      abbrev behind : State Text Own
      behind = state_after o (h ++ map eviction units)

      refused-here : after_entry behind e ≡ counted behind e.agent
      refused-here =
          ap (after_op behind e) (not_evict at.base e.agent e.op call.fitting)
          ∙ ap (λ b. counted (elim b as (λ x. State Text Own) [ true ↦ refused behind e.agent e.op | false ↦ effect in_bytes behind (sizes_of behind e.agent e.op) e.agent e.op ]) e.agent) (ap is_refusal is-fault.told)
          ∙ ap (λ u. counted u e.agent) (nobody-stuck behind e.agent e.op nobody)

      row-behind : own_of (agent_of (state_after o (h ++ later)) k) n ≡ Some (own.Handle r)
      row-behind =
          ap (λ es. own_of (agent_of (state_after o es) k) n) (sym (append_assoc h (map eviction units) (e ∷ [])))
          ∙ ap (λ u. own_of (agent_of u k) n) (fold-append after_entry (begun o) (h ++ map eviction units) (e ∷ []) ∙ refused-here)
          ∙ ap (λ x. own_of x.0 n) (others-left o h (map eviction units) (e ∷ []) k (subst (Legal o) (sym (append_assoc h (map eviction units) (e ∷ []))) later-legal) (evictions-apart k real units))
          ∙ row

      -- What is stored decides, where no eviction is left.
      own-by : (P : List Change → Type 0) → P stored → ((unit : Text) → LeavesPlace p (evict unit ∷ []) → P (evict unit ∷ [])) → P (doubt_of o h e)
      own-by P here evicts =
          subst P (sym doubt-is)
          (elim units as (λ us. units ≡ us → P (next_stored us stored)) [
            | [] ↦ λ is. here
            | unit ∷ us ↦ λ is. evicts unit (spared unit us is row-behind)
          ] refl)

      pub own-leaves : stored_by (state_after o h) e.agent e.op ≡ [] → LeavesPlace p (doubt_of o h e)
      own-leaves none = own-by (LeavesPlace p) (subst (LeavesPlace p) (sym none) (λ m. refl)) (λ unit leaves. leaves)

      abbrev Either : List Change → Type 0
      Either cs = LeavesPlace p cs ⊎ StoresAt p (λ bytes. bytes ≡ bytes_at there p) cs

      content-stands : (stamp : ℕ) (bytes : Text) (m : Map) → standing_at (changed m (content p stamp bytes)) p ≡ Some (document bytes stamp)
      content-stands stamp bytes m = find-put place_cmp place_total p p (document bytes stamp) m.rows ∙ ap (λ b. cond b (Some (document bytes stamp)) (standing_at m p)) (place_itself p)

      file-either : (f : Option (FileRow Text)) → file_at there p ≡ f → Either (file_stored p f)
      file-either None is = inl (λ m. refl)
      file-either (Some g) is = inr (record { bytes = g.present; stamp = g.stamp; may = ap bytes_in (sym is); stands = content-stands g.stamp g.present })

      handle-either : (b : Bool) → Either (elim b as (λ x. List Change) [ true ↦ file_stored p (file_at there p) | false ↦ [] ])
      handle-either true = file-either (file_at there p) refl
      handle-either false = inl (λ m. refl)

      opened-here : open_handle in_bytes there k n ≡ Some (record { file = p; mode = r.mode; reserve = r.reserve })
      opened-here = ap (of_row (λ x. handle_in (outline_of x))) row

      pub own-stores : stored_by (state_after o h) e.agent e.op ≡ handle_stored (state_after o h) (open_handle in_bytes (state_after o h) k n) → Either (doubt_of o h e)
      own-stores is =
          own-by Either
          (subst Either (sym (is ∙ ap (handle_stored there) opened-here)) (handle-either (is_read_write r.mode)))
          (λ unit leaves. inl leaves)
