-- Only the holder of an access handle stores its file.
use Rattle.std.proofs.Common.{◌≡◌, ◌≢◌, ◌⊎◌, ℕ, Bool, true, false, if◌then◌else◌, not, ◌&&◌, All, List, [], ◌∷◌, ◌++◌, append_assoc, append-nil, map, Option, Some, None, refl, sym, ap, ◌∙◌, subst, inl, inr}
use Rattle.std.proofs.lemmas.Grind.{flat_map-append}
use Rattle.std.proofs.lemmas.List.Elements.{All-cons, All-head, All-tail, All-nil}
use Rattle.std.proofs.lemmas.List.Sums.{fold-append}
use Rattle.opfs_base.specs.Places.{Place, place_of, child}
use Rattle.opfs_base.specs.Texts.{Text}
use Rattle.opfs_base.specs.Units.{unit_of}
use Rattle.opfs_hist.specs.declared.entry.Entry.{Entry}
use Rattle.opfs_hist.specs.declared.op.Op.{Op}
use Rattle.opfs_hist.specs.declared.op.Op.TheVariants as op
use Rattle.opfs_laws.specs.Histories.Unread.{unread_entry, IsTold, ArePendingFor}
use Rattle.opfs_laws.proofs.histories.Adding.{changes-append}
use Rattle.opfs_laws.proofs.histories.Reading.{unread-changes, unread-state}
use Rattle.opfs_laws.proofs.Building.{local-none}
use Rattle.opfs_laws.proofs.Others.{others-left}
use Rattle.opfs_laws.proofs.Spots.{same_or_apart, place_apart}
use Rattle.opfs_laws.proofs.Storing.{holder-stores}
use Rattle.opfs_machine.specs.declared.own.HandleOutline.{HandleOutline}
use Rattle.opfs_machine.specs.declared.own.Own.{Own}
use Rattle.opfs_machine.specs.declared.own.Own.TheVariants as own
use Rattle.opfs_machine.specs.declared.state.FileRow.{FileRow}
use Rattle.opfs_machine.specs.declared.state.Row.{Row}
use Rattle.opfs_machine.specs.declared.state.State.{State}
use Rattle.opfs_machine.specs.Agents.{agent_of, own_of, of_row, open_handle}
use Rattle.opfs_machine.specs.Changes.{Change, make_root, make_directory, make_file, content, persist, where_missing, root_made, stream_stored, file_stored, handle_stored, mode_changed, stored_by, entry_changes, changes_from, changes}
use Rattle.opfs_machine.specs.Contents.{in_bytes}
use Rattle.opfs_machine.specs.Effects.{moment_of}
use Rattle.opfs_machine.specs.Histories.{Legal, after_entry, state_after}
use Rattle.opfs_machine.specs.Openings.{Opening, begun}
use Rattle.opfs_machine.specs.Rows.{row_at, file_at}
use Rattle.opfs_machine.specs.Rulings.{is_read_write}
use Rattle.opfs_machine.specs.Runs.{eviction}
use Rattle.opfs_machine.specs.Steps.{is_refusal, evicted}
use Rattle.opfs_machine.specs.Sums.{is_persistent}
use Rattle.opfs_turns.proofs.Others.{Splits, alike-split, heads-alike, tails-alike}
use Rattle.opfs_sync_files.specs.Files.{contents_at}
use Rattle.opfs_sync_files.proofs.Holding.{file_held, held, held-row}

-- ---- what one entry stores

-- No content of a place, or one that is all.
abbrev pub Stores : Place → List Change → Type 0
Stores p cs = (contents_at p cs ≡ []) ⊎ ((stamp : ℕ) × (bytes : Text) × (cs ≡ content p stamp bytes ∷ []))

one-content : (p q : Place) (stamp : ℕ) (bytes : Text) → Stores p (content q stamp bytes ∷ [])
one-content p q stamp bytes = elim (same_or_apart p q) [
  | inl same ↦ inr (stamp, bytes, ap (λ x. content x stamp bytes ∷ []) (sym same))
  | inr apart ↦ inl (ap (λ (b : Bool). (if b then bytes ∷ [] else []) ++ []) (place_apart p q apart))
]

missing-stores : (p : Place) (o : Option (Row Text)) (c : Change) → contents_at p (c ∷ []) ≡ [] → Stores p (where_missing o c)
missing-stores p None c none = inl none
missing-stores p (Some r) c none = inl refl

root-stores : (p : Place) (s : State Text Own) (bucket : Text) (o : Option Text) → Stores p (root_made s bucket o)
root-stores p s bucket None = inl refl
root-stores p s bucket (Some origin) = missing-stores p (row_at s (unit_of origin bucket, [])) (make_root (unit_of origin bucket)) refl

mode-stores : (p : Place) (s : State Text Own) (grant : Bool) (bucket : Text) (o : Option Text) → Stores p (mode_changed s grant bucket o)
mode-stores p s grant bucket None = inl refl
mode-stores p s grant bucket (Some origin) =
    elim (grant && not (is_persistent s (unit_of origin bucket))) as (λ b. Stores p (if b then persist (unit_of origin bucket) ∷ [] else [])) [ true ↦ inl refl | false ↦ inl refl ]

stream-stores : (p : Place) (stamp : ℕ) (o : Option Own) → Stores p (stream_stored stamp o)
stream-stores p stamp None = inl refl
stream-stores p stamp (Some (own.Stream w)) = one-content p w.file stamp w.buffer
stream-stores p stamp (Some own.ClosedStream) = inl refl
stream-stores p stamp (Some (own.Handle h)) = inl refl
stream-stores p stamp (Some own.ClosedHandle) = inl refl
stream-stores p stamp (Some (own.Snapshot bytes)) = inl refl
stream-stores p stamp (Some (own.Iterator i)) = inl refl

file-stores : (p q : Place) (o : Option (FileRow Text)) → Stores p (file_stored q o)
file-stores p q None = inl refl
file-stores p q (Some f) = one-content p q f.stamp f.present

handle-stores : (p : Place) (s : State Text Own) (o : Option HandleOutline) → Stores p (handle_stored s o)
handle-stores p s None = inl refl
handle-stores p s (Some h) =
    elim (is_read_write h.mode) as (λ b. Stores p (elim b as (λ x. List Change) [ true ↦ file_stored h.file (file_at s h.file) | false ↦ [] ])) [
      | true ↦ file-stores p h.file (file_at s h.file)
      | false ↦ inl refl
    ]

pub call-stores : (p : Place) (s : State Text Own) (k : ℕ) (o : Op) → Stores p (stored_by s k o)
unfolding stored_by
call-stores p s k (op.GetDirectory bucket) = root-stores p s bucket (agent_of s k).key
call-stores p s k (op.GetDirectoryHandle dir name create) = missing-stores p (row_at s (child (place_of dir) name)) (make_directory (child (place_of dir) name)) refl
call-stores p s k (op.GetFileHandle dir name create) = missing-stores p (row_at s (child (place_of dir) name)) (make_file (child (place_of dir) name) (moment_of s k)) refl
call-stores p s k (op.RemoveEntry dir name recursive) = inl refl
call-stores p s k (op.Close n) = stream-stores p (moment_of s k) (own_of (agent_of s k) n)
call-stores p s k (op.SyncFlush n) = handle-stores p s (open_handle in_bytes s k n)
call-stores p s k (op.SyncClose n) = handle-stores p s (open_handle in_bytes s k n)
call-stores p s k (op.Persist bucket) = mode-stores p s (agent_of s k).grant bucket (agent_of s k).key
call-stores p s k (op.Evict unit) = inl refl
call-stores p s k o = inl refl

entry-stores : (p : Place) (s : State Text Own) (e : Entry) → Stores p (entry_changes s e)
entry-stores p s e =
    elim (is_refusal e.reply) as (λ b. Stores p (elim b as (λ x. List Change) [ true ↦ [] | false ↦ stored_by s e.agent e.op ])) [
      | true ↦ inl refl
      | false ↦ call-stores p s e.agent e.op
    ]

-- ---- entries of others

pub contents-append : (p : Place) (xs ys : List Change) → contents_at p (xs ++ ys) ≡ contents_at p xs ++ contents_at p ys
contents-append p xs ys = flat_map-append _ xs ys

others-none : (o : Opening) (p : Place) (k n : ℕ) (front more rest : List Entry) → Legal o ((front ++ more) ++ rest) → All (λ e. e.agent ≢ k) more
    → held (state_after o front) k n ≡ Some p → contents_at p (changes_from (state_after o front) more) ≡ []
others-none o p k n front [] rest legal all is = refl
others-none o p k n front (e ∷ more) rest legal all is =
    let s = state_after o front in
    let whole : (front ++ e ∷ more) ++ rest ≡ front ++ e ∷ (more ++ rest) = append_assoc front (e ∷ more) rest in
    let joined : front ++ e ∷ more ≡ (front ++ e ∷ []) ++ more = sym (append_assoc front (e ∷ []) more) in
    let first = All-head (λ x. x.agent ≢ k) e more all in
    let row = held-row (own_of (agent_of s k) n) p is in
    let here : contents_at p (entry_changes s e) ≡ [] = elim (entry-stores p s e) [
      | inl none ↦ none
      | inr c ↦ absurd (first (holder-stores o front e (more ++ rest) k n row.0 c.0 c.1 (subst (Legal o) whole legal) row.1 (c.2 ∙ ap (λ x. content x c.0 c.1 ∷ []) (sym row.2))))
    ] in
    let next : state_after o (front ++ e ∷ []) ≡ after_entry s e = fold-append after_entry (begun o) front (e ∷ []) in
    let legal_more : Legal o (((front ++ e ∷ []) ++ more) ++ rest) = subst (λ xs. Legal o (xs ++ rest)) joined legal in
    let legal_one : Legal o ((front ++ e ∷ []) ++ (more ++ rest)) = subst (Legal o) (append_assoc (front ++ e ∷ []) more rest) legal_more in
    let same = others-left o front (e ∷ []) (more ++ rest) k legal_one (All-cons (λ x. x.agent ≢ k) e [] first (All-nil (λ x. x.agent ≢ k))) in
    let there : held (state_after o (front ++ e ∷ [])) k n ≡ Some p = ap (λ x. of_row file_held (own_of x.0 n)) same ∙ is in
    let then_none = others-none o p k n (front ++ e ∷ []) more rest legal_more (All-tail (λ x. x.agent ≢ k) e more all) there in
    contents-append p (entry_changes s e) (changes_from (after_entry s e) more)
    ∙ (λ i. here i ++ (ap (λ u. contents_at p (changes_from u more)) (sym next) ∙ then_none) i)

no-cons : (e : Entry) (xs : List Entry) → e ∷ xs ≡ [] → ⊥
no-cons e xs h = cc

apart-alike : (k : ℕ) (more rest : List Entry) → map unread_entry more ≡ map unread_entry rest → All (λ e. e.agent ≢ k) more → All (λ e. e.agent ≢ k) rest
apart-alike k [] [] alike all = all
apart-alike k [] (r ∷ rest) alike all = absurd (no-cons (unread_entry r) (map unread_entry rest) (sym alike))
apart-alike k (e ∷ more) [] alike all = absurd (no-cons (unread_entry e) (map unread_entry more) alike)
apart-alike k (e ∷ more) (r ∷ rest) alike all =
    let here = ap (λ (x : Entry). x.agent) (heads-alike e r (map unread_entry more) (map unread_entry rest) alike) in
    All-cons (λ x. x.agent ≢ k) r rest (λ is. All-head (λ x. x.agent ≢ k) e more all (here ∙ is))
    (apart-alike k more rest (tails-alike (unread_entry e) (unread_entry r) (map unread_entry more) (map unread_entry rest) alike) (All-tail (λ x. x.agent ≢ k) e more all))

-- The same of a history that is told.
pub told-none : (tells : Type 0) (o : Opening) (p : Place) (k n : ℕ) (base more : List Entry) → IsTold tells o (base ++ more) → All (λ e. e.agent ≢ k) more
    → held (state_after o base) k n ≡ Some p → contents_at p (changes o (base ++ more)) ≡ contents_at p (changes o base)
told-none tells o p k n base more told apart is =
    let x : Splits base more told.real = alike-split base more told.real told.alike in
    let legal : Legal o ((x.front ++ x.rest) ++ []) = subst (Legal o) (x.whole ∙ sym (append-nil (x.front ++ x.rest))) told.legal in
    let front : held (state_after o x.front) k n ≡ Some p = ap (λ u. held u k n) (sym (unread-state o base x.front x.first)) ∙ is in
    let none = others-none o p k n x.front x.rest [] legal (apart-alike k more x.rest x.last apart) front in
    ap (contents_at p) (unread-changes o (base ++ more) told.real told.alike ∙ ap (changes o) x.whole ∙ changes-append (begun o) x.front x.rest)
    ∙ contents-append p (changes o x.front) (changes_from (state_after o x.front) x.rest)
    ∙ ap (λ (ts : List Text). contents_at p (changes o x.front) ++ ts) none
    ∙ append-nil (contents_at p (changes o x.front))
    ∙ ap (contents_at p) (sym (unread-changes o base x.front x.first))

-- ---- the agent's own entries

pub pending-stores : (tells : Type 0) (s : State Text Own) (k : ℕ) (es : List Entry) → ArePendingFor tells s k es → changes_from s es ≡ []
pending-stores tells s k [] waits = refl
pending-stores tells s k (e ∷ es) waits = (λ i. local-none s e waits.0.local i ++ pending-stores tells (after_entry s e) k es waits.1 i)

pub evictions-store : (p : Place) (s : State Text Own) (gone : List Text) → contents_at p (changes_from s (map eviction gone)) ≡ []
unfolding stored_by
evictions-store p s [] = refl
evictions-store p s (unit ∷ gone) = evictions-store p (evicted s unit) gone
