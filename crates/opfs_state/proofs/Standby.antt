-- All that a call asks for stands ready.
use Rattle.std.proofs.Common.{◌≡◌, ℕ, ◌-◌, Bool, true, false, cond, Option, Some, None, Result, Ok, Err, refl, sym, ap, ◌∙◌}
use Rattle.std.specs.Prelude.{IfOk, OnOk}
use Rattle.std.proofs.lemmas.Bool.{false≢true}
use Rattle.opfs_base.specs.Names.{is_valid_name}
use Rattle.opfs_base.specs.Places.{Place, place_of, child}
use Rattle.opfs_base.specs.Texts.{Text}
use Rattle.opfs_base.specs.declared.locator.Kind.{Kind}
use Rattle.opfs_base.specs.declared.locator.Kind.TheVariants as kind
use Rattle.opfs_base.specs.declared.locator.Locator.{Locator}
use Rattle.opfs_state_rows.proofs.changes.ByMaking.{by-making}
use Rattle.opfs_state_rows.proofs.changes.Rowed.{row-target, row-grows}
use Rattle.opfs_state_rows.proofs.changes.Told.{located-directory}
use Rattle.opfs_state_rows.specs.Changes.Asking.{made_at, place_for, target_of, growth_of, makes_row, makes_slot, makes_in_unit, tag_in, handle_place, root_place, bucket_unit, IsAccepted}
use Rattle.opfs_hist.specs.declared.op.Mode.{Mode}
use Rattle.opfs_hist.specs.declared.op.Op.{Op}
use Rattle.opfs_hist.specs.declared.op.Op.TheVariants as op
use Rattle.opfs_laws.proofs.Gone.{then-gave, bind-gave, unless-gave}
use Rattle.opfs_laws.specs.Lengths.Bridge.{judged_in}
use Rattle.opfs_machine.specs.declared.state.Need.{Need}
use Rattle.opfs_machine.specs.declared.state.Row.TheVariants as line
use Rattle.opfs_machine.specs.Agents.{agent_of, open_handle, party_of}
use Rattle.opfs_machine.specs.Contents.{in_lengths}
use Rattle.opfs_machine.specs.Rows.{row_at, is_located}
use Rattle.opfs_machine.specs.Rulings.{ruling, get_handle_ruling, remove_entry_ruling}
use Rattle.opfs_machine.specs.Steps.{room_for}
use Rattle.opfs_state_rows.specs.Standing.Seen.{Machine, Seen, is_known}
use Rattle.opfs_state.specs.Applied.{IsReady}
use Rattle.opfs_state.specs.Preparing.{HasStayed, IsRowReady, IsModeReady}

-- What was accepted was ruled.
pub ruled-of : (m : Machine) (k : ℕ) (o : Op) → (a : IsAccepted m k o) → (need : Need) × (ruling in_lengths m a.sizes k o ≡ Ok need)
unfolding judged_in
ruled-of m k o a = let both = bind-gave (ruling in_lengths m a.sizes k o) (room_for in_lengths m (agent_of m k).key) a.units a.judged in (both.0, both.1)

handle-named : (m : Machine) (k : Kind) (dir : Locator) (name : Text) (create : Bool) (need : Need) → get_handle_ruling m k dir name create ≡ Ok need → (is_valid_name name ≡ true) × (is_located m kind.Directory dir ≡ true)
unfolding get_handle_ruling
handle-named m k dir name create need h =
    let first = then-gave _ _ need h in
    (unless-gave _ _ first.0, unless-gave _ _ (then-gave _ _ need first.1).0)

remove-named : (m : Machine) (dir : Locator) (name : Text) (recursive : Bool) (need : Need) → remove_entry_ruling m dir name recursive ≡ Ok need → is_valid_name name ≡ true
unfolding remove_entry_ruling
remove-named m dir name recursive need h = unless-gave _ _ (then-gave _ _ need h).0

pub directory-asked : (m : Machine) (k : ℕ) (dir : Locator) (name : Text) (create : Bool) → IsAccepted m k (op.GetDirectoryHandle dir name create) → (is_valid_name name ≡ true) × (row_at m (place_of dir) ≡ Some line.Directory)
unfolding ruling
directory-asked m k dir name create a =
    let ruled = ruled-of m k (op.GetDirectoryHandle dir name create) a in
    let named = handle-named m kind.Directory dir name create ruled.0 ruled.1 in
    (named.0, located-directory m dir named.1)

pub file-asked : (m : Machine) (k : ℕ) (dir : Locator) (name : Text) (create : Bool) → IsAccepted m k (op.GetFileHandle dir name create) → (is_valid_name name ≡ true) × (row_at m (place_of dir) ≡ Some line.Directory)
unfolding ruling
file-asked m k dir name create a =
    let ruled = ruled-of m k (op.GetFileHandle dir name create) a in
    let named = handle-named m kind.File dir name create ruled.0 ruled.1 in
    (named.0, located-directory m dir named.1)

pub remove-asked : (m : Machine) (k : ℕ) (dir : Locator) (name : Text) (recursive : Bool) → IsAccepted m k (op.RemoveEntry dir name recursive) → is_valid_name name ≡ true
unfolding ruling
remove-asked m k dir name recursive a = let ruled = ruled-of m k (op.RemoveEntry dir name recursive) a in remove-named m dir name recursive ruled.0 ruled.1

row-slot : (o : Op) → makes_row o ≡ true → makes_slot o ≡ true → ⊥
row-slot = by-making (λ o. makes_slot o ≡ true → ⊥) (λ bucket h. cc) (λ dir name create h. cc) (λ dir name create h. cc)

row-tag : (o : Op) (tag : Text) → makes_row o ≡ true → tag_in o ≡ Some tag → ⊥
row-tag o tag = by-making (λ o. tag_in o ≡ Some tag → ⊥) (λ bucket h. cc) (λ dir name create h. cc) (λ dir name create h. cc) o

pub row-ready : (s new : Seen) (own : Option Place) (more k : ℕ) (o : Op) → makes_row o ≡ true → HasStayed s new → IsRowReady new own more (place_for s.machine k o) → IsReady new own more k o
row-ready s new own more k o makes stays r =
    let back = sym stays.machine in
    record {
      place = r.place ∙ ap (λ (m : Machine). place_for m k o) back;
      target = r.target ∙ sym (row-target s.machine k o makes) ∙ ap (λ (m : Machine). target_of m k o) back;
      growth = r.growth ∙ sym (row-grows s.machine k o makes) ∙ ap (λ (m : Machine). growth_of m k o) back;
      known = λ place made is. r.known place (sym (row-target s.machine k o makes) ∙ ap (λ (m : Machine). target_of m k o) back ∙ is);
      room = λ slot. absurd (row-slot o makes slot);
      tag = λ tag is. absurd (row-tag o tag makes is);
    }

no-row-made : (m : Machine) (k : ℕ) (o : Op) → makes_row o ≡ false → place_for m k o ≡ None
unfolding made_at
no-row-made m k (op.GetDirectory bucket) h = cc
no-row-made m k (op.GetDirectoryHandle dir name create) h = cc
no-row-made m k (op.GetFileHandle dir name create) h = cc
no-row-made m k (op.RemoveEntry dir name recursive) h = refl
no-row-made m k (op.Values dir) h = refl
no-row-made m k (op.Next n dir) h = refl
no-row-made m k (op.Resolve dir entry) h = refl
no-row-made m k (op.IsSameEntry entry to) h = refl
no-row-made m k (op.GetFile at) h = refl
no-row-made m k (op.Slice n at len) h = refl
no-row-made m k (op.CreateWritable at keep) h = refl
no-row-made m k (op.Write n bytes position) h = refl
no-row-made m k (op.Seek n position) h = refl
no-row-made m k (op.Truncate n size) h = refl
no-row-made m k (op.Close n) h = refl
no-row-made m k (op.Abort n) h = refl
no-row-made m k (op.CreateSyncAccessHandle at mode) h = refl
no-row-made m k (op.SyncRead n len at) h = refl
no-row-made m k (op.SyncWrite n bytes at) h = refl
no-row-made m k (op.SyncTruncate n size) h = refl
no-row-made m k (op.SyncGetSize n) h = refl
no-row-made m k (op.SyncFlush n) h = refl
no-row-made m k (op.SyncClose n) h = refl
no-row-made m k (op.Persist bucket) h = refl
no-row-made m k (op.Persisted bucket) h = refl
no-row-made m k op.Estimate h = refl
no-row-made m k (op.Moment ms) h = refl
no-row-made m k (op.Post tag) h = refl
no-row-made m k (op.Await tag) h = refl
no-row-made m k (op.Wait tag) h = refl
no-row-made m k (op.Discard n) h = refl
no-row-made m k op.End h = refl
no-row-made m k (op.Unbound word) h = refl
no-row-made m k (op.Evict unit) h = refl

-- A call that makes no row.
module _ (s new : Seen) (own : Option Place) (more k : ℕ) (o : Op) (makes : makes_row o ≡ false) (stays : HasStayed s new) (none : new.prepared.place ≡ None) (target : own ≡ target_of s.machine k o) (growth : more ≡ growth_of s.machine k o) where
  pub other-ready : ((place : Place) → makes_in_unit o ≡ true → target_of s.machine k o ≡ Some place → is_known place.0 new.prepared ≡ true) → (makes_slot o ≡ true → new.prepared.room ≡ Some (k - 1))
      → ((tag : Text) → tag_in o ≡ Some tag → new.prepared.tag ≡ Some (record { party = party_of s.machine k; tag = tag })) → IsReady new own more k o
  other-ready known room tag =
      let back = sym stays.machine in
      record {
        place = none ∙ sym (no-row-made new.machine k o makes);
        target = target ∙ ap (λ (m : Machine). target_of m k o) back;
        growth = growth ∙ ap (λ (m : Machine). growth_of m k o) back;
        known = λ place made is. known place made (ap (λ (m : Machine). target_of m k o) back ∙ is);
        room = room;
        tag = λ t is. tag t is ∙ ap (λ (m : Machine). Some (record { party = party_of m k; tag = t })) back;
      }

-- Whether anything has to stand ready.
abbrev pub asks : Op → Bool
asks (op.GetDirectory bucket) = true
asks (op.GetDirectoryHandle dir name create) = true
asks (op.GetFileHandle dir name create) = true
asks (op.RemoveEntry dir name recursive) = true
asks (op.Values dir) = false
asks (op.Next n dir) = false
asks (op.Resolve dir entry) = false
asks (op.IsSameEntry entry to) = false
asks (op.GetFile at) = true
asks (op.Slice n at len) = false
asks (op.CreateWritable at keep) = true
asks (op.Write n bytes position) = false
asks (op.Seek n position) = false
asks (op.Truncate n size) = false
asks (op.Close n) = false
asks (op.Abort n) = false
asks (op.CreateSyncAccessHandle at mode) = true
asks (op.SyncRead n len at) = false
asks (op.SyncWrite n bytes at) = true
asks (op.SyncTruncate n size) = true
asks (op.SyncGetSize n) = false
asks (op.SyncFlush n) = true
asks (op.SyncClose n) = false
asks (op.Persist bucket) = true
asks (op.Persisted bucket) = false
asks op.Estimate = false
asks (op.Moment ms) = false
asks (op.Post tag) = true
asks (op.Await tag) = false
asks (op.Wait tag) = true
asks (op.Discard n) = false
asks op.End = false
asks (op.Unbound word) = false
asks (op.Evict unit) = false

-- What a call makes for which nothing has to stand ready: no row, no place of its own, no own row and no tag.
record MakesNothing (m : Machine) (k : ℕ) (o : Op) : Type 0 where
  pub target : None ≡ target_of m k o
  pub growth : 0 ≡ growth_of m k o
  pub row : makes_row o ≡ false
  pub unit : makes_in_unit o ≡ false
  pub slot : makes_slot o ≡ false
  pub tag : tag_in o ≡ None

nothing-made : (m : Machine) (k : ℕ) (o : Op) → asks o ≡ false → MakesNothing m k o
unfolding target_of growth_of made_at
nothing-made m k (op.GetDirectory bucket) h = absurd (false≢true (sym h))
nothing-made m k (op.GetDirectoryHandle dir name create) h = absurd (false≢true (sym h))
nothing-made m k (op.GetFileHandle dir name create) h = absurd (false≢true (sym h))
nothing-made m k (op.RemoveEntry dir name recursive) h = absurd (false≢true (sym h))
nothing-made m k (op.Values dir) h = record { target = refl; growth = refl; row = refl; unit = refl; slot = refl; tag = refl }
nothing-made m k (op.Next n dir) h = record { target = refl; growth = refl; row = refl; unit = refl; slot = refl; tag = refl }
nothing-made m k (op.Resolve dir entry) h = record { target = refl; growth = refl; row = refl; unit = refl; slot = refl; tag = refl }
nothing-made m k (op.IsSameEntry entry to) h = record { target = refl; growth = refl; row = refl; unit = refl; slot = refl; tag = refl }
nothing-made m k (op.GetFile at) h = absurd (false≢true (sym h))
nothing-made m k (op.Slice n at len) h = record { target = refl; growth = refl; row = refl; unit = refl; slot = refl; tag = refl }
nothing-made m k (op.CreateWritable at keep) h = absurd (false≢true (sym h))
nothing-made m k (op.Write n bytes position) h = record { target = refl; growth = refl; row = refl; unit = refl; slot = refl; tag = refl }
nothing-made m k (op.Seek n position) h = record { target = refl; growth = refl; row = refl; unit = refl; slot = refl; tag = refl }
nothing-made m k (op.Truncate n size) h = record { target = refl; growth = refl; row = refl; unit = refl; slot = refl; tag = refl }
nothing-made m k (op.Close n) h = record { target = refl; growth = refl; row = refl; unit = refl; slot = refl; tag = refl }
nothing-made m k (op.Abort n) h = record { target = refl; growth = refl; row = refl; unit = refl; slot = refl; tag = refl }
nothing-made m k (op.CreateSyncAccessHandle at mode) h = absurd (false≢true (sym h))
nothing-made m k (op.SyncRead n len at) h = record { target = refl; growth = refl; row = refl; unit = refl; slot = refl; tag = refl }
nothing-made m k (op.SyncWrite n bytes at) h = absurd (false≢true (sym h))
nothing-made m k (op.SyncTruncate n size) h = absurd (false≢true (sym h))
nothing-made m k (op.SyncGetSize n) h = record { target = refl; growth = refl; row = refl; unit = refl; slot = refl; tag = refl }
nothing-made m k (op.SyncFlush n) h = absurd (false≢true (sym h))
nothing-made m k (op.SyncClose n) h = record { target = refl; growth = refl; row = refl; unit = refl; slot = refl; tag = refl }
nothing-made m k (op.Persist bucket) h = absurd (false≢true (sym h))
nothing-made m k (op.Persisted bucket) h = record { target = refl; growth = refl; row = refl; unit = refl; slot = refl; tag = refl }
nothing-made m k op.Estimate h = record { target = refl; growth = refl; row = refl; unit = refl; slot = refl; tag = refl }
nothing-made m k (op.Moment ms) h = record { target = refl; growth = refl; row = refl; unit = refl; slot = refl; tag = refl }
nothing-made m k (op.Post tag) h = absurd (false≢true (sym h))
nothing-made m k (op.Await tag) h = record { target = refl; growth = refl; row = refl; unit = refl; slot = refl; tag = refl }
nothing-made m k (op.Wait tag) h = absurd (false≢true (sym h))
nothing-made m k (op.Discard n) h = record { target = refl; growth = refl; row = refl; unit = refl; slot = refl; tag = refl }
nothing-made m k op.End h = record { target = refl; growth = refl; row = refl; unit = refl; slot = refl; tag = refl }
nothing-made m k (op.Unbound word) h = record { target = refl; growth = refl; row = refl; unit = refl; slot = refl; tag = refl }
nothing-made m k (op.Evict unit) h = record { target = refl; growth = refl; row = refl; unit = refl; slot = refl; tag = refl }

no-tag : (tag : Text) → None ≡ Some tag → ⊥
no-tag tag h = cc

pub quiet-ready : (s new : Seen) (k : ℕ) (o : Op) → asks o ≡ false → HasStayed s new → new.prepared.place ≡ None → IsReady new None 0 k o
quiet-ready s new k o quiet stays none =
    let made = nothing-made s.machine k o quiet in
    other-ready s new None 0 k o made.row stays none made.target made.growth (λ p makes is. absurd (false≢true (sym made.unit ∙ makes)))
    (λ makes. absurd (false≢true (sym made.slot ∙ makes))) (λ tag is. absurd (no-tag tag (sym made.tag ∙ is)))

-- Calls that ask for something.
module _ (s new : Seen) (own : Option Place) (more k : ℕ) (stays : HasStayed s new) (none : new.prepared.place ≡ None) where
  pub remove-ready : (dir : Locator) (name : Text) (recursive : Bool) → own ≡ Some (child (place_of dir) name) → more ≡ 0 → IsReady new own more k (op.RemoveEntry dir name recursive)
  unfolding target_of growth_of made_at
  remove-ready dir name recursive is zero_more = other-ready s new own more k (op.RemoveEntry dir name recursive) refl stays none is zero_more (λ p made there. cc) (λ slot. cc) (λ t there. cc)

  pub snapshot-ready : (at : Locator) → own ≡ None → more ≡ 0 → new.prepared.room ≡ Some (k - 1) → IsReady new own more k (op.GetFile at)
  unfolding target_of growth_of made_at
  snapshot-ready at is zero_more room = other-ready s new own more k (op.GetFile at) refl stays none is zero_more (λ p made there. cc) (λ slot. room) (λ t there. cc)

  pub writable-ready : (at : Locator) (keep : Bool) → own ≡ Some (place_of at) → more ≡ 0 → new.prepared.room ≡ Some (k - 1) → IsReady new own more k (op.CreateWritable at keep)
  unfolding target_of growth_of made_at
  writable-ready at keep is zero_more room = other-ready s new own more k (op.CreateWritable at keep) refl stays none is zero_more (λ p made there. cc) (λ slot. room) (λ t there. cc)

  pub sync-ready : (at : Locator) (mode : Mode) → own ≡ Some (place_of at) → more ≡ 0 → new.prepared.room ≡ Some (k - 1) → IsReady new own more k (op.CreateSyncAccessHandle at mode)
  unfolding target_of growth_of made_at
  sync-ready at mode is zero_more room = other-ready s new own more k (op.CreateSyncAccessHandle at mode) refl stays none is zero_more (λ p made there. cc) (λ slot. room) (λ t there. cc)

  pub write-ready : (n : ℕ) (bytes : Text) (at : Option ℕ) → own ≡ handle_place (open_handle in_lengths s.machine k n) → more ≡ 0 → IsReady new own more k (op.SyncWrite n bytes at)
  unfolding target_of growth_of made_at
  write-ready n bytes at is zero_more = other-ready s new own more k (op.SyncWrite n bytes at) refl stays none is zero_more (λ p made there. cc) (λ slot. cc) (λ t there. cc)

  pub truncate-ready : (n size : ℕ) → own ≡ handle_place (open_handle in_lengths s.machine k n) → more ≡ 0 → IsReady new own more k (op.SyncTruncate n size)
  unfolding target_of growth_of made_at
  truncate-ready n size is zero_more = other-ready s new own more k (op.SyncTruncate n size) refl stays none is zero_more (λ p made there. cc) (λ slot. cc) (λ t there. cc)

  pub flush-ready : (n : ℕ) → own ≡ handle_place (open_handle in_lengths s.machine k n) → more ≡ 0 → IsReady new own more k (op.SyncFlush n)
  unfolding target_of growth_of made_at
  flush-ready n is zero_more = other-ready s new own more k (op.SyncFlush n) refl stays none is zero_more (λ p made there. cc) (λ slot. cc) (λ t there. cc)

  pub persist-ready : (bucket : Text) → IsModeReady s.machine new own more (cond (agent_of s.machine k).grant (root_place (bucket_unit s.machine k bucket)) None) → IsReady new own more k (op.Persist bucket)
  unfolding target_of growth_of
  persist-ready bucket r = other-ready s new own more k (op.Persist bucket) refl stays none r.target r.growth (λ p made there. r.known p there) (λ slot. cc) (λ t there. cc)

  pub post-ready : (tag : Text) → own ≡ None → more ≡ 0 → new.prepared.tag ≡ Some (record { party = party_of s.machine k; tag = tag }) → IsReady new own more k (op.Post tag)
  unfolding target_of growth_of made_at
  post-ready tag is zero_more ready = other-ready s new own more k (op.Post tag) refl stays none is zero_more (λ p made there. cc) (λ slot. cc) (λ t there. ready ∙ ap (λ x. Some (record { party = party_of s.machine k; tag = x })) (one there))
    where
      one : {a b : Text} → Some a ≡ Some b → a ≡ b
      one h = cc

  pub wait-ready : (tag : Text) → own ≡ None → more ≡ 0 → new.prepared.tag ≡ Some (record { party = party_of s.machine k; tag = tag }) → IsReady new own more k (op.Wait tag)
  unfolding target_of growth_of made_at
  wait-ready tag is zero_more ready = other-ready s new own more k (op.Wait tag) refl stays none is zero_more (λ p made there. cc) (λ slot. cc) (λ t there. ready ∙ ap (λ x. Some (record { party = party_of s.machine k; tag = x })) (one there))
    where
      one : {a b : Text} → Some a ≡ Some b → a ≡ b
      one h = cc

-- Whatever asks for something is one of these.
pub not-asked : (o : Op) → ((bucket : Text) → o ≡ op.GetDirectory bucket → ⊥) → ((dir : Locator) → (name : Text) → (create : Bool) → o ≡ op.GetDirectoryHandle dir name create → ⊥) → ((dir : Locator) → (name : Text) → (create : Bool) → o ≡ op.GetFileHandle dir name create → ⊥) → ((dir : Locator) → (name : Text) → (recursive : Bool) → o ≡ op.RemoveEntry dir name recursive → ⊥) → ((at : Locator) → o ≡ op.GetFile at → ⊥) → ((at : Locator) → (keep : Bool) → o ≡ op.CreateWritable at keep → ⊥) → ((at : Locator) → (mode : Mode) → o ≡ op.CreateSyncAccessHandle at mode → ⊥) → ((n : ℕ) → (bytes : Text) → (at : Option ℕ) → o ≡ op.SyncWrite n bytes at → ⊥) → ((n : ℕ) → (size : ℕ) → o ≡ op.SyncTruncate n size → ⊥) → ((n : ℕ) → o ≡ op.SyncFlush n → ⊥) → ((bucket : Text) → o ≡ op.Persist bucket → ⊥) → ((tag : Text) → o ≡ op.Post tag → ⊥) → ((tag : Text) → o ≡ op.Wait tag → ⊥) → asks o ≡ false
not-asked (op.GetDirectory bucket) h0 h1 h2 h3 h4 h5 h6 h7 h8 h9 h10 h11 h12 = absurd (h0 bucket refl)
not-asked (op.GetDirectoryHandle dir name create) h0 h1 h2 h3 h4 h5 h6 h7 h8 h9 h10 h11 h12 = absurd (h1 dir name create refl)
not-asked (op.GetFileHandle dir name create) h0 h1 h2 h3 h4 h5 h6 h7 h8 h9 h10 h11 h12 = absurd (h2 dir name create refl)
not-asked (op.RemoveEntry dir name recursive) h0 h1 h2 h3 h4 h5 h6 h7 h8 h9 h10 h11 h12 = absurd (h3 dir name recursive refl)
not-asked (op.Values dir) h0 h1 h2 h3 h4 h5 h6 h7 h8 h9 h10 h11 h12 = refl
not-asked (op.Next n dir) h0 h1 h2 h3 h4 h5 h6 h7 h8 h9 h10 h11 h12 = refl
not-asked (op.Resolve dir entry) h0 h1 h2 h3 h4 h5 h6 h7 h8 h9 h10 h11 h12 = refl
not-asked (op.IsSameEntry entry to) h0 h1 h2 h3 h4 h5 h6 h7 h8 h9 h10 h11 h12 = refl
not-asked (op.GetFile at) h0 h1 h2 h3 h4 h5 h6 h7 h8 h9 h10 h11 h12 = absurd (h4 at refl)
not-asked (op.Slice n at len) h0 h1 h2 h3 h4 h5 h6 h7 h8 h9 h10 h11 h12 = refl
not-asked (op.CreateWritable at keep) h0 h1 h2 h3 h4 h5 h6 h7 h8 h9 h10 h11 h12 = absurd (h5 at keep refl)
not-asked (op.Write n bytes position) h0 h1 h2 h3 h4 h5 h6 h7 h8 h9 h10 h11 h12 = refl
not-asked (op.Seek n position) h0 h1 h2 h3 h4 h5 h6 h7 h8 h9 h10 h11 h12 = refl
not-asked (op.Truncate n size) h0 h1 h2 h3 h4 h5 h6 h7 h8 h9 h10 h11 h12 = refl
not-asked (op.Close n) h0 h1 h2 h3 h4 h5 h6 h7 h8 h9 h10 h11 h12 = refl
not-asked (op.Abort n) h0 h1 h2 h3 h4 h5 h6 h7 h8 h9 h10 h11 h12 = refl
not-asked (op.CreateSyncAccessHandle at mode) h0 h1 h2 h3 h4 h5 h6 h7 h8 h9 h10 h11 h12 = absurd (h6 at mode refl)
not-asked (op.SyncRead n len at) h0 h1 h2 h3 h4 h5 h6 h7 h8 h9 h10 h11 h12 = refl
not-asked (op.SyncWrite n bytes at) h0 h1 h2 h3 h4 h5 h6 h7 h8 h9 h10 h11 h12 = absurd (h7 n bytes at refl)
not-asked (op.SyncTruncate n size) h0 h1 h2 h3 h4 h5 h6 h7 h8 h9 h10 h11 h12 = absurd (h8 n size refl)
not-asked (op.SyncGetSize n) h0 h1 h2 h3 h4 h5 h6 h7 h8 h9 h10 h11 h12 = refl
not-asked (op.SyncFlush n) h0 h1 h2 h3 h4 h5 h6 h7 h8 h9 h10 h11 h12 = absurd (h9 n refl)
not-asked (op.SyncClose n) h0 h1 h2 h3 h4 h5 h6 h7 h8 h9 h10 h11 h12 = refl
not-asked (op.Persist bucket) h0 h1 h2 h3 h4 h5 h6 h7 h8 h9 h10 h11 h12 = absurd (h10 bucket refl)
not-asked (op.Persisted bucket) h0 h1 h2 h3 h4 h5 h6 h7 h8 h9 h10 h11 h12 = refl
not-asked op.Estimate h0 h1 h2 h3 h4 h5 h6 h7 h8 h9 h10 h11 h12 = refl
not-asked (op.Moment ms) h0 h1 h2 h3 h4 h5 h6 h7 h8 h9 h10 h11 h12 = refl
not-asked (op.Post tag) h0 h1 h2 h3 h4 h5 h6 h7 h8 h9 h10 h11 h12 = absurd (h11 tag refl)
not-asked (op.Await tag) h0 h1 h2 h3 h4 h5 h6 h7 h8 h9 h10 h11 h12 = refl
not-asked (op.Wait tag) h0 h1 h2 h3 h4 h5 h6 h7 h8 h9 h10 h11 h12 = absurd (h12 tag refl)
not-asked (op.Discard n) h0 h1 h2 h3 h4 h5 h6 h7 h8 h9 h10 h11 h12 = refl
not-asked op.End h0 h1 h2 h3 h4 h5 h6 h7 h8 h9 h10 h11 h12 = refl
not-asked (op.Unbound word) h0 h1 h2 h3 h4 h5 h6 h7 h8 h9 h10 h11 h12 = refl
not-asked (op.Evict unit) h0 h1 h2 h3 h4 h5 h6 h7 h8 h9 h10 h11 h12 = refl

pub if-both : {T E : Type 0} (r : Result T E) (P : T → Type 0) (Q : Type 0) (R : T → Type 0) → IfOk r P → OnOk r Q → ((x : T) → P x → Q → R x) → IfOk r R
if-both (Ok x) P Q R p q both = both x p q
if-both (Err e) P Q R p q both = tt

pub if-then : {T E : Type 0} (r : Result T E) (P : T → Type 0) (R : T → Type 0) → IfOk r P → ((x : T) → P x → R x) → IfOk r R
if-then (Ok x) P R p then = then x p
if-then (Err e) P R p then = tt
