-- What a call that is not refused tells of the locks that it names.
use Rattle.std.proofs.Common.{◌≡◌, ℕ, Bool, true, false, not, ◌&&◌, zero, suc, All, List, [], ◌∷◌, fold, filter, Option, Some, None, Ok, Err, refl, sym, ap, ◌∙◌, subst}
use Rattle.std.specs.Prelude.{is_some, cond}
use Rattle.std.proofs.lemmas.Bool.{and_parts, false≢true}
use Rattle.std.proofs.lemmas.List.Elements.{All-head, All-tail}
use Rattle.std.specs.Cmp.Lexicographic.{same_text as equal_texts}
use Rattle.opfs_base.specs.Places.{Place, place_of, child, is_within}
use Rattle.opfs_base.specs.Texts.{Text, same_text}
use Rattle.opfs_base.specs.declared.locator.Kind.TheVariants as kind
use Rattle.opfs_base.specs.declared.locator.Locator.{Locator}
use Rattle.opfs_hist.specs.declared.op.Mode.{Mode}
use Rattle.opfs_hist.specs.declared.op.Op.{Op}
use Rattle.opfs_hist.specs.declared.op.Op.TheVariants as op
use Rattle.opfs_hist.specs.declared.reply.Refusal.{Refusal}
use Rattle.opfs_locks.specs.Taking.{Lock, taken}
use Rattle.opfs_locks.specs.declared.Want.{Want}
use Rattle.opfs_locks.specs.declared.Want.TheVariants as want
use Rattle.opfs_machine.specs.declared.own.HandleOutline.{HandleOutline}
use Rattle.opfs_machine.specs.declared.own.Own.{Own}
use Rattle.opfs_machine.specs.declared.state.FileRow.{FileRow}
use Rattle.opfs_machine.specs.declared.state.Need.{Need}
use Rattle.opfs_machine.specs.declared.state.Row.{Row}
use Rattle.opfs_machine.specs.declared.state.Row.TheVariants as row
use Rattle.opfs_machine.specs.declared.state.Sizes.{Sizes}
use Rattle.opfs_machine.specs.declared.state.State.{State}
use Rattle.opfs_machine.specs.Agents.{agent_of, own_of, open_handle, of_row, handle_in}
use Rattle.opfs_machine.specs.Contents.{in_bytes, outline_of}
use Rattle.opfs_machine.specs.Histories.{may_enter, is_own}
use Rattle.opfs_machine.specs.Rows.{Rows, row_at, file_at, file_of, is_located, holds_kind, rows_within, first_locked, taken_lock, wants}
use Rattle.opfs_machine.specs.Ruled.{Ruled}
use Rattle.opfs_machine.specs.Rulings.{remove_entry_ruling, none_locked, create_writable_ruling, create_sync_ruling, grow_handle_ruling, ruling, lock_in, want_of, is_read_write, size_written}
use Rattle.opfs_machine.specs.Steps.{evicted}
use Rattle.opfs_machine.specs.Victims.{is_callers, is_candidate}
use Rattle.opfs_laws.proofs.Gone.{then-gave, bind-gave, unless-gave, some-gave}
use Rattle.opfs_laws.proofs.LocksKept.{lock_or, none_first}
use Rattle.opfs_laws.proofs.OwnFiles.{callers-own}
use Rattle.opfs_laws.proofs.Spots.{row-without}

-- The file stands, and its lock is given as asked.
pub record IsLockGiven (s : State Text Own) (place : Place) (w : Want) : Type 0 where
  pub held : FileRow Text
  pub stands : file_at s place ≡ Some held
  pub new : Lock
  pub gives : taken w held.lock ≡ Some new

abbrev pub IsAllowed : State Text Own → ℕ → Op → Type 0
IsAllowed s k (op.RemoveEntry dir name recursive) = first_locked (rows_within s (child (place_of dir) name)) ≡ None
IsAllowed s k (op.CreateWritable at keep) = IsLockGiven s (place_of at) want.Shared
IsAllowed s k (op.CreateSyncAccessHandle at m) = IsLockGiven s (place_of at) (want_of m)
IsAllowed s k (op.SyncWrite n bytes at) = (h : HandleOutline) × (open_handle in_bytes s k n ≡ Some h) × (is_read_write h.mode ≡ true)
IsAllowed s k (op.SyncTruncate n size) = (h : HandleOutline) × (open_handle in_bytes s k n ≡ Some h) × (is_read_write h.mode ≡ true)
IsAllowed s k o = Unit {0}

no_lock : (found : Option Lock) → none_locked found ≡ Ok tt → found ≡ None
no_lock None h = refl
no_lock (Some lock) h = absurd (err_ok h)
  where
    err_ok : {e : Refusal} → ◌≡◌ {A = Ruled (Unit {0})} (Err e) (Ok tt) → ⊥
    err_ok e = cc

located-file : (r : Option (Row Text)) → holds_kind kind.File r ≡ true → (f : FileRow Text) × (file_of r ≡ Some f)
located-file None h = absurd (false≢true h)
located-file (Some row.Directory) h = absurd (false≢true h)
located-file (Some (row.File f)) h = (f, refl)

some-of : {A : Type 0} (o : Option A) → is_some o ≡ true → (x : A) × (o ≡ Some x)
some-of (Some x) h = (x, refl)
some-of None h = absurd (false≢true h)

lock-given : (s : State Text Own) (at : Locator) (w : Want) (f : FileRow Text) → file_at s (place_of at) ≡ Some f → is_some (taken w (lock_in (file_at s (place_of at)))) ≡ true
    → IsLockGiven s (place_of at) w
lock-given s at w f stands gives =
    let new = some-of (taken w f.lock) (subst (λ o. is_some (taken w (lock_in o)) ≡ true) stands gives) in
    record { held = f; stands = stands; new = new.0; gives = new.1 }

removes : (s : State Text Own) (dir : Locator) (name : Text) (recursive : Bool) (need : Need) → remove_entry_ruling s dir name recursive ≡ Ok need
    → first_locked (rows_within s (child (place_of dir) name)) ≡ None
unfolding remove_entry_ruling
removes s dir name recursive need h =
    no_lock _ (then-gave _ _ need (then-gave _ _ need (then-gave _ _ need (then-gave _ _ need (then-gave _ _ need h).1).1).1).1).0

opens : (s : State Text Own) (at : Locator) (keep : Bool) (need : Need) → create_writable_ruling in_bytes s at keep ≡ Ok need → IsLockGiven s (place_of at) want.Shared
unfolding create_writable_ruling
opens s at keep need h =
    let both = then-gave _ _ need h in
    let stands = located-file (row_at s (place_of at)) (and_parts (wants kind.File at) _ (unless-gave (is_located s kind.File at) _ both.0)).1 in
    lock-given s at want.Shared stands.0 stands.1 (unless-gave _ _ (then-gave _ _ need both.1).0)

handles : (s : State Text Own) (at : Locator) (m : Mode) (need : Need) → create_sync_ruling s at m ≡ Ok need → IsLockGiven s (place_of at) (want_of m)
unfolding create_sync_ruling
handles s at m need h =
    let both = then-gave _ _ need h in
    let stands = located-file (row_at s (place_of at)) (and_parts (wants kind.File at) _ (unless-gave (is_located s kind.File at) _ both.0)).1 in
    lock-given s at (want_of m) stands.0 stands.1 (unless-gave _ _ (then-gave _ _ need both.1).0)

writes : (s : State Text Own) (z : Sizes) (k n size : ℕ) (need : Need) → grow_handle_ruling in_bytes s z k n size ≡ Ok need
    → (h : HandleOutline) × (open_handle in_bytes s k n ≡ Some h) × (is_read_write h.mode ≡ true)
unfolding grow_handle_ruling
writes s z k n size need h =
    let both = bind-gave _ _ need h in
    (both.0, some-gave _ _ both.0 both.1, unless-gave _ _ (then-gave _ _ need both.2).0)

pub allowed : (s : State Text Own) (z : Sizes) (k : ℕ) (o : Op) (need : Need) → ruling in_bytes s z k o ≡ Ok need → IsAllowed s k o
unfolding ruling
allowed s z k (op.RemoveEntry dir name recursive) need h = removes s dir name recursive need h
allowed s z k (op.CreateWritable at keep) need h = opens s at keep need h
allowed s z k (op.CreateSyncAccessHandle at m) need h = handles s at m need h
allowed s z k (op.SyncWrite n bytes at) need h = writes s z k n (size_written z at bytes) need h
allowed s z k (op.SyncTruncate n size) need h = writes s z k n size need h
allowed s z k o need h = tt

-- Clearing a unit of another origin leaves the agent's own files.
callers-apart : (s : State Text Own) (caller : Option Text) (unit : Text) (p : Place) → is_candidate s caller unit ≡ true → is_callers caller p.0 ≡ true → same_text unit p.0 ≡ false
callers-apart s caller unit p candidate own =
    elim (same_text unit p.0) as (λ b. same_text unit p.0 ≡ b → b ≡ false) [
      | true ↦ λ is.
          let same : unit ≡ p.0 = equal_texts unit p.0 (sym is) in
          let not_own = (and_parts _ _ (and_parts _ _ candidate).0).1 in
          absurd (false≢true (ap not (sym (subst (λ u. is_callers caller u ≡ true) (sym same) own)) ∙ not_own))
      | false ↦ λ is. refl
    ] refl

pub row-stays : (s t : State Text Own) (caller : Option Text) (gone : List Text) (p : Place) → All (λ u. is_candidate s caller u ≡ true) gone
    → is_callers caller p.0 ≡ true → row_at (fold evicted t gone) p ≡ row_at t p
row-stays s t caller [] p all own = refl
row-stays s t caller (unit ∷ units) p all own =
    let Q = λ (u : Text). is_candidate s caller u ≡ true in
    row-stays s (evicted t unit) caller units p (All-tail Q unit units all) own
    ∙ row-without t (unit, []) p
    ∙ ap (λ b. cond (not (b && true)) (row_at t p) None) (callers-apart s caller unit p (All-head Q unit units all) own)

-- The same once the call's units are cleared.
still-none : (f g : Place × Row Text → Bool) (es : Rows Text) → first_locked (filter f es) ≡ None → first_locked (filter f (filter g es)) ≡ None
still-none f g [] h = refl
still-none f g (e ∷ es) h =
    let P = λ (b : Bool). first_locked (cond b (e ∷ filter f es) (filter f es)) ≡ None → first_locked (filter f es) ≡ None in
    let rest = still-none f g es (elim (f e) as P [ true ↦ λ n. (none_first (taken_lock e.1) _ n).1 | false ↦ λ n. n ] h) in
    elim (g e) as (λ c. first_locked (filter f (cond c (e ∷ filter g es) (filter g es))) ≡ None) [
      | true ↦ elim (f e) as (λ b. first_locked (cond b (e ∷ filter f es) (filter f es)) ≡ None → first_locked (cond b (e ∷ filter f (filter g es)) (filter f (filter g es))) ≡ None) [
        | true ↦ λ n. ap (λ o. lock_or o (first_locked (filter f (filter g es)))) (none_first (taken_lock e.1) _ n).0 ∙ rest
        | false ↦ λ n. rest
      ] h
      | false ↦ rest
    ]

none-within : (gone : List Text) (s : State Text Own) (p : Place) → first_locked (rows_within s p) ≡ None → first_locked (rows_within (fold evicted s gone) p) ≡ None
none-within [] s p h = h
none-within (unit ∷ units) s p h = none-within units (evicted s unit) p (still-none (λ e. is_within p e.0) (λ e. not (is_within (unit, []) e.0)) s.rows h)

pub agent-stays : (gone : List Text) (s : State Text Own) (k : ℕ) → agent_of (fold evicted s gone) k ≡ agent_of s k
agent-stays [] s k = refl
agent-stays (unit ∷ units) s k = agent-stays units (evicted s unit) k ∙ same s unit k
  where
    same : (s : State Text Own) (unit : Text) (k : ℕ) → agent_of (evicted s unit) k ≡ agent_of s k
    same s unit zero = refl
    same s unit (suc n) = refl

given-stays : (s : State Text Own) (gone : List Text) (k : ℕ) (at : Locator) (w : Want) → All (λ u. is_candidate s (agent_of s k).key u ≡ true) gone → is_own s k at ≡ true
    → IsLockGiven s (place_of at) w → IsLockGiven (fold evicted s gone) (place_of at) w
given-stays s gone k at w all own h = record {
  held = h.held;
  stands = ap file_of (row-stays s s (agent_of s k).key gone (place_of at) all (sym (callers-own (agent_of s k).key at) ∙ own)) ∙ h.stands;
  new = h.new;
  gives = h.gives;
}

writer-stays : (s : State Text Own) (gone : List Text) (k n : ℕ) → (h : HandleOutline) × (open_handle in_bytes s k n ≡ Some h) × (is_read_write h.mode ≡ true)
    → (h : HandleOutline) × (open_handle in_bytes (fold evicted s gone) k n ≡ Some h) × (is_read_write h.mode ≡ true)
writer-stays s gone k n h = (h.0, ap (λ a. of_row (λ r. handle_in (outline_of r)) (own_of a n)) (agent-stays gone s k) ∙ h.1, h.2)

pub allowed-after : (s : State Text Own) (gone : List Text) (k : ℕ) (o : Op) → All (λ u. is_candidate s (agent_of s k).key u ≡ true) gone → may_enter s k o ≡ true
    → IsAllowed s k o → IsAllowed (fold evicted s gone) k o
unfolding may_enter
allowed-after s gone k (op.RemoveEntry dir name recursive) all may h = none-within gone s (child (place_of dir) name) h
allowed-after s gone k (op.CreateWritable at keep) all may h = given-stays s gone k at want.Shared all may h
allowed-after s gone k (op.CreateSyncAccessHandle at m) all may h = given-stays s gone k at (want_of m) all may h
allowed-after s gone k (op.SyncWrite n bytes at) all may h = writer-stays s gone k n h
allowed-after s gone k (op.SyncTruncate n size) all may h = writer-stays s gone k n h
allowed-after s gone k o all may h = tt
