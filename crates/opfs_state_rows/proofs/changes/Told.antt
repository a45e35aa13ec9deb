-- What a ruling tells that is not a refusal.
use Rattle.std.proofs.Common.{◌≡◌, ℕ, ◌+◌, ◌-◌, ◌*◌, ◌≤◌, Bool, true, false, ◌&&◌, Option, Some, None, Ok, Err, refl, sym, ap, ◌∙◌}
use Rattle.std.specs.Prelude.{is_some, max}
use Rattle.std.specs.Cmp.{first_so, second_so}
use Rattle.opfs_base.specs.Places.{Place, place_of, child}
use Rattle.opfs_base.specs.Blocks.{blocks}
use Rattle.opfs_base.specs.Measures.{block_charge, place_charge}
use Rattle.opfs_base.specs.Texts.{Text}
use Rattle.opfs_base.specs.Units.{unit_of}
use Rattle.opfs_base.specs.declared.locator.Kind.{Kind}
use Rattle.opfs_base.specs.declared.locator.Kind.TheVariants as kind
use Rattle.opfs_base.specs.declared.locator.Locator.{Locator}
use Rattle.opfs_hist.specs.declared.op.Mode.{Mode}
use Rattle.opfs_hist.specs.declared.reply.Refusal.{Refusal}
use Rattle.opfs_locks.specs.Taking.{taken}
use Rattle.opfs_locks.specs.declared.Want.{Want}
use Rattle.opfs_locks.specs.declared.Want.TheVariants as want
use Rattle.opfs_laws.proofs.Gone.{then-gave, bind-gave, some-gave, unless-gave}
use Rattle.opfs_machine.specs.declared.own.HandleOutline.{HandleOutline}
use Rattle.opfs_machine.specs.declared.own.StreamOutline.{StreamOutline}
use Rattle.opfs_machine.specs.declared.state.FileRow.{FileRow}
use Rattle.opfs_machine.specs.declared.state.Row.{Row}
use Rattle.opfs_machine.specs.declared.state.Row.TheVariants as row
use Rattle.opfs_machine.specs.declared.state.Need.{Need}
use Rattle.opfs_machine.specs.declared.state.Sizes.{Sizes}
use Rattle.opfs_machine.specs.Agents.{agent_of, open_stream, open_handle}
use Rattle.opfs_machine.specs.Contents.{in_lengths}
use Rattle.opfs_machine.specs.Rows.{row_at, file_of, file_at, holds_kind, is_located}
use Rattle.opfs_machine.specs.Ruled.{Ruled}
use Rattle.opfs_machine.specs.Rulings.{get_directory_ruling, get_handle_ruling, child_ruling, remove_entry_ruling, located_ruling, create_writable_ruling, grow_stream_ruling, stream_ruling, create_sync_ruling, grow_handle_ruling, handle_ruling, persist_ruling, making, persisting, first_reserve, reserve_for, lock_in, want_of, is_read_write}
use Rattle.opfs_machine.specs.Sums.{no_need, keeps_blocks, charges, is_persistent}
use Rattle.opfs_state_rows.specs.Standing.Seen.{Machine}

pub same-need : {a b : Need} → ◌≡◌ {A = Ruled Need} (Ok a) (Ok b) → b ≡ a
same-need h = cc

-- A file that is located is there.
file-held : (b : Bool) (o : Option (Row ℕ)) → (b && holds_kind kind.File o) ≡ true → (f : FileRow ℕ) × (file_of o ≡ Some f)
file-held b None h = absurd (false_true (second_so b false h))
  where
    false_true : false ≡ true → ⊥
    false_true e = cc
file-held b (Some row.Directory) h = absurd (false_true (second_so b false h))
  where
    false_true : false ≡ true → ⊥
    false_true e = cc
file-held b (Some (row.File f)) h = (f, refl)

directory-held : (b : Bool) (o : Option (Row ℕ)) → (b && holds_kind kind.Directory o) ≡ true → o ≡ Some row.Directory
directory-held b None h = absurd (false_true (second_so b false h))
  where
    false_true : false ≡ true → ⊥
    false_true e = cc
directory-held b (Some row.Directory) h = refl
directory-held b (Some (row.File f)) h = absurd (false_true (second_so b false h))
  where
    false_true : false ≡ true → ⊥
    false_true e = cc

pub located-file : (m : Machine) (at : Locator) → is_located m kind.File at ≡ true → (f : FileRow ℕ) × (file_at m (place_of at) ≡ Some f)
located-file m at h = file-held _ (row_at m (place_of at)) h

pub located-directory : (m : Machine) (at : Locator) → is_located m kind.Directory at ≡ true → row_at m (place_of at) ≡ Some row.Directory
located-directory m at h = directory-held _ (row_at m (place_of at)) h

pub file-told : (m : Machine) (at : Locator) (need : Need) → located_ruling m kind.File at ≡ Ok need → (f : FileRow ℕ) × (file_at m (place_of at) ≡ Some f)
unfolding located_ruling
file-told m at need h = located-file m at (unless-gave _ _ (then-gave _ _ need h).0)

-- A stream and an access handle that are open.
pub stream-told : (m : Machine) (k n : ℕ) (need : Need) → stream_ruling in_lengths m k n ≡ Ok need → (w : StreamOutline) × (open_stream in_lengths m k n ≡ Some w)
unfolding stream_ruling
stream-told m k n need h = let both = bind-gave _ _ need h in (both.0, some-gave _ _ both.0 both.1)

pub grown-told : (m : Machine) (k n size : ℕ) (need : Need) → grow_stream_ruling in_lengths m k n size ≡ Ok need
    → (w : StreamOutline) × (open_stream in_lengths m k n ≡ Some w) × (need ≡ keeps_blocks (reserve_for w.reserve size - w.reserve))
unfolding grow_stream_ruling
grown-told m k n size need h = let both = bind-gave _ _ need h in (both.0, some-gave _ _ both.0 both.1, same-need both.2)

pub handle-told : (m : Machine) (k n : ℕ) (need : Need) → handle_ruling in_lengths m k n ≡ Ok need → (h : HandleOutline) × (open_handle in_lengths m k n ≡ Some h)
unfolding handle_ruling
handle-told m k n need h = let both = bind-gave _ _ need h in (both.0, some-gave _ _ both.0 both.1)

pub written-told : (m : Machine) (z : Sizes) (k n size : ℕ) (need : Need) → grow_handle_ruling in_lengths m z k n size ≡ Ok need
    → (h : HandleOutline) × (open_handle in_lengths m k n ≡ Some h) × (need.pool ≡ reserve_for h.reserve size - h.reserve) × (need.charge ≡ block_charge * (reserve_for h.reserve size - h.reserve)) × (is_read_write h.mode ≡ true)
unfolding grow_handle_ruling
written-told m z k n size need h =
    let both = bind-gave _ _ need h in
    let rest = then-gave _ _ need both.2 in
    (both.0, some-gave _ _ both.0 both.1, sym (ap (λ (x : Need). x.pool) (sym (same-need rest.1))), sym (ap (λ (x : Need). x.charge) (sym (same-need rest.1))), unless-gave _ _ rest.0)

-- A lock that is given.
pub record IsGiven (m : Machine) (at : Locator) (w : Want) : Type 0 where
  pub file : FileRow ℕ
  pub there : file_at m (place_of at) ≡ Some file
  pub given : is_some (taken w file.lock) ≡ true

given-here : (m : Machine) (at : Locator) (w : Want) → is_located m kind.File at ≡ true → is_some (taken w (lock_in (file_at m (place_of at)))) ≡ true → IsGiven m at w
given-here m at w located given =
    let found = located-file m at located in
    record { file = found.0; there = found.1; given = sym (ap (λ o. is_some (taken w (lock_in o))) found.1) ∙ given }

pub writable-told : (m : Machine) (at : Locator) (keep : Bool) (need : Need) → create_writable_ruling in_lengths m at keep ≡ Ok need
    → IsGiven m at want.Shared × (need ≡ keeps_blocks (first_reserve in_lengths m at keep))
unfolding create_writable_ruling
writable-told m at keep need h =
    let first = then-gave _ _ need h in
    let second = then-gave _ _ need first.1 in
    (given-here m at want.Shared (unless-gave _ _ first.0) (unless-gave _ _ second.0), same-need second.1)

pub sync-told : (m : Machine) (at : Locator) (mode : Mode) (need : Need) → create_sync_ruling m at mode ≡ Ok need → IsGiven m at (want_of mode)
unfolding create_sync_ruling
sync-told m at mode need h =
    let first = then-gave _ _ need h in
    let second = then-gave _ _ need first.1 in
    given-here m at (want_of mode) (unless-gave _ _ first.0) (unless-gave _ _ second.0)
