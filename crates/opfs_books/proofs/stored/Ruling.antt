-- What a ruling tells that did not refuse.
use Rattle.std.proofs.Common.{◌≡◌, ℕ, Bool, true, false, Option, Some, None, Ok, Err, refl}
use Rattle.std.specs.Prelude.{is_some}
use Rattle.opfs_base.specs.Names.{is_valid_name, fits_limits}
use Rattle.opfs_base.specs.Places.{Place, place_of, child}
use Rattle.opfs_base.specs.Texts.{Text}
use Rattle.opfs_base.specs.declared.locator.Kind.{Kind}
use Rattle.opfs_base.specs.declared.locator.Kind.TheVariants as kind
use Rattle.opfs_base.specs.declared.locator.Locator.{Locator}
use Rattle.opfs_hist.specs.declared.reply.Refusal.{Refusal}
use Rattle.opfs_hist.specs.declared.reply.Refusal.TheVariants as refusal
use Rattle.opfs_machine.specs.declared.state.Need.{Need}
use Rattle.opfs_machine.specs.declared.state.Row.{Row}
use Rattle.opfs_machine.specs.Rows.{row_at, is_located}
use Rattle.opfs_machine.specs.Ruled.{Ruled, ◌>>◌, unless}
use Rattle.opfs_machine.specs.Rulings.{child_ruling, get_handle_ruling, remove_entry_ruling}
use Rattle.opfs_state_rows.specs.Standing.Seen.{Machine}

bad_err : {A : Type 0} (r : Refusal) (x : A) → ◌≡◌ {A = Ruled A} (Err r) (Ok x) → ⊥
bad_err r x h = cc

pub went-on : {B : Type 0} (test : Bool) (r : Refusal) (rest : Ruled B) (x : B) → (unless test r >> rest) ≡ Ok x → (test ≡ true) × (rest ≡ Ok x)
unfolding ◌>>◌
went-on true r rest x h = (refl, h)
went-on false r rest x h = absurd (bad_err r x h)

-- A child that is made: its directory is there, and its name is valid and keeps the limits.
pub record MayMake (m : Machine) (dir : Locator) (name : Text) : Type 0 where
  pub valid : is_valid_name name ≡ true
  pub located : is_located m kind.Directory dir ≡ true
  pub limits : fits_limits name (child (place_of dir) name).1 ≡ true

child-made : (k : Kind) (place : Place) (name : Text) (create : Bool) (o : Option (Row ℕ)) (need : Need) → o ≡ None → child_ruling k place name create o ≡ Ok need → fits_limits name place.1 ≡ true
child-made k place name create None need none h =
    let first = went-on create refusal.NotFoundError _ need h in
    (went-on (fits_limits name place.1) refusal.NameLimit _ need first.1).0
child-made k place name create (Some r) need none h = absurd (bad r none)
  where
    bad : (r : Row ℕ) → ◌≡◌ {A = Option (Row ℕ)} (Some r) None → ⊥
    bad r e = cc

pub may-make : (m : Machine) (k : Kind) (dir : Locator) (name : Text) (create : Bool) (need : Need) → row_at m (child (place_of dir) name) ≡ None → get_handle_ruling m k dir name create ≡ Ok need → MayMake m dir name
unfolding get_handle_ruling
may-make m k dir name create need none h =
    let first = went-on (is_valid_name name) refusal.TypeError _ need h in
    let second = went-on (is_located m kind.Directory dir) refusal.NotFoundError _ need first.1 in
    record { valid = first.0; located = second.0; limits = child-made k (child (place_of dir) name) name create (row_at m (child (place_of dir) name)) need none second.1 }

pub may-remove : (m : Machine) (dir : Locator) (name : Text) (recursive : Bool) (need : Need) → remove_entry_ruling m dir name recursive ≡ Ok need → is_some (row_at m (child (place_of dir) name)) ≡ true
unfolding remove_entry_ruling
may-remove m dir name recursive need h =
    let first = went-on (is_valid_name name) refusal.TypeError _ need h in
    let second = went-on (is_located m kind.Directory dir) refusal.NotFoundError _ need first.1 in
    (went-on (is_some (row_at m (child (place_of dir) name))) refusal.NotFoundError _ need second.1).0
