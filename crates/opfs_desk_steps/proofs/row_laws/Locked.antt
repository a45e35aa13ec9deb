-- A file whose lock is given is stored as it is.
use Rattle.std.proofs.Common.{◌≡◌, ℕ, Bool, true, false, cond, not, List, [], ◌∷◌, fold, Option, Some, None, is_some, inl, inr, sym, ap, ◌∙◌, subst, arith}
use Rattle.std.proofs.lemmas.Bool.{false≢true}
use Rattle.std.specs.FinMap.Entries.{find, find-where_key}
use Rattle.opfs_base.specs.Places.{Place, place_cmp, is_within}
use Rattle.opfs_base.specs.Texts.{Text}
use Rattle.opfs_books.specs.Laws.Commits.{StateLaws}
use Rattle.opfs_books.proofs.laws.Committing.{whole-state}
use Rattle.opfs_books.proofs.laws.Told.{whole-told}
use Rattle.opfs_hist.specs.declared.entry.Entry.{Entry}
use Rattle.opfs_laws.proofs.Spots.{exact_places}
use Rattle.opfs_laws.specs.Holders.{holders, IsLockOf}
use Rattle.opfs_laws.specs.Whole.{IsWhole, IsWholeOpening}
use Rattle.opfs_locks.specs.Taking.{Lock, taken}
use Rattle.opfs_locks.specs.declared.LockValue.TheVariants as value
use Rattle.opfs_locks.specs.declared.Want.{Want}
use Rattle.opfs_locks.specs.declared.Want.TheVariants as want
use Rattle.opfs_machine.specs.declared.own.Own.{Own}
use Rattle.opfs_machine.specs.declared.state.FileRow.{FileRow}
use Rattle.opfs_machine.specs.declared.state.Row.{Row}
use Rattle.opfs_machine.specs.declared.state.State.{State}
use Rattle.opfs_machine.specs.Histories.{state_after}
use Rattle.opfs_machine.specs.Openings.{Opening}
use Rattle.opfs_machine.specs.Rows.{file_at, file_of}
use Rattle.opfs_machine.specs.Rulings.{lock_in}
use Rattle.opfs_machine.specs.Steps.{evicted}
use Rattle.opfs_desk_steps.specs.RowLaws.Stored.{HasCleared}

-- ---- a file that is still there was there

one-left : (b : Bool) (o : Option (Row Text)) (x : FileRow Text) → file_of (cond b o None) ≡ Some x → file_of o ≡ Some x
one-left true o x is = is
one-left false o x is = absurd (none_some is)
  where
    none_some : ◌≡◌ {A = Option (FileRow Text)} None (Some x) → ⊥
    none_some e = cc

left-there : (s : State Text Own) (unit : Text) (place : Place) (x : FileRow Text) → file_at (evicted s unit) place ≡ Some x → file_at s place ≡ Some x
left-there s unit place x is =
    one-left (not (is_within (unit, []) place)) (find place_cmp place s.rows) x
    (sym (ap file_of (find-where_key place_cmp (λ y. not (is_within (unit, []) y)) place (λ y ties. ap (λ z. not (is_within (unit, []) z)) (sym (exact_places place y ties))) s.rows)) ∙ is)

pub all-left : (s : State Text Own) (gone : List Text) (place : Place) (x : FileRow Text) → file_at (fold evicted s gone) place ≡ Some x → file_at s place ≡ Some x
all-left s [] place x is = is
all-left s (unit ∷ gone) place x is = left-there s unit place x (all-left (evicted s unit) gone place x is)

-- ---- nobody writes a file whose lock is given

none-writes : (lock : Lock) (count : Want → ℕ) (w : Want) → IsLockOf lock count → is_some (taken w lock) ≡ true → count want.Exclusive ≡ 0
none-writes (value.Free, n) count w is given = is.1.exclusive
none-writes (value.Shared, n) count w is given = is.1.exclusive
none-writes (value.ReadOnly, n) count w is given = is.1.exclusive
none-writes (value.Exclusive, n) count want.Exclusive is given = absurd (false≢true given)
none-writes (value.Exclusive, n) count want.Shared is given = absurd (false≢true given)
none-writes (value.Exclusive, n) count want.ReadOnly is given = absurd (false≢true given)

stored-here : (s : State Text Own) → IsWhole s → (place : Place) (x : FileRow Text) → file_at s place ≡ Some x → (w : Want) → is_some (taken w x.lock) ≡ true → x.present ≡ x.durable
stored-here s whole place x there w given = elim (whole.covered place x there) [
  | inl same ↦ ap (λ y. y.0) same
  | inr writer ↦
      let lock : IsLockOf x.lock (holders s place) = subst (λ (o : Option (FileRow Text)). IsLockOf (lock_in o) (holders s place)) there (whole.locks place) in
      absurd (omega (arith, writer.0, none-writes x.lock (holders s place) w lock given))
]

module _ (states : StateLaws) where
  pub base-whole : (tells : Type 0) (o : Opening) (h : List Entry) (base : State Text Own) (gone : List Text) → IsWholeOpening o → HasCleared tells o h base gone → IsWhole base
  base-whole tells o h base gone opening cleared =
      let there = whole-state tells o cleared.front (state_after o cleared.front) (whole-told tells o cleared.front cleared.told) in
      subst IsWhole (there.2 ∙ cleared.state) (states.reached o there.0 opening there.1)

  -- Where units are cleared for a call, too.
  pub locked-stored : (tells : Type 0) (o : Opening) (h : List Entry) (base : State Text Own) (gone : List Text) → IsWholeOpening o → HasCleared tells o h base gone → (place : Place) (x : FileRow Text)
      → file_at (fold evicted base gone) place ≡ Some x → (w : Want) → is_some (taken w x.lock) ≡ true → x.present ≡ x.durable
  locked-stored tells o h base gone opening cleared place x there w given =
      stored-here base (base-whole tells o h base gone opening cleared) place x (all-left base gone place x there) w given
