-- What is known of many iterators. This project's own.
use Rattle.std.specs.Prelude.{◌≡◌, ◌≢◌, ◌⊎◌, ℕ, Bool, true, false, is_some, List, Option, Some}
use Rattle.std.specs.BTreeMap.{is_at}
use Rattle.std.specs.Map.{lookup}
use Rattle.opfs_store.specs.declared.acts.acted.Gift.{Gift}
use Rattle.opfs_store.specs.declared.acts.acted.Gift.TheVariants as gift
use Rattle.opfs_base.specs.Texts.{Text}
use Rattle.opfs_base.specs.declared.locator.Locator.{Locator}
use Rattle.opfs_hist.specs.declared.reply.Reply.{Reply}
use Rattle.opfs_hist.specs.declared.reply.Reply.TheVariants as reply
use Rattle.opfs_data.specs.Rows.{IsOther, row_cmp}
use Rattle.opfs_machine.specs.declared.own.Own.{Own}
use Rattle.opfs_machine.specs.declared.state.State.{State}
use Rattle.opfs_desk_steps.specs.Iterating.Below.{AreBelow, AreUpTo}
use Rattle.opfs_desk_steps.specs.Iterating.Reached.{HasReached}
use Rattle.opfs_desk_steps.specs.declared.iterating.iterators.Followed.{Followed}

-- Names, each under the number of an agent and that of its own row.
abbrev pub Lasts : Type 0
Lasts = List ((ℕ × ℕ) × Text)

-- The name of an iterator, if it is known.
abbrev pub last_of : ℕ → ℕ → Lasts → Option Text
last_of k n lasts = lookup (is_at (row_cmp (k, n))) lasts

-- Each iterator of which a name is known has given all that its directory has up to it.
abbrev pub AreReached : State Text Own → Lasts → Type 0
AreReached s lasts = (k n : ℕ) (last : Text) → last_of k n lasts ≡ Some last → HasReached s k n last

-- What is known was known before, of another iterator.
abbrev pub AreOthers : ℕ → ℕ → Lasts → Lasts → Type 0
AreOthers agent row old new = (k n : ℕ) (last : Text) → last_of k n new ≡ Some last → IsOther agent row k n × (last_of k n old ≡ Some last)

-- What is known was known before, or is the name of this iterator.
abbrev pub AreWith : ℕ → ℕ → Text → Lasts → Lasts → Type 0
AreWith agent row name old new = (k n : ℕ) (last : Text) → last_of k n new ≡ Some last → ((k ≡ agent) × (n ≡ row) × (last ≡ name)) ⊎ (last_of k n old ≡ Some last)

-- A child was given, and all was given up to another name before, or all that was given is below it.
pub record IsReachedBy (known : Bool) (given : Gift) (past : List Text) (name : Text) : Type 0 where
  pub at : Locator
  pub child : given ≡ gift.Child at name
  pub may : (known ≡ true) ⊎ AreBelow name past

-- A next found no further child.
pub record IsAtEnd (row : ℕ) (answered : Reply) : Type 0 where
  pub asks : row ≢ 0
  pub last : answered ≡ reply.Last

-- A next found no further child, and this is the name that was known, or none of those given is above it.
pub record IsEndedAt (row : ℕ) (was : Option Text) (answered : Reply) (past : List Text) (name : Text) : Type 0 where
  pub ended : IsAtEnd row answered
  pub may : (was ≡ Some name) ⊎ AreUpTo name past

-- All is given up to a name after a call: up to the child that it gave, or because no further child was there.
abbrev pub IsKnownBy : ℕ → Option Text → Reply → Gift → List Text → Text → Type 0
IsKnownBy row was answered given past name = IsReachedBy (is_some was) given past name ⊎ IsEndedAt row was answered past name

-- What is known after a call was known before, where it made no row, or is the name up to which its iterator has given all.
abbrev pub IsFollowed : Followed → Option Text → Reply → Gift → List Text → Lasts → Lasts → Type 0
IsFollowed call was answered given past old new =
    (k n : ℕ) (last : Text) → last_of k n new ≡ Some last
    → ((k ≡ call.agent) × (n ≡ call.row) × IsKnownBy call.row was answered given past last) ⊎ ((call.makes ≡ false) × (last_of k n old ≡ Some last))
