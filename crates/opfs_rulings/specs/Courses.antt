-- An iterator's names in two sets: those that it has given, and the children of its directory that it has not. This project's own.
use Rattle.std.specs.Prelude.{◌≡◌, ◌≢◌, ◌⊎◌, ℕ, ◌&&◌, ◌||◌, Bool, false, not, List, [], ◌∷◌, ◌++◌, Option, None, Some, IsSomeAnd}
use Rattle.std.specs.BTreeSet.{BTreeSet, contains}
use Rattle.std.specs.Cmp.Lexicographic.{slice_cmp}
use Rattle.std.specs.List.{AllByRecursion, filter_map, list_any}
use Rattle.std.specs.Ordering.{nat_cmp}
use Rattle.opfs_base.specs.Places.{Place, child_name, is_within}
use Rattle.opfs_base.specs.Texts.{Text, same_text}
use Rattle.opfs_machine.specs.Agents.{agent_of, own_of}
use Rattle.opfs_machine.specs.Contents.{and_given}
use Rattle.opfs_machine.specs.Rows.{Rows}
use Rattle.opfs_machine.specs.declared.own.IteratorRow.{IteratorRow}
use Rattle.opfs_machine.specs.declared.own.Own.{Own}
use Rattle.opfs_machine.specs.declared.own.Own.TheVariants as own
use Rattle.opfs_machine.specs.declared.state.State.{State}
use Rattle.opfs_rulings.specs.Sets.{IsSetOf}
use Rattle.opfs_rulings.specs.Tallies.{AreKept}
use Rattle.opfs_rulings.specs.declared.tally.Tally.{Tally}
use Rattle.opfs_rulings.specs.declared.course.Course.{Course}
use Rattle.opfs_rulings.specs.declared.course.Event.{Event}
use Rattle.opfs_rulings.specs.declared.course.Event.TheVariants as event

-- Whether a set has a name.
abbrev pub has : BTreeSet Text → Text → Bool
has set x = contains (slice_cmp nat_cmp) set x

-- Whether there is a name, and it is this text.
abbrev pub is_named : Option Text → Text → Bool
is_named None x = false
is_named (Some name) x = same_text x name

-- The names of a directory's children, in the order of the rows.
abbrev pub names_in : Place → Rows Text → List Text
names_in dir rows = filter_map (λ e. child_name dir e.0) rows

-- A set has these names, but for those that another has.
abbrev pub HasOthers : List Text → BTreeSet Text → BTreeSet Text → Type 0
HasOthers names other set = (x : Text) → has set x ≡ (list_any (same_text x) names && not (has other x))

-- It has a child's name more, if there is one that the other has not.
abbrev pub HasChild : Option Text → BTreeSet Text → BTreeSet Text → BTreeSet Text → Type 0
HasChild name other old new = (x : Text) → has new x ≡ (has old x || (is_named name x && not (has other x)))

-- It has a name less.
abbrev pub HasNot : Text → BTreeSet Text → BTreeSet Text → Type 0
HasNot name old new = (x : Text) → has new x ≡ (has old x && not (same_text x name))

-- A course is that of an iterator, over its directory as it stands.
pub record IsCourse (s : State Text Own) (c : Course) : Type 0 where
  pub iterator : IteratorRow
  pub is : own_of (agent_of s c.agent) c.row ≡ Some (own.Iterator iterator)
  pub past : IsSetOf iterator.given c.given
  pub next : HasOthers (names_in c.dir s.rows) c.given c.left

-- A row was made at a place.
pub record HasMore (place : Place) (old new : Course) : Type 0 where
  pub rest : new ≡ record old { left = new.left }
  pub left : HasChild (child_name old.dir place) old.given old.left new.left

-- A child of the directory went.
pub record HasLess (place : Place) (old new : Course) : Type 0 where
  pub name : Text
  pub child : child_name old.dir place ≡ Some name
  pub rest : new ≡ record old { left = new.left }
  pub left : HasNot name old.left new.left

-- A row went that is no child of the directory, and neither that nor above it.
pub record IsApart (place : Place) (old new : Course) : Type 0 where
  pub rest : new ≡ old
  pub child : child_name old.dir place ≡ None
  pub within : is_within place old.dir ≡ false

-- The row at a place went, and all below it.
abbrev pub HasLost : Place → Course → Course → Type 0
HasLost place old new = HasLess place old new ⊎ IsApart place old new

-- A name was given.
pub record HasGiven (name : Text) (old new : Course) : Type 0 where
  pub rest : new ≡ record old { given = new.given; left = new.left }
  pub given : (x : Text) → has new.given x ≡ (has old.given x || same_text x name)
  pub left : HasNot name old.left new.left

-- A name was given, or the end.
abbrev pub HasGone : Option Text → Course → Course → Type 0
HasGone None old new = new ≡ old
HasGone (Some name) old new = HasGiven name old new

-- So it was by this iterator.
pub record IsGivenBy (k n : ℕ) (name : Option Text) (old new : Course) : Type 0 where
  pub agent : old.agent ≡ k
  pub row : old.row ≡ n
  pub gone : HasGone name old new

-- A course is not that of this own row.
abbrev pub IsOther : ℕ → ℕ → Course → Type 0
IsOther k n c = (c.agent ≢ k) ⊎ (c.row ≢ n)

-- A course stays that is not of this own row.
abbrev pub StaysBeside : ℕ → ℕ → Course → Course → Type 0
StaysBeside k n old new = (new ≡ old) × IsOther k n new

-- This iterator gave a name, or the end; the course of another one stays.
abbrev pub GivesOrStays : ℕ → ℕ → Option Text → Course → Course → Type 0
GivesOrStays k n name old new = IsGivenBy k n name old new ⊎ StaysBeside k n old new

-- What a course becomes by what happens.
abbrev pub Becomes : Event → Course → Course → Type 0
Becomes (event.Made place) = HasMore place.now
Becomes (event.Removed place) = HasLost place.now
Becomes (event.Gave k n name) = GivesOrStays k n name.now
Becomes (event.Swapped k n) = StaysBeside k n

-- A course comes from one of these.
abbrev pub IsFrom : (Course → Course → Type 0) → List Course → Course → Type 0
IsFrom R [] new = ⊥
IsFrom R (old ∷ rest) new = R old new ⊎ IsFrom R rest new

-- Each of the new courses comes from one of the old ones.
abbrev pub AreFrom : (Course → Course → Type 0) → List Course → List Course → Type 0
AreFrom R old new = AllByRecursion (IsFrom R old) new

-- There are the same courses, or one more.
abbrev pub MayAdd : Option Course → List Course → List Course → Type 0
MayAdd course old new = (new ≡ old) ⊎ IsSomeAnd course (λ c. new ≡ old ++ c ∷ [])

-- An iterator that has given one more name, or none.
abbrev pub given_row : Own → Option Text → Own
given_row (own.Iterator i) name = own.Iterator (record i { given = and_given i.given name })
given_row r name = r

-- What a board keeps of its state.
pub record IsBoard (s : State Text Own) (tally : Option Tally) (courses : List Course) : Type 0 where
  pub kept : AreKept s.rows s.agents s.persistent tally
  pub followed : AllByRecursion (IsCourse s) courses
