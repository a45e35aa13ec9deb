-- What calls on directories give (Storage: obtain a local storage bottle map). The steps of next are this project's own.
use Rattle.std.specs.Prelude.{◌≡◌, ℕ, List, [], ◌∷◌, ◌++◌, Option, Some, None}
use Rattle.opfs_store.specs.declared.acts.acted.Gift.{Gift}
use Rattle.opfs_store.specs.declared.acts.acted.Gift.TheVariants as gift
use Rattle.opfs_base.specs.Places.{child_of}
use Rattle.opfs_base.specs.Texts.{Text}
use Rattle.opfs_base.specs.Units.{unit_of}
use Rattle.opfs_base.specs.declared.locator.Kind.TheVariants as kind
use Rattle.opfs_base.specs.declared.locator.Locator.{Locator}
use Rattle.opfs_hist.specs.declared.reply.Reply.{Reply}
use Rattle.opfs_hist.specs.declared.reply.Reply.TheVariants as reply

-- The root of an origin's bucket; None without a key.
abbrev pub root_of : Option Text → Text → Option Locator
root_of None bucket = None
root_of (Some origin) bucket = Some (record { key = unit_of origin bucket; path = []; kind = kind.Directory })

-- The next child of a directory, or the end.
abbrev pub IsNextOf : Locator → Option Locator → Reply → Type 0
IsNextOf dir None answered = answered ≡ reply.Last
IsNextOf dir (Some at) answered = (name : Text) × (at ≡ child_of dir name at.kind) × (answered ≡ reply.Child at.kind name)

-- The child that is given, and the names that were given before and are now.
abbrev pub IsNoted : Gift → List Text → List Text → Option Locator → Type 0
IsNoted (gift.Child at name) before after child = (child ≡ Some at) × (after ≡ before ++ name ∷ [])
IsNoted given before after child = (child ≡ None) × (after ≡ before)

-- The time stamp that a reply tells; 0 where it tells none.
abbrev pub stamp_in : Reply → ℕ
stamp_in (reply.FileInfo size stamp) = stamp
stamp_in answered = 0
