-- What the calls of a journal say of the images of a crash. This project's own.
use Rattle.std.specs.Prelude.{◌≡◌, ℕ, ◌+◌, ◌*◌, ◌<◌, ◌≤◌, ◌⊎◌, Option, Some, List}
use Rattle.opfs_outside.specs.Bytes.{Same, Beside}
use Rattle.opfs_journal.specs.Format.{Stored}
use Rattle.opfs_journal.specs.declared.areas.Areas.{Areas}

-- the places outside of both areas
abbrev pub Outside : Areas → ℕ → Type 0
Outside a i = (i < a.first) ⊎ (a.first + 2 * a.bytes ≤ i)

-- and outside of n bytes besides
abbrev pub OutsideBut : Areas → ℕ → ℕ → ℕ → Type 0
OutsideBut a at n i = Outside a i × Beside at n i

-- an image with what was stored, and at these places the bytes of an image at the start
pub record Before (reads : List ℕ → Option Stored) (was : Stored) (old : List ℕ → Type 0) (W : ℕ → Type 0) (c : List ℕ) : Type 0 where
  pub stored : reads c ≡ Some was
  pub from : List ℕ
  pub was_left : old from
  pub bytes : Same W c from

-- an image with what is stored in its place, and at these places the content
pub record After (reads : List ℕ → Option Stored) (next : Stored) (content : List ℕ) (W : ℕ → Type 0) (c : List ℕ) : Type 0 where
  pub stored : reads c ≡ Some next
  pub bytes : Same W c content

abbrev pub OneOf : (List ℕ → Option Stored) → (List ℕ → Type 0) → (ℕ → Type 0) → Stored → Stored → List ℕ → List ℕ → Type 0
OneOf reads old W was next content c = Before reads was old W c ⊎ After reads next content W c
