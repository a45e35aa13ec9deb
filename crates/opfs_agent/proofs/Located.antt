-- Calls that need their directory or file to be there, and nothing else.
use Rattle.std.proofs.Common.{◌≡◌, ℕ, true, List, Ok, Option, Some, None, refl, sym, ◌∙◌}
use Rattle.opfs_base.specs.Texts.{Text}
use Rattle.opfs_base.specs.declared.locator.Kind.{Kind}
use Rattle.opfs_base.specs.declared.locator.Kind.TheVariants as kind
use Rattle.opfs_base.specs.declared.locator.Locator.{Locator}
use Rattle.opfs_hist.specs.declared.op.Op.TheVariants as op
use Rattle.opfs_machine.specs.declared.own.Own.{Own}
use Rattle.opfs_machine.specs.declared.state.FileRow.{FileRow}
use Rattle.opfs_machine.specs.declared.state.Need.{Need}
use Rattle.opfs_machine.specs.declared.state.Row.{Row}
use Rattle.opfs_machine.specs.declared.state.Row.TheVariants as row
use Rattle.opfs_machine.specs.declared.state.State.{State}
use Rattle.opfs_machine.specs.Agents.{agent_of}
use Rattle.opfs_machine.specs.Contents.{in_bytes}
use Rattle.opfs_machine.specs.Replies.{sizes_of}
use Rattle.opfs_machine.specs.Rows.{file_at, file_of, holds_kind, is_located, row_at, wants}
use Rattle.opfs_machine.specs.Rulings.{ruling, located_ruling}
use Rattle.opfs_machine.specs.Steps.{judged, room_for}
use Rattle.opfs_machine.specs.Sums.{no_need}
use Rattle.opfs_base.specs.Places.{place_of}
use Rattle.std.proofs.lemmas.Bool.{and_parts, false≢true}
use Rattle.opfs_laws.proofs.Gone.{bind-gave, then-gave, unless-gave}

located-file : (r : Option (Row Text)) → holds_kind kind.File r ≡ true → (f : FileRow Text) × (file_of r ≡ Some f)
located-file None h = absurd (false≢true h)
located-file (Some row.Directory) h = absurd (false≢true h)
located-file (Some (row.File f)) h = (f, refl)

located-gave : (s : State Text Own) (kd : Kind) (at : Locator) (need : Need) → located_ruling s kd at ≡ Ok need → (is_located s kd at ≡ true) × (located_ruling s kd at ≡ Ok no_need)
unfolding located_ruling
located-gave s kd at need h = let both = then-gave _ _ need h in (unless-gave (is_located s kd at) _ both.0, h ∙ sym both.1)

pub next-ruled : (s : State Text Own) (k n : ℕ) (dir : Locator) (units : List Text) → judged s k (op.Next n dir) ≡ Ok units → ruling in_bytes s (sizes_of s k (op.Next n dir)) k (op.Next n dir) ≡ Ok no_need
unfolding judged ruling
next-ruled s k n dir units h =
    let asked = bind-gave (located_ruling s kind.Directory dir) (room_for in_bytes s (agent_of s k).key) units h in
    (located-gave s kind.Directory dir asked.0 asked.1).1

pub file-ruled : (s : State Text Own) (k : ℕ) (at : Locator) (units : List Text) → judged s k (op.GetFile at) ≡ Ok units
    → (ruling in_bytes s (sizes_of s k (op.GetFile at)) k (op.GetFile at) ≡ Ok no_need) × ((f : FileRow Text) × (file_at s (place_of at) ≡ Some f))
unfolding judged ruling
file-ruled s k at units h =
    let asked = bind-gave (located_ruling s kind.File at) (room_for in_bytes s (agent_of s k).key) units h in
    let both = located-gave s kind.File at asked.0 asked.1 in
    (both.1, located-file (row_at s (place_of at)) (and_parts (wants kind.File at) _ both.0).1)
