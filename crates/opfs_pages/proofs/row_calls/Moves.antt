-- A working copy with another position, another reserve, and the same pages.
use Rattle.std.proofs.Common.{◌≡◌, ℕ, ◌+◌, max, List, length, sym, ap, subst, ◌∙◌}
use Rattle.opfs_data.specs.declared.page.Page.{Page}
use Rattle.opfs_pages.specs.Copies.{IsCopy, AreHeld}
use Rattle.opfs_pages.specs.Stages.{changed}
use Rattle.opfs_pages.proofs.PageBytes.{copied_length}
use Rattle.opfs_pages.proofs.Rest.{written_is, resized_is, stored_is}
use Rattle.opfs_splice.specs.Splicing.{splice, resize}
use Rattle.opfs_work.specs.Works.{WorkingCopy}

pub moved-copy : (bytes : List ℕ) (old new : WorkingCopy) (position reserve : ℕ) → new ≡ record old { position = position; reserve = reserve } → IsCopy bytes old → IsCopy bytes new
moved-copy bytes old new position reserve is copy = subst (IsCopy bytes) (sym is) (record { same = copy.same })

pub dropped-copy : (bytes : List ℕ) (old new : WorkingCopy) → new ≡ record old { reserve = 0 } → IsCopy bytes old → IsCopy bytes new
dropped-copy bytes old new is copy = subst (IsCopy bytes) (sym is) (record { same = copy.same })

pub same-size : (bytes : List ℕ) (work : WorkingCopy) (size : ℕ) → size ≡ work.length → IsCopy bytes work → resize bytes size ≡ bytes
same-size bytes work size is copy =
    ap (resize bytes) (is ∙ sym (copied_length bytes work copy)) ∙ sym (resized_is bytes (length bytes)) ∙ stored_is bytes

pub call-writes : (bytes given : List ℕ) (work : WorkingCopy) (at len : ℕ) → length given ≡ len → IsCopy bytes work → changed bytes at given (max work.length (at + len)) ≡ splice bytes at given
call-writes bytes given work at len is copy =
    ap (λ (n : ℕ). changed bytes at given (max n (at + len))) (sym (copied_length bytes work copy))
    ∙ ap (λ (n : ℕ). changed bytes at given (max (length bytes) (at + n))) (sym is)
    ∙ written_is bytes given at

-- another room
pub room-copy : (bytes : List ℕ) (old new : WorkingCopy) → new ≡ record old { room = new.room } → IsCopy bytes old → IsCopy bytes new
room-copy bytes old new is copy = subst (IsCopy bytes) (sym is) (record { same = copy.same })

pub room-held : (bytes : List ℕ) (old new : WorkingCopy) (c : List ℕ) (base : ℕ) (pages : List Page) → new ≡ record old { room = new.room } → AreHeld bytes old c base pages → AreHeld bytes new c base pages
room-held bytes old new c base pages is held = subst (λ (w : WorkingCopy). AreHeld bytes w c base pages) (sym is) (record { held = held.held })
