use Rattle.std.proofs.Common.{◌≡◌, ℕ, ◌<◌, [], Some, true}
use Rattle.std.specs.Prelude.{slice_get}
use Rattle.opfs_base.specs.Texts.{Text}
use Rattle.opfs_register.specs.LastUses.{used_in, is_known}
use Rattle.opfs_register.specs.Seating.{key_of}
use Rattle.opfs_register.proofs.seats.known_uses.Given as goal

abbrev pub invariant-loop-who : goal.invariant-loop-who
invariant-loop-who l =
    record {
      used : used_in l.uses ≡ [];
      known : (k : ℕ) (origin : Text) → k < l.who-index → key_of (slice_get l.agents k) ≡ Some origin → is_known l.uses origin ≡ true;
    }
