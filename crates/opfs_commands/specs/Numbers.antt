-- The words for the numbers of a large run. This project's own.
use Rattle.std.specs.Prelude.{◌≡◌, ◌&&◌, Bool, true, nat_le, decimal}
use Rattle.opfs_base.specs.Texts.{Text}
use Rattle.opfs_commands.specs.declared.words.Generation.{Generation}

-- The numbers of which a large run may be made.
abbrev pub may_generate : Generation → Bool
may_generate g = nat_le g.seed 9007199254740991 && nat_le 1 g.agents && nat_le g.agents 16 && nat_le 1 g.rounds && nat_le g.rounds 200

-- these words are the numbers as they print, and the numbers are in range
pub record AreNumbers (g : Generation) (seed agents rounds : Text) : Type 0 where
  pub seed_is : seed ≡ decimal g.seed
  pub agents_are : agents ≡ decimal g.agents
  pub rounds_are : rounds ≡ decimal g.rounds
  pub range : may_generate g ≡ true
