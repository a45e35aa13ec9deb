-- The other paths of a host, by the words of a conversation.
use Rattle.std.proofs.Common.{sym, subst}
use Rattle.std.specs.Prelude.{List}
use Rattle.opfs_base.specs.Texts.{Text}
use Rattle.opfs_outside.specs.Turns.{AsBefore, HostTurn, OthersAsBefore}
use Rattle.opfs_serve_top.specs.Headline.{Asks}

-- a path that the words do not ask for is another
pub apart-from : (h : HostTurn) (words : List Text) (asked : Text) → Asks words asked → OthersAsBefore h asked → (path : Text) → (Asks words path → ⊥) → AsBefore h path
apart-from h words asked asks others path none = others path (λ same. none (subst (Asks words) (sym same) asks))
