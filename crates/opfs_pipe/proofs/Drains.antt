-- The writer's side, piece by piece.
use Rattle.std.proofs.Common.{◌≡◌, List, [], ◌∷◌, ◌++◌, append-nil, append_assoc, sym, ap, ◌∙◌, subst}
use Rattle.opfs_base.specs.Texts.{Text}
use Rattle.opfs_turns.specs.Asking.Rows.{HasStream, StreamSeen}
use Rattle.opfs_turns.specs.declared.asking.stop.Stop.{Stop}
use Rattle.opfs_turns.specs.Agents.{AgentSeen}
use Rattle.opfs_pipe.specs.Sides.{Drained, Failed, IsWrite, Lost, Written}
use Rattle.opfs_pipe.proofs.Joined.{failed-then, written-none, written-then}

module _ {O : Type 0} (tells : Type 0) (a : AgentSeen O) (x : StreamSeen) (got : List Text) where
  pub drained-none : HasStream tells a x → Drained tells a a x x got got
  drained-none has = record { pieces = []; grown = sym (append-nil got); written = written-none tells a x has }

  module _ (b : AgentSeen O) (y : StreamSeen) (gotten : List Text) (d : Drained tells a b x y got gotten) where
    grown-one : (piece : Text) (more : List Text) → more ≡ gotten ++ piece ∷ [] → more ≡ got ++ (d.pieces ++ piece ∷ [])
    grown-one piece more is = is ∙ ap (λ ps. ps ++ piece ∷ []) d.grown ∙ append_assoc got d.pieces (piece ∷ [])

    pub drained-more : (c : AgentSeen O) (z : StreamSeen) (piece : Text) (more : List Text) → more ≡ gotten ++ piece ∷ [] → Written tells b c y z (piece ∷ []) → Drained tells a c x z got more
    drained-more c z piece more is w = record {
      pieces = d.pieces ++ piece ∷ [];
      grown = grown-one piece more is;
      written = written-then tells a b c x y z d.pieces (piece ∷ []) d.written w;
    }

    pub drained-lost : (c : AgentSeen O) (z : StreamSeen) (piece : Text) (more : List Text) (why : Stop) → more ≡ gotten ++ piece ∷ [] → Failed tells b c y z [] (IsWrite piece) why → Lost tells a c x z got more why
    drained-lost c z piece more why is f = record {
      pieces = d.pieces;
      lost = piece;
      grown = grown-one piece more is;
      failed = subst (λ ps. Failed tells a c x z ps (IsWrite piece) why) (append-nil d.pieces) (failed-then tells a b c x y z d.pieces [] (IsWrite piece) why d.written f);
    }
