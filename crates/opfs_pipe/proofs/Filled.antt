-- The reader's side, piece by piece.
use Rattle.std.proofs.Common.{◌≡◌, ℕ, ◌+◌, ◌-◌, ◌<◌, ◌≤◌, min, List, [], ◌∷◌, ◌++◌, append-nil, append_assoc, length, sym, ap, ◌∙◌, subst, arith}
use Rattle.std.specs.List.{concat}
use Rattle.std.proofs.lemmas.List.{length-append}
use Rattle.std.proofs.lemmas.List.Folds.{concat-append}
use Rattle.opfs_base.specs.Texts.{Text}
use Rattle.opfs_turns.specs.Asking.Rows.{HasSnapshot, SnapshotSeen}
use Rattle.opfs_splice.specs.Splicing.{window}
use Rattle.opfs_turns.specs.Agents.{AgentSeen}
use Rattle.opfs_pipe.specs.Pieces.{IsCut}
use Rattle.opfs_pipe.specs.Sides.{Filled, Sliced}
use Rattle.opfs_pipe.proofs.Joined.{sliced-none, sliced-then}
use Rattle.opfs_pipe.proofs.Lists.{cut-more}

module _ {O : Type 0} (tells : Type 0) (a : AgentSeen O) (x : SnapshotSeen) (at place end : ℕ) (old : List Text) (start : IsCut x.bytes at place end old) where
  pub filled-none : HasSnapshot tells a x → Filled tells a a x at place end old old place
  filled-none has = record {
    pieces = [];
    grown = sym (append-nil old);
    cut = start;
    sliced = sliced-none tells a x place has;
  }

  module _ (b : AgentSeen O) (new : List Text) (next : ℕ) (f : Filled tells a b x at place end old new next) where
    -- The next place is behind the pieces.
    pub filled-place : next ≡ place + length (concat f.pieces)
    filled-place =
        let joined = ap length (ap concat f.grown ∙ concat-append old f.pieces) in
        omega (arith, start.place, f.cut.place, joined, length-append (concat old) (concat f.pieces))

    -- Nothing more was sliced.
    pub filled-still : (c : AgentSeen O) → Sliced tells b c x next [] → Filled tells a c x at place end old new next
    filled-still c s = record {
      pieces = f.pieces;
      grown = f.grown;
      cut = f.cut;
      sliced = subst (Sliced tells a c x place) (append-nil f.pieces) (sliced-then tells a b c x place next f.pieces [] f.sliced filled-place s);
    }

    -- One piece more was.
    pub filled-more : (c : AgentSeen O) (size : ℕ) (more : List Text) → size ≡ min 4096 (end - next) → next < end → end ≤ length x.bytes → more ≡ new ++ window x.bytes next size ∷ []
        → Sliced tells b c x next (window x.bytes next size ∷ []) → Filled tells a c x at place end old more (next + size)
    filled-more c size more size_is below reach is s = record {
      pieces = f.pieces ++ window x.bytes next size ∷ [];
      grown = is ∙ ap (λ ps. ps ++ window x.bytes next size ∷ []) f.grown ∙ append_assoc old f.pieces (window x.bytes next size ∷ []);
      cut = subst (IsCut x.bytes at (next + size) end) (sym is) (cut-more x.bytes at next end new f.cut size size_is below reach);
      sliced = sliced-then tells a b c x place next f.pieces (window x.bytes next size ∷ []) f.sliced filled-place s;
    }
