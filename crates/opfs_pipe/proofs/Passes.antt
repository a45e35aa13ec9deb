-- The rounds of a pipe.
use Rattle.std.proofs.Common.{◌≡◌, ℕ, ◌+◌, ◌≤◌, List, [], ◌∷◌, ◌++◌, append-nil, append_assoc, Result, Ok, Err, sym, ap, ◌∙◌, subst, arith}
use Rattle.std.proofs.lemmas.List.{append_cancel_left}
use Rattle.opfs_base.specs.Texts.{Text}
use Rattle.opfs_turns.specs.Asking.Rows.{HasSnapshot, HasStream, SnapshotSeen, StreamSeen}
use Rattle.opfs_turns.specs.declared.asking.stop.Stop.{Stop}
use Rattle.opfs_turns.specs.declared.asking.stop.Stop.TheVariants as stop
use Rattle.opfs_splice.specs.Splicing.{window}
use Rattle.opfs_turns.specs.Agents.{AgentSeen}
use Rattle.opfs_pipe.specs.Pieces.{IsCut}
use Rattle.opfs_pipe.specs.Rounds.{HasMoved, HasRound}
use Rattle.opfs_pipe.specs.Sides.{Drained, Failed, Filled, HasFilled, IsNextWrite, IsWrite, Lost, Sliced, Written}
use Rattle.opfs_pipe.proofs.Joined.{failed-then, sliced-none, sliced-then, written-failed, written-none, written-then}
use Rattle.opfs_pipe.proofs.Lists.{cut-few, cut-front}

-- ---- one round

module _ {O : Type 0} (tells : Type 0) (ra rb wa wb : AgentSeen O) (x : SnapshotSeen) (at place end : ℕ) (y : StreamSeen) (was is : List Text) where
  -- The next place and the pieces, whatever the reader's side answered.
  pub filled-any : (r : Result ℕ Stop) → HasFilled tells ra rb x at place end was is r → (next : ℕ) × Filled tells ra rb x at place end was is next
  filled-any (Ok next) h = (next, h.1)
  filled-any (Err why) h = h.1

  -- The writer's side lost a piece.
  pub round-lost : (z : StreamSeen) (gotten known : List Text) (why : Stop) → (next : ℕ) × Filled tells ra rb x at place end was is next → Lost tells wa wb y z was gotten why → gotten ++ known ≡ is
      → HasRound tells ra rb wa wb x at place end y z was is (Err why)
  round-lost z gotten known why (next, f) l fifo =
      let pieces_are : was ++ (l.pieces ++ (l.lost ∷ known)) ≡ was ++ f.pieces =
      sym (append_assoc was l.pieces (l.lost ∷ known))
      ∙ sym (append_assoc (was ++ l.pieces) (l.lost ∷ []) known)
      ∙ ap (λ ps. ps ++ known) (append_assoc was l.pieces (l.lost ∷ []) ∙ sym l.grown)
      ∙ fifo
      ∙ f.grown
      in (
        (next, f.cut),
        record {
          pieces = f.pieces;
          grown = f.grown;
          sliced = f.sliced;
          written = l.pieces;
          rest = l.lost ∷ known;
          front = append_cancel_left was (l.pieces ++ (l.lost ∷ known)) f.pieces pieces_are;
          failed = l.failed;
        },
      )

  module _ (y2 : StreamSeen) (gotten : List Text) (first : Drained tells wa wb y y2 was gotten) (wc : AgentSeen O) where
    -- The caller lost one of what was left.
    pub round-lost-later : (z : StreamSeen) (last known : List Text) (why : Stop) → (next : ℕ) × Filled tells ra rb x at place end was is next → Lost tells wb wc y2 z gotten last why → last ++ known ≡ is
        → HasRound tells ra rb wa wc x at place end y z was is (Err why)
    round-lost-later z last known why (next, f) l fifo =
        let written = first.pieces ++ l.pieces in
        let pieces_are : was ++ (written ++ (l.lost ∷ known)) ≡ was ++ f.pieces =
        ap (λ ps. was ++ ps) (append_assoc first.pieces l.pieces (l.lost ∷ known))
        ∙ sym (append_assoc was first.pieces (l.pieces ++ (l.lost ∷ known)))
        ∙ ap (λ ps. ps ++ (l.pieces ++ (l.lost ∷ known))) (sym first.grown)
        ∙ ap (λ ps. gotten ++ ps) (sym (append_assoc l.pieces (l.lost ∷ []) known))
        ∙ sym (append_assoc gotten (l.pieces ++ l.lost ∷ []) known)
        ∙ ap (λ ps. ps ++ known) (sym l.grown)
        ∙ fifo
        ∙ f.grown
        in (
          (next, f.cut),
          record {
            pieces = f.pieces;
            grown = f.grown;
            sliced = f.sliced;
            written = written;
            rest = l.lost ∷ known;
            front = append_cancel_left was (written ++ (l.lost ∷ known)) f.pieces pieces_are;
            failed = failed-then tells wa wb wc y y2 z first.pieces l.pieces (IsWrite l.lost) why first.written l.failed;
          },
        )

    -- All that was pushed was written.
    pub round-done : (z : StreamSeen) (last : List Text) (r : Result ℕ Stop) → HasFilled tells ra rb x at place end was is r → Drained tells wb wc y2 z gotten last → last ≡ is
        → HasRound tells ra rb wa wc x at place end y z was is r
    round-done z last (Ok next) h second all =
        let f = h.1 in
        let pieces = first.pieces ++ second.pieces in
        let same : pieces ≡ f.pieces = append_cancel_left was pieces f.pieces (sym (append_assoc was first.pieces second.pieces) ∙ ap (λ ps. ps ++ second.pieces) (sym first.grown) ∙ sym second.grown ∙ all ∙ f.grown) in (
          h.0,
          f.cut,
          record {
            pieces = f.pieces;
            grown = f.grown;
            sliced = f.sliced;
            written = subst (Written tells wa wc y z) same (written-then tells wa wb wc y y2 z first.pieces second.pieces first.written second.written);
          },
        )
    round-done z last (Err why) h second all =
        let f = h.1.1 in
        let pieces = first.pieces ++ second.pieces in
        let same : pieces ≡ f.pieces = append_cancel_left was pieces f.pieces (sym (append_assoc was first.pieces second.pieces) ∙ ap (λ ps. ps ++ second.pieces) (sym first.grown) ∙ sym second.grown ∙ all ∙ f.grown) in
        let failed : Failed tells wa wc y z pieces (IsNextWrite []) stop.NoMemory = written-failed tells wa wc y z pieces (IsNextWrite []) (written-then tells wa wb wc y y2 z first.pieces second.pieces first.written second.written) in (
          (h.1.0, f.cut),
          record {
            pieces = f.pieces;
            grown = f.grown;
            sliced = f.sliced;
            written = pieces;
            rest = [];
            front = append-nil pieces ∙ same;
            failed = subst (Failed tells wa wc y z pieces (IsNextWrite [])) (sym h.0) failed;
          },
        )

-- ---- all rounds

-- Between two rounds: all that was sliced so far was written.
pub record Going {O : Type 0} (tells : Type 0) (ra rb wa wb : AgentSeen O) (x : SnapshotSeen) (at next end : ℕ) (y z : StreamSeen) (pieces : List Text) : Type 0 where
  pub cut : IsCut x.bytes at next end pieces
  pub sliced : Sliced tells ra rb x at pieces
  pub written : Written tells wa wb y z pieces

module _ {O : Type 0} (tells : Type 0) (ra wa : AgentSeen O) (x : SnapshotSeen) (at end : ℕ) (y : StreamSeen) (small : end ≤ at + 268435456) where
  pub going-none : HasSnapshot tells ra x → HasStream tells wa y → IsCut x.bytes at at end [] → (pieces : List Text) → pieces ≡ [] → Going tells ra ra wa wa x at at end y y pieces
  going-none snapshot stream cut pieces is = subst (Going tells ra ra wa wa x at at end y y) (sym is) (record { cut = cut; sliced = sliced-none tells ra x at snapshot; written = written-none tells wa y stream })

  module _ (rb wb rc wc : AgentSeen O) (place : ℕ) (z v : StreamSeen) (was is : List Text) (g : Going tells ra rb wa wb x at place end y z was) where
    pub going-more : (next : ℕ) → HasRound tells rb rc wb wc x at place end z v was is (Ok next) → Going tells ra rc wa wc x at next end y v is
    going-more next h =
        let p = h.2 in record {
          cut = h.1;
          sliced = subst (Sliced tells ra rc x at) (sym p.grown) (sliced-then tells ra rb rc x at place was p.pieces g.sliced g.cut.place p.sliced);
          written = subst (Written tells wa wc y v) (sym p.grown) (written-then tells wa wb wc y z v was p.pieces g.written p.written);
        }

    pub going-halts : (why : Stop) → HasRound tells rb rc wb wc x at place end z v was is (Err why) → (count : ℕ) → end ≡ at + count → HasMoved tells ra rc wa wc x at y v (window x.bytes at count) (Err why)
    going-halts why h count end_is =
        let p = h.1 in
        let front = cut-front x.bytes at h.0.0 end count is h.0.1 end_is in record {
          pieces = is;
          few = cut-few x.bytes at h.0.0 end is h.0.1 small;
          pages = h.0.1.pages;
          left = front.0;
          part = front.1;
          sliced = subst (Sliced tells ra rc x at) (sym p.grown) (sliced-then tells ra rb rc x at place was p.pieces g.sliced g.cut.place p.sliced);
          written = was ++ p.written;
          rest = p.rest;
          front = append_assoc was p.written p.rest ∙ ap (λ ps. was ++ ps) p.front ∙ sym p.grown;
          failed = failed-then tells wa wb wc y z v was p.written (IsNextWrite p.rest) why g.written p.failed;
        }

-- There is nothing to move.
pub moved-nothing : {O : Type 0} (tells : Type 0) (r w : AgentSeen O) (x : SnapshotSeen) (at : ℕ) (y : StreamSeen) (range : Text) → HasSnapshot tells r x → HasStream tells w y → range ≡ [] → HasMoved tells r r w w x at y y range (Ok tt)
moved-nothing tells r w x at y range snapshot stream none = record {
  pieces = [];
  few = omega arith;
  pages = tt;
  whole = sym none;
  sliced = sliced-none tells r x at snapshot;
  written = written-none tells w y stream;
}
