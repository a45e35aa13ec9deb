-- A pipe, from what was moved and how the close went.
use Rattle.std.proofs.Common.{◌≡◌, ℕ, ◌+◌, [], ◌∷◌, ◌++◌, append-nil, length, Result, Ok, Err, IfOk, IfErr, List, refl, sym, ap, ◌∙◌, subst, arith}
use Rattle.std.specs.List.{concat}
use Rattle.std.proofs.lemmas.List.{length-append}
use Rattle.opfs_base.specs.Places.{place_of}
use Rattle.opfs_base.specs.Texts.{Text}
use Rattle.opfs_turns.specs.Asking.Rows.{HasClosedStream, SnapshotSeen, StreamSeen}
use Rattle.opfs_turns.specs.declared.asking.stop.Stop.{Stop}
use Rattle.opfs_hist.specs.declared.op.Op.{Op}
use Rattle.opfs_hist.specs.declared.op.Op.TheVariants as op
use Rattle.opfs_hist.specs.declared.reply.Reply.TheVariants as reply
use Rattle.opfs_machine.specs.Changes.{content, entry_changes}
use Rattle.opfs_machine.specs.Histories.{state_after}
use Rattle.opfs_splice.specs.Splicing.{window}
use Rattle.opfs_sync_files.specs.Entries.{GoesOn}
use Rattle.opfs_sync_files.proofs.Knowing.{goes-most, goes-then}
use Rattle.opfs_turns.specs.Agents.{AgentSeen}
use Rattle.opfs_pipe.specs.Pipes.{HasGivenBack, HasPiped}
use Rattle.opfs_pipe.specs.Rounds.{Moved, MovedPart}
use Rattle.opfs_pipe.specs.Sides.{Failed, IsClose, IsLast, IsNext, IsNextWrite, IsStored}
use Rattle.opfs_sync_files.specs.Resting.{LeavesRest}
use Rattle.opfs_sync_files.proofs.Resting.{rest-then}
use Rattle.opfs_pipe.specs.Streams.{StoresLast, calls_of, stream_bytes}
use Rattle.opfs_pipe.proofs.Joined.{last-may}

pub if-ok : {T E : Type 0} (r : Result T E) (P Q : T → Type 0) → ((x : T) → P x → Q x) → IfOk r P → IfOk r Q
if-ok (Ok x) P Q go h = go x h
if-ok (Err e) P Q go h = tt

pub if-err : {T E : Type 0} (r : Result T E) (P Q : E → Type 0) → ((e : E) → P e → Q e) → IfErr r P → IfErr r Q
if-err (Ok x) P Q go h = tt
if-err (Err e) P Q go h = go e h

pub if-either : {T E : Type 0} (r : Result T E) (P : T → Type 0) (Q : E → Type 0) (R : Type 0) → ((x : T) → P x → R) → ((e : E) → Q e → R) → IfOk r P → IfErr r Q → R
if-either (Ok x) P Q R ok err h k = ok x h
if-either (Err e) P Q R ok err h k = err e k

-- The write of the next piece is the next call.
next-write : (rest : List Text) (left : Text) (row : ℕ) (o : Op) → IsNextWrite rest row o → IsNext rest left row o
next-write [] left row o h = absurd h
next-write (piece ∷ rest) left row o h = h

-- What a later agent stored last, by the names of the first.
stores-since : {O : Type 0} (a b c : AgentSeen O) (n : ℕ) (x y : StreamSeen) (bytes range : Text) → GoesOn a b n → y.row ≡ x.row → y.file ≡ x.file → bytes ≡ range → StoresLast b c y bytes → StoresLast a c x range
stores-since a b c n x y bytes range goes row file same s = record {
  front = s.front;
  entry = s.entry;
  grown = s.grown;
  mine = s.mine ∙ goes.agent;
  called = s.called ∙ ap op.Close row;
  done = s.done;
  stamp = s.stamp;
  stored =
      ap (λ o. entry_changes (state_after o s.front) s.entry) (sym goes.opening_is)
      ∙ s.stored
      ∙ (λ i. content (place_of (file i)) s.stamp (same i) ∷ []);
}

module _ {O : Type 0} (tells : Type 0) (ra rb wa wb : AgentSeen O) (x : SnapshotSeen) (at len : ℕ) (to y : StreamSeen) (empty : stream_bytes wa to ≡ []) where
  abbrev range : Text
  range = window x.bytes at len

  module _ (m : Moved tells ra rb wa wb x at to y (window x.bytes at len)) where
    whole-bytes : stream_bytes wb y ≡ window x.bytes at len
    whole-bytes = m.written.bytes ∙ ap (λ (t : Text). t ++ concat m.pieces) empty ∙ m.whole

    module _ (wc : AgentSeen O) (row : ℕ) (s : IsStored tells wb wc y row (stream_bytes wb y)) where
      pub piped-content : StoresLast wa wc to (window x.bytes at len)
      piped-content = stores-since wa wb wc (length m.pieces) to y (stream_bytes wb y) (window x.bytes at len) m.written.goes m.written.row m.written.file whole-bytes s.content

      pub piped-closed : (row ≡ to.row) × HasClosedStream wc row
      piped-closed = (s.same ∙ m.written.row, s.closed)

      pub piped-calls : HasPiped ra rb wa wc x at len to.row
      piped-calls = record {
        pieces = m.pieces;
        pages = m.pages;
        whole = m.whole;
        slices = m.sliced.calls;
        writes = s.calls ∙ (λ i. m.written.calls i ++ (op.Close (m.written.row i), reply.Done) ∷ []);
      }

      pub piped-goes : GoesOn wa wc 65537
      piped-goes = goes-most wa wc (length m.pieces + 1) 65537 (omega (arith, m.few)) (goes-then wa wb wc (length m.pieces) 1 m.written.goes s.goes)

      pub piped-rest : LeavesRest tells wa wc to.row
      piped-rest = rest-then tells wa wb wc to.row m.written.others (subst (LeavesRest tells wb wc) m.written.row s.others)

    module _ (wc : AgentSeen O) (back : StreamSeen) (why : Stop) (f : Failed tells wb wc y back [] IsClose why) where
      pub stopped-back : HasGivenBack tells ra rb wa wc x at len to back why
      stopped-back = record {
        open_still = f.has;
        row = f.row ∙ m.written.row;
        file = f.file ∙ m.written.file;
        pieces = m.pieces;
        pages = m.pages;
        left = [];
        part = append-nil (concat m.pieces) ∙ m.whole;
        slices = m.sliced.calls;
        written = m.pieces;
        rest = [];
        front = append-nil m.pieces;
        bytes = f.bytes ∙ append-nil (stream_bytes wb y) ∙ whole-bytes ∙ sym m.whole;
        last = f.last;
        is_last = last-may (IsClose to.row) (IsNext [] [] to.row) why f.last (λ o is. (is, refl)) (subst (λ n. IsLast (IsClose n) why f.last) m.written.row f.is_last);
        writes = f.calls ∙ ap (λ ts. ts ++ f.last) (append-nil (calls_of wb) ∙ m.written.calls);
      }

      pub stopped-goes : GoesOn wa wc 65537
      stopped-goes = goes-most wa wc (length m.pieces + (length {A = Text} [] + 1)) 65537 (omega (arith, m.few)) (goes-then wa wb wc (length m.pieces) (length {A = Text} [] + 1) m.written.goes f.goes)

      pub stopped-rest : LeavesRest tells wa wc to.row
      stopped-rest = rest-then tells wa wb wc to.row m.written.others (subst (LeavesRest tells wb wc) m.written.row f.others)

    pub moved-reads : GoesOn ra rb 65536
    moved-reads = goes-most ra rb (length m.pieces) 65536 m.few m.sliced.goes

  module _ (why : Stop) (p : MovedPart tells ra rb wa wb x at to y (window x.bytes at len) why) where
    pub part-back : HasGivenBack tells ra rb wa wb x at len to y why
    part-back = record {
      open_still = p.failed.has;
      row = p.failed.row;
      file = p.failed.file;
      pieces = p.pieces;
      pages = p.pages;
      left = p.left;
      part = p.part;
      slices = p.sliced.calls;
      written = p.written;
      rest = p.rest;
      front = p.front;
      bytes = p.failed.bytes ∙ ap (λ (t : Text). t ++ concat p.written) empty;
      last = p.failed.last;
      is_last = last-may (IsNextWrite p.rest to.row) (IsNext p.rest p.left to.row) why p.failed.last (next-write p.rest p.left to.row) p.failed.is_last;
      writes = p.failed.calls;
    }

    pub part-goes : GoesOn wa wb 65537
    part-goes =
        let count : length p.written + length p.rest ≡ length p.pieces = sym (length-append p.written p.rest) ∙ ap length p.front in
        goes-most wa wb (length p.written + 1) 65537 (omega (arith, count, p.few)) p.failed.goes

    pub part-reads : GoesOn ra rb 65536
    part-reads = goes-most ra rb (length p.pieces) 65536 p.few p.sliced.goes
