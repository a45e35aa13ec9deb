-- What a pipe leaves. This project's own.
use Rattle.std.specs.Prelude.{◌≡◌, ℕ, List, [], ◌∷◌, ◌++◌, map}
use Rattle.std.specs.List.{concat}
use Rattle.opfs_base.specs.Texts.{Text}
use Rattle.opfs_turns.specs.Asking.Rows.{HasStream, SnapshotSeen, StreamSeen}
use Rattle.opfs_turns.specs.declared.asking.stop.Stop.{Stop}
use Rattle.opfs_hist.specs.declared.op.Op.{Op}
use Rattle.opfs_hist.specs.declared.op.Op.TheVariants as op
use Rattle.opfs_hist.specs.declared.reply.Reply.{Reply}
use Rattle.opfs_hist.specs.declared.reply.Reply.TheVariants as reply
use Rattle.opfs_splice.specs.Splicing.{window}
use Rattle.opfs_turns.specs.Agents.{AgentSeen}
use Rattle.opfs_pipe.specs.Pieces.{ArePages, slices_of, write_of}
use Rattle.opfs_pipe.specs.Sides.{IsLast, IsNext}
use Rattle.opfs_pipe.specs.Streams.{calls_of, stream_bytes}

-- The range went from one agent to the other in pieces: the reader's calls are the slices of these, and the writer's their
-- writes and the close.
pub record HasPiped {O : Type 0} (reader_old reader_new writer_old writer_new : AgentSeen O) (x : SnapshotSeen) (at len row : ℕ) : Type 0 where
  pub pieces : List Text
  pub pages : ArePages pieces
  pub whole : concat pieces ≡ window x.bytes at len
  pub slices : calls_of reader_new ≡ calls_of reader_old ++ slices_of x.row at pieces
  pub writes : calls_of writer_new ≡ (calls_of writer_old ++ map (write_of row) pieces) ++ (op.Close row, reply.Done) ∷ []

-- A front of it did: the reader's calls are the slices of its pieces, and the writer's the writes of a front of these, with the
-- call that was refused, if it was not for want of memory: the write of the next piece, or the close behind the last one of the whole
-- range. The stream is open, and its bytes are what was written.
pub record HasGivenBack {O : Type 0} (tells : Type 0) (reader_old reader_new writer_old writer_new : AgentSeen O) (x : SnapshotSeen) (at len : ℕ) (to back : StreamSeen) (why : Stop) : Type 0 where
  pub open_still : HasStream tells writer_new back
  pub row : back.row ≡ to.row
  pub file : back.file ≡ to.file
  pub pieces : List Text
  pub pages : ArePages pieces
  pub left : Text
  pub part : concat pieces ++ left ≡ window x.bytes at len
  pub slices : calls_of reader_new ≡ calls_of reader_old ++ slices_of x.row at pieces
  pub written : List Text
  pub rest : List Text
  pub front : written ++ rest ≡ pieces
  pub bytes : stream_bytes writer_new back ≡ concat written
  pub last : List (Op × Reply)
  pub is_last : IsLast (IsNext rest left to.row) why last
  pub writes : calls_of writer_new ≡ (calls_of writer_old ++ map (write_of to.row) written) ++ last
