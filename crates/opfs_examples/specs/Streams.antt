-- Examples of streams.
use Rattle.std.specs.Prelude.{List, [], ◌∷◌, ◌++◌, None, codes, replicate, true, false, ◌≡◌, Some}
use Rattle.opfs_base.specs.Texts.{Text}
use Rattle.opfs_base.specs.Units.{default_bucket}
use Rattle.opfs_hist.specs.declared.entry.Entry.{Entry}
use Rattle.opfs_hist.specs.declared.op.Op.TheVariants as op
use Rattle.opfs_hist.specs.declared.reply.Reply.TheVariants as reply
use Rattle.opfs_examples.specs.Trying.{IsExample, try_opening, one_agent, file, root, the_file, by_one, kept_at}

-- A file is made, written through a stream, and read.
abbrev pub a_file_is_written_history : List Entry
a_file_is_written_history =
    by_one 1 (op.GetDirectory default_bucket) reply.Done
    ∷ by_one 2 (op.GetFileHandle root (codes "note") true) reply.Done
    ∷ by_one 3 (op.CreateWritable (file (codes "note" ∷ [])) false) reply.Done
    ∷ by_one 4 (op.Write 1 (codes "hello") None) reply.Done
    ∷ by_one 5 (op.Close 1) reply.Done
    ∷ by_one 6 (op.GetFile (file (codes "note" ∷ []))) (reply.FileInfo 5 0)
    ∷ by_one 7 op.End reply.Done
    ∷ []

abbrev pub a_file_is_written_lines : List Text
a_file_is_written_lines =
    codes "1.1 getDirectory ok"
    ∷ codes "1.2 getFileHandle ok"
    ∷ codes "1.3 createWritable ok"
    ∷ codes "1.4 write ok"
    ∷ codes "1.5 close ok"
    ∷ codes "1.6 getFile ok 5 0"
    ∷ codes "1.7 end ok"
    ∷ []

abbrev pub AFileIsWritten : Type 0
AFileIsWritten =
    IsExample (try_opening one_agent) a_file_is_written_history
    a_file_is_written_lines 5 (reply.FileInfo 4 0)

-- A write behind the end fills what lies between with zeros, and a close sets the time stamp.
abbrev pub a_write_past_the_end_fills_with_zeros_history : List Entry
a_write_past_the_end_fills_with_zeros_history =
    by_one 1 (op.GetDirectory default_bucket) reply.Done
    ∷ by_one 2 (op.GetFileHandle root (codes "f") true) reply.Done
    ∷ by_one 3 (op.Moment 1700000000000) reply.Done
    ∷ by_one 4 (op.CreateWritable the_file false) reply.Done
    ∷ by_one 5 (op.Seek 1 10) reply.Done
    ∷ by_one 6 (op.Write 1 (codes "x") None) reply.Done
    ∷ by_one 7 (op.Close 1) reply.Done
    ∷ by_one 8 (op.GetFile the_file) (reply.FileInfo 11 1700000000000)
    ∷ by_one 9 (op.Slice 2 0 11) (reply.Read (replicate 10 0 ++ codes "x"))
    ∷ by_one 10 op.End reply.Done
    ∷ []

abbrev pub a_write_past_the_end_fills_with_zeros_lines : List Text
a_write_past_the_end_fills_with_zeros_lines =
    codes "1.1 getDirectory ok"
    ∷ codes "1.2 getFileHandle ok"
    ∷ codes "1.3 moment ok"
    ∷ codes "1.4 createWritable ok"
    ∷ codes "1.5 seek ok"
    ∷ codes "1.6 write ok"
    ∷ codes "1.7 close ok"
    ∷ codes "1.8 getFile ok 11 1700000000000"
    ∷ codes "1.9 slice ok 11 0000000000000000000078"
    ∷ codes "1.10 end ok"
    ∷ []

abbrev pub AWritePastTheEndFillsWithZeros : Type 0
AWritePastTheEndFillsWithZeros =
    IsExample (try_opening one_agent) a_write_past_the_end_fills_with_zeros_history
    a_write_past_the_end_fills_with_zeros_lines 7 (reply.FileInfo 1 1700000000000)

-- A stream that is cut writes on at its new end, and bytes that it grew by are zeros.
abbrev pub a_cut_stream_moves_its_offset_history : List Entry
a_cut_stream_moves_its_offset_history =
    by_one 1 (op.GetDirectory default_bucket) reply.Done
    ∷ by_one 2 (op.GetFileHandle root (codes "f") true) reply.Done
    ∷ by_one 3 (op.CreateWritable the_file false) reply.Done
    ∷ by_one 4 (op.Write 1 (codes "abcdefghi") None) reply.Done
    ∷ by_one 5 (op.Truncate 1 3) reply.Done
    ∷ by_one 6 (op.Write 1 (codes "Z") None) reply.Done
    ∷ by_one 7 (op.Truncate 1 5000) reply.Done
    ∷ by_one 8 (op.Truncate 1 4) reply.Done
    ∷ by_one 9 (op.Close 1) reply.Done
    ∷ by_one 10 (op.GetFile the_file) (reply.FileInfo 4 0)
    ∷ by_one 11 (op.Slice 2 0 9) (reply.Read (codes "abcZ"))
    ∷ by_one 12 op.End reply.Done
    ∷ []

abbrev pub a_cut_stream_moves_its_offset_lines : List Text
a_cut_stream_moves_its_offset_lines =
    codes "1.1 getDirectory ok"
    ∷ codes "1.2 getFileHandle ok"
    ∷ codes "1.3 createWritable ok"
    ∷ codes "1.4 write ok"
    ∷ codes "1.5 truncate ok"
    ∷ codes "1.6 write ok"
    ∷ codes "1.7 truncate ok"
    ∷ codes "1.8 truncate ok"
    ∷ codes "1.9 close ok"
    ∷ codes "1.10 getFile ok 4 0"
    ∷ codes "1.11 slice ok 4 6162635a"
    ∷ codes "1.12 end ok"
    ∷ []

abbrev pub ACutStreamMovesItsOffset : Type 0
ACutStreamMovesItsOffset =
    IsExample (try_opening one_agent) a_cut_stream_moves_its_offset_history
    a_cut_stream_moves_its_offset_lines 10 (reply.Read (codes "abc"))

-- A file has a stream's bytes for good once that is closed.
abbrev pub WhatAClosedStreamWroteStays : Type 0
WhatAClosedStreamWroteStays =
    kept_at (try_opening one_agent) a_file_is_written_history (file (codes "note" ∷ [])) ≡ Some (codes "hello", codes "hello")

-- A stream that keeps the bytes writes over them from a position on, and goes on behind what it wrote.
abbrev pub a_kept_stream_writes_over_what_is_there_history : List Entry
a_kept_stream_writes_over_what_is_there_history =
    by_one 1 (op.GetDirectory default_bucket) reply.Done
    ∷ by_one 2 (op.GetFileHandle root (codes "f") true) reply.Done
    ∷ by_one 3 (op.CreateWritable the_file false) reply.Done
    ∷ by_one 4 (op.Write 1 (codes "hello") None) reply.Done
    ∷ by_one 5 (op.Close 1) reply.Done
    ∷ by_one 6 (op.CreateWritable the_file true) reply.Done
    ∷ by_one 7 (op.Write 2 (codes "J") (Some 0)) reply.Done
    ∷ by_one 8 (op.Write 2 (codes "u") None) reply.Done
    ∷ by_one 9 (op.Close 2) reply.Done
    ∷ by_one 10 (op.GetFile the_file) (reply.FileInfo 5 0)
    ∷ by_one 11 (op.Slice 3 0 5) (reply.Read (codes "Jullo"))
    ∷ by_one 12 (op.CreateWritable the_file false) reply.Done
    ∷ by_one 13 (op.Close 4) reply.Done
    ∷ by_one 14 (op.GetFile the_file) (reply.FileInfo 0 0)
    ∷ by_one 15 op.End reply.Done
    ∷ []

abbrev pub a_kept_stream_writes_over_what_is_there_lines : List Text
a_kept_stream_writes_over_what_is_there_lines =
    codes "1.1 getDirectory ok"
    ∷ codes "1.2 getFileHandle ok"
    ∷ codes "1.3 createWritable ok"
    ∷ codes "1.4 write ok"
    ∷ codes "1.5 close ok"
    ∷ codes "1.6 createWritable ok"
    ∷ codes "1.7 write ok"
    ∷ codes "1.8 write ok"
    ∷ codes "1.9 close ok"
    ∷ codes "1.10 getFile ok 5 0"
    ∷ codes "1.11 slice ok 5 4a756c6c6f"
    ∷ codes "1.12 createWritable ok"
    ∷ codes "1.13 close ok"
    ∷ codes "1.14 getFile ok 0 0"
    ∷ codes "1.15 end ok"
    ∷ []

abbrev pub AKeptStreamWritesOverWhatIsThere : Type 0
AKeptStreamWritesOverWhatIsThere =
    IsExample (try_opening one_agent) a_kept_stream_writes_over_what_is_there_history
    a_kept_stream_writes_over_what_is_there_lines 10 (reply.Read (codes "Ju"))
