-- What is kept of a file's content and of an own row. The machine is written once over such words: with bytes it is
-- the Standards' machine, with lengths alone it is what the shared store knows of it. This project's own.
use Rattle.std.specs.Prelude.{ℕ, ◌+◌, min, max, List, [], ◌∷◌, ◌++◌, length, not, Option, Some, None, find}
use Rattle.std.specs.List.{list_any}
use Rattle.opfs_base.specs.Texts.{Text, same_text}
use Rattle.opfs_base.specs.Places.{Place}
use Rattle.opfs_base.specs.declared.locator.Locator.{Locator}
use Rattle.opfs_hist.specs.declared.op.Mode.{Mode}
use Rattle.opfs_machine.specs.declared.own.Own.{Own}
use Rattle.opfs_machine.specs.declared.own.Own.TheVariants as own
use Rattle.opfs_machine.specs.declared.own.Outline.{Outline}
use Rattle.opfs_machine.specs.declared.own.Outline.TheVariants as outline
use Rattle.opfs_splice.specs.Splicing.{splice, resize}

pub record Contents (F R : Type 0) : Type 0 where
  -- a new file's content
  pub empty : F
  -- a content's length in bytes
  pub size : F → ℕ
  -- the content with bytes written at a position
  pub overwritten : F → ℕ → Text → F
  -- the content cut or extended to a size
  pub cut : F → ℕ → F
  -- what the shared store knows of an own row
  pub outline : R → Outline
  -- an open stream on a file, with a buffer and a reserve
  pub stream : Place → F → ℕ → R
  -- a stream with bytes written at a position, and this reserve
  pub written : R → ℕ → Text → ℕ → R
  -- a stream cut or extended to a size, and this reserve
  pub truncated : R → ℕ → ℕ → R
  -- a stream with this offset
  pub sought : R → ℕ → R
  -- the content that a stream stores, whose length is told
  pub stored : R → ℕ → F
  pub closed_stream : R
  -- an open access handle on a file
  pub handle : Place → Mode → R
  -- an access handle with this cursor and reserve
  pub moved : R → ℕ → ℕ → R
  pub closed_handle : R
  -- a snapshot of a content
  pub snapshot : F → R
  -- an iterator over a directory
  pub iterator : Locator → R
  -- an iterator that has given the next of these children
  pub advanced : R → List Text → R

-- The least of the names, in their order, that was not given.
abbrev pub next_of : List Text → List Text → Option Text
next_of given names = find (λ name. not (list_any (same_text name) given)) names

abbrev pub and_given : List Text → Option Text → List Text
and_given given None = given
and_given given (Some name) = given ++ name ∷ []

abbrev pub outline_of : Own → Outline
outline_of (own.Stream w) = outline.Stream (record { file = w.file; reserve = w.reserve })
outline_of own.ClosedStream = outline.ClosedStream
outline_of (own.Handle h) = outline.Handle (record { file = h.file; mode = h.mode; reserve = h.reserve })
outline_of own.ClosedHandle = outline.ClosedHandle
outline_of (own.Snapshot b) = outline.Snapshot
outline_of (own.Iterator i) = outline.Iterator

abbrev pub written_row : Own → ℕ → Text → ℕ → Own
written_row (own.Stream w) position new reserve =
    own.Stream (record w { buffer = splice w.buffer position new; offset = position + length new; reserve = reserve })
written_row r position new reserve = r

abbrev pub truncated_row : Own → ℕ → ℕ → Own
truncated_row (own.Stream w) size reserve =
    own.Stream (record w { buffer = resize w.buffer size; offset = min w.offset size; reserve = reserve })
truncated_row r size reserve = r

abbrev pub sought_row : Own → ℕ → Own
sought_row (own.Stream w) offset = own.Stream (record w { offset = offset })
sought_row r offset = r

abbrev pub buffer_of : Own → Text
buffer_of (own.Stream w) = w.buffer
buffer_of r = []

abbrev pub moved_row : Own → ℕ → ℕ → Own
moved_row (own.Handle h) cursor reserve = own.Handle (record h { cursor = cursor; reserve = reserve })
moved_row r cursor reserve = r

abbrev pub advanced_row : Own → List Text → Own
advanced_row (own.Iterator i) names = own.Iterator (record i { given = and_given i.given (next_of i.given names) })
advanced_row r names = r

-- The Standards' machine: files and buffers hold bytes.
abbrev pub in_bytes : Contents Text Own
in_bytes = record {
  empty = [];
  size = length;
  overwritten = splice;
  cut = resize;
  outline = outline_of;
  stream = λ file buffer reserve. own.Stream (record { file = file; buffer = buffer; offset = 0; reserve = reserve });
  written = written_row;
  truncated = truncated_row;
  sought = sought_row;
  stored = λ r size. buffer_of r;
  closed_stream = own.ClosedStream;
  handle = λ file mode. own.Handle (record { file = file; mode = mode; cursor = 0; reserve = 0 });
  moved = moved_row;
  closed_handle = own.ClosedHandle;
  snapshot = own.Snapshot;
  iterator = λ dir. own.Iterator (record { dir = dir; given = [] });
  advanced = advanced_row;
}

-- An open stream with this reserve; any other row as it is.
abbrev pub stream_with : Outline → ℕ → Outline
stream_with (outline.Stream w) reserve = outline.Stream (record w { reserve = reserve })
stream_with r reserve = r

-- An open access handle with this reserve; any other row as it is.
abbrev pub handle_with : Outline → ℕ → Outline
handle_with (outline.Handle h) reserve = outline.Handle (record h { reserve = reserve })
handle_with r reserve = r

-- What the shared store knows: lengths, and own rows without buffers, offsets and cursors.
abbrev pub in_lengths : Contents ℕ Outline
in_lengths = record {
  empty = 0;
  size = λ n. n;
  overwritten = λ n position new. max n (position + length new);
  cut = λ n size. size;
  outline = λ r. r;
  stream = λ file n reserve. outline.Stream (record { file = file; reserve = reserve });
  written = λ r position new reserve. stream_with r reserve;
  truncated = λ r size reserve. stream_with r reserve;
  sought = λ r offset. r;
  stored = λ r size. size;
  closed_stream = outline.ClosedStream;
  handle = λ file mode. outline.Handle (record { file = file; mode = mode; reserve = 0 });
  moved = λ r cursor reserve. handle_with r reserve;
  closed_handle = outline.ClosedHandle;
  snapshot = λ n. outline.Snapshot;
  iterator = λ dir. outline.Iterator;
  advanced = λ r names. r;
}
