-- The words of scripts: this project's own.
use Rattle.std.specs.Prelude.{true, false, List, [], ◌∷◌, Option, Some, None, codes, map}
use Rattle.std.specs.Borrow.{Bor}
use Rattle.opfs_base.specs.Texts.{Text, same_text}
use Rattle.opfs_hist.specs.declared.op.Word.{Word}
use Rattle.opfs_hist.specs.declared.op.Word.TheVariants as word

-- The words and how they are written.
abbrev pub written_words : List (Text × Word)
written_words =
    (codes "getDirectory", word.GetDirectory) ∷ (codes "getDirectoryHandle", word.GetDirectoryHandle)
    ∷ (codes "getFileHandle", word.GetFileHandle) ∷ (codes "removeEntry", word.RemoveEntry)
    ∷ (codes "values", word.Values) ∷ (codes "next", word.Next)
    ∷ (codes "resolve", word.Resolve) ∷ (codes "isSameEntry", word.IsSameEntry)
    ∷ (codes "getFile", word.GetFile) ∷ (codes "slice", word.Slice)
    ∷ (codes "createWritable", word.CreateWritable) ∷ (codes "write", word.Write)
    ∷ (codes "seek", word.Seek) ∷ (codes "truncate", word.Truncate)
    ∷ (codes "close", word.Close) ∷ (codes "abort", word.Abort)
    ∷ (codes "createSyncAccessHandle", word.CreateSyncAccessHandle) ∷ (codes "syncRead", word.SyncRead)
    ∷ (codes "syncWrite", word.SyncWrite) ∷ (codes "syncTruncate", word.SyncTruncate)
    ∷ (codes "syncGetSize", word.SyncGetSize) ∷ (codes "syncFlush", word.SyncFlush)
    ∷ (codes "syncClose", word.SyncClose) ∷ (codes "persist", word.Persist)
    ∷ (codes "persisted", word.Persisted) ∷ (codes "estimate", word.Estimate)
    ∷ (codes "moment", word.Moment) ∷ (codes "post", word.Post)
    ∷ (codes "await", word.Await) ∷ []

-- The word that a text is in a list of words.
abbrev pub word_in : List (Text × Word) → Text → Option Word
word_in [] name = None
word_in (w ∷ words) name = elim (same_text name w.0) [ true ↦ Some w.1 | false ↦ word_in words name ]

-- Words that stand behind references.
abbrev pub told : List (Bor Text × Word) → List (Text × Word)
told words = map (λ w. (w.0.now, w.1)) words

-- The word that a text is.
unfoldable pub word_named : Text → Option Word
word_named name = word_in written_words name

-- The names of the members that a step of a word may have.
abbrev pub members_of : Word → List Text
members_of word.GetDirectory = codes "do" ∷ codes "bucket" ∷ codes "as" ∷ []
members_of word.GetDirectoryHandle = codes "do" ∷ codes "dir" ∷ codes "name" ∷ codes "create" ∷ codes "as" ∷ []
members_of word.GetFileHandle = codes "do" ∷ codes "dir" ∷ codes "name" ∷ codes "create" ∷ codes "as" ∷ []
members_of word.RemoveEntry = codes "do" ∷ codes "dir" ∷ codes "name" ∷ codes "recursive" ∷ []
members_of word.Values = codes "do" ∷ codes "dir" ∷ codes "as" ∷ []
members_of word.Next = codes "do" ∷ codes "iterator" ∷ codes "as" ∷ []
members_of word.Resolve = codes "do" ∷ codes "dir" ∷ codes "entry" ∷ []
members_of word.IsSameEntry = codes "do" ∷ codes "entry" ∷ codes "other" ∷ []
members_of word.GetFile = codes "do" ∷ codes "file" ∷ codes "as" ∷ []
members_of word.Slice = codes "do" ∷ codes "snapshot" ∷ codes "at" ∷ codes "len" ∷ []
members_of word.CreateWritable = codes "do" ∷ codes "file" ∷ codes "keepExistingData" ∷ codes "as" ∷ []
members_of word.Write = codes "do" ∷ codes "stream" ∷ codes "data" ∷ codes "position" ∷ []
members_of word.Seek = codes "do" ∷ codes "stream" ∷ codes "position" ∷ []
members_of word.Truncate = codes "do" ∷ codes "stream" ∷ codes "size" ∷ []
members_of word.Close = codes "do" ∷ codes "stream" ∷ []
members_of word.Abort = codes "do" ∷ codes "stream" ∷ []
members_of word.CreateSyncAccessHandle = codes "do" ∷ codes "file" ∷ codes "mode" ∷ codes "as" ∷ []
members_of word.SyncRead = codes "do" ∷ codes "sync" ∷ codes "len" ∷ codes "at" ∷ []
members_of word.SyncWrite = codes "do" ∷ codes "sync" ∷ codes "data" ∷ codes "at" ∷ []
members_of word.SyncTruncate = codes "do" ∷ codes "sync" ∷ codes "size" ∷ []
members_of word.SyncGetSize = codes "do" ∷ codes "sync" ∷ []
members_of word.SyncFlush = codes "do" ∷ codes "sync" ∷ []
members_of word.SyncClose = codes "do" ∷ codes "sync" ∷ []
members_of word.Persist = codes "do" ∷ codes "bucket" ∷ []
members_of word.Persisted = codes "do" ∷ codes "bucket" ∷ []
members_of word.Estimate = codes "do" ∷ []
members_of word.Moment = codes "do" ∷ codes "ms" ∷ []
members_of word.Post = codes "do" ∷ codes "tag" ∷ []
members_of word.Await = codes "do" ∷ codes "tag" ∷ []
