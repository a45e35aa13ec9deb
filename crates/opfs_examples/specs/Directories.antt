-- Examples of directories.
use Rattle.std.specs.Prelude.{List, [], ◌∷◌, codes, true, false}
use Rattle.opfs_base.specs.Texts.{Text}
use Rattle.opfs_base.specs.Units.{default_bucket}
use Rattle.opfs_base.specs.declared.locator.Kind.TheVariants as kind
use Rattle.opfs_hist.specs.declared.entry.Entry.{Entry}
use Rattle.opfs_hist.specs.declared.op.Op.TheVariants as op
use Rattle.opfs_hist.specs.declared.op.Word.TheVariants as word
use Rattle.opfs_hist.specs.declared.reply.Refusal.TheVariants as refusal
use Rattle.opfs_hist.specs.declared.reply.Reply.TheVariants as reply
use Rattle.opfs_examples.specs.Trying.{IsExample, try_opening, one_agent, directory, file, root, by_one, refused}

-- A directory stands where a file is wanted, and the variable of a refused call names nothing.
abbrev pub a_directory_is_no_file_history : List Entry
a_directory_is_no_file_history =
    by_one 1 (op.GetDirectory default_bucket) reply.Done
    ∷ by_one 2 (op.GetDirectoryHandle root (codes "x") true) reply.Done
    ∷ by_one 3 (op.GetFileHandle root (codes "x") false) (refused refusal.TypeMismatchError)
    ∷ by_one 4 (op.GetFileHandle root (codes "x") true) (refused refusal.TypeMismatchError)
    ∷ by_one 5 (op.Unbound word.GetFile) (refused refusal.Unbound)
    ∷ by_one 6 op.End reply.Done
    ∷ []

abbrev pub a_directory_is_no_file_lines : List Text
a_directory_is_no_file_lines =
    codes "1.1 getDirectory ok"
    ∷ codes "1.2 getDirectoryHandle ok"
    ∷ codes "1.3 getFileHandle TypeMismatchError"
    ∷ codes "1.4 getFileHandle TypeMismatchError"
    ∷ codes "1.5 getFile Unbound"
    ∷ codes "1.6 end ok"
    ∷ []

abbrev pub ADirectoryIsNoFile : Type 0
ADirectoryIsNoFile =
    IsExample (try_opening one_agent) a_directory_is_no_file_history
    a_directory_is_no_file_lines 2 (refused refusal.NotFoundError)

-- A path is resolved, and a directory that holds something is removed with all below it, or not at all.
abbrev pub a_directory_goes_with_all_below_history : List Entry
a_directory_goes_with_all_below_history =
    by_one 1 (op.GetDirectory default_bucket) reply.Done
    ∷ by_one 2 (op.GetDirectoryHandle root (codes "p") true) reply.Done
    ∷ by_one 3 (op.GetFileHandle (directory (codes "p" ∷ [])) (codes "q") true) reply.Done
    ∷ by_one 4 (op.Resolve root (file (codes "p" ∷ codes "q" ∷ []))) (reply.Names (codes "p" ∷ codes "q" ∷ []))
    ∷ by_one 5 (op.Resolve root root) (reply.Names [])
    ∷ by_one 6 (op.Resolve (directory (codes "p" ∷ [])) root) reply.NoPath
    ∷ by_one 7 (op.IsSameEntry (file (codes "p" ∷ codes "q" ∷ [])) (file (codes "p" ∷ codes "q" ∷ []))) (reply.Flag true)
    ∷ by_one 8 (op.RemoveEntry root (codes "p") false) (refused refusal.InvalidModificationError)
    ∷ by_one 9 (op.RemoveEntry root (codes "p") true) reply.Done
    ∷ by_one 10 (op.RemoveEntry root (codes "p") true) (refused refusal.NotFoundError)
    ∷ by_one 11 op.End reply.Done
    ∷ []

abbrev pub a_directory_goes_with_all_below_lines : List Text
a_directory_goes_with_all_below_lines =
    codes "1.1 getDirectory ok"
    ∷ codes "1.2 getDirectoryHandle ok"
    ∷ codes "1.3 getFileHandle ok"
    ∷ codes "1.4 resolve ok [\"p\",\"q\"]"
    ∷ codes "1.5 resolve ok []"
    ∷ codes "1.6 resolve ok null"
    ∷ codes "1.7 isSameEntry ok true"
    ∷ codes "1.8 removeEntry InvalidModificationError"
    ∷ codes "1.9 removeEntry ok"
    ∷ codes "1.10 removeEntry NotFoundError"
    ∷ codes "1.11 end ok"
    ∷ []

abbrev pub ADirectoryGoesWithAllBelow : Type 0
ADirectoryGoesWithAllBelow =
    IsExample (try_opening one_agent) a_directory_goes_with_all_below_history
    a_directory_goes_with_all_below_lines 7 reply.Done

-- An iterator gives each name once, also one that was made below the last one that it gave.
abbrev pub an_iterator_gives_what_is_made_later_history : List Entry
an_iterator_gives_what_is_made_later_history =
    by_one 1 (op.GetDirectory default_bucket) reply.Done
    ∷ by_one 2 (op.GetFileHandle root (codes "b") true) reply.Done
    ∷ by_one 3 (op.Values root) reply.Done
    ∷ by_one 4 (op.Next 1 root) (reply.Child kind.File (codes "b"))
    ∷ by_one 5 (op.GetFileHandle root (codes "a") true) reply.Done
    ∷ by_one 6 (op.Next 1 root) (reply.Child kind.File (codes "a"))
    ∷ by_one 7 (op.Next 1 root) reply.Last
    ∷ by_one 8 op.End reply.Done
    ∷ []

abbrev pub an_iterator_gives_what_is_made_later_lines : List Text
an_iterator_gives_what_is_made_later_lines =
    codes "1.1 getDirectory ok"
    ∷ codes "1.2 getFileHandle ok"
    ∷ codes "1.3 values ok"
    ∷ codes "1.4 next ok file \"b\""
    ∷ codes "1.5 getFileHandle ok"
    ∷ codes "1.6 next ok file \"a\""
    ∷ codes "1.7 next ok end"
    ∷ codes "1.8 end ok"
    ∷ []

abbrev pub AnIteratorGivesWhatIsMadeLater : Type 0
AnIteratorGivesWhatIsMadeLater =
    IsExample (try_opening one_agent) an_iterator_gives_what_is_made_later_history
    an_iterator_gives_what_is_made_later_lines 5 reply.Last
