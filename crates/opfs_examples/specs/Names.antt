-- Examples of names and paths.
use Rattle.std.specs.Prelude.{List, [], ◌∷◌, codes, replicate, true, false}
use Rattle.opfs_base.specs.Texts.{Text}
use Rattle.opfs_base.specs.Units.{default_bucket}
use Rattle.opfs_hist.specs.declared.entry.Entry.{Entry}
use Rattle.opfs_hist.specs.declared.op.Op.TheVariants as op
use Rattle.opfs_hist.specs.declared.reply.Refusal.TheVariants as refusal
use Rattle.opfs_hist.specs.declared.reply.Reply.TheVariants as reply
use Rattle.opfs_examples.specs.Trying.{IsExample, try_opening, one_agent, directory, root, by_one, refused}

-- A valid file name is not empty, not a dot or two, and holds no slash; a backslash may stand in it.
abbrev pub names_are_checked_history : List Entry
names_are_checked_history =
    by_one 1 (op.GetDirectory default_bucket) reply.Done
    ∷ by_one 2 (op.GetFileHandle root [] true) (refused refusal.TypeError)
    ∷ by_one 3 (op.GetFileHandle root (codes ".") true) (refused refusal.TypeError)
    ∷ by_one 4 (op.GetFileHandle root (codes "..") true) (refused refusal.TypeError)
    ∷ by_one 5 (op.GetFileHandle root (codes "a/b") true) (refused refusal.TypeError)
    ∷ by_one 6 (op.GetFileHandle root (codes "a\\b") true) reply.Done
    ∷ by_one 7 op.End reply.Done
    ∷ []

abbrev pub names_are_checked_lines : List Text
names_are_checked_lines =
    codes "1.1 getDirectory ok"
    ∷ codes "1.2 getFileHandle TypeError"
    ∷ codes "1.3 getFileHandle TypeError"
    ∷ codes "1.4 getFileHandle TypeError"
    ∷ codes "1.5 getFileHandle TypeError"
    ∷ codes "1.6 getFileHandle ok"
    ∷ codes "1.7 end ok"
    ∷ []

abbrev pub NamesAreChecked : Type 0
NamesAreChecked = IsExample (try_opening one_agent) names_are_checked_history names_are_checked_lines 4 reply.Done

-- A name of 256 bytes is not made, and of a chain of directories the 32nd is made and the 33rd is not.
abbrev pub names_and_paths_have_limits_history : List Entry
names_and_paths_have_limits_history =
    by_one 1 (op.GetDirectory default_bucket) reply.Done
    ∷ by_one 2 (op.GetFileHandle root (replicate 256 97) true) (refused refusal.NameLimit)
    ∷ by_one 3 (op.GetFileHandle root (replicate 256 97) false) (refused refusal.NotFoundError)
    ∷ by_one 4 (op.GetDirectoryHandle root (codes "a") true) reply.Done
    ∷ by_one 5 (op.GetDirectoryHandle (directory (codes "a" ∷ [])) (codes "a") true) reply.Done
    ∷ by_one 6 (op.GetDirectoryHandle (directory (codes "a" ∷ codes "a" ∷ [])) (codes "a") true) reply.Done
    ∷ by_one 7 (op.GetDirectoryHandle (directory (replicate 3 (codes "a"))) (codes "a") true) reply.Done
    ∷ by_one 8 (op.GetDirectoryHandle (directory (replicate 4 (codes "a"))) (codes "a") true) reply.Done
    ∷ by_one 9 (op.GetDirectoryHandle (directory (replicate 5 (codes "a"))) (codes "a") true) reply.Done
    ∷ by_one 10 (op.GetDirectoryHandle (directory (replicate 6 (codes "a"))) (codes "a") true) reply.Done
    ∷ by_one 11 (op.GetDirectoryHandle (directory (replicate 7 (codes "a"))) (codes "a") true) reply.Done
    ∷ by_one 12 (op.GetDirectoryHandle (directory (replicate 8 (codes "a"))) (codes "a") true) reply.Done
    ∷ by_one 13 (op.GetDirectoryHandle (directory (replicate 9 (codes "a"))) (codes "a") true) reply.Done
    ∷ by_one 14 (op.GetDirectoryHandle (directory (replicate 10 (codes "a"))) (codes "a") true) reply.Done
    ∷ by_one 15 (op.GetDirectoryHandle (directory (replicate 11 (codes "a"))) (codes "a") true) reply.Done
    ∷ by_one 16 (op.GetDirectoryHandle (directory (replicate 12 (codes "a"))) (codes "a") true) reply.Done
    ∷ by_one 17 (op.GetDirectoryHandle (directory (replicate 13 (codes "a"))) (codes "a") true) reply.Done
    ∷ by_one 18 (op.GetDirectoryHandle (directory (replicate 14 (codes "a"))) (codes "a") true) reply.Done
    ∷ by_one 19 (op.GetDirectoryHandle (directory (replicate 15 (codes "a"))) (codes "a") true) reply.Done
    ∷ by_one 20 (op.GetDirectoryHandle (directory (replicate 16 (codes "a"))) (codes "a") true) reply.Done
    ∷ by_one 21 (op.GetDirectoryHandle (directory (replicate 17 (codes "a"))) (codes "a") true) reply.Done
    ∷ by_one 22 (op.GetDirectoryHandle (directory (replicate 18 (codes "a"))) (codes "a") true) reply.Done
    ∷ by_one 23 (op.GetDirectoryHandle (directory (replicate 19 (codes "a"))) (codes "a") true) reply.Done
    ∷ by_one 24 (op.GetDirectoryHandle (directory (replicate 20 (codes "a"))) (codes "a") true) reply.Done
    ∷ by_one 25 (op.GetDirectoryHandle (directory (replicate 21 (codes "a"))) (codes "a") true) reply.Done
    ∷ by_one 26 (op.GetDirectoryHandle (directory (replicate 22 (codes "a"))) (codes "a") true) reply.Done
    ∷ by_one 27 (op.GetDirectoryHandle (directory (replicate 23 (codes "a"))) (codes "a") true) reply.Done
    ∷ by_one 28 (op.GetDirectoryHandle (directory (replicate 24 (codes "a"))) (codes "a") true) reply.Done
    ∷ by_one 29 (op.GetDirectoryHandle (directory (replicate 25 (codes "a"))) (codes "a") true) reply.Done
    ∷ by_one 30 (op.GetDirectoryHandle (directory (replicate 26 (codes "a"))) (codes "a") true) reply.Done
    ∷ by_one 31 (op.GetDirectoryHandle (directory (replicate 27 (codes "a"))) (codes "a") true) reply.Done
    ∷ by_one 32 (op.GetDirectoryHandle (directory (replicate 28 (codes "a"))) (codes "a") true) reply.Done
    ∷ by_one 33 (op.GetDirectoryHandle (directory (replicate 29 (codes "a"))) (codes "a") true) reply.Done
    ∷ by_one 34 (op.GetDirectoryHandle (directory (replicate 30 (codes "a"))) (codes "a") true) reply.Done
    ∷ by_one 35 (op.GetDirectoryHandle (directory (replicate 31 (codes "a"))) (codes "a") true) reply.Done
    ∷ by_one 36 (op.GetDirectoryHandle (directory (replicate 32 (codes "a"))) (codes "a") true) (refused refusal.NameLimit)
    ∷ by_one 37 op.End reply.Done
    ∷ []

abbrev pub names_and_paths_have_limits_lines : List Text
names_and_paths_have_limits_lines =
    codes "1.1 getDirectory ok"
    ∷ codes "1.2 getFileHandle NameLimit"
    ∷ codes "1.3 getFileHandle NotFoundError"
    ∷ codes "1.4 getDirectoryHandle ok"
    ∷ codes "1.5 getDirectoryHandle ok"
    ∷ codes "1.6 getDirectoryHandle ok"
    ∷ codes "1.7 getDirectoryHandle ok"
    ∷ codes "1.8 getDirectoryHandle ok"
    ∷ codes "1.9 getDirectoryHandle ok"
    ∷ codes "1.10 getDirectoryHandle ok"
    ∷ codes "1.11 getDirectoryHandle ok"
    ∷ codes "1.12 getDirectoryHandle ok"
    ∷ codes "1.13 getDirectoryHandle ok"
    ∷ codes "1.14 getDirectoryHandle ok"
    ∷ codes "1.15 getDirectoryHandle ok"
    ∷ codes "1.16 getDirectoryHandle ok"
    ∷ codes "1.17 getDirectoryHandle ok"
    ∷ codes "1.18 getDirectoryHandle ok"
    ∷ codes "1.19 getDirectoryHandle ok"
    ∷ codes "1.20 getDirectoryHandle ok"
    ∷ codes "1.21 getDirectoryHandle ok"
    ∷ codes "1.22 getDirectoryHandle ok"
    ∷ codes "1.23 getDirectoryHandle ok"
    ∷ codes "1.24 getDirectoryHandle ok"
    ∷ codes "1.25 getDirectoryHandle ok"
    ∷ codes "1.26 getDirectoryHandle ok"
    ∷ codes "1.27 getDirectoryHandle ok"
    ∷ codes "1.28 getDirectoryHandle ok"
    ∷ codes "1.29 getDirectoryHandle ok"
    ∷ codes "1.30 getDirectoryHandle ok"
    ∷ codes "1.31 getDirectoryHandle ok"
    ∷ codes "1.32 getDirectoryHandle ok"
    ∷ codes "1.33 getDirectoryHandle ok"
    ∷ codes "1.34 getDirectoryHandle ok"
    ∷ codes "1.35 getDirectoryHandle ok"
    ∷ codes "1.36 getDirectoryHandle NameLimit"
    ∷ codes "1.37 end ok"
    ∷ []

abbrev pub NamesAndPathsHaveLimits : Type 0
NamesAndPathsHaveLimits =
    IsExample (try_opening one_agent) names_and_paths_have_limits_history
    names_and_paths_have_limits_lines 35 reply.Done
