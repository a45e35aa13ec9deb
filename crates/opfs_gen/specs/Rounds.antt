-- The steps of a round. This project's own.
use Rattle.std.specs.Prelude.{ℕ, zero, suc, ◌==◌, true, false, List, [], ◌∷◌, ◌++◌, codes, decimal, replicate, Some, if◌then◌else◌}
use Rattle.opfs_base.specs.Texts.{Text}
use Rattle.opfs_gen.specs.declared.drawing.Round.{Round}
use Rattle.opfs_gen.specs.Drawing.{round_of, round_after}
use Rattle.opfs_script.specs.declared.step.Step.{Step}
use Rattle.opfs_script.specs.declared.step.Step.TheVariants as step

abbrev pub name_of : Round → Text
name_of r = codes "f" ++ decimal r.file

-- The bytes that it writes.
abbrev pub bytes_of : Round → Text
bytes_of r = replicate r.count r.byte

-- The file is made where it is not there, and a stream writes into what it has.
abbrev pub stream_steps : Round → List Step
stream_steps r =
    step.GetFileHandle (codes "d") (name_of r) true (codes "h")
    ∷ step.CreateWritable (codes "h") true (codes "w")
    ∷ step.Write (codes "w") (bytes_of r) (Some r.position)
    ∷ step.Close (codes "w") ∷ []

-- The same with an access handle.
abbrev pub handle_steps : Round → List Step
handle_steps r =
    step.GetFileHandle (codes "d") (name_of r) true (codes "h")
    ∷ step.CreateSyncAccessHandle (codes "h") false (codes "s")
    ∷ step.SyncWrite (codes "s") (bytes_of r) (Some r.position)
    ∷ step.SyncClose (codes "s") ∷ []

-- Its first bytes are read.
abbrev pub read_steps : Round → List Step
read_steps r =
    step.GetFileHandle (codes "d") (name_of r) false (codes "h")
    ∷ step.GetFile (codes "h") (codes "g")
    ∷ step.Slice (codes "g") 0 64 ∷ []

-- It is removed.
abbrev pub removal_steps : Round → List Step
removal_steps r = step.RemoveEntry (codes "d") (name_of r) false ∷ []

unfoldable pub round_steps : Round → List Step
round_steps r =
    if r.act == 0 then stream_steps r
    else (if r.act == 1 then handle_steps r
    else (if r.act == 2 then read_steps r else removal_steps r))

-- The steps of so many rounds, behind a number.
abbrev pub rounds_steps : ℕ → ℕ → List Step
rounds_steps x zero = []
rounds_steps x (suc rounds) = round_steps (round_of x) ++ rounds_steps (round_after x) rounds

-- The directory comes first.
abbrev pub gen_steps : ℕ → ℕ → List Step
gen_steps x rounds = step.GetDirectory (codes "default") (codes "d") ∷ rounds_steps x rounds
