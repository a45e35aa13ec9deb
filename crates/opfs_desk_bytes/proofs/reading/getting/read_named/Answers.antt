use Rattle.std.proofs.Common.{◌≡◌, Some, sym, ap, subst, ◌∙◌}
use Rattle.opfs_base.specs.Places.{Place, place_of}
use Rattle.opfs_desk_bytes.specs.Reading.Files.{MayReadFile}
use Rattle.opfs_desk_bytes.specs.Reading.Words.{file_read}
use Rattle.opfs_tree.specs.Rows.{file_at as file_in_tree}
use Rattle.opfs_desk_bytes.proofs.reading.getting.read_named.Goals as goal

pub read_file-requires-clause-may : goal.read_file-requires-clause-may
read_file-requires-clause-may g c =
    let found = c.in-Some.found.now in
    let tree = c.args.state.now.store.tree in
    let at = ap file_read c.in-GetFile.is in
    let there : file_in_tree (place_of c.in-GetFile.file) tree ≡ Some found = sym c.in-Some.ensures in
    subst (λ (q : Place). MayReadFile c.args.state.now.store.machine q found c.args.swap.now c.args.base (g.D.Disk.size c.args.journal.now.disk)) at
    (c.requires.may found (ap (λ (q : Place). file_in_tree q tree) at ∙ there))
