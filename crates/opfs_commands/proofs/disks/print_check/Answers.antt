use Rattle.std.proofs.Common.{◌++◌, List, ℕ, ◌∙◌, ap}
use Rattle.opfs_image.specs.Agreeing.{built_in}
use Rattle.opfs_image.specs.Filling.{filled}
use Rattle.opfs_image.specs.Superblock.{data_base}
use Rattle.opfs_tools.specs.Checking.{check_text}
use Rattle.opfs_image.proofs.Standing.{stands_filled}
use Rattle.opfs_commands.proofs.disks.print_check.Goals as goal

pub returns-clause-text : goal.returns-clause-text
returns-clause-text g c = λ told.
    let image = c.args.image.now in
    let m = filled (data_base image.geometry) (g.D.Disk.content image.journal.disk) (built_in image.tree image.shed) in
    record {
      map = m;
      stands = stands_filled (g.D.Disk.content image.journal.disk) image.geometry (built_in image.tree image.shed) (image.image_of told).reads;
      printed = c.in_ok-check.ensures.checked told ∙ ap (λ (x : List ℕ). x ++ check_text m) c.new-text.ensures.items;
    }
