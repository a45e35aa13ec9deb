use Rattle.std.proofs.Common.{◌++◌, List, ℕ, ◌∙◌, ap}
use Rattle.opfs_image.specs.Agreeing.{built_in}
use Rattle.opfs_image.specs.Filling.{filled}
use Rattle.opfs_image.specs.Superblock.{data_base}
use Rattle.opfs_tools.specs.Listing.{list_text}
use Rattle.opfs_image.proofs.Standing.{stands_filled}
use Rattle.opfs_commands.proofs.disks.print_list.Goals as goal

pub returns : goal.returns
returns g c = record {
  text = λ told.
      let image = c.args.image.now in
      let m = filled (data_base image.geometry) (g.D.Disk.content image.journal.disk) (built_in image.tree image.shed) in
      record {
        map = m;
        stands = stands_filled (g.D.Disk.content image.journal.disk) image.geometry (built_in image.tree image.shed) (image.image_of told).reads;
        printed = c.in_ok-list.ensures.listed told ∙ ap (λ (x : List ℕ). x ++ list_text m) c.new-text.ensures.items;
      };
}
