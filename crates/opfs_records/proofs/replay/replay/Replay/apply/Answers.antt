use Rattle.std.proofs.Common.{subst}
use Rattle.opfs_codec.specs.Spelling.{IsChange}
use Rattle.opfs_records.proofs.replay.replay.Replay.apply.Goals as goal

pub make_root-requires : goal.make_root-requires
unfolding IsChange
make_root-requires c = subst (IsChange c.args.format) c.in-MakeRoot.is c.requires

pub make_dir-requires : goal.make_dir-requires
unfolding IsChange
make_dir-requires c = subst (IsChange c.args.format) c.in-MakeDir.is c.requires

pub make_file-requires : goal.make_file-requires
unfolding IsChange
make_file-requires c = let h = subst (IsChange c.args.format) c.in-MakeFile.is c.requires in (h.0, h.1)

pub content-requires : goal.content-requires
unfolding IsChange
content-requires c = (subst (IsChange c.args.format) c.in-Content.is c.requires).4

pub persist-requires : goal.persist-requires
unfolding IsChange
persist-requires c = subst (IsChange c.args.format) c.in-Persist.is c.requires
