use Rattle.std.proofs.Common.{sym, ◌∙◌}
use Rattle.std.proofs.lemmas.Bool.{false≢true}
use Rattle.opfs_codec.specs.Fields.{plain}
use Rattle.opfs_codec.proofs.WritingLemmas.{change_fits}
use Rattle.opfs_records.proofs.checkpoint.OneMore.{few_made}
use Rattle.opfs_records.proofs.checkpoint.after.write_made.Goals as goal

pub write-requires : goal.write-requires
write-requires c = change_fits (plain c.args.own.now) c.requires

pub returns-in_err-write-clause-room : goal.returns-in_err-write-clause-room
returns-in_err-write-clause-room c =
    let shown = sym c.is_shown.ensures ∙ c.if-is_shown.false in
    rw shown (λ le. absurd (false≢true (c.in_err-write.ensures.room le (few_made c.args.shed.now.buckets (plain c.args.own.now) shown))))
