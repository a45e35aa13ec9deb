use Rattle.std.proofs.Common.{ℕ, ◌≡◌, ◌≤◌, ◌++◌, List, ap, ◌∙◌, arith}
use Rattle.opfs_image.specs.Superblock.{data_base, image_size}
use Rattle.opfs_tools.proofs.Filled.{rows_lie, whole_text}
use Rattle.opfs_tools.proofs.Keeping.{journal_kept, image_kept}
use Rattle.opfs_tools.proofs.checking.check.Goals as goal

pub check_text-requires-clause-lies : goal.check_text-requires-clause-lies
check_text-requires-clause-lies g c =
    let from = c.args.from.now in
    let fits : image_size from.geometry ≤ g.D.Disk.size from.journal.disk = from.journal_of.length in
    let base : c.data_base-base.result ≡ data_base from.geometry = c.data_base-base.ensures.same in
    rows_lie c.data_base-base.result from.geometry.blocks (g.D.Disk.size from.journal.disk) from.tree (omega (arith, fits, base)) from.agrees.parts.sound.files

pub invariant_of-from : goal.invariant_of-from
invariant_of-from g c =
    let laws = g.met.D.Disk in
    let from = c.args.from.now in
    record {
      agrees = from.agrees;
      journal_of = journal_kept g.D.Disk from.geometry from.journal c.check_text.new.journal c.check_text.ensures.reads from.journal_of;
      image_of = λ told. image_kept g.D.Disk laws.falls from.geometry _ from.journal c.check_text.new.journal told c.check_text.ensures.reads (from.image_of told);
    }

pub returns-clause-checked : goal.returns-clause-checked
returns-clause-checked g c = λ told.
    let from = c.args.from.now in
    c.in_ok-extend_from_slice.ensures.items
    ∙ ap (λ (x : List ℕ). c.args.into.now.items ++ x) (c.as_slice.ensures.value ∙ (c.in_ok-text.ensures.text told
    ∙ whole_text from.geometry.blocks (g.D.Disk.content from.journal.disk) c.data_base-base.result (data_base from.geometry) from.tree from.shed c.data_base-base.ensures.same from.agrees.parts.sound.files))
