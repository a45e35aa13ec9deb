use Rattle.std.proofs.Common.{refl, sym, subst, arith}
use Rattle.opfs_records.specs.Checkpoint.Written.{AreWritable}
use Rattle.opfs_books.proofs.openings.Begun.{stored-same}
use Rattle.opfs_books.proofs.openings.Opened.{same, modes, whole, begins, in-range}
use Rattle.opfs_books.proofs.openings.opening.a_recovered_image_opens_a_run.Goals as goal

-- src/opening.rt:42:1
pub returns-clause-opened : goal.returns-clause-opened
returns-clause-opened g c agents =
    let from = c.args.from.now in
    let shed = from.shed in
    let content = g.D.Disk.content from.journal.disk in
    let sorted = c.know_order-2.ensures in
    record {
      whole = whole from.geometry content from.tree shed from.map from.charge agents from.agrees c.know_order.ensures.order c.know_order.ensures.closed sorted;
      limits = refl;
      machine = same from.geometry content from.tree shed from.map from.charge agents from.agrees c.know_order.ensures.order c.know_order.ensures.closed sorted;
      rows = λ i. record { rows = stored-same from.geometry.blocks from.tree from.agrees.parts.sound.files i; persistent = sym (modes from.geometry content from.tree shed from.map from.charge agents from.agrees c.know_order.ensures.order c.know_order.ensures.closed sorted) i };
      begun = refl;
      journal = from.journal_of;
      image = from.image_of;
      stored = refl;
      sound = from.agrees.parts.sound;
      fits = omega (arith, from.agrees.fits, from.agrees.parts.charge_is);
      writable = subst (λ us. AreWritable from.tree us) (modes from.geometry content from.tree shed from.map from.charge agents from.agrees c.know_order.ensures.order c.know_order.ensures.closed sorted) from.agrees.parts.writable;
      range = in-range from.geometry from.agrees.range;
      asked = refl;
    }

-- src/opening.rt:42:1
pub returns-clause-begun : goal.returns-clause-begun
returns-clause-begun g c agents =
    let from = c.args.from.now in
    begins from.geometry (g.D.Disk.content from.journal.disk) from.tree from.shed from.map from.charge agents from.agrees c.know_order.ensures.order c.know_order.ensures.closed c.know_order-2.ensures
