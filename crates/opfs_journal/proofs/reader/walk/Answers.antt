use Rattle.std.proofs.Common.{◌+◌, sym, ◌∙◌, ap, arith}
use Rattle.opfs_journal.specs.Format.{is_open, number_at}
use Rattle.opfs_journal.proofs.Walks.{only_more, leads_more}
use Rattle.opfs_journal.proofs.reader.walk.Goals as goal

pub gates-preserved : goal.gates-preserved
gates-preserved g c =
    let laws = g.met.D.Disk in
    let at = c.gates.invariant in
    let open_is = rw c.in-Some.is at c.in_ok-len.ensures.open in
    let size_is = rw c.in-Some.is at c.in_ok-len.ensures.length in
    record {
      above = omega (arith, at.above);
      inside = omega (arith, c.if-stop-gate.false, at.inside);
      lies = omega (arith, at.lies, c.read_gate.ensures.only.length);
      only = only_more g.D.Disk laws.falls c.args.disk.now c.gates.disk c.read_gate.new.disk at.only c.read_gate.ensures.only;
      leads = λ told.
          let same = (at.only.told told).same in
          let is_opened = ap (λ c'. is_open c' c.gates.gate) (sym same) ∙ open_is told in
          let size = size_is told (omega (arith, c.if-stop-gate.false, at.inside)) ∙ ap (λ c'. number_at c' (c.gates.gate + 1)) same in
          leads_more (g.D.Disk.content c.args.disk.now) c.args.from c.gates.gate c.in-Some.len (at.leads told) is_opened size;
    }
