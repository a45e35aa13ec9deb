use Rattle.std.proofs.Common.{◌≡◌, ℕ, subst}
use Rattle.std.specs.Prelude.{OnOk, IsErrOf}
use Rattle.std.proofs.lemmas.Bool.{lt-ltb, le-ltb}
use Rattle.opfs_journal.specs.Calls.{IsStored, IsStopped}
use Rattle.opfs_journal.specs.Format.{format_of}
use Rattle.opfs_journal.specs.Seen.{one_record}
use Rattle.opfs_journal.specs.declared.refusal.JournalRefusal.TheVariants.{DiskFault}
use Rattle.opfs_journal.proofs.journal.Journal.checkpoint.Goals as goal
use Rattle.opfs_journal.proofs.journal.Journal.checkpoint.Goals.{then-self-lt16, else-self-lt16}

pub returns-clause-stored : goal.returns-clause-stored
returns-clause-stored g c =
    let j = c.self.inside in
    let of_generation : c.if-self-lt16.format ≡ format_of j.generation = elim c.if-self-lt16.branch [
      | then-self-lt16 w ↦ rw (lt-ltb j.generation 16 w.if-self-lt16.true) w.format-is
      | else-self-lt16 w ↦ rw (le-ltb j.generation 16 w.if-self-lt16.false) w.format-is
    ] in
    let same : c.if-self-lt16.format ≡ c.args.self.now.format = rw (← c.self.view_is) of_generation in
    subst (λ (f : ℕ). OnOk c.rule_anew.result (IsStored g.D.Disk (one_record f c.args.bytes.now) c.args.self.now c.rule_anew.new.self)) same c.rule_anew.ensures.stored

pub returns-clause-stopped : goal.returns-clause-stopped
returns-clause-stopped g c =
    let j = c.self.inside in
    let of_generation : c.if-self-lt16.format ≡ format_of j.generation = elim c.if-self-lt16.branch [
      | then-self-lt16 w ↦ rw (lt-ltb j.generation 16 w.if-self-lt16.true) w.format-is
      | else-self-lt16 w ↦ rw (le-ltb j.generation 16 w.if-self-lt16.false) w.format-is
    ] in
    let same : c.if-self-lt16.format ≡ c.args.self.now.format = rw (← c.self.view_is) of_generation in
    subst (λ (f : ℕ). IsErrOf c.rule_anew.result DiskFault → IsStopped g.D.Disk (one_record f c.args.bytes.now) c.args.self.now c.rule_anew.new.self) same c.rule_anew.ensures.stopped
