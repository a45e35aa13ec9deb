use Rattle.std.proofs.Common.{◌≡◌, None, sym, ◌∙◌, true, is_some}
use Rattle.std.specs.Map.{lookup}
use Rattle.opfs_base.specs.Units.{origin_of}
use Rattle.opfs_shed.specs.Buckets.{is_unit}
use Rattle.opfs_shed.specs.Tied.{total_in}
use Rattle.opfs_shed.proofs.Usages.{tied_totals, tied_touched, usage_of-insert, none_from}
use Rattle.opfs_shed.proofs.shed.Shed.touch.Goals as goal

pub invariant_of-self : goal.invariant_of-self
invariant_of-self c = tied_totals _ _ _ c.self.invariant c.add_total.ensures.same c.add_total.ensures.kept

pub invariant_of-self-in_err-key : goal.invariant_of-self-in_err-key
invariant_of-self-in_err-key c = tied_totals _ _ _ c.self.invariant c.in_ok-add_total.ensures.same c.in_ok-add_total.ensures.kept

pub invariant_of-self-in_err-insert : goal.invariant_of-self-in_err-insert
invariant_of-self-in_err-insert c =
    rw c.in_err-insert.ensures.err (tied_totals _ _ _ c.self.invariant c.in_ok-add_total.ensures.same c.in_ok-add_total.ensures.kept)

pub invariant_of-self-2 : goal.invariant_of-self-2
invariant_of-self-2 c =
    let new : lookup (is_unit c.in_ok-key.key) c.self.inside.buckets.entries ≡ None =
    rw c.in_ok-key.ensures (none_from (lookup (is_unit c.args.key.now) c.self.inside.buckets.entries) (sym c.contains_key.ensures ∙ c.if-contains_key.false)) in
    let there : is_some (total_in c.add_total.new.totals.entries (origin_of c.in_ok-key.key)) ≡ true =
    rw (c.in_ok-key.ensures, ← c.as_bytes.ensures, ← c.origin_of.ensures) c.in_ok-add_total.ensures.there in
    rw c.in_ok-insert.ensures.entries
    (tied_touched c.add_total.new.totals.entries c.self.inside.buckets.entries c.in_ok-key.key (tied_totals _ _ _ c.self.invariant c.in_ok-add_total.ensures.same c.in_ok-add_total.ensures.kept) new there
    (λ u. rw (← c.in_ok-insert.ensures.entries) (c.in_ok-insert.ensures.updates.0 u)))

pub returns-clause-usage : goal.returns-clause-usage
returns-clause-usage c = λ origin.
    let new : lookup (is_unit c.in_ok-key.key) c.self.inside.buckets.entries ≡ None =
    rw c.in_ok-key.ensures (none_from (lookup (is_unit c.args.key.now) c.self.inside.buckets.entries) (sym c.contains_key.ensures ∙ c.if-contains_key.false)) in
    rw c.in_ok-insert.ensures.entries (rw (← c.self.view_is) (usage_of-insert c.self.inside.buckets.entries c.in_ok-key.key origin new))
