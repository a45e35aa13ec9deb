use Rattle.std.proofs.Common.{◌∙◌, ap}
use Rattle.std.specs.BTreeMap.{is_at}
use Rattle.opfs_register.specs.LastUses.{text_cmp, used_in, is_known}
use Rattle.opfs_register.proofs.Entries.{there-set}
use Rattle.opfs_register.proofs.Used.{put-used}
use Rattle.opfs_register.proofs.uses.Uses.set.Goals as goal

pub returns-clause-used : goal.returns-clause-used
returns-clause-used c =
    rw (← c.self.view_is)
    (ap used_in c.set_number.ensures.set ∙ put-used c.args.origin.now c.args.number c.self.inside.items.entries c.requires.some c.set_number.ensures.ordered (rw (← c.self.view_is) at c.requires.known))

pub returns-clause-known : goal.returns-clause-known
returns-clause-known c = λ other.
    rw (← c.self.view_is)
    (ap (λ counts. is_known counts other) c.set_number.ensures.set ∙ there-set (is_at (text_cmp c.args.origin.now)) (is_at (text_cmp other)) c.self.inside.items.entries c.args.number)
