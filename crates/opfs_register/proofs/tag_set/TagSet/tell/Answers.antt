use Rattle.std.proofs.Common.{true, ap, ◌∙◌}
use Rattle.opfs_register.specs.Told.{is_tag, has_tag, told_in}
use Rattle.opfs_register.proofs.Entries.{there-set}
use Rattle.opfs_register.proofs.Tagged.{told-told}
use Rattle.opfs_register.proofs.tag_set.TagSet.tell.Goals as goal

pub returns-clause-kept : goal.returns-clause-kept
returns-clause-kept c = λ other.
    rw (← c.self.view_is) (ap (λ es. has_tag es other) c.set_told.ensures ∙ there-set (is_tag c.args.tag.now) (is_tag other) c.self.inside.items.entries true)

pub returns-clause-told : goal.returns-clause-told
returns-clause-told c = λ other.
    rw (← c.self.view_is) (ap (λ es. told_in es other) c.set_told.ensures ∙ told-told c.self.inside.items.entries c.args.tag.now (rw (← c.self.view_is) at c.requires) other)
