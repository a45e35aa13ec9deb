use Rattle.std.proofs.Common.{◌≡◌, None, sym, ◌∙◌}
use Rattle.std.specs.Map.{lookup}
use Rattle.opfs_register.specs.Told.{is_tag}
use Rattle.opfs_register.proofs.Entries.{none-from}
use Rattle.opfs_register.proofs.Tagged.{told-prepared, has-prepared}
use Rattle.opfs_register.proofs.tag_set.TagSet.prepare.Goals as goal

pub returns-clause-kept : goal.returns-clause-kept
returns-clause-kept c = λ other there.
    let es = c.self.inside.items.entries in
    let none : lookup (is_tag c.in_ok-bytes.bytes.items) es ≡ None = rw c.in_ok-bytes.ensures.items (none-from (lookup (is_tag c.args.tag.now) es) (sym c.contains_key.ensures ∙ c.if-contains_key.false)) in
    rw c.in_ok-insert.ensures.entries (has-prepared es c.in_ok-bytes.bytes none other (rw (← c.self.view_is) at there))

pub returns-clause-told : goal.returns-clause-told
returns-clause-told c = λ other.
    let es = c.self.inside.items.entries in
    let none : lookup (is_tag c.in_ok-bytes.bytes.items) es ≡ None = rw c.in_ok-bytes.ensures.items (none-from (lookup (is_tag c.args.tag.now) es) (sym c.contains_key.ensures ∙ c.if-contains_key.false)) in
    rw (← c.self.view_is) (rw c.in_ok-insert.ensures.entries (told-prepared es c.in_ok-bytes.bytes none other))
