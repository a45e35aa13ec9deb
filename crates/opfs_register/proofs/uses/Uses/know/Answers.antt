use Rattle.std.proofs.Common.{◌≡◌, None, ap, sym, ◌∙◌}
use Rattle.std.specs.BTreeMap.{is_at}
use Rattle.std.specs.Map.{lookup}
use Rattle.opfs_register.specs.LastUses.{text_cmp, used_in}
use Rattle.opfs_register.proofs.Entries.{none-from, there-insert, text-alike, text-one}
use Rattle.opfs_register.proofs.Used.{used-insert}
use Rattle.opfs_register.proofs.uses.Uses.know.Goals as goal

pub returns-clause-kept : goal.returns-clause-kept
returns-clause-kept c = λ other there.
    rw c.in_ok-insert.ensures.entries
    (there-insert text_cmp (is_at (text_cmp other)) (text-alike other) (text-one other) c.self.inside.items.entries c.in_ok-origin.origin 0 (rw (← c.self.view_is) at there))

pub returns-clause-used : goal.returns-clause-used
returns-clause-used c =
    let none : lookup (is_at (text_cmp c.in_ok-origin.origin)) c.self.inside.items.entries ≡ None =
    rw c.in_ok-origin.ensures (none-from (lookup (is_at (text_cmp c.args.origin.now)) c.self.inside.items.entries) (sym c.contains_key.ensures ∙ c.if-contains_key.false)) in
    rw (← c.self.view_is) (ap used_in c.in_ok-insert.ensures.entries ∙ used-insert c.in_ok-origin.origin c.self.inside.items.entries none)
