use Rattle.std.proofs.Common.{◌≡◌, true, List, [], ◌∷◌, sym, ap, subst, ◌∙◌}
use Rattle.std.specs.Prelude.{map}
use Rattle.std.proofs.lemmas.List.{map-append}
use Rattle.opfs_base.specs.Places.{Place}
use Rattle.opfs_machine.specs.Openings.{Stored}
use Rattle.opfs_tree.specs.Rows.{Rows}
use Rattle.opfs_dump.specs.Text.Limits.{bare_rows, can_stand, is_behind, last_of, places_of}
use Rattle.opfs_dump.specs.Text.Seen.{row_of}
use Rattle.opfs_dump.specs.declared.text.dumped.DumpedRow.{DumpedRow}
use Rattle.opfs_dump.proofs.loading.Orders.{follower, bare_put}
use Rattle.opfs_dump.proofs.loading.following.add_row.Goals as goal

pub insert-requires : goal.insert-requires
insert-requires c =
    let f = c.in_ok-row-2.ensures in
    let done : List DumpedRow = c.deref.result.now in
    let e : Place × Stored = row_of c.in_ok-row.row in
    let h = (follower (map row_of done) e f.1).1 in
    let tree : bare_rows (map row_of done) ≡ c.args.tree.now = ap (λ (x : List DumpedRow). bare_rows (map row_of x)) c.deref.ensures.value ∙ sym c.requires in
    subst (λ (x : Place × Stored). can_stand c.args.tree.now x.0 x.1 ≡ true) (sym f.0) (subst (λ (x : Rows). can_stand x e.0 e.1 ≡ true) tree h)

pub returns-clause-tree : goal.returns-clause-tree
returns-clause-tree c =
    let f = c.in_ok-row-2.ensures in
    let done : List DumpedRow = c.args.rows.now.items in
    let h = (follower (map row_of c.deref.result.now) (row_of c.in_ok-row.row) f.1).0 in
    let last = subst (λ (x : Place × Stored). is_behind (last_of (places_of (map row_of c.deref.result.now))) x.0 ≡ true) (sym f.0) h in
    let behind = subst (λ (x : List DumpedRow). is_behind (last_of (places_of (map row_of x))) c.in_ok-row-2.row.place ≡ true) c.deref.ensures.value last in
    bare_put (map row_of done) (row_of c.in_ok-row-2.row) c.args.tree.now c.insert.new.tree c.requires c.insert.ensures.order behind c.in_ok-insert.ensures.ok
    ∙ ap bare_rows (sym (ap (map row_of) c.in_ok-push.ensures.items ∙ map-append row_of done (c.in_ok-row-2.row ∷ [])))
