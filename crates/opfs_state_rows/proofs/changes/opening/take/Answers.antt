use Rattle.std.proofs.Common.{◌≡◌, ◌<◌, Some, None, option_map, sym, ap, subst, ◌∙◌}
use Rattle.opfs_base.specs.Places.{place_of}
use Rattle.opfs_locks.specs.Taking.{taken}
use Rattle.opfs_state_rows.proofs.changes.Found.{tree-file, some-is}
use Rattle.opfs_state_rows.proofs.changes.Fewer.{lock-small}
use Rattle.opfs_state_rows.proofs.changes.Opened.{given-some, none-given}
use Rattle.opfs_state_rows.proofs.changes.Twice.{some-file, if-file, of-file}
use Rattle.opfs_tree.specs.declared.row.FileRow.{FileRow}
use Rattle.opfs_state_rows.proofs.changes.opening.take.Goals as goal

pub take-requires-clause-there : goal.take-requires-clause-there
take-requires-clause-there c =
    let s = c.args.store.now in
    some-file (tree-file s.machine s.tree (place_of c.args.file.now) c.requires.given.file c.know_rows_match_tree.ensures c.requires.given.there).found

pub take-requires-clause-room : goal.take-requires-clause-room
take-requires-clause-room c =
    let s = c.args.store.now in
    let row = tree-file s.machine s.tree (place_of c.args.file.now) c.requires.given.file c.know_rows_match_tree.ensures c.requires.given.there in
    if-file (λ f. f.lock.1 < 4294967295) _ row.row row.found
    (subst (λ f. f.lock.1 < 4294967295) row.same (lock-small s.machine (place_of c.args.file.now) c.requires.given.file c.requires.kept c.requires.given.there c.few_rows.ensures.agents c.few_rows.ensures.rows))

pub unreachable-requires : goal.unreachable-requires
unreachable-requires c =
    let s = c.args.store.now in
    let row = tree-file s.machine s.tree (place_of c.args.file.now) c.requires.given.file c.know_rows_match_tree.ensures c.requires.given.there in
    let given = of-file (λ (f : FileRow). c.take.result ≡ option_map (λ _. c.args.want) (taken c.args.want f.lock)) _ row.row row.found c.take.ensures.given in
    none-given c.args.want (sym c.in_default.is ∙ given) (ap (λ f. taken c.args.want f.lock) (sym row.same) ∙ c.requires.given.gives)

pub returns-clause-held : goal.returns-clause-held
returns-clause-held c =
    let s = c.args.store.now in
    let row = tree-file s.machine s.tree (place_of c.args.file.now) c.requires.given.file c.know_rows_match_tree.ensures c.requires.given.there in
    let given = of-file (λ (f : FileRow). c.take.result ≡ option_map (λ _. c.args.want) (taken c.args.want f.lock)) _ row.row row.found c.take.ensures.given in
    given-some (sym c.in-Some.is ∙ given) (ap (λ f. taken c.args.want f.lock) (sym row.same) ∙ c.requires.given.gives)
