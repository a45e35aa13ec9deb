use Rattle.std.proofs.Common.{◌≡◌, ◌<◌, true, is_some, Option, IfSome, option_map, sym, ap, subst, ◌∙◌}
use Rattle.opfs_locks.specs.Taking.{taken}
use Rattle.opfs_tree.specs.declared.row.FileRow.{FileRow}
use Rattle.opfs_tree.specs.Rows.{file_at, change_at, locked}
use Rattle.opfs_tree.specs.Ready.Ready.{ReadyRows, shown}
use Rattle.opfs_tree.proofs.ready.Kept.{file-there, changed-kept}
use Rattle.opfs_tree.proofs.ready.ready.ReadyTree.take_lock.Goals as goal

pub take_lock-requires-clause-there : goal.take_lock-requires-clause-there
take_lock-requires-clause-there c =
    let there : is_some (file_at (c.args.key.now, c.args.path.now) (shown c.self.inside.ready c.self.inside.tree)) ≡ true = ap (λ (s : ReadyRows). is_some (file_at (c.args.key.now, c.args.path.now) s.rows)) c.self.view_is ∙ c.requires.there in
    let same : file_at (c.args.key.now, c.args.path.now) c.self.inside.tree ≡ file_at (c.args.key.now, c.args.path.now) c.args.self.now.rows = file-there c.self.inside.ready c.self.inside.tree (c.args.key.now, c.args.path.now) c.self.invariant there ∙ ap (λ (s : ReadyRows). file_at (c.args.key.now, c.args.path.now) s.rows) c.self.view_is in
    ap is_some same ∙ c.requires.there

pub take_lock-requires-clause-room : goal.take_lock-requires-clause-room
take_lock-requires-clause-room c =
    let there : is_some (file_at (c.args.key.now, c.args.path.now) (shown c.self.inside.ready c.self.inside.tree)) ≡ true = ap (λ (s : ReadyRows). is_some (file_at (c.args.key.now, c.args.path.now) s.rows)) c.self.view_is ∙ c.requires.there in
    let same : file_at (c.args.key.now, c.args.path.now) c.self.inside.tree ≡ file_at (c.args.key.now, c.args.path.now) c.args.self.now.rows = file-there c.self.inside.ready c.self.inside.tree (c.args.key.now, c.args.path.now) c.self.invariant there ∙ ap (λ (s : ReadyRows). file_at (c.args.key.now, c.args.path.now) s.rows) c.self.view_is in
    subst (λ (o : Option FileRow). IfSome o (λ f. f.lock.1 < 4294967295)) (sym same) c.requires.room

pub invariant_of-self : goal.invariant_of-self
invariant_of-self c =
    let there : is_some (file_at (c.args.key.now, c.args.path.now) (shown c.self.inside.ready c.self.inside.tree)) ≡ true = ap (λ (s : ReadyRows). is_some (file_at (c.args.key.now, c.args.path.now) s.rows)) c.self.view_is ∙ c.requires.there in
    (changed-kept c.self.inside.ready c.self.inside.tree c.take_lock.new.self (c.args.key.now, c.args.path.now) (locked c.args.want) c.self.invariant there c.take_lock.ensures.rows).0

pub returns-clause-rows : goal.returns-clause-rows
returns-clause-rows c =
    let there : is_some (file_at (c.args.key.now, c.args.path.now) (shown c.self.inside.ready c.self.inside.tree)) ≡ true = ap (λ (s : ReadyRows). is_some (file_at (c.args.key.now, c.args.path.now) s.rows)) c.self.view_is ∙ c.requires.there in
    (changed-kept c.self.inside.ready c.self.inside.tree c.take_lock.new.self (c.args.key.now, c.args.path.now) (locked c.args.want) c.self.invariant there c.take_lock.ensures.rows).1 ∙ ap (λ (s : ReadyRows). change_at (c.args.key.now, c.args.path.now) (locked c.args.want) s.rows) c.self.view_is

pub returns-clause-given : goal.returns-clause-given
returns-clause-given c =
    let there : is_some (file_at (c.args.key.now, c.args.path.now) (shown c.self.inside.ready c.self.inside.tree)) ≡ true = ap (λ (s : ReadyRows). is_some (file_at (c.args.key.now, c.args.path.now) s.rows)) c.self.view_is ∙ c.requires.there in
    let same : file_at (c.args.key.now, c.args.path.now) c.self.inside.tree ≡ file_at (c.args.key.now, c.args.path.now) c.args.self.now.rows = file-there c.self.inside.ready c.self.inside.tree (c.args.key.now, c.args.path.now) c.self.invariant there ∙ ap (λ (s : ReadyRows). file_at (c.args.key.now, c.args.path.now) s.rows) c.self.view_is in
    subst (λ (o : Option FileRow). IfSome o (λ f. c.take_lock.result ≡ option_map (λ _. c.args.want) (taken c.args.want f.lock))) same c.take_lock.ensures.given
