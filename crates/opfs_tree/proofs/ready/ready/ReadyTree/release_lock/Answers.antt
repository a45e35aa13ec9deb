use Rattle.std.proofs.Common.{◌≡◌, true, is_some, Option, IfSome, sym, ap, subst, ◌∙◌}
use Rattle.opfs_locks.specs.Holding.{IsTakenAs}
use Rattle.opfs_tree.specs.declared.row.FileRow.{FileRow}
use Rattle.opfs_tree.specs.Rows.{file_at, change_at, unlocked}
use Rattle.opfs_tree.specs.Ready.Ready.{ReadyRows, shown}
use Rattle.opfs_tree.proofs.ready.Kept.{file-there, changed-kept}
use Rattle.opfs_tree.proofs.ready.ready.ReadyTree.release_lock.Goals as goal

pub release_lock-requires-clause-there : goal.release_lock-requires-clause-there
release_lock-requires-clause-there c =
    let there : is_some (file_at (c.args.key.now, c.args.path.now) (shown c.self.inside.ready c.self.inside.tree)) ≡ true = ap (λ (s : ReadyRows). is_some (file_at (c.args.key.now, c.args.path.now) s.rows)) c.self.view_is ∙ c.requires.there in
    let same : file_at (c.args.key.now, c.args.path.now) c.self.inside.tree ≡ file_at (c.args.key.now, c.args.path.now) c.args.self.now.rows = file-there c.self.inside.ready c.self.inside.tree (c.args.key.now, c.args.path.now) c.self.invariant there ∙ ap (λ (s : ReadyRows). file_at (c.args.key.now, c.args.path.now) s.rows) c.self.view_is in
    ap is_some same ∙ c.requires.there

pub release_lock-requires-clause-taken : goal.release_lock-requires-clause-taken
release_lock-requires-clause-taken c =
    let there : is_some (file_at (c.args.key.now, c.args.path.now) (shown c.self.inside.ready c.self.inside.tree)) ≡ true = ap (λ (s : ReadyRows). is_some (file_at (c.args.key.now, c.args.path.now) s.rows)) c.self.view_is ∙ c.requires.there in
    let same : file_at (c.args.key.now, c.args.path.now) c.self.inside.tree ≡ file_at (c.args.key.now, c.args.path.now) c.args.self.now.rows = file-there c.self.inside.ready c.self.inside.tree (c.args.key.now, c.args.path.now) c.self.invariant there ∙ ap (λ (s : ReadyRows). file_at (c.args.key.now, c.args.path.now) s.rows) c.self.view_is in
    subst (λ (o : Option FileRow). IfSome o (λ f. IsTakenAs c.args.held f.lock)) (sym same) c.requires.taken

pub invariant_of-self : goal.invariant_of-self
invariant_of-self c =
    let there : is_some (file_at (c.args.key.now, c.args.path.now) (shown c.self.inside.ready c.self.inside.tree)) ≡ true = ap (λ (s : ReadyRows). is_some (file_at (c.args.key.now, c.args.path.now) s.rows)) c.self.view_is ∙ c.requires.there in
    (changed-kept c.self.inside.ready c.self.inside.tree c.release_lock.new.self (c.args.key.now, c.args.path.now) (unlocked) c.self.invariant there c.release_lock.ensures).0

pub returns-clause-rows : goal.returns-clause-rows
returns-clause-rows c =
    let there : is_some (file_at (c.args.key.now, c.args.path.now) (shown c.self.inside.ready c.self.inside.tree)) ≡ true = ap (λ (s : ReadyRows). is_some (file_at (c.args.key.now, c.args.path.now) s.rows)) c.self.view_is ∙ c.requires.there in
    (changed-kept c.self.inside.ready c.self.inside.tree c.release_lock.new.self (c.args.key.now, c.args.path.now) (unlocked) c.self.invariant there c.release_lock.ensures).1 ∙ ap (λ (s : ReadyRows). change_at (c.args.key.now, c.args.path.now) (unlocked) s.rows) c.self.view_is
