use Rattle.std.proofs.Common.{◌≡◌, ℕ, true, is_some, refl, ap, ◌∙◌}
use Rattle.opfs_machine.specs.Effects.{unlocked}
use Rattle.opfs_machine.specs.Rows.{with_file}
use Rattle.opfs_tree.specs.Rows.{file_at}
use Rattle.opfs_tree.specs.Rows.{unlocked as unlocked_row}
use Rattle.opfs_state_rows.specs.Standing.Seen.{Seen}
use Rattle.opfs_state_rows.proofs.standing.Locked.{locked-machine, locked-tied, file-known}
use Rattle.opfs_state_rows.proofs.standing.Stores.{units-kept, prepared-same, same-register}
use Rattle.opfs_state_rows.proofs.standing.standing.Standing.unlock.Goals as goal

pub mark-requires : goal.mark-requires
mark-requires c =
    let there : is_some (file_at (c.args.unit.now, c.args.path.now) c.self.inside.tree.rows) ≡ true = ap (λ (s : Seen). is_some (file_at (c.args.unit.now, c.args.path.now) s.tree)) c.self.view_is ∙ c.requires.there in
    (file-known c.self.inside.tree.rows c.release_lock.new.self.rows c.self.inside.shed c.self.inside.register c.args.unit.now c.args.path.now unlocked_row (unlocked {F = ℕ}) (λ f. refl) c.release_lock.ensures.rows
    c.self.inside.pool c.self.inside.pool c.self.inside.fixed c.self.inside.root c.self.invariant there).share

pub invariant_of-self : goal.invariant_of-self
invariant_of-self c =
    let there : is_some (file_at (c.args.unit.now, c.args.path.now) c.self.inside.tree.rows) ≡ true = ap (λ (s : Seen). is_some (file_at (c.args.unit.now, c.args.path.now) s.tree)) c.self.view_is ∙ c.requires.there in
    locked-tied c.self.inside.tree.rows c.release_lock.new.self.rows c.self.inside.shed c.self.inside.register c.args.unit.now c.args.path.now unlocked_row (unlocked {F = ℕ}) (λ f. refl) c.release_lock.ensures.rows
    c.self.inside.pool c.mark.new.pool c.self.inside.fixed c.self.inside.root c.self.invariant there (λ f. refl) (λ f. refl) c.mark.ensures

pub returns-clause-machine : goal.returns-clause-machine
returns-clause-machine c =
    locked-machine c.self.inside.tree.rows c.release_lock.new.self.rows c.self.inside.shed c.self.inside.register c.args.unit.now c.args.path.now unlocked_row (unlocked {F = ℕ}) (λ f. refl) c.release_lock.ensures.rows
    ∙ ap (λ (s : Seen). with_file s.machine (c.args.unit.now, c.args.path.now) (unlocked {F = ℕ})) c.self.view_is

pub returns-clause-prepared : goal.returns-clause-prepared
returns-clause-prepared c =
    prepared-same c.self.inside.tree.ready c.release_lock.new.self.ready c.self.inside.pool.shares c.mark.new.pool.shares c.self.inside.register c.self.inside.register c.release_lock.ensures.ready
    (units-kept c.self.inside.pool c.mark.new.pool _ _ c.mark.ensures)
    (same-register c.self.inside.register)
    ∙ ap (λ (s : Seen). s.prepared) c.self.view_is
