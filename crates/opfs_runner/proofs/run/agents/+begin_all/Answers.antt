use Rattle.std.proofs.Common.{◌≡◌, ◌≤◌, ◌∷◌, [], ◌++◌, length, rules, ◌∙◌, arith}
use Rattle.std.specs.Vec.{vec_capacity}
use Rattle.opfs_hall.specs.Seen.{new_pass}
use Rattle.opfs_runner.proofs.run.Begun.{begun-this, front-count, may-rest, may-this, new-rest, one-of, starters-count}
use Rattle.opfs_runner.proofs.run.agents.+begin_all.Goals as goal

pub returns-in_default-clause-owner : goal.returns-in_default-clause-owner
returns-in_default-clause-owner g t c = λ of new.
    let none : length c.args.starters.now.items ≡ 0 = search rules in
    one-of c.args.passes.now.items (new_pass of 0 []) (new.0 ∙ omega (arith, none)) (new.1 0 (omega arith))

pub begin_all-requires : goal.begin_all-requires
begin_all-requires g t c κs within =
    let starters = c.args.starters.now.items in
    let rest = c.pop.new.self.items in
    let s = c.in-Some.field-0 in
    let passes = c.args.passes.now.items in
    let front = c.pop-2.new.self.items in
    let p = c.unwrap-pass.result in
    let split : starters ≡ rest ++ s ∷ [] = search rules in
    let parted : passes ≡ front ++ p ∷ [] = search rules in
    let count = c.requires.count in
    let room : length rest ≤ vec_capacity c.args.agents.now = omega (arith, c.requires.room, starters-count starters rest s passes front p split parted count) in (
      search rules,
      (within.0, (within.1, (may-rest starters rest s passes front p split parted count g.S.Store.opened c.requires.may, (front-count starters rest s passes front p split parted count, (c.requires.none, room))))),
    )

pub begin-requires : goal.begin-requires
begin-requires g t c =
    let starters = c.args.starters.now.items in
    let rest = c.pop.new.self.items in
    let s = c.in-Some.field-0 in
    let passes = c.args.passes.now.items in
    let front = c.pop-2.new.self.items in
    let p = c.unwrap-pass.result in
    let split : starters ≡ rest ++ s ∷ [] = search rules in
    let parted : passes ≡ front ++ p ∷ [] = search rules in
    may-this starters rest s passes front p split parted c.requires.count g.S.Store.opened c.requires.may

pub returns-clause-begun : goal.returns-clause-begun
returns-clause-begun g t c = λ of new.
    let starters = c.args.starters.now.items in
    let rest = c.pop.new.self.items in
    let s = c.in-Some.field-0 in
    let passes = c.args.passes.now.items in
    let front = c.pop-2.new.self.items in
    let p = c.unwrap-pass.result in
    let split : starters ≡ rest ++ s ∷ [] = search rules in
    let parted : passes ≡ front ++ p ∷ [] = search rules in
    let mid = c.begin_all.ensures.begun of (new-rest starters rest s passes front p split parted c.requires.count of new) in
    rw c.push_reserved.ensures.items (begun-this starters rest s passes front p split parted c.requires.count of new g.S.Store.opened c.begin_all.new.agents.items c.begin.result mid c.begin.ensures)

pub returns-clause-owner : goal.returns-clause-owner
returns-clause-owner g t c = λ of new.
    let starters = c.args.starters.now.items in
    let rest = c.pop.new.self.items in
    let s = c.in-Some.field-0 in
    let passes = c.args.passes.now.items in
    let front = c.pop-2.new.self.items in
    let p = c.unwrap-pass.result in
    let split : starters ≡ rest ++ s ∷ [] = search rules in
    let parted : passes ≡ front ++ p ∷ [] = search rules in
    c.begin_all.ensures.owner of (new-rest starters rest s passes front p split parted c.requires.count of new)
