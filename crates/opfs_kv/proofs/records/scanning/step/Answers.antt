use Rattle.std.proofs.Common.{◌≡◌, ℕ, ◌+◌, length, Some, None, sym, subst, ◌∙◌, arith}
use Rattle.std.proofs.lemmas.Bool.{true≢false}
use Rattle.opfs_kv.specs.Records.Heads.{head_at, size_by}
use Rattle.opfs_kv.specs.Records.Indexes.{IsFitting}
use Rattle.opfs_kv.specs.Records.Scans.{HasRead}
use Rattle.opfs_kv.proofs.records.Fitted.{fitting-put}
use Rattle.opfs_kv.proofs.records.Steps.{fails-none, fails-long, reads-one, front-facts}
use Rattle.opfs_kv.proofs.records.scanning.step.Goals as goal

pub returns-in_default-clause-bad : goal.returns-in_default-clause-bad
returns-in_default-clause-bad c whole is =
    let none : head_at c.args.rest.now ≡ None = sym c.in_default.ensures in
    fails-none whole c.args.size c.args.at c.args.rest.now is c.requires.inside c.args.index.now (λ i. omega (arith, c.type_inv.rest i)) none c.requires.some (λ short. true≢false (sym (c.may_be_short.ensures.1 short) ∙ c.if-may_be_short.false))

pub size_of-taken-requires : goal.size_of-taken-requires
size_of-taken-requires c =
    let there : head_at c.args.rest.now ≡ Some (c.in-Some.field-0.key.now, c.in-Some.field-0.len) = sym c.in-Some.ensures in
    omega (arith, (front-facts c.args.rest.now (c.in-Some.field-0.key.now, c.in-Some.field-0.len) (λ i. omega (arith, c.type_inv.rest i)) there).key.1)

pub returns-then-at-taken-clause-bad : goal.returns-then-at-taken-clause-bad
returns-then-at-taken-clause-bad c whole is =
    let there : head_at c.args.rest.now ≡ Some (c.in-Some.field-0.key.now, c.in-Some.field-0.len) = sym c.in-Some.ensures in
    fails-long whole c.args.size c.args.at c.args.rest.now is c.requires.inside c.args.index.now (c.in-Some.field-0.key.now, c.in-Some.field-0.len) (λ i. omega (arith, c.type_inv.rest i)) there c.requires.some
    (omega (arith, c.if-at-taken, c.size_of-taken.ensures))

pub note-requires-clause-key : goal.note-requires-clause-key
note-requires-clause-key c =
    let there : head_at c.args.rest.now ≡ Some (c.in-Some.field-0.key.now, c.in-Some.field-0.len) = sym c.in-Some.ensures in
    omega (arith, (front-facts c.args.rest.now (c.in-Some.field-0.key.now, c.in-Some.field-0.len) (λ i. omega (arith, c.type_inv.rest i)) there).key.1)

pub returns-clause-next : goal.returns-clause-next
returns-clause-next c =
    let there : head_at c.args.rest.now ≡ Some (c.in-Some.field-0.key.now, c.in-Some.field-0.len) = sym c.in-Some.ensures in
    let f = front-facts c.args.rest.now (c.in-Some.field-0.key.now, c.in-Some.field-0.len) (λ i. omega (arith, c.type_inv.rest i)) there in
    let fits : IsFitting (c.args.at + c.size_of-taken.result) c.note.new.index =
    subst (λ (n : ℕ). IsFitting (c.args.at + n) c.note.new.index) (sym c.size_of-taken.ensures)
    (subst (IsFitting (c.args.at + size_by (length c.in-Some.field-0.key.now) c.in-Some.field-0.len)) (sym c.in_ok-note.ensures.placed)
    (fitting-put c.args.at c.args.index.now c.in-Some.field-0.key.now c.in-Some.field-0.len c.requires.fitting f.key f.size))
    in
    (omega arith, omega (arith, c.if-at-taken), fits)

pub returns-clause-read : goal.returns-clause-read
returns-clause-read c whole is =
    let there : head_at c.args.rest.now ≡ Some (c.in-Some.field-0.key.now, c.in-Some.field-0.len) = sym c.in-Some.ensures in
    let one = reads-one whole c.args.size c.args.at c.args.rest.now is c.requires.inside c.args.index.now (c.in-Some.field-0.key.now, c.in-Some.field-0.len) (λ i. omega (arith, c.type_inv.rest i)) there
    (omega (arith, c.if-at-taken, c.size_of-taken.ensures)) in
    subst (λ (n : ℕ). HasRead whole c.args.at c.args.index.now (c.args.at + n) c.note.new.index) (sym c.size_of-taken.ensures)
    (subst (HasRead whole c.args.at c.args.index.now (c.args.at + size_by (length c.in-Some.field-0.key.now) c.in-Some.field-0.len)) (sym c.in_ok-note.ensures.placed) one)
