use Rattle.std.proofs.Common.{◌≡◌, ℕ, List, drop, Some, None, option_map, sym, ap, ◌∙◌, arith}
use Rattle.std.proofs.lemmas.List.{length-drop}
use Rattle.opfs_codec.specs.Reading.{change_at}
use Rattle.opfs_codec.specs.declared.change.Change.{Change}
use Rattle.opfs_records.specs.Replay.Applying.{tried}
use Rattle.opfs_records.proofs.replay.Bodies.{read_none, apply_none, goes_on, all_done}
use Rattle.opfs_records.proofs.replay.replay.Replay.body.Goals as goal

pub returns-in_default : goal.returns-in_default
returns-in_default c =
    let behind : Change × ℕ → Change × List ℕ = λ x. (x.0, drop x.1 c.args.bytes.now) in
    let none : change_at c.args.format (drop c.loop-at.at c.args.bytes.now) ≡ None = sym c.in_ok-change.ensures.exact ∙ ap (option_map behind) c.in_default.is in
    read_none _ _ _ _ _ _ _ _ c.loop-at.invariant (omega (arith, length-drop c.loop-at.at c.args.bytes.now)) none

pub returns-in_default-2 : goal.returns-in_default-2
returns-in_default-2 c =
    let behind : Change × ℕ → Change × List ℕ = λ x. (x.0, drop x.1 c.args.bytes.now) in
    let read : change_at c.args.format (drop c.loop-at.at c.args.bytes.now) ≡ Some (c.in-Some.change, drop c.in-Some.next c.args.bytes.now) = sym c.in_ok-change.ensures.exact ∙ ap (option_map behind) c.in-Some.is in
    let told : tried c.args.format c.loop-at.built.size c.loop-at.built.built c.in-Some.change ≡ None = rw c.in_default-2.is at c.in_ok-more.ensures in
    let none : tried c.args.format c.args.self.size c.loop-at.built.built c.in-Some.change ≡ None = ap (λ (n : ℕ). tried c.args.format n c.loop-at.built.built c.in-Some.change) (sym c.loop-at.invariant.same_size) ∙ told in
    apply_none _ _ _ _ _ _ _ _ c.in-Some.change (drop c.in-Some.next c.args.bytes.now) c.loop-at.invariant (omega (arith, length-drop c.loop-at.at c.args.bytes.now)) read none

pub loop-at-preserved : goal.loop-at-preserved
loop-at-preserved c =
    let behind : Change × ℕ → Change × List ℕ = λ x. (x.0, drop x.1 c.args.bytes.now) in
    let read : change_at c.args.format (drop c.loop-at.at c.args.bytes.now) ≡ Some (c.in-Some.change, drop c.in-Some.next c.args.bytes.now) = sym c.in_ok-change.ensures.exact ∙ ap (option_map behind) c.in-Some.is in
    let told = rw c.in-Some-2.is at c.in_ok-more.ensures in
    let forth = rw c.in-Some.is at c.in_ok-change.ensures.forth in
    let found : tried c.args.format c.args.self.size c.loop-at.built.built c.in-Some.change ≡ Some c.in-Some-2.more.built = ap (λ (n : ℕ). tried c.args.format n c.loop-at.built.built c.in-Some.change) (sym c.loop-at.invariant.same_size) ∙ told.0 in
    goes_on _ _ _ _ _ _ _ _ c.in-Some.change (drop c.in-Some.next c.args.bytes.now) c.in-Some-2.more.built c.in-Some-2.more.size c.in-Some-2.more.quota c.loop-at.invariant (omega (arith, length-drop c.loop-at.at c.args.bytes.now)) read found
    (omega (arith, forth.0, length-drop c.loop-at.at c.args.bytes.now, length-drop c.in-Some.next c.args.bytes.now)) told.1 told.2

pub returns : goal.returns
returns c = (all_done _ _ _ _ _ _ _ _ c.loop-at.invariant (omega (arith, length-drop c.loop-at.at c.args.bytes.now)), c.loop-at.invariant.same_size, c.loop-at.invariant.same_quota)

pub apply-requires : goal.apply-requires
apply-requires c = rw c.in-Some.is at c.in_ok-change.ensures.change
