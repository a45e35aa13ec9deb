use Rattle.std.proofs.Common.{◌≡◌, true, false, sym, ◌∙◌, ap, inl, inr}
use Rattle.opfs_memory.specs.Shelves.{Shelf, spot_at, can_take}
use Rattle.opfs_memory.proofs.Shelving.{as_first, fails_as}
use Rattle.opfs_memory.proofs.HostCalls.{given_content, given_trail, given_since, given_other_images, given_other_trails}
use Rattle.opfs_memory.proofs.mem_host.MemHostHost.replace.Goals as goal

pub returns-in-Some-clause-content : goal.returns-in-Some-clause-content
returns-in-Some-clause-content c =
    let m = c.take_faults.new.self in
    let same : m.places ≡ c.args.self.now.places = ap (λ (x : Shelf). x.places) c.take_faults.ensures ∙ ap (λ (x : Shelf). x.places) c.is_named-named.ensures.counted in
    given_content c.args.path.now c.args.self.now m c.keep.new.self same c.in-Some.at c.in-Some.ensures.0 (record { disk = c.args.disk; placed = true }) c.keep.ensures.after

pub returns-in-Some-clause-old_or_new : goal.returns-in-Some-clause-old_or_new
returns-in-Some-clause-old_or_new c =
    let m = c.take_faults.new.self in
    let same : m.places ≡ c.args.self.now.places = ap (λ (x : Shelf). x.places) c.take_faults.ensures ∙ ap (λ (x : Shelf). x.places) c.is_named-named.ensures.counted in
    inr (given_content c.args.path.now c.args.self.now m c.keep.new.self same c.in-Some.at c.in-Some.ensures.0 (record { disk = c.args.disk; placed = true }) c.keep.ensures.after)

pub returns-in-Some-clause-trail : goal.returns-in-Some-clause-trail
returns-in-Some-clause-trail c = λ k left.
    let m = c.take_faults.new.self in
    let same : m.places ≡ c.args.self.now.places = ap (λ (x : Shelf). x.places) c.take_faults.ensures ∙ ap (λ (x : Shelf). x.places) c.is_named-named.ensures.counted in
    elim ((given_trail c.args.path.now c.args.self.now m c.keep.new.self same c.in-Some.at c.in-Some.ensures.0 (record { disk = c.args.disk; placed = true }) c.keep.ensures.after k).0 left) [ inl was ↦ inl was | inr now ↦ inr (inr now) ]

pub returns-in-Some-clause-since : goal.returns-in-Some-clause-since
returns-in-Some-clause-since c = λ t k.
    let m = c.take_faults.new.self in
    let same : m.places ≡ c.args.self.now.places = ap (λ (x : Shelf). x.places) c.take_faults.ensures ∙ ap (λ (x : Shelf). x.places) c.is_named-named.ensures.counted in
    (given_since c.args.path.now c.args.self.now m c.keep.new.self same c.in-Some.at c.in-Some.ensures.0 (record { disk = c.args.disk; placed = true }) c.keep.ensures.after t k).0

pub returns-in-Some-clause-other_images : goal.returns-in-Some-clause-other_images
returns-in-Some-clause-other_images c = λ p ne.
    let m = c.take_faults.new.self in
    let same : m.places ≡ c.args.self.now.places = ap (λ (x : Shelf). x.places) c.take_faults.ensures ∙ ap (λ (x : Shelf). x.places) c.is_named-named.ensures.counted in
    given_other_images c.args.path.now c.args.self.now m c.keep.new.self same c.in-Some.at c.in-Some.ensures.0 (record { disk = c.args.disk; placed = true }) c.keep.ensures.after p ne

pub returns-in-Some-clause-other_trails : goal.returns-in-Some-clause-other_trails
returns-in-Some-clause-other_trails c = λ p k ne.
    let m = c.take_faults.new.self in
    let same : m.places ≡ c.args.self.now.places = ap (λ (x : Shelf). x.places) c.take_faults.ensures ∙ ap (λ (x : Shelf). x.places) c.is_named-named.ensures.counted in
    given_other_trails c.args.path.now c.args.self.now m c.keep.new.self same c.in-Some.at c.in-Some.ensures.0 (record { disk = c.args.disk; placed = true }) c.keep.ensures.after p k ne

pub returns-in-Some-clause-fails : goal.returns-in-Some-clause-fails
returns-in-Some-clause-fails c =
    let m = c.take_faults.new.self in
    let same : m.places ≡ c.args.self.now.places = ap (λ (x : Shelf). x.places) c.take_faults.ensures ∙ ap (λ (x : Shelf). x.places) c.is_named-named.ensures.counted in
    let out : can_take (spot_at c.args.path.now c.args.self.now.places) ≡ true = ap (λ xs. can_take (spot_at c.args.path.now xs)) (sym same) ∙ as_first can_take c.args.path.now m.places c.in-Some.at true c.in-Some.ensures.0 c.in-Some.ensures.1 in
    fails_as _ _ false true (sym c.is_named-named.ensures.named ∙ c.if-named.false) out

pub returns-in-None-clause-fails : goal.returns-in-None-clause-fails
returns-in-None-clause-fails c =
    let m = c.take_faults.new.self in
    let same : m.places ≡ c.args.self.now.places = ap (λ (x : Shelf). x.places) c.take_faults.ensures ∙ ap (λ (x : Shelf). x.places) c.is_named-named.ensures.counted in
    let out : can_take (spot_at c.args.path.now c.args.self.now.places) ≡ false = ap (λ xs. can_take (spot_at c.args.path.now xs)) (sym same) ∙ c.in-None.ensures in
    fails_as _ _ false false (sym c.is_named-named.ensures.named ∙ c.if-named.false) out
