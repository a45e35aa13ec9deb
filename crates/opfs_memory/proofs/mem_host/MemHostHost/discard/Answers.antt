use Rattle.std.proofs.Common.{◌≡◌, refl, ◌∙◌, ap}
use Rattle.opfs_memory.specs.Shelves.{Shelf, spot_thrown}
use Rattle.opfs_memory.proofs.HostCalls.{images_at, trails_at}
use Rattle.opfs_memory.proofs.mem_host.MemHostHost.discard.Goals as goal

pub returns-in-Some-clause-images_stay : goal.returns-in-Some-clause-images_stay
returns-in-Some-clause-images_stay c = λ p.
    let h = c.args.self.now in
    let m = c.take_faults.new.self in
    let same : m.places ≡ h.places = ap (λ (x : Shelf). x.places) c.take_faults.ensures ∙ ap (λ (x : Shelf). x.places) c.is_named-named.ensures.counted in
    images_at c.args.path.now h m c.throw_away.new.self same c.in-Some.at c.in-Some.ensures.0 spot_thrown (λ s. refl) (λ s. refl) (λ s. refl) c.throw_away.ensures.after p

pub returns-in-Some-clause-trails_stay : goal.returns-in-Some-clause-trails_stay
returns-in-Some-clause-trails_stay c = λ p k.
    let h = c.args.self.now in
    let m = c.take_faults.new.self in
    let same : m.places ≡ h.places = ap (λ (x : Shelf). x.places) c.take_faults.ensures ∙ ap (λ (x : Shelf). x.places) c.is_named-named.ensures.counted in
    trails_at c.args.path.now h m c.throw_away.new.self same c.in-Some.at c.in-Some.ensures.0 spot_thrown (λ s. refl) (λ s. refl) (λ s. refl) c.throw_away.ensures.after p k
