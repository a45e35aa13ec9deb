use Rattle.std.proofs.Common.{◌≡◌, true, false, refl, sym, ◌∙◌, ap}
use Rattle.opfs_memory.specs.Shelves.{Shelf, spot_at, has_image, spot_lent, fetch_fails}
use Rattle.opfs_memory.proofs.DriveCalls.{fresh_image}
use Rattle.opfs_memory.proofs.Shelving.{as_first, fails_as}
use Rattle.opfs_memory.proofs.HostCalls.{images_at, trails_at, lent_content, never_fails, ok_is_none, memory_is_none}
use Rattle.opfs_memory.proofs.mem_host.MemHostHost.fetch.Goals as goal

pub returns-in-Ok-clause-fails : goal.returns-in-Ok-clause-fails
returns-in-Ok-clause-fails c =
    let h = c.args.self.now in
    let m = c.is_named.new.self in
    let same : m.places ≡ h.places = ap (λ (x : Shelf). x.places) c.is_named.ensures.counted in
    let there : has_image (spot_at c.args.path.now h.places) ≡ true = ap (λ xs. has_image (spot_at c.args.path.now xs)) (sym same) ∙ as_first has_image c.args.path.now m.places c.in-Some.at true c.in-Some.ensures.0 c.in-Some.ensures.1 in
    never_fails _ (fetch_fails h c.args.path.now) (λ e. ok_is_none _ _ e) (fails_as _ _ false true (sym c.is_named.ensures.named ∙ c.if-is_named.false) there)

pub returns-in-Err-clause-fails : goal.returns-in-Err-clause-fails
returns-in-Err-clause-fails c =
    let h = c.args.self.now in
    let m = c.is_named.new.self in
    let same : m.places ≡ h.places = ap (λ (x : Shelf). x.places) c.is_named.ensures.counted in
    let there : has_image (spot_at c.args.path.now h.places) ≡ true = ap (λ xs. has_image (spot_at c.args.path.now xs)) (sym same) ∙ as_first has_image c.args.path.now m.places c.in-Some.at true c.in-Some.ensures.0 c.in-Some.ensures.1 in
    never_fails _ (fetch_fails h c.args.path.now) (λ e. memory_is_none e) (fails_as _ _ false true (sym c.is_named.ensures.named ∙ c.if-is_named.false) there)

pub returns-in-Ok-clause-one_image : goal.returns-in-Ok-clause-one_image
returns-in-Ok-clause-one_image c = fresh_image c.in-Ok.disk c.in-Ok.ensures.fresh.0

pub returns-in-Ok-clause-content : goal.returns-in-Ok-clause-content
returns-in-Ok-clause-content c =
    let h = c.args.self.now in
    let m = c.is_named.new.self in
    let n = c.fetch_at.new.self in
    let same : m.places ≡ h.places = ap (λ (x : Shelf). x.places) c.is_named.ensures.counted in
    lent_content c.args.path.now h m n same c.in-Some.at c.in-Some.ensures.0 c.in-Ok.ensures.after c.in-Ok.disk c.in-Ok.ensures.fresh.0 c.in-Some.ensures.1 c.in-Ok.ensures.disk

pub returns-in-Ok-clause-images_stay : goal.returns-in-Ok-clause-images_stay
returns-in-Ok-clause-images_stay c = λ p.
    let h = c.args.self.now in
    let m = c.is_named.new.self in
    let n = c.fetch_at.new.self in
    let same : m.places ≡ h.places = ap (λ (x : Shelf). x.places) c.is_named.ensures.counted in
    images_at c.args.path.now h m n same c.in-Some.at c.in-Some.ensures.0 spot_lent (λ s. refl) (λ s. refl) (λ s. refl) c.in-Ok.ensures.after p

pub returns-in-Ok-clause-trails_stay : goal.returns-in-Ok-clause-trails_stay
returns-in-Ok-clause-trails_stay c = λ p k.
    let h = c.args.self.now in
    let m = c.is_named.new.self in
    let n = c.fetch_at.new.self in
    let same : m.places ≡ h.places = ap (λ (x : Shelf). x.places) c.is_named.ensures.counted in
    trails_at c.args.path.now h m n same c.in-Some.at c.in-Some.ensures.0 spot_lent (λ s. refl) (λ s. refl) (λ s. refl) c.in-Ok.ensures.after p k
