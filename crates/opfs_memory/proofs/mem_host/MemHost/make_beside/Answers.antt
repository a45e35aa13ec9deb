use Rattle.std.proofs.Common.{◌≡◌, ◌↔◌, refl, sym, ap}
use Rattle.opfs_memory.specs.Shelves.{Shelf, image_at, spot_lent, Trail}
use Rattle.opfs_memory.proofs.HostCalls.{images_at, trails_at, made_images, made_trails, either_from, same_images, same_trails}
use Rattle.opfs_memory.proofs.mem_host.MemHost.make_beside.Goals as goal

pub returns-in-Some-clause-images : goal.returns-in-Some-clause-images
returns-in-Some-clause-images c = λ p.
    let h = c.args.self.now in
    let n = c.make_at.new.self in
    either_from c.make_at.result _ _ (image_at n p ≡ image_at h p) c.make_at.ensures.after c.make_at.ensures.same
    (λ change. images_at c.args.path.now h h n refl c.in-Some.at (sym c.in-Some.ensures) spot_lent (λ s. refl) (λ s. refl) (λ s. refl) change p)
    (λ e. same_images h h n refl e p)

pub returns-in-Some-clause-trails : goal.returns-in-Some-clause-trails
returns-in-Some-clause-trails c = λ p k.
    let h = c.args.self.now in
    let n = c.make_at.new.self in
    either_from c.make_at.result _ _ (Trail n p k ↔ Trail h p k) c.make_at.ensures.after c.make_at.ensures.same
    (λ change. trails_at c.args.path.now h h n refl c.in-Some.at (sym c.in-Some.ensures) spot_lent (λ s. refl) (λ s. refl) (λ s. refl) change p k)
    (λ e. same_trails h h n refl e p k)

pub returns-in-None-clause-images : goal.returns-in-None-clause-images
returns-in-None-clause-images c = λ p.
    let h = c.args.self.now in
    let n = c.make_new.new.self in
    either_from c.make_new.result _ _ (image_at n p ≡ image_at h p) c.make_new.ensures.after c.make_new.ensures.same
    (λ change. made_images c.args.path.now h h n refl (ap (λ (x : Shelf). x.places) change) p)
    (λ e. same_images h h n refl e p)

pub returns-in-None-clause-trails : goal.returns-in-None-clause-trails
returns-in-None-clause-trails c = λ p k.
    let h = c.args.self.now in
    let n = c.make_new.new.self in
    either_from c.make_new.result _ _ (Trail n p k ↔ Trail h p k) c.make_new.ensures.after c.make_new.ensures.same
    (λ change. made_trails c.args.path.now h h n refl (ap (λ (x : Shelf). x.places) change) p k)
    (λ e. same_trails h h n refl e p k)
