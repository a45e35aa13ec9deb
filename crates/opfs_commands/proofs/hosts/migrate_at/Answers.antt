use Rattle.std.proofs.Common.{◌≡◌, inl, inr, sym, ◌∙◌}
use Rattle.std.specs.Prelude.{Some}
use Rattle.opfs_commands.proofs.Hosting.{stood_for, since_fetched, one_since, rose_later, host_rose, later_by, given_back, refused_back, others_stay, only_read}
use Rattle.opfs_commands.proofs.hosts.migrate_at.Goals as goal

pub returns-clause-answer : goal.returns-clause-answer
returns-clause-answer g c =
    let laws = g.met.H.D.Disk g.world.𝓛 g.world.𝓜 g.world.𝓡 ((λ s x. x), (λ x. x), (λ x. x), λ x. x) in
    let was : g.H.Host.tells → g.H.Host.image c.args.host.now c.args.path.now ≡ Some (g.H.D.Disk.content c.in-Ok.disk) = λ told. sym (c.fetch.ensures.images_stay told c.args.path.now) ∙ c.in-Ok.ensures.content told in
    given_back g.H.Host.tells g.H.D.Disk.tells g.met.H.Host.disk_tells _ _ _ _ _ _ _
    (λ told there t is. record { before = _; after = _; was = was told; is = there.image; told = is })
    (λ told t is. record { image = _; there = was told; kind = is })
    (λ rose. host_rose _ _ _ _ _ _ c.in-Ok.ensures.fresh (later_by _ _ _ c.fetch.ensures.later) c.give_back.ensures.later (g.met.H.Host.counted _) (g.met.H.Host.counted _) (laws.counted _) rose)
    c.give_back.result c.migrate_disk-disk.result.1 _ (λ rose. inl (rose_later _ _ _ c.fetch.ensures.own_later rose)) c.migrate_disk-disk.ensures.answer c.give_back.ensures.kept

pub returns-clause-others : goal.returns-clause-others
returns-clause-others g c = λ told.
    others_stay g.H.Host c.args.host.now c.fetch.new.self c.give_back.new.host c.args.path.now
    (λ p other. record { image = c.fetch.ensures.images_stay told p; trail = c.fetch.ensures.trails_stay told p }) (c.give_back.ensures.returned told).others

pub returns-clause-refused : goal.returns-clause-refused
returns-clause-refused g c =
    refused_back g.H.Host.tells _ _ _ (g.H.Host.own_faults c.fetch.new.self) (g.H.Host.own_faults c.give_back.new.host) c.give_back.result c.migrate_disk-disk.result.1
    (λ told back only.
    let dtold = g.met.H.Host.disk_tells told in
    let read = only.told dtold in
    only_read g.H.Host c.args.host.now c.fetch.new.self c.give_back.new.host c.args.path.now (g.H.D.Disk.content c.in-Ok.disk) (g.H.D.Disk.content c.migrate_disk-disk.result.0) (g.H.D.Disk.moment c.migrate_disk-disk.result.0) (g.H.D.Disk.since c.migrate_disk-disk.result.0)
    (c.fetch.ensures.images_stay told) (c.fetch.ensures.trails_stay told) (c.in-Ok.ensures.content told) read.same
    (one_since (g.H.D.Disk.content c.in-Ok.disk) (g.H.D.Disk.moment c.in-Ok.disk) (g.H.D.Disk.since c.in-Ok.disk) (g.H.D.Disk.since c.migrate_disk-disk.result.0) c.in-Ok.ensures.first (c.in-Ok.ensures.one_image dtold) read.moments) back)
    c.migrate_disk-disk.ensures.refused c.give_back.ensures.kept

pub returns-clause-trail : goal.returns-clause-trail
returns-clause-trail g c = λ told m is c' left.
    let dtold = g.met.H.Host.disk_tells told in
    let stands = stood_for (g.H.D.Disk.content c.in-Ok.disk) m (g.H.Host.image c.args.host.now c.args.path.now) (g.H.Host.image c.fetch.new.self c.args.path.now) (c.in-Ok.ensures.content told) (c.fetch.ensures.images_stay told c.args.path.now) is in
    elim ((c.give_back.ensures.returned told).trail c' left) [
      | inl was ↦ inl ((c.fetch.ensures.trails_stay told c.args.path.now c').0 was)
      | inr since ↦ inr (since_fetched m (g.H.D.Disk.content c.in-Ok.disk) (g.H.D.Disk.moment c.in-Ok.disk) (g.H.D.Disk.since c.in-Ok.disk) (g.H.D.Disk.since c.migrate_disk-disk.result.0) c.in-Ok.ensures.first (c.in-Ok.ensures.one_image dtold) stands (c.migrate_disk-disk.ensures.moments dtold m stands) c' since)
    ]
