use Rattle.std.proofs.Common.{◌≡◌, inl, sym, ◌∙◌, arith}
use Rattle.std.specs.Prelude.{Some}
use Rattle.opfs_outside.specs.Turns.{of_host, HostFailed}
use Rattle.opfs_commands.proofs.Hosting.{rose_later, host_rose, later_by, given_back}
use Rattle.opfs_commands.proofs.Loading.{dump_at_told, err_at, ok_at, failed_told, later_twice}
use Rattle.opfs_commands.proofs.Making.{read_back}
use Rattle.opfs_commands.proofs.loads.text_at.Goals as goal

pub returns-in-Err-clause-not : goal.returns-in-Err-clause-not
returns-in-Err-clause-not g c =
    let laws = g.met.H.D.Disk g.world.𝓛 g.world.𝓜 g.world.𝓡 ((λ s x. x), (λ x. x), (λ x. x), λ x. x) in
    let there : g.H.Host.tells → g.H.Host.image c.args.host.now c.args.path.now ≡ Some (g.H.D.Disk.content c.in-Ok.disk) = λ told. sym (c.fetch.ensures.images_stay told c.args.path.now) ∙ c.in-Ok.ensures.content told in
    given_back g.H.Host.tells g.H.D.Disk.tells g.met.H.Host.disk_tells _ _ _ _ _ _ _
    (λ told _ t is. is)
    (λ told t is. record { image = _; there = there told; kind = is })
    (λ rose. host_rose _ _ _ _ _ _ c.in-Ok.ensures.fresh (later_by _ _ _ c.fetch.ensures.later) c.give_back.ensures.later (g.met.H.Host.counted _) (g.met.H.Host.counted _) (laws.counted _) rose)
    c.give_back.result c.in-Err.answer _ (λ rose. inl (rose_later _ _ _ c.fetch.ensures.own_later rose)) (err_at _ _ _ c.in-Err.is c.text_on-disk.ensures.not) c.give_back.ensures.kept

pub returns-in-Err-clause-stays : goal.returns-in-Err-clause-stays
returns-in-Err-clause-stays g c = λ told.
    let dtold = g.met.H.Host.disk_tells told in
    let read = c.text_on-disk.ensures.only.told dtold in
    read_back g.H.Host c.args.host.now c.fetch.new.self c.give_back.new.host c.args.path.now (g.H.D.Disk.content c.in-Ok.disk) (g.H.D.Disk.content c.text_on-disk.result.0) (g.H.D.Disk.moment c.in-Ok.disk) (g.H.D.Disk.since c.in-Ok.disk) (g.H.D.Disk.since c.text_on-disk.result.0)
    (c.fetch.ensures.images_stay told) (c.fetch.ensures.trails_stay told) (c.in-Ok.ensures.content told) c.in-Ok.ensures.first (c.in-Ok.ensures.one_image dtold) read.same read.moments (c.give_back.ensures.returned told)

pub returns-in-Ok-read-clause-stays : goal.returns-in-Ok-read-clause-stays
returns-in-Ok-read-clause-stays g c = λ told.
    let dtold = g.met.H.Host.disk_tells told in
    let read = c.text_on-disk.ensures.only.told dtold in
    read_back g.H.Host c.args.host.now c.fetch.new.self c.give_text_back.new.host c.args.path.now (g.H.D.Disk.content c.in-Ok.disk) (g.H.D.Disk.content c.text_on-disk.result.0) (g.H.D.Disk.moment c.in-Ok.disk) (g.H.D.Disk.since c.in-Ok.disk) (g.H.D.Disk.since c.text_on-disk.result.0)
    (c.fetch.ensures.images_stay told) (c.fetch.ensures.trails_stay told) (c.in-Ok.ensures.content told) c.in-Ok.ensures.first (c.in-Ok.ensures.one_image dtold) read.same read.moments (c.give_text_back.ensures.returned told)

pub returns-in-Ok-read-clause-read : goal.returns-in-Ok-read-clause-read
returns-in-Ok-read-clause-read g c =
    let there : g.H.Host.tells → g.H.Host.image c.args.host.now c.args.path.now ≡ Some (g.H.D.Disk.content c.in-Ok.disk) = λ told. sym (c.fetch.ensures.images_stay told c.args.path.now) ∙ c.in-Ok.ensures.content told in
    dump_at_told g.H.Host.tells _ (g.H.D.Disk.content c.in-Ok.disk) c.in-Ok-read.dumped c.give_text_back.result there (λ told. (ok_at _ _ _ c.in-Ok-read.is c.text_on-disk.ensures.read) (g.met.H.Host.disk_tells told)) c.give_text_back.ensures.same

pub returns-in-Ok-read-clause-not : goal.returns-in-Ok-read-clause-not
returns-in-Ok-read-clause-not g c =
    failed_told g.H.Host.tells _ _ (HostFailed (of_host g.H.Host c.args.host.now c.give_text_back.new.host)) _ c.give_text_back.result
    (λ rose. inl (rose_later _ _ _ c.fetch.ensures.own_later rose)) c.give_text_back.ensures.failed

pub returns-in-Ok-read-clause-later : goal.returns-in-Ok-read-clause-later
returns-in-Ok-read-clause-later g c = record {
  own = omega (arith, c.fetch.ensures.own_later, c.give_text_back.ensures.own_later);
  all = later_twice _ _ _ _ _ c.fetch.ensures.later c.give_text_back.ensures.later (g.met.H.Host.counted _);
}

pub returns-in-Err-clause-later : goal.returns-in-Err-clause-later
returns-in-Err-clause-later g c = record {
  own = omega (arith, c.fetch.ensures.own_later, c.give_back.ensures.own_later);
  all = later_twice _ _ _ _ _ c.fetch.ensures.later c.give_back.ensures.later (g.met.H.Host.counted _);
}
