use Rattle.std.proofs.Common.{◌≡◌, inl, sym, ◌∙◌}
use Rattle.std.specs.Prelude.{Some, Err}
use Rattle.opfs_outside.specs.Turns.{of_host, of_sink}
use Rattle.opfs_commands.proofs.Dumping.{put_back, put_fault, put_none}
use Rattle.opfs_commands.proofs.Hosting.{rose_later, host_rose, later_by}
use Rattle.opfs_commands.proofs.Making.{read_back}
use Rattle.opfs_commands.proofs.dumps.dump_at.Given.{Over}
use Rattle.opfs_commands.proofs.dumps.dump_at.Goals as goal
use Rattle.opfs_commands.proofs.dumps.dump_at.Goals.{After-give_back}
use Rattle.opfs_commands.specs.Kinds.{LeavesText}

pub returns-in-Err-Failed-clause-put : goal.returns-in-Err-Failed-clause-put
returns-in-Err-Failed-clause-put g c =
    put_fault g.K.Sink c.args.sink.now g.H.Host.tells _ _ _ _ c.host_answer.result (inl (c.fetch.ensures.cause (c.in-Err-Failed.is ∙ (λ i. Err (c.in-Err-Failed.field-0-is i))))) c.host_answer.ensures.end c.host_answer.ensures.text

pub returns-in-Err-NoMemory-clause-put : goal.returns-in-Err-NoMemory-clause-put
returns-in-Err-NoMemory-clause-put g c = put_none g.K.Sink c.args.sink.now g.H.Host.tells _ _ _ _ _ tt

pub returns-clause-put : goal.returns-clause-put
returns-clause-put g c =
    let laws = g.met.H.D.Disk g.world.𝓛 g.world.𝓜 g.world.𝓡 ((λ s x. x), (λ x. x), (λ x. x), λ x. x) in
    let there : g.H.Host.tells → g.H.Host.image c.args.host.now c.args.path.now ≡ Some (g.H.D.Disk.content c.in-Ok.disk) = λ told. sym (c.fetch.ensures.images_stay told c.args.path.now) ∙ c.in-Ok.ensures.content told in
    put_back (of_sink g.K.Sink c.args.sink.now c.dump_disk-disk.new.sink) _ _ _ _ _ _ _ _
    (λ t is told. record { image = _; there = there told; kind = is (g.met.H.Host.disk_tells told) })
    (λ t is told. record { image = _; there = there told; kind = is (g.met.H.Host.disk_tells told) })
    (λ t is told. record { image = _; there = there told; kind = is (g.met.H.Host.disk_tells told) })
    (λ rose. host_rose _ _ _ _ _ _ c.in-Ok.ensures.fresh (later_by _ _ _ c.fetch.ensures.later) c.give_back.ensures.later (g.met.H.Host.counted _) (g.met.H.Host.counted _) (laws.counted _) rose)
    c.give_back.result c.dump_disk-disk.result.1 _ _ (λ rose. inl (rose_later _ _ _ c.fetch.ensures.own_later rose)) c.dump_disk-disk.ensures.put c.give_back.ensures.kept

-- the path was only read, however the command ends
left : (g : Over) (c : After-give_back g) → g.H.Host.tells → LeavesText (of_host g.H.Host c.args.host.now c.give_back.new.host) c.args.path.now
left g c told =
    let dtold = g.met.H.Host.disk_tells told in
    let read = c.dump_disk-disk.ensures.only.told dtold in
    read_back g.H.Host c.args.host.now c.fetch.new.self c.give_back.new.host c.args.path.now (g.H.D.Disk.content c.in-Ok.disk) (g.H.D.Disk.content c.dump_disk-disk.result.0) (g.H.D.Disk.moment c.in-Ok.disk) (g.H.D.Disk.since c.in-Ok.disk) (g.H.D.Disk.since c.dump_disk-disk.result.0)
    (c.fetch.ensures.images_stay told) (c.fetch.ensures.trails_stay told) (c.in-Ok.ensures.content told) c.in-Ok.ensures.first (c.in-Ok.ensures.one_image dtold) read.same read.moments (c.give_back.ensures.returned told)

pub returns-clause-others : goal.returns-clause-others
returns-clause-others g c = λ told. (left g (goal.at.returns-clause-others g c).After-give_back told).others

pub returns-clause-reads : goal.returns-clause-reads
returns-clause-reads g c = λ told. (left g (goal.at.returns-clause-reads g c).After-give_back told).stays
