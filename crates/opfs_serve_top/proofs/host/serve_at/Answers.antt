use Rattle.opfs_commands.proofs.Hosting.{later_by, others_stay}
use Rattle.opfs_commands.proofs.RunHosts.{IsFetched}
use Rattle.opfs_serve_top.proofs.Ends.{given-went}
use Rattle.opfs_serve_top.proofs.Hosts.{ended-at, unserved-at}
use Rattle.opfs_serve_top.proofs.host.serve_at.Given.{Over}
use Rattle.opfs_serving.specs.declared.progress.State.TheVariants as state
use Rattle.opfs_serve_top.proofs.host.serve_at.Goals as goal
use Rattle.opfs_serve_top.proofs.host.serve_at.Goals.{After-end_at}

-- the disk that was fetched
fetched : (g : Over) (c : After-end_at g) → IsFetched g.H.Host g.H.D.Disk c.args.path.now c.args.host.now c.fetch.new.self c.in-Ok.disk
fetched g c =
    let laws = g.met.H.D.Disk g.world.𝓛 g.world.𝓜 g.world.𝓡 ((λ s x. x), (λ x. x), (λ x. x), λ x. x) in
    record {
      to_disk = g.met.H.Host.disk_tells;
      crashes = g.met.H.Host.disk_crashes;
      counted = λ x. g.met.H.Host.counted x;
      disk_counted = λ d. laws.counted d;
      fresh = c.in-Ok.ensures.fresh;
      falls = λ t d. laws.falls t d;
      first = c.in-Ok.ensures.first;
      one = c.in-Ok.ensures.one_image;
      there = c.in-Ok.ensures.content;
      images = λ t. c.fetch.ensures.images_stay t;
      trails = λ t. c.fetch.ensures.trails_stay t;
      own = c.fetch.ensures.own_later;
      later = later_by _ _ _ c.fetch.ensures.later;
    }

pub returns-clause-ended : goal.returns-clause-ended
returns-clause-ended g c =
    ended-at g.H.Host g.H.D.Disk c.args.path.now c.args.host.now c.fetch.new.self c.end_at.new.host c.in-Ok.disk (fetched g (goal.at.returns-clause-ended g c).After-end_at) g.P.Port.tells g.P.Port.said c.args.agents.now c.args.port.now c.serve_on-disk.new.port
    c.serve_on-disk.result.0 c.end_at.ensures.later c.end_at.ensures.returned c.end_at.ensures.back c.serve_on-disk.result.1 c.end_at.result c.serve_on-disk.ensures.ended c.end_at.ensures.kept

pub returns-clause-unserved : goal.returns-clause-unserved
returns-clause-unserved g c =
    unserved-at g.H.Host g.H.D.Disk c.args.path.now c.args.host.now c.fetch.new.self c.end_at.new.host c.in-Ok.disk (fetched g (goal.at.returns-clause-unserved g c).After-end_at) g.P.Port.tells g.P.Port.said c.args.agents.now c.args.port.now c.serve_on-disk.new.port
    c.serve_on-disk.result.0 c.end_at.ensures.later c.end_at.ensures.returned c.end_at.ensures.back c.serve_on-disk.result.1 c.end_at.result c.serve_on-disk.ensures.ended c.end_at.ensures.kept

pub returns-clause-others : goal.returns-clause-others
returns-clause-others g c = λ told. others_stay g.H.Host c.args.host.now c.fetch.new.self c.end_at.new.host c.args.path.now
    (λ p other. record { image = c.fetch.ensures.images_stay told p; trail = c.fetch.ensures.trails_stay told p }) (c.end_at.ensures.returned told).others

pub returns-clause-all : goal.returns-clause-all
returns-clause-all g c = given-went state.On _ _ c.serve_on-disk.result.1 c.end_at.result _ c.end_at.ensures.kept c.serve_on-disk.ensures.all

pub returns-clause-failed : goal.returns-clause-failed
returns-clause-failed g c = given-went state.Failed _ _ c.serve_on-disk.result.1 c.end_at.result _ c.end_at.ensures.kept c.serve_on-disk.ensures.failed
