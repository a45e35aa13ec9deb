use Rattle.std.proofs.Common.{◌∙◌}
use Rattle.std.specs.Prelude.{Err}
use Rattle.opfs_outside.specs.Turns.{of_sink}
use Rattle.opfs_commands.proofs.Hosting.{later_by}
use Rattle.opfs_commands.proofs.RunHosts.{IsFetched, fetch-failed, fetch-short, others-at, ran-at}
use Rattle.opfs_commands.proofs.runs.run_at.Given.{Over}
use Rattle.opfs_commands.proofs.runs.run_at.Goals as goal
use Rattle.opfs_commands.proofs.runs.run_at.Goals.{After-end_at}

pub returns-in-Err-Failed-clause-ran : goal.returns-in-Err-Failed-clause-ran
returns-in-Err-Failed-clause-ran g c =
    fetch-failed g.H.Host g.K.Sink c.args.sink.now c.args.path.now c.args.script.now c.args.host.now c.fetch.new.self (λ t. c.fetch.ensures.images_stay t) (λ t. c.fetch.ensures.trails_stay t) c.host_answer.result
    (c.fetch.ensures.cause (c.in-Err-Failed.is ∙ (λ i. Err (c.in-Err-Failed.field-0-is i)))) c.host_answer.ensures.end c.host_answer.ensures.text

pub returns-in-Err-NoMemory-clause-ran : goal.returns-in-Err-NoMemory-clause-ran
returns-in-Err-NoMemory-clause-ran g c =
    fetch-short g.H.Host g.K.Sink c.args.sink.now c.args.path.now c.args.script.now c.args.host.now c.fetch.new.self (λ t. c.fetch.ensures.images_stay t) (λ t. c.fetch.ensures.trails_stay t) _

-- the disk that was fetched
fetched : (g : Over) (c : After-end_at g) → IsFetched g.H.Host g.H.D.Disk c.args.path.now c.args.host.now c.fetch.new.self c.in-Ok.disk
fetched g c =
    let laws = g.met.H.D.Disk g.world.𝓛 g.world.𝓜 g.world.𝓡 ((λ s x. x), (λ x. x), (λ x. x), λ x. x) in
    record {
      to_disk = g.met.H.Host.disk_tells;
      crashes = g.met.H.Host.disk_crashes;
      counted = λ x. g.met.H.Host.counted x;
      disk_counted = λ d. laws.counted d;
      fresh = c.in-Ok.ensures.fresh;
      falls = λ t d. laws.falls t d;
      first = c.in-Ok.ensures.first;
      one = c.in-Ok.ensures.one_image;
      there = c.in-Ok.ensures.content;
      images = λ t. c.fetch.ensures.images_stay t;
      trails = λ t. c.fetch.ensures.trails_stay t;
      own = c.fetch.ensures.own_later;
      later = later_by _ _ _ c.fetch.ensures.later;
    }

pub returns-clause-ran : goal.returns-clause-ran
returns-clause-ran g c =
    ran-at g.H.Host g.H.D.Disk (of_sink g.K.Sink c.args.sink.now c.run_on-disk.new.sink) c.args.path.now c.args.script.now c.args.host.now c.fetch.new.self c.end_at.new.host c.in-Ok.disk c.run_on-disk.result.0
    (fetched g (goal.at.returns-clause-ran g c).After-end_at) c.end_at.ensures.later c.end_at.ensures.returned c.end_at.ensures.back c.run_on-disk.result.1 c.end_at.result c.run_on-disk.ensures.ran c.end_at.ensures.kept

pub returns-clause-others : goal.returns-clause-others
returns-clause-others g c =
    others-at g.H.Host g.H.D.Disk (of_sink g.K.Sink c.args.sink.now c.run_on-disk.new.sink) c.args.path.now c.args.script.now c.args.host.now c.fetch.new.self c.end_at.new.host c.in-Ok.disk c.run_on-disk.result.0
    (fetched g (goal.at.returns-clause-others g c).After-end_at) c.end_at.ensures.later c.end_at.ensures.returned
