use Rattle.std.proofs.Common.{inl, sym, subst}
use Rattle.opfs_dump.specs.Loading.Laid.{StandsAs}
use Rattle.opfs_machine.specs.Openings.{empty_map}
use Rattle.opfs_commands.proofs.Hosting.{rose_later, host_rose, later_by, others_stay}
use Rattle.opfs_commands.proofs.Making.{done_text, formatted_stands, made_answer, made_ended}
use Rattle.opfs_commands.proofs.hosts.format_at.Goals as goal

pub returns-clause-answer : goal.returns-clause-answer
returns-clause-answer g c =
    let laws = g.met.H.Made.Disk in
    made_answer g.H.Host.tells g.H.Made.Disk.tells g.met.H.Host.made_tells _ _ _ _ _
    (λ told there t is. record { image = _; there = there; kind = is })
    (λ rose. host_rose _ _ _ _ _ _ c.in-Ok.ensures.fresh (later_by _ _ _ c.make.ensures.later) c.end_making.ensures.later (g.met.H.Host.counted _) (g.met.H.Host.counted _) (laws.counted _) rose)
    c.end_making.result c.format_disk-disk.result.1 _ (λ rose. inl (rose_later _ _ _ c.make.ensures.own_later rose)) c.format_disk-disk.ensures.answer c.end_making.ensures.kept

pub returns-clause-others : goal.returns-clause-others
returns-clause-others g c = λ told.
    others_stay g.H.Host c.args.host.now c.make.new.self c.end_making.new.host c.args.path.now
    (λ p other. record { image = c.make.ensures.images_stay told p; trail = λ d. c.make.ensures.trails_stay told p d }) (c.end_making.ensures.others told)

pub returns-clause-made : goal.returns-clause-made
returns-clause-made g c = λ told.
    made_ended g.H.Host c.args.host.now c.make.new.self c.end_making.new.host c.args.path.now (StandsAs c.args.geometry empty_map) _ _ c.make.ensures.own_later
    (λ d is. subst (StandsAs c.args.geometry empty_map) (sym is.1) (formatted_stands c.args.geometry _ (done_text _ _ _ c.format_disk-disk.result.1 is.0 c.format_disk-disk.ensures.answer (g.met.H.Host.made_tells told))))
    (record { image = c.make.ensures.images_stay told c.args.path.now; trail = λ d. c.make.ensures.trails_stay told c.args.path.now d })
    (c.end_making.ensures.whole told) (λ quiet unmade. c.end_making.ensures.unmade told quiet unmade)
