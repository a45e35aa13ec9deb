use Rattle.std.proofs.Common.{◌∙◌}
use Rattle.opfs_register.proofs.Tagged.{origins-told, origins-kept}
use Rattle.opfs_register.proofs.circles.Circles.prepare_origin.Goals as goal

pub returns-in_err-add_circle-clause-kept : goal.returns-in_err-add_circle-clause-kept
returns-in_err-add_circle-clause-kept c = rw (← c.self.view_is) (origins-kept (record { origins = c.self.inside.origins.entries; alone = c.self.inside.alone.entries }) c.add_circle.new.circles.entries (λ k t there. c.add_circle.ensures.kept k t there))

pub returns-in_err-add_circle-clause-told : goal.returns-in_err-add_circle-clause-told
returns-in_err-add_circle-clause-told c = rw (← c.self.view_is) (origins-told (record { origins = c.self.inside.origins.entries; alone = c.self.inside.alone.entries }) c.add_circle.new.circles.entries (λ k t. c.add_circle.ensures.told k t))

pub returns-in_err-prepare_at-clause-kept : goal.returns-in_err-prepare_at-clause-kept
returns-in_err-prepare_at-clause-kept c = rw (← c.self.view_is) (origins-kept (record { origins = c.self.inside.origins.entries; alone = c.self.inside.alone.entries }) c.prepare_at.new.circles.entries (λ k t there. c.prepare_at.ensures.kept k t (c.add_circle.ensures.kept k t there)))

pub returns-in_err-prepare_at-clause-told : goal.returns-in_err-prepare_at-clause-told
returns-in_err-prepare_at-clause-told c = rw (← c.self.view_is) (origins-told (record { origins = c.self.inside.origins.entries; alone = c.self.inside.alone.entries }) c.prepare_at.new.circles.entries (λ k t. c.prepare_at.ensures.told k t ∙ c.add_circle.ensures.told k t))

pub returns-clause-kept : goal.returns-clause-kept
returns-clause-kept c = rw (← c.self.view_is) (origins-kept (record { origins = c.self.inside.origins.entries; alone = c.self.inside.alone.entries }) c.prepare_at.new.circles.entries (λ k t there. c.prepare_at.ensures.kept k t (c.add_circle.ensures.kept k t there)))

pub returns-clause-told : goal.returns-clause-told
returns-clause-told c = rw (← c.self.view_is) (origins-told (record { origins = c.self.inside.origins.entries; alone = c.self.inside.alone.entries }) c.prepare_at.new.circles.entries (λ k t. c.prepare_at.ensures.told k t ∙ c.add_circle.ensures.told k t))
