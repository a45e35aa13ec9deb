use Rattle.opfs_register.proofs.Tagged.{origins-has, origins-tell, alone-has, alone-tell}
use Rattle.opfs_register.proofs.circles.Circles.tell.Goals as goal

pub returns-in-Origin-clause-kept : goal.returns-in-Origin-clause-kept
returns-in-Origin-clause-kept c = rw (← c.self.view_is) (origins-has (record { origins = c.self.inside.origins.entries; alone = c.self.inside.alone.entries }) c.tell.new.circles.entries (λ k t. c.tell.ensures.kept k t))

pub returns-in-Origin-clause-told : goal.returns-in-Origin-clause-told
returns-in-Origin-clause-told c = rw (← c.self.view_is) (rw c.in-Origin.is (origins-tell (record { origins = c.self.inside.origins.entries; alone = c.self.inside.alone.entries }) c.tell.new.circles.entries c.in-Origin.origin c.args.tag.now (λ k t. c.tell.ensures.told k t)))

pub returns-in-Alone-clause-kept : goal.returns-in-Alone-clause-kept
returns-in-Alone-clause-kept c = rw (← c.self.view_is) (alone-has (record { origins = c.self.inside.origins.entries; alone = c.self.inside.alone.entries }) c.tell-in-Alone.new.circles.entries (λ k t. c.tell-in-Alone.ensures.kept k t))

pub returns-in-Alone-clause-told : goal.returns-in-Alone-clause-told
returns-in-Alone-clause-told c = rw (← c.self.view_is) (rw c.in-Alone.is (alone-tell (record { origins = c.self.inside.origins.entries; alone = c.self.inside.alone.entries }) c.tell-in-Alone.new.circles.entries c.in-Alone.number c.args.tag.now (λ k t. c.tell-in-Alone.ensures.told k t)))
