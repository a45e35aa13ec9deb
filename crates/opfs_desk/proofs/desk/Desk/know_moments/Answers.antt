use Rattle.opfs_desk.proofs.desk.Desk.know_moments.Goals as goal

pub returns-clause-fronts : goal.returns-clause-fronts
returns-clause-fronts g c = rw (← c.self.view_is) c.self.invariant.rest.fronts

pub returns-clause-keeps : goal.returns-clause-keeps
returns-clause-keeps g c = rw (← c.self.view_is) c.self.invariant.rest.keeps
