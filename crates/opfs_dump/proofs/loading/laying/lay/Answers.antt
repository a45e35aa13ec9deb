use Rattle.opfs_dump.proofs.loading.laying.lay.Goals as goal

pub lay_on-requires-clause-range : goal.lay_on-requires-clause-range
lay_on-requires-clause-range g c = c.args.dumped.now.range

pub lay_on-requires-clause-few : goal.lay_on-requires-clause-few
lay_on-requires-clause-few g c = c.args.dumped.now.few

pub lay_on-requires-clause-fits : goal.lay_on-requires-clause-fits
lay_on-requires-clause-fits g c = c.args.dumped.now.room
