use Rattle.opfs_desk_steps.proofs.iterating.Known.{after-forgetting}
use Rattle.opfs_desk_steps.proofs.iterating.iterators.Iterators.follow.Goals as goal

pub returns : goal.returns
returns c =
    after-forgetting c.args.call c.args.last c.args.acted.now.reply c.args.acted.now.gift c.args.past.now c.args.self.now c.forget.new.self c.reach.new.self c.forget.ensures.all c.forget.ensures.none
    c.reach.ensures
