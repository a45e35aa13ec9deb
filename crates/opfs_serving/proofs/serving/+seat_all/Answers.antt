use Rattle.std.proofs.Common.{◌≡◌, ◌∷◌, [], ◌++◌, Some, None, rules}
use Rattle.std.specs.Vec.{vec_capacity}
use Rattle.opfs_serving.proofs.Placing.{seats-front, seats-more, seats-room}
use Rattle.opfs_serving.proofs.serving.+seat_all.Goals as goal

pub seat_all-requires : goal.seat_all-requires
seat_all-requires g t c κs within =
    let agents = c.args.agents.now.items in
    let rest = c.pop-2.new.self.items in
    let a = c.unwrap-agent.result in
    let hands = c.args.hands.now.items in
    let front = c.pop.new.self.items in
    let h = c.in-Some.hand in
    let split : agents ≡ rest ++ a ∷ [] = search rules in
    let parted : hands ≡ front ++ h ∷ [] = search rules in (
      search rules,
      (
        within.0,
        (
          within.1,
          (
            seats-front g.S.Store.tells agents rest a hands front h split parted c.requires.count,
            (c.requires.none, seats-room g.S.Store.tells agents rest a hands front h split parted c.requires.count (vec_capacity c.args.seats.now) c.requires.room),
          ),
        ),
      ),
    )

pub returns-clause-seated : goal.returns-clause-seated
returns-clause-seated g t c =
    let agents = c.args.agents.now.items in
    let rest = c.pop-2.new.self.items in
    let a = c.unwrap-agent.result in
    let hands = c.args.hands.now.items in
    let front = c.pop.new.self.items in
    let h = c.in-Some.hand in
    let split : agents ≡ rest ++ a ∷ [] = search rules in
    let parted : hands ≡ front ++ h ∷ [] = search rules in
    rw c.push_reserved.ensures.items (seats-more g.S.Store.tells agents rest a hands front h split parted c.requires.count c.seat_all.new.seats.items (record { agent = Some a; rows = c.new.result.items; hand = h; awaits = None }) (search rules) c.know_kept.ensures c.seat_all.ensures.seated)
