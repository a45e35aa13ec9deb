use Rattle.std.proofs.Common.{◌≡◌, Option, sym, ◌∙◌, ap, subst}
use Rattle.std.specs.Prelude.{IfSome, option_copied}
use Rattle.opfs_memory.specs.Shelves.{image_in, Spot}
use Rattle.opfs_memory.proofs.Shelving.{Found, found, missing}
use Rattle.opfs_memory.proofs.mem_host.MemHost.image.Goals as goal

pub returns-in-Some : goal.returns-in-Some
returns-in-Some c =
    let here : Found c.args.path.now c.args.self.now.places c.in-Some.at = found c.args.path.now c.args.self.now.places c.in-Some.at (sym c.in-Some.ensures) in
    subst (λ o. IfSome o (λ spot. option_copied c.seen_at.result ≡ spot.image)) here.get c.seen_at.ensures
    ∙ sym (ap (λ (o : Option Spot). image_in o) here.first)

pub returns-in-None : goal.returns-in-None
returns-in-None c =
    let none = missing c.args.path.now c.args.self.now.places (sym c.in-None.ensures) in
    sym (ap (λ (o : Option Spot). image_in o) none)
