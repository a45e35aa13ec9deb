use Rattle.std.proofs.Common.{◌≡◌, [], ◌∷◌, sym, subst, rules}
use Rattle.std.specs.Prelude.{IsTrue, codes}
use Rattle.json.specs.Token.{Token}
use Rattle.opfs_script.specs.Limits.{fits_limits}
use Rattle.opfs_script_kept.specs.Reading.Agents.{AreAgents, IsScript}
use Rattle.opfs_script_kept.proofs.reading.Topping.{script-read}
use Rattle.opfs_script_kept.proofs.reading.reading.read_script.Goals as goal

pub returns-then-ends : goal.returns-then-ends
returns-then-ends c =
    let old = c.args.reader.now in
    let first = c.begins.new.reader in
    let rest = c.read_agents.new.reader in
    let agents = c.in-Some.agents.items in
    let begun : old ≡ Token.begin_object ∷ Token.key (codes "agents") ∷ Token.begin_array ∷ first = c.begins.ensures (search rules) in
    let all : AreAgents first agents rest = rw c.in-Some.is at c.in_ok-agents.ensures.read in
    let fits : IsTrue (fits_limits agents) = rw c.in-Some.is at c.in_ok-agents.ensures.limits in
    let ended : rest ≡ Token.end_object ∷ [] = c.ends.ensures (search rules) in
    subst (IsScript old) (sym c.make.ensures) (script-read old first rest agents begun all ended fits)
