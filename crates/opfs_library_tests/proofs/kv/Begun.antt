-- The one agent of a store.
use Rattle.std.proofs.Common.{◌≡◌, List, map, ap, arith}
use Rattle.opfs_base.specs.Texts.{Text}
use Rattle.opfs_codec.specs.Spelling.{IsText, is_origin_text}
use Rattle.opfs_machine.specs.Agents.{agent_in, agent_of}
use Rattle.opfs_machine.specs.Openings.{Opening, Who, agent_begun, begun}
use Rattle.opfs_machine.specs.declared.own.Own.{Own}
use Rattle.opfs_machine.specs.declared.state.Agent.{Agent}
use Rattle.opfs_notebook.specs.Ready.{IsAgentOf, asks}
use Rattle.opfs_library_tests.specs.Kv.Sessions.{IsOneAgent}

pub alone-of : (o : Opening) (key : Text) → IsOneAgent o key → IsText is_origin_text key → IsAgentOf o 1 key
alone-of o key is text =
    let same : agent_of (begun o) 1 ≡ agent_begun (asks key) = ap (λ (ws : List Who). agent_in (map agent_begun ws) 1) is in
    record {
      real = λ none. omega (arith, none);
      text = text;
      live = ap (λ (a : Agent Own). a.live) same;
      own_key = ap (λ (a : Agent Own). a.key) same;
      none = ap (λ (a : Agent Own). a.own) same;
    }
