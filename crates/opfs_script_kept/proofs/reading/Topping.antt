-- A script, by its tokens.
use Rattle.std.proofs.Common.{◌≡◌, ℕ, ◌-◌, ◌≤◌, true, false, List, [], ◌∷◌, length, Option, Some, None, Ok, Err, refl, ap, ◌∙◌, subst, arith}
use Rattle.std.specs.Prelude.{IfSome, IsTrue, codes}
use Rattle.std.specs.Str.{IsUtf8}
use Rattle.json.specs.Token.{Token}
use Rattle.json.specs.Json.{members, parse_map, read_key, value}
use Rattle.json.specs.Lex.{tokens}
use Rattle.json.proofs.Grammar.{value-begin_object}
use Rattle.serde_json.specs.Data.{array, object, no_members, put}
use Rattle.serde_json.specs.Read.{converted, of_json, read}
use Rattle.serde_json.specs.View.{items_of}
use Rattle.opfs_script.specs.declared.refusal.ScriptRefusal.TheVariants as refused
use Rattle.opfs_script.specs.Limits.{fits_limits}
use Rattle.opfs_script.specs.Reading.{agent_of, each_from, if_json, if_within, reads, ◌>>=◌}
use Rattle.opfs_script.specs.Scripts.{Asked}
use Rattle.opfs_script.proofs.HeadLemmas.{values_of-items_of}
use Rattle.opfs_script.proofs.JsonLemmas.{json_of-text}
use Rattle.opfs_script_kept.specs.Reading.Agents.{AreAgents, IsScript}
use Rattle.opfs_script_kept.specs.Reading.Values.{IsValue}
use Rattle.opfs_script_kept.proofs.reading.Grammar.{member-read, members-over, of-object, whole-read}
use Rattle.opfs_script_kept.proofs.reading.Naming.{array-value}

pub script-read : (old first rest : List Token) (agents : List Asked) → old ≡ Token.begin_object ∷ Token.key (codes "agents") ∷ Token.begin_array ∷ first → AreAgents first agents rest
    → rest ≡ Token.end_object ∷ [] → IsTrue (fits_limits agents) → IsScript old agents
script-read old first rest agents begun all ended fits =
    let inner = Token.key (codes "agents") ∷ Token.begin_array ∷ first in
    let listed = array (items_of all.values) in
    let found = put (codes "agents") listed no_members in
    let one : IsValue 126 (Token.begin_array ∷ first) listed rest = array-value 126 (Token.begin_array ∷ first) first rest all.values (omega arith) refl all.tokens in
    let closed : read_key rest ≡ Some (None, []) = ap read_key ended in
    let enough : length rest ≤ length inner - 1 = omega (arith, ap length ended) in
    record {
      value = object found;
      tokens = ap (converted of_json) (ap (value 127) begun ∙ value-begin_object 127 inner (omega arith))
          ∙ of-object (members (value 126) (length inner) inner)
          ∙ ap (parse_map object) (member-read (value 126) no_members (length inner) (codes "agents") inner (Token.begin_array ∷ first) rest listed (omega arith) refl one
          ∙ members-over (value 126) found (length inner - 1) rest [] enough closed);
      read = ap (λ vs. each_from agent_of 1 vs >>= if_within) (values_of-items_of all.values)
          ∙ ap (λ r. r >>= if_within) all.read
          ∙ ap (λ b. elim b [ true ↦ Ok agents | false ↦ Err refused.TooMany ]) fits;
    }

pub packed-read : (bytes : List ℕ) (script : List Asked) → IsUtf8 bytes → IsScript (tokens bytes) script → reads bytes ≡ Ok script
unfolding reads
packed-read bytes script utf8 is =
    let whole : read bytes ≡ Some is.value = whole-read (value 127 (tokens bytes)) is.value is.tokens in
    ap if_json (json_of-text bytes utf8 ∙ whole) ∙ is.read

pub packed-as-read : (bytes : List ℕ) (ts : List Token) (o : Option (List Asked)) → IsUtf8 bytes → ts ≡ tokens bytes → IfSome o (IsScript ts) → IfSome o (λ script. reads bytes ≡ Ok script)
packed-as-read bytes ts None utf8 same is = is
packed-as-read bytes ts (Some script) utf8 same is = packed-read bytes script utf8 (subst (λ ts. IsScript ts script) same is)
