-- The agents of a script, one after another.
use Rattle.std.proofs.Common.{◌≡◌, ◌+◌, ◌≤◌, List, [], ◌∷◌, ◌++◌, length, Some, None, Ok, refl, sym, ap, ◌∙◌, subst, arith}
use Rattle.std.specs.Prelude.{IsTrue}
use Rattle.std.proofs.lemmas.Bool.Decides.{nat_tests}
use Rattle.std.proofs.lemmas.List.{length-append}
use Rattle.std.proofs.lemmas.List.Sums.{sum_by-append}
use Rattle.json.specs.Token.{Token}
use Rattle.json.specs.Json.{after_end_array}
use Rattle.serde_json.specs.Data.{Data}
use Rattle.opfs_script.specs.Limits.{bytes_of_agent, bytes_of_all, fits_limits, steps_of_all}
use Rattle.opfs_script.specs.Reading.{agent_of, each_from}
use Rattle.opfs_script.specs.Scripts.{Asked}
use Rattle.opfs_script_kept.specs.declared.reading.sums.Sums.{Sums}
use Rattle.opfs_script_kept.specs.Reading.Agents.{AreAgents, TakesAgent}
use Rattle.opfs_script_kept.specs.Reading.Sums.{IsWithin}
use Rattle.opfs_script_kept.proofs.reading.Telling.{each-push}
use Rattle.opfs_script_kept.proofs.reading.Values.{SoFar, all-so-far, none-so-far, one-more-so-far}

-- These agents were read so far, and count as these sums.
pub record Listed (first now : List Token) (agents : List Asked) (sums : Sums) : Type 0 where
  pub values : List Data
  pub far : SoFar 125 first values now
  pub read : each_from agent_of 1 values ≡ Ok agents
  pub many : length values ≡ length agents
  pub steps : sums.steps ≡ steps_of_all agents
  pub bytes : sums.bytes ≡ bytes_of_all agents
  pub few : length agents ≤ 64
  pub within : IsWithin sums

pub none-listed : (first : List Token) → Listed first first [] (record { steps = 0; bytes = 0 })
none-listed first = record {
  values = [];
  far = none-so-far 125 first;
  read = refl;
  many = refl;
  steps = refl;
  bytes = refl;
  few = omega arith;
  within = (omega arith, omega arith);
}

pub one-listed : (first now new : List Token) (agents more : List Asked) (sums counted : Sums) → Listed first now agents sums → after_end_array now ≡ None
    → TakesAgent now new agents more sums counted → Listed first new more counted
one-listed first now new agents more sums counted so going takes =
    let is = takes.is in
    let asked = takes.asked in
    let added = takes.many in
    let pushed : Listed first new (agents ++ asked ∷ []) counted = record {
      values = so.values ++ is.value ∷ [];
      far = one-more-so-far 125 first so.values now new is.value so.far going is.tokens is.shorter;
      read = each-push agent_of 1 so.values is.value agents asked so.read (ap (λ n. agent_of (1 + n) is.value) so.many ∙ is.read);
      many = omega (arith, so.many, length-append so.values (is.value ∷ []), length-append agents (asked ∷ []));
      steps = omega (arith, so.steps, added.steps, sum_by-append (λ a. length a.steps) agents (asked ∷ []));
      bytes = omega (arith, so.bytes, added.bytes, sum_by-append bytes_of_agent agents (asked ∷ []));
      few = omega (arith, takes.few, length-append agents (asked ∷ []));
      within = takes.within so.within;
    } in
    subst (λ listed. Listed first new listed counted) (sym takes.kept) pushed

pub all-listed : (first now new : List Token) (agents : List Asked) (sums : Sums) → Listed first now agents sums → after_end_array now ≡ Some new → AreAgents first agents new
all-listed first now new agents sums so closed = record { values = so.values; tokens = all-so-far 125 first so.values now new so.far closed; read = so.read }

pub all-fit : (first now : List Token) (agents : List Asked) (sums : Sums) → Listed first now agents sums → IsTrue (fits_limits agents)
all-fit first now agents sums so = grind (arith, nat_tests, so.steps, so.bytes, so.few, so.within)
