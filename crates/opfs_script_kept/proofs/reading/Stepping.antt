-- The steps of an agent, read one after another.
use Rattle.std.proofs.Common.{◌≡◌, ℕ, ◌+◌, ◌<◌, List, [], ◌∷◌, ◌++◌, length, Some, None, Ok, option_map, refl, sym, ap, ◌∙◌, subst, arith}
use Rattle.std.proofs.lemmas.List.{length-append}
use Rattle.std.proofs.lemmas.List.Sums.{sum_by-append}
use Rattle.json.specs.Token.{Token}
use Rattle.json.specs.Json.{after_end_array}
use Rattle.serde_json.specs.Data.{Data}
use Rattle.opfs_base.specs.Texts.{Text}
use Rattle.opfs_script.specs.declared.step.Step.{Step}
use Rattle.opfs_script.specs.Limits.{bytes_asked}
use Rattle.opfs_script.specs.Reading.{each_from, json_of, step_of}
use Rattle.opfs_script_kept.specs.Packed.Telling.{steps_told, told_by}
use Rattle.opfs_script_kept.specs.declared.reading.sums.Sums.{Sums}
use Rattle.opfs_script_kept.specs.Reading.Steps.{AreSteps, IsStep, ManySteps, TakesStep}
use Rattle.opfs_script_kept.specs.Reading.Sums.{IsWithin}
use Rattle.opfs_script_kept.specs.Reading.Values.{IsValue}
use Rattle.opfs_script_kept.proofs.reading.Telling.{Tells, each-push, not-refused, some-asked, tells-push, tells-told, text-told, whatever-numbers}
use Rattle.opfs_script_kept.proofs.reading.Values.{SoFar, all-so-far, none-so-far, one-more-so-far, shorter-so-far}

pub is-step : (old new : List Token) (text : Text) (d : Data) (asked : ℕ) → IsValue 123 old d new → length new < length old → json_of text ≡ Some d
    → Some asked ≡ option_map bytes_asked (told_by (Some d)) → IsStep old new text asked
is-step old new text d asked tokens shorter is bytes =
    let step = some-asked (told_by (Some d)) asked bytes in
    record {
      value = d;
      step = step.0;
      tokens = tokens;
      shorter = shorter;
      read = not-refused (step_of 0 0 d) step.0 step.1;
      told = text-told text d step.0 is step.1;
      bytes = step.2;
    }

-- These texts were read so far, and count as these sums.
pub record Steps (first now : List Token) (texts : List Text) (none sums : Sums) : Type 0 where
  pub values : List Data
  pub steps : List Step
  pub far : SoFar 123 first values now
  pub read : (agent : ℕ) → each_from (step_of agent) 1 values ≡ Ok steps
  pub told : Tells texts steps
  pub many : ManySteps none steps sums
  pub within : IsWithin none → IsWithin sums

pub no-steps : (first : List Token) (none : Sums) → Steps first first [] none none
no-steps first none = record {
  values = [];
  steps = [];
  far = none-so-far 123 first;
  read = λ agent. refl;
  told = tt;
  many = record { steps = omega arith; bytes = omega arith };
  within = λ within. within;
}

pub one-step : (first now new : List Token) (texts more : List Text) (none sums counted : Sums) → Steps first now texts none sums → after_end_array now ≡ None
    → TakesStep now new texts more sums counted → Steps first new more none counted
one-step first now new texts more none sums counted so going takes =
    let many = so.many in
    let is = takes.is in
    record {
      values = so.values ++ is.value ∷ [];
      steps = so.steps ++ is.step ∷ [];
      far = one-more-so-far 123 first so.values now new is.value so.far going is.tokens is.shorter;
      read = λ agent. each-push (step_of agent) 1 so.values is.value so.steps is.step (so.read agent) (whatever-numbers 0 0 agent (1 + length so.values) is.value is.step is.read);
      told = subst (λ texts. Tells texts (so.steps ++ is.step ∷ [])) (sym takes.kept) (tells-push texts so.steps takes.text is.step so.told is.told);
      many = record {
        steps = omega (arith, many.steps, takes.steps, length-append so.steps (is.step ∷ []));
        bytes = omega (arith, many.bytes, takes.bytes, is.bytes, sum_by-append bytes_asked so.steps (is.step ∷ []));
      };
      within = λ before. takes.within;
    }

pub are-steps : (first now new : List Token) (texts : List Text) (none sums : Sums) → Steps first now texts none sums → after_end_array now ≡ Some new → AreSteps first (steps_told texts) new
are-steps first now new texts none sums so closed = record {
  values = so.values;
  tokens = all-so-far 123 first so.values now new so.far closed;
  shorter = shorter-so-far 123 first so.values now new so.far closed;
  read = λ agent. so.read agent ∙ ap Ok (sym (tells-told texts so.steps so.told));
}

pub many-steps : (first now : List Token) (texts : List Text) (none sums : Sums) → Steps first now texts none sums → ManySteps none (steps_told texts) sums
many-steps first now texts none sums so = subst (λ steps. ManySteps none steps sums) (sym (tells-told texts so.steps so.told)) so.many
