-- The members of an agent up to the brace that closes them.
use Rattle.std.proofs.Common.{◌≡◌, ℕ, ◌-◌, ◌≤◌, false, List, length, Some, None, refl, ◌∙◌, arith}
use Rattle.json.specs.Token.{Token}
use Rattle.json.specs.Json.{members, read_key, value}
use Rattle.json.proofs.Grammar.{read_key-shorter}
use Rattle.serde_json.specs.Data.{Members, no_members, put}
use Rattle.serde_json.specs.Read.{converted, of_members}
use Rattle.opfs_base.specs.Texts.{Text}
use Rattle.opfs_script_kept.specs.declared.reading.members.Draft.{Draft}
use Rattle.opfs_script_kept.specs.declared.reading.sums.Sums.{Sums}
use Rattle.opfs_script_kept.specs.Reading.Members.{AreMembers, Counts, Holds, TakesMember, told_of}
use Rattle.opfs_script_kept.specs.Reading.Steps.{ManySteps}
use Rattle.opfs_script_kept.specs.Reading.Sums.{IsWithin}
use Rattle.opfs_script_kept.proofs.reading.Grammar.{member-read, members-over}

-- What was read so far, and how it counts.
pub record Gathered (agent : ℕ) (first now : List Token) (draft : Draft) (none sums : Sums) : Type 0 where
  pub found : Members
  pub left : ℕ
  pub enough : length now ≤ left
  pub behind : length now ≤ length first
  pub tokens : converted (λ ms. of_members ms no_members) (members (value 124) (length first) first) ≡ converted (λ ms. of_members ms found) (members (value 124) left now)
  pub holds : Holds agent draft found
  pub many : ManySteps none (told_of draft.steps) sums
  pub within : IsWithin none → IsWithin sums

pub none-gathered : (agent : ℕ) (first : List Token) (none : Sums) → Gathered agent first first (record { key = None; grant = false; steps = None }) none none
none-gathered agent first none = record {
  found = no_members;
  left = length first;
  enough = omega arith;
  behind = omega arith;
  tokens = refl;
  holds = record { among = refl; key = tt; grant = refl; steps = tt };
  many = record { steps = omega arith; bytes = omega arith };
  within = λ within. within;
}

pub one-gathered : (agent : ℕ) (first now mid new : List Token) (name : Text) (draft more : Draft) (none sums counted : Sums) → Gathered agent first now draft none sums
    → read_key now ≡ Some (Some name, mid) → TakesMember agent name mid new draft more → Counts draft.steps sums more.steps counted → (IsWithin sums → IsWithin counted)
    → Gathered agent first new more none counted
one-gathered agent first now mid new name draft more none sums counted so key takes counts within =
    let enough = so.enough in
    let behind = so.behind in
    let less = takes.shorter in
    let shorter = read_key-shorter now (Some name) mid key in
    record {
      found = put name takes.value so.found;
      left = so.left - 1;
      enough = omega (arith, enough, less, shorter);
      behind = omega (arith, behind, less, shorter);
      tokens = so.tokens ∙ member-read (value 124) so.found so.left name now mid new takes.value (omega (arith, enough, shorter)) key takes.tokens;
      holds = takes.holds so.found so.holds;
      many = counts none so.many;
      within = λ before. within (so.within before);
    }

pub all-gathered : (agent : ℕ) (first now new : List Token) (draft : Draft) (none sums : Sums) → Gathered agent first now draft none sums → read_key now ≡ Some (None, new)
    → AreMembers agent first draft new
all-gathered agent first now new draft none sums so closed =
    let behind = so.behind in
    let shorter = read_key-shorter now None new closed in
    record {
      found = so.found;
      tokens = so.tokens ∙ members-over (value 124) so.found so.left now new so.enough closed;
      holds = so.holds;
      shorter = omega (arith, behind, shorter);
    }
