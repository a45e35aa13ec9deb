-- What a call of a party's agent does to two states that are the same to the party, and what a call of another's does.
use Rattle.std.proofs.Common.{◌≡◌, ℕ, suc, true, false, Option, sym, ap, ◌∙◌}
use Rattle.opfs_base.specs.Texts.{Text}
use Rattle.opfs_machine.specs.declared.own.Own.{Own}
use Rattle.opfs_machine.specs.declared.state.Party.{Party}
use Rattle.opfs_machine.specs.declared.state.State.{State}
use Rattle.opfs_machine.specs.Agents.{agent_of, with_agent, party_with, same_party}
use Rattle.opfs_machine.specs.Alone.{is_partys}
use Rattle.opfs_machine.specs.Rows.{row_at, children_of, with_row, with_file, without}
use Rattle.opfs_machine.specs.Victims.{is_callers}
use Rattle.opfs_laws.proofs.separation.Alike.{Alike, alike-then, row-alike, children-alike, agent-alike}
use Rattle.opfs_laws.proofs.separation.Follows.{Follows}
use Rattle.opfs_laws.proofs.separation.Parties.{partys-own, partys-other}
use Rattle.opfs_laws.proofs.separation.Small.{InOrder, put-ordered, file-ordered, without-ordered, with_mode, with_tag, put-both, file-both, without-both, agent-both, mode-both, tag-both, put-apart, file-apart, without-apart, mode-apart, tag-apart, agent-apart, key-acts, keys-act}

-- Two states in order that are the same to a party, and an agent's key in both.
pub record Ours (p : Party) (key : Option Text) (k : ℕ) (s t : State Text Own) : Type 0 where
  pub alike : Alike p s t
  pub left : InOrder s
  pub right : InOrder t
  pub keyed : (agent_of s k).key ≡ key
  pub beside : (agent_of t k).key ≡ key

-- One state in order that is the same to a party as the one before.
pub record Others (p : Party) (key : Option Text) (k : ℕ) (before s t : State Text Own) : Type 0 where
  pub same : s ≡ t
  pub alike : Alike p s before
  pub order : InOrder s
  pub keyed : (agent_of s k).key ≡ key
  pub keys : (j : ℕ) → (agent_of s j).key ≡ (agent_of before j).key

module _ (p : Party) (key : Option Text) (i : ℕ) (member : same_party p (party_with key (suc i)) ≡ true) where
  mine : (unit : Text) → is_callers key unit ≡ true → is_partys p unit ≡ true
  mine unit is = partys-own p key (suc i) unit member ∙ is

  ours : (s t : State Text Own) → Ours p key (suc i) s t → same_party p (party_with (agent_of s (suc i)).key (suc i)) ≡ true
  ours s t q = ap (λ x. same_party p (party_with x (suc i))) q.keyed ∙ member

  ours_too : (s t : State Text Own) → Ours p key (suc i) s t → same_party p (party_with (agent_of t (suc i)).key (suc i)) ≡ true
  ours_too s t q = ap (λ x. same_party p (party_with x (suc i))) q.beside ∙ member

  pub ours-follow : Follows key (suc i) (Ours p key (suc i))
  ours-follow = record {
    agent = λ s t q. agent-alike p s t q.alike (suc i) (ours s t q) (ours_too s t q);
    keyed = λ s t q. q.keyed;
    rows = λ s t place is q. row-alike p s t q.alike place (mine place.0 is);
    children = λ s t dir is q. children-alike p s t q.alike dir (mine dir.0 is);
    put = λ s t place r is q. record {
      alike = put-both p s t q.alike place r q.left q.right (mine place.0 is);
      left = put-ordered s place r q.left;
      right = put-ordered t place r q.right;
      keyed = q.keyed;
      beside = q.beside;
    };
    alter = λ s t place change is q. record {
      alike = file-both p s t q.alike place change (mine place.0 is);
      left = file-ordered s place change q.left;
      right = file-ordered t place change q.right;
      keyed = q.keyed;
      beside = q.beside;
    };
    remove = λ s t place is q. record {
      alike = without-both p s t q.alike place;
      left = without-ordered s place q.left;
      right = without-ordered t place q.right;
      keyed = q.keyed;
      beside = q.beside;
    };
    act = λ s t a is q. record {
      alike = agent-both p s t q.alike (suc i) a;
      left = q.left;
      right = q.right;
      keyed = key-acts s i a key is q.keyed;
      beside = key-acts t i a key is q.beside;
    };
    mode = λ s t unit is q. record { alike = mode-both p s t q.alike unit; left = q.left; right = q.right; keyed = q.keyed; beside = q.beside };
    post = λ s t tag q. record { alike = tag-both p s t q.alike (party_with key (suc i)) tag; left = q.left; right = q.right; keyed = q.keyed; beside = q.beside };
  }

module _ (p : Party) (key : Option Text) (i : ℕ) (stranger : same_party p (party_with key (suc i)) ≡ false) (before : State Text Own) where
  foreign : (unit : Text) → is_callers key unit ≡ true → is_partys p unit ≡ false
  foreign unit is = partys-other p key (suc i) unit stranger is

  theirs : (s t : State Text Own) → Others p key (suc i) before s t → same_party p (party_with (agent_of s (suc i)).key (suc i)) ≡ false
  theirs s t q = ap (λ x. same_party p (party_with x (suc i))) q.keyed ∙ stranger

  pub others-follow : Follows key (suc i) (Others p key (suc i) before)
  others-follow = record {
    agent = λ s t q. ap (λ x. agent_of x (suc i)) q.same;
    keyed = λ s t q. q.keyed;
    rows = λ s t place is q. ap (λ x. row_at x place) q.same;
    children = λ s t dir is q. ap (λ x. children_of x dir) q.same;
    put = λ s t place r is q. record {
      same = ap (λ x. with_row x place r) q.same;
      alike = alike-then p (with_row s place r) s before (put-apart p s place r q.order (foreign place.0 is)) q.alike;
      order = put-ordered s place r q.order;
      keyed = q.keyed;
      keys = q.keys;
    };
    alter = λ s t place change is q. record {
      same = ap (λ x. with_file x place change) q.same;
      alike = alike-then p (with_file s place change) s before (file-apart p s place change (foreign place.0 is)) q.alike;
      order = file-ordered s place change q.order;
      keyed = q.keyed;
      keys = q.keys;
    };
    remove = λ s t place is q. record {
      same = ap (λ x. without x place) q.same;
      alike = alike-then p (without s place) s before (without-apart p s place (foreign place.0 is)) q.alike;
      order = without-ordered s place q.order;
      keyed = q.keyed;
      keys = q.keys;
    };
    act = λ s t a is q. record {
      same = ap (λ x. with_agent x (suc i) a) q.same;
      alike = alike-then p (with_agent s (suc i) a) s before (agent-apart p s i a (theirs s t q) (is ∙ sym q.keyed)) q.alike;
      order = q.order;
      keyed = key-acts s i a key is q.keyed;
      keys = λ j. keys-act s i a (is ∙ sym q.keyed) j ∙ q.keys j;
    };
    mode = λ s t unit is q. record {
      same = ap (λ x. with_mode x unit) q.same;
      alike = alike-then p (with_mode s unit) s before (mode-apart p s unit (foreign unit is)) q.alike;
      order = q.order;
      keyed = q.keyed;
      keys = q.keys;
    };
    post = λ s t tag q. record {
      same = ap (λ x. with_tag x (party_with key (suc i)) tag) q.same;
      alike = alike-then p (with_tag s (party_with key (suc i)) tag) s before (tag-apart p s (party_with key (suc i)) tag stranger) q.alike;
      order = q.order;
      keyed = q.keyed;
      keys = q.keys;
    };
  }
