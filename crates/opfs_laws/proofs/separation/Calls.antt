-- What a call leaves of the facts on which separation rests.
use Rattle.std.proofs.Common.{◌≡◌, ◌==◌, ℕ, zero, suc, Bool, true, false, List, [], ◌∷◌, fold, Option, Some, None, refl, sym, ◌∙◌, subst, arith}
use Rattle.std.proofs.lemmas.Bool.Decides.{nat_tests}
use Rattle.opfs_base.specs.Texts.{Text}
use Rattle.opfs_hist.specs.declared.op.Op.{Op}
use Rattle.opfs_hist.specs.declared.reply.Reply.{Reply}
use Rattle.opfs_machine.specs.declared.own.Own.{Own}
use Rattle.opfs_machine.specs.declared.state.Party.{Party}
use Rattle.opfs_machine.specs.declared.state.Party.TheVariants.{Alone}
use Rattle.opfs_machine.specs.declared.state.State.{State}
use Rattle.opfs_machine.specs.Agents.{agent_of, party_with, same_party}
use Rattle.opfs_machine.specs.Contents.{in_bytes}
use Rattle.opfs_machine.specs.Effects.{effect, refused}
use Rattle.opfs_machine.specs.Histories.{may_enter}
use Rattle.opfs_machine.specs.Replies.{sizes_of}
use Rattle.opfs_machine.specs.Steps.{evicted, changed_by, after_reply, is_refusal}
use Rattle.opfs_laws.proofs.separation.Alike.{Alike, alike-same}
use Rattle.opfs_laws.proofs.separation.Clearing.{evicted-ordered}
use Rattle.opfs_laws.proofs.separation.Follows.{Pair, Follows, IsPlain, effect-follows, refused-follows}
use Rattle.opfs_laws.proofs.OwnFiles.{OwnFiles, changed-keeps}
use Rattle.opfs_laws.proofs.separation.Sides.{Ours, Others, ours-follow, others-follow}
use Rattle.opfs_laws.proofs.separation.Small.{InOrder}

-- A number that is not 0.
abbrev pub IsAbove : ℕ → Type 0
IsAbove k = (i : ℕ) × (k ≡ suc i)

pub live-above : (s : State Text Own) (k : ℕ) → (agent_of s k).live ≡ true → IsAbove k
live-above s zero h = cc
live-above s (suc i) h = (i, refl)

pub ours-at : (p : Party) (key : Option Text) (k : ℕ) → IsAbove k → same_party p (party_with key k) ≡ true → Follows key k (Ours p key k)
ours-at p key k above member =
    subst (λ j. same_party p (party_with key j) ≡ true → Follows key j (Ours p key j)) (sym above.1) (λ m. ours-follow p key above.0 m) member

pub others-at : (p : Party) (key : Option Text) (k : ℕ) (before : State Text Own) → IsAbove k → same_party p (party_with key k) ≡ false → Follows key k (Others p key k before)
others-at p key k before above stranger =
    subst (λ j. same_party p (party_with key j) ≡ false → Follows key j (Others p key j before)) (sym above.1) (λ m. others-follow p key above.0 m before) stranger

abbrev by_refusal : Bool → State Text Own → State Text Own → State Text Own
by_refusal b refused done = elim b [ true ↦ refused | false ↦ done ]

-- What a call changes in two states, by what it answered.
pub changed-follows : (key : Option Text) (k : ℕ) (Q : Pair) → Follows key k Q → IsPlain key → (s t : State Text Own) (o : Op) (answered : Reply)
    → may_enter s k o ≡ true → OwnFiles s → sizes_of s k o ≡ sizes_of t k o → Q s t → Q (changed_by s k o answered) (changed_by t k o answered)
changed-follows key k Q f plain s t o answered may files sizes q =
    let done : Q (effect in_bytes s (sizes_of s k o) k o) (effect in_bytes t (sizes_of t k o) k o) =
    subst (λ z. Q (effect in_bytes s (sizes_of s k o) k o) (effect in_bytes t z k o)) sizes (effect-follows key k Q f plain s t (sizes_of s k o) o may files q)
    in
    elim (is_refusal answered) as (λ b. Q (by_refusal b (refused s k o) (effect in_bytes s (sizes_of s k o) k o)) (by_refusal b (refused t k o) (effect in_bytes t (sizes_of t k o) k o))) [
      | true ↦ refused-follows key k Q f s t o q
      | false ↦ done
    ]

-- What holds of a state that a legal history reaches.
pub record Kept (keys : ℕ → Option Text) (s : State Text Own) : Type 0 where
  pub files : OwnFiles s
  pub order : InOrder s
  pub keyed : (k : ℕ) → (agent_of s k).key ≡ keys k

pub kept-evicted : (keys : ℕ → Option Text) (gone : List Text) (s : State Text Own) → Kept keys s → Kept keys (fold evicted s gone)
kept-evicted keys [] s h = h
kept-evicted keys (g ∷ gone) s h =
    kept-evicted keys gone (evicted s g) (record { files = h.files; order = evicted-ordered s g h.order; keyed = h.keyed })

-- No agent is of this party.
nobodys : (key : Option Text) (i : ℕ) → same_party (Alone 0) (party_with key (suc i)) ≡ false
nobodys None i = no_zero i
  where
    no_zero : (i : ℕ) → (0 == suc i) ≡ false
    no_zero i = grind (arith, nat_tests)
nobodys (Some key) i = refl

nobodys-at : (key : Option Text) (k : ℕ) → IsAbove k → same_party (Alone 0) (party_with key k) ≡ false
nobodys-at key k above = subst (λ j. same_party (Alone 0) (party_with key j) ≡ false) (sym above.1) (nobodys key above.0)

-- A call leaves what another party sees.
pub call-apart : (p : Party) (keys : ℕ → Option Text) (s : State Text Own) (k : ℕ) (o : Op) (answered : Reply)
    → IsAbove k → IsPlain (keys k) → same_party p (party_with (keys k) k) ≡ false → may_enter s k o ≡ true → Kept keys s
    → Others p (keys k) k s (changed_by s k o answered) (changed_by s k o answered)
call-apart p keys s k o answered above plain stranger may h =
    changed-follows (keys k) k (Others p (keys k) k s) (others-at p (keys k) k s above stranger) plain s s o answered may h.files refl
    (record { same = refl; alike = alike-same p s; order = h.order; keyed = h.keyed k; keys = λ j. refl })

-- A call keeps what holds of each state.
pub kept-after : (keys : ℕ → Option Text) (s : State Text Own) (k : ℕ) (o : Op) (answered : Reply)
    → IsAbove k → IsPlain (keys k) → may_enter s k o ≡ true → Kept keys s → Kept keys (after_reply s k o answered)
kept-after keys s k o answered above plain may h =
    let q = call-apart (Alone 0) keys s k o answered above plain (nobodys-at (keys k) k above) may h in
    record {
      files = changed-keeps s k o answered may h.files;
      order = q.order;
      keyed = λ j. q.keys j ∙ h.keyed j;
    }

pub after-apart : (p : Party) (keys : ℕ → Option Text) (s : State Text Own) (k : ℕ) (o : Op) (answered : Reply)
    → IsAbove k → IsPlain (keys k) → same_party p (party_with (keys k) k) ≡ false → may_enter s k o ≡ true → Kept keys s
    → Alike p (after_reply s k o answered) s
after-apart p keys s k o answered above plain stranger may h =
    let a = (call-apart p keys s k o answered above plain stranger may h).alike in
    record { rows = a.rows; modes = a.modes; tags = a.tags; agents = a.agents; quota = a.quota }

-- A call of the party's agent, in two states that are the same to it.
pub after-both : (p : Party) (key : Option Text) (s t : State Text Own) (k : ℕ) (o : Op) (answered : Reply)
    → IsAbove k → IsPlain key → same_party p (party_with key k) ≡ true → may_enter s k o ≡ true → OwnFiles s → sizes_of s k o ≡ sizes_of t k o → Ours p key k s t
    → Ours p key k (after_reply s k o answered) (after_reply t k o answered)
after-both p key s t k o answered above plain member may files sizes q =
    let b = changed-follows key k (Ours p key k) (ours-at p key k above member) plain s t o answered may files sizes q in
    let a = b.alike in
    record {
      alike = record { rows = a.rows; modes = a.modes; tags = a.tags; agents = a.agents; quota = a.quota };
      left = b.left;
      right = b.right;
      keyed = b.keyed;
      beside = b.beside;
    }
