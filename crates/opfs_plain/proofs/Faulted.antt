-- When a call may be answered with a disk fault.
use Rattle.std.proofs.Common.{◌≡◌, ℕ, ◌+◌, ◌<◌, true, false, List, ◌++◌, length, take, drop, Option, Some, None, Ok, Err, refl, sym, ap, ◌∙◌, arith, length-append}
use Rattle.std.specs.Prelude.{IfSome, IfNone}
use Rattle.std.proofs.lemmas.Bool.{false≢true}
use Rattle.std.proofs.lemmas.List.{take-append-drop}
use Rattle.opfs_base.specs.Texts.{Text}
use Rattle.opfs_hist.specs.declared.op.Op.{Op}
use Rattle.opfs_hist.specs.declared.reply.Refusal.{Refusal}
use Rattle.opfs_hist.specs.declared.reply.Refusal.TheVariants.{DiskFault}
use Rattle.opfs_hist.specs.declared.reply.Reply.TheVariants.{No}
use Rattle.opfs_machine.specs.declared.own.Own.{Own}
use Rattle.opfs_machine.specs.declared.state.State.{State}
use Rattle.opfs_machine.specs.Histories.{IsFault, is_disk_op}
use Rattle.opfs_machine.specs.Replies.{sizes_of}
use Rattle.opfs_machine.specs.Steps.{is_refusal, outcome_of, judged, step}
use Rattle.opfs_laws.proofs.Accepted.{answer-accepted}
use Rattle.opfs_plain.specs.Faults.{MayFault}

step-refused : (s : State Text Own) (k : ℕ) (op : Op) (r : Refusal) → judged s k op ≡ Err r → is_refusal (step s k op).answered ≡ true
unfolding step outcome_of
step-refused s k op r is = ap (λ t. is_refusal (outcome_of s k op t).answered) is

step-accepted : (s : State Text Own) (k : ℕ) (op : Op) (units : List Text) → judged s k op ≡ Ok units → is_refusal (step s k op).answered ≡ false
unfolding step outcome_of
step-accepted s k op units is = ap (λ t. is_refusal (outcome_of s k op t).answered) is ∙ answer-accepted s (sizes_of s k op) k op

step-victims : (s : State Text Own) (k : ℕ) (op : Op) (units : List Text) → judged s k op ≡ Ok units → (step s k op).victims ≡ units
unfolding step outcome_of
step-victims s k op units is = ap (λ t. (outcome_of s k op t).victims) is

-- A call that is not refused and may need the disk, after any front of its evictions.
pub front-faults : (s : State Text Own) (k : ℕ) (op : Op) (units front : List Text) (count : ℕ) → judged s k op ≡ Ok units → is_disk_op s k op ≡ true
    → front ≡ take count units → IsFault s front k op (No DiskFault) (step s k op)
front-faults s k op units front count is disk cut = record {
  told = refl;
  accepted = step-accepted s k op units is;
  disk = disk;
  front = (drop count units, step-victims s k op units is ∙ sym (take-append-drop count units) ∙ ap (λ t. t ++ drop count units) (sym cut));
}

-- A refused call has no disk fault.
pub no-fault-refused : (s : State Text Own) (k : ℕ) (op : Op) (r : Refusal) (count : ℕ) → judged s k op ≡ Err r → MayFault s count k op → ⊥
no-fault-refused s k op r count is may = false≢true (sym may.fault.accepted ∙ step-refused s k op r is)

-- Nor may more units be cleared before it than the call would have cleared.
pub no-fault-few : (s : State Text Own) (k : ℕ) (op : Op) (units : List Text) (count : ℕ) → judged s k op ≡ Ok units → length units < count → MayFault s count k op → ⊥
no-fault-few s k op units count is few may =
    let whole : units ≡ may.gone ++ may.fault.front.0 = sym (step-victims s k op units is) ∙ may.fault.front.1 in
    let sizes : length units ≡ length may.gone + length may.fault.front.0 = ap length whole ∙ length-append may.gone may.fault.front.0 in
    omega (arith, sizes, few, may.many)

-- The same where the front is looked for.
pub front-found : (s : State Text Own) (k : ℕ) (op : Op) (units : List Text) (count : ℕ) (found : Option (List Text)) → judged s k op ≡ Ok units
    → is_disk_op s k op ≡ true → IfSome found (λ front. front ≡ take count units)
    → IfSome found (λ front. IsFault s front k op (No DiskFault) (step s k op))
front-found s k op units count None is disk cut = tt
front-found s k op units count (Some front) is disk cut = front-faults s k op units front count is disk cut

pub few-found : (s : State Text Own) (k : ℕ) (op : Op) (units : List Text) (count : ℕ) (found : Option (List Text)) → judged s k op ≡ Ok units
    → IfNone found (length units < count) → IfNone found (MayFault s count k op → ⊥)
few-found s k op units count None is few = no-fault-few s k op units count is few
few-found s k op units count (Some front) is few = tt
