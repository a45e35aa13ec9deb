-- Disk faults that an agent was told are among those that its store has met.
use Rattle.std.proofs.Common.{◌≡◌, ℕ, ◌+◌, ◌≤◌, List, [], ◌∷◌, ◌++◌, map, refl, sym, ap, ◌∙◌, inl, inr, subst, true, arith}
use Rattle.opfs_hall.specs.History.{IsPrefix}
use Rattle.opfs_hist.specs.Faults.{disk_faults, is_disk_fault}
use Rattle.opfs_hist.specs.declared.entry.Entry.{Entry}
use Rattle.opfs_hist.specs.declared.op.Op.{Op}
use Rattle.opfs_hist.specs.declared.reply.Refusal.TheVariants as refusal
use Rattle.opfs_hist.specs.declared.reply.Reply.TheVariants as reply
use Rattle.opfs_machine.specs.Runs.{eviction}
use Rattle.opfs_outside.specs.Faults.{RoseBy}
use Rattle.opfs_store.specs.Acts.Acting.{told_entry}
use Rattle.opfs_turns.specs.Agents.{AgentSeen}
use Rattle.opfs_turns.specs.Asking.Answers.{IsRefused}
use Rattle.opfs_turns.specs.Calls.{call_of}
use Rattle.opfs_turns.specs.Faulting.{HasFailed}
use Rattle.opfs_turns.proofs.Counts.{count-append, count-one, one_if}

rose-less : (less more before now : ℕ) → less ≤ more → RoseBy more before now → RoseBy less before now
rose-less less more before now le (inl h) = inl (omega (arith, h, le))
rose-less less more before now le (inr h) = inr h

faults-append : (xs ys : List Entry) → disk_faults (xs ++ ys) ≡ disk_faults xs + disk_faults ys
faults-append = count-append (λ e. is_disk_fault e.reply)

-- An entry more, that tells of a fault, behind any others.
one-more : (seen others pending gone : List Entry) (e : Entry) → is_disk_fault e.reply ≡ true → 1 + disk_faults seen ≤ disk_faults ((seen ++ others) ++ (pending ++ (gone ++ e ∷ [])))
one-more seen others pending gone e is =
    let one : disk_faults (e ∷ []) ≡ 1 = count-one (λ x. is_disk_fault x.reply) e ∙ ap one_if is in
    omega (arith, one, faults-append gone (e ∷ []), faults-append pending (gone ++ e ∷ []), faults-append seen others, faults-append (seen ++ others) (pending ++ (gone ++ e ∷ [])))

module _ {O : Type 0} (tells : Type 0) (entries : List Entry) (before now : ℕ) (rose : (known : List Entry) → IsPrefix known entries → RoseBy (disk_faults known) before now) where
  told-rose : (a b : AgentSeen O) (op : Op) → IsRefused tells a b op refusal.DiskFault → IsPrefix b.pass.base entries → RoseBy (1 + disk_faults a.pass.base) before now
  told-rose a b op refused begins =
      let entered = refused.entered in
      rose-less (1 + disk_faults a.pass.base) (disk_faults b.pass.base) before now
      (subst (λ l. 1 + disk_faults a.pass.base ≤ disk_faults l) (sym entered.grown)
      (one-more a.pass.base entered.others a.pending (map eviction entered.gone) (told_entry (call_of a op) (reply.No refusal.DiskFault)) refl))
      (rose b.pass.base begins)

  pub has-failed : HasFailed O tells entries before now
  has-failed = record { seen = λ a begins. rose a.pass.base begins; told = told-rose }
