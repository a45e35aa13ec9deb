-- The mode that a persist gives may be stored, once its entry may come.
use Rattle.std.proofs.Common.{◌≡◌, true, Some, None, sym, ap, subst, ◌∙◌}
use Rattle.std.specs.Str.{is_utf8}
use Rattle.opfs_base.specs.Texts.{Text}
use Rattle.opfs_books.specs.Stored.Spelled.{spelled_by, CanHold}
use Rattle.opfs_books.specs.Laws.Books.{Fixed}
use Rattle.opfs_books.specs.Seen.{MayStore}
use Rattle.opfs_codec.specs.Fields.{Fits}
use Rattle.opfs_codec.specs.Spelling.{IsChange}
use Rattle.opfs_codec.specs.declared.change.Change.{Change as Spelled}
use Rattle.opfs_codec.specs.declared.change.Change.TheVariants.{Persist}
use Rattle.opfs_codec.specs.declared.change.Format.TheVariants.{New}
use Rattle.opfs_codec.proofs.WritingLemmas.{change_fits}
use Rattle.opfs_commit.specs.Seen.{IsQuiet}
use Rattle.opfs_hist.specs.declared.entry.Entry.{Entry}
use Rattle.opfs_machine.specs.declared.state.Sizes.{Sizes}
use Rattle.opfs_machine.specs.Agents.{agent_of}
use Rattle.opfs_outside.specs.declared.disk.Disk.{Ghosts as DiskWords}
use Rattle.opfs_desk_steps.specs.Parts.Answered.{MayAnswer}
use Rattle.opfs_desk_steps.specs.Parts.Seen.{machine_in, tree_in, book_in}
use Rattle.opfs_desk_steps.specs.declared.parts.parts.Ledger.{Ledger}
use Rattle.opfs_desk_steps.specs.BookSteps.Entering.{MayStoreCall}
use Rattle.opfs_desk_entries.specs.KeptBack.Keeping.{HasOwnKey}
use Rattle.opfs_desk_entries.specs.Buckets.Granting.{bucket_named, unit_named, gives_mode, mode_now}
use Rattle.opfs_desk_entries.proofs.buckets.Modes.{again, spelled-mode}

quiet-mode : (unit : Text) → IsQuiet (Persist unit)
unfolding IsQuiet
quiet-mode unit = tt

module _ {D : Type 0} (w : DiskWords D) (l : Ledger D) (e : Entry) (z : Sizes) (may : MayAnswer w l e z) (gives : gives_mode (machine_in l) e.agent e.op ≡ true) (text : is_utf8 (bucket_named e.op) ≡ true)
    (keys : HasOwnKey (agent_of (machine_in l) e.agent).key) (unit : Text) (at : unit ≡ unit_named (agent_of (machine_in l) e.agent).key e.op) (own : Spelled) (is : own ≡ Persist unit) where
  pub own-is : own ≡ mode_now l e
  own-is = is ∙ ap (λ (u : Text). Persist u) at

  read-again : IsChange New own
  read-again =
      let change = may.answered.change.may in
      subst (IsChange New) (sym own-is) (again (machine_in l) z e.agent e.op change.need gives change.ruled text keys)

  pub may-be-stored : (f : Fixed D) → MayStore f (book_in l) own
  may-be-stored f = record { again = read-again; holds = subst (λ (x : Spelled). CanHold f.geometry.blocks x (book_in l).rows) (sym is) tt }

  pub may-store-call : MayStoreCall w l e z own
  may-store-call = record { answer = may; stores = may-be-stored may.fixed }

  pub spelled-own : spelled_by (machine_in l) (tree_in l) e.agent e.op z None ≡ Some own
  spelled-own = spelled-mode (machine_in l) (tree_in l) e.agent e.op z gives ∙ ap (λ (x : Spelled). Some x) (sym own-is)

  pub quiet-own : IsQuiet own
  quiet-own = subst IsQuiet (sym is) (quiet-mode unit)

  pub fits-own : Fits own
  fits-own = change_fits own read-again
