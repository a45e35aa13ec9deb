-- A call's change may be stored, once its entry may come.
use Rattle.std.proofs.Common.{◌≡◌, ℕ, ◌<◌, ◌^◌, true, Some, None, sym, ap, subst, ◌∙◌}
use Rattle.std.specs.Str.{is_utf8}
use Rattle.opfs_base.specs.Places.{Place}
use Rattle.opfs_books.specs.Stored.Spelled.{spelled_by, CanHold}
use Rattle.opfs_books.specs.Laws.Books.{Fixed}
use Rattle.opfs_books.specs.Seen.{MayStore}
use Rattle.opfs_codec.specs.Fields.{Fits}
use Rattle.opfs_codec.specs.Spelling.{IsChange}
use Rattle.opfs_codec.specs.declared.change.Change.{Change as Spelled}
use Rattle.opfs_codec.specs.declared.change.Format.TheVariants.{New}
use Rattle.opfs_codec.proofs.WritingLemmas.{change_fits}
use Rattle.opfs_commit.specs.Seen.{IsQuiet}
use Rattle.opfs_hist.specs.declared.entry.Entry.{Entry}
use Rattle.opfs_machine.specs.declared.state.Sizes.{Sizes}
use Rattle.opfs_machine.specs.Agents.{agent_of}
use Rattle.opfs_machine.specs.Effects.{moment_of}
use Rattle.opfs_outside.specs.declared.disk.Disk.{Ghosts as DiskWords}
use Rattle.opfs_state_rows.specs.Standing.Seen.{lines_of}
use Rattle.opfs_desk_steps.specs.Parts.Answered.{MayAnswer}
use Rattle.opfs_desk_steps.specs.Parts.Seen.{machine_in, tree_in, book_in}
use Rattle.opfs_desk_steps.specs.declared.parts.parts.Ledger.{Ledger}
use Rattle.opfs_desk_steps.specs.BookSteps.Entering.{MayStoreCall}
use Rattle.opfs_desk_entries.specs.KeptBack.Keeping.{keeps_back, entry_name, entry_place, change_of, HasOwnKey}
use Rattle.opfs_desk_entries.specs.KeptBack.Steps.{change_now}
use Rattle.opfs_desk_entries.proofs.kept_back.Spelled.{again, spelled-is, quiet-change, can-hold}

module _ {D : Type 0} (w : DiskWords D) (l : Ledger D) (e : Entry) (z : Sizes) (may : MayAnswer w l e z) (keeps : keeps_back (machine_in l) e.agent e.op ≡ true) (lines : (machine_in l).rows ≡ lines_of (tree_in l)) (text : is_utf8 (entry_name e.op) ≡ true)
    (keys : HasOwnKey (agent_of (machine_in l) e.agent).key) (place : Place) (at : place ≡ entry_place (agent_of (machine_in l) e.agent).key e.op)
    (moment : ℕ) (small : moment < 2 ^ 64) (its : moment ≡ moment_of (machine_in l) e.agent) (own : Spelled) (is : own ≡ change_of moment place e.op) where
  pub own-is : own ≡ change_now l e
  own-is = is ∙ ap (λ n. change_of n place e.op) its ∙ ap (λ (q : Place). change_of (moment_of (machine_in l) e.agent) q e.op) at

  read-again : IsChange New own
  read-again =
      let change = may.answered.change.may in
      subst (IsChange New) (sym (is ∙ ap (λ (q : Place). change_of moment q e.op) at)) (again (machine_in l) (tree_in l) lines may.are.books.stored.writable.0 z e.agent e.op change.need moment keeps change.ruled text small keys)

  pub may-be-stored : (f : Fixed D) → MayStore f (book_in l) own
  may-be-stored f = record {
    again = read-again;
    holds = subst (λ (x : Spelled). CanHold f.geometry.blocks x (book_in l).rows) (sym is) (can-hold f.geometry.blocks moment place e.op (book_in l).rows);
  }

  pub may-store-call : MayStoreCall w l e z own
  may-store-call = record { answer = may; stores = may-be-stored may.fixed }

  pub spelled-own : spelled_by (machine_in l) (tree_in l) e.agent e.op z None ≡ Some own
  spelled-own = spelled-is (machine_in l) (tree_in l) e.agent e.op z keeps ∙ ap (λ (x : Spelled). Some x) (sym own-is)

  pub quiet-own : IsQuiet own
  quiet-own = subst IsQuiet (sym is) (quiet-change moment place e.op)

  pub fits-own : Fits own
  fits-own = change_fits own read-again
