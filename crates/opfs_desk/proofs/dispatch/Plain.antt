-- A call that is no next is asked for with no names that an iterator has given.
use Rattle.std.proofs.Common.{◌≡◌, ℕ, false, List, [], ◌++◌, refl, sym, ◌∙◌, subst}
use Rattle.std.proofs.lemmas.Bool.{false≢true}
use Rattle.opfs_store.specs.Acts.Asking.{given_by}
use Rattle.opfs_base.specs.Texts.{Text}
use Rattle.opfs_hist.specs.declared.entry.Entry.{Entry}
use Rattle.opfs_hist.specs.declared.op.Op.{Op}
use Rattle.opfs_hist.specs.declared.op.Op.TheVariants as op
use Rattle.opfs_machine.specs.declared.own.Own.{Own}
use Rattle.opfs_machine.specs.declared.state.State.{State}
use Rattle.opfs_machine.specs.Histories.{state_after}
use Rattle.opfs_machine.specs.Openings.{Opening}
use Rattle.opfs_outside.specs.declared.disk.Disk.{Ghosts as DiskWords}
use Rattle.opfs_state.specs.Applied.{StateSeen}
use Rattle.opfs_work.specs.Works.{WorkingCopy}
use Rattle.opfs_desk_steps.specs.Parts.Asked.{IsAsked, MayGo}
use Rattle.opfs_desk_steps.specs.declared.parts.call.ReadyCall.{ReadyCall}
use Rattle.opfs_desk_steps.specs.declared.parts.parts.DeskParts.{DeskParts}
use Rattle.opfs_desk_entries.specs.Answers.Next.{is_next}
use Rattle.opfs_state_rows.specs.Standing.Seen.{Machine}
use Rattle.opfs_desk.specs.Dispatch.Kinds.{IsOfKind}
use Rattle.opfs_desk.specs.declared.dispatch.kinds.CallKind.{CallKind}

none-given : (s : State Text Own) (k : ℕ) (o : Op) → is_next o ≡ false → given_by s k o ≡ []
none-given s k (op.Next n dir) h = absurd (false≢true (sym h))
none-given s k o h = refl

pub plain-asked : (tells : Type 0) (o : Opening) (h calls : List Entry) (s : StateSeen) (c : ReadyCall) (work : WorkingCopy) (past : List Text) → is_next c.op ≡ false → IsAsked tells o h calls s c work past → IsAsked tells o h calls s c work []
plain-asked tells o h calls s c work past other asked =
    subst (λ (xs : List Text). IsAsked tells o h calls s c work xs) (asked.may.given ∙ none-given (state_after o (h ++ calls)) c.agent c.op other) asked

pub plain-go : {D : Type 0} (w : DiskWords D) (p : DeskParts D) (calls : List Entry) (c : ReadyCall) (work : WorkingCopy) (past : List Text) → is_next c.op ≡ false → MayGo w p c calls work past → MayGo w p c calls work []
plain-go w p calls c work past other go = record {
  fixed = go.fixed;
  recorded = go.recorded;
  are = go.are;
  asked = plain-asked w.tells go.fixed.opening p.ledger.books.history calls p.ledger.books.state c work past other go.asked;
}

pub as-kind : (x y : CallKind) (m : Machine) (k : ℕ) (o : Op) → x ≡ y → IsOfKind x m k o → IsOfKind y m k o
as-kind x y m k o is word = subst (λ (z : CallKind). IsOfKind z m k o) is word
