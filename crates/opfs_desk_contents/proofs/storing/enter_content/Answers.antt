use Rattle.std.proofs.Common.{◌≡◌, List, Some, sym, ap, subst, ◌∙◌}
use Rattle.opfs_base.specs.Places.{Place}
use Rattle.opfs_base.specs.Texts.{Text}
use Rattle.opfs_books.specs.Laws.Books.{Fixed}
use Rattle.opfs_books.specs.Seen.{BytesStand}
use Rattle.opfs_codec.specs.Fields.{plain}
use Rattle.opfs_codec.specs.Spelling.{IsChange}
use Rattle.opfs_codec.specs.declared.change.Change.{Change as Spelled}
use Rattle.opfs_codec.specs.declared.change.Change.TheVariants.{Content}
use Rattle.opfs_codec.specs.declared.change.Format.TheVariants.{New}
use Rattle.opfs_codec.proofs.WritingLemmas.{change_fits}
use Rattle.opfs_desk_entries.specs.KeptBack.Changing.{HasNotChanged}
use Rattle.opfs_desk_steps.specs.BookSteps.Entering.{IsCommittedOver}
use Rattle.opfs_desk_steps.specs.declared.parts.parts.Ledger.{Ledger}
use Rattle.opfs_desk_steps.specs.declared.parts.parts.OpenPages.{OpenPages}
use Rattle.opfs_hist.specs.declared.entry.Entry.{Entry}
use Rattle.opfs_machine.specs.declared.own.Own.{Own}
use Rattle.opfs_machine.specs.declared.state.Sizes.{Sizes}
use Rattle.opfs_machine.specs.declared.state.State.{State}
use Rattle.opfs_machine.specs.Steps.{is_refusal}
use Rattle.opfs_outside.specs.declared.disk.Disk.{Ghosts as DiskWords}
use Rattle.opfs_records.specs.Replay.Built.{Built}
use Rattle.opfs_tree.specs.declared.row.FileRow.{FileRow}
use Rattle.opfs_desk_contents.specs.Storing.{HasStored, IsEnteredOver, content_now}
use Rattle.opfs_desk_contents.proofs.Entered.{content-again, may-be-stored}
use Rattle.opfs_desk_contents.proofs.storing.enter_content.Goals as goal

pub store_call-requires : goal.store_call-requires
store_call-requires g c =
    let may = c.requires.may in
    let l = c.args.ledger.now in
    let place = c.args.place.now in
    let runs = c.args.runs.now in
    let is = c.content_of-own.ensures in
    let own = plain c.content_of-own.result in
    let same : own ≡ content_now l c.args.last.entry place may.row c.args.size runs = is.is ∙ ap (λ n. Content place.0 place.1 n c.args.size runs) (c.stamp_of-stamp.ensures may.row may.there) in
    let again : IsChange New own = subst (IsChange New) (sym is.is) (content-again place c.stamp_of-stamp.result c.args.size runs may.written is.moment is.small may.runs_are) in
    record {
      may = record { answer = may.answer; stores = may-be-stored may.answer.fixed l own (content_now l c.args.last.entry place may.row c.args.size runs) same again may.holds };
      answered = ap is_refusal c.requires.done;
      spelled = may.spelled ∙ ap (λ (x : Spelled). Some x) (sym same);
      fits = change_fits own again;
      settled = c.requires.settled;
    }

-- The content as it is spelled may be committed over the parts that the call is entered over.
committed-over : {D : Type 0} (w : DiskWords D) (f : Fixed D) (recorded : Built) (base : State Text Own) (gone : List Text) (l : Ledger D) (p : OpenPages) (e : Entry) (z : Sizes) (place : Place) (row : FileRow) (own now : Spelled) → own ≡ now → IsChange New own
    → IsEnteredOver w f recorded base gone l p e z place row now → IsCommittedOver w f recorded base gone l p e z own
committed-over w f recorded base gone l p e z place row own now same again over = record {
  are = over.are;
  answered = over.answered;
  stores = may-be-stored f l own now same again over.holds;
  bytes = subst (λ (x : Spelled). BytesStand w f base gone l.journal e x) (sym same) over.stands;
}

pub returns-in-Ok-clause-stored : goal.returns-in-Ok-clause-stored
returns-in-Ok-clause-stored g c = record {
  order = c.know_order-in-Ok.ensures;
  over = λ f recorded base gone p row held.
      let w = g.D.Disk in
      let may = c.requires.may in
      let l = c.args.ledger.now in
      let e = c.args.last.entry in
      let place = c.args.place.now in
      let runs = c.args.runs.now in
      let new = c.store_call.new.ledger in
      let is = c.content_of-own.ensures in
      let own = plain c.content_of-own.result in
      let now = content_now l e place row c.args.size runs in
      let same : own ≡ now = is.is ∙ ap (λ n. Content place.0 place.1 n c.args.size runs) (c.stamp_of-stamp.ensures row held.there) in
      let again : IsChange New own = subst (IsChange New) (sym is.is) (content-again place c.stamp_of-stamp.result c.args.size runs may.written is.moment is.small may.runs_are) in
      let stores = committed-over w f recorded base gone l p e c.args.sizes place row own now same again held in
      let done = c.in-Ok.ensures.committed in
      let leaves = c.in-Ok.ensures.leaves in
      subst (λ (x : Spelled). HasStored w f base gone l new p e c.args.sizes c.args.extents x) same
      (record {
        entries = done.entries;
        machine = done.machine;
        tree = done.tree;
        idle = done.idle;
        freed = done.freed;
        books = done.books f recorded base gone p stores;
        tied = c.in-Ok.ensures.tied f p held.are.tied;
        leaves = leaves;
        shown = record { later = leaves.later; time = leaves.time; shown = c.in-Ok.ensures.shown f recorded base gone p stores };
      });
}

pub returns-in-Err-clause-failed : goal.returns-in-Err-clause-failed
returns-in-Err-clause-failed g c = record {
  over = λ f recorded base gone p row held.
      let w = g.D.Disk in
      let may = c.requires.may in
      let l = c.args.ledger.now in
      let e = c.args.last.entry in
      let place = c.args.place.now in
      let runs = c.args.runs.now in
      let new = c.store_call.new.ledger in
      let is = c.content_of-own.ensures in
      let own = plain c.content_of-own.result in
      let now = content_now l e place row c.args.size runs in
      let same : own ≡ now = is.is ∙ ap (λ n. Content place.0 place.1 n c.args.size runs) (c.stamp_of-stamp.ensures row held.there) in
      let again : IsChange New own = subst (IsChange New) (sym is.is) (content-again place c.stamp_of-stamp.result c.args.size runs may.written is.moment is.small may.runs_are) in
      let stores = committed-over w f recorded base gone l p e c.args.sizes place row own now same again held in
      let done = c.in-Err.ensures.failed in
      let leaves = c.in-Err.ensures.leaves in
      subst (λ (x : Spelled). HasNotChanged w f recorded base gone l new p e x) same
      (record {
        entries = done.entries;
        idle = done.idle;
        are = done.held f recorded base gone p stores;
        rose = done.cause;
        shown = record { later = leaves.later; time = leaves.time; shown = c.in-Err.ensures.shown f recorded base gone p stores };
      });
}
