use Rattle.std.proofs.Common.{◌∙◌, ap, subst, sym}
use Rattle.opfs_books.specs.Openings.Openings.{fixed_by}
use Rattle.opfs_desk.specs.Keeping.{IsKept}
use Rattle.opfs_desk.proofs.Keeping.{kept-there}
use Rattle.opfs_desk.proofs.Taken.{entries-idle, journal-idle, may-take, reached-taken, rests-taken}
use Rattle.opfs_desk.proofs.desk.Desk.take_in.Goals as goal

pub take_in-requires : goal.take_in-requires
take_in-requires g c = record {
  may =
      let f = fixed_by g.D.Disk c.self.inside.from.value c.self.inside.agents.value.items in
      let may = rw (← c.self.view_is) at c.requires.may in
      may-take g.D.Disk f c.self.inside.parts c.args.pending.now c.args.agent c.self.invariant.rest may c.reads_leave_the_state.ensures c.lengths_follow_each_call.ensures c.local_calls_are_known_by_their_word.ensures;
}

pub invariant_of-self : goal.invariant_of-self
invariant_of-self g c =
    let f = fixed_by g.D.Disk c.self.inside.from.value c.self.inside.agents.value.items in
    let old = c.self.inside.parts in
    let calls = c.args.pending.now in
    let rest = c.self.invariant.rest in
    let may = rw (← c.self.view_is) at c.requires.may in
    let mid = c.take_in.new.ledger in
    let new = c.cancel.new.ledger in
    let taken = c.take_in.ensures in
    record {
      rest =
          rests-taken g.D.Disk f old calls c.args.agent rest may mid new taken.journal taken.entries c.cancel.ensures c.handles_stay_whole.ensures
          (taken.held f rest.held.recorded old.pages rest.held.are may.pending);
      reached = reached-taken g.D.Disk f old calls c.args.agent rest may mid new taken.journal taken.entries c.cancel.ensures c.self.inside.iterators c.self.invariant.reached;
    }

pub returns-clause-journal : goal.returns-clause-journal
returns-clause-journal g c = rw (← c.self.view_is) (journal-idle c.take_in.new.ledger c.cancel.new.ledger c.cancel.ensures ∙ c.take_in.ensures.journal)

pub returns-clause-entries : goal.returns-clause-entries
returns-clause-entries g c = rw (← c.self.view_is) (entries-idle c.take_in.new.ledger c.cancel.new.ledger c.cancel.ensures ∙ c.take_in.ensures.entries)

pub returns-clause-stays : goal.returns-clause-stays
returns-clause-stays g c =
    let f = fixed_by g.D.Disk c.self.inside.from.value c.self.inside.agents.value.items in
    let old = c.self.inside.parts.ledger in
    let new = c.cancel.new.ledger in
    let journal = journal-idle c.take_in.new.ledger new c.cancel.ensures ∙ c.take_in.ensures.journal in
    let entries = entries-idle c.take_in.new.ledger new c.cancel.ensures ∙ c.take_in.ensures.entries in
    rw (← c.self.view_is)
    (λ t count moment was. subst (λ (x : g.row.D.Denot). IsKept g.D.Disk f.opening new.books.history x count moment) (sym (ap (λ j. j.disk) journal))
    (kept-there g.D.Disk f.opening old.books.history c.args.pending.now new.books.history entries count moment old.journal.disk was))
