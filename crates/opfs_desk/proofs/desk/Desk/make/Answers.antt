use Rattle.std.proofs.Common.{◌≡◌, ◌∙◌, [], Option, Some, None, refl, sym, ap, subst}
use Rattle.opfs_base.specs.Texts.{Text}
use Rattle.opfs_books.specs.Opened.{IsOpened}
use Rattle.opfs_image.specs.Agreeing.{built_in}
use Rattle.opfs_image.specs.declared.recovered.Recovered.{Recovered}
use Rattle.opfs_desk_steps.specs.Iterating.Known.{AreReached}
use Rattle.opfs_journal.specs.Seen.{Seen}
use Rattle.opfs_machine.specs.Histories.{state_after}
use Rattle.opfs_machine.specs.declared.state.Limits.{Limits}
use Rattle.opfs_books.specs.Openings.Openings.{fixed_by, limits_by}
use Rattle.opfs_space.specs.Room.{Machine}
use Rattle.opfs_state_rows.specs.Standing.Beginnings.{IsBegun}
use Rattle.opfs_state.specs.Applied.{StateSeen, opened}
use Rattle.opfs_tree.specs.Rows.{Rows as Tree}
use Rattle.opfs_pages.specs.HistoryLaws.Handles.{AreHandlesWhole}
use Rattle.opfs_desk_steps.specs.Parts.Held.{AreHeld}
use Rattle.opfs_desk_steps.specs.declared.parts.parts.DeskParts.{DeskParts}
use Rattle.opfs_desk_steps.specs.declared.parts.parts.Ledger.{Ledger}
use Rattle.opfs_desk_steps.specs.declared.parts.parts.OpenPages.{OpenPages}
use Rattle.opfs_desk.specs.Resting.{IsResting}
use Rattle.opfs_desk.proofs.Begun.{used-long, made-held, time-begun}
use Rattle.opfs_desk.proofs.Moments.{fronts-none, keeps-none}
use Rattle.opfs_desk.proofs.Passed.{once-now}
use Rattle.opfs_desk.proofs.desk.Desk.make.Goals as goal

pub make-requires : goal.make-requires
make-requires g c = used-long c.args.from.geometry.blocks c.args.from.tree c.args.from.map c.args.from.agrees.parts.used_are

pub make-requires-2-clause-begun : goal.make-requires-2-clause-begun
make-requires-2-clause-begun g c =
    subst (λ (limits : Limits). IsBegun (opened c.args.from.tree c.args.from.shed limits c.args.agents.items) c.args.from.shed c.args.from.charge) (sym c.limits_of-limits.ensures)
    (c.a_recovered_image_opens_a_run.ensures.begun c.args.agents.items)

pub invariant_of-result : goal.invariant_of-result
invariant_of-result g c =
    let from = c.args.from in
    let agents = c.args.agents.items in
    let l : Ledger g.row.D.Denot = record { journal = c.make-3.new.journal; books = c.in-Ok-make-3.books; freed = c.in-Ok.freed; alloc = c.args.alloc } in
    let p : OpenPages = record { swap = []; space = c.in-Ok-make.space; base = c.data_base.result } in
    let state = c.in-Ok-make-2.state in
    let limits = c.limits_of-limits.ensures in
    let opens = c.a_recovered_image_opens_a_run.ensures.opened agents in
    let machine = c.in-Ok-make-2.ensures.machine ∙ ap (λ (x : Limits). opened from.tree from.shed x agents) limits in
    let tree = c.in-Ok-make-2.ensures.tree in
    let f = fixed_by g.D.Disk from agents in
    let here =
    subst (λ (x : Machine). IsOpened g.D.Disk f (built_in from.tree from.shed) x state.store.tree c.limits_of-limits.result.area from.journal) (sym machine)
    (subst (λ (t : Tree). IsOpened g.D.Disk f (built_in from.tree from.shed) (opened from.tree from.shed (limits_by from.geometry) agents) t c.limits_of-limits.result.area from.journal) (sym tree)
    (subst (λ (x : Limits). IsOpened g.D.Disk f (built_in from.tree from.shed) (opened from.tree from.shed (limits_by from.geometry) agents) from.tree x.area from.journal) (sym limits) opens)) in
    let done = c.in-Ok-make-3.ensures in
    let same = done.state in
    let held : AreHeld g.D.Disk f (record { ledger = l; pages = p }) =
    made-held g.D.Disk from agents l p c.first_blocks_are_right.ensures opens c.requires.keys c.requires.few (done.books f (built_in from.tree from.shed) here) done.history
    (ap (λ (s : StateSeen). s.store.machine) same ∙ machine) (ap (λ (s : StateSeen). s.store.tree) same ∙ tree) (ap (λ (s : StateSeen). s.store.prepared.place) same ∙ c.in-Ok-make-2.ensures.place)
    (ap (λ (j : Seen g.row.D.Denot). j.disk) done.journal) c.in-Ok.ensures refl c.in-Ok-make.ensures.used c.in-Ok-make.ensures.own c.data_base.ensures.same in
    let whole : AreHandlesWhole f.opening l.books.history = subst (AreHandlesWhole f.opening) (sym done.history) (c.handles_stay_whole.ensures.begun f.opening) in
    let none : AreReached (state_after f.opening l.books.history) [] = λ k n last is. absurd (no-name last is) in
    subst (λ (x : Recovered g.row.D.Denot g.D.Disk). IsResting g.D.Disk (fixed_by g.D.Disk x c.of-who.result.value.items) c.parts_of.result c.make-in-Ok-make-3.result) (sym c.of-told.ensures)
    (rw (c.of-who.ensures) (subst (λ (x : DeskParts g.row.D.Denot). IsResting g.D.Disk f x c.make-in-Ok-make-3.result) (sym c.parts_of.ensures) (record {
      rest = record {
        held = held;
        whole = whole;
        time = λ t. time-begun g.D.Disk from.journal.disk l.journal.disk (ap (λ (j : Seen g.row.D.Denot). j.disk) done.journal);
        fronts = λ t.
            fronts-none g.D.Disk f.opening l.books.history from.journal.disk l.journal.disk (ap (λ (j : Seen g.row.D.Denot). j.disk) done.journal)
            (once-now g.D.Disk f l c.the_books_show_their_images.ensures held.recorded (state_after f.opening l.books.history) [] held.are.books t);
        keeps = λ t. keeps-none g.D.Disk f.opening l.books.history l.journal.disk done.history;
      };
      reached = subst (AreReached (state_after f.opening l.books.history)) (sym c.make-in-Ok-make-3.ensures) none;
    })))
  where
    no-name : (last : Text) → ◌≡◌ {A = Option Text} None (Some last) → ⊥
    no-name last h = cc
