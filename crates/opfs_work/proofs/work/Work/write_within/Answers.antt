use Rattle.std.proofs.Common.{◌≡◌, ℕ, ◌+◌, min, List, length, unwrap_or, arith, ap, sym, ◌∙◌}
use Rattle.opfs_base.specs.Blocks.{blocks}
use Rattle.opfs_splice.specs.Splicing.{splice}
use Rattle.opfs_work.specs.Works.{WorkingCopy, IsNearWrite, place_in}
use Rattle.opfs_work.proofs.Changing.{IsOver, untouched}
use Rattle.opfs_work.proofs.Writing.{marks_to, IsMarked, IsWoken, IsReady, wake_marked, ready, ready_near, ready_added, ready_marked, ready_over, ready_stored, ready_bytes}
use Rattle.opfs_work.proofs.work.Work.write_within.Goals as goal

pub wake-requires : goal.wake-requires
wake-requires c =
    let from : c.min.result ≡ min c.args.self.now.length c.unwrap_or-at.result = c.min.ensures ∙ ap (λ (w : WorkingCopy). min w.length c.unwrap_or-at.result) c.mark.view_is in
    let marked : IsMarked c.args.self.now c.mark-2.new.self c.min.result (c.unwrap_or-at.result + length c.args.given.now) = record { kept = c.mark-2.ensures.kept; added = marks_to c.min.result c.unwrap_or-at.result c.len.result (length c.args.given.now) c.mark-2.new.self c.len.ensures c.mark-2.ensures.added; rest = c.mark-2.ensures.rest } in
    wake_marked c.args.self.now c.mark-2.new.self c.min.result _ c.unwrap_or-at.result marked from (omega arith)

pub write_over-requires-clause-near : goal.write_over-requires-clause-near
write_over-requires-clause-near c =
    let from : c.min.result ≡ min c.args.self.now.length c.unwrap_or-at.result = c.min.ensures ∙ ap (λ (w : WorkingCopy). min w.length c.unwrap_or-at.result) c.mark.view_is in
    let marked : IsMarked c.args.self.now c.mark-2.new.self c.min.result (c.unwrap_or-at.result + length c.args.given.now) = record { kept = c.mark-2.ensures.kept; added = marks_to c.min.result c.unwrap_or-at.result c.len.result (length c.args.given.now) c.mark-2.new.self c.len.ensures c.mark-2.ensures.added; rest = c.mark-2.ensures.rest } in
    let woken : IsWoken c.mark-2.new.self c.wake.new.self c.unwrap_or-at.result =
    record { bytes = c.wake.ensures.bytes; alike = c.wake.ensures.alike; others = c.wake.ensures.others; awake = c.wake.ensures.awake; near = c.wake.ensures.near; rest = c.wake.ensures.rest } in
    let r : IsReady c.args.self.now c.wake.new.self (min c.args.self.now.length c.unwrap_or-at.result) c.unwrap_or-at.result (c.unwrap_or-at.result + length c.args.given.now) =
    rw from at (ready c.args.self.now c.mark-2.new.self c.wake.new.self c.min.result c.unwrap_or-at.result (c.unwrap_or-at.result + length c.args.given.now) marked woken) in
    let place : place_in c.args.self.now c.args.position ≡ c.unwrap_or-at.result = sym (c.unwrap_or-at.ensures ∙ ap (λ (w : WorkingCopy). unwrap_or c.args.position w.position) c.self.view_is) in
    let is : IsNearWrite c.args.self.now (place_in c.args.self.now c.args.position) (length c.args.given.now) = record { fits = c.requires.fits; whole = c.requires.whole; few = c.requires.few } in
    ready_near c.args.self.now c.wake.new.self c.unwrap_or-at.result (length c.args.given.now) _ r (rw place at is)

pub write_over-requires-clause-marked : goal.write_over-requires-clause-marked
write_over-requires-clause-marked c = λ k above below.
    let from : c.min.result ≡ min c.args.self.now.length c.unwrap_or-at.result = c.min.ensures ∙ ap (λ (w : WorkingCopy). min w.length c.unwrap_or-at.result) c.mark.view_is in
    let marked : IsMarked c.args.self.now c.mark-2.new.self c.min.result (c.unwrap_or-at.result + length c.args.given.now) = record { kept = c.mark-2.ensures.kept; added = marks_to c.min.result c.unwrap_or-at.result c.len.result (length c.args.given.now) c.mark-2.new.self c.len.ensures c.mark-2.ensures.added; rest = c.mark-2.ensures.rest } in
    let woken : IsWoken c.mark-2.new.self c.wake.new.self c.unwrap_or-at.result =
    record { bytes = c.wake.ensures.bytes; alike = c.wake.ensures.alike; others = c.wake.ensures.others; awake = c.wake.ensures.awake; near = c.wake.ensures.near; rest = c.wake.ensures.rest } in
    let r : IsReady c.args.self.now c.wake.new.self (min c.args.self.now.length c.unwrap_or-at.result) c.unwrap_or-at.result (c.unwrap_or-at.result + length c.args.given.now) =
    rw from at (ready c.args.self.now c.mark-2.new.self c.wake.new.self c.min.result c.unwrap_or-at.result (c.unwrap_or-at.result + length c.args.given.now) marked woken) in
    ready_marked c.args.self.now c.wake.new.self c.unwrap_or-at.result (length c.args.given.now) k r above below

pub returns-clause-bytes : goal.returns-clause-bytes
returns-clause-bytes c = λ far.
    let from : c.min.result ≡ min c.args.self.now.length c.unwrap_or-at.result = c.min.ensures ∙ ap (λ (w : WorkingCopy). min w.length c.unwrap_or-at.result) c.mark.view_is in
    let marked : IsMarked c.args.self.now c.mark-2.new.self c.min.result (c.unwrap_or-at.result + length c.args.given.now) = record { kept = c.mark-2.ensures.kept; added = marks_to c.min.result c.unwrap_or-at.result c.len.result (length c.args.given.now) c.mark-2.new.self c.len.ensures c.mark-2.ensures.added; rest = c.mark-2.ensures.rest } in
    let woken : IsWoken c.mark-2.new.self c.wake.new.self c.unwrap_or-at.result =
    record { bytes = c.wake.ensures.bytes; alike = c.wake.ensures.alike; others = c.wake.ensures.others; awake = c.wake.ensures.awake; near = c.wake.ensures.near; rest = c.wake.ensures.rest } in
    let r : IsReady c.args.self.now c.wake.new.self (min c.args.self.now.length c.unwrap_or-at.result) c.unwrap_or-at.result (c.unwrap_or-at.result + length c.args.given.now) =
    rw from at (ready c.args.self.now c.mark-2.new.self c.wake.new.self c.min.result c.unwrap_or-at.result (c.unwrap_or-at.result + length c.args.given.now) marked woken) in
    let place : place_in c.args.self.now c.args.position ≡ c.unwrap_or-at.result = sym (c.unwrap_or-at.ensures ∙ ap (λ (w : WorkingCopy). unwrap_or c.args.position w.position) c.self.view_is) in
    rw place (c.write_over.ensures.bytes far ∙ ap (λ (xs : List ℕ). splice xs c.unwrap_or-at.result c.args.given.now) (ready_bytes far c.args.self.now c.wake.new.self _ _ _ r))

pub returns-clause-untouched : goal.returns-clause-untouched
returns-clause-untouched c = λ k apart.
    let from : c.min.result ≡ min c.args.self.now.length c.unwrap_or-at.result = c.min.ensures ∙ ap (λ (w : WorkingCopy). min w.length c.unwrap_or-at.result) c.mark.view_is in
    let marked : IsMarked c.args.self.now c.mark-2.new.self c.min.result (c.unwrap_or-at.result + length c.args.given.now) = record { kept = c.mark-2.ensures.kept; added = marks_to c.min.result c.unwrap_or-at.result c.len.result (length c.args.given.now) c.mark-2.new.self c.len.ensures c.mark-2.ensures.added; rest = c.mark-2.ensures.rest } in
    let woken : IsWoken c.mark-2.new.self c.wake.new.self c.unwrap_or-at.result =
    record { bytes = c.wake.ensures.bytes; alike = c.wake.ensures.alike; others = c.wake.ensures.others; awake = c.wake.ensures.awake; near = c.wake.ensures.near; rest = c.wake.ensures.rest } in
    let r : IsReady c.args.self.now c.wake.new.self (min c.args.self.now.length c.unwrap_or-at.result) c.unwrap_or-at.result (c.unwrap_or-at.result + length c.args.given.now) =
    rw from at (ready c.args.self.now c.mark-2.new.self c.wake.new.self c.min.result c.unwrap_or-at.result (c.unwrap_or-at.result + length c.args.given.now) marked woken) in
    let place : place_in c.args.self.now c.args.position ≡ c.unwrap_or-at.result = sym (c.unwrap_or-at.ensures ∙ ap (λ (w : WorkingCopy). unwrap_or c.args.position w.position) c.self.view_is) in
    let over : IsOver c.args.self.now.pages c.wake.new.self.pages c.write_over.new.self.pages c.args.self.now.length c.unwrap_or-at.result (length c.args.given.now) =
    ready_over c.args.self.now c.wake.new.self c.write_over.new.self.pages c.unwrap_or-at.result (length c.args.given.now) r c.write_over.ensures.early c.write_over.ensures.late c.write_over.ensures.changed in
    untouched c.args.self.now.pages c.wake.new.self.pages c.write_over.new.self.pages c.args.self.now.length c.unwrap_or-at.result (length c.args.given.now) k over (rw place at apart)

pub returns-clause-stored : goal.returns-clause-stored
returns-clause-stored c = λ k stored.
    let from : c.min.result ≡ min c.args.self.now.length c.unwrap_or-at.result = c.min.ensures ∙ ap (λ (w : WorkingCopy). min w.length c.unwrap_or-at.result) c.mark.view_is in
    let marked : IsMarked c.args.self.now c.mark-2.new.self c.min.result (c.unwrap_or-at.result + length c.args.given.now) = record { kept = c.mark-2.ensures.kept; added = marks_to c.min.result c.unwrap_or-at.result c.len.result (length c.args.given.now) c.mark-2.new.self c.len.ensures c.mark-2.ensures.added; rest = c.mark-2.ensures.rest } in
    let woken : IsWoken c.mark-2.new.self c.wake.new.self c.unwrap_or-at.result =
    record { bytes = c.wake.ensures.bytes; alike = c.wake.ensures.alike; others = c.wake.ensures.others; awake = c.wake.ensures.awake; near = c.wake.ensures.near; rest = c.wake.ensures.rest } in
    let r : IsReady c.args.self.now c.wake.new.self (min c.args.self.now.length c.unwrap_or-at.result) c.unwrap_or-at.result (c.unwrap_or-at.result + length c.args.given.now) =
    rw from at (ready c.args.self.now c.mark-2.new.self c.wake.new.self c.min.result c.unwrap_or-at.result (c.unwrap_or-at.result + length c.args.given.now) marked woken) in
    let place : place_in c.args.self.now c.args.position ≡ c.unwrap_or-at.result = sym (c.unwrap_or-at.ensures ∙ ap (λ (w : WorkingCopy). unwrap_or c.args.position w.position) c.self.view_is) in
    let over : IsOver c.args.self.now.pages c.wake.new.self.pages c.write_over.new.self.pages c.args.self.now.length c.unwrap_or-at.result (length c.args.given.now) =
    ready_over c.args.self.now c.wake.new.self c.write_over.new.self.pages c.unwrap_or-at.result (length c.args.given.now) r c.write_over.ensures.early c.write_over.ensures.late c.write_over.ensures.changed in
    let pages : length c.args.self.now.pages ≡ blocks c.args.self.now.length = rw (← c.self.view_is) c.self.invariant.0.pages_are in
    rw place
    (ready_stored c.args.self.now c.wake.new.self c.write_over.new.self c.unwrap_or-at.result (length c.args.given.now) k r over pages (rw place at c.requires.whole)
    (ap (λ (w : WorkingCopy). w.changed_from) c.write_over.ensures.rest) (ap (λ (w : WorkingCopy). w.changed_to) c.write_over.ensures.rest) stored)

pub returns-clause-count : goal.returns-clause-count
returns-clause-count c =
    let from : c.min.result ≡ min c.args.self.now.length c.unwrap_or-at.result = c.min.ensures ∙ ap (λ (w : WorkingCopy). min w.length c.unwrap_or-at.result) c.mark.view_is in
    let marked : IsMarked c.args.self.now c.mark-2.new.self c.min.result (c.unwrap_or-at.result + length c.args.given.now) = record { kept = c.mark-2.ensures.kept; added = marks_to c.min.result c.unwrap_or-at.result c.len.result (length c.args.given.now) c.mark-2.new.self c.len.ensures c.mark-2.ensures.added; rest = c.mark-2.ensures.rest } in
    let woken : IsWoken c.mark-2.new.self c.wake.new.self c.unwrap_or-at.result =
    record { bytes = c.wake.ensures.bytes; alike = c.wake.ensures.alike; others = c.wake.ensures.others; awake = c.wake.ensures.awake; near = c.wake.ensures.near; rest = c.wake.ensures.rest } in
    let r : IsReady c.args.self.now c.wake.new.self (min c.args.self.now.length c.unwrap_or-at.result) c.unwrap_or-at.result (c.unwrap_or-at.result + length c.args.given.now) =
    rw from at (ready c.args.self.now c.mark-2.new.self c.wake.new.self c.min.result c.unwrap_or-at.result (c.unwrap_or-at.result + length c.args.given.now) marked woken) in
    let place : place_in c.args.self.now c.args.position ≡ c.unwrap_or-at.result = sym (c.unwrap_or-at.ensures ∙ ap (λ (w : WorkingCopy). unwrap_or c.args.position w.position) c.self.view_is) in
    rw place (omega (arith, c.write_over.ensures.count, r.near, ready_added c.args.self.now c.wake.new.self c.unwrap_or-at.result (length c.args.given.now) _ r))
