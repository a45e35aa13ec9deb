use Rattle.std.proofs.Common.{◌≡◌, ◌+◌, ◌*◌, ◌<◌, ◌≤◌, refl, sym, ◌∙◌, ap, subst, arith, length, None}
use Rattle.std.specs.Prelude.{is_some}
use Rattle.opfs_journal.specs.Format.{begin_of, framed}
use Rattle.opfs_journal.specs.Standing.{Bounds}
use Rattle.opfs_journal.proofs.Appends.{in_areas, gate_bounds, told1, stopped1, told2, stopped2, told3, stored3}
use Rattle.opfs_journal.proofs.Frames.{length-framed}
use Rattle.opfs_journal.proofs.Moves.{durable_at_rest}
use Rattle.opfs_journal.proofs.Views.{none_from, some_same, if_no_error}
use Rattle.opfs_journal.proofs.journal.Journal.append.Goals as goal

pub returns-then-self-saturating_add-clause-at_rest : goal.returns-then-self-saturating_add-clause-at_rest
returns-then-self-saturating_add-clause-at_rest g c =
    let j = c.self.inside in
    let was = c.self.invariant.0 in
    let sure : j.doubt ≡ None = none_from j.doubt (rw (← c.self.view_is) at c.requires.settled) in
    rw (← c.self.view_is) (λ _ told i is. durable_at_rest g.D.Disk.content j.areas j.second j.generation j.tail j.closed j.spare j.disk (g.D.Disk.since j.disk (g.D.Disk.moment j.disk)) j.doubt (was.told told) sure i is)

pub write_synced-requires : goal.write_synced-requires
write_synced-requires g c =
    let j = c.self.inside in
    let was = c.self.invariant.0 in
    let b = c.args.bytes.now in
    let room : j.tail + length b + 6 ≤ j.areas.bytes = omega (arith, c.if-self-saturating_add.false, c.saturating_add.ensures, was.bounds.within, was.bounds.most) in
    let buffer : c.deref.result.now ≡ framed b = c.deref.ensures.value ∙ c.frame.ensures.bytes in
    let at_is : c.begin.result + j.tail ≡ begin_of j.areas j.second + j.tail = ap (λ x. x + j.tail) c.begin.ensures in
    let high = (in_areas j.areas j.second (begin_of j.areas j.second + j.tail + 6 + length b) (omega arith) (omega (arith, room))).1 in
    omega (arith, high, was.bounds.lies, at_is, ap length buffer, length-framed b)

pub invariant_of-self : goal.invariant_of-self
invariant_of-self g c =
    let laws = g.met.D.Disk in
    let j = c.self.inside in
    let was = c.self.invariant.0 in
    let b = c.args.bytes.now in
    let sure : j.doubt ≡ None = none_from j.doubt (rw (← c.self.view_is) at c.requires.settled) in
    let room : j.tail + length b + 6 ≤ j.areas.bytes = omega (arith, c.if-self-saturating_add.false, c.saturating_add.ensures, was.bounds.within, was.bounds.most) in
    let d1 = c.write_synced.new.disk in
    let buffer : c.deref.result.now ≡ framed b = c.deref.ensures.value ∙ c.frame.ensures.bytes in
    let at_is : c.begin.result + j.tail ≡ begin_of j.areas j.second + j.tail = ap (λ x. x + j.tail) c.begin.ensures in (
      record {
        bounds = subst (λ n. Bounds j.areas n j.generation j.tail j.doubt) (sym c.write_synced.ensures.size) was.bounds;
        told = λ told. (told1 g.D.Disk (laws.falls told) j.areas j.second j.generation j.tail j.closed j.spare j.doubt j.disk b (was.told told) sure was.bounds.least was.bounds.most room (c.begin.result + j.tail) at_is c.deref.result.now buffer d1 (c.write_synced.ensures.torn told)).0;
      },
      omega (arith, c.self.invariant.1, c.frame.ensures.capacity),
    )

pub returns-in_err-write_synced-clause-stopped : goal.returns-in_err-write_synced-clause-stopped
returns-in_err-write_synced-clause-stopped g c =
    let laws = g.met.D.Disk in
    let j = c.self.inside in
    let was = c.self.invariant.0 in
    let b = c.args.bytes.now in
    let sure : j.doubt ≡ None = none_from j.doubt (rw (← c.self.view_is) at c.requires.settled) in
    let room : j.tail + length b + 6 ≤ j.areas.bytes = omega (arith, c.if-self-saturating_add.false, c.saturating_add.ensures, was.bounds.within, was.bounds.most) in
    let d1 = c.write_synced.new.disk in
    let buffer : c.deref.result.now ≡ framed b = c.deref.ensures.value ∙ c.frame.ensures.bytes in
    let at_is : c.begin.result + j.tail ≡ begin_of j.areas j.second + j.tail = ap (λ x. x + j.tail) c.begin.ensures in
    rw (← c.self.view_is) (λ _. record {
      stays = record { areas = refl; length = c.write_synced.ensures.size; spare = refl };
      tail = refl;
      format = refl;
      later = c.write_synced.ensures.later;
      told = λ told. stopped1 g.D.Disk (laws.falls told) j.areas j.second j.generation j.tail j.closed j.spare j.doubt j.disk b (was.told told) sure was.bounds.least was.bounds.most room (c.begin.result + j.tail) at_is c.deref.result.now buffer d1 (c.write_synced.ensures.torn told);
    })

pub invariant_of-self-then-is_err : goal.invariant_of-self-then-is_err
invariant_of-self-then-is_err g c =
    let laws = g.met.D.Disk in
    let j = c.self.inside in
    let was = c.self.invariant.0 in
    let b = c.args.bytes.now in
    let sure : j.doubt ≡ None = none_from j.doubt (rw (← c.self.view_is) at c.requires.settled) in
    let room : j.tail + length b + 6 ≤ j.areas.bytes = omega (arith, c.if-self-saturating_add.false, c.saturating_add.ensures, was.bounds.within, was.bounds.most) in
    let d1 = c.write_synced.new.disk in
    let buffer : c.deref.result.now ≡ framed b = c.deref.ensures.value ∙ c.frame.ensures.bytes in
    let at_is : c.begin.result + j.tail ≡ begin_of j.areas j.second + j.tail = ap (λ x. x + j.tail) c.begin.ensures in
    let d2 = c.write_synced-2.new.disk in
    rw c.begin.ensures (
      record {
        bounds = record {
          lies = omega (arith, was.bounds.lies, c.write_synced.ensures.size, c.write_synced-2.ensures.size);
          fits = was.bounds.fits;
          least = was.bounds.least;
          most = was.bounds.most;
          within = was.bounds.within;
          known = was.bounds.known;
          gate = λ gate is. subst (λ x. (j.areas.first ≤ x) × (x < j.areas.first + 2 * j.areas.bytes)) (some_same is) (gate_bounds j.areas j.second j.tail was.bounds.within);
        };
        told = λ told. (told2 g.D.Disk (laws.falls told) j.areas j.second j.generation j.tail j.closed j.spare j.doubt j.disk b (was.told told) sure was.bounds.least was.bounds.most room (c.begin.result + j.tail) at_is c.deref.result.now buffer d1 (c.write_synced.ensures.torn told) (c.in_ok-write_synced.ensures.done told) d2 (c.write_synced-2.ensures.torn told)).0;
      },
      omega (arith, c.self.invariant.1, c.frame.ensures.capacity),
    )

pub returns-then-is_err-clause-stopped : goal.returns-then-is_err-clause-stopped
returns-then-is_err-clause-stopped g c =
    let laws = g.met.D.Disk in
    let j = c.self.inside in
    let was = c.self.invariant.0 in
    let b = c.args.bytes.now in
    let sure : j.doubt ≡ None = none_from j.doubt (rw (← c.self.view_is) at c.requires.settled) in
    let room : j.tail + length b + 6 ≤ j.areas.bytes = omega (arith, c.if-self-saturating_add.false, c.saturating_add.ensures, was.bounds.within, was.bounds.most) in
    let d1 = c.write_synced.new.disk in
    let buffer : c.deref.result.now ≡ framed b = c.deref.ensures.value ∙ c.frame.ensures.bytes in
    let at_is : c.begin.result + j.tail ≡ begin_of j.areas j.second + j.tail = ap (λ x. x + j.tail) c.begin.ensures in
    let d2 = c.write_synced-2.new.disk in
    let inside = gate_bounds j.areas j.second j.tail was.bounds.within in
    rw (← c.self.view_is, c.begin.ensures) (λ _. record {
      stays = record { areas = refl; length = c.write_synced-2.ensures.size ∙ c.write_synced.ensures.size; spare = refl };
      tail = refl;
      format = refl;
      later = omega (arith, c.write_synced.ensures.later, c.write_synced-2.ensures.later);
      told = λ told. stopped2 g.D.Disk (laws.falls told) j.areas j.second j.generation j.tail j.closed j.spare j.doubt j.disk b (was.told told) sure was.bounds.least was.bounds.most room (c.begin.result + j.tail) at_is c.deref.result.now buffer d1 (c.write_synced.ensures.torn told) (c.in_ok-write_synced.ensures.done told) d2 (c.write_synced-2.ensures.torn told)
          (omega (arith, inside.1, was.bounds.lies, laws.full told d2, c.write_synced.ensures.size, c.write_synced-2.ensures.size));
    })

pub invariant_of-self-2 : goal.invariant_of-self-2
invariant_of-self-2 g c =
    let laws = g.met.D.Disk in
    let j = c.self.inside in
    let was = c.self.invariant.0 in
    let b = c.args.bytes.now in
    let sure : j.doubt ≡ None = none_from j.doubt (rw (← c.self.view_is) at c.requires.settled) in
    let room : j.tail + length b + 6 ≤ j.areas.bytes = omega (arith, c.if-self-saturating_add.false, c.saturating_add.ensures, was.bounds.within, was.bounds.most) in
    let d1 = c.write_synced.new.disk in
    let buffer : c.deref.result.now ≡ framed b = c.deref.ensures.value ∙ c.frame.ensures.bytes in
    let at_is : c.begin.result + j.tail ≡ begin_of j.areas j.second + j.tail = ap (λ x. x + j.tail) c.begin.ensures in
    let d2 = c.write_synced-2.new.disk in
    let no_fault = if_no_error c.write_synced-2.result (sym c.is_err.ensures.value ∙ c.if-is_err.false) c.write_synced-2.ensures.done in (
      record {
        bounds = record {
          lies = omega (arith, was.bounds.lies, c.write_synced.ensures.size, c.write_synced-2.ensures.size);
          fits = was.bounds.fits;
          least = was.bounds.least;
          most = was.bounds.most;
          within = omega (arith, room);
          known = was.bounds.known;
          gate = was.bounds.gate;
        };
        told = λ told. (told3 g.D.Disk (laws.falls told) j.areas j.second j.generation j.tail j.closed j.spare j.doubt j.disk b (was.told told) sure was.bounds.least was.bounds.most room (c.begin.result + j.tail) at_is c.deref.result.now buffer d1 (c.write_synced.ensures.torn told) (c.in_ok-write_synced.ensures.done told) d2 (c.write_synced-2.ensures.torn told) (no_fault told)).0;
      },
      omega (arith, c.self.invariant.1, c.frame.ensures.capacity),
    )

pub returns-clause-stored : goal.returns-clause-stored
returns-clause-stored g c =
    let laws = g.met.D.Disk in
    let j = c.self.inside in
    let was = c.self.invariant.0 in
    let b = c.args.bytes.now in
    let sure : j.doubt ≡ None = none_from j.doubt (rw (← c.self.view_is) at c.requires.settled) in
    let room : j.tail + length b + 6 ≤ j.areas.bytes = omega (arith, c.if-self-saturating_add.false, c.saturating_add.ensures, was.bounds.within, was.bounds.most) in
    let d1 = c.write_synced.new.disk in
    let buffer : c.deref.result.now ≡ framed b = c.deref.ensures.value ∙ c.frame.ensures.bytes in
    let at_is : c.begin.result + j.tail ≡ begin_of j.areas j.second + j.tail = ap (λ x. x + j.tail) c.begin.ensures in
    let d2 = c.write_synced-2.new.disk in
    let no_fault = if_no_error c.write_synced-2.result (sym c.is_err.ensures.value ∙ c.if-is_err.false) c.write_synced-2.ensures.done in
    rw (← c.self.view_is) (record {
      stays = record { areas = refl; length = c.write_synced-2.ensures.size ∙ c.write_synced.ensures.size; spare = refl };
      format = refl;
      sure = ap is_some sure;
      later = omega (arith, c.write_synced.ensures.later, c.write_synced-2.ensures.later);
      told = λ told. stored3 g.D.Disk (laws.falls told) j.areas j.second j.generation j.tail j.closed j.spare j.doubt j.disk b (was.told told) sure was.bounds.least was.bounds.most room (c.begin.result + j.tail) at_is c.deref.result.now buffer d1 (c.write_synced.ensures.torn told) (c.in_ok-write_synced.ensures.done told) d2 (c.write_synced-2.ensures.torn told) (no_fault told);
    })
