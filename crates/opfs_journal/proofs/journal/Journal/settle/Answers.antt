use Rattle.std.proofs.Common.{◌≡◌, sym, ◌∙◌, ap, subst, arith, refl, Some, None}
use Rattle.std.specs.Prelude.{is_some}
use Rattle.opfs_journal.specs.Reading.{stored_of}
use Rattle.opfs_journal.specs.Standing.{Bounds}
use Rattle.opfs_journal.proofs.Moves.{still_told, settled_told, shut, settle_behind, durable_at_rest}
use Rattle.opfs_journal.proofs.Views.{on_err, doubt_told}
use Rattle.opfs_journal.proofs.journal.Journal.settle.Goals as goal

pub invariant_of-self : goal.invariant_of-self
invariant_of-self g c =
    let laws = g.met.D.Disk in
    let j = c.self.inside in
    let was = c.self.invariant.0 in
    let old = j.disk in
    let new = c.write_synced.new.disk in
    let e : j.doubt ≡ Some c.in-Some.gate = c.in-Some.is in (
      record {
        bounds = subst (λ n. Bounds j.areas n j.generation j.tail j.doubt) (sym c.write_synced.ensures.size) was.bounds;
        told = λ told. (still_told g.D.Disk.content g.D.Disk.moment g.D.Disk.since (laws.falls told) j.areas j.second j.generation j.tail j.closed j.doubt c.in-Some.gate old new e (was.told told) (c.write_synced.ensures.torn told)).0;
      },
      c.self.invariant.1,
    )

pub returns-in_err-write_synced-clause-unsettled : goal.returns-in_err-write_synced-clause-unsettled
returns-in_err-write_synced-clause-unsettled g c =
    let laws = g.met.D.Disk in
    let j = c.self.inside in
    let was = c.self.invariant.0 in
    let old = j.disk in
    let new = c.write_synced.new.disk in
    let e : j.doubt ≡ Some c.in-Some.gate = c.in-Some.is in
    let bounds = was.bounds.gate c.in-Some.gate e in
    let after = λ (told : g.D.Disk.tells). still_told g.D.Disk.content g.D.Disk.moment g.D.Disk.since (laws.falls told) j.areas j.second j.generation j.tail j.closed j.doubt c.in-Some.gate old new e (was.told told) (c.write_synced.ensures.torn told) in
    rw (← c.self.view_is) (on_err c.from_residual.result (record {
      stays = record { areas = refl; length = c.write_synced.ensures.size; spare = refl };
      tail = refl;
      format = refl;
      was = ap is_some e;
      unsure = ap is_some e;
      later = c.write_synced.ensures.later;
      told = λ told. shut g.D.Disk (laws.falls told) j.areas j.second j.generation j.tail j.closed j.spare j.doubt j.doubt c.in-Some.gate old new e (was.told told) (c.write_synced.ensures.torn told) bounds.0 bounds.1 (omega (arith, bounds.1, was.bounds.lies, laws.full told old)) (after told).0 (after told).1;
      doubt = λ told.
          doubt_told g.D.Disk.content j.areas j.second j.generation j.tail j.closed j.spare new (g.D.Disk.since new (g.D.Disk.moment new)) c.in-Some.gate j.doubt e (after told).0 (omega (arith, bounds.1, was.bounds.lies, laws.full told new, c.write_synced.ensures.size))
          ∙ ap stored_of (after told).2
          ∙ sym (doubt_told g.D.Disk.content j.areas j.second j.generation j.tail j.closed j.spare old (g.D.Disk.since old (g.D.Disk.moment old)) c.in-Some.gate j.doubt e (was.told told) (omega (arith, bounds.1, was.bounds.lies, laws.full told old)));
      behind = λ told. settle_behind g.D.Disk.content g.D.Disk.moment g.D.Disk.since (laws.falls told) j.areas c.in-Some.gate (was.told told).shape j.closed (was.told told).next (was.told told).next_closed old new ((was.told told).unsure c.in-Some.gate e) (c.write_synced.ensures.torn told) bounds.0 bounds.1;
    }))

pub invariant_of-self-in-Some : goal.invariant_of-self-in-Some
invariant_of-self-in-Some g c =
    let laws = g.met.D.Disk in
    let j = c.self.inside in
    let was = c.self.invariant.0 in
    let old = j.disk in
    let new = c.write_synced.new.disk in
    let e : j.doubt ≡ Some c.in-Some.gate = c.in-Some.is in (
      record {
        bounds = record {
          lies = omega (arith, was.bounds.lies, c.write_synced.ensures.size);
          fits = was.bounds.fits;
          least = was.bounds.least;
          most = was.bounds.most;
          within = was.bounds.within;
          known = was.bounds.known;
          gate = λ other is. absurd (cc is);
        };
        told = λ told. (settled_told g.D.Disk.content g.D.Disk.moment g.D.Disk.since (laws.falls told) j.areas j.second j.generation j.tail j.closed j.doubt c.in-Some.gate old new e (was.told told) (c.write_synced.ensures.torn told) (c.in_ok-write_synced.ensures.done told)).0;
      },
      c.self.invariant.1,
    )

pub returns-in_ok-write_synced-clause-settled : goal.returns-in_ok-write_synced-clause-settled
returns-in_ok-write_synced-clause-settled g c =
    let laws = g.met.D.Disk in
    let j = c.self.inside in
    let was = c.self.invariant.0 in
    let old = j.disk in
    let new = c.write_synced.new.disk in
    let e : j.doubt ≡ Some c.in-Some.gate = c.in-Some.is in
    let bounds = was.bounds.gate c.in-Some.gate e in
    let after = λ (told : g.D.Disk.tells). settled_told g.D.Disk.content g.D.Disk.moment g.D.Disk.since (laws.falls told) j.areas j.second j.generation j.tail j.closed j.doubt c.in-Some.gate old new e (was.told told) (c.write_synced.ensures.torn told) (c.in_ok-write_synced.ensures.done told) in
    rw (← c.self.view_is) (record {
      stays = record { areas = refl; length = c.write_synced.ensures.size; spare = refl };
      tail = refl;
      format = refl;
      none = λ sure. absurd (cc (ap is_some e, sure));
      sure = refl;
      later = c.write_synced.ensures.later;
      told = λ told _. shut g.D.Disk (laws.falls told) j.areas j.second j.generation j.tail j.closed j.spare j.doubt None c.in-Some.gate old new e (was.told told) (c.write_synced.ensures.torn told) bounds.0 bounds.1 (omega (arith, bounds.1, was.bounds.lies, laws.full told old)) (after told).0 (after told).1;
      durable = λ told i is.
          durable_at_rest g.D.Disk.content j.areas j.second j.generation j.tail j.closed j.spare new (g.D.Disk.since new (g.D.Disk.moment new)) None (after told).0 refl i is
          ∙ ap (λ k. Some k) (shut g.D.Disk (laws.falls told) j.areas j.second j.generation j.tail j.closed j.spare j.doubt None c.in-Some.gate old new e (was.told told) (c.write_synced.ensures.torn told) bounds.0 bounds.1 (omega (arith, bounds.1, was.bounds.lies, laws.full told old)) (after told).0 (after told).1).records;
    })

pub returns-in_default-clause-settled : goal.returns-in_default-clause-settled
returns-in_default-clause-settled g c =
    let j = c.self.inside in
    let was = c.self.invariant.0 in
    rw (← c.self.view_is) (record {
      stays = record { areas = refl; length = refl; spare = refl };
      tail = refl;
      format = refl;
      none = λ _. refl;
      sure = ap is_some c.in_default.is;
      later = omega arith;
      told = λ _ unsure. absurd (cc (ap is_some c.in_default.is, unsure));
      durable = λ told i is. durable_at_rest g.D.Disk.content j.areas j.second j.generation j.tail j.closed j.spare j.disk (g.D.Disk.since j.disk (g.D.Disk.moment j.disk)) j.doubt (was.told told) c.in_default.is i is;
    })
