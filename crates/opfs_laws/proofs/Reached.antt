-- What every reached state keeps, together.
use Rattle.std.proofs.Common.{[], ap}
use Rattle.opfs_machine.specs.declared.own.Own.TheVariants as own
use Rattle.opfs_machine.specs.Histories.{state_after}
use Rattle.opfs_machine.specs.Openings.{begun}
use Rattle.opfs_machine.specs.Rulings.{is_read_write}
use Rattle.opfs_laws.specs.Whole.{WhatEveryReachedStateKeeps}
use Rattle.opfs_laws.proofs.Bounded.{IsBounded, bounded-kept}
use Rattle.opfs_laws.proofs.CoveredBegun.{covered-begun}
use Rattle.opfs_laws.proofs.LocksEffect.{locks-begun}
use Rattle.opfs_laws.proofs.OwnFiles.{own_files-begun}
use Rattle.opfs_laws.proofs.OwnKept.{keeps-row}
use Rattle.opfs_laws.proofs.OwnSizes.{Fits, fits-begun}
use Rattle.opfs_laws.proofs.Reaching.{kept-all}
use Rattle.opfs_laws.proofs.Wholes.{IsMap, map-kept, file-there}

pub whole : WhatEveryReachedStateKeeps
whole o es opening legal =
    let t = state_after o es in
    let map_of = kept-all (λ s. IsMap s.rows) map-kept (begun o) [] es legal (record { order = opening.order; parents = opening.parents }) in
    let all = kept-all IsBounded bounded-kept (begun o) [] es legal (record {
      files = own_files-begun o;
      locks = locks-begun o;
      fits = fits-begun o;
      covered = covered-begun o;
      rising = opening.modes;
      pool = opening.pool;
      area = opening.area;
    }) in
    record {
      order = map_of.order;
      parents = map_of.parents;
      locks = all.locks;
      files = file-there t all.locks;
      buffers = λ k n w is. keeps-row Fits t k n (own.Stream w) all.fits is;
      readers = λ k n h is reads. keeps-row Fits t k n (own.Handle h) all.fits is (ap is_read_write reads);
      covered = all.covered;
      modes = all.rising;
      pool = all.pool;
      area = all.area;
    }
