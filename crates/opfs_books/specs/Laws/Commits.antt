-- The laws that the books rest on, together: those of commits over one disk, and those of states. This project's own.
use Rattle.opfs_commit.specs.Laws.{ImagesShowFronts, RecordsAreDurable, RecordsMayBeInDoubt, RecordsShowFronts, DoubtsEnd, DoubtsMayStay, DoubtsNeedAGate, EndsShowFronts, FailedEndsShowFronts}
use Rattle.opfs_commit.specs.Laws.{ChangesAreKeptBack, NextIsToStore, NextAloneIsToStore, RunsBeginWithTheirImage, RowsHoldWhatWasTold, ContentsStand, ImagesStand, LastContentsStand}
use Rattle.opfs_commit.specs.Laws.{ReadsLeaveImages, ReadsShowFronts, PagesBesideLeaveImages, PagesBesideShowFronts, TrailsBegin, TrailsGoOn, TrailsGrowKept, TrailsGrowCommitted, ChangesGoThroughFilling, QuietChangesMayBeKept}
use Rattle.opfs_laws.specs.Counting.{AStateCountsItsHistory}
use Rattle.opfs_laws.specs.Faults.{TheMachineNeverFaults}
use Rattle.opfs_laws.specs.Whole.{WhatEveryReachedStateKeeps}
use Rattle.opfs_laws.specs.Lengths.Kept.{LengthsAreKept}
use Rattle.opfs_outside.specs.declared.disk.Disk.{Ghosts as DiskWords}

pub record CommitLaws {D : Type 0} (w : DiskWords D) : Type 0 where
  pub fronts : ImagesShowFronts w
  pub durable : RecordsAreDurable w
  pub in_doubt : RecordsMayBeInDoubt w
  pub shown : RecordsShowFronts w
  pub ends : DoubtsEnd w
  pub stays : DoubtsMayStay w
  pub gate : DoubtsNeedAGate w
  pub ends_shown : EndsShowFronts w
  pub stays_shown : FailedEndsShowFronts w
  pub kept : ChangesAreKeptBack w
  pub next : NextIsToStore w
  pub alone : NextAloneIsToStore w
  pub begins : RunsBeginWithTheirImage w
  pub rows : RowsHoldWhatWasTold w
  pub finished : ContentsStand w
  pub at_rest : ImagesStand w
  pub last_content : LastContentsStand w
  pub reads : ReadsLeaveImages w
  pub reads_shown : ReadsShowFronts w
  pub pages : PagesBesideLeaveImages w
  pub pages_shown : PagesBesideShowFronts w
  pub trail_begins : TrailsBegin w
  pub trail_on : TrailsGoOn w
  pub trail_kept : TrailsGrowKept w
  pub trail_committed : TrailsGrowCommitted w
  pub filled : ChangesGoThroughFilling
  pub quiet : QuietChangesMayBeKept

pub record StateLaws : Type 0 where
  pub reached : WhatEveryReachedStateKeeps
  pub counts : AStateCountsItsHistory
  pub lengths : LengthsAreKept
  pub faults : TheMachineNeverFaults
