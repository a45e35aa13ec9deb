use Rattle.opfs_pages.proofs.history_laws.Own.{wrote, truncated, sync-wrote, sync-wrote-bytes, sync-truncated, sync-truncated-bytes, stream-closed, stream-aborted, handle-closed, handle-discarded, handle-flushed, stream-opened, handle-opened}
use Rattle.opfs_pages.proofs.history_laws.rows.calls_change_their_row.Goals as goal

pub returns : goal.returns
returns c = record {
  wrote = λ s k told n bytes position w is there. wrote s k is.live told is.done n bytes position w there;
  truncated = λ s k told n size w is there. truncated s k is.live told is.done n size w there;
  sync_wrote = λ s k told n bytes at h is there. sync-wrote s k is.live told is.done n bytes at h there;
  sync_wrote_bytes = λ s k told n bytes at h f is there file. sync-wrote-bytes s k is.live told is.done n bytes at h f there file;
  sync_truncated = λ s k told n size h is there. sync-truncated s k is.live told is.done n size h there;
  sync_truncated_bytes = λ s k told n size h f is there file. sync-truncated-bytes s k is.live told is.done n size h f there file;
  closed = λ s k told n w is there. stream-closed s k is.live told is.done n w there;
  aborted = λ s k told n w is there. stream-aborted s k is.live told is.done n w there;
  sync_closed = λ s k told n h is there. handle-closed s k is.live told is.done n h there;
  discarded = λ s k told n h is there. handle-discarded s k is.live told is.done n h there;
  flushed = λ s k told n h is there. handle-flushed s k is.live told is.done n h there;
  opened = λ s k told at keep f is there. stream-opened s k is.live told is.done at keep f there;
  sync_opened = λ s k told at m is. handle-opened s k is.live told is.done at m;
}
