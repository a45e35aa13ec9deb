use Rattle.std.proofs.Common.{refl, sym, ap, subst, ◌∙◌}
use Rattle.opfs_state_rows.specs.Changes.Asking.{IsAccepted, made_at}
use Rattle.opfs_state.proofs.Standby.{directory-asked, file-asked, remove-asked, row-ready, quiet-ready, not-asked, remove-ready, snapshot-ready, writable-ready, sync-ready, write-ready, truncate-ready, flush-ready, persist-ready, post-ready, wait-ready, if-both, if-then}
use Rattle.opfs_state.specs.Applied.{IsReady}
use Rattle.opfs_state.specs.declared.state.Ready.{Ready}
use Rattle.opfs_state.proofs.preparing.ready_for.Goals as goal

pub ready_child-requires-clause-name : goal.ready_child-requires-clause-name
ready_child-requires-clause-name c = (directory-asked c.args.store.now.machine c.args.agent c.in-GetDirectoryHandle.dir c.in-GetDirectoryHandle.name _ (subst (IsAccepted c.args.store.now.machine c.args.agent) c.in-GetDirectoryHandle.is c.requires.judged)).0

pub ready_child-requires-clause-dir : goal.ready_child-requires-clause-dir
ready_child-requires-clause-dir c = (directory-asked c.args.store.now.machine c.args.agent c.in-GetDirectoryHandle.dir c.in-GetDirectoryHandle.name _ (subst (IsAccepted c.args.store.now.machine c.args.agent) c.in-GetDirectoryHandle.is c.requires.judged)).1

pub ready_child-requires-in-GetFileHandle-clause-name : goal.ready_child-requires-in-GetFileHandle-clause-name
ready_child-requires-in-GetFileHandle-clause-name c = (file-asked c.args.store.now.machine c.args.agent c.in-GetFileHandle.dir c.in-GetFileHandle.name _ (subst (IsAccepted c.args.store.now.machine c.args.agent) c.in-GetFileHandle.is c.requires.judged)).0

pub ready_child-requires-in-GetFileHandle-clause-dir : goal.ready_child-requires-in-GetFileHandle-clause-dir
ready_child-requires-in-GetFileHandle-clause-dir c = (file-asked c.args.store.now.machine c.args.agent c.in-GetFileHandle.dir c.in-GetFileHandle.name _ (subst (IsAccepted c.args.store.now.machine c.args.agent) c.in-GetFileHandle.is c.requires.judged)).1

pub ready_removed-requires : goal.ready_removed-requires
ready_removed-requires c = remove-asked c.args.store.now.machine c.args.agent c.in-RemoveEntry.dir c.in-RemoveEntry.name _ (subst (IsAccepted c.args.store.now.machine c.args.agent) c.in-RemoveEntry.is c.requires.judged)

pub returns-in-GetDirectory-clause-ok : goal.returns-in-GetDirectory-clause-ok
unfolding made_at
returns-in-GetDirectory-clause-ok c =
    let s = c.args.store.now in
    if-then _ _ (λ (r : Ready). IsReady c.ready_root.new.store r.target r.growth c.args.agent c.args.op.now) c.ready_root.ensures.ok (λ r h. subst (IsReady c.ready_root.new.store r.target r.growth c.args.agent) (sym c.in-GetDirectory.is) (row-ready s c.ready_root.new.store r.target r.growth c.args.agent _ refl c.ready_root.ensures.stays h))

pub returns-in-GetDirectoryHandle-clause-ok : goal.returns-in-GetDirectoryHandle-clause-ok
unfolding made_at
returns-in-GetDirectoryHandle-clause-ok c =
    let s = c.args.store.now in
    if-then _ _ (λ (r : Ready). IsReady c.ready_child.new.store r.target r.growth c.args.agent c.args.op.now) c.ready_child.ensures.ok (λ r h. subst (IsReady c.ready_child.new.store r.target r.growth c.args.agent) (sym c.in-GetDirectoryHandle.is) (row-ready s c.ready_child.new.store r.target r.growth c.args.agent _ refl c.ready_child.ensures.stays h))

pub returns-in-GetFileHandle-clause-ok : goal.returns-in-GetFileHandle-clause-ok
unfolding made_at
returns-in-GetFileHandle-clause-ok c =
    let s = c.args.store.now in
    if-then _ _ (λ (r : Ready). IsReady c.ready_child-in-GetFileHandle.new.store r.target r.growth c.args.agent c.args.op.now) c.ready_child-in-GetFileHandle.ensures.ok (λ r h. subst (IsReady c.ready_child-in-GetFileHandle.new.store r.target r.growth c.args.agent) (sym c.in-GetFileHandle.is) (row-ready s c.ready_child-in-GetFileHandle.new.store r.target r.growth c.args.agent _ refl c.ready_child-in-GetFileHandle.ensures.stays h))

pub returns-in-RemoveEntry-clause-ok : goal.returns-in-RemoveEntry-clause-ok
returns-in-RemoveEntry-clause-ok c =
    let s = c.args.store.now in
    if-then _ _ (λ (r : Ready). IsReady s r.target r.growth c.args.agent c.args.op.now) c.ready_removed.ensures (λ r h. subst (IsReady s r.target r.growth c.args.agent) (sym c.in-RemoveEntry.is) (remove-ready s s r.target r.growth c.args.agent (record { machine = refl; tree = refl }) c.requires.clean _ _ _ (ap (λ (x : Ready). x.target) h) (ap (λ (x : Ready). x.growth) h)))

pub returns-in-GetFile-clause-ok : goal.returns-in-GetFile-clause-ok
returns-in-GetFile-clause-ok c =
    let s = c.args.store.now in
    if-both _ _ _ (λ (r : Ready). IsReady c.ready_own.new.store r.target r.growth c.args.agent c.args.op.now) c.ready_own.ensures.ok c.ready_own.ensures.room (λ r h room. subst (IsReady c.ready_own.new.store r.target r.growth c.args.agent) (sym c.in-GetFile.is) (snapshot-ready s c.ready_own.new.store r.target r.growth c.args.agent c.ready_own.ensures.stays (c.ready_own.ensures.place ∙ c.requires.clean) _ (ap (λ (x : Ready). x.target) h) (ap (λ (x : Ready). x.growth) h) room))

pub returns-in-CreateWritable-clause-ok : goal.returns-in-CreateWritable-clause-ok
returns-in-CreateWritable-clause-ok c =
    let s = c.args.store.now in
    if-both _ _ _ (λ (r : Ready). IsReady c.ready_open.new.store r.target r.growth c.args.agent c.args.op.now) c.ready_open.ensures.ok c.ready_open.ensures.room (λ r h room. subst (IsReady c.ready_open.new.store r.target r.growth c.args.agent) (sym c.in-CreateWritable.is) (writable-ready s c.ready_open.new.store r.target r.growth c.args.agent c.ready_open.ensures.stays (c.ready_open.ensures.place ∙ c.requires.clean) _ _ (ap (λ (x : Ready). x.target) h) (ap (λ (x : Ready). x.growth) h) room))

pub returns-in-CreateSyncAccessHandle-clause-ok : goal.returns-in-CreateSyncAccessHandle-clause-ok
returns-in-CreateSyncAccessHandle-clause-ok c =
    let s = c.args.store.now in
    if-both _ _ _ (λ (r : Ready). IsReady c.ready_open-in-CreateSyncAccessHandle.new.store r.target r.growth c.args.agent c.args.op.now) c.ready_open-in-CreateSyncAccessHandle.ensures.ok c.ready_open-in-CreateSyncAccessHandle.ensures.room (λ r h room. subst (IsReady c.ready_open-in-CreateSyncAccessHandle.new.store r.target r.growth c.args.agent) (sym c.in-CreateSyncAccessHandle.is) (sync-ready s c.ready_open-in-CreateSyncAccessHandle.new.store r.target r.growth c.args.agent c.ready_open-in-CreateSyncAccessHandle.ensures.stays (c.ready_open-in-CreateSyncAccessHandle.ensures.place ∙ c.requires.clean) _ _ (ap (λ (x : Ready). x.target) h) (ap (λ (x : Ready). x.growth) h) room))

pub returns-in-SyncWrite-clause-ok : goal.returns-in-SyncWrite-clause-ok
returns-in-SyncWrite-clause-ok c =
    let s = c.args.store.now in
    if-then _ _ (λ (r : Ready). IsReady s r.target r.growth c.args.agent c.args.op.now) c.ready_handle.ensures (λ r h. subst (IsReady s r.target r.growth c.args.agent) (sym c.in-SyncWrite.is) (write-ready s s r.target r.growth c.args.agent (record { machine = refl; tree = refl }) c.requires.clean _ _ _ (ap (λ (x : Ready). x.target) h) (ap (λ (x : Ready). x.growth) h)))

pub returns-in-SyncTruncate-clause-ok : goal.returns-in-SyncTruncate-clause-ok
returns-in-SyncTruncate-clause-ok c =
    let s = c.args.store.now in
    if-then _ _ (λ (r : Ready). IsReady s r.target r.growth c.args.agent c.args.op.now) c.ready_handle-in-SyncTruncate.ensures (λ r h. subst (IsReady s r.target r.growth c.args.agent) (sym c.in-SyncTruncate.is) (truncate-ready s s r.target r.growth c.args.agent (record { machine = refl; tree = refl }) c.requires.clean _ _ (ap (λ (x : Ready). x.target) h) (ap (λ (x : Ready). x.growth) h)))

pub returns-in-SyncFlush-clause-ok : goal.returns-in-SyncFlush-clause-ok
returns-in-SyncFlush-clause-ok c =
    let s = c.args.store.now in
    if-then _ _ (λ (r : Ready). IsReady s r.target r.growth c.args.agent c.args.op.now) c.ready_handle-in-SyncFlush.ensures (λ r h. subst (IsReady s r.target r.growth c.args.agent) (sym c.in-SyncFlush.is) (flush-ready s s r.target r.growth c.args.agent (record { machine = refl; tree = refl }) c.requires.clean _ (ap (λ (x : Ready). x.target) h) (ap (λ (x : Ready). x.growth) h)))

pub returns-in-Persist-clause-ok : goal.returns-in-Persist-clause-ok
returns-in-Persist-clause-ok c =
    let s = c.args.store.now in
    if-then _ _ (λ (r : Ready). IsReady c.ready_mode.new.store r.target r.growth c.args.agent c.args.op.now) c.ready_mode.ensures.ok (λ r h. subst (IsReady c.ready_mode.new.store r.target r.growth c.args.agent) (sym c.in-Persist.is) (persist-ready s c.ready_mode.new.store r.target r.growth c.args.agent c.ready_mode.ensures.stays (c.ready_mode.ensures.place ∙ c.requires.clean) _ h))

pub returns-in-Post-clause-ok : goal.returns-in-Post-clause-ok
returns-in-Post-clause-ok c =
    let s = c.args.store.now in
    if-both _ _ _ (λ (r : Ready). IsReady c.ready_tag.new.store r.target r.growth c.args.agent c.args.op.now) c.ready_tag.ensures.ok c.ready_tag.ensures.tag (λ r h tag. subst (IsReady c.ready_tag.new.store r.target r.growth c.args.agent) (sym c.in-Post.is) (post-ready s c.ready_tag.new.store r.target r.growth c.args.agent c.ready_tag.ensures.stays (c.ready_tag.ensures.place ∙ c.requires.clean) _ (ap (λ (x : Ready). x.target) h) (ap (λ (x : Ready). x.growth) h) tag))

pub returns-in-Wait-clause-ok : goal.returns-in-Wait-clause-ok
returns-in-Wait-clause-ok c =
    let s = c.args.store.now in
    if-both _ _ _ (λ (r : Ready). IsReady c.ready_tag-in-Wait.new.store r.target r.growth c.args.agent c.args.op.now) c.ready_tag-in-Wait.ensures.ok c.ready_tag-in-Wait.ensures.tag (λ r h tag. subst (IsReady c.ready_tag-in-Wait.new.store r.target r.growth c.args.agent) (sym c.in-Wait.is) (wait-ready s c.ready_tag-in-Wait.new.store r.target r.growth c.args.agent c.ready_tag-in-Wait.ensures.stays (c.ready_tag-in-Wait.ensures.place ∙ c.requires.clean) _ (ap (λ (x : Ready). x.target) h) (ap (λ (x : Ready). x.growth) h) tag))

pub returns-in_default : goal.returns-in_default
returns-in_default c =
    let s = c.args.store.now in
    let quiet = not-asked c.args.op.now c.in_default.not-GetDirectory c.in_default.not-GetDirectoryHandle c.in_default.not-GetFileHandle c.in_default.not-RemoveEntry c.in_default.not-GetFile c.in_default.not-CreateWritable c.in_default.not-CreateSyncAccessHandle c.in_default.not-SyncWrite c.in_default.not-SyncTruncate c.in_default.not-SyncFlush c.in_default.not-Persist c.in_default.not-Post c.in_default.not-Wait in
    let ready = quiet-ready s s c.args.agent c.args.op.now quiet (record { machine = refl; tree = refl }) c.requires.clean in
    record {
      stays = record { machine = refl; tree = refl };
      ok = subst (λ (r : Ready). IsReady s r.target r.growth c.args.agent c.args.op.now) (sym c.none.ensures) ready;
      err = tt;
      ends = λ ending. refl;
    }
