-- The file of each stream and access handle is of its agent's own origin.
use Rattle.std.proofs.Common.{◌≡◌, ℕ, Bool, true, false, All, List, [], ◌∷◌, fold, cond, Option, Some, None, refl, sym, ◌∙◌, subst}
use Rattle.std.proofs.lemmas.List.Elements.{All-map, All-nil}
use Rattle.opfs_base.specs.Places.{Place, place_of, child}
use Rattle.opfs_base.specs.Texts.{Text}
use Rattle.opfs_base.specs.Units.{unit_of}
use Rattle.opfs_base.specs.declared.locator.Locator.{Locator}
use Rattle.opfs_base.specs.declared.locator.Kind.TheVariants as kind
use Rattle.opfs_hist.specs.declared.op.Mode.{Mode}
use Rattle.opfs_hist.specs.declared.op.Op.{Op}
use Rattle.opfs_hist.specs.declared.op.Op.TheVariants as op
use Rattle.opfs_hist.specs.declared.reply.Reply.{Reply}
use Rattle.opfs_machine.specs.declared.own.HandleOutline.{HandleOutline}
use Rattle.opfs_machine.specs.declared.own.StreamOutline.{StreamOutline}
use Rattle.opfs_machine.specs.declared.own.Own.{Own}
use Rattle.opfs_machine.specs.declared.own.Own.TheVariants as own
use Rattle.opfs_machine.specs.declared.state.Agent.{Agent}
use Rattle.opfs_machine.specs.declared.state.FileRow.{FileRow}
use Rattle.opfs_machine.specs.declared.state.Row.TheVariants as row
use Rattle.opfs_machine.specs.declared.state.Sizes.{Sizes}
use Rattle.opfs_machine.specs.declared.state.State.{State}
use Rattle.opfs_machine.specs.Agents.{agent_of, own_of, open_stream, open_handle}
use Rattle.opfs_machine.specs.Contents.{in_bytes, outline_of, written_row, truncated_row, sought_row, moved_row, advanced_row}
use Rattle.opfs_machine.specs.Effects.{effect, refused, made, new_row, moment_of, opens_bucket, opens_stream, takes_snapshot, closes_stream, aborts_stream, changes_file, flushes, closes_handle, discards, persists, with_written, with_lock, flushed, unlocked, undone, replaced, content_of, cursor_after_read}
use Rattle.opfs_machine.specs.Histories.{may_enter, is_own, is_of_origin}
use Rattle.opfs_machine.specs.Openings.{Opening, begun, agent_begun}
use Rattle.opfs_machine.specs.Replies.{sizes_of}
use Rattle.opfs_machine.specs.Rows.{file_at, with_file, children_of}
use Rattle.opfs_machine.specs.Rulings.{start_of, size_written, reserve_for, want_of, is_read_write, first_reserve}
use Rattle.opfs_machine.specs.Steps.{evicted, changed_by, is_refusal}
use Rattle.opfs_machine.specs.Sums.{reserve_of}
use Rattle.opfs_machine.specs.Victims.{is_callers}
use Rattle.opfs_locks.specs.declared.Want.TheVariants as want
use Rattle.opfs_laws.proofs.OwnKept.{OwnKeeps, AgentKeeps, keeps-agent, keeps-with_agent, keeps-adds, keeps-sets, keeps-changed, made-agents, evicted-agents}
use Rattle.opfs_laws.proofs.Reaching.{IsKeptBy}

abbrev pub has_own_file : Option Text → Own → Bool
has_own_file key (own.Stream w) = is_callers key w.file.0
has_own_file key (own.Handle h) = is_callers key h.file.0
has_own_file key r = true

abbrev pub HasOwnFile : Option Text → Own → Type 0
HasOwnFile key r = has_own_file key r ≡ true

abbrev pub OwnFiles : State Text Own → Type 0
OwnFiles s = OwnKeeps HasOwnFile s

abbrev AgentsKeep : List (Agent Own) → Type 0
AgentsKeep agents = All (AgentKeeps HasOwnFile) agents

pub callers-own : (key : Option Text) (at : Locator) → is_of_origin key at ≡ is_callers key at.key
callers-own None at = refl
callers-own (Some origin) at = refl

written : (key : Option Text) (position : ℕ) (bytes : Text) (reserve : ℕ) (r : Own) → HasOwnFile key r → HasOwnFile key (written_row r position bytes reserve)
written key position bytes reserve (own.Stream w) h = h
written key position bytes reserve r h = h

truncated : (key : Option Text) (size reserve : ℕ) (r : Own) → HasOwnFile key r → HasOwnFile key (truncated_row r size reserve)
truncated key size reserve (own.Stream w) h = h
truncated key size reserve r h = h

sought : (key : Option Text) (offset : ℕ) (r : Own) → HasOwnFile key r → HasOwnFile key (sought_row r offset)
sought key offset (own.Stream w) h = h
sought key offset r h = h

moved : (key : Option Text) (cursor reserve : ℕ) (r : Own) → HasOwnFile key r → HasOwnFile key (moved_row r cursor reserve)
moved key cursor reserve (own.Handle w) h = h
moved key cursor reserve r h = h

advanced : (key : Option Text) (names : List Text) (r : Own) → HasOwnFile key r → HasOwnFile key (advanced_row r names)
advanced key names (own.Iterator i) h = refl
advanced key names r h = h

made-keeps : (s : State Text Own) (place : Place) (r : _) → OwnFiles s → OwnFiles (made s place r)
made-keeps s place r h = subst AgentsKeep (sym (made-agents s place r)) h

bucket-keeps : (s : State Text Own) (bucket : Text) (key : Option Text) → OwnFiles s → OwnFiles (opens_bucket s bucket key)
bucket-keeps s bucket None h = h
bucket-keeps s bucket (Some origin) h = made-keeps s (unit_of origin bucket, []) row.Directory h

snapshot-keeps : (s : State Text Own) (k : ℕ) (f : Option (FileRow Text)) → OwnFiles s → OwnFiles (takes_snapshot in_bytes s k f)
snapshot-keeps s k None h = h
snapshot-keeps s k (Some f) h = keeps-adds HasOwnFile s k (own.Snapshot f.present) h refl

stream-keeps : (s : State Text Own) (k : ℕ) (at : Locator) (reserve : ℕ) (keep : Bool) (f : Option (FileRow Text))
    → is_own s k at ≡ true → OwnFiles s → OwnFiles (opens_stream in_bytes s k (place_of at) reserve keep f)
stream-keeps s k at reserve keep None is h = h
stream-keeps s k at reserve keep (Some f) is h =
    keeps-adds HasOwnFile (with_file s (place_of at) (with_lock want.Shared)) k _ h (sym (callers-own (agent_of s k).key at) ∙ is)

closes-keeps : (s : State Text Own) (z : Sizes) (k n : ℕ) (w : Option StreamOutline) → OwnFiles s → OwnFiles (closes_stream in_bytes s z k n w)
closes-keeps s z k n None h = h
closes-keeps s z k n (Some w) h =
    keeps-sets HasOwnFile
    (with_file (with_file s w.file (replaced (content_of in_bytes (own_of (agent_of s k) n) z.size) (moment_of s k))) w.file unlocked)
    k n own.ClosedStream h refl

aborts-keeps : (s : State Text Own) (k n : ℕ) (w : Option StreamOutline) → OwnFiles s → OwnFiles (aborts_stream in_bytes s k n w)
aborts-keeps s k n None h = h
aborts-keeps s k n (Some w) h = keeps-sets HasOwnFile (with_file s w.file unlocked) k n own.ClosedStream h refl

changes-keeps : (s : State Text Own) (k n : ℕ) (change : Text → Text) (cursor size : ℕ) (o : Option HandleOutline)
    → OwnFiles s → OwnFiles (changes_file in_bytes s k n change cursor size o)
unfolding changes_file
changes-keeps s k n change cursor size None h = h
changes-keeps s k n change cursor size (Some o) h =
    keeps-changed HasOwnFile (with_file s o.file (λ f. record f { present = change f.present; stamp = moment_of s k })) k n
    (λ r. moved_row r cursor (reserve_for o.reserve size)) h (λ r is old. moved (agent_of s k).key cursor (reserve_for o.reserve size) r old)

written-agents : (s : State Text Own) (m : Mode) (file : Place) (change : FileRow Text → FileRow Text) → (with_written s m file change).agents ≡ s.agents
written-agents s m file change = elim (is_read_write m) as (λ b. (cond b (with_file s file change) s).agents ≡ s.agents) [ true ↦ refl | false ↦ refl ]

written-keeps : (s : State Text Own) (m : Mode) (file : Place) (change : FileRow Text → FileRow Text) → OwnFiles s → OwnFiles (with_written s m file change)
written-keeps s m file change h = subst AgentsKeep (sym (written-agents s m file change)) h

flushes-keeps : (s : State Text Own) (z : Sizes) (k n : ℕ) (o : Option HandleOutline) → OwnFiles s → OwnFiles (flushes in_bytes s z k n o)
flushes-keeps s z k n None h = h
flushes-keeps s z k n (Some o) h =
    let t = with_written s o.mode o.file flushed in
    keeps-changed HasOwnFile t k n (λ r. moved_row r z.position 0) (written-keeps s o.mode o.file flushed h)
    (λ r is old. moved (agent_of t k).key z.position 0 r old)

closed-keeps : (s : State Text Own) (k n : ℕ) (o : Option HandleOutline) → OwnFiles s → OwnFiles (closes_handle in_bytes s k n o)
closed-keeps s k n None h = h
closed-keeps s k n (Some o) h =
    keeps-sets HasOwnFile (with_file (with_written s o.mode o.file flushed) o.file unlocked) k n own.ClosedHandle (written-keeps s o.mode o.file flushed h) refl

discards-keeps : (s : State Text Own) (k n : ℕ) (o : Option HandleOutline) → OwnFiles s → OwnFiles (discards in_bytes s k n o)
discards-keeps s k n None h = h
discards-keeps s k n (Some o) h =
    keeps-sets HasOwnFile (with_file (with_written s o.mode o.file undone) o.file unlocked) k n own.ClosedHandle (written-keeps s o.mode o.file undone h) refl

persists-keeps : (s : State Text Own) (bucket : Text) (grant : Bool) (key : Option Text) → OwnFiles s → OwnFiles (persists s bucket grant key)
persists-keeps s bucket grant None h = h
persists-keeps s bucket true (Some origin) h = h
persists-keeps s bucket false (Some origin) h = h

pub effect-keeps : (s : State Text Own) (z : Sizes) (k : ℕ) (o : Op) → may_enter s k o ≡ true → OwnFiles s → OwnFiles (effect in_bytes s z k o)
unfolding effect may_enter
effect-keeps s z k (op.GetDirectory bucket) may h = bucket-keeps s bucket (agent_of s k).key h
effect-keeps s z k (op.GetDirectoryHandle dir name create) may h = made-keeps s (child (place_of dir) name) row.Directory h
effect-keeps s z k (op.GetFileHandle dir name create) may h = made-keeps s (child (place_of dir) name) (new_row in_bytes kind.File (moment_of s k)) h
effect-keeps s z k (op.Values dir) may h = keeps-adds HasOwnFile s k (own.Iterator (record { dir = dir; given = [] })) h refl
effect-keeps s z k (op.Next n dir) may h =
    keeps-changed HasOwnFile s k n (λ r. advanced_row r (children_of s (place_of dir))) h (λ r is old. advanced (agent_of s k).key (children_of s (place_of dir)) r old)
effect-keeps s z k (op.GetFile at) may h = snapshot-keeps s k (file_at s (place_of at)) h
effect-keeps s z k (op.CreateWritable at keep) may h = stream-keeps s k at (first_reserve in_bytes s at keep) keep (file_at s (place_of at)) may h
effect-keeps s z k (op.Write n bytes position) may h =
    keeps-changed HasOwnFile s k n (λ r. written_row r (start_of z position) bytes (reserve_for (reserve_of (outline_of r)) (size_written z position bytes))) h
    (λ r is old. written (agent_of s k).key (start_of z position) bytes (reserve_for (reserve_of (outline_of r)) (size_written z position bytes)) r old)
effect-keeps s z k (op.Seek n position) may h = keeps-changed HasOwnFile s k n (λ r. sought_row r position) h (λ r is old. sought (agent_of s k).key position r old)
effect-keeps s z k (op.Truncate n size) may h =
    keeps-changed HasOwnFile s k n (λ r. truncated_row r size (reserve_for (reserve_of (outline_of r)) size)) h
    (λ r is old. truncated (agent_of s k).key size (reserve_for (reserve_of (outline_of r)) size) r old)
effect-keeps s z k (op.Close n) may h = closes-keeps s z k n (open_stream in_bytes s k n) h
effect-keeps s z k (op.Abort n) may h = aborts-keeps s k n (open_stream in_bytes s k n) h
effect-keeps s z k (op.CreateSyncAccessHandle at m) may h =
    keeps-adds HasOwnFile (with_file s (place_of at) (with_lock (want_of m))) k (own.Handle (record { file = place_of at; mode = m; cursor = 0; reserve = 0 })) h
    (sym (callers-own (agent_of s k).key at) ∙ may)
effect-keeps s z k (op.SyncRead n len at) may h =
    keeps-changed HasOwnFile s k n (λ r. moved_row r (cursor_after_read z len at) (reserve_of (outline_of r))) h
    (λ r is old. moved (agent_of s k).key (cursor_after_read z len at) (reserve_of (outline_of r)) r old)
effect-keeps s z k (op.SyncWrite n bytes at) may h = changes-keeps s k n _ _ _ (open_handle in_bytes s k n) h
effect-keeps s z k (op.SyncTruncate n size) may h = changes-keeps s k n _ _ _ (open_handle in_bytes s k n) h
effect-keeps s z k (op.SyncFlush n) may h = flushes-keeps s z k n (open_handle in_bytes s k n) h
effect-keeps s z k (op.SyncClose n) may h = closed-keeps s k n (open_handle in_bytes s k n) h
effect-keeps s z k (op.Persist bucket) may h = persists-keeps s bucket (agent_of s k).grant (agent_of s k).key h
effect-keeps s z k (op.Moment ms) may h = keeps-with_agent HasOwnFile s k (record (agent_of s k) { moment = ms }) h (keeps-agent HasOwnFile s k h)
effect-keeps s z k (op.Await tag) may h = keeps-with_agent HasOwnFile s k (record (agent_of s k) { waits = None }) h (keeps-agent HasOwnFile s k h)
effect-keeps s z k (op.Wait tag) may h = keeps-with_agent HasOwnFile s k (record (agent_of s k) { waits = Some tag }) h (keeps-agent HasOwnFile s k h)
effect-keeps s z k (op.Discard n) may h = discards-keeps s k n (open_handle in_bytes s k n) h
effect-keeps s z k op.End may h = keeps-with_agent HasOwnFile s k (record (agent_of s k) { live = false; waits = None }) h (keeps-agent HasOwnFile s k h)
effect-keeps s z k o may h = h

refused-keeps : (s : State Text Own) (k : ℕ) (o : Op) → OwnFiles s → OwnFiles (refused s k o)
refused-keeps s k (op.Await tag) h = keeps-with_agent HasOwnFile s k (record (agent_of s k) { waits = None }) h (keeps-agent HasOwnFile s k h)
refused-keeps s k o h = h

pub changed-keeps : (s : State Text Own) (k : ℕ) (o : Op) (answered : Reply) → may_enter s k o ≡ true → OwnFiles s → OwnFiles (changed_by s k o answered)
changed-keeps s k o answered may h =
    elim (is_refusal answered) as (λ b. OwnFiles (elim b as (λ x. State Text Own) [ true ↦ refused s k o | false ↦ effect in_bytes s (sizes_of s k o) k o ])) [
      | true ↦ refused-keeps s k o h
      | false ↦ effect-keeps s (sizes_of s k o) k o may h
    ]

-- What may be entered does not change by an eviction.
may_evicted : (s : State Text Own) (unit : Text) (k : ℕ) (o : Op) → may_enter (evicted s unit) k o ≡ may_enter s k o
unfolding may_enter
may_evicted s unit k (op.GetDirectory bucket) = refl
may_evicted s unit k o = refl

pub may-after : (gone : List Text) (s : State Text Own) (k : ℕ) (o : Op) → may_enter (fold evicted s gone) k o ≡ may_enter s k o
may-after [] s k o = refl
may-after (unit ∷ units) s k o = may-after units (evicted s unit) k o ∙ may_evicted s unit k o

-- Each call keeps it.
pub own_files-kept : IsKeptBy OwnFiles
own_files-kept s gone e call h =
    changed-keeps (fold evicted s gone) e.agent e.op e.reply (may-after gone s e.agent e.op ∙ call.fitting) (subst AgentsKeep (sym (evicted-agents gone s)) h)

pub own_files-begun : (o : Opening) → OwnFiles (begun o)
own_files-begun o = All-map (AgentKeeps HasOwnFile) agent_begun o.agents (λ i d within. All-nil (HasOwnFile _))
