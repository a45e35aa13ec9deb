-- A stream's reserve covers its buffer, and an access handle that may not write keeps none.
use Rattle.std.proofs.Common.{◌≡◌, ℕ, ◌+◌, ◌≤◌, zero, suc, Bool, true, false, cond, All, List, [], fold, length, get_or, max, Option, Some, None, refl, sym, ap, ◌∙◌, subst, arith}
use Rattle.std.proofs.lemmas.Bool.{false≢true}
use Rattle.std.proofs.lemmas.List.Elements.{All-map, All-nil}
use Rattle.opfs_base.specs.Blocks.{blocks}
use Rattle.opfs_base.specs.Places.{Place, place_of, child}
use Rattle.opfs_base.specs.Texts.{Text}
use Rattle.opfs_base.specs.Units.{unit_of}
use Rattle.opfs_base.specs.declared.locator.Locator.{Locator}
use Rattle.opfs_base.specs.declared.locator.Kind.TheVariants as kind
use Rattle.opfs_hist.specs.declared.op.Mode.{Mode}
use Rattle.opfs_hist.specs.declared.op.Op.{Op}
use Rattle.opfs_hist.specs.declared.op.Op.TheVariants as op
use Rattle.opfs_hist.specs.declared.reply.Reply.{Reply}
use Rattle.opfs_locks.specs.declared.Want.TheVariants as want
use Rattle.opfs_machine.specs.declared.own.HandleOutline.{HandleOutline}
use Rattle.opfs_machine.specs.declared.own.StreamOutline.{StreamOutline}
use Rattle.opfs_machine.specs.declared.own.Own.{Own}
use Rattle.opfs_machine.specs.declared.own.Own.TheVariants as own
use Rattle.opfs_machine.specs.declared.state.Agent.{Agent}
use Rattle.opfs_machine.specs.declared.state.FileRow.{FileRow}
use Rattle.opfs_machine.specs.declared.state.Row.{Row}
use Rattle.opfs_machine.specs.declared.state.Row.TheVariants as row
use Rattle.opfs_machine.specs.declared.state.Sizes.{Sizes}
use Rattle.opfs_machine.specs.declared.state.State.{State}
use Rattle.opfs_machine.specs.Agents.{agent_of, own_of, open_stream, open_handle, of_row, handle_in, with_agent}
use Rattle.opfs_machine.specs.Contents.{in_bytes, outline_of, written_row, truncated_row, sought_row, moved_row, advanced_row}
use Rattle.opfs_machine.specs.Effects.{effect, refused, made, new_row, moment_of, opens_bucket, opens_stream, takes_snapshot, closes_stream, aborts_stream, changes_file, flushes, closes_handle, discards, persists, with_written, with_lock, flushed, unlocked, undone, replaced, content_of, cursor_after_read}
use Rattle.opfs_machine.specs.Openings.{Opening, begun, agent_begun}
use Rattle.opfs_machine.specs.Replies.{sizes_of, sizes_in}
use Rattle.opfs_machine.specs.Rows.{file_at, with_file, children_of}
use Rattle.opfs_machine.specs.Rulings.{start_of, size_written, reserve_for, want_of, is_read_write, first_reserve, size_in}
use Rattle.opfs_machine.specs.Steps.{evicted, changed_by, is_refusal}
use Rattle.opfs_machine.specs.Sums.{reserve_of}
use Rattle.opfs_splice.specs.Splicing.{splice, resize}
use Rattle.opfs_laws.proofs.Allowed.{IsAllowed}
use Rattle.opfs_laws.proofs.LocksEffect.{call-allowed}
use Rattle.opfs_laws.proofs.OwnKept.{OwnKeeps, AgentKeeps, keeps-agent, keeps-with_agent, keeps-adds, keeps-sets, keeps-changed, made-agents, evicted-agents}
use Rattle.opfs_laws.proofs.Reaching.{IsKeptBy}
use Rattle.opfs_laws.proofs.Splices.{length-splice, length-resize}

abbrev pub Fits : Option Text → Own → Type 0
Fits key (own.Stream w) = blocks (length w.buffer) ≤ w.reserve
Fits key (own.Handle h) = is_read_write h.mode ≡ false → h.reserve ≡ 0
Fits key r = Unit {0}

abbrev pub OwnFits : State Text Own → Type 0
OwnFits s = OwnKeeps Fits s

abbrev pub AgentsFit : List (Agent Own) → Type 0
AgentsFit agents = All (AgentKeeps Fits) agents

at-most : (a b c : ℕ) → a ≡ b → a ≤ max c b
at-most a b c h = omega arith

written : (s : State Text Own) (o : Option Own) (key : Option Text) (position : Option ℕ) (bytes : Text) (r : Own) → o ≡ Some r → Fits key r
    → Fits key (written_row r (start_of (sizes_in s o) position) bytes (reserve_for (reserve_of (outline_of r)) (size_written (sizes_in s o) position bytes)))
written s o key position bytes (own.Stream w) is h =
    let start = start_of (sizes_in s o) position in
    let size : (sizes_in s o).size ≡ length w.buffer = ap (λ x. (sizes_in s x).size) is in
    at-most (blocks (length (splice w.buffer start bytes))) (blocks (size_written (sizes_in s o) position bytes)) w.reserve
    (ap blocks (length-splice w.buffer start bytes ∙ ap (λ n. max n (start + length bytes)) (sym size)))
written s o key position bytes (own.Handle w) is h = h
written s o key position bytes r is h = h

truncated : (key : Option Text) (size : ℕ) (r : Own) → Fits key r → Fits key (truncated_row r size (reserve_for (reserve_of (outline_of r)) size))
truncated key size (own.Stream w) h = at-most (blocks (length (resize w.buffer size))) (blocks size) w.reserve (ap blocks (length-resize w.buffer size))
truncated key size r h = h

sought : (key : Option Text) (offset : ℕ) (r : Own) → Fits key r → Fits key (sought_row r offset)
sought key offset (own.Stream w) h = h
sought key offset r h = h

read-moved : (key : Option Text) (cursor : ℕ) (r : Own) → Fits key r → Fits key (moved_row r cursor (reserve_of (outline_of r)))
read-moved key cursor (own.Handle w) h = h
read-moved key cursor r h = h

none-moved : (key : Option Text) (cursor : ℕ) (r : Own) → Fits key r → Fits key (moved_row r cursor 0)
none-moved key cursor (own.Handle w) h = λ m. refl
none-moved key cursor r h = h

writer-moved : (key : Option Text) (cursor reserve : ℕ) (o : Option Own) (out : HandleOutline) (r : Own) → of_row (λ r. handle_in (outline_of r)) o ≡ Some out → is_read_write out.mode ≡ true
    → o ≡ Some r → Fits key r → Fits key (moved_row r cursor reserve)
writer-moved key cursor reserve o out (own.Handle w) is writes row h =
    λ reads. absurd (false≢true (sym reads ∙ ap (λ u. is_read_write u.mode) (same (sym (ap (of_row (λ r. handle_in (outline_of r))) row) ∙ is)) ∙ writes))
  where
    same : {a b : HandleOutline} → Some a ≡ Some b → a ≡ b
    same e = cc
writer-moved key cursor reserve o out r is writes row h = h

advanced : (key : Option Text) (names : List Text) (r : Own) → Fits key r → Fits key (advanced_row r names)
advanced key names (own.Iterator i) h = tt
advanced key names r h = h

made-keeps : (s : State Text Own) (place : Place) (r : Row Text) → OwnFits s → OwnFits (made s place r)
made-keeps s place r h = subst AgentsFit (sym (made-agents s place r)) h

bucket-keeps : (s : State Text Own) (bucket : Text) (key : Option Text) → OwnFits s → OwnFits (opens_bucket s bucket key)
bucket-keeps s bucket None h = h
bucket-keeps s bucket (Some origin) h = made-keeps s (unit_of origin bucket, []) row.Directory h

snapshot-keeps : (s : State Text Own) (k : ℕ) (f : Option (FileRow Text)) → OwnFits s → OwnFits (takes_snapshot in_bytes s k f)
snapshot-keeps s k None h = h
snapshot-keeps s k (Some f) h = keeps-adds Fits s k (own.Snapshot f.present) h tt

stream-fits : (keep : Bool) (f : FileRow Text) (o : Option (FileRow Text)) → o ≡ Some f
    → blocks (length (cond keep f.present [])) ≤ cond keep (blocks (size_in in_bytes o)) 0
stream-fits true f o is = let same : blocks (size_in in_bytes o) ≡ blocks (length f.present) = ap (λ x. blocks (size_in in_bytes x)) is in omega (arith, same)
stream-fits false f o is = omega arith

stream-keeps : (s : State Text Own) (k : ℕ) (at : Locator) (keep : Bool) (f : Option (FileRow Text)) → file_at s (place_of at) ≡ f
    → OwnFits s → OwnFits (opens_stream in_bytes s k (place_of at) (first_reserve in_bytes s at keep) keep f)
stream-keeps s k at keep None is h = h
stream-keeps s k at keep (Some f) is h =
    keeps-adds Fits (with_file s (place_of at) (with_lock want.Shared)) k
    (own.Stream (record { file = place_of at; buffer = cond keep f.present []; offset = 0; reserve = first_reserve in_bytes s at keep })) h
    (stream-fits keep f (file_at s (place_of at)) is)

closes-keeps : (s : State Text Own) (z : Sizes) (k n : ℕ) (w : Option StreamOutline) → OwnFits s → OwnFits (closes_stream in_bytes s z k n w)
closes-keeps s z k n None h = h
closes-keeps s z k n (Some w) h =
    keeps-sets Fits
    (with_file (with_file s w.file (replaced (content_of in_bytes (own_of (agent_of s k) n) z.size) (moment_of s k))) w.file unlocked)
    k n own.ClosedStream h tt

aborts-keeps : (s : State Text Own) (k n : ℕ) (w : Option StreamOutline) → OwnFits s → OwnFits (aborts_stream in_bytes s k n w)
aborts-keeps s k n None h = h
aborts-keeps s k n (Some w) h = keeps-sets Fits (with_file s w.file unlocked) k n own.ClosedStream h tt

with-file-own : (s : State Text Own) (p : Place) (change : FileRow Text → FileRow Text) (k n : ℕ) → own_of (agent_of (with_file s p change) k) n ≡ own_of (agent_of s k) n
with-file-own s p change zero n = refl
with-file-own s p change (suc i) n = refl

changes-keeps : (s : State Text Own) (k n : ℕ) (change : Text → Text) (cursor size : ℕ) (o : Option HandleOutline) → open_handle in_bytes s k n ≡ o
    → (h : HandleOutline) × (open_handle in_bytes s k n ≡ Some h) × (is_read_write h.mode ≡ true)
    → OwnFits s → OwnFits (changes_file in_bytes s k n change cursor size o)
unfolding changes_file
changes-keeps s k n change cursor size None is may h = h
changes-keeps s k n change cursor size (Some o) is may h =
    let to : FileRow Text → FileRow Text = λ f. record f { present = change f.present; stamp = moment_of s k } in
    let t = with_file s o.file to in
    keeps-changed Fits t k n (λ r. moved_row r cursor (reserve_for o.reserve size)) h
    (λ r row old. writer-moved (agent_of t k).key cursor (reserve_for o.reserve size) (own_of (agent_of s k) n) may.0 r may.1 may.2 (sym (with-file-own s o.file to k n) ∙ row) old)

written-agents : (s : State Text Own) (m : Mode) (file : Place) (change : FileRow Text → FileRow Text) → (with_written s m file change).agents ≡ s.agents
written-agents s m file change = elim (is_read_write m) as (λ b. (cond b (with_file s file change) s).agents ≡ s.agents) [ true ↦ refl | false ↦ refl ]

written-keeps : (s : State Text Own) (m : Mode) (file : Place) (change : FileRow Text → FileRow Text) → OwnFits s → OwnFits (with_written s m file change)
written-keeps s m file change h = subst AgentsFit (sym (written-agents s m file change)) h

flushes-keeps : (s : State Text Own) (z : Sizes) (k n : ℕ) (o : Option HandleOutline) → OwnFits s → OwnFits (flushes in_bytes s z k n o)
flushes-keeps s z k n None h = h
flushes-keeps s z k n (Some o) h =
    let t = with_written s o.mode o.file flushed in
    keeps-changed Fits t k n (λ r. moved_row r z.position 0) (written-keeps s o.mode o.file flushed h)
    (λ r is old. none-moved (agent_of t k).key z.position r old)

closed-keeps : (s : State Text Own) (k n : ℕ) (o : Option HandleOutline) → OwnFits s → OwnFits (closes_handle in_bytes s k n o)
closed-keeps s k n None h = h
closed-keeps s k n (Some o) h =
    keeps-sets Fits (with_file (with_written s o.mode o.file flushed) o.file unlocked) k n own.ClosedHandle (written-keeps s o.mode o.file flushed h) tt

discards-keeps : (s : State Text Own) (k n : ℕ) (o : Option HandleOutline) → OwnFits s → OwnFits (discards in_bytes s k n o)
discards-keeps s k n None h = h
discards-keeps s k n (Some o) h =
    keeps-sets Fits (with_file (with_written s o.mode o.file undone) o.file unlocked) k n own.ClosedHandle (written-keeps s o.mode o.file undone h) tt

persists-keeps : (s : State Text Own) (bucket : Text) (grant : Bool) (key : Option Text) → OwnFits s → OwnFits (persists s bucket grant key)
persists-keeps s bucket grant None h = h
persists-keeps s bucket true (Some origin) h = h
persists-keeps s bucket false (Some origin) h = h

agent-keeps : (s : State Text Own) (k : ℕ) (a : Agent Own) → OwnFits s → AgentKeeps Fits a → OwnFits (with_agent s k a)
agent-keeps s k a h ok = keeps-with_agent Fits s k a h ok

pub effect-fits : (s : State Text Own) (k : ℕ) (o : Op) → IsAllowed s k o → OwnFits s → OwnFits (effect in_bytes s (sizes_of s k o) k o)
unfolding effect
effect-fits s k (op.GetDirectory bucket) may h = bucket-keeps s bucket (agent_of s k).key h
effect-fits s k (op.GetDirectoryHandle dir name create) may h = made-keeps s (child (place_of dir) name) row.Directory h
effect-fits s k (op.GetFileHandle dir name create) may h = made-keeps s (child (place_of dir) name) (new_row in_bytes kind.File (moment_of s k)) h
effect-fits s k (op.Values dir) may h = keeps-adds Fits s k (own.Iterator (record { dir = dir; given = [] })) h tt
effect-fits s k (op.Next n dir) may h =
    keeps-changed Fits s k n (λ r. advanced_row r (children_of s (place_of dir))) h (λ r is old. advanced (agent_of s k).key (children_of s (place_of dir)) r old)
effect-fits s k (op.GetFile at) may h = snapshot-keeps s k (file_at s (place_of at)) h
effect-fits s k (op.CreateWritable at keep) may h = stream-keeps s k at keep (file_at s (place_of at)) refl h
effect-fits s k (op.Write n bytes position) may h =
    keeps-changed Fits s k n _ h (λ r is old. written s (own_of (agent_of s k) n) (agent_of s k).key position bytes r is old)
effect-fits s k (op.Seek n position) may h = keeps-changed Fits s k n (λ r. sought_row r position) h (λ r is old. sought (agent_of s k).key position r old)
effect-fits s k (op.Truncate n size) may h =
    keeps-changed Fits s k n (λ r. truncated_row r size (reserve_for (reserve_of (outline_of r)) size)) h (λ r is old. truncated (agent_of s k).key size r old)
effect-fits s k (op.Close n) may h = closes-keeps s (sizes_of s k (op.Close n)) k n (open_stream in_bytes s k n) h
effect-fits s k (op.Abort n) may h = aborts-keeps s k n (open_stream in_bytes s k n) h
effect-fits s k (op.CreateSyncAccessHandle at m) may h =
    keeps-adds Fits (with_file s (place_of at) (with_lock (want_of m))) k (own.Handle (record { file = place_of at; mode = m; cursor = 0; reserve = 0 })) h (λ e. refl)
effect-fits s k (op.SyncRead n len at) may h =
    keeps-changed Fits s k n (λ r. moved_row r (cursor_after_read (sizes_of s k (op.SyncRead n len at)) len at) (reserve_of (outline_of r))) h
    (λ r is old. read-moved (agent_of s k).key _ r old)
effect-fits s k (op.SyncWrite n bytes at) may h = changes-keeps s k n _ _ _ (open_handle in_bytes s k n) refl may h
effect-fits s k (op.SyncTruncate n size) may h = changes-keeps s k n _ _ _ (open_handle in_bytes s k n) refl may h
effect-fits s k (op.SyncFlush n) may h = flushes-keeps s (sizes_of s k (op.SyncFlush n)) k n (open_handle in_bytes s k n) h
effect-fits s k (op.SyncClose n) may h = closed-keeps s k n (open_handle in_bytes s k n) h
effect-fits s k (op.Persist bucket) may h = persists-keeps s bucket (agent_of s k).grant (agent_of s k).key h
effect-fits s k (op.Moment ms) may h = agent-keeps s k (record (agent_of s k) { moment = ms }) h (keeps-agent Fits s k h)
effect-fits s k (op.Await tag) may h = agent-keeps s k (record (agent_of s k) { waits = None }) h (keeps-agent Fits s k h)
effect-fits s k (op.Wait tag) may h = agent-keeps s k (record (agent_of s k) { waits = Some tag }) h (keeps-agent Fits s k h)
effect-fits s k (op.Discard n) may h = discards-keeps s k n (open_handle in_bytes s k n) h
effect-fits s k op.End may h = agent-keeps s k (record (agent_of s k) { live = false; waits = None }) h (keeps-agent Fits s k h)
effect-fits s k o may h = h

refused-fits : (s : State Text Own) (k : ℕ) (o : Op) → OwnFits s → OwnFits (refused s k o)
refused-fits s k (op.Await tag) h = agent-keeps s k (record (agent_of s k) { waits = None }) h (keeps-agent Fits s k h)
refused-fits s k o h = h

changed-fits : (s : State Text Own) (k : ℕ) (o : Op) (answered : Reply) → (is_refusal answered ≡ false → IsAllowed s k o) → OwnFits s → OwnFits (changed_by s k o answered)
changed-fits s k o answered may h =
    elim (is_refusal answered) as (λ b. (b ≡ false → IsAllowed s k o) → OwnFits (elim b as (λ x. State Text Own) [ true ↦ refused s k o | false ↦ effect in_bytes s (sizes_of s k o) k o ])) [
      | true ↦ λ m. refused-fits s k o h
      | false ↦ λ m. effect-fits s k o (m refl) h
    ] may

pub fits-kept : IsKeptBy OwnFits
fits-kept s gone e call h =
    changed-fits (fold evicted s gone) e.agent e.op e.reply (call-allowed s gone e call) (subst AgentsFit (sym (evicted-agents gone s)) h)

pub fits-begun : (o : Opening) → OwnFits (begun o)
fits-begun o = All-map (AgentKeeps Fits) agent_begun o.agents (λ i d within. All-nil (Fits (get_or o.agents i d).key))
