-- Each call keeps that each lock tells its holders.
use Rattle.std.proofs.Common.{◌≡◌, ℕ, ◌||◌, not, zero, suc, sum_by, flat_map, Bool, true, false, cond, All, List, [], ◌∷◌, map, filter, fold, Option, Some, None, refl, sym, ap, ◌∙◌, subst, inl, inr}
use Rattle.std.specs.Prelude.{is_none}
use Rattle.std.specs.List.{list_all}
use Rattle.std.specs.FinMap.Entries.{find}
use Rattle.std.specs.Ordering.{eq_by_cmp}
use Rattle.std.proofs.lemmas.Bool.{and_parts, and_from, false≢true}
use Rattle.std.proofs.lemmas.List.Elements.{All-head, All-tail, All-weaker}
use Rattle.opfs_base.specs.Places.{Place, place_of, place_cmp, child, is_within}
use Rattle.opfs_base.specs.Texts.{Text, same_text}
use Rattle.opfs_base.specs.Units.{unit_of}
use Rattle.opfs_base.specs.declared.locator.Kind.TheVariants as kind
use Rattle.opfs_hist.specs.declared.entry.Entry.{Entry}
use Rattle.opfs_hist.specs.declared.op.Mode.{Mode}
use Rattle.opfs_hist.specs.declared.op.Mode.TheVariants as mode
use Rattle.opfs_hist.specs.declared.op.Op.{Op}
use Rattle.opfs_hist.specs.declared.op.Op.TheVariants as op
use Rattle.opfs_hist.specs.declared.reply.Reply.{Reply}
use Rattle.opfs_locks.specs.Taking.{open_lock}
use Rattle.opfs_locks.specs.declared.Want.{Want}
use Rattle.opfs_locks.specs.declared.Want.TheVariants as want
use Rattle.opfs_machine.specs.declared.own.HandleOutline.{HandleOutline}
use Rattle.opfs_machine.specs.declared.own.StreamOutline.{StreamOutline}
use Rattle.opfs_machine.specs.declared.own.Own.{Own}
use Rattle.opfs_machine.specs.declared.own.Own.TheVariants as own
use Rattle.opfs_machine.specs.declared.state.FileRow.{FileRow}
use Rattle.opfs_machine.specs.declared.state.Row.{Row}
use Rattle.opfs_machine.specs.declared.state.Row.TheVariants as row
use Rattle.opfs_machine.specs.declared.state.Sizes.{Sizes}
use Rattle.opfs_machine.specs.declared.state.State.{State}
use Rattle.opfs_machine.specs.Agents.{agent_of, own_of, open_stream, open_handle, of_row, stream_in, handle_in, with_own}
use Rattle.opfs_machine.specs.Contents.{in_bytes, outline_of, written_row, truncated_row, sought_row, moved_row, advanced_row}
use Rattle.opfs_machine.specs.Effects.{effect, refused, made, new_row, moment_of, opens_bucket, opens_stream, takes_snapshot, closes_stream, aborts_stream, changes_file, flushes, closes_handle, discards, persists, with_written, flushed, unlocked, undone, replaced, content_of, cursor_after_read}
use Rattle.opfs_machine.specs.Histories.{IsCall}
use Rattle.opfs_machine.specs.Openings.{Opening, Stored, Who, folder, document, row_of, agent_begun, begun}
use Rattle.opfs_machine.specs.Replies.{sizes_of}
use Rattle.opfs_machine.specs.Rows.{Rows, taken_lock, file_at, file_of, with_file, without, children_of}
use Rattle.opfs_machine.specs.Rulings.{start_of, size_written, reserve_for, want_of, first_reserve, lock_in}
use Rattle.opfs_machine.specs.Steps.{evicted, changed_by, is_refusal}
use Rattle.opfs_machine.specs.Sums.{reserve_of}
use Rattle.opfs_machine.specs.Victims.{is_candidate, none_taken}
use Rattle.opfs_laws.specs.Holders.{hold_of, counts, holders, IsLockOf, AreLocksOfHolders}
use Rattle.opfs_laws.proofs.Allowed.{IsLockGiven, IsAllowed, allowed, allowed-after, agent-stays}
use Rattle.opfs_laws.proofs.Gone.{ran-by, gone-candidates}
use Rattle.opfs_laws.proofs.LocksKept.{locks-alike, alike-file, alike-written, alike-made, alike-without, locks-agent, locks-adds, locks-changed, locks-takes, locks-releases, locks-evicted}
use Rattle.opfs_laws.proofs.Numbers.{IsNumber, number-of}
use Rattle.opfs_laws.proofs.Reaching.{IsKeptBy}

abbrev Locks : State Text Own → Type 0
Locks s = AreLocksOfHolders s

-- An own row that holds a lock.
pub record IsHolder (o : Option Own) (place : Place) (w : Want) : Type 0 where
  pub row : Own
  pub is : o ≡ Some row
  pub holds : hold_of row ≡ Some (place, w)

pub stream-holder : (o : Option Own) (w : StreamOutline) → of_row (λ r. stream_in (outline_of r)) o ≡ Some w → IsHolder o w.file want.Shared
stream-holder None w h = cc
stream-holder (Some (own.Stream x)) w h = record { row = own.Stream x; is = refl; holds = ap (λ f. Some (f, want.Shared)) (ap (λ u. u.file) (same h)) }
  where
    same : {a b : StreamOutline} → Some a ≡ Some b → a ≡ b
    same e = cc
stream-holder (Some r) w h = cc

pub handle-holder : (o : Option Own) (w : HandleOutline) → of_row (λ r. handle_in (outline_of r)) o ≡ Some w → IsHolder o w.file (want_of w.mode)
handle-holder None w h = cc
handle-holder (Some (own.Handle x)) w h = record { row = own.Handle x; is = refl; holds = ap (λ u. Some (u.file, want_of u.mode)) (same h) }
  where
    same : {a b : HandleOutline} → Some a ≡ Some b → a ≡ b
    same e = cc
handle-holder (Some r) w h = cc

written-holds : (position : ℕ) (bytes : Text) (reserve : ℕ) (r : Own) → hold_of (written_row r position bytes reserve) ≡ hold_of r
written-holds position bytes reserve (own.Stream w) = refl
written-holds position bytes reserve r = refl

truncated-holds : (size reserve : ℕ) (r : Own) → hold_of (truncated_row r size reserve) ≡ hold_of r
truncated-holds size reserve (own.Stream w) = refl
truncated-holds size reserve r = refl

sought-holds : (offset : ℕ) (r : Own) → hold_of (sought_row r offset) ≡ hold_of r
sought-holds offset (own.Stream w) = refl
sought-holds offset r = refl

moved-holds : (cursor reserve : ℕ) (r : Own) → hold_of (moved_row r cursor reserve) ≡ hold_of r
moved-holds cursor reserve (own.Handle w) = refl
moved-holds cursor reserve r = refl

advanced-holds : (names : List Text) (r : Own) → hold_of (advanced_row r names) ≡ hold_of r
advanced-holds names (own.Iterator i) = refl
advanced-holds names r = refl

-- An agent's number in a state with other rows.
number-file : (s : State Text Own) (k : ℕ) (p : Place) (change : FileRow Text → FileRow Text) → IsNumber s k → IsNumber (with_file s p change) k
number-file s k p change h = record { index = h.index; is = h.is; within = h.within }

number-written : (s : State Text Own) (k : ℕ) (m : Mode) (p : Place) (change : FileRow Text → FileRow Text) → IsNumber s k → IsNumber (with_written s m p change) k
number-written s k mode.ReadWrite p change h = number-file s k p change h
number-written s k mode.ReadOnly p change h = h

own-written : (s : State Text Own) (k n : ℕ) (m : Mode) (p : Place) (change : FileRow Text → FileRow Text) → own_of (agent_of (with_written s m p change) k) n ≡ own_of (agent_of s k) n
own-written s k n mode.ReadWrite p change = same k
  where
    same : (k : ℕ) → own_of (agent_of (with_file s p change) k) n ≡ own_of (agent_of s k) n
    same zero = refl
    same (suc i) = refl
own-written s k n mode.ReadOnly p change = refl

made-locks : (s : State Text Own) (p : Place) (r : Row Text) → lock_in (file_of (Some r)) ≡ open_lock → Locks s → Locks (made s p r)
made-locks s p r plain h = locks-alike s (made s p r) (alike-made s p r plain) h

bucket-locks : (s : State Text Own) (bucket : Text) (key : Option Text) → Locks s → Locks (opens_bucket s bucket key)
bucket-locks s bucket None h = h
bucket-locks s bucket (Some origin) h = made-locks s (unit_of origin bucket, []) row.Directory refl h

snapshot-locks : (s : State Text Own) (k : ℕ) (f : Option (FileRow Text)) → IsNumber s k → Locks s → Locks (takes_snapshot in_bytes s k f)
snapshot-locks s k None number h = h
snapshot-locks s k (Some f) number h = locks-adds s k (own.Snapshot f.present) number refl h

stream-locks : (s : State Text Own) (k : ℕ) (p : Place) (reserve : ℕ) (keep : Bool) (f : Option (FileRow Text)) → file_at s p ≡ f → IsNumber s k
    → IsLockGiven s p want.Shared → Locks s → Locks (opens_stream in_bytes s k p reserve keep f)
stream-locks s k p reserve keep None is number given h = h
stream-locks s k p reserve keep (Some f) is number given h = locks-takes s k p want.Shared _ given.held given.new number refl given.stands given.gives h

closes-locks : (s : State Text Own) (z : Sizes) (k n : ℕ) (w : Option StreamOutline) → open_stream in_bytes s k n ≡ w → IsNumber s k → Locks s → Locks (closes_stream in_bytes s z k n w)
closes-locks s z k n None is number h = h
closes-locks s z k n (Some w) is number h =
    let change = replaced (content_of in_bytes (own_of (agent_of s k) n) z.size) (moment_of s k) in
    let t = with_file s w.file change in
    let holder = stream-holder (own_of (agent_of s k) n) w is in
    let there = own-written s k n mode.ReadWrite w.file change in
    locks-releases t k n w.file want.Shared holder.row own.ClosedStream (number-file s k w.file change number) (there ∙ holder.is) holder.holds refl
    (locks-alike s t (alike-file s w.file change (λ f. refl)) h)

aborts-locks : (s : State Text Own) (k n : ℕ) (w : Option StreamOutline) → open_stream in_bytes s k n ≡ w → IsNumber s k → Locks s → Locks (aborts_stream in_bytes s k n w)
aborts-locks s k n None is number h = h
aborts-locks s k n (Some w) is number h =
    let holder = stream-holder (own_of (agent_of s k) n) w is in
    locks-releases s k n w.file want.Shared holder.row own.ClosedStream number holder.is holder.holds refl h

changes-locks : (s : State Text Own) (k n : ℕ) (change : Text → Text) (cursor size : ℕ) (o : Option HandleOutline) → IsNumber s k → Locks s → Locks (changes_file in_bytes s k n change cursor size o)
unfolding changes_file
changes-locks s k n change cursor size None number h = h
changes-locks s k n change cursor size (Some o) number h =
    let to : FileRow Text → FileRow Text = λ f. record f { present = change f.present; stamp = moment_of s k } in
    locks-changed (with_file s o.file to) k n (λ r. moved_row r cursor (reserve_for o.reserve size)) (number-file s k o.file to number)
    (λ r. moved-holds cursor (reserve_for o.reserve size) r) (locks-alike s (with_file s o.file to) (alike-file s o.file to (λ f. refl)) h)

flushes-locks : (s : State Text Own) (z : Sizes) (k n : ℕ) (o : Option HandleOutline) → IsNumber s k → Locks s → Locks (flushes in_bytes s z k n o)
flushes-locks s z k n None number h = h
flushes-locks s z k n (Some o) number h =
    let t = with_written s o.mode o.file flushed in
    locks-changed t k n (λ r. moved_row r z.position 0) (number-written s k o.mode o.file flushed number) (λ r. moved-holds z.position 0 r)
    (locks-alike s t (alike-written s o.mode o.file flushed (λ f. refl)) h)

gone-locks : (s : State Text Own) (k n : ℕ) (o : HandleOutline) (change : FileRow Text → FileRow Text) → ((f : FileRow Text) → (change f).lock ≡ f.lock)
    → open_handle in_bytes s k n ≡ Some o → IsNumber s k → Locks s → Locks (with_own (with_file (with_written s o.mode o.file change) o.file unlocked) k n own.ClosedHandle)
gone-locks s k n o change keeps is number h =
    let t = with_written s o.mode o.file change in
    let holder = handle-holder (own_of (agent_of s k) n) o is in
    locks-releases t k n o.file (want_of o.mode) holder.row own.ClosedHandle (number-written s k o.mode o.file change number)
    (own-written s k n o.mode o.file change ∙ holder.is) holder.holds refl (locks-alike s t (alike-written s o.mode o.file change keeps) h)

closed-locks : (s : State Text Own) (k n : ℕ) (o : Option HandleOutline) → open_handle in_bytes s k n ≡ o → IsNumber s k → Locks s → Locks (closes_handle in_bytes s k n o)
closed-locks s k n None is number h = h
closed-locks s k n (Some o) is number h = gone-locks s k n o flushed (λ f. refl) is number h

discards-locks : (s : State Text Own) (k n : ℕ) (o : Option HandleOutline) → open_handle in_bytes s k n ≡ o → IsNumber s k → Locks s → Locks (discards in_bytes s k n o)
discards-locks s k n None is number h = h
discards-locks s k n (Some o) is number h = gone-locks s k n o undone (λ f. refl) is number h

persists-locks : (s : State Text Own) (bucket : Text) (grant : Bool) (key : Option Text) → Locks s → Locks (persists s bucket grant key)
persists-locks s bucket grant None h = h
persists-locks s bucket true (Some origin) h = h
persists-locks s bucket false (Some origin) h = h

pub effect-locks : (s : State Text Own) (z : Sizes) (k : ℕ) (o : Op) → IsNumber s k → IsAllowed s k o → Locks s → Locks (effect in_bytes s z k o)
unfolding effect
effect-locks s z k (op.GetDirectory bucket) number may h = bucket-locks s bucket (agent_of s k).key h
effect-locks s z k (op.GetDirectoryHandle dir name create) number may h = made-locks s (child (place_of dir) name) row.Directory refl h
effect-locks s z k (op.GetFileHandle dir name create) number may h = made-locks s (child (place_of dir) name) (new_row in_bytes kind.File (moment_of s k)) refl h
effect-locks s z k (op.RemoveEntry dir name recursive) number may h =
    locks-alike s (without s (child (place_of dir) name)) (alike-without s (child (place_of dir) name) may h) h
effect-locks s z k (op.Values dir) number may h = locks-adds s k (own.Iterator (record { dir = dir; given = [] })) number refl h
effect-locks s z k (op.Next n dir) number may h =
    locks-changed s k n (λ r. advanced_row r (children_of s (place_of dir))) number (λ r. advanced-holds (children_of s (place_of dir)) r) h
effect-locks s z k (op.GetFile at) number may h = snapshot-locks s k (file_at s (place_of at)) number h
effect-locks s z k (op.CreateWritable at keep) number may h = stream-locks s k (place_of at) (first_reserve in_bytes s at keep) keep (file_at s (place_of at)) refl number may h
effect-locks s z k (op.Write n bytes position) number may h =
    locks-changed s k n (λ r. written_row r (start_of z position) bytes (reserve_for (reserve_of (outline_of r)) (size_written z position bytes))) number
    (λ r. written-holds (start_of z position) bytes (reserve_for (reserve_of (outline_of r)) (size_written z position bytes)) r) h
effect-locks s z k (op.Seek n position) number may h = locks-changed s k n (λ r. sought_row r position) number (λ r. sought-holds position r) h
effect-locks s z k (op.Truncate n size) number may h =
    locks-changed s k n (λ r. truncated_row r size (reserve_for (reserve_of (outline_of r)) size)) number
    (λ r. truncated-holds size (reserve_for (reserve_of (outline_of r)) size) r) h
effect-locks s z k (op.Close n) number may h = closes-locks s z k n (open_stream in_bytes s k n) refl number h
effect-locks s z k (op.Abort n) number may h = aborts-locks s k n (open_stream in_bytes s k n) refl number h
effect-locks s z k (op.CreateSyncAccessHandle at m) number may h =
    locks-takes s k (place_of at) (want_of m) (own.Handle (record { file = place_of at; mode = m; cursor = 0; reserve = 0 })) may.held may.new number refl may.stands may.gives h
effect-locks s z k (op.SyncRead n len at) number may h =
    locks-changed s k n (λ r. moved_row r (cursor_after_read z len at) (reserve_of (outline_of r))) number
    (λ r. moved-holds (cursor_after_read z len at) (reserve_of (outline_of r)) r) h
effect-locks s z k (op.SyncWrite n bytes at) number may h = changes-locks s k n _ _ _ (open_handle in_bytes s k n) number h
effect-locks s z k (op.SyncTruncate n size) number may h = changes-locks s k n _ _ _ (open_handle in_bytes s k n) number h
effect-locks s z k (op.SyncFlush n) number may h = flushes-locks s z k n (open_handle in_bytes s k n) number h
effect-locks s z k (op.SyncClose n) number may h = closed-locks s k n (open_handle in_bytes s k n) refl number h
effect-locks s z k (op.Persist bucket) number may h = persists-locks s bucket (agent_of s k).grant (agent_of s k).key h
effect-locks s z k (op.Moment ms) number may h = locks-agent s k (record (agent_of s k) { moment = ms }) number refl h
effect-locks s z k (op.Await tag) number may h = locks-agent s k (record (agent_of s k) { waits = None }) number refl h
effect-locks s z k (op.Wait tag) number may h = locks-agent s k (record (agent_of s k) { waits = Some tag }) number refl h
effect-locks s z k (op.Discard n) number may h = discards-locks s k n (open_handle in_bytes s k n) refl number h
effect-locks s z k op.End number may h = locks-agent s k (record (agent_of s k) { live = false; waits = None }) number refl h
effect-locks s z k o number may h = h

refused-locks : (s : State Text Own) (k : ℕ) (o : Op) → IsNumber s k → Locks s → Locks (refused s k o)
refused-locks s k (op.Await tag) number h = locks-agent s k (record (agent_of s k) { waits = None }) number refl h
refused-locks s k o number h = h

changed-locks : (s : State Text Own) (k : ℕ) (o : Op) (answered : Reply) → IsNumber s k → (is_refusal answered ≡ false → IsAllowed s k o) → Locks s → Locks (changed_by s k o answered)
changed-locks s k o answered number may h =
    elim (is_refusal answered) as (λ b. (b ≡ false → IsAllowed s k o) → Locks (elim b as (λ x. State Text Own) [ true ↦ refused s k o | false ↦ effect in_bytes s (sizes_of s k o) k o ])) [
      | true ↦ λ m. refused-locks s k o number h
      | false ↦ λ m. effect-locks s (sizes_of s k o) k o number (m refl) h
    ] may

-- No unit gets a taken lock as another is cleared.
still-open : (unit : Text) (keep : Place × Row Text → Bool) (es : Rows Text) → list_all (λ e. not (same_text unit e.0.0) || is_none (taken_lock e.1)) es ≡ true
    → list_all (λ e. not (same_text unit e.0.0) || is_none (taken_lock e.1)) (filter keep es) ≡ true
still-open unit keep [] h = refl
still-open unit keep (e ∷ es) h =
    let rest = still-open unit keep es (and_parts _ _ h).1 in
    elim (keep e) as (λ b. list_all (λ d. not (same_text unit d.0.0) || is_none (taken_lock d.1)) (cond b (e ∷ filter keep es) (filter keep es)) ≡ true) [
      | true ↦ and_from _ _ (and_parts _ _ h).0 rest
      | false ↦ rest
    ]

pub untaken-stays : (s : State Text Own) (unit gone : Text) → none_taken s unit ≡ true → none_taken (evicted s gone) unit ≡ true
untaken-stays s unit gone h = still-open unit (λ e. not (is_within (gone, []) e.0)) s.rows h

abbrev pub Untaken : State Text Own → Text → Type 0
Untaken s unit = none_taken s unit ≡ true

pub locks-fold : (gone : List Text) (s : State Text Own) → All (Untaken s) gone → Locks s → Locks (fold evicted s gone)
locks-fold [] s all h = h
locks-fold (unit ∷ units) s all h =
    locks-fold units (evicted s unit) (All-weaker (Untaken s) (Untaken (evicted s unit)) (λ u. untaken-stays s u unit) units (All-tail (Untaken s) unit units all))
    (locks-evicted s unit (All-head (Untaken s) unit units all) h)

pub gone-untaken : (s : State Text Own) (gone : List Text) (e : Entry) → IsCall s gone e → All (Untaken s) gone
gone-untaken s gone e call =
    All-weaker (λ u. is_candidate s (agent_of s e.agent).key u ≡ true) (Untaken s) (λ u h. (and_parts _ _ h).1) gone
    (gone-candidates s gone e.agent e.op e.reply (ran-by s gone e call))

pub number-after : (s : State Text Own) (gone : List Text) (k : ℕ) → (agent_of s k).live ≡ true → IsNumber (fold evicted s gone) k
number-after s gone k live = number-of (fold evicted s gone) k (ap (λ a. a.live) (agent-stays gone s k) ∙ live)

-- What a call that was answered may do, once its units are cleared.
pub call-allowed : (s : State Text Own) (gone : List Text) (e : Entry) → IsCall s gone e → is_refusal e.reply ≡ false → IsAllowed (fold evicted s gone) e.agent e.op
call-allowed s gone e call accepted =
    let ran = ran-by s gone e call in
    elim ran as (λ r. IsAllowed (fold evicted s gone) e.agent e.op) [
      | inl refused_call ↦ absurd (false≢true (sym accepted ∙ ap is_refusal refused_call.told))
      | inr done ↦ elim done as (λ r. IsAllowed (fold evicted s gone) e.agent e.op) [
        | inl given ↦ allowed-after s gone e.agent e.op (gone-candidates s gone e.agent e.op e.reply ran) call.fitting
            (allowed s (sizes_of s e.agent e.op) e.agent e.op given.given.need given.given.ruled)
        | inr fault ↦ absurd (false≢true (sym accepted ∙ fault.refused))
      ]
    ]

pub locks-kept : IsKeptBy AreLocksOfHolders
locks-kept s gone e call h =
    changed-locks (fold evicted s gone) e.agent e.op e.reply (number-after s gone e.agent call.live) (call-allowed s gone e call)
    (locks-fold gone s (gone-untaken s gone e call) h)

-- In the beginning all locks are open.
row-open : (x : Stored) → lock_in (file_of (Some (row_of x))) ≡ open_lock
row-open folder = refl
row-open (document bytes stamp) = refl

begun-open : (p : Place) (es : List (Place × Stored)) → lock_in (file_of (find place_cmp p (map (λ e. (e.0, row_of e.1)) es))) ≡ open_lock
begun-open p [] = refl
begun-open p (e ∷ es) =
    elim (eq_by_cmp place_cmp p e.0) as (λ b. lock_in (file_of (cond b (Some (row_of e.1)) (find place_cmp p (map (λ d. (d.0, row_of d.1)) es)))) ≡ open_lock) [
      | true ↦ row-open e.1
      | false ↦ begun-open p es
    ]

begun-none : (agents : List Who) (f : Own → ℕ) → sum_by f (flat_map (λ a. a.own) (map agent_begun agents)) ≡ 0
begun-none [] f = refl
begun-none (a ∷ agents) f = begun-none agents f

pub locks-begun : (o : Opening) → AreLocksOfHolders (begun o)
locks-begun o p =
    let none = λ (w : Want). begun-none o.agents (λ r. counts p w (hold_of r)) in
    subst (λ l. IsLockOf l (holders (begun o) p)) (sym (begun-open p o.stored.rows))
    (refl, record { exclusive = none want.Exclusive; shared = none want.Shared; read_only = none want.ReadOnly })
