-- What a call leaves of its own agent.
use Rattle.std.proofs.Common.{◌≡◌, ◌≢◌, ◌⊎◌, ℕ, ◌+◌, ◌-◌, ◌<◌, min, zero, suc, Bool, true, false, if◌then◌else◌, List, [], ◌∷◌, ◌++◌, length, fold, slice_set, Option, Some, None, refl, sym, ap, ◌∙◌, subst, inl, inr, arith}
use Rattle.std.proofs.lemmas.Bool.{false≢true}
use Rattle.std.proofs.lemmas.List.{length-append}
use Rattle.std.specs.Prelude.{slice_get}
use Rattle.opfs_base.specs.Texts.{Text}
use Rattle.opfs_base.specs.Places.{Place, place_of, child}
use Rattle.opfs_base.specs.declared.locator.Kind.TheVariants as kind
use Rattle.opfs_hist.specs.Sums.{asks_for_row}
use Rattle.opfs_hist.specs.declared.op.Mode.{Mode}
use Rattle.opfs_hist.specs.declared.op.Mode.TheVariants as mode
use Rattle.opfs_hist.specs.declared.op.Op.{Op}
use Rattle.opfs_hist.specs.declared.op.Op.TheVariants as op
use Rattle.opfs_hist.specs.declared.reply.Reply.{Reply}
use Rattle.opfs_machine.specs.declared.own.HandleOutline.{HandleOutline}
use Rattle.opfs_machine.specs.declared.own.StreamOutline.{StreamOutline}
use Rattle.opfs_machine.specs.declared.own.Own.{Own}
use Rattle.opfs_machine.specs.declared.own.Own.TheVariants as own
use Rattle.opfs_machine.specs.declared.state.Agent.{Agent}
use Rattle.opfs_machine.specs.declared.state.FileRow.{FileRow}
use Rattle.opfs_machine.specs.declared.state.Row.{Row}
use Rattle.opfs_machine.specs.declared.state.Sizes.{Sizes}
use Rattle.opfs_machine.specs.declared.state.State.{State}
use Rattle.opfs_machine.specs.Agents.{agent_of, agent_in, own_of, with_agent, with_own, adds_own, open_stream, open_handle, party_of}
use Rattle.opfs_machine.specs.Contents.{in_bytes, outline_of, written_row, truncated_row, sought_row, moved_row, advanced_row}
use Rattle.opfs_machine.specs.Effects.{effect, refused, made, opens_bucket, opens_stream, takes_snapshot, closes_stream, aborts_stream, changes_file, flushes, closes_handle, discards, persists, with_written, with_changed, with_lock, flushed, undone, unlocked, replaced, content_of, moment_of, new_row, cursor_after_read}
use Rattle.opfs_machine.specs.Rulings.{start_of, size_written, reserve_for, want_of, first_reserve}
use Rattle.opfs_machine.specs.Sums.{reserve_of}
use Rattle.opfs_base.specs.Units.{unit_of}
use Rattle.opfs_locks.specs.declared.Want.TheVariants as want
use Rattle.opfs_machine.specs.declared.state.Row.TheVariants as row
use Rattle.opfs_machine.specs.Histories.{asks_stuck}
use Rattle.opfs_machine.specs.Replies.{sizes_of}
use Rattle.opfs_machine.specs.Rows.{file_at, with_file, with_row, without, row_at, children_of}
use Rattle.opfs_machine.specs.Steps.{evicted, is_refusal, changed_by, after_reply}
use Rattle.opfs_laws.specs.Leaving.{row_used, IsMoved, ACallMovesItsAgent}
use Rattle.opfs_laws.proofs.Allowed.{agent-stays}
use Rattle.opfs_laws.proofs.LocksEffect.{stream-holder, handle-holder}
use Rattle.opfs_laws.proofs.Numbers.{IsNumber, number-of, agent-set}

-- Rows by place.
get-more : {X : Type 0} (xs ys : List X) (i : ℕ) (x : X) → slice_get xs i ≡ Some x → slice_get (xs ++ ys) i ≡ Some x
get-more [] ys i x is = cc
get-more (y ∷ xs) ys zero x is = is
get-more (y ∷ xs) ys (suc i) x is = get-more xs ys i x is

get-other : {X : Type 0} (xs : List X) (i j : ℕ) (y : X) → i ≢ j → slice_get (slice_set xs j y) i ≡ slice_get xs i
get-other [] i j y apart = refl
get-other (x ∷ xs) zero zero y apart = absurd (apart refl)
get-other (x ∷ xs) zero (suc j) y apart = refl
get-other (x ∷ xs) (suc i) zero y apart = refl
get-other (x ∷ xs) (suc i) (suc j) y apart = get-other xs i j y (λ e. apart (ap suc e))

length-set : {X : Type 0} (xs : List X) (j : ℕ) (y : X) → length (slice_set xs j y) ≡ length xs
length-set [] j y = refl
length-set (x ∷ xs) zero y = refl
length-set (x ∷ xs) (suc j) y = ap suc (length-set xs j y)

less_one : (i : ℕ) → suc i - 1 ≡ i
less_one i = omega arith

-- What is left of an agent by a call that uses the row of a number and may add one.
record Moves (a : Agent Own) (n : ℕ) (adds : Bool) (b : Agent Own) : Type 0 where
  key : b.key ≡ a.key
  grant : b.grant ≡ a.grant
  live : b.live ≡ a.live
  waits : b.waits ≡ a.waits
  rows : (m : ℕ) (r : Own) → m ≢ n → own_of a m ≡ Some r → own_of b m ≡ Some r
  more : (length b.own ≡ length a.own) ⊎ ((length b.own ≡ length a.own + 1) × (adds ≡ true))

moves-is : (a b : Agent Own) (n : ℕ) (adds : Bool) → b ≡ a → Moves a n adds b
moves-is a b n adds is =
    subst (Moves a n adds) (sym is) (record { key = refl; grant = refl; live = refl; waits = refl; rows = λ m r apart h. h; more = inl refl })

number-same : (s t : State Text Own) (k : ℕ) → t.agents ≡ s.agents → IsNumber s k → IsNumber t k
number-same s t k same number = record { index = number.index; is = number.is; within = subst (λ xs. number.index < length xs) (sym same) number.within }

module _ (s : State Text Own) (k : ℕ) (number : IsNumber s k) where
  abbrev a : Agent Own
  a = agent_of s k

  there : (t : State Text Own) → t.agents ≡ s.agents → agent_of t k ≡ a
  there t same = ap (λ xs. agent_in xs k) same

  moves-same : (t : State Text Own) (n : ℕ) (adds : Bool) → t.agents ≡ s.agents → Moves a n adds (agent_of t k)
  moves-same t n adds same = moves-is a (agent_of t k) n adds (there t same)

  set-rows : (n m : ℕ) (new old r : Own) → own_of a n ≡ Some old → m ≢ n → own_of a m ≡ Some r → own_of (record a { own = slice_set a.own (n - 1) new }) m ≡ Some r
  set-rows zero m new old r is apart h = cc
  set-rows (suc j) zero new old r is apart h = cc
  set-rows (suc j) (suc i) new old r is apart h =
      get-other a.own i (suc j - 1) new (λ e. apart (ap suc (e ∙ less_one j))) ∙ h

  moves-sets : (t : State Text Own) (n : ℕ) (adds : Bool) (new old : Own) → t.agents ≡ s.agents → own_of a n ≡ Some old → Moves a n adds (agent_of (with_own t k n new) k)
  moves-sets t n adds new old same is =
      let set = agent-set t k (record (agent_of t k) { own = slice_set (agent_of t k).own (n - 1) new }) (number-same s t k same number) in
      let as_a = ap (λ (b : Agent Own). record b { own = slice_set b.own (n - 1) new }) (there t same) in
      subst (Moves a n adds) (sym (set ∙ as_a)) (record {
        key = refl;
        grant = refl;
        live = refl;
        waits = refl;
        rows = λ m r apart h. set-rows n m new old r is apart h;
        more = inl (length-set a.own (n - 1) new);
      })

  more-rows : (m : ℕ) (new r : Own) → own_of a m ≡ Some r → own_of (record a { own = a.own ++ new ∷ [] }) m ≡ Some r
  more-rows zero new r h = cc
  more-rows (suc i) new r h = get-more a.own (new ∷ []) i r h

  moves-adds : (t : State Text Own) (n : ℕ) (new : Own) → t.agents ≡ s.agents → Moves a n true (agent_of (adds_own t k new) k)
  moves-adds t n new same =
      let set = agent-set t k (record (agent_of t k) { own = (agent_of t k).own ++ new ∷ [] }) (number-same s t k same number) in
      let as_a = ap (λ (b : Agent Own). record b { own = b.own ++ new ∷ [] }) (there t same) in
      subst (Moves a n true) (sym (set ∙ as_a)) (record {
        key = refl;
        grant = refl;
        live = refl;
        waits = refl;
        rows = λ m r apart h. more-rows m new r h;
        more = inr (length-append a.own (new ∷ []), refl);
      })

  abbrev changed_if : State Text Own → ℕ → (Own → Own) → Option Own → State Text Own
  changed_if t n change o = elim o [ Some r ↦ with_own t k n (change r) | None ↦ t ]

  moves-changed : (t : State Text Own) (n : ℕ) (adds : Bool) (change : Own → Own) → t.agents ≡ s.agents → Moves a n adds (agent_of (with_changed t k n change) k)
  unfolding with_changed
  moves-changed t n adds change same =
      subst (λ o. Moves a n adds (agent_of (changed_if t n change o) k)) (sym (ap (λ b. own_of b n) (there t same)))
      (elim (own_of a n) as (λ o. own_of a n ≡ o → Moves a n adds (agent_of (changed_if t n change o) k)) [
        | Some r ↦ λ is. moves-sets t n adds (change r) r same is
        | None ↦ λ is. moves-same t n adds same
      ] refl)

  made-same : (p : Place) (r : Row Text) → (made s p r).agents ≡ s.agents
  made-same p r =
      elim (row_at s p) as (λ o. (elim o as (λ x. State Text Own) [ Some old ↦ s | None ↦ with_row s p r ]).agents ≡ s.agents) [ Some old ↦ refl | None ↦ refl ]

  bucket-same : (bucket : Text) (o : Option Text) → (opens_bucket s bucket o).agents ≡ s.agents
  bucket-same bucket None = refl
  bucket-same bucket (Some origin) = made-same (unit_of origin bucket, []) row.Directory

  persists-same : (bucket : Text) (grant : Bool) (o : Option Text) → (persists s bucket grant o).agents ≡ s.agents
  persists-same bucket grant None = refl
  persists-same bucket true (Some origin) = refl
  persists-same bucket false (Some origin) = refl

  written-same : (m : Mode) (p : Place) (change : FileRow Text → FileRow Text) → (with_written s m p change).agents ≡ s.agents
  written-same mode.ReadWrite p change = refl
  written-same mode.ReadOnly p change = refl

  opens-moves : (p : Place) (reserve : ℕ) (keep : Bool) (o : Option (FileRow Text)) → Moves a 0 true (agent_of (opens_stream in_bytes s k p reserve keep o) k)
  opens-moves p reserve keep None = moves-same s 0 true refl
  opens-moves p reserve keep (Some f) =
      moves-adds (with_file s p (with_lock want.Shared)) 0 (in_bytes.stream p (if keep then f.present else in_bytes.empty) reserve) refl

  snaps-moves : (o : Option (FileRow Text)) → Moves a 0 true (agent_of (takes_snapshot in_bytes s k o) k)
  snaps-moves None = moves-same s 0 true refl
  snaps-moves (Some f) = moves-adds s 0 (own.Snapshot f.present) refl

  closes-moves : (z : Sizes) (n : ℕ) (w : Option StreamOutline) → open_stream in_bytes s k n ≡ w → Moves a n false (agent_of (closes_stream in_bytes s z k n w) k)
  closes-moves z n None is = moves-same s n false refl
  closes-moves z n (Some w) is =
      let holder = stream-holder (own_of a n) w is in
      let t = with_file (with_file s w.file (replaced (content_of in_bytes (own_of a n) z.size) (moment_of s k))) w.file unlocked in
      moves-sets t n false own.ClosedStream holder.row refl holder.is

  aborts-moves : (n : ℕ) (w : Option StreamOutline) → open_stream in_bytes s k n ≡ w → Moves a n false (agent_of (aborts_stream in_bytes s k n w) k)
  aborts-moves n None is = moves-same s n false refl
  aborts-moves n (Some w) is = let holder = stream-holder (own_of a n) w is in moves-sets (with_file s w.file unlocked) n false own.ClosedStream holder.row refl holder.is

  alters-moves : (n : ℕ) (change : Text → Text) (cursor size : ℕ) (h : Option HandleOutline) → Moves a n false (agent_of (changes_file in_bytes s k n change cursor size h) k)
  unfolding changes_file
  alters-moves n change cursor size None = moves-same s n false refl
  alters-moves n change cursor size (Some h) =
      moves-changed (with_file s h.file (λ f. record f { present = change f.present; stamp = moment_of s k })) n false (λ r. moved_row r cursor (reserve_for h.reserve size)) refl

  flushes-moves : (z : Sizes) (n : ℕ) (h : Option HandleOutline) → Moves a n false (agent_of (flushes in_bytes s z k n h) k)
  flushes-moves z n None = moves-same s n false refl
  flushes-moves z n (Some h) = moves-changed (with_written s h.mode h.file flushed) n false (λ r. moved_row r z.position 0) (written-same h.mode h.file flushed)

  shuts-moves : (n : ℕ) (h : Option HandleOutline) → open_handle in_bytes s k n ≡ h → Moves a n false (agent_of (closes_handle in_bytes s k n h) k)
  shuts-moves n None is = moves-same s n false refl
  shuts-moves n (Some h) is =
      let holder = handle-holder (own_of a n) h is in
      moves-sets (with_file (with_written s h.mode h.file flushed) h.file unlocked) n false own.ClosedHandle holder.row (written-same h.mode h.file flushed) holder.is

  discards-moves : (n : ℕ) (h : Option HandleOutline) → open_handle in_bytes s k n ≡ h → Moves a n false (agent_of (discards in_bytes s k n h) k)
  discards-moves n None is = moves-same s n false refl
  discards-moves n (Some h) is =
      let holder = handle-holder (own_of a n) h is in
      moves-sets (with_file (with_written s h.mode h.file undone) h.file unlocked) n false own.ClosedHandle holder.row (written-same h.mode h.file undone) holder.is

  moved : (o : Op) (b : Agent Own) → Moves a (row_used o) (asks_for_row o) b → IsMoved a o b
  moved o b m = record { key = m.key; grant = m.grant; live = λ going. m.live; waits = λ going nobody. m.waits; rows = m.rows; more = m.more }

  clock-moves : (ms : ℕ) (b : Agent Own) → b ≡ record a { moment = ms } → Moves a 0 false b
  clock-moves ms b is =
      subst (Moves a 0 false) (sym is) (record { key = refl; grant = refl; live = refl; waits = refl; rows = λ m r apart h. rows-same m r h; more = inl refl })
    where
      rows-same : (m : ℕ) (r : Own) → own_of a m ≡ Some r → own_of (record a { moment = ms }) m ≡ Some r
      rows-same zero r h = h
      rows-same (suc i) r h = h

  waits-moved : (o : Op) (tag : Option Text) → asks_stuck o ≡ true → IsMoved a o (agent_of (with_agent s k (record a { waits = tag })) k)
  waits-moved o tag asks =
      subst (IsMoved a o) (sym (agent-set s k (record a { waits = tag }) number)) (record {
        key = refl;
        grant = refl;
        live = λ g. refl;
        waits = λ g nobody. absurd (false≢true (sym nobody ∙ asks));
        rows = λ m r apart h. rows-same m r h;
        more = inl refl;
      })
    where
      rows-same : (m : ℕ) (r : Own) → own_of a m ≡ Some r → own_of (record a { waits = tag }) m ≡ Some r
      rows-same zero r h = h
      rows-same (suc i) r h = h

  ends-moved : IsMoved a op.End (agent_of (with_agent s k (record a { live = false; waits = None })) k)
  ends-moved =
      subst (IsMoved a op.End) (sym (agent-set s k (record a { live = false; waits = None }) number)) (record {
        key = refl;
        grant = refl;
        live = λ g. absurd (false≢true (sym g));
        waits = λ g nobody. absurd (false≢true (sym g));
        rows = λ m r apart h. rows-same m r h;
        more = inl refl;
      })
    where
      rows-same : (m : ℕ) (r : Own) → own_of a m ≡ Some r → own_of (record a { live = false; waits = None }) m ≡ Some r
      rows-same zero r h = h
      rows-same (suc i) r h = h

  effect-moves : (z : Sizes) (o : Op) → IsMoved a o (agent_of (effect in_bytes s z k o) k)
  unfolding effect
  effect-moves z (op.GetDirectory bucket) = moved (op.GetDirectory bucket) _ (moves-same (opens_bucket s bucket a.key) 0 false (bucket-same bucket a.key))
  effect-moves z (op.GetDirectoryHandle dir name create) = moved (op.GetDirectoryHandle dir name create) _ (moves-same (made s (child (place_of dir) name) row.Directory) 0 false (made-same (child (place_of dir) name) row.Directory))
  effect-moves z (op.GetFileHandle dir name create) = moved (op.GetFileHandle dir name create) _ (moves-same (made s (child (place_of dir) name) (new_row in_bytes kind.File (moment_of s k))) 0 false (made-same (child (place_of dir) name) (new_row in_bytes kind.File (moment_of s k))))
  effect-moves z (op.RemoveEntry dir name recursive) = moved (op.RemoveEntry dir name recursive) _ (moves-same (without s (child (place_of dir) name)) 0 false refl)
  effect-moves z (op.Values dir) = moved (op.Values dir) _ (moves-adds s 0 (in_bytes.iterator dir) refl)
  effect-moves z (op.Next n dir) = moved (op.Next n dir) _ (moves-changed s n false (λ r. advanced_row r (children_of s (place_of dir))) refl)
  effect-moves z (op.Resolve dir entry) = moved (op.Resolve dir entry) _ (moves-same s 0 false refl)
  effect-moves z (op.IsSameEntry entry to) = moved (op.IsSameEntry entry to) _ (moves-same s 0 false refl)
  effect-moves z (op.GetFile at) = moved (op.GetFile at) _ (snaps-moves (file_at s (place_of at)))
  effect-moves z (op.Slice n at len) = moved (op.Slice n at len) _ (moves-same s 0 false refl)
  effect-moves z (op.CreateWritable at keep) = moved (op.CreateWritable at keep) _ (opens-moves (place_of at) (first_reserve in_bytes s at keep) keep (file_at s (place_of at)))
  effect-moves z (op.Write n bytes position) = moved (op.Write n bytes position) _ (moves-changed s n false (λ r. written_row r (start_of z position) bytes (reserve_for (reserve_of (outline_of r)) (size_written z position bytes))) refl)
  effect-moves z (op.Seek n position) = moved (op.Seek n position) _ (moves-changed s n false (λ r. sought_row r position) refl)
  effect-moves z (op.Truncate n size) = moved (op.Truncate n size) _ (moves-changed s n false (λ r. truncated_row r size (reserve_for (reserve_of (outline_of r)) size)) refl)
  effect-moves z (op.Close n) = moved (op.Close n) _ (closes-moves z n (open_stream in_bytes s k n) refl)
  effect-moves z (op.Abort n) = moved (op.Abort n) _ (aborts-moves n (open_stream in_bytes s k n) refl)
  effect-moves z (op.CreateSyncAccessHandle at m) = moved (op.CreateSyncAccessHandle at m) _ (moves-adds (with_file s (place_of at) (with_lock (want_of m))) 0 (in_bytes.handle (place_of at) m) refl)
  effect-moves z (op.SyncRead n len at) = moved (op.SyncRead n len at) _ (moves-changed s n false (λ r. moved_row r (cursor_after_read z len at) (reserve_of (outline_of r))) refl)
  effect-moves z (op.SyncWrite n bytes at) = moved (op.SyncWrite n bytes at) _ (alters-moves n (λ f. in_bytes.overwritten f (start_of z at) bytes) (start_of z at + length bytes) (size_written z at bytes) (open_handle in_bytes s k n))
  effect-moves z (op.SyncTruncate n size) = moved (op.SyncTruncate n size) _ (alters-moves n (λ f. in_bytes.cut f size) (min z.position size) size (open_handle in_bytes s k n))
  effect-moves z (op.SyncGetSize n) = moved (op.SyncGetSize n) _ (moves-same s n false refl)
  effect-moves z (op.SyncFlush n) = moved (op.SyncFlush n) _ (flushes-moves z n (open_handle in_bytes s k n))
  effect-moves z (op.SyncClose n) = moved (op.SyncClose n) _ (shuts-moves n (open_handle in_bytes s k n) refl)
  effect-moves z (op.Persist bucket) = moved (op.Persist bucket) _ (moves-same (persists s bucket a.grant a.key) 0 false (persists-same bucket a.grant a.key))
  effect-moves z (op.Persisted bucket) = moved (op.Persisted bucket) _ (moves-same s 0 false refl)
  effect-moves z op.Estimate = moved op.Estimate _ (moves-same s 0 false refl)
  effect-moves z (op.Moment ms) = moved (op.Moment ms) _ (clock-moves ms _ (agent-set s k (record a { moment = ms }) number))
  effect-moves z (op.Post tag) = moved (op.Post tag) _ (moves-same (record s { posted = s.posted ++ record { party = party_of s k; tag = tag } ∷ [] }) 0 false refl)
  effect-moves z (op.Await tag) = waits-moved (op.Await tag) None refl
  effect-moves z (op.Wait tag) = waits-moved (op.Wait tag) (Some tag) refl
  effect-moves z (op.Discard n) = moved (op.Discard n) _ (discards-moves n (open_handle in_bytes s k n) refl)
  effect-moves z op.End = ends-moved
  effect-moves z (op.Unbound word) = moved (op.Unbound word) _ (moves-same s 0 false refl)
  effect-moves z (op.Evict unit) = moved (op.Evict unit) _ (moves-same s 0 false refl)

  refused-moves : (o : Op) → IsMoved a o (agent_of (refused s k o) k)
  refused-moves (op.Await tag) = waits-moved (op.Await tag) None refl
  refused-moves o = record { key = refl; grant = refl; live = λ g. refl; waits = λ g nobody. refl; rows = λ m r apart h. h; more = inl refl }

  pub changed-moves : (o : Op) (told : Reply) → IsMoved a o (agent_of (changed_by s k o told) k)
  changed-moves o told =
      elim (is_refusal told) as (λ b. IsMoved a o (agent_of (elim b as (λ x. State Text Own) [ true ↦ refused s k o | false ↦ effect in_bytes s (sizes_of s k o) k o ]) k)) [
        | true ↦ refused-moves o
        | false ↦ effect-moves (sizes_of s k o) o
      ]

pub call-moves : ACallMovesItsAgent
call-moves s gone k o told live =
    let t = fold evicted s gone in
    let same : agent_of t k ≡ agent_of s k = agent-stays gone s k in
    let number : IsNumber t k = number-of t k (ap (λ b. b.live) same ∙ live) in
    subst (λ b. IsMoved b o (agent_of (after_reply t k o told) k)) same (changed-moves t k number o told)
