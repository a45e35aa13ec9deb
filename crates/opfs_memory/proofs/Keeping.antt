-- How a disk in memory keeps what it did.
use Rattle.std.proofs.Common.{◌≡◌, ℕ, suc, ◌+◌, ◌-◌, ◌<◌, ◌≤◌, Bool, false, ◌||◌, leb, ltb, List, [], ◌∷◌, ◌++◌, length, take, inl, inr, refl, sym, ◌∙◌, ap, subst, arith}
use Rattle.std.specs.Prelude.{All, slice_index}
use Rattle.std.proofs.lemmas.List.{length-append, map_push, drop_at, take_all, ext_get_or, length-map}
use Rattle.std.proofs.lemmas.List.Sums.{fold_push}
use Rattle.std.proofs.lemmas.List.Elements.{All-push, All-weaker}
use Rattle.std.proofs.lemmas.Bool.{cases_lt}
use Rattle.std.proofs.lemmas.Bool.Decides.{nat_tests}
use Rattle.std.proofs.lemmas.List.{get_or_append_left}
use Rattle.opfs_outside.specs.Bytes.{window}
use Rattle.opfs_outside.specs.Windows.{window_is, same_window, slice_index-window}
use Rattle.opfs_memory.specs.Disks.{Overwritten}
use Rattle.opfs_memory.specs.Drives.{Event, Wrote, over, after_event, replayed, Drive, passes_room}
use Rattle.opfs_memory.specs.DriveLaws.{length-over, over-beside, sound_replayed}
use Rattle.opfs_memory.specs.KeptEvents.{event_of, events, IsInside}
use Rattle.opfs_memory.specs.KeptCalls.{IsInOrder, drive_of}
use Rattle.opfs_memory.specs.declared.mem_disk.Kept.{Kept}
use Rattle.opfs_memory.specs.declared.mem_disk.Kept.TheVariants.{Nothing, Write, Sync}
use Rattle.opfs_memory.specs.declared.mem_disk.MemDisk.TheInside.{Inside}
use Rattle.opfs_memory.proofs.DriveCalls.{over-inside}

-- the contents have the first length
pub sizes : (d : Inside) → IsInOrder d → (length d.content.items ≡ length d.first.items) × (length d.synced.items ≡ length d.first.items)
sizes d o =
    let s = sound_replayed d.first.items (events d.bytes.items d.log.items) in
    (ap length o.content ∙ s.content, ap length o.synced ∙ s.synced)

-- a write in place is one of the model
pub is_over : (at : ℕ) (bytes old new : List ℕ) → at + length bytes ≤ length old → Overwritten at bytes old new → new ≡ over old at bytes
is_over at bytes old new fits o =
    ext_get_or 0 new (over old at bytes) (o.size ∙ sym (length-over old at bytes)) (λ i h. elim (cases_lt i at) [
      | inl below ↦ o.elsewhere i (inl below) ∙ sym (over-beside old at bytes i (inl below))
      | inr above ↦ elim (cases_lt i (at + length bytes)) [
        | inl inside ↦
            let k = i - at in
            let e : at + k ≡ i = omega arith in
            ap (λ j. slice_index new j) (sym e) ∙ sym (slice_index-window new at (length bytes) k (omega arith)) ∙ ap (λ w. slice_index w k) o.written
            ∙ sym (over-inside old at bytes k (omega arith) fits) ∙ ap (λ j. slice_index (over old at bytes) j) e
        | inr past ↦ o.elsewhere i (inr past) ∙ sym (over-beside old at bytes i (inr past))
      ]
    ])

-- more bytes behind leave the events as they are
event_more : (bytes more : List ℕ) (size : ℕ) (k : Kept) → IsInside (length bytes) size k → event_of (bytes ++ more) k ≡ event_of bytes k
event_more bytes more size Nothing inside = refl
event_more bytes more size (Write at start len done) inside =
    ap (λ w. Wrote at w done) (same_window (bytes ++ more) bytes start len (λ k h. get_or_append_left bytes more 0 (start + k) (omega (arith, inside.0))))
event_more bytes more size Sync inside = refl

events_more : (bytes more : List ℕ) (size : ℕ) (log : List Kept) → All (IsInside (length bytes) size) log → events (bytes ++ more) log ≡ events bytes log
events_more bytes more size [] inside = refl
events_more bytes more size (k ∷ log) inside =
    let first = event_more bytes more size k (inside 0 k (omega arith)) in
    let rest = events_more bytes more size log (λ j d h. inside (suc j) d (omega arith)) in
    λ i. first i ∷ rest i

window_behind : (bytes more : List ℕ) (len : ℕ) → length more ≡ len → window (bytes ++ more) (length bytes) len ≡ more
window_behind bytes more len e =
    window_is (bytes ++ more) (length bytes) len (omega (arith, length-append bytes more))
    ∙ ap (λ xs. take len xs) (drop_at bytes more (length bytes) refl) ∙ take_all len more (omega arith)

pub events_write : (bytes more : List ℕ) (at start len size : ℕ) (done : Bool) (log : List Kept) → All (IsInside (length bytes) size) log → start ≡ length bytes → length more ≡ len
    → events (bytes ++ more) (log ++ Write at start len done ∷ []) ≡ events bytes log ++ Wrote at more done ∷ []
events_write bytes more at start len size done log inside from e =
    ap (λ n. events (bytes ++ more) (log ++ Write at n len done ∷ [])) from
    ∙ map_push (event_of (bytes ++ more)) log (Write at (length bytes) len done)
    ∙ ap (λ es. es ++ Wrote at (window (bytes ++ more) (length bytes) len) done ∷ []) (events_more bytes more size log inside)
    ∙ ap (λ w. events bytes log ++ Wrote at w done ∷ []) (window_behind bytes more len e)

pub still_inside : (n m size : ℕ) (log : List Kept) → n ≤ m → All (IsInside n size) log → All (IsInside m size) log
still_inside n m size log le inside = All-weaker (IsInside n size) (IsInside m size) larger log inside
  where
    larger : (k : Kept) → IsInside n size k → IsInside m size k
    larger Nothing h = h
    larger (Write at start len done) h = (omega (arith, h.0), h.1)
    larger Sync h = h

pub inside_write : (bytes more : List ℕ) (at start len size : ℕ) (done : Bool) (log : List Kept) → All (IsInside (length bytes) size) log → start ≡ length bytes → length more ≡ len → at + len ≤ size
    → All (IsInside (length (bytes ++ more)) size) (log ++ Write at start len done ∷ [])
inside_write bytes more at start len size done log inside from e fits =
    All-push (IsInside (length (bytes ++ more)) size) log (Write at start len done)
    (still_inside (length bytes) (length (bytes ++ more)) size log (omega (arith, length-append bytes more)) inside)
    (omega (arith, length-append bytes more), fits)

-- one more event
pub replayed_push : (first : List ℕ) (log : List Event) (e : Event) → replayed first (log ++ e ∷ []) ≡ after_event (replayed first log) e
replayed_push first log e = fold_push after_event (record { content = first; synced = first; written = [] }) log e

-- what room is left
pub room_left : (a b x y : ℕ) → (leb a b || ltb x y) ≡ false → (b < a) × (y ≤ x)
room_left a b x y e = (grind (arith, nat_tests), grind (arith, nat_tests))

pub room_for : (d : Inside) (n : ℕ) → passes_room (drive_of d) n ≡ false → (length d.log.items < d.room_calls) × (length d.bytes.items + n ≤ d.room_bytes)
room_for d n free =
    let left = room_left d.room_calls (length (events d.bytes.items d.log.items)) d.room_bytes (length d.bytes.items + n) free in
    (omega (arith, left.0, length-map d.log.items (event_of d.bytes.items)), left.1)

-- after a write
module _ (d : Inside) (o : IsInOrder d) (at start : ℕ) (more : List ℕ) (done : Bool) (bytes : List ℕ) (log : List Kept) (from : start ≡ length d.bytes.items)
    (more_is : bytes ≡ d.bytes.items ++ more) (log_is : log ≡ d.log.items ++ Write at start (length more) done ∷ []) (fits : at + length more ≤ length d.first.items) where
  pub log_after : events bytes log ≡ events d.bytes.items d.log.items ++ Wrote at more done ∷ []
  log_after = ap (λ b. events b log) more_is ∙ ap (λ l. events (d.bytes.items ++ more) l) log_is ∙ events_write d.bytes.items more at start (length more) (length d.first.items) done d.log.items o.inside from refl

  pub after_write : replayed d.first.items (events bytes log) ≡ after_event (replayed d.first.items (events d.bytes.items d.log.items)) (Wrote at more done)
  after_write = ap (λ es. replayed d.first.items es) log_after ∙ replayed_push d.first.items (events d.bytes.items d.log.items) (Wrote at more done)

  pub inside_after : All (IsInside (length bytes) (length d.first.items)) log
  inside_after = subst (λ l. All (IsInside (length bytes) (length d.first.items)) l) (sym log_is) (subst (λ b. All (IsInside (length b) (length d.first.items)) (d.log.items ++ Write at start (length more) done ∷ [])) (sym more_is)
      (inside_write d.bytes.items more at start (length more) (length d.first.items) done d.log.items o.inside from refl fits))

-- the disk after it
pub same_drive : (d : Drive) (log log' : List Event) (used used' : ℕ) → log ≡ log' → used ≡ used' → ◌≡◌ {A = Drive} (record d { log = log; used = used }) (record d { log = log'; used = used' })
same_drive d log log' used used' e f = λ i. record d { log = e i; used = f i }
