-- A key-value file that is read when it is opened.
use Rattle.std.proofs.Common.{◌≡◌, ℕ, ◌+◌, ◌-◌, ◌*◌, ◌<◌, ◌≤◌, [], length, take, drop, min, Result, Ok, Err, IfOk, refl, sym, ap, subst, ◌∙◌, arith, inl, inr}
use Rattle.std.proofs.lemmas.Bool.{cases_lt}
use Rattle.std.proofs.lemmas.List.{length-drop, length-take, take_all}
use Rattle.opfs_base.specs.Texts.{Text}
use Rattle.opfs_turns.specs.Asking.Rows.{HandleSeen, HasHandle}
use Rattle.opfs_kv.specs.Records.Indexes.{IsFitting, Places}
use Rattle.opfs_kv.specs.Records.Scans.{HasRead, HasStopped, IsPiece}
use Rattle.opfs_kv.specs.declared.records.miss.Miss.{Miss}
use Rattle.opfs_kv.specs.declared.records.miss.Miss.TheVariants as miss
use Rattle.opfs_kv.proofs.records.Steps.{failed-then, read-then}
use Rattle.opfs_splice.specs.Splicing.{window}
use Rattle.opfs_sync_files.specs.Entries.{GoesOn, IsCaused}
use Rattle.opfs_sync_files.specs.Files.{file_bytes, stored_of}
use Rattle.opfs_sync_files.specs.Still.{NoBytes, IsStill}
use Rattle.opfs_sync_files.proofs.Knowing.{caused-later, goes-none, goes-then}
use Rattle.opfs_sync_files.proofs.Resting.{rest-none, rest-next}
use Rattle.opfs_turns.specs.Agents.{AgentSeen}
use Rattle.opfs_kv.specs.Asked.{IsOpening, IsPieceRead}
use Rattle.opfs_kv.specs.Calls.{HasOpenCause}
use Rattle.opfs_kv.proofs.Results.{later-may}
use Rattle.opfs_kv.specs.Opening.{HasEnded, HasScanCause, IsScanned, OnlyReads, stop_of}
use Rattle.opfs_kv.specs.declared.stop.KvStop.{KvStop}
use Rattle.opfs_kv.specs.declared.stop.KvStop.TheVariants as kv_stop

-- ---- reads, one after another

pub reads-none : {O : Type 0} (tells : Type 0) (a : AgentSeen O) (x : HandleSeen) → HasHandle tells a x → OnlyReads tells a a x x 0
reads-none tells a x has = record { has = has; row = refl; file = refl; mode_is = refl; goes = goes-none a; others = rest-none tells a x.row; bytes = refl; stored = refl }

pub reads-one : {O : Type 0} (tells : Type 0) (a b : AgentSeen O) (x y : HandleSeen) → IsStill tells a b x y NoBytes → file_bytes b y ≡ file_bytes a x → stored_of b y ≡ stored_of a x → OnlyReads tells a b x y 1
reads-one tells a b x y still same stored = record { has = still.has; row = still.row; file = still.file; mode_is = still.mode_is; goes = still.goes; others = still.others; bytes = same; stored = stored }

pub reads-then : {O : Type 0} (tells : Type 0) (a b c : AgentSeen O) (x y z : HandleSeen) (m n : ℕ) → OnlyReads tells a b x y m → OnlyReads tells b c y z n → OnlyReads tells a c x z (m + n)
reads-then tells a b c x y z m n r s = record {
  has = s.has;
  row = s.row ∙ r.row;
  file = s.file ∙ r.file;
  mode_is = s.mode_is ∙ r.mode_is;
  goes = goes-then a b c m n r.goes s.goes;
  others = rest-next tells a b c x.row y.row r.row r.others s.others;
  bytes = s.bytes ∙ r.bytes;
  stored = s.stored ∙ r.stored;
}

-- With the bound that its entries keep.
pub reads-within : {O : Type 0} (tells : Type 0) (a b : AgentSeen O) (x y : HandleSeen) (m n : ℕ) → b.entries ≤ a.entries + n → OnlyReads tells a b x y m → OnlyReads tells a b x y n
reads-within tells a b x y m n few r = record {
  has = r.has;
  row = r.row;
  file = r.file;
  mode_is = r.mode_is;
  goes = record { hall = r.goes.hall; agent = r.goes.agent; opening_is = r.goes.opening_is; rows = r.goes.rows; entries = few; number = r.goes.number; knows = r.goes.knows; newer = r.goes.newer; grown = r.goes.grown };
  others = r.others;
  bytes = r.bytes;
  stored = r.stored;
}

-- ---- a piece

-- As many bytes as are asked for, or all that are left.
pub window-long : (bytes : Text) (at len : ℕ) → length (window bytes at len) ≡ min len (length bytes - at)
window-long bytes at len = length-take len (drop at bytes) ∙ ap (min len) (length-drop at bytes)

pub window-itself : (bytes : Text) (at len : ℕ) → window bytes at (length (window bytes at len)) ≡ window bytes at len
window-itself bytes at len =
    let long = length-take len (drop at bytes) in
    let short : (n : ℕ) → n ≡ min len (length (drop at bytes)) → take n (drop at bytes) ≡ take len (drop at bytes) = λ n is. least len (drop at bytes) n is in
    short (length (take len (drop at bytes))) long
  where
    least : (k : ℕ) (xs : Text) (n : ℕ) → n ≡ min k (length xs) → take n xs ≡ take k xs
    least k xs n is =
        elim (cases_lt (length xs) k) as (λ c. take n xs ≡ take k xs) [
          | inl less ↦ take_all n xs (omega (arith, is, less)) ∙ sym (take_all k xs (omega (arith, less)))
          | inr more ↦ ap (λ m. take m xs) (omega (arith, is, more))
        ]

pub piece-is : (whole : Text) (size at : ℕ) (piece : Text) → length whole ≡ size → piece ≡ window whole at 65536 → IsPiece whole size at piece
piece-is whole size at piece long is = record { sized = long; here = is ∙ sym (window-itself whole at 65536) ∙ ap (λ (p : Text). window whole at (length p)) (sym is) }

-- ---- causes

pub stopped-ends : (size at : ℕ) (piece : Text) (index : Places) (why : Miss) → HasStopped size at piece index why → HasEnded size at piece index (stop_of why)
stopped-ends size at piece index miss.Memory h = refl
stopped-ends size at piece index (miss.Bad place) h = h

pub ends-cause : {O : Type 0} (tells : Type 0) (a b : AgentSeen O) (whole : Text) (size at : ℕ) (piece : Text) (index : Places) (why : KvStop) (row : ℕ) → (tells → IsPiece whole size at piece) → HasEnded size at piece index why → HasScanCause tells a b row whole at index why
ends-cause tells a b whole size at piece index (kv_stop.BadFile place) row is h = λ tell. h whole (is tell)
ends-cause tells a b whole size at piece index (kv_stop.Agent why) row is h = subst (IsCaused a b (IsPieceRead row)) (sym h) tt
ends-cause tells a b whole size at piece index (kv_stop.Full long need) row is h = absurd h

pub cause-then : {O : Type 0} (tells : Type 0) (a b c : AgentSeen O) (m : ℕ) (whole : Text) (at : ℕ) (old new : Places) (why : KvStop) (row : ℕ) → GoesOn a b m → (tells → HasRead whole 0 old at new) → HasScanCause tells b c row whole at new why
    → HasScanCause tells a c row whole 0 old why
cause-then tells a b c m whole at old new (kv_stop.BadFile place) row goes read h = λ tell. failed-then whole 0 old at new place (read tell) (h tell)
cause-then tells a b c m whole at old new (kv_stop.Agent why) row goes read h = caused-later a b c (IsPieceRead row) m why goes h
cause-then tells a b c m whole at old new (kv_stop.Full long need) row goes read h = h

pub open-cause : {O : Type 0} (tells : Type 0) (a b c : AgentSeen O) (m : ℕ) (whole : Text) (why : KvStop) (row : ℕ) → GoesOn a b m → length whole ≤ 16777216 → HasScanCause tells b c row whole 0 [] why → HasOpenCause tells a c row whole why
open-cause tells a b c m whole (kv_stop.BadFile place) row goes small h = (small, h)
open-cause tells a b c m whole (kv_stop.Agent why) row goes small h = later-may a b c (IsPieceRead row) (IsOpening whole row) m why (λ o is. inr (small, is)) goes h
open-cause tells a b c m whole (kv_stop.Full long need) row goes small h = absurd h

-- ---- several pieces

pub scanned-then : (tells : Type 0) (bytes : Text) (size at next : ℕ) (old mid new : Places) → IsScanned tells bytes 0 old at size mid → IsScanned tells bytes at mid next size new → IsScanned tells bytes 0 old next size new
scanned-then tells bytes size at next old mid new x y = record {
  on = omega (arith, x.on, y.on);
  inside = y.inside;
  fitting = y.fitting;
  read = λ tell. read-then bytes 0 old at mid next new (x.read tell) (y.read tell);
}

-- ---- what one piece gives

pub scans-on : (tells : Type 0) (whole : Text) (size at : ℕ) (piece : Text) (old new : Places) (r : Result ℕ KvStop) → (tells → IsPiece whole size at piece) → IfOk r (λ next. (at ≤ next) × (next ≤ size) × IsFitting next new)
    → IfOk r (λ next. (w : Text) → IsPiece w size at piece → HasRead w at old next new) → IfOk r (λ next. IsScanned tells whole at old next size new)
scans-on tells whole size at piece old new (Ok next) is n read = record { on = n.0; inside = n.1; fitting = n.2; read = λ tell. read whole (is tell) }
scans-on tells whole size at piece old new (Err why) is n read = tt

-- A piece that does not reach the end is a whole one.
pub far-on : (size at len : ℕ) (r : Result ℕ KvStop) → at + len ≤ size → (at + len < size → len ≡ 65536) → IfOk r (λ next. next < size → at + len < next + 261) → IfOk r (λ next. at + len ≡ size → next ≡ size) → IfOk r (λ next. next < size → at + 65000 ≤ next)
far-on size at len (Err why) within whole far ends = tt
far-on size at len (Ok next) within whole far ends = λ less.
    elim (cases_lt (at + len) size) as (λ c. at + 65000 ≤ next) [
      | inl short ↦ (let f = far less in let w = whole short in omega (arith, f, w))
      | inr long ↦ (let same : at + len ≡ size = omega (arith, within, long) in let end = ends same in absurd (omega (arith, less, end)))
    ]

pub reads-most : {O : Type 0} (tells : Type 0) (a b : AgentSeen O) (x y : HandleSeen) (m n : ℕ) → m ≤ n → OnlyReads tells a b x y m → OnlyReads tells a b x y n
reads-most tells a b x y m n few r = reads-within tells a b x y m n (omega (arith, few, r.goes.entries)) r

pub open-later : {O : Type 0} (tells : Type 0) (a b c : AgentSeen O) (m : ℕ) (whole : Text) (why : KvStop) (row : ℕ) → GoesOn a b m → HasOpenCause tells b c row whole why → HasOpenCause tells a c row whole why
open-later tells a b c m whole (kv_stop.BadFile place) row goes h = h
open-later tells a b c m whole (kv_stop.Agent why) row goes h = caused-later a b c (IsOpening whole row) m why goes h
open-later tells a b c m whole (kv_stop.Full long need) row goes h = h

-- ---- a piece more

pub record IsMore {O : Type 0} (tells : Type 0) (a b : AgentSeen O) (x y : HandleSeen) (size next : ℕ) (index : Places) : Type 0 where
  pub reads : OnlyReads tells a b x y 260
  pub count : 65000 * b.entries ≤ 65000 * a.entries + next + 65000
  pub ahead : next < size → 65000 * b.entries ≤ 65000 * a.entries + next
  pub scanned : IsScanned tells (file_bytes a x) 0 [] next size index

pub scan-more : {O : Type 0} (tells : Type 0) (a b c : AgentSeen O) (x y z : HandleSeen) (size at next : ℕ) (mid new : Places) → size ≤ 16777216 → OnlyReads tells a b x y 260 → 65000 * b.entries ≤ 65000 * a.entries + at + 65000
    → 65000 * b.entries ≤ 65000 * a.entries + at → IsScanned tells (file_bytes a x) 0 [] at size mid → OnlyReads tells b c y z 1 → IsScanned tells (file_bytes b y) at mid next size new → (next < size → at + 65000 ≤ next)
    → IsMore tells a c x z size next new
scan-more tells a b c x y z size at next mid new small first counted ahead scanned second piece far =
    let more : c.entries ≤ b.entries + 1 = second.goes.entries in
    let count : 65000 * c.entries ≤ 65000 * a.entries + next + 65000 = omega (arith, ahead, more, piece.on) in
    let inside : next ≤ size = piece.inside in
    record {
      reads = reads-within tells a c x z 261 260 (omega (arith, count, inside, small)) (reads-then tells a b c x y z 260 1 first second);
      count = count;
      ahead = λ less. let f = far less in omega (arith, ahead, more, f);
      scanned = scanned-then tells (file_bytes a x) size at next [] mid new scanned (subst (λ (t : Text). IsScanned tells t at mid next size new) first.bytes piece);
    }
