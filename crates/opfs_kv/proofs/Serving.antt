-- What calls on an access handle leave of a key-value file.
use Rattle.std.proofs.Common.{◌≡◌, Result, Ok, Err, OnOk, OnErr, ℕ, ◌+◌, ◌≤◌, Bool, true, false, List, ◌++◌, length, map, take, Some, None, refl, sym, ap, subst, ◌∙◌, arith}
use Rattle.std.specs.List.{AllByRecursion}
use Rattle.std.specs.List.Sorted.{IsStrictlySortedBy}
use Rattle.std.specs.Map.{keys_of}
use Rattle.opfs_base.specs.Places.{place_of}
use Rattle.opfs_base.specs.Texts.{Text}
use Rattle.opfs_turns.specs.Asking.Rows.{HandleSeen}
use Rattle.opfs_kv.specs.Records.Indexes.{IsFitting, Places, indexed, read_out}
use Rattle.opfs_kv.specs.Records.Maps.{Map, key_cmp, with_key, without_key}
use Rattle.opfs_kv.specs.Records.Records.{IsKey, IsRecord, IsValue, Record, after_all, log_of, put_of, spelled_by}
use Rattle.opfs_splice.specs.Splicing.{resize, splice, window}
use Rattle.opfs_sync_files.specs.Entries.{GoesOn}
use Rattle.opfs_sync_files.specs.Files.{file_bytes, stored_of}
use Rattle.opfs_sync_files.specs.Still.{NoBytes, IsStill}
use Rattle.opfs_sync_files.proofs.Faulted.{doubts-may, doubts-next, doubts-none}
use Rattle.opfs_sync_files.proofs.Knowing.{goes-most, goes-none, goes-then}
use Rattle.opfs_sync_files.proofs.Resting.{rest-next, rest-none}
use Rattle.opfs_turns.specs.Agents.{AgentSeen}
use Rattle.opfs_kv.specs.Keeping.{Keeps, Spells}
use Rattle.opfs_kv.specs.Packing.{IsAnewFor, IsReadied}
use Rattle.opfs_kv.specs.Seen.{DoubtsSpell, KvSeen, Serves, Stands, live_bytes, map_in}
use Rattle.opfs_kv.proofs.Kept.{all-live, cut-keeps, cut-map, many-front, many-keeps, many-reads, more-keeps, more-reads, packed-front, packed-keeps, packed-reads, same-front, tail-keeps, tail-map}

-- ---- one after another

pub serves-most : {O : Type 0} (tells : Type 0) (a b : AgentSeen O) (x y : KvSeen) (m n : ℕ) (d : Map) → m ≤ n → Serves tells a b x y m d → Serves tells a b x y n d
serves-most tells a b x y m n d few s = record { stands = s.stands; row = s.row; file = s.file; setting = s.setting; goes = goes-most a b m n few s.goes; others = s.others; map = s.map; stored = s.stored; doubts = s.doubts }

-- A call that serves a file on the map that an earlier one left.
pub serves-then : {O : Type 0} (tells : Type 0) (a b c : AgentSeen O) (x y z : KvSeen) (m n : ℕ) (change : Map → Map) → Serves tells a b x y m (map_in a x) → Serves tells b c y z n (change (map_in b y))
    → Serves tells a c x z (m + n) (change (map_in a x))
serves-then tells a b c x y z m n change s t = record {
  stands = t.stands;
  row = t.row ∙ s.row;
  file = t.file ∙ s.file;
  setting = t.setting ∙ s.setting;
  goes = goes-then a b c m n s.goes t.goes;
  others = rest-next tells a b c x.handle.row y.handle.row s.row s.others t.others;
  map = λ tell. t.map tell ∙ ap change (s.map tell);
  stored = t.stored ∙ s.stored;
  doubts = λ tell. doubts-next a b c x.handle y.handle (λ (bytes : Text). Spells bytes (map_in a x)) t.goes.newer s.goes.opening_is s.file t.goes.grown (s.doubts tell) (subst (DoubtsSpell b c y) (s.map tell) (t.doubts tell)) s.stored;
}

-- Nothing was done.
pub serves-none : {O : Type 0} (tells : Type 0) (a : AgentSeen O) (x : KvSeen) (n : ℕ) → Stands tells a x → Serves tells a a x x n (map_in a x)
serves-none tells a x n stands = record { stands = stands; row = refl; file = refl; setting = refl; goes = goes-most a a 0 n (omega arith) (goes-none a); others = rest-none tells a x.handle.row; map = λ tell. refl; stored = refl; doubts = λ tell. doubts-none a.opening a.pass.base a.pass.base (place_of x.handle.file) (λ (bytes : Text). Spells bytes (map_in a x)) refl }

-- The number of entries of one call, whatever it answered.
pub served-goes : {O E T : Type 0} (tells : Type 0) (a b : AgentSeen O) (x y : KvSeen) (n : ℕ) (d e : Map) (r : Result T E) → OnOk r (Serves tells a b x y n d) → OnErr r (Serves tells a b x y n e) → GoesOn a b n
served-goes tells a b x y n d e (Ok v) done left = done.goes
served-goes tells a b x y n d e (Err v) done left = left.goes

-- One call behind none, and none.
pub once-then : {O : Type 0} (a b c : AgentSeen O) → b ≡ a → GoesOn b c 1 → GoesOn a c 1
once-then {O} a b c is goes = subst (λ (x : AgentSeen O). GoesOn x c 1) is goes

pub once-none : {O : Type 0} (a b : AgentSeen O) → b ≡ a → GoesOn a b 1
once-none {O} a b is = subst (λ (x : AgentSeen O). GoesOn a x 1) (sym is) (goes-most a a 0 1 (omega arith) (goes-none a))

-- The live bytes by another number of them.
pub front-then : {O : Type 0} (a b : AgentSeen O) (x y : KvSeen) → y.live ≡ x.live → take x.live (file_bytes b y.handle) ≡ take x.live (file_bytes a x.handle) → live_bytes b y ≡ live_bytes a x
front-then a b x y live front = ap (λ (n : ℕ). take n (file_bytes b y.handle)) live ∙ front

pub readied-then : (old live : ℕ) (before index : Places) (records : List Record) (bytes : Text) (made : Places) (end : ℕ) → live ≡ old → index ≡ before → IsReadied old before records bytes made end → IsReadied live index records bytes made end
readied-then old live before index records bytes made end live_is index_is r =
    subst (λ (n : ℕ). IsReadied n index records bytes made end) (sym live_is) (subst (λ (i : Places). IsReadied old i records bytes made end) (sym index_is) r)

-- A whole file is read.
pub read-whole : {O : Type 0} (tells : Type 0) (a : AgentSeen O) (kv : KvSeen) (stands : Stands tells a kv) → kv.tail ≡ false → window (file_bytes a kv.handle) 0 kv.live ≡ file_bytes a kv.handle
read-whole tells a kv stands none = all-live tells (file_bytes a kv.handle) kv.live kv.tail kv.index stands.keeps none

-- Without a tail the live bytes are all, whatever their number was called before.
pub all-cut : {O : Type 0} (tells : Type 0) (a : AgentSeen O) (kv : KvSeen) (stands : Stands tells a kv) → kv.tail ≡ false → (live : ℕ) → kv.live ≡ live → file_bytes a kv.handle ≡ take live (file_bytes a kv.handle)
all-cut tells a kv stands none live is = sym (all-live tells (file_bytes a kv.handle) kv.live kv.tail kv.index stands.keeps none) ∙ ap (λ n. take n (file_bytes a kv.handle)) is

-- ---- one call

module _ {O : Type 0} (tells : Type 0) (a b : AgentSeen O) (kv : KvSeen) (stands : Stands tells a kv) (h : HandleSeen) (May : Text → Type 0) (still : IsStill tells a b kv.handle h May) (stored : stored_of b h ≡ stored_of a kv.handle)
    (may : tells → (bytes : Text) → May bytes → Spells bytes (map_in a kv)) where
  pub kept-serves : (live : ℕ) (tail : Bool) (index : Places) (m : Map) → Keeps tells (file_bytes b h) live tail index → (tells → read_out (file_bytes b h) index ≡ m)
      → Serves tells a b kv (record { handle = h; live = live; tail = tail; index = index; tidying = kv.tidying }) 1 m
  kept-serves live tail index m keeps reads = record {
    stands = record { has = still.has; writes = still.mode_is ∙ stands.writes; keeps = keeps };
    row = still.row;
    file = still.file;
    setting = refl;
    goes = still.goes;
    others = still.others;
    map = reads;
    stored = stored;
    doubts = λ tell. doubts-may a.opening a.pass.base b.pass.base (place_of kv.handle.file) May (λ (bytes : Text). Spells bytes (map_in a kv)) (may tell) (still.doubts tell);
  }

-- The same of a call that stores nothing.
module _ {O : Type 0} (tells : Type 0) (a b : AgentSeen O) (kv : KvSeen) (stands : Stands tells a kv) (h : HandleSeen) (still : IsStill tells a b kv.handle h NoBytes) (stored : stored_of b h ≡ stored_of a kv.handle) where
  abbrev old : Text
  old = file_bytes a kv.handle

  abbrev new : Text
  new = file_bytes b h

  keeps-serves : (live : ℕ) (tail : Bool) (index : Places) (m : Map) → Keeps tells new live tail index → (tells → read_out new index ≡ m)
      → Serves tells a b kv (record { handle = h; live = live; tail = tail; index = index; tidying = kv.tidying }) 1 m
  keeps-serves live tail index m keeps reads = kept-serves tells a b kv stands h NoBytes still stored (λ tell bytes no. absurd no) live tail index m keeps reads

  pub still-serves : file_bytes b h ≡ file_bytes a kv.handle → Serves tells a b kv (record { handle = h; live = kv.live; tail = kv.tail; index = kv.index; tidying = kv.tidying }) 1 (map_in a kv)
  still-serves same =
      keeps-serves kv.live kv.tail kv.index (map_in a kv) (subst (λ (t : Text). Keeps tells t kv.live kv.tail kv.index) (sym same) stands.keeps)
      (λ tell. ap (λ (t : Text). read_out t kv.index) same)

  pub cut-serves : file_bytes b h ≡ resize (file_bytes a kv.handle) kv.live → Serves tells a b kv (record { handle = h; live = kv.live; tail = false; index = kv.index; tidying = kv.tidying }) 1 (map_in a kv)
  cut-serves is =
      keeps-serves kv.live false kv.index (map_in a kv) (cut-keeps tells old kv.live kv.tail kv.index stands.keeps new is) (cut-map tells old kv.live kv.tail kv.index stands.keeps new is)

  pub cut-front : file_bytes b h ≡ resize (file_bytes a kv.handle) kv.live → take kv.live (file_bytes b h) ≡ take kv.live (file_bytes a kv.handle)
  cut-front is = same-front tells old kv.live kv.tail kv.index stands.keeps new is

  pub tail-serves : (none : kv.tail ≡ false) (more : Text) → file_bytes b h ≡ splice (file_bytes a kv.handle) kv.live more → Serves tells a b kv (record { handle = h; live = kv.live; tail = true; index = kv.index; tidying = kv.tidying }) 1 (map_in a kv)
  tail-serves none more is =
      keeps-serves kv.live true kv.index (map_in a kv) (tail-keeps tells old kv.live kv.tail kv.index stands.keeps none more new is) (tail-map tells old kv.live kv.tail kv.index stands.keeps none more new is)

  pub put-serves : (none : kv.tail ≡ false) (key value : Text) → IsKey key → IsValue value → kv.live + (6 + length key + length value) ≤ 16777216
      → file_bytes b h ≡ splice (file_bytes a kv.handle) kv.live (spelled_by key (Some value)) → (at len live : ℕ) → at ≡ kv.live + (6 + length key) → len ≡ length value → live ≡ kv.live + (6 + length key + length value)
      → Serves tells a b kv (record { handle = h; live = live; tail = kv.tail; index = with_key kv.index key (record { at = at; len = len }); tidying = kv.tidying }) 1 (with_key (map_in a kv) key value)
  put-serves none key value good small fits is at len live at_is len_is live_is =
      let keeps = more-keeps tells old kv.live kv.tail kv.index stands.keeps none key (Some value) (good, small) new is fits in
      let reads = more-reads tells old kv.live kv.tail kv.index stands.keeps none key (Some value) (good, small) new is fits in
      subst (λ (t : Bool). Serves tells a b kv (record { handle = h; live = live; tail = t; index = with_key kv.index key (record { at = at; len = len }); tidying = kv.tidying }) 1 (with_key (map_in a kv) key value)) (sym none)
      (subst (λ (n : ℕ). Serves tells a b kv (record { handle = h; live = n; tail = false; index = with_key kv.index key (record { at = at; len = len }); tidying = kv.tidying }) 1 (with_key (map_in a kv) key value)) (sym live_is)
      (subst (λ (n : ℕ). Serves tells a b kv (record { handle = h; live = kv.live + (6 + length key + length value); tail = false; index = with_key kv.index key (record { at = n; len = len }); tidying = kv.tidying }) 1 (with_key (map_in a kv) key value)) (sym at_is)
      (subst (λ (n : ℕ). Serves tells a b kv (record { handle = h; live = kv.live + (6 + length key + length value); tail = false; index = with_key kv.index key (record { at = kv.live + (6 + length key); len = n }); tidying = kv.tidying }) 1 (with_key (map_in a kv) key value)) (sym len_is)
      (keeps-serves (kv.live + (6 + length key + length value)) false (with_key kv.index key (record { at = kv.live + (6 + length key); len = length value })) (with_key (map_in a kv) key value) keeps reads))))

  pub gone-serves : (none : kv.tail ≡ false) (key : Text) → IsKey key → kv.live + (2 + length key) ≤ 16777216
      → file_bytes b h ≡ splice (file_bytes a kv.handle) kv.live (spelled_by key None) → (live : ℕ) → live ≡ kv.live + (2 + length key)
      → Serves tells a b kv (record { handle = h; live = live; tail = kv.tail; index = without_key kv.index key; tidying = kv.tidying }) 1 (without_key (map_in a kv) key)
  gone-serves none key good fits is live live_is =
      let keeps = more-keeps tells old kv.live kv.tail kv.index stands.keeps none key None (good, tt) new is fits in
      let reads = more-reads tells old kv.live kv.tail kv.index stands.keeps none key None (good, tt) new is fits in
      subst (λ (t : Bool). Serves tells a b kv (record { handle = h; live = live; tail = t; index = without_key kv.index key; tidying = kv.tidying }) 1 (without_key (map_in a kv) key)) (sym none)
      (subst (λ (n : ℕ). Serves tells a b kv (record { handle = h; live = n; tail = false; index = without_key kv.index key; tidying = kv.tidying }) 1 (without_key (map_in a kv) key)) (sym live_is)
      (keeps-serves (kv.live + (2 + length key)) false (without_key kv.index key) (without_key (map_in a kv) key) keeps reads))

  -- ---- several records more

  module _ (none : kv.tail ≡ false) (records : List Record) (good : AllByRecursion IsRecord records) (fits : kv.live + length (log_of records) ≤ 16777216)
      (is : file_bytes b h ≡ splice (file_bytes a kv.handle) kv.live (log_of records)) (index : Places) (live : ℕ) (index_is : index ≡ indexed kv.live records kv.index) (live_is : live ≡ kv.live + length (log_of records)) where
    pub many-serves : Serves tells a b kv (record { handle = h; live = live; tail = kv.tail; index = index; tidying = kv.tidying }) 1 (after_all (map_in a kv) records)
    many-serves =
        subst (λ (t : Bool). Serves tells a b kv (record { handle = h; live = live; tail = t; index = index; tidying = kv.tidying }) 1 (after_all (map_in a kv) records)) (sym none)
        (subst (λ (n : ℕ). Serves tells a b kv (record { handle = h; live = n; tail = false; index = index; tidying = kv.tidying }) 1 (after_all (map_in a kv) records)) (sym live_is)
        (subst (λ (i : Places). Serves tells a b kv (record { handle = h; live = kv.live + length (log_of records); tail = false; index = i; tidying = kv.tidying }) 1 (after_all (map_in a kv) records)) (sym index_is)
        (keeps-serves (kv.live + length (log_of records)) false (indexed kv.live records kv.index) (after_all (map_in a kv) records)
        (many-keeps tells old kv.live kv.tail kv.index stands.keeps none records good new is fits)
        (many-reads tells old kv.live kv.tail kv.index stands.keeps none records good new is fits))))

    pub many-written : take live (file_bytes b h) ≡ take kv.live (file_bytes a kv.handle) ++ log_of records
    many-written = ap (λ (n : ℕ). take n new) live_is ∙ many-front tells old kv.live kv.tail kv.index stands.keeps none records good new is fits

  -- ---- written anew

  module _ (none : kv.tail ≡ false) (packed : Text) (len : ℕ) (made : Places) (anew : IsAnewFor tells (file_bytes a kv.handle) kv.index packed len made) (sorted : IsStrictlySortedBy key_cmp (keys_of kv.index))
      (is : file_bytes b h ≡ splice (file_bytes a kv.handle) 0 packed) where
    short : length packed ≤ kv.live
    short = omega (arith, anew.anew.long, anew.anew.short, stands.keeps.fitting.fits)

    pub anew-serves : (tail : Bool) → (tail ≡ false → len ≡ kv.live) → Serves tells a b kv (record { handle = h; live = len; tail = tail; index = made; tidying = kv.tidying }) 1 (map_in a kv)
    anew-serves tail all =
        let n = anew.anew in
        let fitting = subst (λ (k : ℕ). IsFitting k made) (sym n.long) n.fitting in
        subst (λ (k : ℕ). Serves tells a b kv (record { handle = h; live = k; tail = tail; index = made; tidying = kv.tidying }) 1 (map_in a kv)) n.long
        (keeps-serves (length packed) tail made (map_in a kv)
        (packed-keeps tells old kv.live kv.tail kv.index stands.keeps none anew.read packed made anew.told short fitting n.are n.made_is sorted new is tail (λ h. n.long ∙ all h))
        (packed-reads tells old kv.live kv.tail kv.index stands.keeps none anew.read packed made anew.told short fitting n.are n.made_is sorted new is))

    pub anew-front : tells → take len (file_bytes b h) ≡ log_of (map put_of (map_in a kv))
    anew-front tell =
        let n = anew.anew in
        let fitting = subst (λ (k : ℕ). IsFitting k made) (sym n.long) n.fitting in
        ap (λ (k : ℕ). take k new) (sym n.long)
        ∙ packed-front tells old kv.live kv.tail kv.index stands.keeps none anew.read packed made anew.told short fitting n.are n.made_is sorted new is
        ∙ n.are
        ∙ ap (λ (t : Text). log_of (map put_of (read_out t kv.index))) (anew.told tell)
