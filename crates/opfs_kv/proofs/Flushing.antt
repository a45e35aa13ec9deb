-- A key-value file that is stored, or closed.
use Rattle.std.proofs.Common.{◌≡◌, ℕ, ◌+◌, ◌≤◌, false, List, [], ◌∷◌, ◌++◌, Result, Ok, Err, IfErr, IfOk, OnErr, OnOk, sym, ap, subst, ◌∙◌}
use Rattle.opfs_base.specs.Places.{place_of}
use Rattle.opfs_base.specs.Texts.{Text}
use Rattle.opfs_turns.specs.Asking.Rows.{HandleSeen, HasClosedHandle}
use Rattle.opfs_turns.specs.declared.asking.stop.Stop.{Stop}
use Rattle.opfs_agent.specs.declared.handle_calls.handle.ClosedSync.{ClosedSync}
use Rattle.opfs_kv.specs.Records.Indexes.{read_out}
use Rattle.opfs_kv.specs.Records.Maps.{Map}
use Rattle.opfs_machine.specs.Changes.{changes}
use Rattle.opfs_sync_files.specs.Doubts.{DoubtsStore}
use Rattle.opfs_sync_files.specs.Entries.{GoesOn}
use Rattle.opfs_sync_files.specs.Files.{contents_at, file_bytes, flushed_by, stored_of}
use Rattle.opfs_sync_files.specs.Still.{TheBytes, IsStill}
use Rattle.opfs_sync_files.proofs.Faulted.{doubts-may, doubts-next}
use Rattle.opfs_sync_files.specs.Resting.{LeavesRest}
use Rattle.opfs_sync_files.proofs.Knowing.{goes-most, goes-then}
use Rattle.opfs_sync_files.proofs.Resting.{rest-next}
use Rattle.opfs_turns.specs.Agents.{AgentSeen}
use Rattle.opfs_kv.specs.Keeping.{Keeps, Spells}
use Rattle.opfs_kv.specs.Opening.{OnlyReads}
use Rattle.opfs_kv.specs.Seen.{Closes, DoubtsSpell, Flushes, KvSeen, Serves, Stands, map_in, seen}
use Rattle.opfs_kv.specs.declared.notes.Notes.{Notes}
use Rattle.opfs_hist.specs.declared.op.Mode.{Mode}
use Rattle.opfs_hist.specs.declared.op.Mode.TheVariants as mode
use Rattle.opfs_kv.proofs.Kept.{spells-map}
use Rattle.opfs_kv.proofs.Serving.{kept-serves, serves-then}

-- A flush or a close that is refused leaves a file without a tail as it is.
pub left-one : {O : Type 0} (tells : Type 0) (b c : AgentSeen O) (y : KvSeen) (stands : Stands tells b y) → y.tail ≡ false → (h : HandleSeen) → IsStill tells b c y.handle h (TheBytes (file_bytes b y.handle))
    → file_bytes c h ≡ file_bytes b y.handle → stored_of c h ≡ stored_of b y.handle → Serves tells b c y (record { handle = h; live = y.live; tail = y.tail; index = y.index; tidying = y.tidying }) 1 (map_in b y)
left-one tells b c y stands none h still same stored =
    kept-serves tells b c y stands h (TheBytes (file_bytes b y.handle)) still stored
    (λ tell bytes is. subst (λ (t : Text). Spells t (map_in b y)) (sym is) (spells-map tells (file_bytes b y.handle) y.live y.tail y.index stands.keeps none tell))
    y.live y.tail y.index (map_in b y) (subst (λ (t : Text). Keeps tells t y.live y.tail y.index) (sym same) stands.keeps) (λ tell. ap (λ (t : Text). read_out t y.index) same)

module _ {O : Type 0} (tells : Type 0) (a b : AgentSeen O) (x y : KvSeen) (s : Serves tells a b x y 1 (map_in a x)) (none : y.tail ≡ false) where
  -- Its bytes are records that stand for the map.
  spelled-now : tells → Spells (file_bytes b y.handle) (map_in a x)
  spelled-now tell = subst (λ (m : Map). Spells (file_bytes b y.handle) m) (s.map tell) (spells-map tells (file_bytes b y.handle) y.live y.tail y.index s.stands.keeps none tell)

  module _ (c : AgentSeen O) where
    pub flushes-then : (h : HandleSeen) → IsStill tells b c y.handle h (TheBytes (file_bytes b y.handle)) → file_bytes c h ≡ file_bytes b y.handle → stored_of c h ≡ stored_of b y.handle ++ flushed_by y.handle.mode (file_bytes b y.handle)
        → Flushes tells a c x (record { handle = h; live = y.live; tail = y.tail; index = y.index; tidying = y.tidying }) 2 (map_in a x)
    flushes-then h still same stored = record {
      stands = record { has = still.has; writes = still.mode_is ∙ s.stands.writes; keeps = subst (λ (t : Text). Keeps tells t y.live y.tail y.index) (sym same) s.stands.keeps };
      row = still.row ∙ s.row;
      file = still.file ∙ s.file;
      setting = s.setting;
      goes = goes-then a b c 1 1 s.goes still.goes;
      others = rest-next tells a b c x.handle.row y.handle.row s.row s.others still.others;
      map = λ tell. ap (λ (t : Text). read_out t y.index) same ∙ s.map tell;
      stored = stored ∙ (λ i. s.stored i ++ flushed_by (s.stands.writes i) (sym same i));
      spells = λ tell. subst (λ (t : Text). Spells t (map_in a x)) (sym same) (spelled-now tell);
      doubts = λ tell. doubts-next a b c x.handle y.handle (λ (bytes : Text). Spells bytes (map_in a x)) still.goes.newer s.goes.opening_is s.file still.goes.grown (s.doubts tell)
          (doubts-may b.opening b.pass.base c.pass.base (place_of y.handle.file) (TheBytes (file_bytes b y.handle)) (λ (bytes : Text). Spells bytes (map_in a x)) (λ bytes is. subst (λ (t : Text). Spells t (map_in a x)) (sym is) (spelled-now tell)) (still.doubts tell))
          s.stored;
    }

    pub flush-left : (h : HandleSeen) → IsStill tells b c y.handle h (TheBytes (file_bytes b y.handle)) → file_bytes c h ≡ file_bytes b y.handle → stored_of c h ≡ stored_of b y.handle
        → Serves tells a c x (record { handle = h; live = y.live; tail = y.tail; index = y.index; tidying = y.tidying }) 2 (map_in a x)
    flush-left h still same stored =
        serves-then tells a b c x y (record { handle = h; live = y.live; tail = y.tail; index = y.index; tidying = y.tidying }) 1 1 (λ (m : Map). m) s (left-one tells b c y s.stands none h still same stored)

-- The same agent and handle, the same bytes.
pub bytes-by : {O : Type 0} (a b : AgentSeen O) (x y : HandleSeen) → (b ≡ a) × (y ≡ x) → file_bytes b y ≡ file_bytes a x
bytes-by a b x y same i = file_bytes (same.0 i) (same.1 i)

-- A flush behind calls that left the map.
pub flushes-after : {O : Type 0} (tells : Type 0) (a b c : AgentSeen O) (x y z : KvSeen) (m n : ℕ) → Serves tells a b x y m (map_in a x) → Flushes tells b c y z n (map_in b y) → Flushes tells a c x z (m + n) (map_in a x)
flushes-after tells a b c x y z m n s t = record {
  stands = t.stands;
  row = t.row ∙ s.row;
  file = t.file ∙ s.file;
  setting = t.setting ∙ s.setting;
  goes = goes-then a b c m n s.goes t.goes;
  others = rest-next tells a b c x.handle.row y.handle.row s.row s.others t.others;
  map = λ tell. t.map tell ∙ s.map tell;
  stored = t.stored ∙ ap (λ (ts : List Text). ts ++ file_bytes c z.handle ∷ []) s.stored;
  spells = λ tell. subst (λ (m : Map). Spells (file_bytes c z.handle) m) (s.map tell) (t.spells tell);
  doubts = λ tell. doubts-next a b c x.handle y.handle (λ (bytes : Text). Spells bytes (map_in a x)) t.goes.newer s.goes.opening_is s.file t.goes.grown (s.doubts tell) (subst (DoubtsSpell b c y) (s.map tell) (t.doubts tell)) s.stored;
}

pub flushes-most : {O : Type 0} (tells : Type 0) (a b : AgentSeen O) (x y : KvSeen) (m n : ℕ) (d : Map) → m ≤ n → Flushes tells a b x y m d → Flushes tells a b x y n d
flushes-most tells a b x y m n d few s = record { stands = s.stands; row = s.row; file = s.file; setting = s.setting; goes = goes-most a b m n few s.goes; others = s.others; map = s.map; stored = s.stored; spells = s.spells; doubts = s.doubts }

-- A file without a tail is closed.
pub closes-one : {O : Type 0} (tells : Type 0) (b c : AgentSeen O) (y : KvSeen) (stands : Stands tells b y) → y.tail ≡ false → (row : ℕ) → (row ≡ y.handle.row) × HasClosedHandle c row → GoesOn b c 1 → LeavesRest tells b c y.handle.row
    → stored_of c y.handle ≡ stored_of b y.handle ++ flushed_by y.handle.mode (file_bytes b y.handle) → (tells → DoubtsStore b.opening b.pass.base c.pass.base (place_of y.handle.file) (TheBytes (file_bytes b y.handle))) → Closes tells b c y (row) 1 (map_in b y)
closes-one tells b c y stands none row closed goes others stored doubts = record {
  same = closed.0;
  closed = closed.1;
  goes = goes;
  others = others;
  bytes = file_bytes b y.handle;
  stored = stored ∙ ap (λ (m : Mode). stored_of b y.handle ++ flushed_by m (file_bytes b y.handle)) stands.writes;
  spells = spells-map tells (file_bytes b y.handle) y.live y.tail y.index stands.keeps none;
  doubts = λ tell. doubts-may b.opening b.pass.base c.pass.base (place_of y.handle.file) (TheBytes (file_bytes b y.handle)) (λ (bytes : Text). Spells bytes (map_in b y))
      (λ bytes is. subst (λ (t : Text). Spells t (map_in b y)) (sym is) (spells-map tells (file_bytes b y.handle) y.live y.tail y.index stands.keeps none tell)) (doubts tell);
}

pub closes-later : {O : Type 0} (tells : Type 0) (a b c : AgentSeen O) (x y : KvSeen) (row : ℕ) → Serves tells a b x y 1 (map_in a x) → Closes tells b c y (row) 1 (map_in b y) → Closes tells a c x (row) 2 (map_in a x)
closes-later tells a b c x y row s t = record {
  same = t.same ∙ s.row;
  closed = t.closed;
  goes = goes-then a b c 1 1 s.goes t.goes;
  others = rest-next tells a b c x.handle.row y.handle.row s.row s.others t.others;
  bytes = t.bytes;
  stored = ap (λ l. contents_at (place_of l) (changes c.opening c.pass.base)) (sym s.file) ∙ t.stored ∙ ap (λ (ts : List Text). ts ++ t.bytes ∷ []) s.stored;
  spells = λ tell. subst (λ (m : Map). Spells t.bytes m) (s.map tell) (t.spells tell);
  doubts = λ tell. doubts-next a b c x.handle y.handle (λ (bytes : Text). Spells bytes (map_in a x)) t.goes.newer s.goes.opening_is s.file t.goes.grown (s.doubts tell) (subst (DoubtsSpell b c y) (s.map tell) (t.doubts tell)) s.stored;
}

-- ---- opened

pub opened-stands : {O : Type 0} (tells : Type 0) (a b : AgentSeen O) (x y : HandleSeen) (notes : Notes) → OnlyReads tells a b x y 261 → x.mode ≡ mode.ReadWrite → Keeps tells (file_bytes a x) notes.live notes.tail notes.index → Stands tells b (seen y notes)
opened-stands tells a b x y notes reads writes keeps = record { has = reads.has; writes = reads.mode_is ∙ writes; keeps = subst (λ (t : Text). Keeps tells t notes.live notes.tail notes.index) (sym reads.bytes) keeps }

pub opened-spells : {O : Type 0} (tells : Type 0) (a b : AgentSeen O) (x y : HandleSeen) (notes : Notes) → OnlyReads tells a b x y 261 → Keeps tells (file_bytes a x) notes.live notes.tail notes.index → notes.tail ≡ false → tells → Spells (file_bytes a x) (map_in b (seen y notes))
opened-spells tells a b x y notes reads keeps none tell =
    subst (λ (t : Text). Spells (file_bytes a x) (read_out t notes.index)) (sym reads.bytes) (spells-map tells (file_bytes a x) notes.live notes.tail notes.index keeps none tell)

-- ---- whatever a call answered, the agent's other rows are as they were

module _ {O E T : Type 0} (tells : Type 0) (a b : AgentSeen O) (x y : KvSeen) (n : ℕ) (d e : Map) where
  pub served-rest : (r : Result T E) → OnOk r (Serves tells a b x y n d) → OnErr r (Serves tells a b x y n e) → LeavesRest tells a b x.handle.row
  served-rest (Ok v) done left = done.others
  served-rest (Err v) done left = left.others

  pub flushed-goes : (r : Result T E) → OnOk r (Flushes tells a b x y n d) → OnErr r (Serves tells a b x y n e) → GoesOn a b n
  flushed-goes (Ok v) done left = done.goes
  flushed-goes (Err v) done left = left.goes

  pub flushed-rest : (r : Result T E) → OnOk r (Flushes tells a b x y n d) → OnErr r (Serves tells a b x y n e) → LeavesRest tells a b x.handle.row
  flushed-rest (Ok v) done left = done.others
  flushed-rest (Err v) done left = left.others

pub closed-rest : {O : Type 0} (tells : Type 0) (a b : AgentSeen O) (x : KvSeen) (n : ℕ) (d : Map) (r : Result ClosedSync (KvSeen × Stop)) → IfOk r (λ closed. Closes tells a b x (closed.row) n d) → IfErr r (λ back. Serves tells a b x back.0 n d)
    → LeavesRest tells a b x.handle.row
closed-rest tells a b x n d (Ok closed) done back = done.others
closed-rest tells a b x n d (Err e) done back = back.others
