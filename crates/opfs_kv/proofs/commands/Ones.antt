-- One command with its reply.
use Rattle.std.proofs.Common.{◌≡◌, ◌≢◌, ℕ, ◌+◌, ◌<◌, Bool, false, [], append-nil, length, Option, Some, None, Result, Ok, Err, refl, sym, ap, subst, ◌∙◌}
use Rattle.std.specs.Prelude.{is_some}
use Rattle.opfs_base.specs.Texts.{Text}
use Rattle.opfs_kv.specs.Records.Maps.{Map, found, with_key, without_key}
use Rattle.opfs_sync_files.specs.Entries.{GoesOn}
use Rattle.opfs_turns.specs.Agents.{AgentSeen}
use Rattle.opfs_kv.specs.Asked.{IsAppend, IsCutOr, IsFlush, IsGet, IsRepack}
use Rattle.opfs_kv.specs.Records.Records.{spelled_by}
use Rattle.opfs_kv.specs.Calls.{HasCause, HasPlainCause}
use Rattle.opfs_kv.specs.Seen.{Flushes, KvSeen, Serves, map_in, stored_in}
use Rattle.opfs_kv.specs.declared.stop.KvStop.{KvStop}
use Rattle.opfs_kv.specs.declared.stop.KvStop.TheVariants as kv_stop
use Rattle.opfs_kv.specs.Commands.Runs.{AreStoredBy, GrowsLive, IsAsked, IsCausedReply, IsReply, IsRun, LacksRoom, after_op, entries_of, need_of, stores}
use Rattle.opfs_kv.specs.declared.commands.commands.KvOp.{KvOp}
use Rattle.opfs_kv.specs.declared.commands.commands.KvOp.TheVariants as op
use Rattle.opfs_kv.specs.declared.commands.commands.KvReply.{KvReply}
use Rattle.opfs_kv.specs.declared.commands.commands.KvReply.TheVariants as kv_reply

-- ---- answers of calls

not-both : {T : Type 0} (v : T) (e : KvStop) → ◌≡◌ {A = Result T KvStop} (Ok v) (Err e) → ⊥
not-both v e is = cc

as-reply : (T : Type 0) (d e : KvStop) → ◌≡◌ {A = Result T KvStop} (Err d) (Err e) → kv_reply.No d ≡ kv_reply.No e
as-reply T d e is = ap by is
  where
    by : Result T KvStop → KvReply
    by (Ok v) = kv_reply.Done
    by (Err f) = kv_reply.No f

module _ {O : Type 0} (tells : Type 0) (a b : AgentSeen O) (x y : KvSeen) where
  -- ---- why it was refused

  plain-cause : (called : KvOp) (why : KvStop) → HasPlainCause a b (IsAsked tells a x called) why → IsCausedReply tells a b x called (kv_reply.No why)
  plain-cause called (kv_stop.Agent why) h = h
  plain-cause called (kv_stop.Full live need) h = absurd h
  plain-cause called (kv_stop.BadFile place) h = absurd h

  room-cause : (called : KvOp) (why : KvStop) → (16777216 < x.live + need_of called → LacksRoom x called) → HasCause a b (IsAsked tells a x called) x.live (need_of called) why → IsCausedReply tells a b x called (kv_reply.No why)
  room-cause called (kv_stop.Agent why) lacks h = h
  room-cause called (kv_stop.Full long need) lacks h = (h.0, h.1, lacks h.2)
  room-cause called (kv_stop.BadFile place) lacks h = absurd h

  -- ---- what it was

  served : (called : KvOp) (answered : KvReply) (n : ℕ) (m : Map) → Serves tells a b x y n m → n ≡ entries_of called → m ≡ after_op (map_in a x) called answered → stores called answered ≡ false
      → (tells → IsReply (map_in a x) called answered) → GrowsLive x y called answered → (LacksRoom x called → answered ≡ kv_reply.No (kv_stop.Full x.live (need_of called))) → IsCausedReply tells a b x called answered → IsRun tells a b x y called answered
  served called answered n m s few map_is none told live full cause = record {
    stands = s.stands;
    row = s.row;
    file = s.file;
    setting = s.setting;
    goes = subst (GoesOn a b) few s.goes;
    others = s.others;
    told = told;
    map = λ tell. s.map tell ∙ map_is;
    texts = [];
    stored = s.stored ∙ sym (append-nil (stored_in a x));
    are = λ tell. subst (λ (z : Bool). AreStoredBy z (after_op (map_in a x) called answered) [] (λ rest. rest ≡ [])) (sym none) refl;
    live = live;
    full = full;
    cause = cause;
    doubts = s.doubts;
  }

  pub got : (key : Text) (value : Option Text) → Serves tells a b x y 1 (map_in a x) → (tells → value ≡ found (map_in a x) key) → IsRun tells a b x y (op.Get key) (kv_reply.Value value)
  got key value s told = served (op.Get key) (kv_reply.Value value) 1 (map_in a x) s refl refl refl (λ tell. ap kv_reply.Value (told tell)) tt (λ lacks. absurd lacks) tt

  pub not-got : (key : Text) (why : KvStop) → Serves tells a b x y 1 (map_in a x) → HasPlainCause a b (IsGet x.handle.row (found x.index key)) why → IsRun tells a b x y (op.Get key) (kv_reply.No why)
  not-got key why s cause = served (op.Get key) (kv_reply.No why) 1 (map_in a x) s refl refl refl (λ tell. tt) tt (λ lacks. absurd lacks) (plain-cause (op.Get key) why cause)

  abbrev IsFullIn : (T : Type 0) → KvOp → Result T KvStop → Type 0
  IsFullIn T called result = LacksRoom x called → result ≡ Err (kv_stop.Full x.live (need_of called))

  pub was-put : (key value : Text) → Serves tells a b x y 2 (with_key (map_in a x) key value) → y.live ≡ x.live + (6 + length key + length value) → IsFullIn (Unit {0}) (op.Put key value) (Ok tt) → IsRun tells a b x y (op.Put key value) kv_reply.Done
  was-put key value s live full = served (op.Put key value) kv_reply.Done 2 (with_key (map_in a x) key value) s refl refl refl (λ tell. refl) live (λ lacks. absurd (not-both tt _ (full lacks))) tt

  pub not-put : (key value : Text) (why : KvStop) → Serves tells a b x y 2 (map_in a x) → IsFullIn (Unit {0}) (op.Put key value) (Err why) → HasCause a b (IsCutOr x (IsAppend x (spelled_by key (Some value)))) x.live (6 + length key + length value) why → IsRun tells a b x y (op.Put key value) (kv_reply.No why)
  not-put key value why s full cause = served (op.Put key value) (kv_reply.No why) 2 (map_in a x) s refl refl refl (λ tell. tt) tt (λ lacks. as-reply (Unit {0}) why _ (full lacks)) (room-cause (op.Put key value) why (λ lacks. lacks) cause)

  abbrev IsFullOf : Result Bool KvStop → Text → Type 0
  IsFullOf result key = found x.index key ≢ None → 16777216 < x.live + (2 + length key) → result ≡ Err (kv_stop.Full x.live (2 + length key))

  pub was-deleted : (key : Text) (was : Bool) → Serves tells a b x y 2 (without_key (map_in a x) key) → was ≡ is_some (found (map_in a x) key) → (found x.index key ≢ None → y.live ≡ x.live + (2 + length key)) → IsFullOf (Ok was) key → IsRun tells a b x y (op.Delete key) (kv_reply.Was was)
  was-deleted key was s told live full = served (op.Delete key) (kv_reply.Was was) 2 (without_key (map_in a x) key) s refl refl refl (λ tell. ap kv_reply.Was told) live (λ lacks. absurd (not-both was _ (full lacks.0 lacks.1))) tt

  pub not-deleted : (key : Text) (why : KvStop) → Serves tells a b x y 2 (map_in a x) → IsFullOf (Err why) key → (found x.index key ≡ None → (◌≡◌ {A = Result Bool KvStop} (Err why) (Ok false)) × (b ≡ a)) → HasCause a b (IsCutOr x (IsAppend x (spelled_by key None))) x.live (2 + length key) why → IsRun tells a b x y (op.Delete key) (kv_reply.No why)
  not-deleted key why s full none cause =
      served (op.Delete key) (kv_reply.No why) 2 (map_in a x) s refl refl refl (λ tell. tt) tt (λ lacks. as-reply Bool why _ (full lacks.0 lacks.1))
      (room-cause (op.Delete key) why (λ more. (λ gone. not-both false why (sym (none gone).0), more)) cause)

  pub was-flushed : Flushes tells a b x y 2 (map_in a x) → IsRun tells a b x y op.Flush kv_reply.Done
  was-flushed s = record {
    stands = s.stands;
    row = s.row;
    file = s.file;
    setting = s.setting;
    goes = s.goes;
    others = s.others;
    told = λ tell. refl;
    map = s.map;
    texts = _;
    stored = s.stored;
    are = λ tell. (s.spells tell, refl);
    live = tt;
    full = λ lacks. absurd lacks;
    cause = tt;
    doubts = s.doubts;
  }

  pub not-flushed : (why : KvStop) → Serves tells a b x y 2 (map_in a x) → HasPlainCause a b (IsCutOr x (IsFlush x)) why → IsRun tells a b x y op.Flush (kv_reply.No why)
  not-flushed why s cause = served op.Flush (kv_reply.No why) 2 (map_in a x) s refl refl refl (λ tell. tt) tt (λ lacks. absurd lacks) (plain-cause op.Flush why cause)

  pub was-compacted : Serves tells a b x y 4 (map_in a x) → IsRun tells a b x y op.Compact kv_reply.Done
  was-compacted s = served op.Compact kv_reply.Done 4 (map_in a x) s refl refl refl (λ tell. refl) tt (λ lacks. absurd lacks) tt

  pub not-compacted : (why : KvStop) → Serves tells a b x y 4 (map_in a x) → HasPlainCause a b (IsCutOr x (IsRepack tells x (map_in a x))) why → IsRun tells a b x y op.Compact (kv_reply.No why)
  not-compacted why s cause = served op.Compact (kv_reply.No why) 4 (map_in a x) s refl refl refl (λ tell. tt) tt (λ lacks. absurd lacks) (plain-cause op.Compact why cause)
