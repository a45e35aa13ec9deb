-- What is said of results.
use Rattle.std.proofs.Common.{◌≡◌, Result, Ok, Err, IfOk, IfErr, OnOk, OnErr, sym, subst}
use Rattle.opfs_turns.specs.declared.asking.stop.Stop.{Stop}
use Rattle.opfs_turns.specs.declared.asking.stop.Stop.TheVariants as stop
use Rattle.opfs_sync_files.specs.Entries.{GoesOn, IsCaused}
use Rattle.opfs_kv.specs.Calls.{HasPlainCause}
use Rattle.opfs_kv.specs.declared.stop.KvStop.{KvStop}
use Rattle.opfs_kv.specs.declared.stop.KvStop.TheVariants as kv_stop
use Rattle.opfs_hist.specs.declared.op.Op.{Op}
use Rattle.opfs_sync_files.proofs.Knowing.{caused-later, caused-may}
use Rattle.opfs_turns.specs.Agents.{AgentSeen}
use Rattle.std.specs.Prelude.{ℕ}

pub on-ok : {T E : Type 0} (r : Result T E) (P Q : Type 0) → (P → Q) → OnOk r P → OnOk r Q
on-ok (Ok x) P Q f h = f h
on-ok (Err e) P Q f h = h

pub on-err : {T E : Type 0} (r : Result T E) (P Q : Type 0) → (P → Q) → OnErr r P → OnErr r Q
on-err (Ok x) P Q f h = h
on-err (Err e) P Q f h = f h

pub if-ok : {T E : Type 0} (r : Result T E) (P Q : T → Type 0) → ((x : T) → P x → Q x) → IfOk r P → IfOk r Q
if-ok (Ok x) P Q f h = f x h
if-ok (Err e) P Q f h = h

pub if-err : {T E : Type 0} (r : Result T E) (P Q : E → Type 0) → ((e : E) → P e → Q e) → IfErr r P → IfErr r Q
if-err (Ok x) P Q f h = h
if-err (Err e) P Q f h = f e h

-- Whatever a call answered.
pub either : {T E : Type 0} (r : Result T E) (P Q : Type 0) → (P → Q) → P → OnErr r Q
either (Ok x) P Q f h = tt
either (Err e) P Q f h = f h

pub on-always : {T E : Type 0} (r : Result T E) (P : Type 0) → P → OnOk r P
on-always (Ok x) P p = p
on-always (Err e) P p = tt

-- Want of memory is free.
pub memory-caused : {O T : Type 0} (a b : AgentSeen O) (Asked : Op → Type 0) (r : Result T Stop) → IfErr r (λ why. why ≡ stop.NoMemory) → IfErr r (IsCaused a b Asked)
memory-caused a b Asked (Ok x) h = tt
memory-caused a b Asked (Err why) h = subst (IsCaused a b Asked) (sym h) tt

-- A later call's cause is one since the first, by the names of the first.
pub later-may : {O : Type 0} (a b c : AgentSeen O) (Asked May : Op → Type 0) (m : ℕ) (why : Stop) → ((o : Op) → Asked o → May o) → GoesOn a b m → IsCaused b c Asked why → IsCaused a c May why
later-may a b c Asked May m why may goes h = caused-may a c Asked May why may (caused-later a b c Asked m why goes h)

pub later-caused : {O T : Type 0} (a b c : AgentSeen O) (Asked May : Op → Type 0) (m : ℕ) (r : Result T Stop) → ((o : Op) → Asked o → May o) → GoesOn a b m → IfErr r (IsCaused b c Asked) → IfErr r (IsCaused a c May)
later-caused a b c Asked May m (Ok x) may goes h = tt
later-caused a b c Asked May m (Err why) may goes h = later-may a b c Asked May m why may goes h

-- The same of a call that needs no room.
pub plain-may : {O : Type 0} (a b : AgentSeen O) (Asked May : Op → Type 0) (why : KvStop) → ((o : Op) → Asked o → May o) → HasPlainCause a b Asked why → HasPlainCause a b May why
plain-may a b Asked May (kv_stop.Agent why) may h = caused-may a b Asked May why may h
plain-may a b Asked May (kv_stop.Full live need) may h = h
plain-may a b Asked May (kv_stop.BadFile place) may h = h

pub plain-later : {O T : Type 0} (a b c : AgentSeen O) (Asked May : Op → Type 0) (m : ℕ) (r : Result T KvStop) → ((o : Op) → Asked o → May o) → GoesOn a b m → IfErr r (HasPlainCause b c Asked) → IfErr r (HasPlainCause a c May)
plain-later a b c Asked May m (Ok x) may goes h = tt
plain-later a b c Asked May m (Err (kv_stop.Agent why)) may goes h = later-may a b c Asked May m why may goes h
plain-later a b c Asked May m (Err (kv_stop.Full live need)) may goes h = h
plain-later a b c Asked May m (Err (kv_stop.BadFile place)) may goes h = h
