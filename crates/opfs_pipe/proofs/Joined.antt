-- What the two sides do, one after another.
use Rattle.std.proofs.Common.{◌≡◌, ◌≢◌, ℕ, ◌+◌, true, false, List, [], ◌∷◌, ◌++◌, append-nil, append_assoc, length, map, Option, Some, None, Result, Ok, Err, IfOk, IfErr, refl, sym, ap, ◌∙◌, subst, arith}
use Rattle.std.specs.List.{concat}
use Rattle.std.proofs.lemmas.List.{length-append}
use Rattle.std.proofs.lemmas.List.Folds.{concat-append}
use Rattle.opfs_base.specs.Texts.{Text}
use Rattle.opfs_turns.specs.Asking.Answers.{Shared}
use Rattle.opfs_turns.specs.Asking.Locals.{HasLocalAnswer, IsMade, Local}
use Rattle.opfs_turns.specs.Asking.Rows.{HasSnapshot, HasStream, SnapshotSeen, StreamSeen}
use Rattle.opfs_turns.specs.declared.asking.stop.Stop.{Stop}
use Rattle.opfs_turns.specs.declared.asking.stop.Stop.TheVariants as stop
use Rattle.opfs_turns.proofs.asking.Plains.{slice-local}
use Rattle.opfs_hist.specs.Sums.{asks_for_row}
use Rattle.opfs_hist.specs.declared.op.Op.{Op}
use Rattle.opfs_hist.specs.declared.op.Op.TheVariants as op
use Rattle.opfs_hist.specs.declared.reply.Refusal.{Refusal}
use Rattle.opfs_hist.specs.declared.reply.Reply.{Reply}
use Rattle.opfs_hist.specs.declared.reply.Reply.TheVariants as reply
use Rattle.opfs_laws.specs.Leaving.{asks_nobody, row_used}
use Rattle.opfs_machine.specs.declared.own.Own.{Own}
use Rattle.opfs_machine.specs.declared.own.Own.TheVariants as own
use Rattle.opfs_machine.specs.Agents.{agent_of, own_of}
use Rattle.opfs_splice.specs.Splicing.{window}
use Rattle.opfs_agent.specs.declared.stream_calls.stream.ClosedStream.{ClosedStream}
use Rattle.opfs_agent.specs.StreamCalls.Ends.{GivesBack, IsClosed, WasStopped}
use Rattle.opfs_sync_files.specs.Entries.{GoesOn}
use Rattle.opfs_sync_files.proofs.Knowing.{goes-most, goes-none, goes-then}
use Rattle.opfs_turns.specs.Agents.{AgentSeen, IsAgent, own_row, state_of}
use Rattle.opfs_pipe.specs.Pieces.{slices_of, write_of}
use Rattle.opfs_pipe.specs.Sides.{Failed, HasWritten, IsClose, IsLast, IsStored, IsWrite, Sliced, Written}
use Rattle.opfs_sync_files.specs.Resting.{LeavesRest}
use Rattle.opfs_sync_files.proofs.Resting.{rest-entered, rest-looked, rest-made, rest-none, rest-then}
use Rattle.opfs_pipe.specs.Streams.{buffer_in, calls_of, offset_in, stream_bytes, stream_offset}
use Rattle.opfs_pipe.proofs.Calls.{calls-entered, calls-looked, calls-made}
use Rattle.opfs_sync_files.proofs.Behind.{entered-goes}
use Rattle.opfs_sync_files.proofs.Served.{made-goes, shared-goes}
use Rattle.opfs_pipe.proofs.Lists.{concat-one, slices-join, writes-join}
use Rattle.opfs_pipe.proofs.Rows.{IsDone, stopped-row, written-bytes, written-offset}
use Rattle.opfs_pipe.proofs.Stored.{stores-last}

-- ---- nothing, and one after another

pub written-none : {O : Type 0} (tells : Type 0) (a : AgentSeen O) (x : StreamSeen) → HasStream tells a x → Written tells a a x x []
written-none tells a x has = record {
  has = has;
  row = refl;
  file = refl;
  goes = goes-none a;
  others = rest-none tells a x.row;
  bytes = sym (append-nil (stream_bytes a x));
  offset = omega arith;
  calls = sym (append-nil (calls_of a));
}

pub written-then : {O : Type 0} (tells : Type 0) (a b c : AgentSeen O) (x y z : StreamSeen) (ps qs : List Text) → Written tells a b x y ps → Written tells b c y z qs → Written tells a c x z (ps ++ qs)
written-then tells a b c x y z ps qs p q = record {
  has = q.has;
  row = q.row ∙ p.row;
  file = q.file ∙ p.file;
  goes = subst (GoesOn a c) (sym (length-append ps qs)) (goes-then a b c (length ps) (length qs) p.goes q.goes);
  others = rest-then tells a b c x.row p.others (subst (LeavesRest tells b c) p.row q.others);
  bytes = q.bytes ∙ ap (λ (t : Text). t ++ concat qs) p.bytes ∙ append_assoc (stream_bytes a x) (concat ps) (concat qs) ∙ ap (λ (t : Text). stream_bytes a x ++ t) (sym (concat-append ps qs));
  offset = omega (arith, p.offset, q.offset, ap length (concat-append ps qs), length-append (concat ps) (concat qs));
  calls =
      q.calls
      ∙ (λ i. p.calls i ++ map (write_of (p.row i)) qs)
      ∙ append_assoc (calls_of a) (map (write_of x.row) ps) (map (write_of x.row) qs)
      ∙ ap (λ ts. calls_of a ++ ts) (sym (writes-join x.row ps qs));
}

pub failed-then : {O : Type 0} (tells : Type 0) (a b c : AgentSeen O) (x y z : StreamSeen) (ps qs : List Text) (Next : ℕ → Op → Type 0) (why : Stop) → Written tells a b x y ps → Failed tells b c y z qs Next why → Failed tells a c x z (ps ++ qs) Next why
failed-then tells a b c x y z ps qs Next why p q = record {
  has = q.has;
  row = q.row ∙ p.row;
  file = q.file ∙ p.file;
  goes = subst (GoesOn a c) (omega (arith, length-append ps qs)) (goes-then a b c (length ps) (length qs + 1) p.goes q.goes);
  others = rest-then tells a b c x.row p.others (subst (LeavesRest tells b c) p.row q.others);
  bytes = q.bytes ∙ ap (λ (t : Text). t ++ concat qs) p.bytes ∙ append_assoc (stream_bytes a x) (concat ps) (concat qs) ∙ ap (λ (t : Text). stream_bytes a x ++ t) (sym (concat-append ps qs));
  last = q.last;
  is_last = subst (λ n. IsLast (Next n) why q.last) p.row q.is_last;
  calls =
      q.calls
      ∙ (λ i. (p.calls i ++ map (write_of (p.row i)) qs) ++ q.last)
      ∙ ap (λ ts. ts ++ q.last) (append_assoc (calls_of a) (map (write_of x.row) ps) (map (write_of x.row) qs) ∙ ap (λ ts. calls_of a ++ ts) (sym (writes-join x.row ps qs)));
}

-- There was no memory for the next piece.
pub written-failed : {O : Type 0} (tells : Type 0) (a b : AgentSeen O) (x y : StreamSeen) (ps : List Text) (Next : ℕ → Op → Type 0) → Written tells a b x y ps → Failed tells a b x y ps Next stop.NoMemory
written-failed tells a b x y ps Next p = record {
  has = p.has;
  row = p.row;
  file = p.file;
  goes = goes-most a b (length ps) (length ps + 1) (omega arith) p.goes;
  others = p.others;
  bytes = p.bytes;
  last = [];
  is_last = refl;
  calls = p.calls ∙ sym (append-nil (calls_of a ++ map (write_of x.row) ps));
}

-- The call that was refused is one of more calls.
pub last-may : (Next May : Op → Type 0) (why : Stop) (last : List (Op × Reply)) → ((o : Op) → Next o → May o) → IsLast Next why last → IsLast May why last
last-may Next May (stop.No r) last may h = (h.0, may h.0 h.1, h.2)
last-may Next May stop.NoMemory last may h = h

-- The next write is at the end again.
pub written-end : {O : Type 0} (tells : Type 0) (a b : AgentSeen O) (x y : StreamSeen) (ps : List Text) → Written tells a b x y ps → stream_offset a x ≡ length (stream_bytes a x) → stream_offset b y ≡ length (stream_bytes b y)
written-end tells a b x y ps p is = omega (arith, p.offset, is, ap length p.bytes, length-append (stream_bytes a x) (concat ps))

-- ---- the reader's side

-- A snapshot whose row stays.
some-row : (o : Option Own) (n : ℕ) (r : Own) → ((n ≡ 0) → o ≡ None) → o ≡ Some r → n ≢ 0
some-row o n r none is zero_is = absurd (no-some r (sym (none zero_is) ∙ is))
  where
    no-some : (r : Own) → ◌≡◌ {A = Option Own} None (Some r) → ⊥
    no-some r e = cc

none-first : {O : Type 0} (a : AgentSeen O) (n : ℕ) → n ≡ 0 → own_row a n ≡ None
none-first a n is = ap (own_of (agent_of (state_of a) a.pass.agent)) is

pub snapshot-stays : {O : Type 0} (tells : Type 0) (a b : AgentSeen O) (x : SnapshotSeen) → LeavesRest tells a b 0 → HasSnapshot tells a x → HasSnapshot tells b x
snapshot-stays tells a b x rest has = record {
  bytes = has.bytes;
  there = rest.row x.row (own.Snapshot has.bytes) (some-row (own_row a x.row) x.row (own.Snapshot has.bytes) (none-first a x.row) has.there) has.there;
  size = has.size;
  told = has.told;
}

pub sliced-none : {O : Type 0} (tells : Type 0) (a : AgentSeen O) (x : SnapshotSeen) (at : ℕ) → HasSnapshot tells a x → Sliced tells a a x at []
sliced-none tells a x at has = record { has = has; goes = goes-none a; others = rest-none tells a 0; calls = sym (append-nil (calls_of a)) }

pub sliced-then : {O : Type 0} (tells : Type 0) (a b c : AgentSeen O) (x : SnapshotSeen) (at next : ℕ) (ps qs : List Text) → Sliced tells a b x at ps → next ≡ at + length (concat ps) → Sliced tells b c x next qs → Sliced tells a c x at (ps ++ qs)
sliced-then tells a b c x at next ps qs p is q = record {
  has = q.has;
  goes = subst (GoesOn a c) (sym (length-append ps qs)) (goes-then a b c (length ps) (length qs) p.goes q.goes);
  others = rest-then tells a b c 0 p.others q.others;
  calls =
      q.calls
      ∙ (λ i. p.calls i ++ slices_of x.row (is i) qs)
      ∙ append_assoc (calls_of a) (slices_of x.row at ps) (slices_of x.row (at + length (concat ps)) qs)
      ∙ ap (λ ts. calls_of a ++ ts) (sym (slices-join x.row at ps qs));
}

abbrev pub GivesRead : Text → Text → Reply → Type 0
GivesRead part bytes answered = (bytes ≡ part) × (answered ≡ reply.Read bytes)

-- A slice of so many bytes.
pub sliced-one : {O : Type 0} (tells : Type 0) (a b : AgentSeen O) (kept : IsAgent tells a) (later : IsAgent tells b) (x : SnapshotSeen) (has : HasSnapshot tells a x) (at size : ℕ) (piece : Text)
    → length (window x.bytes at size) ≡ size → HasLocalAnswer tells a b (op.Slice x.row at size) 0 (GivesRead (window x.bytes at size)) piece → Sliced tells a b x at (window x.bytes at size ∷ [])
sliced-one tells a b kept later x has at size piece long h =
    let part = window x.bytes at size in
    let rest : LeavesRest tells a b 0 = rest-made tells a b kept later (op.Slice x.row at size) h.answered 0 h.entered in
    let told : h.answered ≡ reply.Read part = h.gives.1 ∙ ap reply.Read h.gives.0 in
    record {
      has = snapshot-stays tells a b x rest has;
      goes = made-goes tells a b kept later (op.Slice x.row at size) h.answered h.entered;
      others = rest;
      calls =
          calls-made tells a b kept (op.Slice x.row at size) h.answered 0 h.entered
          ∙ (λ i. calls_of a ++ (op.Slice x.row at (sym long i), told i) ∷ []);
    }

-- A slice is never refused.
no-read : (r : Refusal) (zeros : Text) → reply.No r ≡ reply.Read zeros → ⊥
no-read r zeros e = cc

pub never-refused : {O : Type 0} (tells : Type 0) (a b : AgentSeen O) (kept : IsAgent tells a) (x : SnapshotSeen) (has : HasSnapshot tells a x) (at size : ℕ) (r : Refusal) → IsMade tells a b (op.Slice x.row at size) (reply.No r) 0 → ⊥
never-refused tells a b kept x has at size r h =
    let l = slice-local tells a kept x at size (window x.bytes at size) has refl in
    no-read r _ (h.local.alike ∙ sym l.alike)

pub sliced-stopped : {O : Type 0} (tells : Type 0) (a b : AgentSeen O) (kept : IsAgent tells a) (x : SnapshotSeen) (has : HasSnapshot tells a x) (at size : ℕ) (why : Stop) → Local tells a b (op.Slice x.row at size) 0 (GivesRead (window x.bytes at size)) (Err why)
    → Sliced tells a b x at []
sliced-stopped tells a b kept x has at size (stop.No r) h = absurd (never-refused tells a b kept x has at size r h)
sliced-stopped tells a b kept x has at size stop.NoMemory h = subst (λ c. Sliced tells a c x at []) (sym h) (sliced-none tells a x at has)

-- ---- the writer's side

module _ {O : Type 0} (tells : Type 0) (a b : AgentSeen O) (kept : IsAgent tells a) (later : IsAgent tells b) (x y : StreamSeen) (then_has : HasStream tells b y) (row : y.row ≡ x.row) (file : y.file ≡ x.file) where
  module _ (called : Op) (Next : ℕ → Op → Type 0) (on : Next x.row called) (used : row_used called ≡ x.row) (plain : asks_for_row called ≡ false) (nobody : asks_nobody called ≡ true) where
    same-bytes : (why : Stop) → Shared tells a b called IsDone (Err why) → stream_bytes b y ≡ stream_bytes a x ++ concat []
    same-bytes why h =
        ap (λ n. buffer_in (own_row b n)) row ∙ ap buffer_in (stopped-row tells a b kept called why nobody h x.row) ∙ sym (append-nil (stream_bytes a x))

    -- A call that gives nothing.
    pub stopped-failed : (why : Stop) → Shared tells a b called IsDone (Err why) → Failed tells a b x y [] Next why
    stopped-failed (stop.No r) h = record {
      has = then_has;
      row = row;
      file = file;
      goes = goes-most a b 1 (length {A = Text} [] + 1) (omega arith) (entered-goes tells a b kept later called (reply.No r) h.given h.entered plain);
      others = subst (LeavesRest tells a b) used (rest-entered tells a b kept later called (reply.No r) h.given h.entered);
      bytes = same-bytes (stop.No r) h;
      last = (called, reply.No r) ∷ [];
      is_last = (called, on, refl);
      calls = calls-entered tells a b kept called (reply.No r) h.given h.entered ∙ ap (λ ts. ts ++ (called, reply.No r) ∷ []) (sym (append-nil (calls_of a)));
    }
    stopped-failed stop.NoMemory h = record {
      has = then_has;
      row = row;
      file = file;
      goes = goes-most a b 1 (length {A = Text} [] + 1) (omega arith) (shared-goes tells a b kept later called IsDone (Err stop.NoMemory) plain h);
      others = rest-looked tells a b kept later x.row h;
      bytes = same-bytes stop.NoMemory h;
      last = [];
      is_last = refl;
      calls = calls-looked tells a b h ∙ sym (append-nil (calls_of a)) ∙ sym (append-nil (calls_of a ++ []));
    }

-- A write at the end.
pub write-does : {O : Type 0} (tells : Type 0) (a b : AgentSeen O) (kept : IsAgent tells a) (later : IsAgent tells b) (x y : StreamSeen) (has : HasStream tells a x) (piece : Text) (r : Result (Unit {0}) Stop)
    → stream_offset a x ≡ length (stream_bytes a x) → Shared tells a b (op.Write x.row piece None) IsDone r → HasStream tells b y → (y.row ≡ x.row) × (y.file ≡ x.file) → HasWritten tells a b x y piece r
write-does tells a b kept later x y has piece (Ok v) at_end h then_has same =
    let called = op.Write x.row piece None in
    record {
      has = then_has;
      row = same.0;
      file = same.1;
      goes = goes-most a b 1 (length (piece ∷ [])) (omega arith) (entered-goes tells a b kept later called h.answered h.given h.entered refl);
      others = rest-entered tells a b kept later called h.answered h.given h.entered;
      bytes =
          ap (λ n. buffer_in (own_row b n)) same.0
          ∙ written-bytes tells a b kept x has piece h at_end
          ∙ ap (λ (t : Text). stream_bytes a x ++ t) (sym (concat-one piece));
      offset =
          ap (λ n. offset_in (own_row b n)) same.0
          ∙ written-offset tells a b kept x has piece h
          ∙ ap (λ (t : Text). stream_offset a x + length t) (sym (concat-one piece));
      calls = calls-entered tells a b kept called h.answered h.given h.entered ∙ ap (λ (z : Reply). calls_of a ++ (called, z) ∷ []) h.gives;
    }
write-does tells a b kept later x y has piece (Err why) at_end h then_has same =
    stopped-failed tells a b kept later x y then_has same.0 same.1 (op.Write x.row piece None) (IsWrite piece) refl refl refl refl why h

-- ---- the close

as-shared : {O : Type 0} (tells : Type 0) (a b : AgentSeen O) (called : Op) (why : Stop) → WasStopped tells a b called why → Shared tells a b called IsDone (Err why)
as-shared tells a b called (stop.No r) h = h
as-shared tells a b called stop.NoMemory h = h

module _ {O : Type 0} (tells : Type 0) (a b : AgentSeen O) (kept : IsAgent tells a) (later : IsAgent tells b) (x : StreamSeen) (has : HasStream tells a x) where
  pub close-stores : (r : Result ClosedStream (StreamSeen × Stop)) → IfOk r (λ closed. IsClosed tells a b (op.Close x.row) x.row closed.row) → IfOk r (λ closed. IsStored tells a b x closed.row (stream_bytes a x))
  close-stores (Ok closed) h = record {
    same = h.same;
    closed = h.has;
    goes = entered-goes tells a b kept later (op.Close x.row) reply.Done h.given h.entered refl;
    others = rest-entered tells a b kept later (op.Close x.row) reply.Done h.given h.entered;
    calls = calls-entered tells a b kept (op.Close x.row) reply.Done h.given h.entered;
    content = stores-last tells a b kept x has h.given h.entered;
  }
  close-stores (Err back) h = tt

  pub close-fails : (r : Result ClosedStream (StreamSeen × Stop)) → IfErr r (λ back. GivesBack tells a b (op.Close x.row) x back.0 back.1) → IfErr r (λ back. Failed tells a b x back.0 [] IsClose back.1)
  close-fails (Ok closed) h = tt
  close-fails (Err back) h =
      stopped-failed tells a b kept later x back.0 h.open_still h.row h.file (op.Close x.row) IsClose refl refl refl refl back.1 (as-shared tells a b (op.Close x.row) back.1 h.stopped)
