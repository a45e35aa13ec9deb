-- What was put out of a text, call after call.
use Rattle.std.proofs.Common.{◌≡◌, ℕ, ◌≤◌, List, [], ◌++◌, refl, sym, ap, ◌∙◌, subst, append_assoc, inl, inr, arith}
use Rattle.std.specs.Prelude.{Option, Some, None, IfSome, IsSome, Result, Ok, Err, IsErrOf}
use Rattle.std.proofs.lemmas.List.{append-nil}
use Rattle.serde_json.specs.Written.{compact_text}
use Rattle.opfs_base.specs.Places.{Place}
use Rattle.opfs_base.specs.Texts.{Text}
use Rattle.opfs_dump.specs.Text.Texts.{folder_value}
use Rattle.opfs_outside.specs.Faults.{Rose}
use Rattle.opfs_outside.specs.declared.stream.Sink.{Ghosts as SinkWords}
use Rattle.opfs_outside.specs.Turns.{of_sink, Took, TookFront}
use Rattle.opfs_data.specs.Calls.{Reads}
use Rattle.opfs_data.proofs.CallLemmas.{reads_more, reads_nothing}
use Rattle.opfs_journal.specs.Seen.{Seen}
use Rattle.opfs_outside.specs.declared.disk.Disk.{Ghosts as DiskWords}
use Rattle.opfs_dump.specs.Dumping.Putting.{PutOut, TookSome, Puts, Dumps, DumpsSoFar}
use Rattle.opfs_dump.specs.declared.dumping.stop.DumpStop.{DumpStop}
use Rattle.opfs_dump.specs.declared.dumping.stop.DumpStop.TheVariants as stop

pub rose_since : (a b c : ℕ) → a ≤ b → Rose b c → Rose a c
rose_since a b c le rose = elim rose [ inl less ↦ inl (omega arith) | inr end ↦ inr end ]

module _ {K : Type 0} (w : SinkWords K) where
  pub begin_put : (s : K) (text : Text) → TookFront (of_sink w s s) text text
  begin_put s text = record { front = []; whole = refl; took = λ t. sym (append-nil (w.written s)) }

  pub end_put : (s0 s1 : K) (text : Text) → TookFront (of_sink w s0 s1) text [] → Took (of_sink w s0 s1) text
  end_put s0 s1 text so_far = λ t. so_far.took t ∙ ap (λ x. w.written s0 ++ x) (sym (so_far.whole ∙ append-nil so_far.front))

  pub then_front : (s0 s1 s2 : K) (whole p rest left : Text) → TookFront (of_sink w s0 s1) whole (p ++ rest) → TookFront (of_sink w s1 s2) p left
      → TookFront (of_sink w s0 s2) whole (left ++ rest)
  then_front s0 s1 s2 whole p rest left a b = record {
    front = a.front ++ b.front;
    whole =
        a.whole
        ∙ (ap (λ t. a.front ++ (t ++ rest)) b.whole
        ∙ (ap (λ t. a.front ++ t) (append_assoc b.front left rest)
        ∙ sym (append_assoc a.front b.front (left ++ rest))));
    took = λ t. b.took t ∙ (ap (λ x. x ++ b.front) (a.took t) ∙ append_assoc (w.written s0) a.front b.front);
  }

  pub then_all : (s0 s1 s2 : K) (whole p rest : Text) → TookFront (of_sink w s0 s1) whole (p ++ rest) → Took (of_sink w s1 s2) p
      → TookFront (of_sink w s0 s2) whole rest
  then_all s0 s1 s2 whole p rest a b = then_front s0 s1 s2 whole p rest [] a (record { front = p; whole = sym (append-nil p); took = b })

  pub then_some : (s0 s1 s2 : K) (whole p rest : Text) → TookFront (of_sink w s0 s1) whole (p ++ rest) → TookSome (of_sink w s1 s2) p
      → TookSome (of_sink w s0 s2) whole
  then_some s0 s1 s2 whole p rest a b = record { rest = b.rest ++ rest; front = then_front s0 s1 s2 whole p rest b.rest a b.front }

  -- where nothing more was put out
  pub some_so_far : (s0 s1 : K) (whole rest : Text) → TookFront (of_sink w s0 s1) whole rest → TookSome (of_sink w s0 s1) whole
  some_so_far s0 s1 whole rest a = record { rest = rest; front = a }

  -- the last call
  pub last_put : {A E : Type 0} (s0 s1 s2 : K) (whole p : Text) (r : Result A E) → TookFront (of_sink w s0 s1) whole p → PutOut (of_sink w s1 s2) p r
      → PutOut (of_sink w s0 s2) whole r
  last_put s0 s1 s2 whole p (Ok x) a b =
      end_put s0 s2 whole (then_all s0 s1 s2 whole p [] (record { front = a.front; whole = a.whole ∙ ap (λ t. a.front ++ t) (sym (append-nil p)); took = a.took }) b)
  last_put s0 s1 s2 whole p (Err e) a b =
      then_some s0 s1 s2 whole p [] (record { front = a.front; whole = a.whole ∙ ap (λ t. a.front ++ t) (sym (append-nil p)); took = a.took }) b

  -- nothing was put out
  pub none_put : (s : K) (text : Text) → TookSome (of_sink w s s) text
  none_put s text = record { rest = text; front = begin_put s text }

  pub puts_nothing : {A : Type 0} (s : K) (text : Text) → Puts {A = A} w s s text (Err stop.NoMemory)
  puts_nothing s text = record { put = none_put s text; later = omega arith; sink = λ i. cc; disk = λ i. cc }

same_kind : {A B : Type 0} (e x : DumpStop) → IsErrOf {T = B} (Err e) x → IsErrOf {T = A} (Err e) x
same_kind e x i = let same : e ≡ x = cc in ap Err same

-- a call that puts out a text, and reads no disk
module _ {D K : Type 0} (w : DiskWords D) (k : SinkWords K) (falls : w.tells → (d : D) (t u : ℕ) (c : List ℕ) → t ≤ u → w.since d u c → w.since d t c) where
  pub dumps_puts : {A : Type 0} (j : Seen D) (s0 s1 : K) (text : Text) (r : Result A DumpStop) → Puts k s0 s1 text r → Dumps w k j j s0 s1 (λ c. text) r
  dumps_puts j s0 s1 text r p = record {
    reads = reads_nothing w falls j;
    whole = text;
    put = p.put;
    told = λ told. refl;
    later = p.later;
    disk = λ i. absurd (p.disk i);
    sink = p.sink;
  }

  pub dumps_nothing : {A : Type 0} (j : Seen D) (s : K) (text : List ℕ → Text) → Dumps {A = A} w k j j s s text (Err stop.NoMemory)
  dumps_nothing j s text = record {
    reads = reads_nothing w falls j;
    whole = text (w.content j.disk);
    put = none_put k s (text (w.content j.disk));
    told = λ told. refl;
    later = omega arith;
    disk = λ i. cc;
    sink = λ i. cc;
  }

  -- bytes were read, and a text of them was put out
  pub read_put : {A : Type 0} (j0 j1 : Seen D) (s0 s1 : K) (p : Text) (text : List ℕ → Text) (r : Result A DumpStop) → Reads w j0 j1 → (w.tells → p ≡ text (w.content j0.disk)) → Puts k s0 s1 p r
      → Dumps w k j0 j1 s0 s1 text r
  read_put j0 j1 s0 s1 p text r reads same b = record {
    reads = reads;
    whole = p;
    put = b.put;
    told = same;
    later = b.later;
    disk = λ i. absurd (b.disk i);
    sink = b.sink;
  }

  -- the disk failed at once
  pub read_failed : {A : Type 0} (j0 j1 : Seen D) (s : K) (text : List ℕ → Text) → Reads w j0 j1 → Rose (w.faults j0.disk) (w.faults j1.disk) → Dumps {A = A} w k j0 j1 s s text (Err stop.DiskFault)
  read_failed j0 j1 s text reads rose = record {
    reads = reads;
    whole = text (w.content j0.disk);
    put = none_put k s (text (w.content j0.disk));
    told = λ told. refl;
    later = omega arith;
    disk = λ i. rose;
    sink = λ i. cc;
  }

  pub begin_dump : (j : Seen D) (s : K) (text : List ℕ → Text) → DumpsSoFar w k j j s s text text
  begin_dump j s text = record { reads = reads_nothing w falls j; front = []; took = λ t. sym (append-nil (k.written s)); told = λ told. refl; later = omega arith }

  -- what was put out, what is put out now, and what is still to come
  parted : (j0 j1 : Seen D) (front now : Text) (text rest p more : List ℕ → Text) → text (w.content j0.disk) ≡ front ++ rest (w.content j0.disk) → ((c : List ℕ) → rest c ≡ p c ++ more c)
      → now ≡ p (w.content j1.disk) → w.content j1.disk ≡ w.content j0.disk → text (w.content j0.disk) ≡ front ++ (now ++ more (w.content j0.disk))
  parted j0 j1 front now text rest p more so_far parts is same =
      let c : List ℕ = w.content j0.disk in
      so_far
      ∙ (ap (λ (t : Text). front ++ t) (parts c)
      ∙ ap (λ (t : Text). front ++ (t ++ more c)) (sym (is ∙ ap p same)))

  -- a call more
  pub more_dumped : {A : Type 0} (x : A) (j0 j1 j2 : Seen D) (s0 s1 s2 : K) (text rest p more : List ℕ → Text) → DumpsSoFar w k j0 j1 s0 s1 text rest → ((c : List ℕ) → rest c ≡ p c ++ more c)
      → Dumps {A = A} w k j1 j2 s1 s2 p (Ok x) → DumpsSoFar w k j0 j2 s0 s2 text more
  more_dumped x j0 j1 j2 s0 s1 s2 text rest p more a parts b = record {
    reads = reads_more w falls j0 j1 j2 a.reads b.reads;
    front = a.front ++ b.whole;
    took = λ t. b.put t ∙ (ap (λ (x : Text). x ++ b.whole) (a.took t) ∙ append_assoc (k.written s0) a.front b.whole);
    told = λ told. parted j0 j1 a.front b.whole text rest p more (a.told told) parts (b.told told) ((a.reads.told told).same) ∙ sym (append_assoc a.front b.whole (more (w.content j0.disk)));
    later = omega (arith, a.later, b.later);
  }

  -- a call more, which failed
  pub failed_dump : {A B : Type 0} (e : DumpStop) (j0 j1 j2 : Seen D) (s0 s1 s2 : K) (text rest p more : List ℕ → Text) → DumpsSoFar w k j0 j1 s0 s1 text rest → ((c : List ℕ) → rest c ≡ p c ++ more c)
      → Dumps {A = A} w k j1 j2 s1 s2 p (Err e) → Dumps {A = B} w k j0 j2 s0 s2 text (Err e)
  failed_dump e j0 j1 j2 s0 s1 s2 text rest p more a parts b = record {
    reads = reads_more w falls j0 j1 j2 a.reads b.reads;
    whole = a.front ++ (b.whole ++ more (w.content j0.disk));
    put = then_some k s0 s1 s2 (a.front ++ (b.whole ++ more (w.content j0.disk))) b.whole (more (w.content j0.disk)) (record { front = a.front; whole = refl; took = a.took }) b.put;
    told = λ told. sym (parted j0 j1 a.front b.whole text rest p more (a.told told) parts (b.told told) ((a.reads.told told).same));
    later = omega (arith, a.later, b.later);
    disk = λ i. rose_since (w.faults j0.disk) (w.faults j1.disk) (w.faults j2.disk) a.reads.later (b.disk (same_kind e stop.DiskFault i));
    sink = λ i. rose_since (k.faults s0) (k.faults s1) (k.faults s2) a.later (b.sink (same_kind e stop.SinkFault i));
  }

  -- all is put out
  pub dumped : {A : Type 0} (x : A) (j0 j1 : Seen D) (s0 s1 : K) (text rest : List ℕ → Text) → DumpsSoFar w k j0 j1 s0 s1 text rest → ((c : List ℕ) → rest c ≡ [])
      → Dumps {A = A} w k j0 j1 s0 s1 text (Ok x)
  dumped x j0 j1 s0 s1 text rest a none = record {
    reads = a.reads;
    whole = a.front;
    put = a.took;
    told = λ told. sym (a.told told ∙ (ap (λ (t : Text). a.front ++ t) (none (w.content j0.disk)) ∙ append-nil a.front));
    later = a.later;
    disk = λ i. cc;
    sink = λ i. cc;
  }

  -- the last call
  pub last_dumped : {A : Type 0} (r : Result A DumpStop) (j0 j1 j2 : Seen D) (s0 s1 s2 : K) (text rest p : List ℕ → Text) → DumpsSoFar w k j0 j1 s0 s1 text rest → ((c : List ℕ) → rest c ≡ p c)
      → Dumps w k j1 j2 s1 s2 p r → Dumps w k j0 j2 s0 s2 text r
  last_dumped (Ok x) j0 j1 j2 s0 s1 s2 text rest p a parts b =
      dumped x j0 j2 s0 s2 text (λ c. []) (more_dumped x j0 j1 j2 s0 s1 s2 text rest p (λ c. []) a (λ c. parts c ∙ sym (append-nil (p c))) b) (λ c. refl)
  last_dumped (Err e) j0 j1 j2 s0 s1 s2 text rest p a parts b =
      failed_dump e j0 j1 j2 s0 s1 s2 text rest p (λ c. []) a (λ c. parts c ∙ sym (append-nil (p c))) b

  -- one call and then another
  pub then_dumps : {A B : Type 0} (x : A) (r : Result B DumpStop) (j0 j1 j2 : Seen D) (s0 s1 s2 : K) (p q text : List ℕ → Text) → Dumps {A = A} w k j0 j1 s0 s1 p (Ok x)
      → Dumps w k j1 j2 s1 s2 q r → ((c : List ℕ) → p c ++ q c ≡ text c) → Dumps w k j0 j2 s0 s2 text r
  then_dumps x r j0 j1 j2 s0 s1 s2 p q text a b whole =
      last_dumped r j0 j1 j2 s0 s1 s2 text q q
      (more_dumped x j0 j0 j1 s0 s0 s1 text text p q (begin_dump j0 s0 text) (λ c. sym (whole c)) a) (λ c. refl) b

  -- one call that failed
  pub first_failed : {A B : Type 0} (e : DumpStop) (j0 j1 : Seen D) (s0 s1 : K) (p q text : List ℕ → Text) → Dumps {A = A} w k j0 j1 s0 s1 p (Err e) → ((c : List ℕ) → p c ++ q c ≡ text c)
      → Dumps {A = B} w k j0 j1 s0 s1 text (Err e)
  first_failed e j0 j1 s0 s1 p q text a whole = failed_dump e j0 j0 j1 s0 s0 s1 text text p q (begin_dump j0 s0 text) (λ c. sym (whole c)) a

  -- another text that is the same
  pub dumps_same : {A : Type 0} (j0 j1 : Seen D) (s0 s1 : K) (p text : List ℕ → Text) (r : Result A DumpStop) → Dumps w k j0 j1 s0 s1 p r → ((c : List ℕ) → p c ≡ text c) → Dumps w k j0 j1 s0 s1 text r
  dumps_same j0 j1 s0 s1 p text r a same = last_dumped r j0 j0 j1 s0 s0 s1 text text p (begin_dump j0 s0 text) (λ c. sym (same c)) a

  -- a text, and then what is read of a row where a walk stands
  pub then_placed : {A B : Type 0} (x : A) (r : Result B DumpStop) (j0 j1 : Seen D) (s0 s1 s2 : K) (place : Option Place) (p : Text) (q : Place → List ℕ → Text) → Puts {A = A} k s0 s1 p (Ok x)
      → IfSome place (λ at. Dumps w k j0 j1 s1 s2 (q at) r) → IfSome place (λ at. Dumps w k j0 j1 s0 s2 (λ c. p ++ q at c) r)
  then_placed x r j0 j1 s0 s1 s2 None p q a b = tt
  then_placed x r j0 j1 s0 s1 s2 (Some at) p q a b = then_dumps x r j0 j0 j1 s0 s1 s2 (λ c. p) (q at) (λ c. p ++ q at c) (dumps_puts j0 s0 s1 p (Ok x) a) b (λ c. refl)

  pub first_placed : {A : Type 0} (B : Type 0) (e : DumpStop) (j : Seen D) (s0 s1 : K) (place : Option Place) (p : Text) (q : Place → List ℕ → Text) → Puts {A = A} k s0 s1 p (Err e)
      → IfSome place (λ at. Dumps {A = B} w k j j s0 s1 (λ c. p ++ q at c) (Err e))
  first_placed B e j s0 s1 None p q a = tt
  first_placed B e j s0 s1 (Some at) p q a = first_failed e j j s0 s1 (λ c. p) (q at) (λ c. p ++ q at c) (dumps_puts j s0 s1 p (Err e) a) (λ c. refl)

  -- a row more of a walk, and one that failed
  pub more_placed : {A : Type 0} (x : A) (j0 j1 j2 : Seen D) (s0 s1 s2 : K) (place : Option Place) (text rest more : List ℕ → Text) (q : Place → List ℕ → Text) → IsSome place → DumpsSoFar w k j0 j1 s0 s1 text rest
      → IfSome place (λ at. (c : List ℕ) → rest c ≡ q at c ++ more c) → IfSome place (λ at. Dumps {A = A} w k j1 j2 s1 s2 (q at) (Ok x)) → DumpsSoFar w k j0 j2 s0 s2 text more
  more_placed x j0 j1 j2 s0 s1 s2 None text rest more q some a parts b = absurd cc
  more_placed x j0 j1 j2 s0 s1 s2 (Some at) text rest more q some a parts b = more_dumped x j0 j1 j2 s0 s1 s2 text rest (q at) more a parts b

  pub failed_placed : (A : Type 0) {B : Type 0} (e : DumpStop) (j0 j1 j2 : Seen D) (s0 s1 s2 : K) (place : Option Place) (text rest more : List ℕ → Text) (q : Place → List ℕ → Text) → IsSome place → DumpsSoFar w k j0 j1 s0 s1 text rest
      → IfSome place (λ at. (c : List ℕ) → rest c ≡ q at c ++ more c) → IfSome place (λ at. Dumps {A = A} w k j1 j2 s1 s2 (q at) (Err e)) → Dumps {A = B} w k j0 j2 s0 s2 text (Err e)
  failed_placed A e j0 j1 j2 s0 s1 s2 None text rest more q some a parts b = absurd cc
  failed_placed A e j0 j1 j2 s0 s1 s2 (Some at) text rest more q some a parts b = failed_dump e j0 j1 j2 s0 s1 s2 text rest (q at) more a parts b

  -- a directory where a walk stands
  pub folder_placed : {A : Type 0} (j : Seen D) (s0 s1 : K) (place : Option Place) (unit : Text) (path : List Text) (r : Result A DumpStop) → IfSome place (λ at. unit ≡ at.0) → IfSome place (λ at. path ≡ at.1)
      → Puts k s0 s1 (compact_text (folder_value (unit, path))) r → IfSome place (λ at. Dumps w k j j s0 s1 (λ c. compact_text (folder_value at)) r)
  folder_placed j s0 s1 None unit path r key names a = tt
  folder_placed j s0 s1 (Some at) unit path r key names a =
      dumps_puts j s0 s1 (compact_text (folder_value at)) r (subst (λ (t : Text). Puts k s0 s1 t r) (λ i. compact_text (folder_value (key i, names i))) a)
