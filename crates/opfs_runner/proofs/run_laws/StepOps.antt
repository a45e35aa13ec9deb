-- What a step asks for, by what its variables name.
use Rattle.std.proofs.Common.{◌≡◌, ℕ, ◌≤◌, ◌&&◌, true, List, Option, Some, None, length, unwrap_or, refl, sym, ap, ◌∙◌, subst, arith}
use Rattle.std.proofs.lemmas.Bool.{and_parts, leb-true}
use Rattle.opfs_base.specs.Texts.{Text}
use Rattle.opfs_base.specs.declared.locator.Locator.{Locator}
use Rattle.opfs_hist.specs.declared.entry.Entry.{Entry}
use Rattle.opfs_hist.specs.declared.op.Op.{Op}
use Rattle.opfs_hist.specs.declared.op.Op.TheVariants as op
use Rattle.opfs_hist.specs.declared.op.Word.{Word}
use Rattle.opfs_hist.specs.declared.op.Word.TheVariants as word
use Rattle.opfs_machine.specs.Histories.{is_of_origin}
use Rattle.opfs_store.specs.Acts.Asking.{HasSmallNumbers}
use Rattle.opfs_script_run.specs.declared.runs.hand.Hand.{Hand}
use Rattle.opfs_script_run.specs.declared.runs.hand.Named.{Named}
use Rattle.opfs_script_run.specs.declared.runs.hand.Named.TheVariants as named
use Rattle.opfs_script_run.specs.Runs.Running.{named_by, op_of, next_op, called, called_by_two, a_directory, a_file, an_entry, a_stream, a_handle, a_snapshot, mode_of, IsWait}
use Rattle.opfs_script.specs.declared.step.Step.{Step}
use Rattle.opfs_script.specs.declared.step.Step.TheVariants as step
use Rattle.opfs_script.specs.Limits.{keeps_bounds, is_number, is_optional_number, is_read_length, is_write, is_variable}
use Rattle.opfs_runner.specs.RunLaws.Kinds as rows
use Rattle.opfs_runner.specs.RunLaws.Kinds.{RowKind, sort_at, Names, MayPerform}
use Rattle.opfs_runner.specs.RunLaws.Agreeing.{IsNamed, Agrees}

-- ---- numbers

place-small : (p : Option ℕ) → is_optional_number p ≡ true → unwrap_or p 0 ≤ 9007199254740991
place-small None h = omega arith
place-small (Some n) h = leb-true n 9007199254740991 h

read-small : (n : ℕ) → is_read_length n ≡ true → n ≤ 9007199254740991
read-small n h = let small : n ≤ 65536 = leb-true n 65536 h in omega (arith, small)

-- A call whose word and members tell no numbers, or small ones.
some-same : {X : Type 0} {x y : X} → Some x ≡ Some y → x ≡ y
some-same e = cc

module _ (key : Option Text) (kinds : List RowKind) where
  abbrev Asks : Op → Type 0
  Asks o = MayPerform key kinds o

  unbound : (w : Word) → Asks (op.Unbound w)
  unfolding HasSmallNumbers
  unbound w = record { names = tt; numbers = tt }

  -- What an optional name tells.
  abbrev IsFound : Option Named → Type 0
  IsFound None = Unit {0}
  IsFound (Some x) = IsNamed key kinds x

  named-directory : (x : Option Named) → IsFound x → (at : Locator) → a_directory x ≡ Some at → is_of_origin key at ≡ true
  named-directory (Some (named.Directory to)) found at is = subst (λ y. is_of_origin key y ≡ true) (some-same is) found
  named-directory (Some (named.File to)) found at is = absurd cc
  named-directory (Some (named.Stream n)) found at is = absurd cc
  named-directory (Some (named.Handle n)) found at is = absurd cc
  named-directory (Some (named.Snapshot n)) found at is = absurd cc
  named-directory (Some (named.Iterator n dir)) found at is = absurd cc
  named-directory None found at is = absurd cc

  named-file : (x : Option Named) → IsFound x → (at : Locator) → a_file x ≡ Some at → is_of_origin key at ≡ true
  named-file (Some (named.File to)) found at is = subst (λ y. is_of_origin key y ≡ true) (some-same is) found
  named-file (Some (named.Directory to)) found at is = absurd cc
  named-file (Some (named.Stream n)) found at is = absurd cc
  named-file (Some (named.Handle n)) found at is = absurd cc
  named-file (Some (named.Snapshot n)) found at is = absurd cc
  named-file (Some (named.Iterator n dir)) found at is = absurd cc
  named-file None found at is = absurd cc

  named-stream : (x : Option Named) → IsFound x → (n : ℕ) → a_stream x ≡ Some n → sort_at kinds n ≡ Some rows.stream
  named-stream (Some (named.Stream m)) found n is = subst (λ y. sort_at kinds y ≡ Some rows.stream) (some-same is) found
  named-stream (Some (named.Directory to)) found n is = absurd cc
  named-stream (Some (named.File to)) found n is = absurd cc
  named-stream (Some (named.Handle m)) found n is = absurd cc
  named-stream (Some (named.Snapshot m)) found n is = absurd cc
  named-stream (Some (named.Iterator m dir)) found n is = absurd cc
  named-stream None found n is = absurd cc

  named-handle : (x : Option Named) → IsFound x → (n : ℕ) → a_handle x ≡ Some n → sort_at kinds n ≡ Some rows.handle
  named-handle (Some (named.Handle m)) found n is = subst (λ y. sort_at kinds y ≡ Some rows.handle) (some-same is) found
  named-handle (Some (named.Directory to)) found n is = absurd cc
  named-handle (Some (named.File to)) found n is = absurd cc
  named-handle (Some (named.Stream m)) found n is = absurd cc
  named-handle (Some (named.Snapshot m)) found n is = absurd cc
  named-handle (Some (named.Iterator m dir)) found n is = absurd cc
  named-handle None found n is = absurd cc

  named-snapshot : (x : Option Named) → IsFound x → (n : ℕ) → a_snapshot x ≡ Some n → sort_at kinds n ≡ Some rows.snapshot
  named-snapshot (Some (named.Snapshot m)) found n is = subst (λ y. sort_at kinds y ≡ Some rows.snapshot) (some-same is) found
  named-snapshot (Some (named.Directory to)) found n is = absurd cc
  named-snapshot (Some (named.File to)) found n is = absurd cc
  named-snapshot (Some (named.Stream m)) found n is = absurd cc
  named-snapshot (Some (named.Handle m)) found n is = absurd cc
  named-snapshot (Some (named.Iterator m dir)) found n is = absurd cc
  named-snapshot None found n is = absurd cc

  nexts : (x : Option Named) → IsFound x → Asks (next_op x)
  unfolding HasSmallNumbers
  nexts (Some (named.Iterator n dir)) found = record { names = found; numbers = tt }
  nexts (Some (named.Directory at)) found = unbound word.Next
  nexts (Some (named.File at)) found = unbound word.Next
  nexts (Some (named.Stream n)) found = unbound word.Next
  nexts (Some (named.Handle n)) found = unbound word.Next
  nexts (Some (named.Snapshot n)) found = unbound word.Next
  nexts None found = unbound word.Next

  by-one : {A : Type 0} (w : Word) (x : Option A) (f : A → Op) → ((a : A) → x ≡ Some a → Asks (f a)) → Asks (called w x f)
  by-one w None f each = unbound w
  by-one w (Some a) f each = each a refl

  by-two : {A B : Type 0} (w : Word) (x : Option A) (y : Option B) (f : A → B → Op) → ((a : A) (b : B) → Asks (f a b)) → Asks (called_by_two w x y f)
  by-two w (Some a) (Some b) f each = each a b
  by-two w (Some a) None f each = unbound w
  by-two w None y f each = unbound w

  module _ (find : Text → Option Named) (found : (variable : Text) → IsFound (find variable)) where
    of-directory : (w : Word) (v : Text) (f : Locator → Op) → ((at : Locator) → is_of_origin key at ≡ true → Asks (f at)) → Asks (called w (a_directory (find v)) f)
    of-directory w v f each = by-one w (a_directory (find v)) f (λ at is. each at (named-directory (find v) (found v) at is))

    of-file : (w : Word) (v : Text) (f : Locator → Op) → ((at : Locator) → is_of_origin key at ≡ true → Asks (f at)) → Asks (called w (a_file (find v)) f)
    of-file w v f each = by-one w (a_file (find v)) f (λ at is. each at (named-file (find v) (found v) at is))

    of-stream : (w : Word) (v : Text) (f : ℕ → Op) → ((n : ℕ) → sort_at kinds n ≡ Some rows.stream → Asks (f n)) → Asks (called w (a_stream (find v)) f)
    of-stream w v f each = by-one w (a_stream (find v)) f (λ n is. each n (named-stream (find v) (found v) n is))

    of-handle : (w : Word) (v : Text) (f : ℕ → Op) → ((n : ℕ) → sort_at kinds n ≡ Some rows.handle → Asks (f n)) → Asks (called w (a_handle (find v)) f)
    of-handle w v f each = by-one w (a_handle (find v)) f (λ n is. each n (named-handle (find v) (found v) n is))

    of-snapshot : (w : Word) (v : Text) (f : ℕ → Op) → ((n : ℕ) → sort_at kinds n ≡ Some rows.snapshot → Asks (f n)) → Asks (called w (a_snapshot (find v)) f)
    of-snapshot w v f each = by-one w (a_snapshot (find v)) f (λ n is. each n (named-snapshot (find v) (found v) n is))

-- ---- the steps

found-by : (key : Option Text) (kinds : List RowKind) (x : Option Named) → ((y : Named) → x ≡ Some y → IsNamed key kinds y) → IsFound key kinds x
found-by key kinds None each = tt
found-by key kinds (Some y) each = each y refl

module _ (h : Hand) (kinds : List RowKind) (agrees : Agrees h kinds) where
  abbrev at : Text → Option Named
  at v = named_by h v

  found : (v : Text) → IsFound h.key kinds (named_by h v)
  found v = found-by h.key kinds (named_by h v) (agrees.bound v)

  pub asks : (s : Step) → keeps_bounds s ≡ true → MayPerform h.key kinds (op_of h s)
  unfolding HasSmallNumbers
  asks (step.GetDirectory bucket bind) b = record { names = tt; numbers = tt }
  asks (step.GetDirectoryHandle dir name create bind) b = of-directory h.key kinds at found word.GetDirectoryHandle dir (λ x. op.GetDirectoryHandle x name create) (λ x own. record { names = own; numbers = tt })
  asks (step.GetFileHandle dir name create bind) b = of-directory h.key kinds at found word.GetFileHandle dir (λ x. op.GetFileHandle x name create) (λ x own. record { names = own; numbers = tt })
  asks (step.RemoveEntry dir name recursive) b = of-directory h.key kinds at found word.RemoveEntry dir (λ x. op.RemoveEntry x name recursive) (λ x own. record { names = own; numbers = tt })
  asks (step.Values dir bind) b = of-directory h.key kinds at found word.Values dir (λ x. op.Values x) (λ x own. record { names = own; numbers = tt })
  asks (step.Next from bind) b = nexts h.key kinds (named_by h from) (found from)
  asks (step.Resolve dir entry) b = by-two h.key kinds word.Resolve (a_directory (named_by h dir)) (an_entry (named_by h entry)) (λ x y. op.Resolve x y) (λ x y. record { names = tt; numbers = tt })
  asks (step.IsSameEntry entry other) b = by-two h.key kinds word.IsSameEntry (an_entry (named_by h entry)) (an_entry (named_by h other)) (λ x y. op.IsSameEntry x y) (λ x y. record { names = tt; numbers = tt })
  asks (step.GetFile file bind) b = of-file h.key kinds at found word.GetFile file (λ x. op.GetFile x) (λ x own. record { names = own; numbers = tt })
  asks (step.Slice snapshot from len) b = of-snapshot h.key kinds at found word.Slice snapshot (λ n. op.Slice n from len) (λ n is. record { names = is; numbers = tt })
  asks (step.CreateWritable file keep bind) b = of-file h.key kinds at found word.CreateWritable file (λ x. op.CreateWritable x keep) (λ x own. record { names = own; numbers = tt })
  asks (step.Write stream bytes position) b =
      let parts = and_parts (is_variable stream && is_write bytes) (is_optional_number position) b in
      let small : length bytes ≤ 16777216 = leb-true (length bytes) 16777216 (and_parts (is_variable stream) (is_write bytes) parts.0).1 in
      of-stream h.key kinds at found word.Write stream (λ n. op.Write n bytes position) (λ n is. record { names = is; numbers = (small, place-small position parts.1) })
  asks (step.Seek stream position) b = of-stream h.key kinds at found word.Seek stream (λ n. op.Seek n position) (λ n is. record { names = is; numbers = tt })
  asks (step.Truncate stream size) b =
      of-stream h.key kinds at found word.Truncate stream (λ n. op.Truncate n size) (λ n is. record { names = is; numbers = leb-true size 9007199254740991 (and_parts (is_variable stream) (is_number size) b).1 })
  asks (step.Close stream) b = of-stream h.key kinds at found word.Close stream (λ n. op.Close n) (λ n is. record { names = is; numbers = tt })
  asks (step.Abort stream) b = of-stream h.key kinds at found word.Abort stream (λ n. op.Abort n) (λ n is. record { names = is; numbers = tt })
  asks (step.CreateSyncAccessHandle file read_only bind) b =
      of-file h.key kinds at found word.CreateSyncAccessHandle file (λ x. op.CreateSyncAccessHandle x (mode_of read_only)) (λ x own. record { names = own; numbers = tt })
  asks (step.SyncRead sync len place) b =
      let parts = and_parts (is_variable sync && is_read_length len) (is_optional_number place) b in
      let small = read-small len (and_parts (is_variable sync) (is_read_length len) parts.0).1 in
      of-handle h.key kinds at found word.SyncRead sync (λ n. op.SyncRead n len place) (λ n is. record { names = is; numbers = (small, place-small place parts.1) })
  asks (step.SyncWrite sync bytes place) b =
      let parts = and_parts (is_variable sync && is_write bytes) (is_optional_number place) b in
      let small : length bytes ≤ 16777216 = leb-true (length bytes) 16777216 (and_parts (is_variable sync) (is_write bytes) parts.0).1 in
      of-handle h.key kinds at found word.SyncWrite sync (λ n. op.SyncWrite n bytes place) (λ n is. record { names = is; numbers = (small, place-small place parts.1) })
  asks (step.SyncTruncate sync size) b =
      of-handle h.key kinds at found word.SyncTruncate sync (λ n. op.SyncTruncate n size) (λ n is. record { names = is; numbers = leb-true size 9007199254740991 (and_parts (is_variable sync) (is_number size) b).1 })
  asks (step.SyncGetSize sync) b = of-handle h.key kinds at found word.SyncGetSize sync (λ n. op.SyncGetSize n) (λ n is. record { names = is; numbers = tt })
  asks (step.SyncFlush sync) b = of-handle h.key kinds at found word.SyncFlush sync (λ n. op.SyncFlush n) (λ n is. record { names = is; numbers = tt })
  asks (step.SyncClose sync) b = of-handle h.key kinds at found word.SyncClose sync (λ n. op.SyncClose n) (λ n is. record { names = is; numbers = tt })
  asks (step.Persist bucket) b = record { names = tt; numbers = tt }
  asks (step.Persisted bucket) b = record { names = tt; numbers = tt }
  asks step.Estimate b = record { names = tt; numbers = tt }
  asks (step.Moment ms) b = record { names = tt; numbers = tt }
  asks (step.Post tag) b = record { names = tt; numbers = tt }
  asks (step.Await tag) b = record { names = tt; numbers = tt }

-- ---- waits

abbrev awaited_tag : Op → Option Text
awaited_tag (op.Await tag) = Some tag
awaited_tag o = None

no-tag-one : {A : Type 0} (w : Word) (x : Option A) (f : A → Op) → ((a : A) → awaited_tag (f a) ≡ None) → awaited_tag (called w x f) ≡ None
no-tag-one w None f each = refl
no-tag-one w (Some a) f each = each a

no-tag-two : {A B : Type 0} (w : Word) (x : Option A) (y : Option B) (f : A → B → Op) → ((a : A) (b : B) → awaited_tag (f a b) ≡ None) → awaited_tag (called_by_two w x y f) ≡ None
no-tag-two w (Some a) (Some b) f each = each a b
no-tag-two w (Some a) None f each = refl
no-tag-two w None y f each = refl

no-tag-next : (x : Option Named) → awaited_tag (next_op x) ≡ None
no-tag-next (Some (named.Iterator n dir)) = refl
no-tag-next (Some (named.Directory at)) = refl
no-tag-next (Some (named.File at)) = refl
no-tag-next (Some (named.Stream n)) = refl
no-tag-next (Some (named.Handle n)) = refl
no-tag-next (Some (named.Snapshot n)) = refl
no-tag-next None = refl

module _ (h : Hand) (n : ℕ) (tag : Text) (e : Entry) (number : e.number ≡ n) (wait : e.op ≡ op.Wait tag) where
  never : (s : Step) → op_of h s ≡ op.Await tag → awaited_tag (op_of h s) ≡ None → ⊥
  never s is none = none-some (sym none ∙ ap awaited_tag is)
    where
      none-some : None ≡ Some tag → ⊥
      none-some e = cc

  pub waits : (s : Step) → op_of h s ≡ op.Await tag → IsWait h n s e
  waits (step.Await other) is = (number, wait ∙ ap op.Wait (sym (same is)))
    where
      same : op.Await other ≡ op.Await tag → other ≡ tag
      same e = some-same (ap awaited_tag e)
  waits (step.GetDirectory bucket bind) is = absurd (never (step.GetDirectory bucket bind) is refl)
  waits (step.GetDirectoryHandle dir name create bind) is = absurd (never (step.GetDirectoryHandle dir name create bind) is (no-tag-one word.GetDirectoryHandle (a_directory (named_by h dir)) (λ x. op.GetDirectoryHandle x name create) (λ a. refl)))
  waits (step.GetFileHandle dir name create bind) is = absurd (never (step.GetFileHandle dir name create bind) is (no-tag-one word.GetFileHandle (a_directory (named_by h dir)) (λ x. op.GetFileHandle x name create) (λ a. refl)))
  waits (step.RemoveEntry dir name recursive) is = absurd (never (step.RemoveEntry dir name recursive) is (no-tag-one word.RemoveEntry (a_directory (named_by h dir)) (λ x. op.RemoveEntry x name recursive) (λ a. refl)))
  waits (step.Values dir bind) is = absurd (never (step.Values dir bind) is (no-tag-one word.Values (a_directory (named_by h dir)) (λ x. op.Values x) (λ a. refl)))
  waits (step.Next from bind) is = absurd (never (step.Next from bind) is (no-tag-next (named_by h from)))
  waits (step.Resolve dir entry) is = absurd (never (step.Resolve dir entry) is (no-tag-two word.Resolve (a_directory (named_by h dir)) (an_entry (named_by h entry)) (λ x y. op.Resolve x y) (λ a b. refl)))
  waits (step.IsSameEntry entry other) is = absurd (never (step.IsSameEntry entry other) is (no-tag-two word.IsSameEntry (an_entry (named_by h entry)) (an_entry (named_by h other)) (λ x y. op.IsSameEntry x y) (λ a b. refl)))
  waits (step.GetFile file bind) is = absurd (never (step.GetFile file bind) is (no-tag-one word.GetFile (a_file (named_by h file)) (λ x. op.GetFile x) (λ a. refl)))
  waits (step.Slice snapshot at len) is = absurd (never (step.Slice snapshot at len) is (no-tag-one word.Slice (a_snapshot (named_by h snapshot)) (λ x. op.Slice x at len) (λ a. refl)))
  waits (step.CreateWritable file keep bind) is = absurd (never (step.CreateWritable file keep bind) is (no-tag-one word.CreateWritable (a_file (named_by h file)) (λ x. op.CreateWritable x keep) (λ a. refl)))
  waits (step.Write stream bytes position) is = absurd (never (step.Write stream bytes position) is (no-tag-one word.Write (a_stream (named_by h stream)) (λ x. op.Write x bytes position) (λ a. refl)))
  waits (step.Seek stream position) is = absurd (never (step.Seek stream position) is (no-tag-one word.Seek (a_stream (named_by h stream)) (λ x. op.Seek x position) (λ a. refl)))
  waits (step.Truncate stream size) is = absurd (never (step.Truncate stream size) is (no-tag-one word.Truncate (a_stream (named_by h stream)) (λ x. op.Truncate x size) (λ a. refl)))
  waits (step.Close stream) is = absurd (never (step.Close stream) is (no-tag-one word.Close (a_stream (named_by h stream)) (λ x. op.Close x) (λ a. refl)))
  waits (step.Abort stream) is = absurd (never (step.Abort stream) is (no-tag-one word.Abort (a_stream (named_by h stream)) (λ x. op.Abort x) (λ a. refl)))
  waits (step.CreateSyncAccessHandle file read_only bind) is = absurd (never (step.CreateSyncAccessHandle file read_only bind) is (no-tag-one word.CreateSyncAccessHandle (a_file (named_by h file)) (λ x. op.CreateSyncAccessHandle x (mode_of read_only)) (λ a. refl)))
  waits (step.SyncRead sync len at) is = absurd (never (step.SyncRead sync len at) is (no-tag-one word.SyncRead (a_handle (named_by h sync)) (λ x. op.SyncRead x len at) (λ a. refl)))
  waits (step.SyncWrite sync bytes at) is = absurd (never (step.SyncWrite sync bytes at) is (no-tag-one word.SyncWrite (a_handle (named_by h sync)) (λ x. op.SyncWrite x bytes at) (λ a. refl)))
  waits (step.SyncTruncate sync size) is = absurd (never (step.SyncTruncate sync size) is (no-tag-one word.SyncTruncate (a_handle (named_by h sync)) (λ x. op.SyncTruncate x size) (λ a. refl)))
  waits (step.SyncGetSize sync) is = absurd (never (step.SyncGetSize sync) is (no-tag-one word.SyncGetSize (a_handle (named_by h sync)) (λ x. op.SyncGetSize x) (λ a. refl)))
  waits (step.SyncFlush sync) is = absurd (never (step.SyncFlush sync) is (no-tag-one word.SyncFlush (a_handle (named_by h sync)) (λ x. op.SyncFlush x) (λ a. refl)))
  waits (step.SyncClose sync) is = absurd (never (step.SyncClose sync) is (no-tag-one word.SyncClose (a_handle (named_by h sync)) (λ x. op.SyncClose x) (λ a. refl)))
  waits (step.Persist bucket) is = absurd (never (step.Persist bucket) is refl)
  waits (step.Persisted bucket) is = absurd (never (step.Persisted bucket) is refl)
  waits step.Estimate is = absurd (never step.Estimate is refl)
  waits (step.Moment ms) is = absurd (never (step.Moment ms) is refl)
  waits (step.Post other) is = absurd (never (step.Post other) is refl)
