-- What it is for entries to be the run of a script. This project's own.
use Rattle.std.specs.Prelude.{◌≡◌, ℕ, zero, suc, ◌+◌, ◌==◌, Bool, true, false, not, List, [], ◌∷◌, ◌++◌, filter, Option, Some, None}
use Rattle.std.specs.FinMap.Entries.{put, find}
use Rattle.std.specs.Ordering.{nat_cmp}
use Rattle.std.specs.Cmp.Lexicographic.{slice_cmp}
use Rattle.opfs_base.specs.Texts.{Text}
use Rattle.opfs_base.specs.Places.{child_of}
use Rattle.opfs_base.specs.Units.{unit_of}
use Rattle.opfs_base.specs.declared.locator.Kind.{Kind}
use Rattle.opfs_base.specs.declared.locator.Kind.TheVariants as kind
use Rattle.opfs_base.specs.declared.locator.Locator.{Locator}
use Rattle.opfs_hist.specs.declared.entry.Entry.{Entry}
use Rattle.opfs_hist.specs.declared.op.Mode.{Mode}
use Rattle.opfs_hist.specs.declared.op.Mode.TheVariants as mode
use Rattle.opfs_hist.specs.declared.op.Op.{Op}
use Rattle.opfs_hist.specs.declared.op.Op.TheVariants as op
use Rattle.opfs_hist.specs.declared.op.Word.{Word}
use Rattle.opfs_hist.specs.declared.op.Word.TheVariants as word
use Rattle.opfs_hist.specs.declared.reply.Reply.{Reply}
use Rattle.opfs_hist.specs.declared.reply.Reply.TheVariants as reply
use Rattle.opfs_script.specs.declared.step.Step.{Step}
use Rattle.opfs_script.specs.declared.step.Step.TheVariants as step
use Rattle.opfs_script.specs.Scripts.{Asked}
use Rattle.opfs_script_run.specs.declared.runs.hand.Hand.{Hand}
use Rattle.opfs_script_run.specs.declared.runs.hand.Named.{Named}
use Rattle.opfs_script_run.specs.declared.runs.hand.Named.TheVariants as named
use Rattle.opfs_script_run.specs.declared.runs.hand.Open.{Open}
use Rattle.opfs_script_run.specs.declared.runs.hand.Open.TheVariants as opened

-- The hand in which a script begins.
abbrev pub empty_hand : Option Text → Hand
empty_hand key = record { key = key; bound = []; rows = 0; opened = [] }

-- What a variable names.
abbrev pub named_by : Hand → Text → Option Named
named_by h variable = find (slice_cmp nat_cmp) variable h.bound

-- The hand with a variable bound anew.
abbrev pub binds : Hand → Text → Named → Hand
binds h variable x = record h { bound = put (slice_cmp nat_cmp) variable x h.bound }

abbrev pub a_directory : Option Named → Option Locator
a_directory (Some (named.Directory at)) = Some at
a_directory x = None

abbrev pub a_file : Option Named → Option Locator
a_file (Some (named.File at)) = Some at
a_file x = None

abbrev pub an_entry : Option Named → Option Locator
an_entry (Some (named.Directory at)) = Some at
an_entry (Some (named.File at)) = Some at
an_entry x = None

abbrev pub a_stream : Option Named → Option ℕ
a_stream (Some (named.Stream n)) = Some n
a_stream x = None

abbrev pub a_handle : Option Named → Option ℕ
a_handle (Some (named.Handle n)) = Some n
a_handle x = None

abbrev pub a_snapshot : Option Named → Option ℕ
a_snapshot (Some (named.Snapshot n)) = Some n
a_snapshot x = None

abbrev pub next_op : Option Named → Op
next_op (Some (named.Iterator n dir)) = op.Next n dir
next_op x = op.Unbound word.Next

-- The call, or Unbound where the variable is not of its kind.
abbrev pub called : {A : Type 0} → Word → Option A → (A → Op) → Op
called w None f = op.Unbound w
called w (Some x) f = f x

abbrev pub called_by_two : {A B : Type 0} → Word → Option A → Option B → (A → B → Op) → Op
called_by_two w (Some x) (Some y) f = f x y
called_by_two w x y f = op.Unbound w

abbrev pub mode_of : Bool → Mode
mode_of true = mode.ReadOnly
mode_of false = mode.ReadWrite

-- What a step asks, with its variables replaced by what they name.
abbrev pub op_of : Hand → Step → Op
op_of h (step.GetDirectory bucket bind) = op.GetDirectory bucket
op_of h (step.GetDirectoryHandle dir name create bind) =
    called word.GetDirectoryHandle (a_directory (named_by h dir)) (λ at. op.GetDirectoryHandle at name create)
op_of h (step.GetFileHandle dir name create bind) =
    called word.GetFileHandle (a_directory (named_by h dir)) (λ at. op.GetFileHandle at name create)
op_of h (step.RemoveEntry dir name recursive) =
    called word.RemoveEntry (a_directory (named_by h dir)) (λ at. op.RemoveEntry at name recursive)
op_of h (step.Values dir bind) = called word.Values (a_directory (named_by h dir)) (λ at. op.Values at)
op_of h (step.Next from bind) = next_op (named_by h from)
op_of h (step.Resolve dir entry) =
    called_by_two word.Resolve (a_directory (named_by h dir)) (an_entry (named_by h entry)) (λ at to. op.Resolve at to)
op_of h (step.IsSameEntry entry other) =
    called_by_two word.IsSameEntry (an_entry (named_by h entry)) (an_entry (named_by h other)) (λ a b. op.IsSameEntry a b)
op_of h (step.GetFile file bind) = called word.GetFile (a_file (named_by h file)) (λ at. op.GetFile at)
op_of h (step.Slice snapshot at len) = called word.Slice (a_snapshot (named_by h snapshot)) (λ n. op.Slice n at len)
op_of h (step.CreateWritable file keep bind) =
    called word.CreateWritable (a_file (named_by h file)) (λ at. op.CreateWritable at keep)
op_of h (step.Write stream bytes position) =
    called word.Write (a_stream (named_by h stream)) (λ n. op.Write n bytes position)
op_of h (step.Seek stream position) = called word.Seek (a_stream (named_by h stream)) (λ n. op.Seek n position)
op_of h (step.Truncate stream size) = called word.Truncate (a_stream (named_by h stream)) (λ n. op.Truncate n size)
op_of h (step.Close stream) = called word.Close (a_stream (named_by h stream)) (λ n. op.Close n)
op_of h (step.Abort stream) = called word.Abort (a_stream (named_by h stream)) (λ n. op.Abort n)
op_of h (step.CreateSyncAccessHandle file read_only bind) =
    called word.CreateSyncAccessHandle (a_file (named_by h file)) (λ at. op.CreateSyncAccessHandle at (mode_of read_only))
op_of h (step.SyncRead sync len at) = called word.SyncRead (a_handle (named_by h sync)) (λ n. op.SyncRead n len at)
op_of h (step.SyncWrite sync bytes at) = called word.SyncWrite (a_handle (named_by h sync)) (λ n. op.SyncWrite n bytes at)
op_of h (step.SyncTruncate sync size) = called word.SyncTruncate (a_handle (named_by h sync)) (λ n. op.SyncTruncate n size)
op_of h (step.SyncGetSize sync) = called word.SyncGetSize (a_handle (named_by h sync)) (λ n. op.SyncGetSize n)
op_of h (step.SyncFlush sync) = called word.SyncFlush (a_handle (named_by h sync)) (λ n. op.SyncFlush n)
op_of h (step.SyncClose sync) = called word.SyncClose (a_handle (named_by h sync)) (λ n. op.SyncClose n)
op_of h (step.Persist bucket) = op.Persist bucket
op_of h (step.Persisted bucket) = op.Persisted bucket
op_of h step.Estimate = op.Estimate
op_of h (step.Moment ms) = op.Moment ms
op_of h (step.Post tag) = op.Post tag
op_of h (step.Await tag) = op.Await tag

-- The hand with one more row, which a variable names.
abbrev pub makes_row : Hand → Text → (ℕ → Named) → Hand
makes_row h bind x = record (binds h bind (x (h.rows + 1))) { rows = h.rows + 1 }

-- The hand with one more row, which is open.
abbrev pub opens_row : Hand → Text → (ℕ → Named) → (ℕ → Open) → Hand
opens_row h bind x o = record (makes_row h bind x) { opened = h.opened ++ o (h.rows + 1) ∷ [] }

abbrev pub is_row : ℕ → Open → Bool
is_row n (opened.Stream m) = n == m
is_row n (opened.Handle m) = n == m

-- The hand with a row no longer open.
abbrev pub closes_row : Hand → ℕ → Hand
closes_row h n = record h { opened = filter (λ o. not (is_row n o)) h.opened }

-- What a bucket's root is bound as.
abbrev pub binds_root : Hand → Text → Text → Option Text → Hand
binds_root h bind bucket None = h
binds_root h bind bucket (Some origin) =
    binds h bind (named.Directory (record { key = unit_of origin bucket; path = []; kind = kind.Directory }))

abbrev pub handle_named : Kind → Locator → Named
handle_named kind.Directory at = named.Directory at
handle_named kind.File at = named.File at

-- What a child that an iterator gave is bound as.
abbrev pub binds_child : Hand → Text → Locator → Reply → Hand
binds_child h bind dir (reply.Child k name) = binds h bind (handle_named k (child_of dir name k))
binds_child h bind dir r = h

abbrev pub bind_name : Step → Text
bind_name (step.GetDirectory bucket bind) = bind
bind_name (step.GetDirectoryHandle dir name create bind) = bind
bind_name (step.GetFileHandle dir name create bind) = bind
bind_name (step.Values dir bind) = bind
bind_name (step.Next from bind) = bind
bind_name (step.GetFile file bind) = bind
bind_name (step.CreateWritable file keep bind) = bind
bind_name (step.CreateSyncAccessHandle file read_only bind) = bind
bind_name s = []

-- The hand after a call that was not refused.
abbrev pub hand_after : Hand → Text → Op → Reply → Hand
hand_after h bind (op.GetDirectory bucket) r = binds_root h bind bucket h.key
hand_after h bind (op.GetDirectoryHandle dir name create) r =
    binds h bind (named.Directory (child_of dir name kind.Directory))
hand_after h bind (op.GetFileHandle dir name create) r = binds h bind (named.File (child_of dir name kind.File))
hand_after h bind (op.Values dir) r = makes_row h bind (λ n. named.Iterator n dir)
hand_after h bind (op.Next n dir) r = binds_child h bind dir r
hand_after h bind (op.GetFile at) r = makes_row h bind named.Snapshot
hand_after h bind (op.CreateWritable at keep) r = opens_row h bind named.Stream opened.Stream
hand_after h bind (op.CreateSyncAccessHandle at m) r = opens_row h bind named.Handle opened.Handle
hand_after h bind (op.Close n) r = closes_row h n
hand_after h bind (op.Abort n) r = closes_row h n
hand_after h bind (op.SyncClose n) r = closes_row h n
hand_after h bind o r = h

-- The hand after a call: a refused one binds nothing.
abbrev pub hand_then : Hand → Step → Op → Reply → Hand
hand_then h s o (reply.No refusal) = h
hand_then h s o r = hand_after h (bind_name s) o r

-- What a script's end does to what is open.
abbrev pub ending : Open → Op
ending (opened.Stream n) = op.Abort n
ending (opened.Handle n) = op.Discard n

-- The entries of the end, from a number on: each open row ends in order, and then the script.
abbrev pub IsEnd : ℕ → List Open → List Entry → Type 0
IsEnd n rows [] = ⊥
IsEnd n [] (e ∷ es) = (e.number ≡ n) × (e.op ≡ op.End) × (es ≡ [])
IsEnd n (o ∷ rows) (e ∷ es) = (e.number ≡ n) × (e.op ≡ ending o) × IsEnd (n + 1) rows es

-- Whether an entry begins a wait.
abbrev pub is_wait : Op → Bool
is_wait (op.Wait tag) = true
is_wait o = false

-- The entry of a step, with its number.
abbrev pub IsStep : Hand → ℕ → Step → Entry → Type 0
IsStep h n s e = (e.number ≡ n) × (e.op ≡ op_of h s)

-- A wait before the entry of a step: that step is an await of the same tag.
abbrev pub IsWait : Hand → ℕ → Step → Entry → Type 0
IsWait h n (step.Await tag) e = (e.number ≡ n) × (e.op ≡ op.Wait tag)
IsWait h n s e = ⊥

-- The entries of a script from a step on, where a wait for it may stand already: for each step in order one entry,
-- before an await's at most one wait, and then the end.
abbrev pub IsRunFrom : Hand → ℕ → Bool → List Step → List Entry → Type 0
IsRunFrom h n waited steps [] = ⊥
IsRunFrom h n waited [] (e ∷ es) = IsEnd n h.opened (e ∷ es)
IsRunFrom h n waited (s ∷ steps) (e ∷ es) = elim (is_wait e.op) [
  | true ↦ (waited ≡ false) × IsWait h n s e × IsRunFrom h n true (s ∷ steps) es
  | false ↦ IsStep h n s e × IsRunFrom (hand_then h s e.op e.reply) (n + 1) false steps es
]

-- The entries of an agent are its script's run.
abbrev pub IsRun : Asked → List Entry → Type 0
IsRun asked es = IsRunFrom (empty_hand asked.key) 1 false asked.steps es

-- The entries of a script of which so many steps are run: those of these steps, at most one wait for the next, and the
-- end.
abbrev pub IsCutFrom : Hand → ℕ → Bool → ℕ → List Step → List Entry → Type 0
IsCutFrom h n waited left steps [] = ⊥
IsCutFrom h n waited left [] (e ∷ es) = IsEnd n h.opened (e ∷ es)
IsCutFrom h n waited zero (s ∷ steps) (e ∷ es) = elim (is_wait e.op) [
  | true ↦ (waited ≡ false) × IsWait h n s e × IsEnd n h.opened es
  | false ↦ IsEnd n h.opened (e ∷ es)
]
IsCutFrom h n waited (suc left) (s ∷ steps) (e ∷ es) = elim (is_wait e.op) [
  | true ↦ (waited ≡ false) × IsWait h n s e × IsCutFrom h n true (suc left) (s ∷ steps) es
  | false ↦ IsStep h n s e × IsCutFrom (hand_then h s e.op e.reply) (n + 1) false left steps es
]

-- The entries of an agent are those of a front of its script, as want of memory leaves it.
abbrev pub IsCut : Asked → List Entry → Type 0
IsCut asked es = (left : ℕ) × IsCutFrom (empty_hand asked.key) 1 false left asked.steps es

-- The entries of the agent of a number.
abbrev pub entries_of : ℕ → List Entry → List Entry
entries_of k es = filter (λ e. e.agent == k) es
