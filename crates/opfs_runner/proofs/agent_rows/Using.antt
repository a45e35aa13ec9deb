-- What calls use, by their words.
use Rattle.std.proofs.Common.{◌≡◌, ◌≢◌, ◌⊎◌, ℕ, zero, suc, ◌-◌, true, false, List, [], ◌∷◌, map, slice_set, Some, Result, Ok, Err, refl, sym, ap, ◌∙◌, inl, inr, arith}
use Rattle.std.specs.Prelude.{Option, slice_get}
use Rattle.opfs_base.specs.Texts.{Text}
use Rattle.opfs_base.specs.declared.locator.Locator.{Locator}
use Rattle.opfs_hist.specs.Sums.{asks_for_row}
use Rattle.opfs_hist.specs.declared.op.Op.{Op}
use Rattle.opfs_hist.specs.declared.op.Op.TheVariants as op
use Rattle.opfs_hist.specs.declared.reply.Reply.{Reply}
use Rattle.opfs_hist.specs.declared.reply.Reply.TheVariants as reply
use Rattle.opfs_laws.specs.Leaving.{row_used, asks_nobody}
use Rattle.opfs_turns.specs.declared.asking.stop.Stop.{Stop}
use Rattle.opfs_runner.specs.RunLaws.Kinds as rows
use Rattle.opfs_runner.specs.RunLaws.Kinds.{RowKind, sort_of, sort_at, kinds_changed, kinds_after, Names}
use Rattle.opfs_runner.specs.declared.agent_rows.agent_row.AgentRow.{AgentRow}
use Rattle.opfs_runner.specs.declared.agent_rows.uses.Use.TheVariants as uses
use Rattle.opfs_runner.specs.AgentRows.Spending.{IsDoneOr}
use Rattle.opfs_runner.specs.AgentRows.Tables.{kind_of, kinds_of, kinds_told, use_of, row_lent, IsLent, IsSpent, closed_of, kind_left}

some-same : {X : Type 0} {x y : X} → Some x ≡ Some y → x ≡ y
some-same e = cc

-- ---- the row that is lent or spent

-- A call uses the row that it is lent, or none.
used-or-none : (o : Op) → (row_used o ≡ row_lent o) ⊎ (row_used o ≡ 0)
used-or-none (op.Slice n at len) = inr refl
used-or-none o = inl refl

other-row : (o : Op) (i j : ℕ) → row_lent o ≡ suc i → j ≢ i → (row_used o ≡ row_lent o) ⊎ (row_used o ≡ 0) → suc j ≢ row_used o
other-row o i j is apart (inl same) = λ e. apart (omega (arith, e, same, is))
other-row o i j is apart (inr none) = λ e. absurd (omega (arith, e, none))

pub other-used : (o : Op) (i j : ℕ) → row_lent o ≡ suc i → j ≢ i → suc j ≢ row_used o
other-used o i j is apart = other-row o i j is apart (used-or-none o)

module _ (m : ℕ) where
  lent-same : {a b : ℕ} → uses.Lends a ≡ uses.Lends b → a ≡ b
  lent-same e = cc

  spent-same : {a b : ℕ} → uses.Spends a ≡ uses.Spends b → a ≡ b
  spent-same e = cc

  pub lends-row : (o : Op) → use_of o ≡ uses.Lends m → row_lent o ≡ m
  lends-row (op.Next n dir) p = lent-same p
  lends-row (op.Slice n at len) p = lent-same p
  lends-row (op.Write n bytes position) p = lent-same p
  lends-row (op.Seek n position) p = lent-same p
  lends-row (op.Truncate n size) p = lent-same p
  lends-row (op.SyncRead n len at) p = lent-same p
  lends-row (op.SyncWrite n bytes at) p = lent-same p
  lends-row (op.SyncTruncate n size) p = lent-same p
  lends-row (op.SyncGetSize n) p = lent-same p
  lends-row (op.SyncFlush n) p = lent-same p
  lends-row o p = absurd cc

  pub lends-none : (o : Op) → use_of o ≡ uses.Lends m → asks_for_row o ≡ false
  lends-none (op.Values dir) p = absurd cc
  lends-none (op.GetFile at) p = absurd cc
  lends-none (op.CreateWritable at keep) p = absurd cc
  lends-none (op.CreateSyncAccessHandle at mode) p = absurd cc
  lends-none o p = refl

  pub spends-row : (o : Op) → use_of o ≡ uses.Spends m → row_lent o ≡ m
  spends-row (op.Close n) p = spent-same p
  spends-row (op.Abort n) p = spent-same p
  spends-row (op.SyncClose n) p = spent-same p
  spends-row o p = absurd cc

  pub spends-none : (o : Op) → use_of o ≡ uses.Spends m → asks_for_row o ≡ false
  spends-none (op.Values dir) p = absurd cc
  spends-none (op.GetFile at) p = absurd cc
  spends-none (op.CreateWritable at keep) p = absurd cc
  spends-none (op.CreateSyncAccessHandle at mode) p = absurd cc
  spends-none o p = refl

module _ (key : Option Text) (kinds : List RowKind) where
  pub plain-row : (o : Op) → use_of o ≡ uses.Plain → Names key kinds o → row_used o ≡ 0
  plain-row (op.Next n dir) p names = absurd cc
  plain-row (op.Slice n at len) p names = absurd cc
  plain-row (op.Write n bytes position) p names = absurd cc
  plain-row (op.Seek n position) p names = absurd cc
  plain-row (op.Truncate n size) p names = absurd cc
  plain-row (op.SyncRead n len at) p names = absurd cc
  plain-row (op.SyncWrite n bytes at) p names = absurd cc
  plain-row (op.SyncTruncate n size) p names = absurd cc
  plain-row (op.SyncGetSize n) p names = absurd cc
  plain-row (op.SyncFlush n) p names = absurd cc
  plain-row (op.Close n) p names = absurd cc
  plain-row (op.Abort n) p names = absurd cc
  plain-row (op.SyncClose n) p names = absurd cc
  plain-row (op.Discard n) p names = absurd names
  plain-row o p names = refl

pub plain-none : (o : Op) → use_of o ≡ uses.Plain → asks_for_row o ≡ false
plain-none (op.Values dir) p = absurd cc
plain-none (op.GetFile at) p = absurd cc
plain-none (op.CreateWritable at keep) p = absurd cc
plain-none (op.CreateSyncAccessHandle at mode) p = absurd cc
plain-none o p = refl

pub makes-row : (o : Op) → use_of o ≡ uses.Makes → row_used o ≡ 0
makes-row (op.Values dir) p = refl
makes-row (op.GetFile at) p = refl
makes-row (op.CreateWritable at keep) p = refl
makes-row (op.CreateSyncAccessHandle at mode) p = refl
makes-row o p = absurd cc

pub makes-nobody : (o : Op) → use_of o ≡ uses.Makes → asks_nobody o ≡ true
makes-nobody (op.Values dir) p = refl
makes-nobody (op.GetFile at) p = refl
makes-nobody (op.CreateWritable at keep) p = refl
makes-nobody (op.CreateSyncAccessHandle at mode) p = refl
makes-nobody o p = absurd cc

-- ---- what the rows are then

after-same : (kinds : List RowKind) (o : Op) (r : Reply) → kinds_changed kinds o ≡ kinds → kinds_after kinds o r ≡ kinds
after-same kinds o (reply.No refusal) same = refl
after-same kinds o r same = same

told-same : (kinds : List RowKind) (o : Op) (r : Result Reply Stop) → kinds_changed kinds o ≡ kinds → kinds_told kinds o r ≡ kinds
told-same kinds o (Ok answered) same = after-same kinds o answered same
told-same kinds o (Err why) same = refl

module _ (m : ℕ) (kinds : List RowKind) where
  lends-changed : (o : Op) → use_of o ≡ uses.Lends m → kinds_changed kinds o ≡ kinds
  lends-changed (op.Values dir) p = absurd cc
  lends-changed (op.GetFile at) p = absurd cc
  lends-changed (op.CreateWritable at keep) p = absurd cc
  lends-changed (op.CreateSyncAccessHandle at mode) p = absurd cc
  lends-changed (op.Close n) p = absurd cc
  lends-changed (op.Abort n) p = absurd cc
  lends-changed (op.SyncClose n) p = absurd cc
  lends-changed o p = refl

  pub lends-told : (o : Op) (r : Result Reply Stop) → use_of o ≡ uses.Lends m → kinds ≡ kinds_told kinds o r
  lends-told o r is = sym (told-same kinds o r (lends-changed o is))

-- ---- the agent_row of a row

map-get : {A B : Type 0} (f : A → B) (xs : List A) (i : ℕ) (y : B) → slice_get (map f xs) i ≡ Some y → (x : A) × (slice_get xs i ≡ Some x) × (f x ≡ y)
map-get f [] i y is = absurd cc
map-get f (x ∷ xs) zero y is = (x, refl, some-same is)
map-get f (x ∷ xs) (suc i) y is = map-get f xs i y is

-- The agent_row of a row that is of a sort.
pub record IsAgentRowAt (agent_rows : List AgentRow) (n : ℕ) (Fits : RowKind → Type 0) : Type 0 where
  pub place : ℕ
  pub is : n ≡ suc place
  pub agent_row : AgentRow
  pub there : slice_get agent_rows place ≡ Some agent_row
  pub fits : Fits (kind_of agent_row)

pub sort-agent_row : (agent_rows : List AgentRow) (n : ℕ) (k : RowKind) → sort_at (kinds_of agent_rows) n ≡ Some k → IsAgentRowAt agent_rows n (λ kind. sort_of kind ≡ k)
sort-agent_row agent_rows zero k is = absurd cc
sort-agent_row agent_rows (suc i) k is =
    let sorted = map-get sort_of (kinds_of agent_rows) i k is in
    let found = map-get kind_of agent_rows i sorted.0 sorted.1 in
    record { place = i; is = refl; agent_row = found.0; there = found.1; fits = ap sort_of found.2 ∙ sorted.2 }

agent_row-fits : (agent_rows : List AgentRow) (n : ℕ) (P Q : RowKind → Type 0) → ((kind : RowKind) → P kind → Q kind) → IsAgentRowAt agent_rows n P → IsAgentRowAt agent_rows n Q
agent_row-fits agent_rows n P Q goes h = record { place = h.place; is = h.is; agent_row = h.agent_row; there = h.there; fits = goes (kind_of h.agent_row) h.fits }

iterator-sort : (dir : Locator) (kind : RowKind) → sort_of kind ≡ rows.iterator dir → kind ≡ rows.iterator dir
iterator-sort dir (rows.iterator at) is = is
iterator-sort dir kind is = absurd cc

pub snapshot-sort : (kind : RowKind) → sort_of kind ≡ rows.snapshot → kind ≡ rows.snapshot
snapshot-sort rows.snapshot is = refl
snapshot-sort kind is = absurd cc

module _ (key : Option Text) (agent_rows : List AgentRow) (m : ℕ) where
  -- A call that is lent a row finds it.
  pub lent-agent_row : (o : Op) → use_of o ≡ uses.Lends m → Names key (kinds_of agent_rows) o → IsAgentRowAt agent_rows (row_lent o) (IsLent o)
  lent-agent_row (op.Write n bytes position) p names = sort-agent_row agent_rows n rows.stream names
  lent-agent_row (op.Seek n position) p names = sort-agent_row agent_rows n rows.stream names
  lent-agent_row (op.Truncate n size) p names = sort-agent_row agent_rows n rows.stream names
  lent-agent_row (op.SyncRead n len at) p names = sort-agent_row agent_rows n rows.handle names
  lent-agent_row (op.SyncWrite n bytes at) p names = sort-agent_row agent_rows n rows.handle names
  lent-agent_row (op.SyncTruncate n size) p names = sort-agent_row agent_rows n rows.handle names
  lent-agent_row (op.SyncGetSize n) p names = sort-agent_row agent_rows n rows.handle names
  lent-agent_row (op.SyncFlush n) p names = sort-agent_row agent_rows n rows.handle names
  lent-agent_row (op.Slice n at len) p names = agent_row-fits agent_rows n _ _ snapshot-sort (sort-agent_row agent_rows n rows.snapshot names)
  lent-agent_row (op.Next n dir) p names = agent_row-fits agent_rows n _ _ (iterator-sort dir) (sort-agent_row agent_rows n (rows.iterator dir) names.0)
  lent-agent_row o p names = absurd cc

  -- The same of one that spends it.
  pub spent-agent_row : (o : Op) → use_of o ≡ uses.Spends m → Names key (kinds_of agent_rows) o → IsAgentRowAt agent_rows (row_lent o) (IsSpent o)
  spent-agent_row (op.Close n) p names = sort-agent_row agent_rows n rows.stream names
  spent-agent_row (op.Abort n) p names = sort-agent_row agent_rows n rows.stream names
  spent-agent_row (op.SyncClose n) p names = sort-agent_row agent_rows n rows.handle names
  spent-agent_row o p names = absurd cc

-- ---- the kinds after a row is put back

pub map-set : {A B : Type 0} (f : A → B) (xs : List A) (i : ℕ) (x : A) → map f (slice_set xs i x) ≡ slice_set (map f xs) i (f x)
map-set f [] i x = refl
map-set f (y ∷ xs) zero x = refl
map-set f (y ∷ xs) (suc i) x = ap (λ zs. f y ∷ zs) (map-set f xs i x)

set-same : {X : Type 0} (xs : List X) (i : ℕ) (x y : X) → slice_get xs i ≡ Some x → y ≡ x → slice_set xs i y ≡ xs
set-same [] i x y is same = refl
set-same (z ∷ xs) zero x y is same = ap (λ w. w ∷ xs) (same ∙ sym (some-same is))
set-same (z ∷ xs) (suc i) x y is same = ap (λ zs. z ∷ zs) (set-same xs i x y is same)

map-there : {A B : Type 0} (f : A → B) (xs : List A) (i : ℕ) (x : A) → slice_get xs i ≡ Some x → slice_get (map f xs) i ≡ Some (f x)
map-there f [] i x is = absurd cc
map-there f (y ∷ xs) zero x is = ap (λ z. Some (f z)) (some-same is)
map-there f (y ∷ xs) (suc i) x is = map-there f xs i x is

pub kinds-kept : (agent_rows : List AgentRow) (i : ℕ) (old new : AgentRow) → slice_get agent_rows i ≡ Some old → kind_of new ≡ kind_of old → kinds_of (slice_set agent_rows i new) ≡ kinds_of agent_rows
kinds-kept agent_rows i old new there same = map-set kind_of agent_rows i new ∙ set-same (kinds_of agent_rows) i (kind_of old) (kind_of new) (map-there kind_of agent_rows i old there) same

closed-stream : (kind : RowKind) → sort_of kind ≡ rows.stream → closed_of kind ≡ rows.closed_stream
closed-stream rows.stream is = refl
closed-stream rows.closed_stream is = refl
closed-stream kind is = absurd cc

closed-handle : (kind : RowKind) → sort_of kind ≡ rows.handle → closed_of kind ≡ rows.closed_handle
closed-handle rows.handle is = refl
closed-handle rows.closed_handle is = refl
closed-handle kind is = absurd cc

kinds-closed : (agent_rows : List AgentRow) (i : ℕ) (new : AgentRow) (c : RowKind) → kind_of new ≡ c → kinds_of (slice_set agent_rows i new) ≡ slice_set (kinds_of agent_rows) i c
kinds-closed agent_rows i new c is = map-set kind_of agent_rows i new ∙ ap (slice_set (kinds_of agent_rows) i) is

less-one : (n i : ℕ) → n ≡ suc i → i ≡ n - 1
less-one n i is = omega (arith, is)

module _ (agent_rows : List AgentRow) (i : ℕ) (new : AgentRow) (kind : RowKind) (is : kind_of new ≡ closed_of kind) where
  spent-kinds : (o : Op) → IsSpent o kind → row_lent o ≡ suc i → kinds_of (slice_set agent_rows i new) ≡ kinds_changed (kinds_of agent_rows) o
  spent-kinds (op.Close n) p at = kinds-closed agent_rows i new rows.closed_stream (is ∙ closed-stream kind p) ∙ ap (λ j. slice_set (kinds_of agent_rows) j rows.closed_stream) (less-one n i at)
  spent-kinds (op.Abort n) p at = kinds-closed agent_rows i new rows.closed_stream (is ∙ closed-stream kind p) ∙ ap (λ j. slice_set (kinds_of agent_rows) j rows.closed_stream) (less-one n i at)
  spent-kinds (op.SyncClose n) p at = kinds-closed agent_rows i new rows.closed_handle (is ∙ closed-handle kind p) ∙ ap (λ j. slice_set (kinds_of agent_rows) j rows.closed_handle) (less-one n i at)
  spent-kinds o p at = absurd p

-- A row that was spent is closed, or as it was.
pub spent-told : (agent_rows : List AgentRow) (i : ℕ) (old new : AgentRow) (o : Op) (r : Result Reply Stop) → slice_get agent_rows i ≡ Some old → IsSpent o (kind_of old) → row_lent o ≡ suc i
    → kind_of new ≡ kind_left (kind_of old) r → IsDoneOr r → kinds_of (slice_set agent_rows i new) ≡ kinds_told (kinds_of agent_rows) o r
spent-told agent_rows i old new o (Ok answered) there spent row is done =
    spent-kinds agent_rows i new (kind_of old) is o spent row ∙ ap (kinds_after (kinds_of agent_rows) o) (sym done)
spent-told agent_rows i old new o (Err why) there spent row is done = kinds-kept agent_rows i old new there is
