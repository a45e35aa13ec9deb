-- Which kind a call is of, word by word.
use Rattle.std.proofs.Common.{◌≡◌, ℕ, Bool, true, false, not, ◌&&◌, cond, [], Option, Some, None, option_map, is_some, refl, sym, ap, ◌∙◌}
use Rattle.std.proofs.lemmas.Bool.{false≢true}
use Rattle.opfs_store.specs.Acts.Acting.{always_acts}
use Rattle.opfs_base.specs.Measures.{mode_charge}
use Rattle.opfs_base.specs.Places.{Place, place_of, child}
use Rattle.opfs_base.specs.Texts.{Text}
use Rattle.opfs_base.specs.Units.{unit_of}
use Rattle.opfs_base.specs.declared.locator.Kind.{Kind}
use Rattle.opfs_base.specs.declared.locator.Kind.TheVariants as sort
use Rattle.opfs_base.specs.declared.locator.Locator.{Locator}
use Rattle.opfs_state_rows.specs.Changes.Asking.{free_in, growth_of, made_at, makes_row, mode_growth, root_in, root_place, row_growth, target_of, where_free}
use Rattle.opfs_desk_contents.specs.Words.{flushes_nothing, stores_row}
use Rattle.opfs_desk_entries.specs.Releases.Leaving.{leaves_row}
use Rattle.opfs_desk_entries.specs.Buckets.Estimating.{is_estimate}
use Rattle.opfs_desk_entries.specs.Buckets.Granting.{gives_among, gives_mode}
use Rattle.opfs_desk_entries.specs.KeptBack.Keeping.{keeps_back, makes_root}
use Rattle.opfs_desk_entries.specs.Answers.Next.{is_next}
use Rattle.opfs_desk_entries.specs.Answers.Telling.{is_done, is_of_mode}
use Rattle.opfs_desk_bytes.specs.Reading.Words.{gets_file, reads_row}
use Rattle.opfs_desk_steps.specs.RowLaws.Opens.{opens_row}
use Rattle.opfs_desk_steps.specs.RowLaws.Puts.{puts_row}
use Rattle.opfs_hist.specs.declared.op.Op.{Op}
use Rattle.opfs_hist.specs.declared.op.Op.TheVariants as op
use Rattle.opfs_machine.specs.declared.state.Row.{Row}
use Rattle.opfs_machine.specs.Agents.{agent_of}
use Rattle.opfs_machine.specs.Rows.{row_at}
use Rattle.opfs_machine.specs.Sums.{is_persistent}
use Rattle.opfs_state_rows.specs.Standing.Seen.{Machine}
use Rattle.opfs_desk.specs.Dispatch.Kinds.{IsOfKind}
use Rattle.opfs_desk.specs.declared.dispatch.kinds.CallKind.{CallKind}
use Rattle.opfs_desk.specs.declared.dispatch.kinds.CallKind.TheVariants as kind

-- ---- what makes a row, or finds it there

pub told-made : (m : Machine) (k : ℕ) (o : Op) → makes_row o ≡ true → growth_of m k o ≡ 0 → IsOfKind kind.Told m k o
told-made m k (op.GetDirectory bucket) h none = (refl, record { word = refl; nothing = none })
told-made m k (op.GetDirectoryHandle dir name create) h none = (refl, record { word = refl; nothing = none })
told-made m k (op.GetFileHandle dir name create) h none = (refl, record { word = refl; nothing = none })
told-made m k o h none = absurd (false≢true h)

free-by : (r : Option (Row ℕ)) (e : Place × Kind) → (row_growth (where_free r e) ≡ 0 → ⊥) → not (is_some r) ≡ true
free-by None e some = refl
free-by (Some r) e some = absurd (some refl)

root-by : (m : Machine) (bucket : Text) (key : Option Text) → (row_growth (free_in m (root_in (option_map (λ origin. unit_of origin bucket) key))) ≡ 0 → ⊥) → makes_root m bucket key ≡ true
root-by m bucket None some = absurd (some refl)
root-by m bucket (Some origin) some = free-by (row_at m (unit_of origin bucket, [])) ((unit_of origin bucket, []), sort.Directory) some

pub kept-made : (m : Machine) (k : ℕ) (o : Op) → makes_row o ≡ true → (growth_of m k o ≡ 0 → ⊥) → IsOfKind kind.Kept m k o
unfolding growth_of made_at
kept-made m k (op.GetDirectory bucket) h some = root-by m bucket (agent_of m k).key some
kept-made m k (op.GetDirectoryHandle dir name create) h some = free-by (row_at m (child (place_of dir) name)) (child (place_of dir) name, sort.Directory) some
kept-made m k (op.GetFileHandle dir name create) h some = free-by (row_at m (child (place_of dir) name)) (child (place_of dir) name, sort.File) some
kept-made m k o h some = absurd (false≢true h)

-- ---- what makes none

abbrev pub is_waiting : Op → Bool
is_waiting (op.Post tag) = true
is_waiting (op.Await tag) = true
is_waiting (op.Wait tag) = true
is_waiting op.End = true
is_waiting o = false

pub told-waiting : (m : Machine) (k : ℕ) (o : Op) → is_waiting o ≡ true → IsOfKind kind.Told m k o
unfolding growth_of made_at
told-waiting m k (op.Post tag) h = (refl, record { word = refl; nothing = refl })
told-waiting m k (op.Await tag) h = (refl, record { word = refl; nothing = refl })
told-waiting m k (op.Wait tag) h = (refl, record { word = refl; nothing = refl })
told-waiting m k op.End h = (refl, record { word = refl; nothing = refl })
told-waiting m k o h = absurd (false≢true h)

abbrev pub is_persisted : Op → Bool
is_persisted (op.Persisted bucket) = true
is_persisted o = false

pub mode-asked : (m : Machine) (k : ℕ) (o : Op) → is_persisted o ≡ true → IsOfKind kind.Persisted m k o
unfolding growth_of made_at
mode-asked m k (op.Persisted bucket) h = (refl, record { word = refl; nothing = refl })
mode-asked m k o h = absurd (false≢true h)

-- ---- persist

not-there : (b : Bool) (charge : ℕ) → (cond b 0 charge ≡ 0 → ⊥) → (true && not b) ≡ true
not-there true charge some = absurd (some refl)
not-there false charge some = refl

given-by : (m : Machine) (grant : Bool) (bucket : Text) (key : Option Text) → (mode_growth m (cond grant (root_place (option_map (λ origin. unit_of origin bucket) key)) None) ≡ 0 → ⊥) → gives_among m.persistent grant bucket key ≡ true
given-by m true bucket None some = absurd (some refl)
given-by m false bucket None some = absurd (some refl)
given-by m false bucket (Some origin) some = absurd (some refl)
given-by m true bucket (Some origin) some = not-there (is_persistent m (unit_of origin bucket)) (mode_charge (unit_of origin bucket)) some

pub mode-given : (m : Machine) (k : ℕ) (bucket : Text) → (growth_of m k (op.Persist bucket) ≡ 0 → ⊥) → IsOfKind kind.Given m k (op.Persist bucket)
unfolding growth_of target_of
mode-given m k bucket some = given-by m (agent_of m k).grant bucket (agent_of m k).key some

-- ---- only next has names that its iterator has given

not-next : (p : Op → Bool) → ((n : ℕ) (dir : Locator) → p (op.Next n dir) ≡ false) → (o : Op) → p o ≡ true → is_next o ≡ false
not-next p none (op.Next n dir) h = absurd (false≢true (sym (none n dir) ∙ h))
not-next p none o h = refl

abbrev pub is_child : CallKind → Bool
is_child kind.Next = true
is_child k = false

pub other-kind : (x : CallKind) (m : Machine) (k : ℕ) (o : Op) → is_child x ≡ false → IsOfKind x m k o → is_next o ≡ false
other-kind kind.Told m k o h is = not-next is_done (λ n dir. refl) o is.0
other-kind kind.Persisted m k o h is = not-next is_of_mode (λ n dir. refl) o is.0
other-kind kind.Given m k o h is = not-next (gives_mode m k) (λ n dir. refl) o is
other-kind kind.Next m k o h is = absurd (false≢true (sym h))
other-kind kind.Estimate m k o h is = not-next is_estimate (λ n dir. refl) o is
other-kind kind.Kept m k o h is = not-next (keeps_back m k) (λ n dir. refl) o is
other-kind kind.GetFile m k o h is = not-next gets_file (λ n dir. refl) o is
other-kind kind.Opened m k o h is = not-next opens_row (λ n dir. refl) o is
other-kind kind.Put m k o h is = not-next puts_row (λ n dir. refl) o is
other-kind kind.SyncRead m k o h is = not-next reads_row (λ n dir. refl) o is
other-kind kind.Stored m k o h is = not-next (stores_row m k) (λ n dir. refl) o is
other-kind kind.Idle m k o h is = not-next (flushes_nothing m k) (λ n dir. refl) o is
other-kind kind.Left m k o h is = not-next (leaves_row m k) (λ n dir. refl) o is

-- ---- calls that end what is open, or the agent, take no memory

abbrev pub takes_memory : CallKind → Bool
takes_memory kind.Told = false
takes_memory kind.Left = false
takes_memory k = true

not-ending : (p : Op → Bool) → ((n : ℕ) → p (op.Abort n) ≡ false) → ((n : ℕ) → p (op.Discard n) ≡ false) → p op.End ≡ false → (o : Op) → always_acts o ≡ true → p o ≡ true → ⊥
not-ending p abort discard end (op.Abort n) h is = false≢true (sym (abort n) ∙ is)
not-ending p abort discard end (op.Discard n) h is = false≢true (sym (discard n) ∙ is)
not-ending p abort discard end op.End h is = false≢true (sym end ∙ is)
not-ending p abort discard end o h is = false≢true h

pub never-ends : (x : CallKind) (m : Machine) (k : ℕ) (o : Op) → takes_memory x ≡ true → IsOfKind x m k o → always_acts o ≡ true → ⊥
never-ends kind.Told m k o h is end = false≢true h
never-ends kind.Left m k o h is end = false≢true h
never-ends kind.Persisted m k o h is end = not-ending is_of_mode (λ n. refl) (λ n. refl) refl o end is.0
never-ends kind.Given m k o h is end = not-ending (gives_mode m k) (λ n. refl) (λ n. refl) refl o end is
never-ends kind.Next m k o h is end = not-ending is_next (λ n. refl) (λ n. refl) refl o end is
never-ends kind.Estimate m k o h is end = not-ending is_estimate (λ n. refl) (λ n. refl) refl o end is
never-ends kind.Kept m k o h is end = not-ending (keeps_back m k) (λ n. refl) (λ n. refl) refl o end is
never-ends kind.GetFile m k o h is end = not-ending gets_file (λ n. refl) (λ n. refl) refl o end is
never-ends kind.Opened m k o h is end = not-ending opens_row (λ n. refl) (λ n. refl) refl o end is
never-ends kind.Put m k o h is end = not-ending puts_row (λ n. refl) (λ n. refl) refl o end is
never-ends kind.SyncRead m k o h is end = not-ending reads_row (λ n. refl) (λ n. refl) refl o end is
never-ends kind.Stored m k o h is end = not-ending (stores_row m k) (λ n. refl) (λ n. refl) refl o end is
never-ends kind.Idle m k o h is end = not-ending (flushes_nothing m k) (λ n. refl) (λ n. refl) refl o end is
