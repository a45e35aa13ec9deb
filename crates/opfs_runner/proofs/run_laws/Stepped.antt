-- A hand agrees with its rows after a whole step: the snapshot that its variable no longer names is gone.
use Rattle.std.proofs.Common.{◌≡◌, ◌≢◌, ◌⊎◌, ℕ, zero, suc, ◌+◌, ◌-◌, ◌==◌, true, false, cond, List, [], ◌∷◌, ◌++◌, length, slice_set, Option, Some, None, refl, sym, ap, ◌∙◌, inl, inr}
use Rattle.std.proofs.lemmas.Bool.{false≢true, cases_eq, eq-eqb, eqb-true}
use lib.ListN.{length-set}
use Rattle.opfs_base.specs.Texts.{Text}
use Rattle.opfs_hist.specs.declared.op.Op.{Op}
use Rattle.opfs_hist.specs.declared.op.Op.TheVariants as op
use Rattle.opfs_hist.specs.declared.reply.Reply.{Reply}
use Rattle.opfs_hist.specs.declared.reply.Reply.TheVariants as reply
use Rattle.opfs_script_run.specs.declared.runs.hand.Hand.{Hand}
use Rattle.opfs_script_run.specs.declared.runs.hand.Named.{Named}
use Rattle.opfs_script_run.specs.declared.runs.hand.Named.TheVariants as named
use Rattle.opfs_script_run.specs.Runs.Running.{empty_hand, named_by, a_snapshot, bind_name, op_of, hand_after, hand_then}
use Rattle.opfs_script.specs.declared.step.Step.{Step}
use Rattle.opfs_script.specs.Limits.{is_origin_key, keeps_bounds}
use Rattle.opfs_runner.specs.RunLaws.Kinds.{RowKind, stream, closed_stream, handle, closed_handle, snapshot, iterator, gone, sort_of, kind_at, sort_at, open_rows, kinds_changed, kinds_after, Names}
use Rattle.opfs_runner.specs.RunLaws.Leaving.{snapshot_bound, row_left, kinds_without, kinds_stepped}
use Rattle.opfs_runner.specs.RunLaws.Agreeing.{IsNamed, Agrees, HandsAgreeWithRows}
use Rattle.opfs_runner.proofs.run_laws.Binding.{bound-now, one-then}
use Rattle.opfs_runner.proofs.run_laws.Hands.{Fits, fitting, fits-then}
use Rattle.opfs_runner.proofs.run_laws.OpenRows.{snapshot-gone}
use Rattle.opfs_runner.proofs.run_laws.Quiet.{snapshot-named, watches-or-stays, watches}
use Rattle.opfs_runner.proofs.run_laws.Sorts.{sort-append, sort-cases, sorts-closed, sort-put, sort-other}
use Rattle.opfs_runner.proofs.run_laws.StepOps.{asks, waits}

some-same : {X : Type 0} {x y : X} → Some x ≡ Some y → x ≡ y
some-same e = cc

-- ---- the row that is left

left-test : (m k n : ℕ) (b : _) → (m == k) ≡ b → cond b None (Some m) ≡ Some n → (Some m ≡ Some n) × (Some k ≡ Some n → ⊥)
left-test m k n true same is = absurd cc
left-test m k n false other is = (is, λ now. false≢true (sym other ∙ eq-eqb m k (some-same is ∙ sym (some-same now))))

pub left-is : (before now : Option ℕ) (n : ℕ) → row_left before now ≡ Some n → (before ≡ Some n) × (now ≡ Some n → ⊥)
left-is None now n is = absurd cc
left-is (Some m) None n is = (is, λ e. absurd cc)
left-is (Some m) (Some k) n is = left-test m k n (m == k) refl is

same-test : (m k n : ℕ) (b : _) → (m == k) ≡ b → Some m ≡ Some n → (cond b None (Some m) ≡ Some n) ⊎ (Some k ≡ Some n)
same-test m k n true same is = inr (ap Some (sym (eqb-true m k same)) ∙ is)
same-test m k n false other is = inl is

left-or : (before now : Option ℕ) (n : ℕ) → before ≡ Some n → (row_left before now ≡ Some n) ⊎ (now ≡ Some n)
left-or None now n is = absurd cc
left-or (Some m) None n is = inl is
left-or (Some m) (Some k) n is = same-test m k n (m == k) refl is

-- ---- rows and calls

-- What is a snapshot after a call was one before, or is the row that the call made.
module _ (key : Option Text) (h : Hand) (kinds : List RowKind) (rows : h.rows ≡ length kinds) (v : Text) where
  abbrev IsNewOrOld : Op → Reply → ℕ → Type 0
  IsNewOrOld o r n = (sort_at kinds n ≡ Some snapshot) ⊎ (named_by (hand_after h v o r) v ≡ Some (named.Snapshot n))

  no-other : (k : RowKind) (o : Op) (r : Reply) (n : ℕ) → (sort_of k ≡ snapshot → ⊥) → sort_at (kinds ++ k ∷ []) n ≡ Some snapshot → IsNewOrOld o r n
  no-other k o r n differs is =
      elim (sort-cases kinds k snapshot n is) as (λ z. IsNewOrOld o r n) [
        | inl old ↦ inl old
        | inr new ↦ absurd (differs new.1)
      ]

  still-closed : (c : RowKind) (m : ℕ) (o : Op) (r : Reply) (n : ℕ) → sort_at kinds m ≡ Some (sort_of c) → sort_at (slice_set kinds (m - 1) c) n ≡ Some snapshot → IsNewOrOld o r n
  still-closed c m o r n names is = inl (ap (λ ks. kind_at ks n) (sym (sorts-closed kinds m c names)) ∙ is)

  new-or-old : (o : Op) (r : Reply) (n : ℕ) → Names key kinds o → sort_at (kinds_changed kinds o) n ≡ Some snapshot → IsNewOrOld o r n
  new-or-old (op.Values dir) r n names is = no-other (iterator dir) (op.Values dir) r n (λ e. absurd cc) is
  new-or-old (op.GetFile at) r n names is =
      elim (sort-cases kinds snapshot snapshot n is) as (λ z. IsNewOrOld (op.GetFile at) r n) [
        | inl old ↦ inl old
        | inr new ↦ inr (bound-now h v (named.Snapshot (h.rows + 1)) ∙ ap (λ m. Some (named.Snapshot m)) (ap (λ m. m + 1) rows ∙ sym new.0))
      ]
  new-or-old (op.CreateWritable at keep) r n names is = no-other stream (op.CreateWritable at keep) r n (λ e. absurd cc) is
  new-or-old (op.CreateSyncAccessHandle at m) r n names is = no-other handle (op.CreateSyncAccessHandle at m) r n (λ e. absurd cc) is
  new-or-old (op.Close m) r n names is = still-closed closed_stream m (op.Close m) r n names is
  new-or-old (op.Abort m) r n names is = still-closed closed_stream m (op.Abort m) r n names is
  new-or-old (op.SyncClose m) r n names is = still-closed closed_handle m (op.SyncClose m) r n names is
  new-or-old o r n names is = inl is

new-then : (key : Option Text) (h : Hand) (kinds : List RowKind) → h.rows ≡ length kinds → (s : Step) (o : Op) (r : Reply) (n : ℕ) → Names key kinds o → sort_at (kinds_after kinds o r) n ≡ Some snapshot
    → (sort_at kinds n ≡ Some snapshot) ⊎ (named_by (hand_then h s o r) (bind_name s) ≡ Some (named.Snapshot n))
new-then key h kinds rows s o (reply.No refusal) n names is = inl is
new-then key h kinds rows s o r n names is = new-or-old key h kinds rows (bind_name s) o r n names is

-- A row stays of its sort.
module _ (key : Option Text) (kinds : List RowKind) (n : ℕ) (k : RowKind) (is : sort_at kinds n ≡ Some k) where
  stays-closed : (c : RowKind) (m : ℕ) → sort_at kinds m ≡ Some (sort_of c) → sort_at (slice_set kinds (m - 1) c) n ≡ Some k
  stays-closed c m names = ap (λ ks. kind_at ks n) (sorts-closed kinds m c names) ∙ is

  stays-changed : (o : Op) → Names key kinds o → sort_at (kinds_changed kinds o) n ≡ Some k
  stays-changed (op.Values dir) names = sort-append kinds (iterator dir ∷ []) n k is
  stays-changed (op.GetFile at) names = sort-append kinds (snapshot ∷ []) n k is
  stays-changed (op.CreateWritable at keep) names = sort-append kinds (stream ∷ []) n k is
  stays-changed (op.CreateSyncAccessHandle at m) names = sort-append kinds (handle ∷ []) n k is
  stays-changed (op.Close m) names = stays-closed closed_stream m names
  stays-changed (op.Abort m) names = stays-closed closed_stream m names
  stays-changed (op.SyncClose m) names = stays-closed closed_handle m names
  stays-changed o names = is

  stays-after : (o : Op) (r : Reply) → Names key kinds o → sort_at (kinds_after kinds o r) n ≡ Some k
  stays-after o (reply.No refusal) names = is
  stays-after o r names = stays-changed o names

-- ---- a row goes

module _ (h : Hand) (kinds : List RowKind) (fits : Fits h kinds) where
  abbrev IsHeldBy : ℕ → Type 0
  IsHeldBy m = (v : Text) × (named_by h v ≡ Some (named.Snapshot m))

  module _ (n : ℕ) (there : sort_at kinds n ≡ Some snapshot) (unnamed : (w : Text) → named_by h w ≡ Some (named.Snapshot n) → ⊥) where
    abbrev then_kinds : List RowKind
    then_kinds = slice_set kinds (n - 1) gone

    another : (m : ℕ) (k : RowKind) → sort_at kinds m ≡ Some k → m ≢ n → sort_at then_kinds m ≡ Some k
    another m k is apart = sort-other kinds snapshot gone n m there apart ∙ is

    unlike : (m : ℕ) (k : RowKind) → sort_at kinds m ≡ Some k → (snapshot ≡ k → ⊥) → m ≢ n
    unlike m k is differs e = differs (some-same (sym there ∙ ap (sort_at kinds) (sym e) ∙ is))

    still-bound : (w : Text) (x : Named) → named_by h w ≡ Some x → IsNamed h.key kinds x → IsNamed h.key then_kinds x
    still-bound w (named.Directory at) found is = is
    still-bound w (named.File at) found is = is
    still-bound w (named.Stream m) found is = another m stream is (unlike m stream is (λ e. absurd cc))
    still-bound w (named.Handle m) found is = another m handle is (unlike m handle is (λ e. absurd cc))
    still-bound w (named.Snapshot m) found is = another m snapshot is (λ e. unnamed w (found ∙ ap (λ i. Some (named.Snapshot i)) e))
    still-bound w (named.Iterator m dir) found is = (another m (iterator dir) is.0 (unlike m (iterator dir) is.0 (λ e. absurd cc)), is.1)

    held-other : ((m : ℕ) → sort_at kinds m ≡ Some snapshot → (Some n ≡ Some m) ⊎ IsHeldBy m) → (m : ℕ) → sort_at then_kinds m ≡ Some snapshot → IsHeldBy m
    held-other each m is =
        elim (cases_eq m n) as (λ z. IsHeldBy m) [
          | inl same ↦ absurd (gone-not (sym (sort-put kinds snapshot gone n there) ∙ ap (sort_at then_kinds) (sym same) ∙ is))
          | inr apart ↦ elim (each m (sym (sort-other kinds snapshot gone n m there apart) ∙ is)) as (λ z. IsHeldBy m) [
            | inl same ↦ absurd (apart (sym (some-same same)))
            | inr found ↦ found
          ]
        ]
      where
        gone-not : Some gone ≡ Some snapshot → ⊥
        gone-not e = cc

  -- Where each snapshot but the one that is left is named, the hand agrees with the rows without it.
  without : (x : Option ℕ) → ((n : ℕ) → x ≡ Some n → (sort_at kinds n ≡ Some snapshot) × ((w : Text) → named_by h w ≡ Some (named.Snapshot n) → ⊥))
      → ((m : ℕ) → sort_at kinds m ≡ Some snapshot → (x ≡ Some m) ⊎ IsHeldBy m) → Agrees h (kinds_without kinds x)
  without None leaves each = record {
    rows = fits.rows;
    still_open = fits.still_open;
    bound = fits.bound;
    once = fits.once;
    held = λ m is. elim (each m is) as (λ z. IsHeldBy m) [ inl none ↦ absurd (none-some none) | inr found ↦ found ];
  }
    where
      none-some : {m : ℕ} → None ≡ Some m → ⊥
      none-some e = cc
  without (Some n) leaves each =
      let l = leaves n refl in
      record {
        rows = fits.rows ∙ sym (length-set kinds (n - 1) gone);
        still_open = fits.still_open ∙ sym (snapshot-gone n kinds l.0);
        bound = λ w x found. still-bound n l.0 l.1 w x found (fits.bound w x found);
        once = fits.once;
        held = held-other n l.0 l.1 each;
      }

-- ---- a step

module _ (h : Hand) (kinds : List RowKind) (agrees : Agrees h kinds) (s : Step) (r : Reply) (bounds : keeps_bounds s ≡ true) where
  abbrev asked : Op
  asked = op_of h s

  abbrev new : Hand
  new = hand_then h s (op_of h s) r

  names : Names h.key kinds (op_of h s)
  names = (asks h kinds agrees s bounds).names

  -- The variable names a snapshot before.
  named-before : (n : ℕ) → snapshot_bound h s ≡ Some n → named_by h (bind_name s) ≡ Some (named.Snapshot n)
  named-before n is = snapshot-named (named_by h (bind_name s)) n (sym (watches h s n is h) ∙ is)

  pub leaves : (now : Option ℕ) (n : ℕ) → row_left (snapshot_bound h s) now ≡ Some n → sort_at (kinds_after kinds (op_of h s) r) n ≡ Some snapshot
  leaves now n is =
      let before = named-before n (left-is (snapshot_bound h s) now n is).0 in
      stays-after h.key kinds n snapshot (agrees.bound (bind_name s) (named.Snapshot n) before) (op_of h s) r names

  -- No variable names it then.
  unnamed : (n : ℕ) → row_left (snapshot_bound h s) (snapshot_bound new s) ≡ Some n → (w : Text) → named_by new w ≡ Some (named.Snapshot n) → ⊥
  unnamed n is w found =
      let l = left-is (snapshot_bound h s) (snapshot_bound new s) n is in
      let same : w ≡ bind_name s =
      elim ((one-then h s (op_of h s) r).0 w (named.Snapshot n) found) as (λ z. w ≡ bind_name s) [
        | inl old ↦ agrees.once w (bind_name s) n old (named-before n l.0)
        | inr this ↦ this
      ] in
      l.1 (watches h s n l.0 new ∙ ap (λ v. a_snapshot (named_by new v)) (sym same) ∙ ap a_snapshot found)

  -- The row of a snapshot that was held before is left, or named still.
  left-or-named : (m : ℕ) → sort_at kinds m ≡ Some snapshot → (row_left (snapshot_bound h s) (snapshot_bound new s) ≡ Some m) ⊎ ((v : Text) × (named_by new v ≡ Some (named.Snapshot m)))
  left-or-named m is =
      let by = agrees.held m is in
      elim ((one-then h s (op_of h s) r).1 by.0 (named.Snapshot m) by.1) as (λ z. (row_left (snapshot_bound h s) (snapshot_bound new s) ≡ Some m) ⊎ ((v : Text) × (named_by new v ≡ Some (named.Snapshot m)))) [
        | inl kept ↦ inr (by.0, kept)
        | inr this ↦ elim (watches-or-stays h s) as (λ z. (row_left (snapshot_bound h s) (snapshot_bound new s) ≡ Some m) ⊎ ((v : Text) × (named_by new v ≡ Some (named.Snapshot m)))) [
          | inl sees ↦
              let before : snapshot_bound h s ≡ Some m = sees h ∙ ap (λ v. a_snapshot (named_by h v)) (sym this) ∙ ap a_snapshot by.1 in
              elim (left-or (snapshot_bound h s) (snapshot_bound new s) m before) as (λ z. (row_left (snapshot_bound h s) (snapshot_bound new s) ≡ Some m) ⊎ ((v : Text) × (named_by new v ≡ Some (named.Snapshot m)))) [
                | inl left ↦ inl left
                | inr now ↦ inr (bind_name s, snapshot-named (named_by new (bind_name s)) m (sym (sees new) ∙ now))
              ]
          | inr stays ↦ inr (by.0, ap (λ b. named_by (record h { bound = b }) by.0) (stays r) ∙ by.1)
        ]
      ]

  pub goes : is_origin_key h.key ≡ true → Agrees (hand_then h s (op_of h s) r) (kinds_stepped h kinds s r)
  goes fine =
      without new (kinds_after kinds (op_of h s) r) (fits-then h kinds (fitting h kinds agrees) s (op_of h s) r fine names)
      (row_left (snapshot_bound h s) (snapshot_bound new s))
      (λ n is. (leaves (snapshot_bound new s) n is, unnamed n is))
      (λ m is.
      elim (new-then h.key h kinds agrees.rows s (op_of h s) r m names is) as (λ z. (row_left (snapshot_bound h s) (snapshot_bound new s) ≡ Some m) ⊎ ((v : Text) × (named_by new v ≡ Some (named.Snapshot m)))) [
        | inl old ↦ left-or-named m old
        | inr made ↦ inr (bind_name s, made)
      ])

  -- What is open where the run stops behind the call.
  pub opened-then : is_origin_key h.key ≡ true → (hand_then h s (op_of h s) r).opened ≡ open_rows 1 (kinds_after kinds (op_of h s) r)
  opened-then fine = (fits-then h kinds (fitting h kinds agrees) s (op_of h s) r fine names).still_open

pub begins : (key : Option Text) → Agrees (empty_hand key) []
begins key = record { rows = refl; still_open = refl; bound = λ v x is. absurd cc; once = λ v w n is also. absurd cc; held = nothing }
  where
    nothing : (n : ℕ) → sort_at [] n ≡ Some snapshot → (v : Text) × (named_by (empty_hand key) v ≡ Some (named.Snapshot n))
    nothing zero is = absurd cc
    nothing (suc i) is = absurd cc

pub agree : HandsAgreeWithRows
agree = record {
  begin = begins;
  asks = λ h kinds s agrees fits. asks h kinds agrees s fits;
  goes = λ h kinds s r fine agrees bounds. goes h kinds agrees s r bounds fine;
  leaves = λ h kinds s r now n agrees bounds is. leaves h kinds agrees s r bounds now n is;
  waits = λ h n s tag e is number wait. waits h n tag e number wait s is;
}
