-- How much the pool and the charge grow by a call that lets nothing go, just so.
use Rattle.std.proofs.Common.{◌≡◌, ℕ, ◌+◌, ◌-◌, ◌*◌, zero, suc, Bool, true, false, cond, not, ◌||◌, List, [], ◌∷◌, ◌++◌, length, sum_by, Option, Some, None, option_map, refl, sym, ap, ◌∙◌, subst, arith}
use Rattle.std.specs.FinMap.Entries.{by_order}
use Rattle.std.specs.List.{list_any}
use Rattle.std.specs.Ordering.{nat_cmp, is_eq}
use Rattle.std.specs.declared.cmp.Ordering.TheVariants.{Less, Equal, Greater}
use Rattle.std.specs.Cmp.Lexicographic.{slice_cmp, texts_ties}
use Rattle.std.proofs.lemmas.Bool.{false≢true}
use Rattle.std.proofs.lemmas.List.Sums.{sum_by-cons}
use Rattle.opfs_base.specs.Blocks.{blocks}
use Rattle.opfs_base.specs.Measures.{block_charge, place_charge, mode_charge}
use Rattle.opfs_base.specs.Places.{Place, place_of, child}
use Rattle.opfs_base.specs.Texts.{Text, same_text}
use Rattle.opfs_base.specs.Units.{unit_of}
use Rattle.opfs_base.specs.declared.locator.Kind.{Kind}
use Rattle.opfs_base.specs.declared.locator.Kind.TheVariants as kind
use Rattle.opfs_hist.specs.declared.op.Op.{Op}
use Rattle.opfs_hist.specs.declared.op.Op.TheVariants as op
use Rattle.opfs_locks.specs.declared.Want.TheVariants as want
use Rattle.opfs_machine.specs.declared.own.HandleOutline.{HandleOutline}
use Rattle.opfs_machine.specs.declared.own.StreamOutline.{StreamOutline}
use Rattle.opfs_machine.specs.declared.own.Own.{Own}
use Rattle.opfs_machine.specs.declared.own.Own.TheVariants as own
use Rattle.opfs_machine.specs.declared.state.Agent.{Agent}
use Rattle.opfs_machine.specs.declared.state.FileRow.{FileRow}
use Rattle.opfs_machine.specs.declared.state.Need.{Need}
use Rattle.opfs_machine.specs.declared.state.Posted.{Posted}
use Rattle.opfs_machine.specs.declared.state.Row.{Row}
use Rattle.opfs_machine.specs.declared.state.Row.TheVariants as row
use Rattle.opfs_machine.specs.declared.state.State.{State}
use Rattle.opfs_machine.specs.Agents.{agent_of, own_of, party_of, open_handle, of_row, stream_in, handle_in, with_own, with_agent, adds_own}
use Rattle.opfs_machine.specs.Contents.{in_bytes, outline_of, written_row, truncated_row, sought_row, moved_row, advanced_row}
use Rattle.opfs_machine.specs.Effects.{effect, new_row, moment_of, made, opens_bucket, opens_stream, takes_snapshot, changes_file, persists, with_changed, with_lock, cursor_after_read}
use Rattle.opfs_machine.specs.Ordered.{insert_by}
use Rattle.opfs_machine.specs.Replies.{sizes_of}
use Rattle.opfs_machine.specs.Rows.{row_at, file_at, with_row, with_file, children_of}
use Rattle.opfs_machine.specs.Rulings.{size_in, size_written, reserve_for, want_of, first_reserve, making, persisting}
use Rattle.opfs_machine.specs.Sums.{no_need, charges, is_persistent, reserve_of, row_charge, pool, charge}
use Rattle.opfs_laws.specs.Charges.{lets_charge_go}
use Rattle.opfs_laws.specs.Whole.{is_rising}
use Rattle.opfs_laws.proofs.Growing.{kept_by, plain_charge}
use Rattle.opfs_laws.proofs.Modes.{insert-same}
use Rattle.opfs_laws.proofs.Needs.{Needs}
use Rattle.opfs_laws.proofs.Numbers.{IsNumber}
use Rattle.opfs_laws.proofs.OwnSums.{sum-adds, sum-sets, sum-same}
use Rattle.opfs_laws.proofs.RowSums.{sum-put, sum-change, charge-change, stored_in, row_stored}

-- A state that grew by so many blocks that are kept, and by so many bytes of rows and modes.
pub record Adds (s t : State Text Own) (n c : ℕ) : Type 0 where
  pub pool : pool in_bytes t ≡ pool in_bytes s + n
  pub plain : plain_charge t ≡ plain_charge s + c

nothing-added : (s : State Text Own) → Adds s s 0 0
nothing-added s = record { pool = omega arith; plain = omega arith }

tags-changed : (s : State Text Own) (tags : List Posted) → Adds s (record s { posted = tags }) 0 0
tags-changed s tags = record { pool = omega arith; plain = omega arith }

agent-added : (s : State Text Own) (k : ℕ) (a : Agent Own) → IsNumber s k → a.own ≡ (agent_of s k).own → Adds s (with_agent s k a) 0 0
agent-added s k a number same = let sum = sum-same kept_by s k a number same in record { pool = omega (arith, sum); plain = omega arith }

row-added : (s : State Text Own) (k : ℕ) (r : Own) → IsNumber s k → Adds s (adds_own s k r) (kept_by r) 0
row-added s k r number = let sum = sum-adds kept_by s k r number in record { pool = omega (arith, sum); plain = omega arith }

-- An own row that keeps so much more.
row-set : (s : State Text Own) (k n : ℕ) (r new : Own) (more : ℕ) → IsNumber s k → own_of (agent_of s k) n ≡ Some r → kept_by new ≡ kept_by r + more → Adds s (with_own s k n new) more 0
row-set s k n r new more number is just = let sum = sum-sets kept_by s k n r new number is in record { pool = omega (arith, sum, just); plain = omega arith }

row-changed : (s : State Text Own) (k n : ℕ) (change : Own → Own) (more : ℕ) → IsNumber s k → (own_of (agent_of s k) n ≡ None → more ≡ 0)
    → ((r : Own) → own_of (agent_of s k) n ≡ Some r → kept_by (change r) ≡ kept_by r + more) → Adds s (with_changed s k n change) more 0
unfolding with_changed
row-changed s k n change more number none just =
    elim (own_of (agent_of s k) n) as (λ o. own_of (agent_of s k) n ≡ o → Adds s (elim o as (λ x. State Text Own) [ Some r ↦ with_own s k n (change r) | None ↦ s ]) more 0) [
      | Some r ↦ λ is. row-set s k n r (change r) more number is (just r is)
      | None ↦ λ is. let zero_is = none is in record { pool = omega (arith, zero_is); plain = omega arith }
    ] refl

-- A file whose stored bytes stay.
stored-same : (change : FileRow Text → FileRow Text) (o : Option (FileRow Text)) → ((f : FileRow Text) → (change f).durable ≡ f.durable) → stored_in (option_map change o) ≡ stored_in o
stored-same change None keeps = refl
stored-same change (Some f) keeps = ap (λ b. blocks (length b)) (keeps f)

file-changed : (s : State Text Own) (p : Place) (change : FileRow Text → FileRow Text) → ((f : FileRow Text) → (change f).durable ≡ f.durable) → Adds s (with_file s p change) 0 0
file-changed s p change keeps =
    let sum = sum-change p change s.rows in
    let same = stored-same change (file_at s p) keeps in
    let plain = charge-change p change s.rows in
    record { pool = omega (arith, sum, same); plain = omega (arith, plain) }

both-added : (s t u : State Text Own) (n m c d : ℕ) → Adds s t n c → Adds t u m d → Adds s u (n + m) (c + d)
both-added s t u n m c d a b = record { pool = omega (arith, a.pool, b.pool); plain = omega (arith, a.plain, b.plain) }

-- A row that is made where none is.
row-made : (s : State Text Own) (p : Place) (r : Row Text) (k : Kind) → row_charge (p, r) ≡ place_charge k p → row_stored (p, r) ≡ 0 → Adds s (made s p r) 0 (making k p (row_at s p)).charge
row-made s p r k charged none =
    elim (row_at s p) as (λ o. row_at s p ≡ o → Adds s (elim o as (λ x. State Text Own) [ Some old ↦ s | None ↦ with_row s p r ]) 0 (making k p o).charge) [
      | Some old ↦ λ is. nothing-added s
      | None ↦ λ is.
          let stored = sum-put row_stored p r s.rows is in
          let plain = sum-put row_charge p r s.rows is in
          record { pool = omega (arith, stored, none); plain = omega (arith, plain, charged) }
    ] refl

number-file : (s : State Text Own) (k : ℕ) (p : Place) (change : FileRow Text → FileRow Text) → IsNumber s k → IsNumber (with_file s p change) k
number-file s k p change h = record { index = h.index; is = h.is; within = h.within }

own-file : (s : State Text Own) (k n : ℕ) (p : Place) (change : FileRow Text → FileRow Text) → own_of (agent_of (with_file s p change) k) n ≡ own_of (agent_of s k) n
own-file s zero n p change = refl
own-file s (suc i) n p change = refl

-- ---- own rows that keep more

no-stream : (w : StreamOutline) → ◌≡◌ {A = Option StreamOutline} None (Some w) → ⊥
no-stream w h = cc

no-handle : (w : HandleOutline) → ◌≡◌ {A = Option HandleOutline} None (Some w) → ⊥
no-handle w h = cc

one-stream : {a b : StreamOutline} → Some a ≡ Some b → a ≡ b
one-stream e = cc

one-handle : {a b : HandleOutline} → Some a ≡ Some b → a ≡ b
one-handle e = cc

abbrev stream_of : Option Own → Option StreamOutline
stream_of o = of_row (λ r. stream_in (outline_of r)) o

abbrev handle_of : Option Own → Option HandleOutline
handle_of o = of_row (λ r. handle_in (outline_of r)) o

written-just : (o : Option Own) (w : StreamOutline) (r : Own) (position : ℕ) (bytes : Text) (size : ℕ) → stream_of o ≡ Some w → o ≡ Some r
    → kept_by (written_row r position bytes (reserve_for (reserve_of (outline_of r)) size)) ≡ kept_by r + (reserve_for w.reserve size - w.reserve)
written-just o w (own.Stream x) position bytes size is there =
    let same : x.reserve ≡ w.reserve = ap (λ u. u.reserve) (one-stream (sym (ap stream_of there) ∙ is)) in omega (arith, same)
written-just o w r position bytes size is there = absurd (no-stream w (sym (ap stream_of there) ∙ is))

truncated-just : (o : Option Own) (w : StreamOutline) (r : Own) (size : ℕ) → stream_of o ≡ Some w → o ≡ Some r
    → kept_by (truncated_row r size (reserve_for (reserve_of (outline_of r)) size)) ≡ kept_by r + (reserve_for w.reserve size - w.reserve)
truncated-just o w (own.Stream x) size is there =
    let same : x.reserve ≡ w.reserve = ap (λ u. u.reserve) (one-stream (sym (ap stream_of there) ∙ is)) in omega (arith, same)
truncated-just o w r size is there = absurd (no-stream w (sym (ap stream_of there) ∙ is))

moved-just : (o : Option Own) (h : HandleOutline) (r : Own) (cursor size : ℕ) → handle_of o ≡ Some h → o ≡ Some r
    → kept_by (moved_row r cursor (reserve_for h.reserve size)) ≡ kept_by r + (reserve_for h.reserve size - h.reserve)
moved-just o h (own.Handle x) cursor size is there =
    let same : x.reserve ≡ h.reserve = ap (λ u. u.reserve) (one-handle (sym (ap handle_of there) ∙ is)) in omega (arith, same)
moved-just o h r cursor size is there = absurd (no-handle h (sym (ap handle_of there) ∙ is))

no-stream-row : (o : Option Own) (w : StreamOutline) (n : ℕ) → stream_of o ≡ Some w → o ≡ None → n ≡ 0
no-stream-row o w n is none = absurd (no-stream w (sym (ap stream_of none) ∙ is))

no-handle-row : (o : Option Own) (w : HandleOutline) (n : ℕ) → handle_of o ≡ Some w → o ≡ None → n ≡ 0
no-handle-row o w n is none = absurd (no-handle w (sym (ap handle_of none) ∙ is))

sought-same : (offset : ℕ) (r : Own) → kept_by (sought_row r offset) ≡ kept_by r + 0
sought-same offset (own.Stream w) = omega arith
sought-same offset r = omega arith

read-same : (cursor : ℕ) (r : Own) → kept_by (moved_row r cursor (reserve_of (outline_of r))) ≡ kept_by r + 0
read-same cursor (own.Handle w) = omega arith
read-same cursor r = omega arith

advanced-same : (names : List Text) (r : Own) → kept_by (advanced_row r names) ≡ kept_by r + 0
advanced-same names (own.Iterator i) = omega arith
advanced-same names r = omega arith

-- ---- modes

or-left : (a b : Bool) → (a || b) ≡ false → a ≡ false
or-left true b h = h
or-left false b h = refl

or-right : (a b : Bool) → (a || b) ≡ false → b ≡ false
or-right true b h = absurd (false≢true (sym h))
or-right false b h = h

-- A text that is not there is one more.
insert-more : (g : Text → ℕ) (x : Text) (xs : List Text) → list_any (same_text x) xs ≡ false → sum_by g (insert_by (slice_cmp nat_cmp) x xs) ≡ sum_by g xs + g x
insert-more g x [] out = let one = sum_by-cons g x [] in omega (arith, one)
insert-more g x (y ∷ ys) out =
    let old = sum_by-cons g y ys in
    elim (slice_cmp nat_cmp x y) as (λ o. slice_cmp nat_cmp x y ≡ o → sum_by g (by_order o (x ∷ y ∷ ys) (y ∷ ys) (y ∷ insert_by (slice_cmp nat_cmp) x ys)) ≡ sum_by g (y ∷ ys) + g x) [
      | Less ↦ λ is. let whole = sum_by-cons g x (y ∷ ys) in omega (arith, whole)
      | Equal ↦ λ is. absurd (false≢true (sym (or-left (same_text x y) (list_any (same_text x) ys) out) ∙ texts_ties x y ∙ ap is_eq is))
      | Greater ↦ λ is.
          let whole = sum_by-cons g y (insert_by (slice_cmp nat_cmp) x ys) in
          let rest = insert-more g x ys (or-right (same_text x y) (list_any (same_text x) ys) out) in
          omega (arith, whole, old, rest)
    ] refl

-- ---- calls

module _ (s : State Text Own) (k : ℕ) (number : IsNumber s k) where
  bucket-made : (bucket : Text) (origin : Text) (key : Option Text) → key ≡ Some origin → Adds s (opens_bucket s bucket key) 0 (making kind.Directory (unit_of origin bucket, []) (row_at s (unit_of origin bucket, []))).charge
  bucket-made bucket origin None is = cc
  bucket-made bucket origin (Some x) is =
      subst (λ u. Adds s (opens_bucket s bucket (Some x)) 0 (making kind.Directory (unit_of u bucket, []) (row_at s (unit_of u bucket, []))).charge) (same is)
      (row-made s (unit_of x bucket, []) row.Directory kind.Directory refl refl)
    where
      same : Some x ≡ Some origin → x ≡ origin
      same e = cc

  snapshot-taken : (f : Option (FileRow Text)) → Adds s (takes_snapshot in_bytes s k f) 0 0
  snapshot-taken None = nothing-added s
  snapshot-taken (Some f) = row-added s k (own.Snapshot f.present) number

  stream-opened : (p : Place) (keep : Bool) (f : Option (FileRow Text)) → Adds s (opens_stream in_bytes s k p (cond keep (blocks (size_in in_bytes f)) 0) keep f) (cond keep (blocks (size_in in_bytes f)) 0) 0
  stream-opened p true None = nothing-added s
  stream-opened p false None = nothing-added s
  stream-opened p keep (Some f) =
      let reserve = cond keep (blocks (size_in in_bytes (Some f))) 0 in
      let u = with_file s p (with_lock want.Shared) in
      let r = own.Stream (record { file = p; buffer = cond keep f.present []; offset = 0; reserve = reserve }) in
      let a = file-changed s p (with_lock want.Shared) (λ f. refl) in
      let b = row-added u k r (number-file s k p (with_lock want.Shared) number) in
      record { pool = omega (arith, a.pool, b.pool); plain = omega (arith, a.plain, b.plain) }

  file-written : (n : ℕ) (change : Text → Text) (cursor size : ℕ) (o : Option HandleOutline) (h : HandleOutline) → open_handle in_bytes s k n ≡ o → open_handle in_bytes s k n ≡ Some h
      → Adds s (changes_file in_bytes s k n change cursor size o) (reserve_for h.reserve size - h.reserve) 0
  unfolding changes_file
  file-written n change cursor size None h is there = absurd (no-handle h (sym is ∙ there))
  file-written n change cursor size (Some o) h is there =
      let to : FileRow Text → FileRow Text = λ f. record f { present = change f.present; stamp = moment_of s k } in
      let u = with_file s o.file to in
      let same : o.reserve ≡ h.reserve = ap (λ x. x.reserve) (one-handle (sym is ∙ there)) in
      let more = reserve_for o.reserve size - o.reserve in
      let a = file-changed s o.file to (λ f. refl) in
      let b = row-changed u k n (λ r. moved_row r cursor (reserve_for o.reserve size)) more (number-file s k o.file to number)
      (λ none. no-handle-row (own_of (agent_of s k) n) o more is (sym (own-file s k n o.file to) ∙ none))
      (λ r row. moved-just (own_of (agent_of s k) n) o r cursor size is (sym (own-file s k n o.file to) ∙ row)) in
      subst (λ x. Adds s (with_changed u k n (λ r. moved_row r cursor (reserve_for o.reserve size))) (reserve_for x size - x) 0) same
      (record { pool = omega (arith, a.pool, b.pool); plain = omega (arith, a.plain, b.plain) })

  mode-set : is_rising s.persistent ≡ true → (bucket origin : Text) (grant : Bool) → Adds s (persists s bucket grant (Some origin)) 0 (persisting s grant (unit_of origin bucket)).charge
  mode-set rising bucket origin false = nothing-added s
  mode-set rising bucket origin true =
      elim (is_persistent s (unit_of origin bucket)) as (λ b. is_persistent s (unit_of origin bucket) ≡ b → Adds s (persists s bucket true (Some origin)) 0 (cond (not b) (charges (mode_charge (unit_of origin bucket))) no_need).charge) [
        | true ↦ λ is.
            let same = ap (sum_by mode_charge) (insert-same (unit_of origin bucket) s.persistent rising is) in
            record { pool = omega arith; plain = omega (arith, same) }
        | false ↦ λ is. let more = insert-more mode_charge (unit_of origin bucket) s.persistent is in record { pool = omega arith; plain = omega (arith, more) }
      ] refl

  mode-by : is_rising s.persistent ≡ true → (bucket origin : Text) (grant : Bool) (key : Option Text) → key ≡ Some origin → Adds s (persists s bucket grant key) 0 (persisting s grant (unit_of origin bucket)).charge
  mode-by rising bucket origin grant None is = cc
  mode-by rising bucket origin grant (Some x) is =
      subst (λ u. Adds s (persists s bucket grant (Some x)) 0 (persisting s grant (unit_of u bucket)).charge) (same is) (mode-set rising bucket x grant)
    where
      same : Some x ≡ Some origin → x ≡ origin
      same e = cc

-- The charge, by what was added.
abbrev GrewBy : State Text Own → State Text Own → Need → Type 0
GrewBy s t need = charge in_bytes t ≡ charge in_bytes s + need.charge

by-none : (s t : State Text Own) (need : Need) → need ≡ no_need → Adds s t 0 0 → GrewBy s t need
by-none s t need is a = let none = ap (λ n. n.charge) is in omega (arith, a.pool, a.plain, none)

by-charge : (s t : State Text Own) (need m : Need) → need ≡ m → Adds s t 0 m.charge → GrewBy s t need
by-charge s t need m is a = let same = ap (λ n. n.charge) is in omega (arith, a.pool, a.plain, same)

by-pool : (s t : State Text Own) (need : Need) (n : ℕ) → need.charge ≡ block_charge * n → Adds s t n 0 → GrewBy s t need
by-pool s t need n is a = omega (arith, a.pool, a.plain, is)

pub effect-adds : (s : State Text Own) (k : ℕ) (o : Op) (need : Need) → IsNumber s k → is_rising s.persistent ≡ true → lets_charge_go o ≡ false
    → Needs s (sizes_of s k o) k o need → charge in_bytes (effect in_bytes s (sizes_of s k o) k o) ≡ charge in_bytes s + need.charge
unfolding effect
effect-adds s k (op.RemoveEntry dir name recursive) need number rising stays n = absurd (false≢true (sym stays))
effect-adds s k (op.Close i) need number rising stays n = absurd (false≢true (sym stays))
effect-adds s k (op.Abort i) need number rising stays n = absurd (false≢true (sym stays))
effect-adds s k (op.SyncFlush i) need number rising stays n = absurd (false≢true (sym stays))
effect-adds s k (op.SyncClose i) need number rising stays n = absurd (false≢true (sym stays))
effect-adds s k (op.Discard i) need number rising stays n = absurd (false≢true (sym stays))
effect-adds s k (op.GetDirectory bucket) need number rising stays n =
    by-charge s _ need (making kind.Directory (unit_of n.0 bucket, []) (row_at s (unit_of n.0 bucket, []))) n.2 (bucket-made s k number bucket n.0 (agent_of s k).key n.1)
effect-adds s k (op.GetDirectoryHandle dir name create) need number rising stays n =
    by-charge s _ need (making kind.Directory (child (place_of dir) name) (row_at s (child (place_of dir) name))) n (row-made s (child (place_of dir) name) row.Directory kind.Directory refl refl)
effect-adds s k (op.GetFileHandle dir name create) need number rising stays n =
    by-charge s _ need (making kind.File (child (place_of dir) name) (row_at s (child (place_of dir) name))) n (row-made s (child (place_of dir) name) (new_row in_bytes kind.File (moment_of s k)) kind.File refl refl)
effect-adds s k (op.Values dir) need number rising stays n = by-none s _ need n (row-added s k (own.Iterator (record { dir = dir; given = [] })) number)
effect-adds s k (op.Next i dir) need number rising stays n =
    by-none s _ need n (row-changed s k i (λ r. advanced_row r (children_of s (place_of dir))) 0 number (λ none. refl) (λ r is. advanced-same (children_of s (place_of dir)) r))
effect-adds s k (op.GetFile at) need number rising stays n = by-none s _ need n (snapshot-taken s k number (file_at s (place_of at)))
effect-adds s k (op.CreateWritable at keep) need number rising stays n =
    by-pool s _ need (first_reserve in_bytes s at keep) (ap (λ x. x.charge) n) (stream-opened s k number (place_of at) keep (file_at s (place_of at)))
effect-adds s k (op.Write i bytes position) need number rising stays n =
    by-pool s _ need _ (ap (λ x. x.charge) n.2)
    (row-changed s k i _ _ number (no-stream-row (own_of (agent_of s k) i) n.0 _ n.1) (λ r is. written-just (own_of (agent_of s k) i) n.0 r _ bytes _ n.1 is))
effect-adds s k (op.Seek i position) need number rising stays n = by-none s _ need n (row-changed s k i (λ r. sought_row r position) 0 number (λ none. refl) (λ r is. sought-same position r))
effect-adds s k (op.Truncate i size) need number rising stays n =
    by-pool s _ need _ (ap (λ x. x.charge) n.2)
    (row-changed s k i _ _ number (no-stream-row (own_of (agent_of s k) i) n.0 _ n.1) (λ r is. truncated-just (own_of (agent_of s k) i) n.0 r size n.1 is))
effect-adds s k (op.CreateSyncAccessHandle at m) need number rising stays n =
    let u = with_file s (place_of at) (with_lock (want_of m)) in
    by-none s _ need n (both-added s u _ 0 0 0 0 (file-changed s (place_of at) (with_lock (want_of m)) (λ f. refl))
    (row-added u k (own.Handle (record { file = place_of at; mode = m; cursor = 0; reserve = 0 })) (number-file s k (place_of at) (with_lock (want_of m)) number)))
effect-adds s k (op.SyncRead i len at) need number rising stays n =
    by-none s _ need n (row-changed s k i (λ r. moved_row r (cursor_after_read (sizes_of s k (op.SyncRead i len at)) len at) (reserve_of (outline_of r))) 0 number (λ none. refl) (λ r is. read-same _ r))
effect-adds s k (op.SyncWrite i bytes at) need number rising stays n =
    by-pool s _ need _ n.3 (file-written s k number i _ _ (size_written (sizes_of s k (op.SyncWrite i bytes at)) at bytes) (open_handle in_bytes s k i) n.0 refl n.1)
effect-adds s k (op.SyncTruncate i size) need number rising stays n =
    by-pool s _ need _ n.3 (file-written s k number i _ _ size (open_handle in_bytes s k i) n.0 refl n.1)
effect-adds s k (op.Persist bucket) need number rising stays n =
    by-charge s _ need (persisting s (agent_of s k).grant (unit_of n.0 bucket)) n.2 (mode-by s k number rising bucket n.0 (agent_of s k).grant (agent_of s k).key n.1)
effect-adds s k (op.Moment ms) need number rising stays n = by-none s _ need n (agent-added s k (record (agent_of s k) { moment = ms }) number refl)
effect-adds s k (op.Await tag) need number rising stays n = by-none s _ need n (agent-added s k (record (agent_of s k) { waits = None }) number refl)
effect-adds s k (op.Wait tag) need number rising stays n = by-none s _ need n (agent-added s k (record (agent_of s k) { waits = Some tag }) number refl)
effect-adds s k op.End need number rising stays n = by-none s _ need n (agent-added s k (record (agent_of s k) { live = false; waits = None }) number refl)
effect-adds s k (op.Post tag) need number rising stays n = by-none s _ need n (tags-changed s (s.posted ++ record { party = party_of s k; tag = tag } ∷ []))
effect-adds s k o need number rising stays n = by-none s _ need n (nothing-added s)
