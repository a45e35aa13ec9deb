-- A hand fits its rows after the call of a step.
use Rattle.std.proofs.Common.{◌≡◌, ◌&&◌, ℕ, zero, suc, ◌+◌, ◌-◌, true, false, cond, not, List, [], ◌∷◌, ◌++◌, append-nil, filter, length, map, slice_set, Option, Some, None, refl, sym, ap, ◌∙◌, subst, inl, inr, arith}
use Rattle.std.proofs.lemmas.Bool.{and_parts}
use Rattle.std.proofs.lemmas.Option.{slice_get_within}
use Rattle.std.specs.Cmp.Lexicographic.{slice_cmp, nat_list_cmp_total, nat_list_eq_equiv}
use Rattle.std.specs.FinMap.Entries.{find-put}
use Rattle.std.specs.Ordering.{nat_cmp, eq_by_cmp}
use Rattle.std.proofs.lemmas.List.{length-append}
use lib.ListN.{length-map, length-set}
use Rattle.opfs_base.specs.Keys.{is_origin, is_one_line}
use Rattle.opfs_base.specs.Texts.{Text, same_text}
use Rattle.opfs_base.specs.Places.{child_of}
use Rattle.opfs_base.specs.Units.{unit_of, origin_of}
use Rattle.opfs_base.specs.declared.locator.Kind.{Kind}
use Rattle.opfs_base.specs.declared.locator.Kind.TheVariants as kind
use Rattle.opfs_base.specs.declared.locator.Locator.{Locator}
use Rattle.opfs_base.proofs.UnitLemmas.{origin_of-unit_of, plain-from_is_origin}
use Rattle.opfs_hist.specs.declared.op.Op.{Op}
use Rattle.opfs_hist.specs.declared.op.Op.TheVariants as op
use Rattle.opfs_hist.specs.declared.reply.Reply.{Reply}
use Rattle.opfs_hist.specs.declared.reply.Reply.TheVariants as reply
use Rattle.opfs_machine.specs.Histories.{is_of_origin}
use Rattle.opfs_script_run.specs.declared.runs.hand.Hand.{Hand}
use Rattle.opfs_script_run.specs.declared.runs.hand.Named.{Named}
use Rattle.opfs_script_run.specs.declared.runs.hand.Named.TheVariants as named
use Rattle.opfs_script_run.specs.Runs.Running.{named_by, binds, binds_root, binds_child, handle_named, closes_row, bind_name, hand_after, hand_then, is_row}
use Rattle.opfs_script.specs.declared.step.Step.{Step}
use Rattle.opfs_script.specs.Limits.{is_origin_key, is_short_key}
use Rattle.opfs_runner.specs.RunLaws.Kinds.{RowKind, stream, closed_stream, handle, closed_handle, snapshot, iterator, sort_of, kind_at, sort_at, open_rows, kinds_changed, kinds_after, Names}
use Rattle.opfs_runner.specs.RunLaws.Agreeing.{IsNamed, Agrees}
use Rattle.opfs_runner.proofs.run_laws.Binding.{bound-cases}
use Rattle.opfs_runner.proofs.run_laws.OpenRows.{open-append, stream-closed, handle-closed}
use Rattle.opfs_runner.proofs.run_laws.Sorts.{sort-append, sort-last, sorts-closed}

some-same : {X : Type 0} {x y : X} → Some x ≡ Some y → x ≡ y
some-same e = cc

-- What is named stays named where the rows stay what they are.
abbrev Stays : List RowKind → List RowKind → Type 0
Stays old new = (n : ℕ) (k : RowKind) → sort_at old n ≡ Some k → sort_at new n ≡ Some k

still-named : (key : Option Text) (old new : List RowKind) → Stays old new → (x : Named) → IsNamed key old x → IsNamed key new x
still-named key old new stays (named.Directory at) is = is
still-named key old new stays (named.File at) is = is
still-named key old new stays (named.Stream n) is = stays n stream is
still-named key old new stays (named.Handle n) is = stays n handle is
still-named key old new stays (named.Snapshot n) is = stays n snapshot is
still-named key old new stays (named.Iterator n dir) is = (stays n (iterator dir) is.0, is.1)

-- A child is of its directory's origin.
child-own : (key : Option Text) (dir : Locator) (name : Text) (k : Kind) → is_of_origin key (child_of dir name k) ≡ is_of_origin key dir
child-own None dir name k = refl
child-own (Some origin) dir name k = refl

-- A hand and its rows within a step, where a snapshot that nothing names may still be held.
pub record Fits (h : Hand) (kinds : List RowKind) : Type 0 where
  pub rows : h.rows ≡ length kinds
  pub still_open : h.opened ≡ open_rows 1 kinds
  pub bound : (variable : Text) (x : Named) → named_by h variable ≡ Some x → IsNamed h.key kinds x
  pub once : (v w : Text) (n : ℕ) → named_by h v ≡ Some (named.Snapshot n) → named_by h w ≡ Some (named.Snapshot n) → v ≡ w

pub fitting : (h : Hand) (kinds : List RowKind) → Agrees h kinds → Fits h kinds
fitting h kinds agrees = record { rows = agrees.rows; still_open = agrees.still_open; bound = agrees.bound; once = agrees.once }

-- The variables once one is bound anew.
bound-anew : (h : Hand) (kinds : List RowKind) (v : Text) (x : Named) → IsNamed h.key kinds x
    → ((w : Text) (y : Named) → named_by h w ≡ Some y → IsNamed h.key kinds y) → (w : Text) (y : Named) → named_by (binds h v x) w ≡ Some y → IsNamed h.key kinds y
bound-anew h kinds v x this others w y is =
    elim (eq_by_cmp (slice_cmp nat_cmp) w v) as (λ b. cond b (Some x) (named_by h w) ≡ Some y → IsNamed h.key kinds y) [
      | true ↦ λ e. subst (IsNamed h.key kinds) (some-same e) this
      | false ↦ λ e. others w y e
    ] (sym (find-put (slice_cmp nat_cmp) nat_list_cmp_total w v x h.bound) ∙ is)

-- What is no snapshot of an earlier row.
abbrev IsFresh : Hand → Named → Type 0
IsFresh h x = (n : ℕ) → x ≡ named.Snapshot n → n ≡ h.rows + 1

snapshot-same : (n m : ℕ) → named.Snapshot n ≡ named.Snapshot m → n ≡ m
snapshot-same n m e = cc

module _ (h : Hand) (kinds : List RowKind) (fits : Fits h kinds) where
  not-yet : (n : ℕ) → n ≡ h.rows + 1 → sort_at kinds n ≡ Some snapshot → ⊥
  not-yet zero new there = absurd (omega (arith, new))
  not-yet (suc i) new there =
      let within = slice_get_within (map sort_of kinds) i snapshot there in
      absurd (omega (arith, within, new, fits.rows, length-map kinds sort_of))

  named-once : (v : Text) (x : Named) → IsFresh h x → (w u : Text) (n : ℕ) → named_by (binds h v x) w ≡ Some (named.Snapshot n) → named_by (binds h v x) u ≡ Some (named.Snapshot n) → w ≡ u
  named-once v x fresh w u n first second =
      elim (bound-cases h v x w (named.Snapshot n) first) as (λ z. w ≡ u) [
        | inl new ↦ elim (bound-cases h v x u (named.Snapshot n) second) as (λ z. w ≡ u) [
          | inl other ↦ new.0 ∙ sym other.0
          | inr old ↦ absurd (not-yet n (fresh n new.1) (fits.bound u (named.Snapshot n) old))
        ]
        | inr old ↦ elim (bound-cases h v x u (named.Snapshot n) second) as (λ z. w ≡ u) [
          | inl new ↦ absurd (not-yet n (fresh n new.1) (fits.bound w (named.Snapshot n) old))
          | inr other ↦ fits.once w u n old other
        ]
      ]

  fits-binds : (v : Text) (x : Named) → IsNamed h.key kinds x → IsFresh h x → Fits (binds h v x) kinds
  fits-binds v x this fresh = record { rows = fits.rows; still_open = fits.still_open; bound = bound-anew h kinds v x this fits.bound; once = named-once v x fresh }

  grown : (k : RowKind) → Stays kinds (kinds ++ k ∷ [])
  grown k n s is = sort-append kinds (k ∷ []) n s is

  more : (k : RowKind) → h.rows + 1 ≡ length (kinds ++ k ∷ [])
  more k = omega (arith, fits.rows, length-append kinds (k ∷ []))

  last : (k : RowKind) → sort_at (kinds ++ k ∷ []) (h.rows + 1) ≡ Some (sort_of k)
  last k = sort-last kinds k (h.rows + 1) (omega (arith, fits.rows))

  all-bound : (k : RowKind) (v : Text) (x : Named) → IsNamed h.key (kinds ++ k ∷ []) x → (w : Text) (y : Named) → named_by (binds h v x) w ≡ Some y → IsNamed h.key (kinds ++ k ∷ []) y
  all-bound k v x this = bound-anew h (kinds ++ k ∷ []) v x this (λ w y is. still-named h.key kinds (kinds ++ k ∷ []) (grown k) y (fits.bound w y is))

  opens : (k : RowKind) → open_rows 1 (kinds ++ k ∷ []) ≡ h.opened ++ open_rows (h.rows + 1) (k ∷ [])
  opens k = open-append 1 (h.rows + 1) kinds (k ∷ []) (omega (arith, fits.rows)) ∙ ap (λ os. os ++ open_rows (h.rows + 1) (k ∷ [])) (sym fits.still_open)

  fits-closes : (n : ℕ) (c : RowKind) → sort_at kinds n ≡ Some (sort_of c) → open_rows 1 (slice_set kinds (n - 1) c) ≡ filter (λ o. not (is_row n o)) (open_rows 1 kinds)
      → Fits (closes_row h n) (slice_set kinds (n - 1) c)
  fits-closes n c is shut = record {
    rows = fits.rows ∙ sym (length-set kinds (n - 1) c);
    still_open = ap (filter (λ o. not (is_row n o))) fits.still_open ∙ sym shut;
    bound = λ w y found. still-named h.key kinds (slice_set kinds (n - 1) c) (λ m k there. ap (λ ks. kind_at ks m) (sorts-closed kinds n c is) ∙ there) y (fits.bound w y found);
    once = fits.once;
  }

  root-named : (bucket : Text) (key : Option Text) → is_origin_key key ≡ true → (origin : Text) → key ≡ Some origin
      → is_of_origin key (record { key = unit_of origin bucket; path = []; kind = kind.Directory }) ≡ true
  root-named bucket None fine origin is = absurd cc
  root-named bucket (Some text) fine origin is =
      let same : text ≡ origin = some-same is in
      let plain = plain-from_is_origin text (and_parts (is_origin text) (is_one_line text) (and_parts (is_origin text && is_one_line text) (is_short_key text) fine).0).0 in
      ap (λ o. same_text text (origin_of (unit_of o bucket))) (sym same)
      ∙ ap (same_text text) (origin_of-unit_of text bucket plain)
      ∙ nat_list_eq_equiv.refl text

  fits-root : (v bucket : Text) (key : Option Text) → h.key ≡ key → is_origin_key h.key ≡ true → Fits (binds_root h v bucket key) kinds
  fits-root v bucket None same fine = fits
  fits-root v bucket (Some origin) same fine = fits-binds v _ (root-named bucket h.key fine origin same) (λ n is. absurd cc)

  handle-is-named : (k : Kind) (at : Locator) → is_of_origin h.key at ≡ true → IsNamed h.key kinds (handle_named k at)
  handle-is-named kind.Directory at own = own
  handle-is-named kind.File at own = own

  handle-fresh : (k : Kind) (at : Locator) → IsFresh h (handle_named k at)
  handle-fresh kind.Directory at n is = absurd cc
  handle-fresh kind.File at n is = absurd cc

  fits-child : (v : Text) (dir : Locator) (r : Reply) → is_of_origin h.key dir ≡ true → Fits (binds_child h v dir r) kinds
  fits-child v dir (reply.Child k name) own =
      fits-binds v (handle_named k (child_of dir name k)) (handle-is-named k (child_of dir name k) (child-own h.key dir name k ∙ own)) (handle-fresh k (child_of dir name k))
  fits-child v dir r own = fits

  accepted : (v : Text) (o : Op) (r : Reply) → is_origin_key h.key ≡ true → Names h.key kinds o → Fits (hand_after h v o r) (kinds_changed kinds o)
  accepted v (op.GetDirectory bucket) r fine names = fits-root v bucket h.key refl fine
  accepted v (op.GetDirectoryHandle dir name create) r fine names = fits-binds v _ (child-own h.key dir name kind.Directory ∙ names) (λ n is. absurd cc)
  accepted v (op.GetFileHandle dir name create) r fine names = fits-binds v _ (child-own h.key dir name kind.File ∙ names) (λ n is. absurd cc)
  accepted v (op.Values dir) r fine names = record {
    rows = more (iterator dir);
    still_open = sym (opens (iterator dir) ∙ append-nil h.opened);
    bound = all-bound (iterator dir) v _ (last (iterator dir), names);
    once = named-once v _ (λ n is. absurd cc);
  }
  accepted v (op.Next n dir) r fine names = fits-child v dir r names.1
  accepted v (op.GetFile at) r fine names = record {
    rows = more snapshot;
    still_open = sym (opens snapshot ∙ append-nil h.opened);
    bound = all-bound snapshot v _ (last snapshot);
    once = named-once v _ (λ n is. snapshot-same n (h.rows + 1) (sym is));
  }
  accepted v (op.CreateWritable at keep) r fine names = record {
    rows = more stream;
    still_open = sym (opens stream);
    bound = all-bound stream v _ (last stream);
    once = named-once v _ (λ n is. absurd cc);
  }
  accepted v (op.CreateSyncAccessHandle at m) r fine names = record {
    rows = more handle;
    still_open = sym (opens handle);
    bound = all-bound handle v _ (last handle);
    once = named-once v _ (λ n is. absurd cc);
  }
  accepted v (op.Close n) r fine names = fits-closes n closed_stream names (stream-closed n kinds stream names)
  accepted v (op.Abort n) r fine names = fits-closes n closed_stream names (stream-closed n kinds stream names)
  accepted v (op.SyncClose n) r fine names = fits-closes n closed_handle names (handle-closed n kinds handle names)
  accepted v o r fine names = fits

  -- After the call of a step.
  pub fits-then : (s : Step) (o : Op) (r : Reply) → is_origin_key h.key ≡ true → Names h.key kinds o → Fits (hand_then h s o r) (kinds_after kinds o r)
  fits-then s o (reply.No refusal) fine names = fits
  fits-then s o r fine names = accepted (bind_name s) o r fine names
