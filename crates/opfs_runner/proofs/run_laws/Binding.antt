-- What variables name once one is bound anew.
use Rattle.std.proofs.Common.{◌≡◌, ◌⊎◌, true, false, cond, Option, Some, None, refl, sym, ap, ◌∙◌, inl, inr}
use Rattle.std.proofs.lemmas.Cmp.{eq_by_cmp_equiv}
use Rattle.std.proofs.lemmas.Map.Lookups.{exact_bytes}
use Rattle.std.proofs.lemmas.Map.Views.{tells_apart}
use Rattle.std.specs.Cmp.Lexicographic.{slice_cmp, nat_list_cmp_total}
use Rattle.std.specs.FinMap.Entries.{find-put}
use Rattle.std.specs.Ordering.{nat_cmp, eq_by_cmp}
use Rattle.opfs_base.specs.Texts.{Text}
use Rattle.opfs_base.specs.declared.locator.Locator.{Locator}
use Rattle.opfs_hist.specs.declared.op.Op.{Op}
use Rattle.opfs_hist.specs.declared.op.Op.TheVariants as op
use Rattle.opfs_hist.specs.declared.reply.Reply.{Reply}
use Rattle.opfs_hist.specs.declared.reply.Reply.TheVariants as reply
use Rattle.opfs_script_run.specs.declared.runs.hand.Hand.{Hand}
use Rattle.opfs_script_run.specs.declared.runs.hand.Named.{Named}
use Rattle.opfs_script_run.specs.Runs.Running.{named_by, binds, binds_root, binds_child, bind_name, hand_after, hand_then}
use Rattle.opfs_script.specs.declared.step.Step.{Step}

some-same : {X : Type 0} {x y : X} → Some x ≡ Some y → x ≡ y
some-same e = cc

module _ (h : Hand) (v : Text) (x : Named) where
  -- The variable names what it was bound to.
  pub bound-now : named_by (binds h v x) v ≡ Some x
  bound-now =
      find-put (slice_cmp nat_cmp) nat_list_cmp_total v v x h.bound
      ∙ ap (λ b. cond b (Some x) (named_by h v)) ((eq_by_cmp_equiv nat_list_cmp_total).refl v)

  -- What is named is the new name of this variable, or was named before.
  pub bound-cases : (w : Text) (y : Named) → named_by (binds h v x) w ≡ Some y → ((w ≡ v) × (x ≡ y)) ⊎ (named_by h w ≡ Some y)
  bound-cases w y is =
      elim (eq_by_cmp (slice_cmp nat_cmp) w v)
      as (λ b. eq_by_cmp (slice_cmp nat_cmp) w v ≡ b → cond b (Some x) (named_by h w) ≡ Some y → ((w ≡ v) × (x ≡ y)) ⊎ (named_by h w ≡ Some y)) [
        | true ↦ λ same e. inl (tells_apart exact_bytes w v same, some-same e)
        | false ↦ λ other e. inr e
      ] refl (sym (find-put (slice_cmp nat_cmp) nat_list_cmp_total w v x h.bound) ∙ is)

-- Only this variable may name something new,
abbrev pub Comes : Hand → Hand → Text → Type 0
Comes h new v = (w : Text) (y : Named) → named_by new w ≡ Some y → (named_by h w ≡ Some y) ⊎ (w ≡ v)

-- and only this one may no longer name what it did.
abbrev pub Keeps : Hand → Hand → Text → Type 0
Keeps h new v = (w : Text) (y : Named) → named_by h w ≡ Some y → (named_by new w ≡ Some y) ⊎ (w ≡ v)

abbrev BindsOne : Hand → Hand → Text → Type 0
BindsOne h new v = Comes h new v × Keeps h new v

module _ (h : Hand) (v : Text) where
  one-bound : (x : Named) → BindsOne h (binds h v x) v
  one-bound x = (
    λ w y is.
        elim (bound-cases h v x w y is) as (λ z. (named_by h w ≡ Some y) ⊎ (w ≡ v)) [
          | inl new ↦ inr new.0
          | inr old ↦ inl old
        ],
    λ w y is.
        elim (eq_by_cmp (slice_cmp nat_cmp) w v) as (λ b. eq_by_cmp (slice_cmp nat_cmp) w v ≡ b → (named_by (binds h v x) w ≡ Some y) ⊎ (w ≡ v)) [
          | true ↦ λ same. inr (tells_apart exact_bytes w v same)
          | false ↦ λ other. inl (find-put (slice_cmp nat_cmp) nat_list_cmp_total w v x h.bound ∙ ap (λ b. cond b (Some x) (named_by h w)) other ∙ is)
        ] refl,
  )

  none-bound : BindsOne h h v
  none-bound = (λ w y is. inl is, λ w y is. inl is)

  one-root : (bucket : Text) (key : Option Text) → BindsOne h (binds_root h v bucket key) v
  one-root bucket None = none-bound
  one-root bucket (Some origin) = one-bound _

  one-child : (dir : Locator) (r : Reply) → BindsOne h (binds_child h v dir r) v
  one-child dir (reply.Child k name) = one-bound _
  one-child dir r = none-bound

  one-after : (o : Op) (r : Reply) → BindsOne h (hand_after h v o r) v
  one-after (op.GetDirectory bucket) r = one-root bucket h.key
  one-after (op.GetDirectoryHandle dir name create) r = one-bound _
  one-after (op.GetFileHandle dir name create) r = one-bound _
  one-after (op.Values dir) r = one-bound _
  one-after (op.Next n dir) r = one-child dir r
  one-after (op.GetFile at) r = one-bound _
  one-after (op.CreateWritable at keep) r = one-bound _
  one-after (op.CreateSyncAccessHandle at m) r = one-bound _
  one-after o r = none-bound

-- After a step at most its own variable is bound anew.
pub one-then : (h : Hand) (s : Step) (o : Op) (r : Reply) → BindsOne h (hand_then h s o r) (bind_name s)
one-then h s o (reply.No refusal) = none-bound h (bind_name s)
one-then h s o r = one-after h (bind_name s) o r
