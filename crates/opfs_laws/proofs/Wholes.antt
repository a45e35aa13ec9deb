-- What every reached state keeps.
use Rattle.std.proofs.Common.{◌≡◌, ℕ, ◌≤◌, true, false, All, List, [], ◌∷◌, fold, Some, None, refl, sym, ap, ◌∙◌, subst, inl, inr, arith}
use Rattle.std.proofs.lemmas.Bool.{false≢true}
use Rattle.opfs_base.specs.Places.{Place, place_of}
use Rattle.opfs_base.specs.Texts.{Text}
use Rattle.opfs_base.specs.declared.locator.Locator.{Locator}
use Rattle.opfs_hist.specs.declared.entry.Entry.{Entry}
use Rattle.opfs_hist.specs.declared.op.Op.{Op}
use Rattle.opfs_hist.specs.declared.op.Op.TheVariants as op
use Rattle.opfs_hist.specs.declared.reply.Reply.{Reply}
use Rattle.opfs_locks.specs.declared.Want.{Want}
use Rattle.opfs_locks.specs.declared.Want.TheVariants as want
use Rattle.opfs_machine.specs.declared.own.Own.{Own}
use Rattle.opfs_machine.specs.declared.state.FileRow.{FileRow}
use Rattle.opfs_machine.specs.declared.state.Row.TheVariants as row
use Rattle.opfs_machine.specs.declared.state.State.{State}
use Rattle.opfs_machine.specs.Agents.{agent_of, own_of}
use Rattle.opfs_machine.specs.Contents.{in_bytes}
use Rattle.opfs_machine.specs.Effects.{effect, refused}
use Rattle.opfs_machine.specs.Histories.{may_enter, is_own, IsCall}
use Rattle.opfs_machine.specs.Replies.{sizes_of}
use Rattle.opfs_machine.specs.Rows.{Rows, row_at, file_at}
use Rattle.opfs_machine.specs.Rulings.{lock_in}
use Rattle.opfs_machine.specs.Steps.{evicted, changed_by, is_refusal}
use Rattle.opfs_machine.specs.Victims.{is_candidate}
use Rattle.opfs_laws.specs.Holders.{hold_of, counts, holders, AreHolders, IsLockOf, AreLocksOfHolders}
use Rattle.opfs_laws.specs.Whole.{IsInOrder, IsClosed}
use Rattle.opfs_laws.proofs.Allowed.{row-stays}
use Rattle.opfs_laws.proofs.Gone.{ran-by, gone-candidates}
use Rattle.opfs_laws.proofs.Held.{one_of}
use Rattle.opfs_laws.proofs.LocksKept.{counts-here}
use Rattle.opfs_laws.proofs.Maps.{order-put, order-without, order-change, closed-put, closed-without, closed-change}
use Rattle.opfs_laws.proofs.OwnFiles.{callers-own}
use Rattle.opfs_laws.proofs.OwnSums.{row-part}
use Rattle.opfs_laws.proofs.Reaching.{IsKeptBy}
use Rattle.opfs_laws.proofs.RowsEffect.{IsPlaced, placed, effect-rows}

dir-stays : (s : State Text Own) (gone : List Text) (k : ℕ) (dir : Locator) → All (λ u. is_candidate s (agent_of s k).key u ≡ true) gone → is_own s k dir ≡ true
    → row_at s (place_of dir) ≡ Some row.Directory → row_at (fold evicted s gone) (place_of dir) ≡ Some row.Directory
dir-stays s gone k dir all may h = row-stays s s (agent_of s k).key gone (place_of dir) all (sym (callers-own (agent_of s k).key dir) ∙ may) ∙ h

placed-after : (s : State Text Own) (gone : List Text) (k : ℕ) (o : Op) → All (λ u. is_candidate s (agent_of s k).key u ≡ true) gone → may_enter s k o ≡ true
    → IsPlaced s o → IsPlaced (fold evicted s gone) o
unfolding may_enter
placed-after s gone k (op.GetDirectoryHandle dir name create) all may h = dir-stays s gone k dir all may h
placed-after s gone k (op.GetFileHandle dir name create) all may h = dir-stays s gone k dir all may h
placed-after s gone k o all may h = tt

pub call-placed : (s : State Text Own) (gone : List Text) (e : Entry) → IsCall s gone e → is_refusal e.reply ≡ false → IsPlaced (fold evicted s gone) e.op
call-placed s gone e call accepted =
    let ran = ran-by s gone e call in
    elim ran as (λ r. IsPlaced (fold evicted s gone) e.op) [
      | inl refused_call ↦ absurd (false≢true (sym accepted ∙ ap is_refusal refused_call.told))
      | inr done ↦ elim done as (λ r. IsPlaced (fold evicted s gone) e.op) [
        | inl given ↦ placed-after s gone e.agent e.op (gone-candidates s gone e.agent e.op e.reply ran) call.fitting
            (placed s (sizes_of s e.agent e.op) e.agent e.op given.given.need given.given.ruled)
        | inr fault ↦ absurd (false≢true (sym accepted ∙ fault.refused))
      ]
    ]

-- The rows are a map.
pub record IsMap (rows : Rows Text) : Type 0 where
  pub order : IsInOrder rows
  pub parents : IsClosed rows

pub map-gone : (gone : List Text) (s : State Text Own) → IsMap s.rows → IsMap (fold evicted s gone).rows
map-gone [] s h = h
map-gone (unit ∷ units) s h =
    map-gone units (evicted s unit) (record { order = order-without (unit, []) s.rows h.order; parents = closed-without (unit, []) s.rows h.parents })

refused-map : (s : State Text Own) (k : ℕ) (o : Op) → IsMap s.rows → IsMap (refused s k o).rows
refused-map s k (op.Await tag) h = h
refused-map s k o h = h

changed-map : (s : State Text Own) (k : ℕ) (o : Op) (answered : Reply) → (is_refusal answered ≡ false → IsPlaced s o) → IsMap s.rows → IsMap (changed_by s k o answered).rows
changed-map s k o answered may h =
    elim (is_refusal answered) as (λ b. (b ≡ false → IsPlaced s o) → IsMap (elim b as (λ x. State Text Own) [ true ↦ refused s k o | false ↦ effect in_bytes s (sizes_of s k o) k o ]).rows) [
      | true ↦ λ m. refused-map s k o h
      | false ↦ λ m. effect-rows (λ rows modes limits. IsMap rows)
          (λ p r rows modes limits free parent old. record { order = order-put p r rows old.order; parents = closed-put p r rows free parent old.parents })
          (λ p rows modes limits old. record { order = order-without p rows old.order; parents = closed-without p rows old.parents })
          (λ p change rows modes limits old. record { order = order-change p change rows old.order; parents = closed-change p change rows old.parents })
          (λ unit rows modes limits old. old)
          s (sizes_of s k o) k o (m refl) h
    ] may

pub map-kept : IsKeptBy (λ s. IsMap s.rows)
map-kept s gone e call h = changed-map (fold evicted s gone) e.agent e.op e.reply (call-placed s gone e call) (map-gone gone s h)

-- The file of an open row is there.
some_one : (w : Want) (count : Want → ℕ) → AreHolders count 0 0 0 → 1 ≤ count w → ⊥
some_one want.Exclusive count h one = omega (arith, h.exclusive, one)
some_one want.Shared count h one = omega (arith, h.shared, one)
some_one want.ReadOnly count h one = omega (arith, h.read_only, one)

one_itself : (w : Want) → one_of w w ≡ 1
one_itself want.Exclusive = refl
one_itself want.Shared = refl
one_itself want.ReadOnly = refl

pub file-there : (s : State Text Own) → AreLocksOfHolders s → (k n : ℕ) (r : Own) (place : Place) (w : Want) → own_of (agent_of s k) n ≡ Some r → hold_of r ≡ Some (place, w)
    → (f : FileRow Text) × (file_at s place ≡ Some f)
file-there s locks k n r place w is holds =
    elim (file_at s place) as (λ o. file_at s place ≡ o → (f : FileRow Text) × (o ≡ Some f)) [
      | Some f ↦ λ there. (f, refl)
      | None ↦ λ there.
          let part = row-part (λ x. counts place w (hold_of x)) s k n r is in
          let one = counts-here place w w r holds in
          let same = one_itself w in
          absurd (some_one w (holders s place) (subst (λ f. IsLockOf (lock_in f) (holders s place)) there (locks place)).1 (omega (arith, part, one, same)))
    ] refl
