-- What a run over an empty image on a disk that never fails is.
use Rattle.std.proofs.Common.{◌≡◌, ◌≢◌, ℕ, ◌+◌, Bool, true, false, cond, List, [], ◌∷◌, All, inl, inr, refl, sym, ap, ◌∙◌, subst, arith}
use Rattle.std.proofs.lemmas.List.Elements.{All-nil, All-cons}
use Rattle.std.proofs.lemmas.List.Sums.{sum_by-cons}
use Rattle.std.specs.Prelude.{Result, Ok, Err, IfOk, OnOk}
use Rattle.std.specs.declared.alloc.AllocError.{AllocError}
use Rattle.opfs_codec.specs.declared.change.Format.TheVariants.{New}
use Rattle.opfs_desk_runs.specs.Runs.{IsImageOf, IsRunOn, opening_in}
use Rattle.opfs_desk_runs.specs.declared.running.Completion.{Completion}
use Rattle.opfs_desk_runs.specs.Trial.Empty.{IsEmptyImage, NeverFails, trial_geometry}
use Rattle.opfs_hist.specs.Faults.{disk_faults, is_disk_fault}
use Rattle.opfs_hist.specs.declared.entry.Entry.{Entry}
use Rattle.opfs_image.specs.Filling.{filled}
use Rattle.opfs_image.specs.Reading.{Image, read_as}
use Rattle.opfs_image.specs.Superblock.{data_base}
use Rattle.opfs_image.specs.declared.geometry.Geometry.{Geometry}
use Rattle.opfs_image.specs.declared.refusal.ImageRefusal.{ImageRefusal}
use Rattle.opfs_image.specs.declared.refusal.ImageRefusal.TheVariants as image
use Rattle.opfs_machine.specs.Histories.{Legal}
use Rattle.opfs_machine.specs.Openings.{Map, Opening, empty_map}
use Rattle.opfs_books.specs.Openings.Openings.{limits_by}
use Rattle.opfs_outside.specs.Faults.{Rose, RoseBy}
use Rattle.opfs_outside.specs.declared.disk.Disk.{Ghosts as DiskWords}
use Rattle.opfs_records.specs.Replay.Built.{Built, nothing_built}
use Rattle.opfs_script.specs.Scripts.{Asked}
use Rattle.opfs_script_run.specs.Stage.Openings.{opening_of, trial_opening}
use Rattle.opfs_script_run.specs.Stage.Runs.{EachAlone}
use Rattle.opfs_judge.specs.Trial.Trials.{IsTrial}

-- nothing rose where the counts are 0
pub none-rose : (old new : ℕ) → old ≡ 0 → new ≡ 0 → Rose old new → ⊥
none-rose old new a b (inl h) = omega (arith, a, b, h)
none-rose old new a b (inr h) = omega (arith, b, h)

none-by : (n old new : ℕ) → old ≡ 0 → new ≡ 0 → RoseBy n old new → n ≡ 0
none-by n old new a b (inl h) = omega (arith, a, b, h)
none-by n old new a b (inr h) = absurd (omega (arith, b, h))

-- no entry is a disk fault
not-counted : (b : Bool) (n : ℕ) → cond b 1 0 + n ≡ 0 → b ≡ false
not-counted false n is = refl
not-counted true n is = absurd (omega (arith, is))

none-behind : (b : Bool) (n : ℕ) → cond b 1 0 + n ≡ 0 → n ≡ 0
none-behind b n is = omega (arith, is)

no-faults : (es : List Entry) → disk_faults es ≡ 0 → All (λ e. is_disk_fault e.reply ≡ false) es
no-faults [] none = All-nil (λ (e : Entry). is_disk_fault e.reply ≡ false)
no-faults (e ∷ es) none =
    let split = sym (sum_by-cons (λ (x : Entry). cond (is_disk_fault x.reply) 1 0) e es) ∙ none in
    All-cons (λ (x : Entry). is_disk_fault x.reply ≡ false) e es
    (not-counted (is_disk_fault e.reply) (disk_faults es) split) (no-faults es (none-behind (is_disk_fault e.reply) (disk_faults es) split))

-- what one image reads as
ok-same : (r : Result Image ImageRefusal) (a b : Image) → r ≡ Ok a → r ≡ Ok b → a ≡ b
ok-same r a b x y = cc

not-both : (r : Result Image ImageRefusal) (a : Image) (e : ImageRefusal) → r ≡ Ok a → r ≡ Err e → ⊥
not-both r a e x y = cc

-- the opening over an empty image
opening-is : (script : List Asked) (g : Geometry) (before : Map) (c : List ℕ) → IsEmptyImage c → IsImageOf g before c → opening_in g before script ≡ trial_opening script
opening-is script g before c empty stood =
    let same = ok-same (read_as New New c) (record { geometry = g; built = stood.built }) (record { geometry = trial_geometry; built = nothing_built }) stood.reads empty in
    let sizes : g ≡ trial_geometry = ap (λ i. i.geometry) same in
    let built : stood.built ≡ nothing_built = ap (λ i. i.built) same in
    let stored : before ≡ empty_map = sym stood.stands ∙ ap (λ (b : Built). filled (data_base g) c b) built in
    λ i. opening_of (stored i) (limits_by (sizes i)) script

module _ {D : Type 0} (w : DiskWords D) (tells : w.tells) (never : NeverFails w) (script : List Asked) (old : D) (empty : IsEmptyImage (w.content old)) where
  -- a run that was whole
  trial-whole : (run : Completion D) → IsRunOn w script old run → run.whole ≡ true → IsTrial script run.history
  trial-whole run is whole =
      let opens = opening-is script is.geometry is.before (w.content old) empty (is.stood tells) in
      record {
        legal = subst (λ (o : Opening). Legal o run.history) opens (is.over.history.legal tells);
        runs = is.over.history.runs whole;
        agents = is.over.history.agents;
        faultless = no-faults run.history (none-by (disk_faults run.history) (w.faults old) (w.faults run.disk) (never old) (never run.disk) is.over.faults);
        alone = subst (λ (o : Opening). EachAlone o run.history) opens (is.over.history.alone tells);
      }

  -- and one of which it is told
  pub trial-of : (run : Completion D) → IsRunOn w script old run → (r : Result (List Entry) AllocError) → OnOk r (run.whole ≡ true) → IfOk r (λ h. h ≡ run.history) → IfOk r (λ h. IsTrial script h)
  trial-of run is (Ok h) whole same = subst (λ (es : List Entry). IsTrial script es) (sym same) (trial-whole run is whole)
  trial-of run is (Err e) whole same = tt

  -- no other refusal than want of memory
  pub no-refusal : (new : D) (refusal : ImageRefusal) → (refusal ≢ image.DiskFault → refusal ≢ image.NoMemory → w.tells → read_as New New (w.content old) ≡ Err refusal)
      → (refusal ≡ image.DiskFault → Rose (w.faults old) (w.faults new)) → refusal ≡ image.NoMemory
  no-refusal new image.Short refused cause = absurd (not-both _ _ _ empty (refused (λ e. cc e) (λ e. cc e) tells))
  no-refusal new image.Magic refused cause = absurd (not-both _ _ _ empty (refused (λ e. cc e) (λ e. cc e) tells))
  no-refusal new image.Geometry refused cause = absurd (not-both _ _ _ empty (refused (λ e. cc e) (λ e. cc e) tells))
  no-refusal new image.NoArea refused cause = absurd (not-both _ _ _ empty (refused (λ e. cc e) (λ e. cc e) tells))
  no-refusal new (image.BadRecord place) refused cause = absurd (not-both _ _ _ empty (refused (λ e. cc e) (λ e. cc e) tells))
  no-refusal new image.Old refused cause = absurd (not-both _ _ _ empty (refused (λ e. cc e) (λ e. cc e) tells))
  no-refusal new image.NotOld refused cause = absurd (not-both _ _ _ empty (refused (λ e. cc e) (λ e. cc e) tells))
  no-refusal new (image.Overfull charge area) refused cause = absurd (not-both _ _ _ empty (refused (λ e. cc e) (λ e. cc e) tells))
  no-refusal new image.DiskFault refused cause = absurd (none-rose (w.faults old) (w.faults new) (never old) (never new) (cause refl))
  no-refusal new image.NoMemory refused cause = refl
