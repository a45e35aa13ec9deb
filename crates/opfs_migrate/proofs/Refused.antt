-- Refusals as they are answered.
use Rattle.std.proofs.Common.{◌≡◌, ◌≢◌, ◌⊎◌, inl, inr, refl}
use Rattle.opfs_journal.specs.declared.refusal.OpenRefusal.{OpenRefusal}
use Rattle.opfs_journal.specs.declared.refusal.OpenRefusal.TheVariants as opening
use Rattle.opfs_image.specs.Answers.{refused_first}
use Rattle.opfs_image.specs.declared.refusal.ImageRefusal.{ImageRefusal}
use Rattle.opfs_image.specs.declared.refusal.ImageRefusal.TheVariants as answer

-- a fault of the first gates is answered for a fault alone
pub begun_fault : (r : OpenRefusal) → refused_first r ≡ answer.DiskFault → r ≡ opening.DiskFault
begun_fault opening.NoArea e = absurd (cc)
begun_fault (opening.BadRecord place) e = absurd (cc)
begun_fault opening.DiskFault e = refl
begun_fault opening.NoMemory e = absurd (cc)

-- what the first gates refuse was refused before, so a disk that tells refuses nothing
pub begun : (tells : Type 0) (r : OpenRefusal) (e : ImageRefusal) → e ≡ refused_first r → (r ≢ opening.DiskFault → r ≢ opening.NoMemory → tells → ⊥)
    → (e ≡ answer.DiskFault) ⊎ (e ≡ answer.NoMemory) ⊎ (tells → ⊥)
begun tells opening.NoArea e is never = inr (inr (never (λ h. cc) (λ h. cc)))
begun tells (opening.BadRecord place) e is never = inr (inr (never (λ h. cc) (λ h. cc)))
begun tells opening.DiskFault e is never = inl is
begun tells opening.NoMemory e is never = inr (inl is)
