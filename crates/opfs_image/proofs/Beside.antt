-- The superblock and the data part of an image lie outside of its areas.
use Rattle.std.proofs.Common.{◌≡◌, ℕ, ◌+◌, ◌<◌, ◌≤◌, List, [], ◌∷◌, length, inl, inr, refl, sym, ◌∙◌, ap, arith}
use Rattle.std.specs.Prelude.{Result, Err, nat_lt, if◌then◌else◌}
use Rattle.opfs_base.specs.declared.extents.Extent.{Extent}
use Rattle.opfs_outside.specs.Bytes.{Same, window}
use Rattle.opfs_outside.specs.Windows.{same_window}
use Rattle.opfs_image.specs.Filling.{AreIn}
use Rattle.opfs_image.specs.Superblock.{geometry_by, geometry_of}
use Rattle.opfs_image.specs.declared.geometry.Geometry.{Geometry}
use Rattle.opfs_image.specs.declared.refusal.ImageRefusal.{ImageRefusal}
use Rattle.opfs_image.specs.declared.refusal.ImageRefusal.TheVariants as refusal

abbrev judged : Result Geometry ImageRefusal → ℕ → Result Geometry ImageRefusal
judged found n = if nat_lt n 4096 then Err refusal.Short else found

head_only : (c : List ℕ) (n : ℕ) → geometry_by (window c 0 24) n ≡ geometry_by c n
head_only c n = refl

-- images of one length with the same head have the same geometry
pub same_geometry : (c d : List ℕ) → length c ≡ length d → Same (λ i. i < 24) c d → geometry_of c ≡ geometry_of d
same_geometry c d len same =
    let head : window c 0 24 ≡ window d 0 24 = same_window c d 0 24 (λ k h. same (0 + k) (omega (arith, h))) in
    let found : geometry_by c (length c) ≡ geometry_by d (length d) = sym (head_only c (length c)) ∙ ap (λ h. geometry_by h (length c)) head ∙ head_only d (length c) ∙ ap (λ n. geometry_by d n) len in
    λ i. judged (found i) (len i)

-- the blocks of files lie in the data part
pub in_data : (base : ℕ) (es : List Extent) (i : ℕ) → AreIn base es i → base ≤ i
in_data base [] i h = elim h [ ]
in_data base (e ∷ es) i (inl h) = omega (arith, h.0)
in_data base (e ∷ es) i (inr h) = in_data base es i h
