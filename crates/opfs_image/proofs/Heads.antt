-- A superblock as it is read.
use Rattle.std.proofs.Common.{◌≡◌, ℕ, ◌≤◌, ◌<◌, true, false, List, length, inr, refl, sym, ◌∙◌, ap, arith}
use Rattle.std.specs.Prelude.{Result, Ok, Err, IfOk, IfErr, nat_lt, ◌⊎◌}
use Rattle.opfs_outside.specs.Bytes.{window}
use Rattle.opfs_image.specs.Superblock.{geometry_by, geometry_of}
use Rattle.opfs_image.specs.declared.geometry.Geometry.{Geometry}
use Rattle.opfs_image.specs.declared.refusal.ImageRefusal.{ImageRefusal}
use Rattle.opfs_image.specs.declared.refusal.ImageRefusal.TheVariants as refusal

-- what is so of a result is so of what it holds
pub ok_of : {A B : Type 0} (tells : Type 0) (x r : Result A B) → (tells → x ≡ r) → IfOk r (λ a. tells → x ≡ Ok a)
ok_of tells x (Ok a) same = same
ok_of tells x (Err b) same = tt

pub err_of : {A B : Type 0} (tells : Type 0) (P : B → Type 0) (x r : Result A B) → (tells → x ≡ r) → IfErr r (λ b. P b ⊎ (tells → x ≡ Err b))
err_of tells P x (Ok a) same = tt
err_of tells P x (Err b) same = inr same

same_head : (c : List ℕ) (len : ℕ) → geometry_by (window c 0 24) len ≡ geometry_by c len
same_head c len = refl

pub short_is : (c : List ℕ) (n : ℕ) → length c ≡ n → n < 4096 → geometry_of c ≡ Err refusal.Short
short_is c n e h = let t : nat_lt (length c) 4096 ≡ true = search (arith, e, h) in rw t refl

pub long_is : (c : List ℕ) (n : ℕ) (head : List ℕ) (r : Result Geometry ImageRefusal) → length c ≡ n → 4096 ≤ n → head ≡ window c 0 24 → r ≡ geometry_by head n → geometry_of c ≡ r
long_is c n head r e h is judged =
    let t : nat_lt (length c) 4096 ≡ false = search (arith, e, h) in
    rw (t, e) (sym (same_head c n) ∙ ap (λ b. geometry_by b n) (sym is) ∙ sym judged)
