-- Parties, and the units that are theirs.
use Rattle.std.proofs.Common.{◌≡◌, ℕ, true, false, Option, Some, None, refl, sym, ap, ◌∙◌}
use Rattle.std.specs.Cmp.Lexicographic.{same_text as equal_texts}
use Rattle.opfs_base.specs.Texts.{Text, same_text}
use Rattle.opfs_base.specs.Units.{origin_of}
use Rattle.opfs_machine.specs.declared.state.Party.{Party}
use Rattle.opfs_machine.specs.declared.state.Party.TheVariants.{Origin, Alone}
use Rattle.opfs_machine.specs.Agents.{party_with, same_party}
use Rattle.opfs_machine.specs.Alone.{is_partys}
use Rattle.opfs_machine.specs.Victims.{is_callers}

-- A caller's units are its party's.
pub partys-own : (p : Party) (key : Option Text) (k : ℕ) (unit : Text) → same_party p (party_with key k) ≡ true → is_partys p unit ≡ is_callers key unit
partys-own (Origin a) (Some b) k unit h = ap (λ t. same_text t (origin_of unit)) (equal_texts a b (sym h))
partys-own (Origin a) None k unit h = cc
partys-own (Alone j) (Some b) k unit h = cc
partys-own (Alone j) None k unit h = refl

-- And no other party's.
pub partys-other : (p : Party) (key : Option Text) (k : ℕ) (unit : Text) → same_party p (party_with key k) ≡ false → is_callers key unit ≡ true → is_partys p unit ≡ false
partys-other (Origin a) (Some b) k unit h own = ap (λ t. same_text a t) (sym (equal_texts b (origin_of unit) (sym own))) ∙ h
partys-other (Origin a) None k unit h own = cc
partys-other (Alone j) key k unit h own = refl
