use Rattle.std.proofs.Common.{◌≡◌, ℕ, List, [], ◌∷◌, ◌++◌, ap, arith, inl, inr, refl}
use Rattle.std.specs.Prelude.{slice_index_or}
use Rattle.opfs_base.specs.Texts.{Text}
use Rattle.opfs_hist.specs.declared.reply.Refusal.TheVariants as refusal
use Rattle.opfs_hist.specs.declared.reply.Reply.TheVariants as reply
use Rattle.opfs_machine.specs.Machine.{whole_machine}
use Rattle.opfs_examples.specs.Room.{b_example}
use Rattle.opfs_examples.specs.Trying.{a_example}
use Rattle.opfs_examples.proofs.stored.evictions_keep_their_order.Goals as goal

answered : reply.No refusal.DiskFault ≡ reply.Done → ⊥
answered e = cc

-- the ninth byte of the first text
abbrev byte_in : List Text → ℕ
byte_in [] = 0
byte_in (unit ∷ units) = slice_index_or unit 8 0

apart : (a b : ℕ) → a ≡ 97 → b ≡ 98 → a ≡ b → ⊥
apart a b first second e = omega (arith, first, second, e)

order : (rest : List Text) → a_example ∷ b_example ∷ [] ≡ b_example ∷ [] ++ rest → ⊥
order rest e = apart _ _ refl refl (ap byte_in e)

pub returns : goal.returns
unfolding whole_machine
returns c = λ h. elim h.1.1.1.1.1.1.1.1.1.1.0.agrees [
  | inl a ↦ answered a.same_reply
  | inr f ↦ order f.front.0 f.front.1
]
