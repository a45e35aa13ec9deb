-- Calls that end what is open, or the agent: they are not refused, and no unit is cleared for them.
use Rattle.std.proofs.Common.{◌≡◌, ℕ, true, [], Option, Some, Ok, refl, ap, ◌∙◌}
use Rattle.std.specs.Prelude.{IsTrue}
use Rattle.std.proofs.lemmas.Bool.{false≢true}
use Rattle.opfs_store.specs.Acts.Acting.{always_acts}
use Rattle.opfs_store.specs.Acts.Asking.{names_open}
use Rattle.opfs_base.specs.Texts.{Text}
use Rattle.opfs_state_rows.specs.Changes.Asking.{ends}
use Rattle.opfs_hist.specs.declared.op.Op.{Op}
use Rattle.opfs_hist.specs.declared.op.Op.TheVariants as op
use Rattle.opfs_hist.specs.declared.reply.Refusal.TheVariants as refusal
use Rattle.opfs_laws.proofs.Local.{room_for_nothing}
use Rattle.opfs_machine.specs.declared.state.Need.{Need}
use Rattle.opfs_machine.specs.declared.own.Own.{Own}
use Rattle.opfs_machine.specs.declared.state.State.{State}
use Rattle.opfs_machine.specs.Agents.{agent_of, of_row, own_of, stream_in}
use Rattle.opfs_machine.specs.Contents.{in_bytes, outline_of}
use Rattle.opfs_machine.specs.Histories.{may_enter}
use Rattle.opfs_machine.specs.Replies.{sizes_of}
use Rattle.opfs_machine.specs.Ruled.{Ruled, ◌>>=◌, some_or}
use Rattle.opfs_machine.specs.Rulings.{ruling, stream_ruling}
use Rattle.opfs_machine.specs.Steps.{judged, room_for}
use Rattle.opfs_machine.specs.Sums.{no_need}
use Rattle.opfs_desk_steps.proofs.judging.Named.{stream-named}

pub takes-none : (o : Op) → always_acts o ≡ true → ends o ≡ true
takes-none (op.Abort n) h = refl
takes-none (op.Discard n) h = refl
takes-none op.End h = refl
takes-none o h = absurd (false≢true h)

abort-asks : (s : State Text Own) (k n : ℕ) (r : Option Own) → own_of (agent_of s k) n ≡ r → stream_ruling in_bytes s k n ≡ (some_or (of_row (λ x. stream_in (outline_of x)) r) refusal.TypeError >>= λ w. Ok no_need)
unfolding stream_ruling
abort-asks s k n r is = ap (λ x. some_or (of_row (λ y. stream_in (outline_of y)) x) refusal.TypeError >>= λ w. Ok no_need) is

some-asks : {A : Type 0} (a : A) → ◌≡◌ {A = Ruled Need} (some_or (Some a) refusal.TypeError >>= λ w. Ok no_need) (Ok no_need)
unfolding ◌>>=◌
some-asks a = refl

asks-nothing : (s : State Text Own) (k : ℕ) (o : Op) → always_acts o ≡ true → IsTrue (may_enter s k o) → IsTrue (names_open s k o) → ruling in_bytes s (sizes_of s k o) k o ≡ Ok no_need
unfolding ruling may_enter
asks-nothing s k (op.Abort n) h may opened = let it = stream-named s k n may opened in abort-asks s k n _ it.1 ∙ some-asks _
asks-nothing s k (op.Discard n) h may opened = refl
asks-nothing s k op.End h may opened = refl
asks-nothing s k o h may opened = absurd (false≢true h)

room-of : (s : State Text Own) (key : Option Text) (r : Ruled Need) → r ≡ Ok no_need → (r >>= room_for in_bytes s key) ≡ Ok []
unfolding ◌>>=◌
room-of s key r is = ap (λ x. x >>= room_for in_bytes s key) is ∙ room_for_nothing s key

pub never-refused : (s : State Text Own) (k : ℕ) (o : Op) → always_acts o ≡ true → IsTrue (may_enter s k o) → IsTrue (names_open s k o) → judged s k o ≡ Ok []
unfolding judged
never-refused s k o h may opened = room-of s (agent_of s k).key (ruling in_bytes s (sizes_of s k o) k o) (asks-nothing s k o h may opened)
