-- A call that asks for a child, makes none and is not refused: its child is there.
use Rattle.std.proofs.Common.{◌≡◌, ℕ, Bool, true, false, is_some, List, [], fold, Option, Some, None, Ok, refl, sym, ap, ◌∙◌, subst, inl, inr}
use Rattle.std.proofs.lemmas.Bool.{false≢true}
use Rattle.opfs_base.specs.Places.{child, place_of}
use Rattle.opfs_base.specs.Texts.{Text}
use Rattle.opfs_base.specs.declared.locator.Kind.{Kind}
use Rattle.opfs_base.specs.declared.locator.Kind.TheVariants as kind
use Rattle.opfs_base.specs.declared.locator.Locator.{Locator}
use Rattle.opfs_hist.specs.declared.entry.Entry.{Entry}
use Rattle.opfs_hist.specs.declared.op.Op.{Op}
use Rattle.opfs_hist.specs.declared.op.Op.TheVariants as op
use Rattle.opfs_hist.specs.declared.reply.Refusal.TheVariants as refusal
use Rattle.opfs_laws.proofs.Gone.{IsGiven, Ran, ran-by, then-gave, unless-gave}
use Rattle.opfs_laws.proofs.Local.{room_for_nothing}
use Rattle.opfs_machine.specs.declared.own.Own.{Own}
use Rattle.opfs_machine.specs.declared.state.Need.{Need}
use Rattle.opfs_machine.specs.declared.state.Row.{Row}
use Rattle.opfs_machine.specs.declared.state.State.{State}
use Rattle.opfs_machine.specs.Agents.{agent_of}
use Rattle.opfs_machine.specs.Contents.{in_bytes}
use Rattle.opfs_machine.specs.Histories.{IsCall}
use Rattle.opfs_machine.specs.Rows.{row_at}
use Rattle.opfs_machine.specs.Ruled.{Ruled}
use Rattle.opfs_machine.specs.Rulings.{child_ruling, get_handle_ruling, ruling}
use Rattle.opfs_machine.specs.Steps.{evicted, is_refusal, room_for}
use Rattle.opfs_machine.specs.Sums.{no_need}
use Rattle.opfs_desk_steps.proofs.iterating.Fewer.{HasChild}

one-need : (a b : Need) → ◌≡◌ {A = Ruled Need} (Ok a) (Ok b) → b ≡ a
one-need a b e = cc

one-list : (a b : List Text) → ◌≡◌ {A = Ruled (List Text)} (Ok a) (Ok b) → a ≡ b
one-list a b e = cc

found-row : (kd : Kind) (dir : Locator) (name : Text) (need : Need) (o : Option (Row Text)) → child_ruling kd (child (place_of dir) name) name false o ≡ Ok need → (is_some o ≡ true) × (need ≡ no_need)
found-row kd dir name need None h = absurd (false≢true (unless-gave false refusal.NotFoundError (then-gave _ _ need h).0))
found-row kd dir name need (Some r) h = (refl, one-need no_need need (then-gave _ _ need h).1)

ruled-child : (s : State Text Own) (kd : Kind) (dir : Locator) (name : Text) (need : Need) → get_handle_ruling s kd dir name false ≡ Ok need → (is_some (row_at s (child (place_of dir) name)) ≡ true) × (need ≡ no_need)
unfolding get_handle_ruling
ruled-child s kd dir name need h = found-row kd dir name need (row_at s (child (place_of dir) name)) (then-gave _ _ need (then-gave _ _ need h).1).1

handle-child : (s : State Text Own) (gone : List Text) (k : ℕ) (kd : Kind) (dir : Locator) (name : Text) (create : Bool) (need : Need) → get_handle_ruling s kd dir name create ≡ Ok need
    → room_for in_bytes s (agent_of s k).key need ≡ Ok gone → create ≡ false → is_some (row_at (fold evicted s gone) (child (place_of dir) name)) ≡ true
handle-child s gone k kd dir name create need ruled room none =
    let both = ruled-child s kd dir name need (ap (λ (b : Bool). get_handle_ruling s kd dir name b) (sym none) ∙ ruled) in
    let clear : gone ≡ [] = one-list gone [] (sym room ∙ (ap (λ (x : Need). room_for in_bytes s (agent_of s k).key x) both.1 ∙ room_for_nothing s (agent_of s k).key)) in
    subst (λ (xs : List Text). is_some (row_at (fold evicted s xs) (child (place_of dir) name)) ≡ true) (sym clear) both.0

accepted-child : (s : State Text Own) (gone : List Text) (k : ℕ) (o : Op) → IsGiven s k o gone → HasChild (fold evicted s gone) o
unfolding ruling
accepted-child s gone k (op.GetDirectoryHandle dir name create) given = handle-child s gone k kind.Directory dir name create given.need given.ruled given.room
accepted-child s gone k (op.GetFileHandle dir name create) given = handle-child s gone k kind.File dir name create given.need given.ruled given.room
accepted-child s gone k o given = tt

pub child-there : (s : State Text Own) (gone : List Text) (e : Entry) → IsCall s gone e → is_refusal e.reply ≡ false → HasChild (fold evicted s gone) e.op
child-there s gone e call accepted = by-run (ran-by s gone e call)
  where
    by-run : Ran s gone e.agent e.op e.reply → HasChild (fold evicted s gone) e.op
    by-run (inl refused) = absurd (false≢true (sym accepted ∙ ap is_refusal refused.told))
    by-run (inr (inl done)) = accepted-child s gone e.agent e.op done.given
    by-run (inr (inr faulted)) = absurd (false≢true (sym accepted ∙ faulted.refused))
