-- An image that is made anew, told from above.
use Rattle.std.proofs.Common.{◌≡◌, inl, inr, refl, sym, subst}
use Rattle.std.specs.Prelude.{List, Result, Ok, Err}
use Rattle.std.specs.declared.alloc.AllocError.{AllocError}
use Rattle.opfs_base.specs.Texts.{Text}
use Rattle.opfs_commands.specs.Commands.{Command, on_image, loading, Asks, IsAsked}
use Rattle.opfs_commands.specs.Kinds.{IsMaking, LeavesMade, MadeKind}
use Rattle.opfs_commands.specs.Kinds.{IsUnmade as ToolUnmade}
use Rattle.opfs_commands.specs.Telling.{StandsForText}
use Rattle.opfs_commands.specs.declared.answers.ToolAnswer.{ToolAnswer}
use Rattle.opfs_commands.specs.declared.words.Action.{Action}
use Rattle.opfs_commands.proofs.Spelled.{named}
use Rattle.opfs_outside.specs.Turns.{HostTurn, of_host}
use Rattle.opfs_outside.specs.declared.host.Host.{Ghosts as HostWords}
use Rattle.opfs_top.specs.Answers.{IsUnmadeBy}
use Rattle.opfs_top.specs.Doing.{IsUnmade, LeavesNew, Makes}
use Rattle.opfs_top.specs.Statuses.{status_of}
use Rattle.opfs_top.specs.declared.answer.Answer.{Answer}

-- the same by other words
pub leaves_wider : (h : HostTurn) (path : Text) (New New' : Text → Type 0) (U U' : Type 0) → ((c : Text) → New c → New' c) → (U' → U) → LeavesMade h path New U → LeavesMade h path New' U'
leaves_wider h path New New' U U' new unmade is = record {
  whole = record {
    image = elim is.whole.image [ inl same ↦ inl same | inr made ↦ inr (made.0, made.1, new made.0 made.2) ];
    trail = λ c x. elim (is.whole.trail c x) [ inl was ↦ inl was | inr more ↦ inr (elim more [ inl stood ↦ inl stood | inr made ↦ inr (new c made) ]) ];
  };
  stays = λ u. is.stays (unmade u);
}

-- where the answer says that none was made, so did that from which it was made
pub unmade_run : (r : Result ToolAnswer AllocError) (a : ToolAnswer) (result : Result Answer AllocError) (b : Answer) → r ≡ Ok a → result ≡ Ok b → b.status ≡ status_of a.end → IsUnmadeBy result → ToolUnmade r
unmade_run r a result b is same told u =
    let by : IsUnmade b.status = subst (λ x. IsUnmadeBy x) same u in
    subst (λ x. ToolUnmade x) (sym is) (λ done. subst (λ e. IsUnmade (status_of e)) done (subst (λ s. IsUnmade s) told by))

pub unmade_error : (r : Result ToolAnswer AllocError) (e : AllocError) → r ≡ Err e → ToolUnmade r
unmade_error r e is = subst (λ x. ToolUnmade x) (sym is) tt

pub unmade_status : (r : Result Answer AllocError) (a : Answer) → r ≡ Ok a → IsUnmade a.status → IsUnmadeBy r
unmade_status r a is u = subst (λ x. IsUnmadeBy x) (sym is) u

pub unmade_none : (r : Result Answer AllocError) → ((a : Answer) → r ≡ Ok a → ⊥) → IsUnmadeBy r
unmade_none (Ok a) not = absurd (not a refl)
unmade_none (Err e) not = tt

-- a command on the image at a path, and an image made from a text
pub image_makes : (words : List Text) (h : HostTurn) (image : Text) (action : Action) → IsAsked words (on_image image action) → (path : Text) (U : Type 0) → Asks words (Makes path)
    → (IsMaking action → LeavesMade h image (MadeKind action) U) → LeavesNew words h path U
image_makes words h image action asked path U is left =
    let at = named words (on_image image action) (Makes path) asked is in
    subst (λ p. LeavesNew words h p U) (sym at.0)
    (leaves_wider h image (MadeKind action) _ U U (λ c made. record { command = on_image image action; asked = asked; holds = made }) (λ u. u) (left at.1))

pub load_makes : (words : List Text) (h : HostTurn) (image from : Text) → IsAsked words (loading image from) → (path : Text) (U : Type 0) → Asks words (Makes path)
    → LeavesMade h image (StandsForText (h.image from)) U → LeavesNew words h path U
load_makes words h image from asked path U is left =
    let at = named words (loading image from) (Makes path) asked is in
    subst (λ p. LeavesNew words h p U) (sym at)
    (leaves_wider h image (StandsForText (h.image from)) _ U U (λ c made. record { command = loading image from; asked = asked; holds = made }) (λ u. u) left)

-- a command that makes none
pub none_makes : (words : List Text) (c : Command) (path : Text) → IsAsked words c → (Makes path c → ⊥) → Asks words (Makes path) → ⊥
none_makes words c path asked none is = none (named words c (Makes path) asked is)

-- a host that was not asked
pub left_alone : {H D M : Type 0} (w : HostWords H D M) (host : H) (path : Text) (New : Text → Type 0) (U : Type 0) → LeavesMade (of_host w host host) path New U
left_alone w host path New U = record {
  whole = record { image = inl refl; trail = λ c x. inl x };
  stays = λ u quiet. record { image = refl; trail = λ c x. inl x };
}
