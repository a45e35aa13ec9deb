-- What an iterator that is asked has given.
use Rattle.std.proofs.Common.{◌≡◌, ◌&&◌, ℕ, true, List, [], ◌∷◌, Option, Some, None, refl, sym, ap, ◌∙◌, subst}
use Rattle.std.proofs.lemmas.Bool.{and_parts, false≢true}
use Rattle.opfs_base.specs.Places.{Place, place_of, same_kind, same_locator}
use Rattle.opfs_base.specs.Texts.{Text, same_text, same_texts}
use Rattle.opfs_base.specs.declared.locator.Locator.{Locator}
use Rattle.opfs_hist.specs.declared.op.Op.{Op}
use Rattle.opfs_hist.specs.declared.op.Op.TheVariants as op
use Rattle.opfs_machine.specs.declared.own.Own.{Own}
use Rattle.opfs_machine.specs.declared.own.Own.TheVariants as own
use Rattle.opfs_machine.specs.declared.own.IteratorRow.{IteratorRow}
use Rattle.opfs_machine.specs.declared.state.State.{State}
use Rattle.opfs_machine.specs.Agents.{agent_of, own_of}
use Rattle.opfs_machine.specs.Histories.{is_iterator_of, is_own, may_enter}
use Rattle.opfs_machine.specs.Replies.{given_in}
use Rattle.opfs_machine.specs.Rows.{children_of}
use Rattle.opfs_state_rows.proofs.standing.Units.{same_unit}
use Rattle.opfs_desk_steps.specs.Iterating.Reached.{AreGivenUpTo, HasReached, IsUpTo, asked_row}

same-path : (a b : List Text) → same_texts a b ≡ true → a ≡ b
same-path [] [] h = refl
same-path [] (y ∷ b) h = cc
same-path (x ∷ a) [] h = cc
same-path (x ∷ a) (y ∷ b) h =
    let both = and_parts (same_text x y) (same_texts a b) h in
    ap (λ (z : Text). z ∷ a) (same_unit x y both.0) ∙ ap (λ (zs : List Text). y ∷ zs) (same-path a b both.1)

-- The same locator stands at the same place.
pub same-place : (a b : Locator) → same_locator a b ≡ true → place_of a ≡ place_of b
same-place a b h =
    let kinds = and_parts (same_text a.key b.key && same_texts a.path b.path) (same_kind a.kind b.kind) h in
    let both = and_parts (same_text a.key b.key) (same_texts a.path b.path) kinds.0 in
    ap (λ (key : Text). (key, a.path)) (same_unit a.key b.key both.0) ∙ ap (λ (path : List Text). (b.key, path)) (same-path a.path b.path both.1)

-- The iterator that a next may ask.
pub iterator-of : (dir : Locator) (o : Option Own) → is_iterator_of dir o ≡ true → (i : IteratorRow) × (o ≡ Some (own.Iterator i)) × (place_of i.dir ≡ place_of dir)
iterator-of dir None h = absurd (false≢true h)
iterator-of dir (Some (own.Iterator i)) h = (i, refl, same-place i.dir dir h)
iterator-of dir (Some (own.Stream w)) h = absurd (false≢true h)
iterator-of dir (Some own.ClosedStream) h = absurd (false≢true h)
iterator-of dir (Some (own.Handle x)) h = absurd (false≢true h)
iterator-of dir (Some own.ClosedHandle) h = absurd (false≢true h)
iterator-of dir (Some (own.Snapshot bytes)) h = absurd (false≢true h)

pub may-ask : (s : State Text Own) (k n : ℕ) (dir : Locator) → may_enter s k (op.Next n dir) ≡ true → is_iterator_of dir (own_of (agent_of s k) n) ≡ true
unfolding may_enter
may-ask s k n dir h = (and_parts (is_own s k dir) (is_iterator_of dir (own_of (agent_of s k) n)) h).1

one-row : (a b : IteratorRow) → ◌≡◌ {A = Option Own} (Some (own.Iterator a)) (Some (own.Iterator b)) → a ≡ b
one-row a b h = cc

pub reached-found : (s : State Text Own) (k : ℕ) (o : Op) (last : Text) → may_enter s k o ≡ true → HasReached s k (asked_row o) last
    → IsUpTo (children_of s) o (given_in (own_of (agent_of s k) (asked_row o))) (Some last)
reached-found s k (op.Next n dir) last may has =
    let its = iterator-of dir (own_of (agent_of s k) n) (may-ask s k n dir may) in
    let same : its.0 ≡ record { dir = has.dir; given = has.given } = one-row its.0 (record { dir = has.dir; given = has.given }) (sym its.1 ∙ has.there) in
    let at : place_of has.dir ≡ place_of dir = ap (λ (i : IteratorRow). place_of i.dir) (sym same) ∙ its.2 in
    subst (λ (past : List Text). AreGivenUpTo past last (children_of s (place_of dir))) (sym (ap given_in has.there))
    (subst (λ (p : Place). AreGivenUpTo has.given last (children_of s p)) at has.up_to)
reached-found s k o last may has = tt
