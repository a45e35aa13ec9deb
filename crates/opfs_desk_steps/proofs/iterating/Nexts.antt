-- A next that gives a child, or finds no further one: its iterator has given all up to a name.
use Rattle.std.proofs.Common.{◌≡◌, ℕ, true, List, [], fold, Option, Some, None, Ok, Err, refl, sym, ap, ◌∙◌, subst, inl, inr, IsTrue}
use Rattle.opfs_base.specs.Places.{Place, child, place_of}
use Rattle.opfs_base.specs.Texts.{Text}
use Rattle.opfs_base.specs.declared.locator.Kind.{Kind}
use Rattle.opfs_base.specs.declared.locator.Kind.TheVariants as kind
use Rattle.opfs_base.specs.declared.locator.Locator.{Locator}
use Rattle.opfs_hist.specs.declared.op.Op.TheVariants as op
use Rattle.opfs_hist.specs.declared.reply.Refusal.{Refusal}
use Rattle.opfs_hist.specs.declared.reply.Reply.{Reply}
use Rattle.opfs_hist.specs.declared.reply.Reply.TheVariants as reply
use Rattle.opfs_machine.specs.declared.own.Own.{Own}
use Rattle.opfs_machine.specs.declared.own.Own.TheVariants as own
use Rattle.opfs_machine.specs.declared.own.IteratorRow.{IteratorRow}
use Rattle.opfs_machine.specs.declared.state.Need.{Need}
use Rattle.opfs_machine.specs.declared.state.State.{State}
use Rattle.opfs_machine.specs.Agents.{agent_of, counted, own_of, with_own}
use Rattle.opfs_machine.specs.Contents.{advanced_row, and_given, in_bytes, next_of}
use Rattle.opfs_machine.specs.Effects.{effect, with_changed}
use Rattle.opfs_machine.specs.Histories.{Agrees, may_enter}
use Rattle.opfs_machine.specs.Replies.{answer, child_reply, given_in, kind_in, sizes_of}
use Rattle.opfs_machine.specs.Rows.{children_of, row_at}
use Rattle.opfs_machine.specs.Ruled.{Ruled}
use Rattle.opfs_machine.specs.Rulings.{located_ruling, ruling}
use Rattle.opfs_machine.specs.Steps.{after_reply, evicted, judged, outcome_of, room_for, step}
use Rattle.opfs_machine.specs.Sums.{no_need}
use Rattle.opfs_laws.specs.Whole.{IsInOrder}
use Rattle.opfs_laws.proofs.Gone.{given-by, then-gave}
use Rattle.opfs_laws.proofs.Local.{room_for_nothing}
use Rattle.opfs_laws.proofs.Numbers.{number-of}
use Rattle.opfs_pages.proofs.history_laws.Own.{own-changed}
use Rattle.opfs_desk_steps.specs.Iterating.Reached.{AreGivenUpTo, AreNotGivenAbove, HasReached}
use Rattle.opfs_desk_steps.proofs.iterating.Asking.{iterator-of, may-ask}
use Rattle.opfs_desk_steps.proofs.iterating.Names.{advanced, names-rise}

child-name : (s : State Text Own) (dir : Place) (o : Option Text) (k : Kind) (name : Text) → child_reply s dir o ≡ reply.Child k name → o ≡ Some name
child-name s dir None k name is = absurd cc
child-name s dir (Some x) k name is = ap Some (its (kind_in (row_at s (child dir x))) is)
  where
    its : (j : Kind) → reply.Child j x ≡ reply.Child k name → x ≡ name
    its j h = cc

no-name : (s : State Text Own) (dir : Place) (o : Option Text) → child_reply s dir o ≡ reply.Last → o ≡ None
no-name s dir None is = refl
no-name s dir (Some x) is = absurd (no-end (kind_in (row_at s (child dir x))) is)
  where
    no-end : (j : Kind) → reply.Child j x ≡ reply.Last → ⊥
    no-end j h = cc

no-last : (r : Refusal) → reply.No r ≡ reply.Last → ⊥
no-last r h = cc

no-refusal : (r : Refusal) (k : Kind) (name : Text) → reply.No r ≡ reply.Child k name → ⊥
no-refusal r k name h = cc

located-nothing : (s : State Text Own) (kd : Kind) (at : Locator) (need : Need) → located_ruling s kd at ≡ Ok need → located_ruling s kd at ≡ Ok no_need
unfolding located_ruling
located-nothing s kd at need h = let both = then-gave _ _ need h in h ∙ sym both.1

-- A next clears no unit.
next-nothing : (s : State Text Own) (k n : ℕ) (dir : Locator) (units : List Text) → judged s k (op.Next n dir) ≡ Ok units → units ≡ []
unfolding ruling
next-nothing s k n dir units h =
    let given = given-by s k (op.Next n dir) units h in
    let need : given.need ≡ no_need = one-need given.need no_need (sym given.ruled ∙ located-nothing s kind.Directory dir given.need given.ruled) in
    one-list units [] (sym given.room ∙ (ap (λ (x : Need). room_for in_bytes s (agent_of s k).key x) need ∙ room_for_nothing s (agent_of s k).key))
  where
    one-need : (a b : Need) → ◌≡◌ {A = Ruled Need} (Ok a) (Ok b) → a ≡ b
    one-need a b e = cc

    one-list : (a b : List Text) → ◌≡◌ {A = Ruled (List Text)} (Ok a) (Ok b) → a ≡ b
    one-list a b e = cc

abbrev pub names_in : State Text Own → Locator → List Text
names_in s dir = children_of s (place_of dir)

abbrev pub past_of : State Text Own → ℕ → ℕ → List Text
past_of s k n = given_in (own_of (agent_of s k) n)

-- ---- what its iterator has given then

module _ (s : State Text Own) (k n : ℕ) (dir : Locator) (live : IsTrue (agent_of s k).live) (may : may_enter s k (op.Next n dir) ≡ true) (next : Option Text) (name : Text)
    (found : next_of (past_of s k n) (names_in s dir) ≡ next) (up : AreGivenUpTo (and_given (past_of s k n) next) name (names_in s dir)) where
  its : (i : IteratorRow) × (own_of (agent_of s k) n ≡ Some (own.Iterator i)) × (place_of i.dir ≡ place_of dir)
  its = iterator-of dir (own_of (agent_of s k) n) (may-ask s k n dir may)

  abbrev asked : State Text Own
  asked = with_changed s k n (λ r. advanced_row r (names_in s dir))

  given-is : past_of s k n ≡ its.0.given
  given-is = ap given_in its.1

  new-row : own_of (agent_of asked k) n ≡ Some (own.Iterator (record { dir = its.0.dir; given = and_given (past_of s k n) next }))
  new-row =
      own-changed s k n (own.Iterator its.0) (λ r. advanced_row r (names_in s dir)) (number-of s k live) its.1
      ∙ ap (λ (xs : List Text). Some (own.Iterator (record { dir = its.0.dir; given = xs })))
      (ap (λ (xs : List Text). and_given xs (next_of xs (names_in s dir))) (sym given-is) ∙ ap (and_given (past_of s k n)) found)

  same-names : (p : Place) → children_of asked p ≡ children_of s p
  unfolding with_changed
  same-names p =
      elim (own_of (agent_of s k) n) as (λ o. children_of (elim o as (λ x. State Text Own) [ Some r ↦ with_own s k n (advanced_row r (names_in s dir)) | None ↦ s ]) p ≡ children_of s p) [
        | Some r ↦ refl
        | None ↦ refl
      ]

  reached-asked : HasReached asked k n name
  reached-asked = record {
    dir = its.0.dir;
    given = and_given (past_of s k n) next;
    there = new-row;
    up_to = subst (λ (xs : List Text). AreGivenUpTo (and_given (past_of s k n) next) name xs) (sym (same-names (place_of its.0.dir) ∙ ap (children_of s) its.2)) up;
  }

  counted-too : HasReached asked k n name → HasReached (counted asked k) k n name
  counted-too has = record { dir = has.dir; given = has.given; there = has.there; up_to = has.up_to }

  reached-counted : HasReached (counted (with_changed s k n (λ r. advanced_row r (children_of s (place_of dir)))) k) k n name
  reached-counted = counted-too reached-asked

-- ---- a child

module _ (s : State Text Own) (gone : List Text) (k n : ℕ) (dir : Locator) (kd : Kind) (name : Text) where
  answered-by : answer s (sizes_of s k (op.Next n dir)) k (op.Next n dir) ≡ reply.Child kd name → next_of (past_of s k n) (names_in s dir) ≡ Some name
  unfolding answer
  answered-by is = child-name s (place_of dir) (next_of (past_of s k n) (names_in s dir)) kd name is

  outcome-by : (m : Ruled (List Text)) → judged s k (op.Next n dir) ≡ m → reply.Child kd name ≡ (outcome_of s k (op.Next n dir) m).answered → gone ≡ (outcome_of s k (op.Next n dir) m).victims
      → (next_of (past_of s k n) (names_in s dir) ≡ Some name) × (gone ≡ [])
  unfolding outcome_of
  outcome-by (Ok units) is told cleared = (answered-by (sym told), cleared ∙ next-nothing s k n dir units is)
  outcome-by (Err r) is told cleared = absurd (no-refusal r kd name (sym told))

  pub agreed : (told : Reply) → told ≡ reply.Child kd name → Agrees s gone k (op.Next n dir) told (step s k (op.Next n dir)) → (next_of (past_of s k n) (names_in s dir) ≡ Some name) × (gone ≡ [])
  unfolding step
  agreed told is (inl same) = outcome-by (judged s k (op.Next n dir)) refl (sym is ∙ same.same_reply) same.victims
  agreed told is (inr fault) = absurd (no-refusal _ kd name (sym fault.told ∙ is))

  pub reached-next : IsTrue (agent_of s k).live → may_enter s k (op.Next n dir) ≡ true → next_of (past_of s k n) (names_in s dir) ≡ Some name → IsInOrder s.rows → AreNotGivenAbove (past_of s k n) name (names_in s dir)
      → HasReached (after_reply (fold evicted s []) k (op.Next n dir) (reply.Child kd name)) k n name
  unfolding effect
  reached-next live may found order above = reached-counted s k n dir live may (Some name) name found (advanced (past_of s k n) name (names_in s dir) (names-rise (place_of dir) s.rows order) found above)

-- ---- no further child

module _ (s : State Text Own) (gone : List Text) (k n : ℕ) (dir : Locator) where
  answered-last : answer s (sizes_of s k (op.Next n dir)) k (op.Next n dir) ≡ reply.Last → next_of (past_of s k n) (names_in s dir) ≡ None
  unfolding answer
  answered-last is = no-name s (place_of dir) (next_of (past_of s k n) (names_in s dir)) is

  outcome-last : (m : Ruled (List Text)) → judged s k (op.Next n dir) ≡ m → reply.Last ≡ (outcome_of s k (op.Next n dir) m).answered → gone ≡ (outcome_of s k (op.Next n dir) m).victims
      → (next_of (past_of s k n) (names_in s dir) ≡ None) × (gone ≡ [])
  unfolding outcome_of
  outcome-last (Ok units) is told cleared = (answered-last (sym told), cleared ∙ next-nothing s k n dir units is)
  outcome-last (Err r) is told cleared = absurd (no-last r (sym told))

  pub agreed-last : (told : Reply) → told ≡ reply.Last → Agrees s gone k (op.Next n dir) told (step s k (op.Next n dir)) → (next_of (past_of s k n) (names_in s dir) ≡ None) × (gone ≡ [])
  unfolding step
  agreed-last told is (inl same) = outcome-last (judged s k (op.Next n dir)) refl (sym is ∙ same.same_reply) same.victims
  agreed-last told is (inr fault) = absurd (no-last _ (sym fault.told ∙ is))

  pub reached-end : (name : Text) → IsTrue (agent_of s k).live → may_enter s k (op.Next n dir) ≡ true → next_of (past_of s k n) (names_in s dir) ≡ None → AreGivenUpTo (past_of s k n) name (names_in s dir)
      → HasReached (after_reply (fold evicted s []) k (op.Next n dir) reply.Last) k n name
  unfolding effect
  reached-end name live may found up = reached-counted s k n dir live may None name found up
