-- A call that gives a child.
use Rattle.std.proofs.Common.{◌≡◌, ℕ, ◌++◌, ◌||◌, Bool, true, false, not, cond, List, [], ◌∷◌, fold, Option, Some, refl, sym, ap, ◌∙◌, subst, inl, inr}
use Rattle.std.proofs.lemmas.Bool.{cases_Bool}
use Rattle.std.specs.List.{list_any}
use Rattle.opfs_store.specs.Acts.Acting.{IsActed, IsGift, gift_of, told_entry, unread_gift}
use Rattle.opfs_store.specs.Acts.Asking.{MayAct, given_by}
use Rattle.opfs_store.specs.declared.acts.acted.Gift.TheVariants as gift
use Rattle.opfs_base.specs.Places.{child_of, place_of}
use Rattle.opfs_base.specs.Texts.{Text, same_text}
use Rattle.opfs_base.specs.declared.locator.Kind.{Kind}
use Rattle.opfs_base.specs.declared.locator.Locator.{Locator}
use Rattle.opfs_hist.specs.declared.entry.Entry.{Entry}
use Rattle.opfs_hist.specs.declared.op.Op.{Op}
use Rattle.opfs_hist.specs.declared.op.Op.TheVariants as op
use Rattle.opfs_hist.specs.declared.reply.Reply.{Reply}
use Rattle.opfs_hist.specs.declared.reply.Reply.TheVariants as reply
use Rattle.opfs_laws.specs.Histories.Unread.{ArePendingFor, IsTold, unread}
use Rattle.opfs_laws.proofs.histories.Reading.{pending-told, told-more, unread-state}
use Rattle.opfs_laws.specs.GoingOn.{ArePending}
use Rattle.opfs_laws.specs.Whole.{IsInOrder, IsWholeOpening}
use Rattle.opfs_laws.proofs.Going.{go-on, not_evict}
use Rattle.opfs_laws.proofs.Local.{pending-legal}
use Rattle.opfs_laws.proofs.Reached.{whole as reached-whole}
use Rattle.opfs_machine.specs.declared.own.Own.{Own}
use Rattle.opfs_machine.specs.declared.state.State.{State}
use Rattle.opfs_machine.specs.Agents.{agent_of, own_of}
use Rattle.opfs_machine.specs.Contents.{next_of}
use Rattle.opfs_machine.specs.Histories.{Agrees, may_enter, state_after}
use Rattle.opfs_machine.specs.Openings.{Opening}
use Rattle.opfs_machine.specs.Replies.{given_in}
use Rattle.opfs_machine.specs.Rows.{children_of}
use Rattle.opfs_machine.specs.Runs.{Call}
use Rattle.opfs_machine.specs.Steps.{after_reply, evicted, step}
use Rattle.opfs_state_rows.proofs.standing.Units.{unit_itself}
use Rattle.opfs_work.specs.Works.{WorkingCopy}
use Rattle.opfs_desk_steps.specs.Iterating.GoingOn.{MayReach}
use Rattle.opfs_desk_steps.specs.Iterating.Reached.{AreGivenUpTo, AreNotGivenAbove, HasReached, IsUpTo, asked_row}
use Rattle.opfs_desk_steps.proofs.iterating.Asking.{reached-found}
use Rattle.opfs_desk_steps.proofs.iterating.Names.{below-above, known-above}
use Rattle.opfs_desk_steps.proofs.iterating.Nexts.{agreed, reached-next}
use Rattle.opfs_desk_steps.proofs.iterating.Pending.{acted-state, pending-known}

-- ---- a gift of a child is that of a next

record IsChild (o : Op) (r : Reply) (name : Text) : Type 0 where
  row : ℕ
  dir : Locator
  kd : Kind
  asked : o ≡ op.Next row dir
  told : r ≡ reply.Child kd name

no-child : (at : Locator) (name : Text) → gift.Child at name ≡ gift.Nothing → ⊥
no-child at name h = cc

no-bytes : (at : Locator) (name bytes : Text) → gift.Child at name ≡ gift.Bytes bytes → ⊥
no-bytes at name bytes h = cc

one-child : (at to : Locator) (name other : Text) → gift.Child at name ≡ gift.Child to other → other ≡ name
one-child at to name other h = cc

file-gift : (s : State Text Own) (file : Locator) (r : Reply) (at : Locator) (name : Text) → gift.Child at name ≡ unread_gift (gift_of s (op.GetFile file) r) → ⊥
unfolding gift_of
file-gift s file (reply.FileInfo size stamp) at name is = no-bytes at name _ is
file-gift s file r at name is = no-child at name is

next-gift : (s : State Text Own) (n : ℕ) (dir : Locator) (r : Reply) (at : Locator) (name : Text) → gift.Child at name ≡ unread_gift (gift_of s (op.Next n dir) r) → IsChild (op.Next n dir) r name
unfolding gift_of
next-gift s n dir (reply.Child kd other) at name is = record { row = n; dir = dir; kd = kd; asked = refl; told = ap (λ (x : Text). reply.Child kd x) (one-child at (child_of dir other kd) name other is) }
next-gift s n dir r at name is = absurd (no-child at name is)

child-gift : (s : State Text Own) (o : Op) (r : Reply) (at : Locator) (name : Text) → gift.Child at name ≡ unread_gift (gift_of s o r) → IsChild o r name
unfolding gift_of
child-gift s (op.GetFile file) r at name is = absurd (file-gift s file r at name is)
child-gift s (op.Next n dir) r at name is = next-gift s n dir r at name is
child-gift s o r at name is = absurd (no-child at name is)

-- ---- what it gives is there, and new

next-new : (past names : List Text) (name : Text) → next_of past names ≡ Some name → list_any (same_text name) past ≡ false
next-new past [] name is = absurd cc
next-new past (x ∷ names) name is = elim (cases_Bool (list_any (same_text x) past)) [
  | inl given ↦ next-new past names name (sym (ap (λ b. cond (not b) (Some x) (next_of past names)) given) ∙ is)
  | inr new ↦ let same : x ≡ name = some-text (sym (ap (λ b. cond (not b) (Some x) (next_of past names)) new) ∙ is) in subst (λ (y : Text). list_any (same_text y) past ≡ false) same new
]
  where
    some-text : ◌≡◌ {A = Option Text} (Some x) (Some name) → x ≡ name
    some-text e = cc

next-there : (past names : List Text) (name : Text) → next_of past names ≡ Some name → list_any (same_text name) names ≡ true
next-there past [] name is = absurd cc
next-there past (x ∷ names) name is = elim (cases_Bool (list_any (same_text x) past)) [
  | inl given ↦
      ap (λ b. same_text name x || b) (next-there past names name (sym (ap (λ b. cond (not b) (Some x) (next_of past names)) given) ∙ is)) ∙ or-true (same_text name x)
  | inr new ↦
      let same : x ≡ name = some-text (sym (ap (λ b. cond (not b) (Some x) (next_of past names)) new) ∙ is) in
      ap (λ b. b || list_any (same_text name) names) (unit_itself name x (sym same))
]
  where
    some-text : ◌≡◌ {A = Option Text} (Some x) (Some name) → x ≡ name
    some-text e = cc

    or-true : (b : Bool) → (b || true) ≡ true
    or-true true = refl
    or-true false = refl

-- ---- a told history's rows stand in order

in-order : (tells : Type 0) (o : Opening) (h calls : List Entry) (k : ℕ) → IsWholeOpening o → IsTold tells o h → ArePendingFor tells (state_after o h) k calls → IsInOrder (state_after o (h ++ calls)).rows
in-order tells o h calls k whole told pending =
    let p = pending-told tells (state_after o h) k calls pending in
    let waits = subst (λ (s : State Text Own). ArePending s k p.real) (unread-state o h told.real told.alike) p.pending in
    let legal = (go-on o told.real p.real told.legal (pending-legal (state_after o told.real) k p.real waits)).0 in
    let more = told-more tells o h calls p.real told legal p.alike p.told in
    subst (λ (s : State Text Own). IsInOrder s.rows) (sym (unread-state o (h ++ calls) more.real more.alike)) (reached-whole o more.real whole more.legal).order

unread-child : (r : Reply) (kd : Kind) (name : Text) → unread r ≡ reply.Child kd name → r ≡ reply.Child kd name
unread-child (reply.Read bytes) kd name h = absurd cc
unread-child r kd name h = h

-- ---- all up to it was given

module _ (tells : Type 0) (o : Opening) (h calls new : List Entry) (c : Call) (work : WorkingCopy) (past : List Text) (answered : Reply) (at : Locator) (name : Text) (whole : IsWholeOpening o) (told : IsTold tells o h)
    (may : MayAct tells o h calls c work past) (acted : IsActed tells o h calls c answered new) where
  abbrev s : State Text Own
  s = state_after o (h ++ calls)

  module _ (child : IsChild c.op answered name) (reach : MayReach o h calls c past name) where
    abbrev n : ℕ
    n = child.row

    abbrev names : List Text
    names = children_of s (place_of child.dir)

    fitting : may_enter s c.agent (op.Next n child.dir) ≡ true
    fitting = subst (λ (x : Op). may_enter s c.agent x ≡ true) child.asked may.fitting

    past-is : past ≡ given_in (own_of (agent_of s c.agent) n)
    past-is = subst (λ (x : Op). past ≡ given_by s c.agent x) child.asked may.given

    real-agent : acted.call.real.agent ≡ c.agent
    real-agent = ap (λ (e : Entry). e.agent) (sym acted.call.alike)

    real-op : acted.call.real.op ≡ op.Next n child.dir
    real-op = ap (λ (e : Entry). e.op) (sym acted.call.alike) ∙ child.asked

    real-reply : acted.call.real.reply ≡ reply.Child child.kd name
    real-reply = unread-child acted.call.real.reply child.kd name (ap (λ (e : Entry). e.reply) (sym acted.call.alike) ∙ ap unread child.told)

    agrees : Agrees s acted.gone c.agent (op.Next n child.dir) acted.call.real.reply (step s c.agent (op.Next n child.dir))
    agrees =
        subst (λ (x : Op). Agrees s acted.gone c.agent x acted.call.real.reply (step s c.agent x)) real-op
        (subst (λ (k : ℕ). Agrees s acted.gone k acted.call.real.op acted.call.real.reply (step s k acted.call.real.op)) real-agent acted.call.call.agrees)

    both : (next_of (given_in (own_of (agent_of s c.agent) n)) names ≡ Some name) × (acted.gone ≡ [])
    both = agreed s acted.gone c.agent n child.dir child.kd name acted.call.real.reply real-reply agrees

    found : next_of past names ≡ Some name
    found = ap (λ (xs : List Text). next_of xs names) past-is ∙ both.0

    up-to : (last : Text) → IsUpTo (children_of s) c.op past (Some last) → AreGivenUpTo past last names
    up-to last up = subst (λ (x : Op). IsUpTo (children_of s) x past (Some last)) child.asked up

    above-by : MayReach o h calls c past name → AreNotGivenAbove past name names
    above-by (inl up) = known-above past up.0 name names (up-to up.0 up.1) (next-new past names name found) (next-there past names name found)
    above-by (inr below) = below-above past name names below

    above : AreNotGivenAbove (given_in (own_of (agent_of s c.agent) n)) name names
    above = subst (λ (xs : List Text). AreNotGivenAbove xs name names) past-is (above-by reach)

    here : HasReached (after_reply (fold evicted s []) c.agent (op.Next n child.dir) (reply.Child child.kd name)) c.agent n name
    here = reached-next s acted.gone c.agent n child.dir child.kd name may.live fitting both.0 (in-order tells o h calls c.agent whole told may.pending) above

    there : HasReached (after_reply (fold evicted s acted.gone) c.agent c.op answered) c.agent n name
    there =
        subst (λ (xs : List Text). HasReached (after_reply (fold evicted s xs) c.agent c.op answered) c.agent n name) (sym both.1)
        (subst (λ (x : Op). HasReached (after_reply (fold evicted s []) c.agent x answered) c.agent n name) (sym child.asked)
        (subst (λ (r : Reply). HasReached (after_reply (fold evicted s []) c.agent (op.Next n child.dir) r) c.agent n name) (sym child.told) here))

    given-child : HasReached (state_after o new) c.agent (asked_row c.op) name
    given-child =
        subst (λ (xs : List Entry). HasReached (state_after o xs) c.agent (asked_row c.op) name) (sym acted.grown)
        (subst (λ (t : State Text Own). HasReached t c.agent (asked_row c.op) name) (sym (acted-state o h calls acted.gone (told_entry c answered) (not_evict s c.agent c.op may.fitting)))
        (subst (λ (m : ℕ). HasReached (after_reply (fold evicted s acted.gone) c.agent c.op answered) c.agent m name) (sym (ap asked_row child.asked)) there))

  pub acted-given : IsGift tells s c.op answered (gift.Child at name) → MayReach o h calls c past name → HasReached (state_after o new) c.agent (asked_row c.op) name
  acted-given given reach = given-child (child-gift s c.op answered at name given.alike) reach

pub acted-found : (tells : Type 0) (o : Opening) (h calls : List Entry) (c : Call) (work : WorkingCopy) (past : List Text) (last : Text) → MayAct tells o h calls c work past
    → HasReached (state_after o h) c.agent (asked_row c.op) last → IsUpTo (children_of (state_after o (h ++ calls))) c.op past (Some last)
acted-found tells o h calls c work past last may has =
    let s = state_after o (h ++ calls) in
    up-by c.op may.given (reached-found s c.agent c.op last may.fitting (pending-known tells o h calls c.agent c.agent (asked_row c.op) last may.pending has))
  where
    up-by : (x : Op) → past ≡ given_by (state_after o (h ++ calls)) c.agent x → IsUpTo (children_of (state_after o (h ++ calls))) x (given_in (own_of (agent_of (state_after o (h ++ calls)) c.agent) (asked_row x))) (Some last)
        → IsUpTo (children_of (state_after o (h ++ calls))) x past (Some last)
    up-by (op.Next n dir) is up = subst (λ (xs : List Text). AreGivenUpTo xs last (children_of (state_after o (h ++ calls)) (place_of dir))) (sym is) up
    up-by x is up = tt
