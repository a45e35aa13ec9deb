-- An iterator, and the row that it has.
use Rattle.std.proofs.Common.{◌≡◌, ℕ, ◌&&◌, Bool, true, false, List, [], ◌∷◌, length, fold, Option, Some, None, Err, refl, sym, ap, ◌∙◌, subst}
use Rattle.opfs_base.specs.Places.{Place, place_of, child_of, child, same_locator, same_kind}
use Rattle.opfs_base.specs.Texts.{Text, same_text}
use Rattle.opfs_base.specs.declared.locator.Kind.TheVariants as kind
use Rattle.std.specs.Prelude.{nat_eq}
use Rattle.std.specs.Cmp.Lexicographic.{pointwise}
use Rattle.std.proofs.lemmas.Bool.{eq-eqb}
use Rattle.opfs_store.specs.Acts.Asking.{HasSmallNumbers}
use Rattle.opfs_base.specs.declared.locator.Kind.{Kind}
use Rattle.opfs_base.specs.declared.locator.Locator.{Locator}
use Rattle.opfs_hist.specs.declared.op.Op.TheVariants as op
use Rattle.opfs_hist.specs.declared.reply.Reply.{Reply}
use Rattle.opfs_hist.specs.declared.reply.Reply.TheVariants as reply
use Rattle.opfs_machine.specs.declared.own.Own.{Own}
use Rattle.opfs_machine.specs.declared.own.Own.TheVariants as own
use Rattle.opfs_machine.specs.declared.state.Agent.{Agent}
use Rattle.opfs_machine.specs.declared.state.State.{State}
use Rattle.opfs_machine.specs.Agents.{agent_of, own_of}
use Rattle.opfs_machine.specs.Contents.{next_of, and_given, advanced_row}
use Rattle.opfs_machine.specs.Effects.{effect}
use Rattle.opfs_machine.specs.Histories.{is_of_origin, is_own, is_iterator_of, may_enter}
use Rattle.opfs_machine.specs.Replies.{answer, child_reply, given_in, kind_in}
use Rattle.opfs_machine.specs.Rows.{children_of, row_at}
use Rattle.opfs_machine.specs.Steps.{evicted}
use Rattle.opfs_store.specs.declared.acts.acted.Acted.{Acted}
use Rattle.opfs_store.specs.declared.acts.acted.Gift.{Gift}
use Rattle.opfs_store.specs.declared.acts.acted.Gift.TheVariants as gift
use Rattle.opfs_store.specs.Acts.Acting.{gift_of, unread_gift}
use Rattle.opfs_turns.specs.Agents.{AgentSeen, IsAgent, state_of, own_row}
use Rattle.opfs_turns.specs.Calls.{IsKept, IsLocal}
use Rattle.opfs_turns.specs.Asking.Answers.{HasAnswer, MayAskPast, Shared}
use Rattle.opfs_turns.specs.Asking.Locals.{HasLocalAnswer, IsMade}
use Rattle.opfs_turns.specs.Asking.Rows.{HasIterator, IteratorSeen}
use Rattle.opfs_turns.specs.declared.asking.stop.Stop.{Stop}
use Rattle.opfs_turns.proofs.asking.Answered.{is_read, plain-answered, judged-there}
use Rattle.opfs_turns.proofs.asking.Entered.{s, t, row-there, number}
use Rattle.opfs_turns.proofs.asking.Plains.{values-own}
use Rattle.opfs_turns.proofs.asking.Rowed.{own_agent, accepted-own, granted-none, stopped-own, entered-moved, kept-own, kept-moved}
use Rattle.opfs_turns.proofs.asking.RowsAfter.{own-changed, last-own}
use Rattle.opfs_agent.specs.Entries.{IsNextOf, IsNoted}
use Rattle.opfs_agent.proofs.Located.{next-ruled}

-- The agent is as it was.
pub iterator-same : {O : Type 0} (before after : AgentSeen O) (i : IteratorSeen) → own_agent after ≡ own_agent before → HasIterator before i → HasIterator after i
iterator-same before after i same has = record {
  there = ap (λ (a : Agent Own). own_of a i.row) same ∙ has.there;
  mine = ap (λ (a : Agent Own). is_of_origin a.key i.dir) same ∙ has.mine;
}

pub iterator-stopped : {O : Type 0} (tells : Type 0) (before after : AgentSeen O) (n : ℕ) (dir : Locator) (why : Stop) (i : IteratorSeen) → IsAgent tells before
    → Shared tells before after (op.Next n dir) (λ (acted : Acted) answered given. (acted.reply ≡ answered) × (acted.gift ≡ given)) (Err why) → HasIterator before i → HasIterator after i
iterator-stopped tells before after n dir why i kept h has =
    iterator-same before after i (stopped-own tells before after (op.Next n dir) (λ (acted : Acted) answered given. (acted.reply ≡ answered) × (acted.gift ≡ given)) why kept refl h) has

-- ---- what next gives

plain-child : (st : State Text Own) (dir : Locator) (o : Option Text) → is_read (child_reply st (place_of dir) o) ≡ false
plain-child st dir None = refl
plain-child st dir (Some name) = refl

-- What is given beside the reply, and what is made of it.
abbrev pub ToldBy : State Text Own → Locator → List Text → List Text → Option Locator → Reply → Gift → Option Text → Type 0
ToldBy st dir before after found answered given o = answered ≡ child_reply st (place_of dir) o → unread_gift given ≡ unread_gift (gift_of st (op.Next 0 dir) answered)
    → IsNoted given before after found → IsNextOf dir found answered × (after ≡ and_given before o)

no-bytes : (given : Gift) (at : Locator) (name : Text) → unread_gift given ≡ gift.Child at name → given ≡ gift.Child at name
no-bytes (gift.Child a n) at name h = h
no-bytes (gift.Bytes b) at name h = absurd cc
no-bytes gift.Nothing at name h = absurd cc

no-gift : (given : Gift) → unread_gift given ≡ gift.Nothing → given ≡ gift.Nothing
no-gift (gift.Child a n) h = absurd cc
no-gift (gift.Bytes b) h = absurd cc
no-gift gift.Nothing h = refl

told-by : (st : State Text Own) (dir : Locator) (before after : List Text) (found : Option Locator) (answered : Reply) (given : Gift) (o : Option Text) → ToldBy st dir before after found answered given o
unfolding gift_of
told-by st dir before after found answered given None is alike noted =
    let none : given ≡ gift.Nothing = no-gift given (alike ∙ ap (λ r. unread_gift (gift_of st (op.Next 0 dir) r)) is) in
    let n : IsNoted gift.Nothing before after found = subst (λ g. IsNoted g before after found) none noted in
    (subst (λ c. IsNextOf dir c answered) (sym n.0) is, n.1)
told-by st dir before after found answered given (Some name) is alike noted =
    let kd : Kind = kind_in (row_at st (child_place name)) in
    let at : Locator = child_of dir name kd in
    let some : given ≡ gift.Child at name = no-bytes given at name (alike ∙ ap (λ r. unread_gift (gift_of st (op.Next 0 dir) r)) is) in
    let n : IsNoted (gift.Child at name) before after found = subst (λ g. IsNoted g before after found) some noted in
    (subst (λ c. IsNextOf dir c answered) (sym n.0) (name, refl, is), n.1)
  where
    child_place : Text → Place
    child_place name = child (place_of dir) name

module _ {O : Type 0} (tells : Type 0) (before after : AgentSeen O) (kept : IsAgent tells before) (i : IteratorSeen) (has : HasIterator before i) (acted : Acted) (given : List Text) (found : Option Locator)
    (h : HasAnswer tells before after (op.Next i.row i.dir) (λ acted answered given. (acted.reply ≡ answered) × (acted.gift ≡ given)) acted) (noted : IsNoted acted.gift i.given given found) where
  abbrev st : State Text Own
  st = s tells before after kept (op.Next i.row i.dir) h.answered h.given h.entered

  abbrev cleared : State Text Own
  cleared = t tells before after kept (op.Next i.row i.dir) h.answered h.given h.entered

  row-in-turn : own_of (agent_of cleared before.pass.agent) i.row ≡ Some (own.Iterator (record { dir = i.dir; given = i.given }))
  row-in-turn = row-there tells before after kept (op.Next i.row i.dir) h.answered h.given h.entered i.row ∙ has.there

  given-in-turn : given_in (own_of (agent_of st before.pass.agent) i.row) ≡ i.given
  given-in-turn = ap given_in (ap (λ x. own_of x.0 i.row) h.entered.own ∙ has.there)

  answered-so : h.answered ≡ child_reply st (place_of i.dir) (next_of i.given (children_of st (place_of i.dir)))
  unfolding answer
  answered-so =
      plain-answered tells before after (op.Next i.row i.dir) h.answered h.given h.entered h.accepted
      (plain-child st i.dir (next_of (given_in (own_of (agent_of st before.pass.agent) i.row)) (children_of st (place_of i.dir))))
      ∙ ap (λ names. child_reply st (place_of i.dir) (next_of names (children_of st (place_of i.dir)))) given-in-turn

  alike : unread_gift acted.gift ≡ unread_gift (gift_of st (op.Next 0 i.dir) h.answered)
  unfolding gift_of
  alike = ap unread_gift h.gives.1 ∙ h.entered.gift.alike ∙ by-reply h.answered
    where
      by-reply : (r : Reply) → unread_gift (gift_of st (op.Next i.row i.dir) r) ≡ unread_gift (gift_of st (op.Next 0 i.dir) r)
      by-reply (reply.Child kd name) = refl
      by-reply r = refl

  told : IsNextOf i.dir found h.answered × (given ≡ and_given i.given (next_of i.given (children_of st (place_of i.dir))))
  told = told-by st i.dir i.given given found h.answered acted.gift (next_of i.given (children_of st (place_of i.dir))) answered-so alike noted

  none-gone : cleared ≡ st
  none-gone =
      let there = judged-there tells before after (op.Next i.row i.dir) _ acted h in
      ap (λ gone. fold evicted st gone) (granted-none tells before after kept (op.Next i.row i.dir) h.answered h.given h.entered h.accepted (next-ruled st before.pass.agent i.row i.dir there.0 there.1))

  row-after : own_row after i.row ≡ Some (own.Iterator (record { dir = i.dir; given = given }))
  unfolding effect
  row-after =
      ap (λ (a : Agent Own). own_of a i.row) (accepted-own tells before after kept (op.Next i.row i.dir) h.answered h.given h.entered h.accepted)
      ∙ own-changed cleared before.pass.agent (number tells before after kept (op.Next i.row i.dir) h.answered h.given h.entered) i.row _ row-in-turn
      (λ r. advanced_row r (children_of cleared (place_of i.dir)))
      ∙ ap (λ (u : State Text Own). Some (own.Iterator (record { dir = i.dir; given = and_given i.given (next_of i.given (children_of u (place_of i.dir))) }))) none-gone
      ∙ ap (λ names. Some (own.Iterator (record { dir = i.dir; given = names }))) (sym told.1)

  pub next-gives : HasAnswer tells before after (op.Next i.row i.dir) (λ child answered _. IsNextOf i.dir child answered) found
  next-gives = record { answered = h.answered; given = h.given; entered = h.entered; accepted = h.accepted; gives = told.0 }

  pub next-has : HasIterator after (record i { given = given })
  next-has = record {
    there = row-after;
    mine = ap (λ key. is_of_origin key i.dir) (entered-moved tells before after kept (op.Next i.row i.dir) h.answered h.given h.entered).key ∙ has.mine;
  }

-- ---- what values makes

pub values-gives : {O : Type 0} (tells : Type 0) (before after : AgentSeen O) (kept : IsAgent tells before) (dir : Locator) (local : IsLocal tells before (op.Values dir) reply.Done 1)
    → IsKept before after (op.Values dir) reply.Done 1 → is_own (state_of before) before.pass.agent dir ≡ true → HasIterator after (record { row = after.rows; dir = dir; given = [] })
values-gives {O} tells before after kept dir local is mine =
    let same = kept-own tells before after kept (op.Values dir) reply.Done 1 local is in
    let rows = ap (λ (a : Agent Own). a.own) same ∙ values-own tells before kept dir in
    let count : after.rows ≡ length (own_agent after).own = ap (λ (a : AgentSeen O). a.rows) is ∙ sym local.rows ∙ sym (ap (λ (a : Agent Own). length a.own) same) in
    record {
      there = ap (own_of (own_agent after)) count ∙ last-own (own_agent after) (own_agent before).own (own.Iterator (record { dir = dir; given = [] })) rows;
      mine = ap (λ key. is_of_origin key dir) (kept-moved tells before after kept (op.Values dir) reply.Done 1 local is).key ∙ mine;
    }

pub values-answer : {O : Type 0} (tells : Type 0) (before after : AgentSeen O) (kept : IsAgent tells before) (asked dir named : Locator) (given : List Text) (row : ℕ) → asked ≡ named → dir ≡ named → given ≡ []
    → row ≡ after.rows → is_own (state_of before) before.pass.agent named ≡ true
    → HasLocalAnswer {T = Unit {0}} tells before after (op.Values asked) 1 (λ x answered. answered ≡ reply.Done) tt
    → HasLocalAnswer tells before after (op.Values named) 1 (λ iter answered. (answered ≡ reply.Done) × (iter ≡ record { row = after.rows; dir = named; given = [] }) × HasIterator after iter)
    (record { row = row; dir = dir; given = given })
values-answer tells before after kept asked dir named given row asked_is dir_is given_is row_is mine h =
    let there = subst (λ d. HasLocalAnswer {T = Unit {0}} tells before after (op.Values d) 1 (λ x answered. answered ≡ reply.Done) tt) asked_is h in
    let made = subst (λ r. IsMade tells before after (op.Values named) r 1) there.gives there.entered in
    let iter : ◌≡◌ {A = IteratorSeen} (record { row = row; dir = dir; given = given }) (record { row = after.rows; dir = named; given = [] }) = λ j. record { row = row_is j; dir = dir_is j; given = given_is j } in
    record {
      answered = there.answered;
      entered = there.entered;
      accepted = there.accepted;
      gives = (there.gives, iter, subst (HasIterator after) (sym iter) (values-gives tells before after kept named made.local made.kept mine));
    }

-- ---- what next asks

itself : {X : Type 0} (eq : X → X → Bool) → ((x : X) → eq x x ≡ true) → (xs : List X) → pointwise eq xs xs ≡ true
itself eq h [] = refl
itself eq h (x ∷ xs) = λ i. h x i && itself eq h xs i

text-itself : (x : Text) → same_text x x ≡ true
text-itself x = itself nat_eq (λ n. eq-eqb n n refl) x

kind-itself : (k : Kind) → same_kind k k ≡ true
kind-itself kind.File = refl
kind-itself kind.Directory = refl

locator-itself : (at : Locator) → same_locator at at ≡ true
locator-itself at = λ i. text-itself at.key i && itself same_text text-itself at.path i && kind-itself at.kind i

pub may-next : {O : Type 0} (a : AgentSeen O) (i : IteratorSeen) → HasIterator a i → MayAskPast a (op.Next i.row i.dir) i.given
unfolding may_enter HasSmallNumbers
may-next a i has = record {
  shared = refl;
  nobody = refl;
  fitting = λ j. has.mine j && (ap (is_iterator_of i.dir) has.there ∙ locator-itself i.dir) j;
  plain = refl;
  numbers = tt;
  given = sym (ap given_in has.there);
  stays = refl;
}
