-- A next that finds no further child.
use Rattle.std.proofs.Common.{◌≡◌, ◌≢◌, ℕ, ◌++◌, true, List, [], fold, None, Some, refl, sym, ap, ◌∙◌, subst, inl, inr}
use Rattle.opfs_store.specs.Acts.Acting.{IsActed, told_entry}
use Rattle.opfs_store.specs.Acts.Asking.{MayAct, given_by}
use Rattle.opfs_base.specs.Places.{place_of}
use Rattle.opfs_base.specs.Texts.{Text}
use Rattle.opfs_base.specs.declared.locator.Locator.{Locator}
use Rattle.opfs_hist.specs.declared.entry.Entry.{Entry}
use Rattle.opfs_hist.specs.declared.op.Op.{Op}
use Rattle.opfs_hist.specs.declared.op.Op.TheVariants as op
use Rattle.opfs_hist.specs.declared.reply.Reply.{Reply}
use Rattle.opfs_hist.specs.declared.reply.Reply.TheVariants as reply
use Rattle.opfs_laws.specs.Histories.Unread.{unread}
use Rattle.opfs_laws.proofs.Going.{not_evict}
use Rattle.opfs_machine.specs.declared.own.Own.{Own}
use Rattle.opfs_machine.specs.declared.state.State.{State}
use Rattle.opfs_machine.specs.Agents.{agent_of, own_of}
use Rattle.opfs_machine.specs.Contents.{next_of}
use Rattle.opfs_machine.specs.Histories.{Agrees, may_enter, state_after}
use Rattle.opfs_machine.specs.Openings.{Opening}
use Rattle.opfs_machine.specs.Replies.{given_in}
use Rattle.opfs_machine.specs.Rows.{children_of}
use Rattle.opfs_machine.specs.Runs.{Call}
use Rattle.opfs_machine.specs.Steps.{after_reply, evicted, step}
use Rattle.opfs_work.specs.Works.{WorkingCopy}
use Rattle.opfs_desk_steps.specs.Iterating.GoingOn.{MayEnd}
use Rattle.opfs_desk_steps.specs.Iterating.Known.{IsAtEnd}
use Rattle.opfs_desk_steps.specs.Iterating.Reached.{AreGivenUpTo, HasReached, IsUpTo, asked_row}
use Rattle.opfs_desk_steps.proofs.iterating.Names.{all-given}
use Rattle.opfs_desk_steps.proofs.iterating.Nexts.{agreed-last, reached-end}
use Rattle.opfs_desk_steps.proofs.iterating.Pending.{acted-state}

record IsNext (o : Op) : Type 0 where
  row : ℕ
  dir : Locator
  asked : o ≡ op.Next row dir

-- Only a next asks an iterator.
next-by : (o : Op) → asked_row o ≢ 0 → IsNext o
next-by (op.Next n dir) asks = record { row = n; dir = dir; asked = refl }
next-by o asks = absurd (asks refl)

unread-last : (r : Reply) → unread r ≡ reply.Last → r ≡ reply.Last
unread-last (reply.Read bytes) h = absurd cc
unread-last r h = h

module _ (tells : Type 0) (o : Opening) (h calls new : List Entry) (c : Call) (work : WorkingCopy) (past : List Text) (answered : Reply) (name : Text)
    (may : MayAct tells o h calls c work past) (acted : IsActed tells o h calls c answered new) where
  abbrev s : State Text Own
  s = state_after o (h ++ calls)

  module _ (next : IsNext c.op) (last : answered ≡ reply.Last) (ends : MayEnd o h calls c past name) where
    abbrev n : ℕ
    n = next.row

    abbrev names : List Text
    names = children_of s (place_of next.dir)

    fitting : may_enter s c.agent (op.Next n next.dir) ≡ true
    fitting = subst (λ (x : Op). may_enter s c.agent x ≡ true) next.asked may.fitting

    past-is : past ≡ given_in (own_of (agent_of s c.agent) n)
    past-is = subst (λ (x : Op). past ≡ given_by s c.agent x) next.asked may.given

    real-agent : acted.call.real.agent ≡ c.agent
    real-agent = ap (λ (e : Entry). e.agent) (sym acted.call.alike)

    real-op : acted.call.real.op ≡ op.Next n next.dir
    real-op = ap (λ (e : Entry). e.op) (sym acted.call.alike) ∙ next.asked

    real-reply : acted.call.real.reply ≡ reply.Last
    real-reply = unread-last acted.call.real.reply (ap (λ (e : Entry). e.reply) (sym acted.call.alike) ∙ ap unread last)

    agrees : Agrees s acted.gone c.agent (op.Next n next.dir) acted.call.real.reply (step s c.agent (op.Next n next.dir))
    agrees =
        subst (λ (x : Op). Agrees s acted.gone c.agent x acted.call.real.reply (step s c.agent x)) real-op
        (subst (λ (k : ℕ). Agrees s acted.gone k acted.call.real.op acted.call.real.reply (step s k acted.call.real.op)) real-agent acted.call.call.agrees)

    both : (next_of (given_in (own_of (agent_of s c.agent) n)) names ≡ None) × (acted.gone ≡ [])
    both = agreed-last s acted.gone c.agent n next.dir acted.call.real.reply real-reply agrees

    up-by : MayEnd o h calls c past name → AreGivenUpTo past name names
    up-by (inl up) = subst (λ (x : Op). IsUpTo (children_of s) x past (Some name)) next.asked up
    up-by (inr above) = all-given past name names (ap (λ (xs : List Text). next_of xs names) past-is ∙ both.0) above

    here : HasReached (after_reply (fold evicted s []) c.agent (op.Next n next.dir) reply.Last) c.agent n name
    here = reached-end s acted.gone c.agent n next.dir name may.live fitting both.0 (subst (λ (xs : List Text). AreGivenUpTo xs name names) past-is (up-by ends))

    there : HasReached (after_reply (fold evicted s acted.gone) c.agent c.op answered) c.agent n name
    there =
        subst (λ (xs : List Text). HasReached (after_reply (fold evicted s xs) c.agent c.op answered) c.agent n name) (sym both.1)
        (subst (λ (x : Op). HasReached (after_reply (fold evicted s []) c.agent x answered) c.agent n name) (sym next.asked)
        (subst (λ (r : Reply). HasReached (after_reply (fold evicted s []) c.agent (op.Next n next.dir) r) c.agent n name) (sym last) here))

    given-all : HasReached (state_after o new) c.agent (asked_row c.op) name
    given-all =
        subst (λ (xs : List Entry). HasReached (state_after o xs) c.agent (asked_row c.op) name) (sym acted.grown)
        (subst (λ (t : State Text Own). HasReached t c.agent (asked_row c.op) name) (sym (acted-state o h calls acted.gone (told_entry c answered) (not_evict s c.agent c.op may.fitting)))
        (subst (λ (m : ℕ). HasReached (after_reply (fold evicted s acted.gone) c.agent c.op answered) c.agent m name) (sym (ap asked_row next.asked)) there))

  pub acted-ended : IsAtEnd (asked_row c.op) answered → MayEnd o h calls c past name → HasReached (state_after o new) c.agent (asked_row c.op) name
  acted-ended end ends = given-all (next-by c.op end.asks) end.last ends
