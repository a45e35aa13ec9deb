-- What is known of iterators, through a call of a desk.
use Rattle.std.proofs.Common.{◌≡◌, ◌⊎◌, ℕ, ◌++◌, true, false, List, Option, Some, None, is_some, sym, ap, ◌∙◌, subst, inl, inr}
use Rattle.opfs_store.specs.Acts.Acting.{IsActed, IsGift}
use Rattle.opfs_store.specs.Acts.Asking.{MayAct}
use Rattle.opfs_store.specs.declared.acts.acted.Gift.{Gift}
use Rattle.opfs_base.specs.Texts.{Text}
use Rattle.opfs_hist.specs.declared.entry.Entry.{Entry}
use Rattle.opfs_hist.specs.declared.reply.Reply.{Reply}
use Rattle.opfs_laws.specs.Histories.Unread.{IsTold}
use Rattle.opfs_desk_steps.specs.Iterating.Below.{AreBelow, AreUpTo}
use Rattle.opfs_desk_steps.specs.Iterating.GoingOn.{IteratorsGoOn, MayEnd, MayReach}
use Rattle.opfs_desk_steps.specs.Iterating.Known.{AreOthers, AreReached, IsAtEnd, IsFollowed, IsKnownBy, Lasts, last_of}
use Rattle.opfs_desk_steps.specs.Iterating.Reached.{HasReached, IsUpTo, asked_row, may_make}
use Rattle.opfs_desk_steps.specs.declared.iterating.iterators.Followed.{Followed}
use Rattle.opfs_laws.specs.Whole.{IsWholeOpening}
use Rattle.opfs_machine.specs.Histories.{state_after}
use Rattle.opfs_machine.specs.Openings.{Opening}
use Rattle.opfs_machine.specs.Rows.{children_of}
use Rattle.opfs_machine.specs.Runs.{Call}
use Rattle.opfs_work.specs.Works.{WorkingCopy}

module _ (tells : Type 0) (go : IteratorsGoOn tells) (o : Opening) (h calls : List Entry) (c : Call) (work : WorkingCopy) (past : List Text) (may : MayAct tells o h calls c work past) (old mid : Lasts)
    (reached : AreReached (state_after o h) old) (row : ℕ) (asked : row ≡ asked_row c.op) (others_then : AreOthers c.agent row old mid) where
  others : AreOthers c.agent (asked_row c.op) old mid
  others = subst (λ (n : ℕ). AreOthers c.agent n old mid) asked others_then

  -- What is known of the iterator that is asked.
  pub up-to : (last : Option Text) → last ≡ last_of c.agent row old → IsUpTo (children_of (state_after o (h ++ calls))) c.op past last
  up-to None is = tt
  up-to (Some last) is = go.found o h calls c work past last may (reached c.agent (asked_row c.op) last (ap (λ (n : ℕ). last_of c.agent n old) (sym asked) ∙ sym is))

  -- Nothing was entered.
  pub still-reached : (new : List Entry) → new ≡ h → AreReached (state_after o new) mid
  still-reached new same k n last is = subst (λ (es : List Entry). HasReached (state_after o es) k n last) (sym same) (reached k n last (others k n last is).1)

  module _ (whole : IsWholeOpening o) (told : IsTold tells o h) (new : List Entry) (answered : Reply) (given : Gift) (acted : IsActed tells o h calls c answered new) (gives : IsGift tells (state_after o (h ++ calls)) c.op answered given)
      (call : Followed) (agent : call.agent ≡ c.agent) (its_row : call.row ≡ row) (makes : call.makes ≡ may_make c.op) (was : Option Text) (taken : was ≡ last_of c.agent row old) where
    may-reach : (name : Text) → (is_some was ≡ true) ⊎ AreBelow name past → MayReach o h calls c past name
    may-reach name (inr below) = inr below
    may-reach name (inl known) = there was taken known
      where
        there : (x : Option Text) → x ≡ last_of c.agent row old → is_some x ≡ true → MayReach o h calls c past name
        there None is h = absurd cc
        there (Some text) is h = inl (text, up-to (Some text) is)

    may-end : (name : Text) → (was ≡ Some name) ⊎ AreUpTo name past → MayEnd o h calls c past name
    may-end name (inr above) = inr above
    may-end name (inl known) = inl (up-to (Some name) (sym known ∙ taken))

    row-is : call.row ≡ asked_row c.op
    row-is = its_row ∙ asked

    -- All is given up to the name in the iterator that was asked.
    asked-has : (name : Text) → IsKnownBy call.row was answered given past name → HasReached (state_after o new) c.agent (asked_row c.op) name
    asked-has name (inl by) =
        go.given o h calls new c work past answered by.at name whole told may acted (subst (λ (g : Gift). IsGift tells (state_after o (h ++ calls)) c.op answered g) by.child gives) (may-reach name by.may)
    asked-has name (inr end) = go.ended o h calls new c work past answered name may acted (subst (λ (n : ℕ). IsAtEnd n answered) row-is end.ended) (may-end name end.may)

    now : (k n : ℕ) (name : Text) → k ≡ call.agent → n ≡ call.row → IsKnownBy call.row was answered given past name → HasReached (state_after o new) k n name
    now k n name k_is n_is by =
        subst (λ (a : ℕ). HasReached (state_after o new) a n name) (sym (k_is ∙ agent)) (subst (λ (b : ℕ). HasReached (state_after o new) c.agent b name) (sym (n_is ∙ row-is)) (asked-has name by))

    -- What is known after it.
    pub reached-on : (after : Lasts) → IsFollowed call was answered given past mid after → AreReached (state_after o new) after
    reached-on after followed k n name is = by-one (followed k n name is)
      where
        by-one : ((k ≡ call.agent) × (n ≡ call.row) × IsKnownBy call.row was answered given past name) ⊎ ((call.makes ≡ false) × (last_of k n mid ≡ Some name)) → HasReached (state_after o new) k n name
        by-one (inl both) = now k n name both.0 both.1 both.2
        by-one (inr before) =
            go.stays o h calls new c work past answered mid may acted (sym makes ∙ before.0) (λ a b text there. (others a b text there).0)
            (λ a b text there. reached a b text (others a b text there).1) k n name before.1
