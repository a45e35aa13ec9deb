-- What was put out at each end.
use Rattle.std.proofs.Common.{◌≡◌, ◌-◌, ◌^◌, ◌≤◌, [], ◌∷◌, ◌++◌, inl, inr, refl, sym, ap, subst, ◌∙◌, append_assoc, arith}
use Rattle.std.specs.Prelude.{Result, Ok, Err, IfOk, IsErr, true, false}
use Rattle.std.proofs.lemmas.List.{append-nil}
use Rattle.std.proofs.lemmas.Result.{IfOk-weaker}
use Rattle.std.specs.declared.alloc.AllocError.{AllocError}
use Rattle.opfs_base.specs.Texts.{Text}
use Rattle.opfs_outside.specs.declared.stream.Sink.{Ghosts as SinkWords}
use Rattle.opfs_outside.specs.Turns.{SinkTurn, of_sink, Puts, PutsFront, SinkFailed, Took, TookFront}
use Rattle.opfs_top.specs.Answers.{Behind, IsTold}
use Rattle.opfs_top.specs.declared.answer.Answer.{Answer}
use Rattle.opfs_top.specs.declared.status.Status.{Status}
use Rattle.opfs_top.specs.declared.status.Status.TheVariants as status

-- the same by other words
module _ (k : SinkTurn) (Begun Begun' : Text → Type 0) (End End' : Status → Text → Type 0) (begun : (t : Text) → Begun t → Begun' t) (ends : (e : Status) (t : Text) → End e t → End' e t) where
  wider_behind : (front : Text) (e : Status) (text : Text) → Behind k front End e text → Behind k front End' e text
  wider_behind front status.Done text is = ends status.Done (front ++ text) is
  wider_behind front status.Usage text is = ends status.Usage (front ++ text) is
  wider_behind front status.Script text is = ends status.Script (front ++ text) is
  wider_behind front status.Image text is = ends status.Image (front ++ text) is
  wider_behind front status.Host text is = ends status.Host (front ++ text) is
  wider_behind front status.Source text is = ends status.Source (front ++ text) is
  wider_behind front status.Sink text is = (is.0, is.1, (is.2.0, is.2.1, ends is.2.0 (front ++ is.2.1) is.2.2))
  wider_behind front status.Memory text is = ends status.Memory (front ++ text) is

  pub told_wider : (r : Result Answer AllocError) → IsTold k Begun End r → IsTold k Begun' End' r
  told_wider r is = record {
    front = is.front;
    took = is.took;
    begun = elim is.begun [ inl none ↦ inl none | inr more ↦ inr (more.0, begun (is.front ++ more.0) more.1) ];
    ended = IfOk-weaker r _ _ (λ a e. wider_behind is.front a.status a.text e) is.ended;
  }

-- an answer that is passed on, or that there is none
module _ (k : SinkTurn) (Begun : Text → Type 0) (End : Status → Text → Type 0) (r : Result Answer AllocError) (told : IsTold k Begun End r) where
  pub told_on : (a : Answer) → r ≡ Ok a → IsTold k Begun End (Ok a)
  told_on a is = subst (λ x. IsTold k Begun End x) is told

  pub told_short : (result : Result Answer AllocError) → IsErr result → IsTold k Begun End result
  told_short (Ok a) err = absurd (let never : false ≡ true = err in cc never)
  told_short (Err e) err = record { front = told.front; took = told.took; begun = told.begun; ended = tt }

-- a command that put nothing out itself
module _ {K : Type 0} (w : SinkWords K) (s : K) (Begun : Text → Type 0) (End : Status → Text → Type 0) (never : (t : Text) → End status.Sink t → ⊥) where
  behind_nothing : (e : Status) (text : Text) → End e text → Behind (of_sink w s s) [] End e text
  behind_nothing status.Done text is = is
  behind_nothing status.Usage text is = is
  behind_nothing status.Script text is = is
  behind_nothing status.Image text is = is
  behind_nothing status.Host text is = is
  behind_nothing status.Source text is = is
  behind_nothing status.Sink text is = absurd (never text is)
  behind_nothing status.Memory text is = is

  pub told_nothing : (r : Result Answer AllocError) → IfOk r (λ a. End a.status a.text) → IsTold (of_sink w s s) Begun End r
  told_nothing r is = record { front = []; took = λ t. sym (append-nil (w.written s)); begun = inl refl; ended = IfOk-weaker r _ _ (λ a e. behind_nothing a.status a.text e) is }

-- and that has no answer
pub told_none : {K : Type 0} (w : SinkWords K) (s : K) (Begun : Text → Type 0) (End : Status → Text → Type 0) (r : Result Answer AllocError) → IsErr r → IsTold (of_sink w s s) Begun End r
told_none w s Begun End (Ok a) err = absurd (let never : false ≡ true = err in cc never)
told_none w s Begun End (Err e) err = record { front = []; took = λ t. sym (append-nil (w.written s)); begun = inl refl; ended = tt }

-- words that ask for nothing
pub usage_ended : (End : Status → Text → Type 0) (line : Text) (r : Result Answer AllocError) → ((e : Status) (t : Text) → e ≡ status.Usage → t ≡ line → End e t) → IfOk r (λ a. a.status ≡ status.Usage) → IfOk r (λ a. a.text ≡ line)
    → IfOk r (λ a. End a.status a.text)
usage_ended End line (Ok a) ends e t = ends a.status a.text e t
usage_ended End line (Err x) ends e t = tt

-- ---- the end: what was put out by the command, and then its answer

module _ {K : Type 0} (w : SinkWords K) (old mid new : K) (End : Status → Text → Type 0) (front : Text) (took : Took (of_sink w old mid) front) where
  abbrev So : Status → Text → Type 0
  So e text = Behind (of_sink w old mid) front End e text

  whole_by : (e : Status) (text : Text) → (e ≡ status.Sink → ⊥) → So e text → End e (front ++ text)
  whole_by status.Done text other is = is
  whole_by status.Usage text other is = is
  whole_by status.Script text other is = is
  whole_by status.Image text other is = is
  whole_by status.Host text other is = is
  whole_by status.Source text other is = is
  whole_by status.Sink text other is = absurd (other refl)
  whole_by status.Memory text other is = is

  took_more : (put : Text) → Took (of_sink w mid new) put → Took (of_sink w old new) (front ++ put)
  took_more put more = λ t. more t ∙ (ap (λ (x : Text). x ++ put) (took t) ∙ append_assoc (w.written old) front put)

  -- the status that was answered
  pub ended_as : (e wanted : Status) (text : Text) → (wanted ≡ status.Sink → ⊥) → e ≡ wanted → So e text → End wanted (front ++ text)
  ended_as e wanted text other same is = whole_by wanted text other (subst (λ x. So x text) same is)

  pub all_put : (e wanted : Status) (text put : Text) → (wanted ≡ status.Sink → ⊥) → So e text → Took (of_sink w mid new) put → put ≡ text → e ≡ wanted → Puts (of_sink w old new) (End wanted)
  all_put e wanted text put other is more same at = record {
    text = front ++ put;
    kind = subst (λ t. End wanted (front ++ t)) (sym same) (ended_as e wanted text other at is);
    took = took_more put more;
  }

  module _ (Some : Text → Type 0) (some : (e : Status) (t : Text) → End e t → Some t) where
    -- the sink had failed before
    pub front_put : (e : Status) (text put : Text) → So e text → Took (of_sink w mid new) put → put ≡ text → e ≡ status.Sink → PutsFront (of_sink w old new) Some
    front_put e text put is more same at =
        let s : So status.Sink text = subst (λ x. So x text) at is in
        let none : put ≡ [] = same ∙ s.1 in
        record {
          text = front ++ put;
          rest = s.2.1;
          kind = some s.2.0 ((front ++ put) ++ s.2.1) (subst (λ t. End s.2.0 ((front ++ t) ++ s.2.1)) (sym none) (subst (λ t. End s.2.0 (t ++ s.2.1)) (sym (append-nil front)) s.2.2));
          took = took_more put more;
        }

    no_front : (a b : Text) → [] ≡ a ++ b → a ≡ []
    no_front [] b is = refl
    no_front (x ∷ xs) b is = absurd (cc is)

    other_cut : (e : Status) (text rest : Text) → (e ≡ status.Sink → ⊥) → So e text → TookFront (of_sink w mid new) text rest → PutsFront (of_sink w old new) Some
    other_cut e text rest other is cut = record {
      text = front ++ cut.front;
      rest = rest;
      kind = some e ((front ++ cut.front) ++ rest) (subst (λ t. End e t) (ap (λ (t : Text). front ++ t) cut.whole ∙ sym (append_assoc front cut.front rest)) (whole_by e text other is));
      took = took_more cut.front cut.took;
    }

    cut_by : (e : Status) (text rest : Text) → So e text → TookFront (of_sink w mid new) text rest → PutsFront (of_sink w old new) Some
    cut_by status.Done text rest is cut = other_cut status.Done text rest (λ x. cc x) is cut
    cut_by status.Usage text rest is cut = other_cut status.Usage text rest (λ x. cc x) is cut
    cut_by status.Script text rest is cut = other_cut status.Script text rest (λ x. cc x) is cut
    cut_by status.Image text rest is cut = other_cut status.Image text rest (λ x. cc x) is cut
    cut_by status.Host text rest is cut = other_cut status.Host text rest (λ x. cc x) is cut
    cut_by status.Source text rest is cut = other_cut status.Source text rest (λ x. cc x) is cut
    cut_by status.Sink text rest is cut =
        let none : cut.front ≡ [] = no_front cut.front rest (sym is.1 ∙ cut.whole) in
        front_put status.Sink [] cut.front (is.0, refl, is.2) cut.took none refl
    cut_by status.Memory text rest is cut = other_cut status.Memory text rest (λ x. cc x) is cut

    -- the sink failed
    pub put_cut : (e : Status) (text put : Text) → So e text → put ≡ text → (rest : Text) × TookFront (of_sink w mid new) put rest → PutsFront (of_sink w old new) Some
    put_cut e text put is same cut = cut_by e text cut.0 is (subst (λ t. TookFront (of_sink w mid new) t cut.0) same cut.1)

  -- the cause
  pub sink_before : (e : Status) (text : Text) → w.faults mid ≤ w.faults new → w.faults new ≤ 2 ^ 64 - 1 → So e text → e ≡ status.Sink → SinkFailed (of_sink w old new)
  sink_before e text later counted is at =
      let s : So status.Sink text = subst (λ x. So x text) at is in
      elim s.0 [ inl less ↦ inl (omega (arith, less, later)) | inr full ↦ inr (omega (arith, full, later, counted)) ]

pub sink_after : {K : Type 0} (w : SinkWords K) (old mid new : K) → w.faults old ≤ w.faults mid → SinkFailed (of_sink w mid new) → SinkFailed (of_sink w old new)
sink_after w old mid new later failed = elim failed [ inl less ↦ inl (omega (arith, less, later)) | inr full ↦ inr full ]

so_by : (r : Result Answer AllocError) (a : Answer) (P : Answer → Type 0) → r ≡ Ok a → IfOk r P → P a
so_by r a P is all = subst (λ x. IfOk x P) is all

-- a command that ended so, and its answer
module _ {K : Type 0} (w : SinkWords K) (old mid new : K) (Begun : Text → Type 0) (End : Status → Text → Type 0) (r : Result Answer AllocError) (told : IsTold (of_sink w old mid) Begun End r) (a : Answer) (is : r ≡ Ok a)
    (put : Text) (same : put ≡ a.text) where
  so : Behind (of_sink w old mid) told.front End a.status a.text
  so = so_by r a (λ x. Behind (of_sink w old mid) told.front End x.status x.text) is told.ended

  pub puts_as : (wanted : Status) → (wanted ≡ status.Sink → ⊥) → Took (of_sink w mid new) put → a.status ≡ wanted → Puts (of_sink w old new) (End wanted)
  puts_as wanted other more at = all_put w old mid new End told.front told.took a.status wanted a.text put other so more same at

  pub never_as : (wanted : Status) → (wanted ≡ status.Sink → ⊥) → a.status ≡ wanted → End wanted (told.front ++ a.text)
  never_as wanted other at = ended_as w old mid new End told.front told.took a.status wanted a.text other at so

  pub front_as : (Some : Text → Type 0) → ((e : Status) (t : Text) → End e t → Some t) → Took (of_sink w mid new) put → a.status ≡ status.Sink → PutsFront (of_sink w old new) Some
  front_as Some some more at = front_put w old mid new End told.front told.took Some some a.status a.text put so more same at

  pub cut_as : (Some : Text → Type 0) → ((e : Status) (t : Text) → End e t → Some t) → (rest : Text) × TookFront (of_sink w mid new) put rest → PutsFront (of_sink w old new) Some
  cut_as Some some cut = put_cut w old mid new End told.front told.took Some some a.status a.text put so same cut

  pub cause_as : w.faults mid ≤ w.faults new → w.faults new ≤ 2 ^ 64 - 1 → a.status ≡ status.Sink → SinkFailed (of_sink w old new)
  cause_as later counted at = sink_before w old mid new End told.front told.took a.status a.text later counted so at
