-- What was said in a conversation with a desk, whose run has ended.
use Rattle.std.proofs.Common.{◌≡◌, ◌⊎◌, ℕ, zero, suc, ◌-◌, ◌<◌, List, [], ◌∷◌, ◌++◌, length, map, Option, Some, None, refl, sym, ap, ◌∙◌, subst, inl, inr}
use Rattle.std.specs.Prelude.{All}
use Rattle.std.proofs.lemmas.List.Elements.{All-cons, All-head, All-nil, All-tail}
use Rattle.opfs_desk.specs.Keeping.{EndsKeeping, KeepsAll, StaysKept}
use Rattle.opfs_desk.specs.Seen.{DeskSeen, entries_of}
use Rattle.opfs_hall.specs.History.{IsPrefix}
use Rattle.opfs_hist.specs.declared.entry.Entry.{Entry}
use Rattle.opfs_machine.specs.Openings.{Opening, Who}
use Rattle.opfs_outside.specs.declared.disk.Disk.{Ghosts as DiskWords}
use Rattle.opfs_port.specs.Said.{Said}
use Rattle.opfs_script.specs.Scripts.{Asked}
use Rattle.opfs_script.specs.declared.step.Step.{Step}
use Rattle.opfs_script_run.specs.Stage.Openings.{who_of}
use Rattle.opfs_serving.specs.Exchanges.{Call, Exchange, add_step, entries_told, scripts_after, spoken, unanswered, with_call}
use Rattle.opfs_serving.specs.Talks.{AreExchanges, AreLookedAfter, IsTalk}
use Rattle.opfs_serving.specs.declared.progress.State.{State}
use Rattle.opfs_serving.specs.declared.progress.State.TheVariants as state
use Rattle.opfs_serve_runs.specs.Conversations.{AreExchangesOn, IsConversation}
use Rattle.opfs_serve_runs.proofs.Kept.{has-kept}

-- ---- a step more is asked of the same agents

add-who : (n : ℕ) (s : Step) (scripts : List Asked) → map who_of (add_step n s scripts) ≡ map who_of scripts
add-who n s [] = refl
add-who zero s (a ∷ more) = refl
add-who (suc n) s (a ∷ more) = ap (λ (l : List Who). who_of a ∷ l) (add-who n s more)

call-who : (call : Option Call) (scripts : List Asked) → map who_of (with_call scripts call) ≡ map who_of scripts
call-who None scripts = refl
call-who (Some c) scripts = add-who (c.agent - 1) c.step scripts

pub after-who : {T : Type 0} (xs : List (Exchange T)) (scripts : List Asked) → map who_of (scripts_after scripts xs) ≡ map who_of scripts
after-who [] scripts = refl
after-who (x ∷ xs) scripts = after-who xs (with_call scripts x.call) ∙ call-who x.call scripts

front-all : {X : Type 0} (P : X → Type 0) (xs ys : List X) → All P (xs ++ ys) → All P xs
front-all P [] ys all = All-nil P
front-all P (x ∷ xs) ys all = All-cons P x xs (All-head P x (xs ++ ys) all) (front-all P xs ys (All-tail P x (xs ++ ys) all))

-- ---- the exchanges, as the run's end has them

module _ {D : Type 0} (w : DiskWords D) (store : DeskSeen D) (disk : D) (ends : EndsKeeping w store disk) (o : Opening) (history : List Entry) (opens : store.fixed.opening ≡ o) (same : history ≡ entries_of store) where
  exchanges-on : (count : ℕ) (scripts : List Asked) (told : List Entry) (xs : List (Exchange (DeskSeen D))) → AreExchanges store.fixed.opening entries_of (KeepsAll w) count scripts told xs → All (λ x. IsPrefix (entries_of x.at) (entries_of store)) xs
      → All (λ x. StaysKept w x.at store) xs → AreExchangesOn w o history w.tells (w.moment disk) (w.since disk) count scripts told xs
  exchanges-on count scripts told [] are begins goes = tt
  exchanges-on count scripts told (x ∷ xs) are begins goes = (
    record {
      asked = are.0.asked;
      first = are.0.first;
      front = are.0.front;
      begins = subst (λ (es : List Entry). IsPrefix (entries_of x.at) es) (sym same) (All-head (λ (y : Exchange (DeskSeen D)). IsPrefix (entries_of y.at) (entries_of store)) x xs begins);
      looked = λ line is. subst (λ (y : Opening). AreLookedAfter y scripts told (entries_of x.at)) opens (are.0.looked line is);
      answered = are.0.answered;
      kept = has-kept w store disk ends o history opens same x.at are.0.kept (All-head (λ (y : Exchange (DeskSeen D)). StaysKept w y.at store) x xs goes);
    },
    exchanges-on (suc count) (with_call scripts x.call) (told ++ entries_told x.answer) xs are.1 (All-tail (λ (y : Exchange (DeskSeen D)). IsPrefix (entries_of y.at) (entries_of store)) x xs begins)
        (All-tail (λ (y : Exchange (DeskSeen D)). StaysKept w y.at store) x xs goes),
  )

  pub conversation : {P : Type 0} (tells : Type 0) (said : P → List (Said (DeskSeen D))) (agents : List Asked) (begun now : P) (ended : State) (scripts : List Asked) (told : List Entry)
      → (t : IsTalk store.fixed.opening entries_of (KeepsAll w) (StaysKept w) tells said agents begun now store (ended ≡ state.On) scripts told) → (ended ≡ state.On → 0 < length t.talk) → (ended ≡ state.On → told ≡ entries_of store)
      → IsConversation w o history w.tells (w.moment disk) (w.since disk) tells said agents begun now ended scripts
  conversation {P} tells said agents begun now ended scripts told t greeted all = record {
    talk = t.talk;
    unsaid = t.left;
    few = t.few;
    said_is = λ b. by (t.said_is b);
    right = exchanges-on 0 agents [] t.talk t.right (front-all (λ (y : Exchange (DeskSeen D)). IsPrefix (entries_of y.at) (entries_of store)) t.talk t.left t.begins)
        (front-all (λ (y : Exchange (DeskSeen D)). StaysKept w y.at store) t.talk t.left t.goes_on);
    greeted = greeted;
    scripts_are = t.scripts_are;
    all = λ well. (t.whole well, sym t.told_is ∙ all well ∙ sym same);
  }
    where
      by : (said now ≡ said begun ++ (spoken t.talk ++ unanswered t.left)) ⊎ ((said now ≡ said begun ++ (spoken t.talk ++ spoken t.left)) × AreExchanges store.fixed.opening entries_of (KeepsAll w) 0 agents [] (t.talk ++ t.left))
          → (said now ≡ said begun ++ (spoken t.talk ++ unanswered t.left))
          ⊎ ((said now ≡ said begun ++ (spoken t.talk ++ spoken t.left)) × AreExchangesOn w o history w.tells (w.moment disk) (w.since disk) 0 agents [] (t.talk ++ t.left))
      by (inl is) = inl is
      by (inr is) = inr (is.0, exchanges-on 0 agents [] (t.talk ++ t.left) is.1 t.begins t.goes_on)
