-- A conversation whose disk went back to its host.
use Rattle.std.proofs.Common.{◌≡◌, ◌⊎◌, ℕ, suc, ◌≤◌, List, [], ◌∷◌, ◌++◌, inl, inr, sym, subst}
use Rattle.opfs_base.specs.Texts.{Text}
use Rattle.opfs_desk.specs.Seen.{DeskSeen}
use Rattle.opfs_hist.specs.declared.entry.Entry.{Entry}
use Rattle.opfs_machine.specs.Openings.{Opening}
use Rattle.opfs_outside.specs.declared.disk.Disk.{Ghosts as DiskWords}
use Rattle.opfs_port.specs.Said.{Said}
use Rattle.opfs_script.specs.Scripts.{Asked}
use Rattle.opfs_serve_runs.specs.Conversations.{AreExchangesOn, HasKept, IsConversation}
use Rattle.opfs_serving.specs.Exchanges.{Exchange, entries_told, spoken, unanswered, with_call}
use Rattle.opfs_serving.specs.declared.progress.State.{State}

module _ {D : Type 0} (w : DiskWords D) (o : Opening) (history : List Entry) (Known Known' : Type 0) (last last' : ℕ) (left left' : ℕ → Text → Type 0)
    (known : Known' → Known) (moment : Known' → last' ≡ last) (since : Known' → (t : ℕ) (c : Text) → left' t c → left t c) where
  kept-on : (count at : ℕ) → Known' → HasKept o history last left count at → HasKept o history last' left' count at
  kept-on count at k is = record { within = is.within; passed = subst (λ (m : ℕ). at ≤ m) (sym (moment k)) is.passed; since = λ c l. is.since c (since k at c l) }

  exchanges-on : (count : ℕ) (scripts : List Asked) (told : List Entry) (xs : List (Exchange (DeskSeen D))) → AreExchangesOn w o history Known last left count scripts told xs → AreExchangesOn w o history Known' last' left' count scripts told xs
  exchanges-on count scripts told [] is = tt
  exchanges-on count scripts told (x ∷ xs) is = (
    record { asked = is.0.asked; first = is.0.first; front = is.0.front; begins = is.0.begins; looked = is.0.looked; answered = is.0.answered; kept = λ k. kept-on _ _ k (is.0.kept (known k)) },
    exchanges-on (suc count) (with_call scripts x.call) (told ++ entries_told x.answer) xs is.1,
  )

  pub talked-on : {P : Type 0} (tells : Type 0) (said : P → List (Said (DeskSeen D))) (agents : List Asked) (begun now : P) (ended : State) (scripts : List Asked)
      → IsConversation w o history Known last left tells said agents begun now ended scripts → IsConversation w o history Known' last' left' tells said agents begun now ended scripts
  talked-on tells said agents begun now ended scripts is = record {
    talk = is.talk;
    unsaid = is.unsaid;
    few = is.few;
    said_is = λ t. by (is.said_is t);
    right = exchanges-on 0 agents [] is.talk is.right;
    greeted = is.greeted;
    scripts_are = is.scripts_are;
    all = is.all;
  }
    where
      by : (said now ≡ said begun ++ (spoken is.talk ++ unanswered is.unsaid)) ⊎ ((said now ≡ said begun ++ (spoken is.talk ++ spoken is.unsaid)) × AreExchangesOn w o history Known last left 0 agents [] (is.talk ++ is.unsaid))
          → (said now ≡ said begun ++ (spoken is.talk ++ unanswered is.unsaid)) ⊎ ((said now ≡ said begun ++ (spoken is.talk ++ spoken is.unsaid)) × AreExchangesOn w o history Known' last' left' 0 agents [] (is.talk ++ is.unsaid))
      by (inl said_so) = inl said_so
      by (inr said_so) = inr (said_so.0, exchanges-on 0 agents [] (is.talk ++ is.unsaid) said_so.1)
