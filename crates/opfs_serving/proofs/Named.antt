-- The agent that a line names, whether it is free, and why what the line asks is refused.
use Rattle.std.proofs.Common.{◌≡◌, ◌⊎◌, ℕ, suc, ◌-◌, ◌<◌, ◌≤◌, ◌&&◌, nat_le, Bool, true, false, Option, Some, None, Err, List, refl, sym, ap, ◌∙◌, subst, inl, inr, arith}
use Rattle.std.specs.Prelude.{is_some}
use Rattle.std.proofs.lemmas.Bool.{and_parts, leb-true, true≢false}
use Rattle.opfs_base.specs.Texts.{Text}
use Rattle.opfs_hist.specs.declared.entry.Entry.{Entry}
use Rattle.opfs_script.specs.Lines.{asked_by, if_among, numbered}
use Rattle.opfs_script.specs.Members.{◌>>=◌}
use Rattle.opfs_script.specs.declared.refusal.ScriptRefusal.{ScriptRefusal}
use Rattle.opfs_script.specs.declared.refusal.ScriptRefusal.TheVariants as script
use Rattle.opfs_serving.specs.Lines.{Names, told_as}
use Rattle.opfs_serving.specs.Requests.{AsksNothing, IsFree, IsHeldBack, IsOf, IsTrouble, ended, too_many, unread}
use Rattle.opfs_serving.specs.Seats.{SeatSeen}
use Rattle.opfs_serving.specs.declared.refusal.LineRefusal.TheVariants as line
use Rattle.opfs_serving.specs.declared.requests.Trouble.{Trouble}
use Rattle.opfs_serving.specs.declared.requests.Trouble.TheVariants as trouble

pub none-there : {X : Type 0} (o : Option X) → is_some o ≡ false → o ≡ None
none-there None is = refl
none-there (Some x) is = absurd (true≢false is)

pub some-there : {X : Type 0} (o : Option X) → is_some o ≡ true → (x : X) × (o ≡ Some x)
some-there None is = absurd (true≢false (sym is))
some-there (Some x) is = (x, refl)

-- ---- the agent that is named is one of them

among-by : (p q : ℕ × Text) (agents : ℕ) (b : Bool) → (nat_le 1 p.0 && nat_le p.0 agents) ≡ b → elim b [ true ↦ Some p | false ↦ None ] ≡ Some q → (1 ≤ q.0) × (q.0 ≤ agents)
among-by p q agents true test is =
    let same : p ≡ q = cc in
    let both = and_parts (nat_le 1 p.0) (nat_le p.0 agents) test in
    (subst (λ (r : ℕ × Text). 1 ≤ r.0) same (leb-true 1 p.0 both.0), subst (λ (r : ℕ × Text). r.0 ≤ agents) same (leb-true p.0 agents both.1))
among-by p q agents false test is = absurd cc

numbered-among : (o : Option (ℕ × Text)) (agents : ℕ) (q : ℕ × Text) → (o >>= if_among agents) ≡ Some q → (1 ≤ q.0) × (q.0 ≤ agents)
numbered-among None agents q is = absurd cc
numbered-among (Some p) agents q is = among-by p q agents (nat_le 1 p.0 && nat_le p.0 agents) refl is

pub named-among : (agents : ℕ) (text : Text) (k : ℕ) (rest : Text) → Names agents text k rest → (1 ≤ k) × (k ≤ agents)
named-among agents text k rest names = numbered-among (numbered text) agents (k, rest) names

pub named-place : (agents : ℕ) (text : Text) (k : ℕ) (rest : Text) → Names agents text k rest → (suc (k - 1) ≡ k) × (k - 1 < agents)
named-place agents text k rest names =
    let among = named-among agents text k rest names in let low = among.0 in let high = among.1 in
    (omega (arith, low), omega (arith, low, high))

-- ---- why not

module _ {O : Type 0} (seen : List Entry) (text : Text) (seats : List (SeatSeen O)) (place : ℕ) (x : SeatSeen O) (rest : Text) (of_line : IsOf text seats place x rest) where
  pub held-nothing : (why : Trouble) → IsHeldBack place x (Some why) → AsksNothing seen text seats why
  held-nothing (trouble.Refused line.NotJson) held = absurd held
  held-nothing (trouble.Refused (line.BadShape agent step)) held = absurd held
  held-nothing (trouble.Refused (line.UnknownStep agent step)) held = absurd held
  held-nothing (trouble.Refused line.TooMany) held = too_many place x rest of_line held
  held-nothing (trouble.Refused line.NoAgent) held = absurd held
  held-nothing (trouble.Refused line.Waiting) held = absurd held
  held-nothing (trouble.Refused line.Ended) held = ended place x rest of_line held
  held-nothing (trouble.Waits at) held = (x, rest, subst (λ n. IsOf text seats n x rest) (sym held.0) of_line, held.1)
  held-nothing trouble.NoMemory held = absurd held

  pub unread-nothing : (free : IsFree x) (why : ScriptRefusal) → (asked_by (suc place) free.agent.number rest ≡ Err why) ⊎ (why ≡ script.NoMemory) → (t : Trouble) → IsTrouble why t → AsksNothing seen text seats t
  unread-nothing free why is trouble.NoMemory told = tt
  unread-nothing free why is (trouble.Waits at) told = absurd told
  unread-nothing free why (inl is) (trouble.Refused r) told = unread place x rest free why r of_line is told
  unread-nothing free why (inr is) (trouble.Refused r) told = absurd (none-told (sym (ap told_as is) ∙ told))
    where
      none-told : None ≡ Some r → ⊥
      none-told e = cc
