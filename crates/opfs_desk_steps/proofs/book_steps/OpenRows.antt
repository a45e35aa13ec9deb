-- Open rows through entries that open and close none: refused calls, and an agent's pending ones.
use Rattle.std.proofs.Common.{◌≡◌, ℕ, zero, suc, ◌<◌, ◌-◌, Bool, true, false, List, [], ◌∷◌, ◌++◌, None, refl, sym, ap, subst, ◌∙◌, inl, inr}
use Rattle.std.specs.Prelude.{slice_get}
use Rattle.std.proofs.lemmas.Bool.{cases_eq}
use Rattle.std.proofs.lemmas.List.{length-set}
use Rattle.opfs_books.specs.Sharing.Noting.{noted}
use Rattle.opfs_hist.specs.declared.entry.Entry.{Entry}
use Rattle.opfs_hist.specs.declared.op.Op.{Op}
use Rattle.opfs_hist.specs.declared.op.Op.TheVariants as op
use Rattle.opfs_laws.proofs.Numbers.{IsNumber, agent-set, agent-other}
use Rattle.opfs_laws.specs.Lengths.Outlines.{local_change}
use Rattle.opfs_machine.specs.declared.own.Outline.{Outline}
use Rattle.opfs_machine.specs.declared.own.Outline.TheVariants as outline
use Rattle.opfs_machine.specs.declared.state.Agent.{Agent}
use Rattle.opfs_machine.specs.Agents.{agent_of, own_of, with_agent, counted}
use Rattle.opfs_machine.specs.Effects.{refused}
use Rattle.opfs_machine.specs.Steps.{is_refusal}
use Rattle.opfs_space.specs.Room.{Machine}
use Rattle.opfs_pages.specs.HistoryLaws.Open.{if_open, open_at}

-- One more iterator opens nothing.
get-more : (xs : List Outline) (i : ℕ) → if_open (slice_get (xs ++ outline.Iterator ∷ []) i) ≡ if_open (slice_get xs i)
get-more [] zero = refl
get-more [] (suc i) = refl
get-more (x ∷ xs) zero = refl
get-more (x ∷ xs) (suc i) = get-more xs i

own-more : (a : Agent Outline) (n : ℕ) → if_open (own_of (record a { own = a.own ++ outline.Iterator ∷ [] }) n) ≡ if_open (own_of a n)
own-more a zero = refl
own-more a (suc i) = get-more a.own i

-- An agent whose open rows stay.
open-set : (m : Machine) (k j n : ℕ) (a : Agent Outline) → IsNumber m k → ((i : ℕ) → if_open (own_of a i) ≡ if_open (own_of (agent_of m k) i)) → open_at (with_agent m k a) j n ≡ open_at m j n
open-set m k j n a number same = elim (cases_eq j k) [
  | inl here ↦
      subst (λ (x : ℕ). open_at (with_agent m k a) x n ≡ open_at m x n) (sym here)
      (ap (λ (x : Agent Outline). if_open (own_of x n)) (agent-set m k a number) ∙ same n)
  | inr far ↦ ap (λ (x : Agent Outline). if_open (own_of x n)) (agent-other m k j a number far)
]

pub open-refused : (m : Machine) (k j n : ℕ) (o : Op) → IsNumber m k → open_at (counted (refused m k o) k) j n ≡ open_at m j n
open-refused m k j n (op.Await tag) number = open-set m k j n (record (agent_of m k) { waits = None }) number (λ i. refl)
open-refused m k j n o number = refl

-- ---- local calls

open-local : (m : Machine) (k j n : ℕ) (o : Op) → IsNumber m k → open_at (local_change m k o) j n ≡ open_at m j n
open-local m k j n (op.Values dir) number = open-set m k j n (record (agent_of m k) { own = (agent_of m k).own ++ outline.Iterator ∷ [] }) number (own-more (agent_of m k))
open-local m k j n (op.Moment ms) number = open-set m k j n (record (agent_of m k) { moment = ms }) number (λ i. refl)
open-local m k j n o number = refl

number-set : (m : Machine) (k : ℕ) (a : Agent Outline) → IsNumber m k → IsNumber (with_agent m k a) k
number-set m k a number = record { index = number.index; is = number.is; within = subst (λ (x : ℕ). number.index < x) (sym (length-set m.agents (k - 1) a)) number.within }

number-local : (m : Machine) (k : ℕ) (o : Op) → IsNumber m k → IsNumber (local_change m k o) k
number-local m k (op.Values dir) number = number-set m k (record (agent_of m k) { own = (agent_of m k).own ++ outline.Iterator ∷ [] }) number
number-local m k (op.Moment ms) number = number-set m k (record (agent_of m k) { moment = ms }) number
number-local m k o number = number

abbrev noted-by : Machine → ℕ → Op → Bool → Machine
noted-by m k o b = counted (elim b [ true ↦ m | false ↦ local_change m k o ]) k

number-noted : (m : Machine) (k : ℕ) (o : Op) (b : Bool) → IsNumber m k → IsNumber (noted-by m k o b) k
number-noted m k o true number = record { index = number.index; is = number.is; within = number.within }
number-noted m k o false number = let x = number-local m k o number in record { index = x.index; is = x.is; within = x.within }

open-one : (m : Machine) (k j n : ℕ) (o : Op) (b : Bool) → IsNumber m k → open_at (noted-by m k o b) j n ≡ open_at m j n
open-one m k j n o true number = refl
open-one m k j n o false number = open-local m k j n o number

pub open-noted : (es : List Entry) (m : Machine) (k j n : ℕ) → IsNumber m k → open_at (noted m k es) j n ≡ open_at m j n
open-noted [] m k j n number = refl
open-noted (e ∷ es) m k j n number =
    open-noted es (noted-by m k e.op (is_refusal e.reply)) k j n (number-noted m k e.op (is_refusal e.reply) number)
    ∙ open-one m k j n e.op (is_refusal e.reply) number

-- ---- limits

limits-local : (m : Machine) (k : ℕ) (o : Op) → (local_change m k o).limits ≡ m.limits
limits-local m k (op.Values dir) = refl
limits-local m k (op.Moment ms) = refl
limits-local m k o = refl

limits-one : (m : Machine) (k : ℕ) (o : Op) (b : Bool) → (noted-by m k o b).limits ≡ m.limits
limits-one m k o true = refl
limits-one m k o false = limits-local m k o

pub limits-noted : (es : List Entry) (m : Machine) (k : ℕ) → (noted m k es).limits ≡ m.limits
limits-noted [] m k = refl
limits-noted (e ∷ es) m k = limits-noted es (noted-by m k e.op (is_refusal e.reply)) k ∙ limits-one m k e.op (is_refusal e.reply)

pub limits-refused : (m : Machine) (k : ℕ) (o : Op) → (counted (refused m k o) k).limits ≡ m.limits
limits-refused m k (op.Await tag) = refl
limits-refused m k o = refl
