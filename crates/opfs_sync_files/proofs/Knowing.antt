-- What an agent's calls add to what it knows.
use Rattle.std.proofs.Common.{◌≡◌, ◌⊎◌, ℕ, ◌+◌, ◌≤◌, List, [], ◌∷◌, ◌++◌, append_assoc, append-nil, refl, sym, ap, ◌∙◌, inl, inr, arith}
use Rattle.opfs_hist.specs.declared.entry.Entry.{Entry}
use Rattle.opfs_hist.specs.declared.op.Op.{Op}
use Rattle.opfs_hist.specs.declared.reply.Reply.{Reply}
use Rattle.opfs_turns.specs.Agents.{AgentSeen}
use Rattle.opfs_sync_files.specs.Entries.{IsIn, HasEntry, IsCaused, GoesOn}
use Rattle.opfs_turns.specs.declared.asking.stop.Stop.{Stop}
use Rattle.opfs_turns.specs.declared.asking.stop.Stop.TheVariants as stop

pub in-left : (e : Entry) (xs ys : List Entry) → IsIn e xs → IsIn e (xs ++ ys)
in-left e [] ys h = absurd h
in-left e (x ∷ xs) ys (inl is) = inl is
in-left e (x ∷ xs) ys (inr more) = inr (in-left e xs ys more)

pub in-right : (e : Entry) (xs ys : List Entry) → IsIn e ys → IsIn e (xs ++ ys)
in-right e [] ys h = h
in-right e (x ∷ xs) ys h = inr (in-right e xs ys h)

or-first : (A B C : Type 0) → A ⊎ B → (C ⊎ A) ⊎ B
or-first A B C (inl a) = inl (inr a)
or-first A B C (inr b) = inr b

pub in-either : (e : Entry) (xs ys : List Entry) → IsIn e (xs ++ ys) → IsIn e xs ⊎ IsIn e ys
in-either e [] ys h = inr h
in-either e (x ∷ xs) ys (inl is) = inl (inl is)
in-either e (x ∷ xs) ys (inr more) = or-first (IsIn e xs) (IsIn e ys) (x ≡ e) (in-either e xs ys more)

pub in-last : (e : Entry) (xs : List Entry) → IsIn e (xs ++ e ∷ [])
in-last e xs = in-right e xs (e ∷ []) (inl refl)

-- ---- one after another

pub goes-none : {O : Type 0} (a : AgentSeen O) → GoesOn a a 0
goes-none a = record { hall = refl; agent = refl; opening_is = refl; rows = refl; entries = omega arith; number = omega arith; knows = λ e h. h; newer = []; grown = sym (append-nil a.pass.base) }

pub goes-then : {O : Type 0} (a b c : AgentSeen O) (m n : ℕ) → GoesOn a b m → GoesOn b c n → GoesOn a c (m + n)
goes-then a b c m n x y = record {
  hall = y.hall ∙ x.hall;
  agent = y.agent ∙ x.agent;
  opening_is = y.opening_is ∙ x.opening_is;
  rows = y.rows ∙ x.rows;
  entries = omega (arith, x.entries, y.entries);
  number = omega (arith, x.number, y.number);
  knows = λ e h. y.knows e (x.knows e h);
  newer = x.newer ++ y.newer;
  grown = y.grown ∙ ap (λ (es : List Entry). es ++ y.newer) x.grown ∙ append_assoc a.pass.base x.newer y.newer;
}

pub goes-most : {O : Type 0} (a b : AgentSeen O) (m n : ℕ) → m ≤ n → GoesOn a b m → GoesOn a b n
goes-most a b m n few x = record { hall = x.hall; agent = x.agent; opening_is = x.opening_is; rows = x.rows; entries = omega (arith, x.entries, few); number = x.number; knows = x.knows; newer = x.newer; grown = x.grown }

-- An entry that a later call added, and one that an earlier call added.
pub entry-later : {O : Type 0} (a b c : AgentSeen O) (Asked : Op → Type 0) (m : ℕ) (r : Reply) → GoesOn a b m → HasEntry b c Asked r → HasEntry a c Asked r
entry-later a b c Asked m r x h = record { entry = h.entry; there = h.there; mine = h.mine ∙ x.agent; added = omega (arith, x.number, h.added); asked = h.asked; told = h.told }

pub entry-earlier : {O : Type 0} (a b c : AgentSeen O) (Asked : Op → Type 0) (n : ℕ) (r : Reply) → HasEntry a b Asked r → GoesOn b c n → HasEntry a c Asked r
entry-earlier a b c Asked n r h y = record { entry = h.entry; there = y.knows h.entry h.there; mine = h.mine; added = h.added; asked = h.asked; told = h.told }

-- An entry of a call is one of each of more calls.
pub entry-may : {O : Type 0} (a b : AgentSeen O) (Asked May : Op → Type 0) (r : Reply) → ((o : Op) → Asked o → May o) → HasEntry a b Asked r → HasEntry a b May r
entry-may a b Asked May r may h = record { entry = h.entry; there = h.there; mine = h.mine; added = h.added; asked = may h.entry.op h.asked; told = h.told }

pub caused-later : {O : Type 0} (a b c : AgentSeen O) (Asked : Op → Type 0) (m : ℕ) (why : Stop) → GoesOn a b m → IsCaused b c Asked why → IsCaused a c Asked why
caused-later a b c Asked m (stop.No r) x h = entry-later a b c Asked m _ x h
caused-later a b c Asked m stop.NoMemory x h = tt

pub caused-earlier : {O : Type 0} (a b c : AgentSeen O) (Asked : Op → Type 0) (n : ℕ) (why : Stop) → IsCaused a b Asked why → GoesOn b c n → IsCaused a c Asked why
caused-earlier a b c Asked n (stop.No r) h y = entry-earlier a b c Asked n _ h y
caused-earlier a b c Asked n stop.NoMemory h y = tt

pub caused-may : {O : Type 0} (a b : AgentSeen O) (Asked May : Op → Type 0) (why : Stop) → ((o : Op) → Asked o → May o) → IsCaused a b Asked why → IsCaused a b May why
caused-may a b Asked May (stop.No r) may h = entry-may a b Asked May _ may h
caused-may a b Asked May stop.NoMemory may h = tt
