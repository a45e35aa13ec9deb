-- An own row behind a turn: entries of others, the agent's own calls, evictions and an entry that does not use the row.
use Rattle.std.proofs.Common.{◌≡◌, ◌≢◌, ℕ, All, List, [], ◌∷◌, ◌++◌, append_assoc, map, Some, sym, ap, ◌∙◌, subst}
use Rattle.std.proofs.lemmas.List.Elements.{All-append, All-cons, All-map, All-nil}
use Rattle.opfs_base.specs.Texts.{Text}
use Rattle.opfs_hist.specs.declared.entry.Entry.{Entry}
use Rattle.opfs_machine.specs.declared.own.Own.{Own}
use Rattle.opfs_machine.specs.Agents.{agent_of, own_of}
use Rattle.opfs_machine.specs.Histories.{state_after}
use Rattle.opfs_machine.specs.Openings.{Opening}
use Rattle.opfs_machine.specs.Runs.{eviction}
use Rattle.opfs_laws.specs.Leaving.{row_used}
use Rattle.opfs_laws.specs.Histories.Opened.{added}
use Rattle.opfs_laws.specs.Histories.Unread.{IsTold, ArePendingFor}
use Rattle.opfs_store.specs.Copies.Copies.{StandsFor}
use Rattle.opfs_turns.proofs.Standing.{known-same, stands-there}
use Rattle.opfs_turns.specs.OtherRows.Staying.{IsBesideRow, GoesBeside}
use Rattle.opfs_turns.proofs.other_rows.Entries.{row-goes, copy-goes}
use Rattle.opfs_work.specs.Works.{WorkingCopy}

evictions-beside : (k n : ℕ) → k ≢ 0 → (gone : List Text) → All (IsBesideRow k n) (map eviction gone)
evictions-beside k n real gone = All-map (IsBesideRow k n) eviction gone (all gone)
  where
    all : (gone : List Text) → All (λ unit. IsBesideRow k n (eviction unit)) gone
    all [] = All-nil (λ unit. IsBesideRow k n (eviction unit))
    all (unit ∷ gone) = All-cons (λ u. IsBesideRow k n (eviction u)) unit gone (λ is. absurd (real (sym is))) (all gone)

module _ (tells : Type 0) (o : Opening) (base others pend : List Entry) (k : ℕ) (real : k ≢ 0) (front : IsTold tells o (base ++ others)) (apart : All (λ e. e.agent ≢ k) others)
    (local : ArePendingFor tells (state_after o base) k pend) (gone : List Text) (e : Entry) (rest : List Entry)
    (told : IsTold tells o (((base ++ others) ++ added pend gone e) ++ rest)) (n : ℕ) (other : n ≢ row_used e.op) where
  abbrev turn : List Entry
  turn = (base ++ others) ++ pend

  abbrev group : List Entry
  group = map eviction gone ++ e ∷ []

  whole : turn ++ group ≡ (base ++ others) ++ added pend gone e
  whole = append_assoc (base ++ others) pend group

  goes : GoesBeside tells o turn group k n
  goes = record {
    real = real;
    rest = rest;
    told = subst (λ xs. IsTold tells o (xs ++ rest)) (sym whole) told;
    beside =
        All-append (IsBesideRow k n) (map eviction gone) (e ∷ []) (evictions-beside k n real gone)
        (All-cons (IsBesideRow k n) e [] (λ mine used. other (sym used)) (All-nil (IsBesideRow k n)));
  }

  pub turned-row : (r : Own) → own_of (agent_of (state_after o (base ++ pend)) k) n ≡ Some r
      → own_of (agent_of (state_after o ((base ++ others) ++ added pend gone e)) k) n ≡ Some r
  turned-row r there =
      ap (λ xs. own_of (agent_of (state_after o xs) k) n) (sym whole)
      ∙ row-goes tells o turn group k n goes r (ap (λ x. own_of x.0 n) (known-same tells o base others k front apart pend local) ∙ there)

  pub turned-copy : (work : WorkingCopy) → StandsFor tells o (base ++ pend) k n work → StandsFor tells o ((base ++ others) ++ added pend gone e) k n work
  turned-copy work stands =
      subst (λ xs. StandsFor tells o xs k n work) whole
      (copy-goes tells o turn group k n goes work (stands-there tells o base others k front apart pend local n work stands))
