-- A call by its clause has its entry, the last, or has none.
use Rattle.std.proofs.Common.{◌≡◌, ℕ, ◌+◌, ◌≤◌, Bool, true, false, List, Option, Some, None, IfSome, Result, Ok, Err, refl, sym, ap, ◌∙◌, subst, inl, inr, arith}
use Rattle.opfs_base.specs.Texts.{Text}
use Rattle.opfs_hist.specs.declared.op.Op.{Op}
use Rattle.opfs_hist.specs.declared.op.Op.TheVariants as op
use Rattle.opfs_hist.specs.declared.reply.Reply.{Reply}
use Rattle.opfs_hist.specs.declared.reply.Reply.TheVariants as reply
use Rattle.opfs_store.specs.Acts.Acting.{told_entry}
use Rattle.opfs_turns.specs.Agents.{AgentSeen, IsAgent}
use Rattle.opfs_turns.specs.Calls.{call_of, HasLooked, kept_entry}
use Rattle.opfs_turns.specs.Waiting.{HasWaited, HasAwaited}
use Rattle.opfs_turns.specs.declared.asking.stop.Stop.{Stop}
use Rattle.opfs_turns.specs.declared.asking.stop.Stop.TheVariants as stop
use Rattle.opfs_script_run.specs.declared.runs.hand.Hand.{Hand}
use Rattle.opfs_script_run.specs.Runs.Running.{op_of, hand_then}
use Rattle.opfs_script.specs.declared.step.Step.{Step}
use Rattle.opfs_script.specs.Limits.{keeps_bounds}
use Rattle.opfs_runner.specs.RunLaws.Agreeing.{Agrees}
use Rattle.opfs_runner.specs.RunLaws.Kinds as rows
use Rattle.opfs_runner.specs.RunLaws.Kinds.{RowKind, sort_at, kinds_after}
use Rattle.opfs_runner.specs.RunLaws.Leaving.{snapshot_bound, row_left}
use Rattle.opfs_runner.proofs.run_laws.Stepped.{leaves}
use Rattle.opfs_runner.specs.AgentRows.Called.{Calls, IsCalled, IsStill}
use Rattle.opfs_runner.specs.AgentRows.Tables.{kinds_of, kinds_told, HasTable}
use Rattle.opfs_runner.specs.declared.agent_rows.agent_row.AgentRow.{AgentRow}
use Rattle.opfs_runner.specs.Stepping.{own_entries, IsWaitedFor, GoesOn, IsDone, IsNotDone, IsNoted, IsTaken, IsTried}
use Rattle.opfs_runner.proofs.Counting.{entered-own, made-own, looked-own, turned-own, begun-wait}

module _ {O : Type 0} (tells : Type 0) (a b : AgentSeen O) (kept : IsAgent tells a) (o : Op) where
  pub looked-goes : (c : AgentSeen O) → HasLooked a c → GoesOn a c
  looked-goes c h = record {
    same = ap (λ (x : AgentSeen O). x.pass) h.rest;
    key = ap (λ (x : AgentSeen O). x.key) h.rest;
    few = let count = ap (λ (x : AgentSeen O). x.entries) h.rest in omega (arith, count);
  }

  -- ---- awaits

  pub waited-goes : (c : AgentSeen O) (tag : Text) → HasWaited tells a c tag → (c.pass ≡ record a.pass { base = c.pass.base }) × (c.key ≡ a.key) × (c.number ≡ a.number) × (c.entries ≤ a.entries + 1)
  waited-goes c tag (inl h) = (
    ap (λ (x : AgentSeen O). x.pass) h.rest,
    ap (λ (x : AgentSeen O). x.key) h.rest,
    ap (λ (x : AgentSeen O). x.number) h.rest,
    (let count = ap (λ (x : AgentSeen O). x.entries) h.rest in omega (arith, count)),
  )
  waited-goes c tag (inr h) = (
    ap (λ (x : AgentSeen O). x.pass) h.since.rest ∙ (λ i. record ((ap (λ (x : AgentSeen O). x.pass) h.wait.rest ∙ (λ j. record (h.looked.rest j).pass { base = h.then_on.pass.base })) i) { base = c.pass.base }),
    ap (λ (x : AgentSeen O). x.key) h.since.rest ∙ ap (λ (x : AgentSeen O). x.key) h.wait.rest ∙ ap (λ (x : AgentSeen O). x.key) h.looked.rest,
    ap (λ (x : AgentSeen O). x.number) h.since.rest ∙ ap (λ (x : AgentSeen O). x.number) h.wait.rest ∙ ap (λ (x : AgentSeen O). x.number) h.looked.rest,
    (let one = ap (λ (x : AgentSeen O). x.entries) h.since.rest in
        let two = ap (λ (x : AgentSeen O). x.entries) h.wait.rest in
        let three = ap (λ (x : AgentSeen O). x.entries) h.looked.rest in
        omega (arith, one, two, three)),
  )

  pub waited-for : (c : AgentSeen O) (tag : Text) → o ≡ op.Await tag → HasWaited tells a c tag → IsWaitedFor a.number o (own_entries a) (own_entries c)
  waited-for c tag is (inl h) = inl (looked-own a c h)
  waited-for c tag is (inr h) = inr (begun-wait tells a c kept o tag is h)

  pub awaited-done : (answered : Reply) (tag : Text) → o ≡ op.Await tag → HasAwaited tells a b tag answered → IsDone a b o answered
  awaited-done answered tag is h =
      let mid = waited-goes h.mid tag h.waited in
      let rest = h.awaited.rest in
      let agent : h.mid.pass.agent ≡ a.pass.agent = ap (λ p. p.agent) mid.0 in
      record {
        goes = record {
          same = ap (λ (x : AgentSeen O). x.pass) rest ∙ (λ i. record (mid.0 i) { base = b.pass.base });
          key = ap (λ (x : AgentSeen O). x.key) rest ∙ mid.1;
          few = let count = ap (λ (x : AgentSeen O). x.entries) rest in omega (arith, count, mid.3);
        };
        before = own_entries h.mid;
        waited = waited-for h.mid tag is h.waited;
        entry = told_entry (call_of h.mid (op.Await tag)) answered;
        asked = sym is;
        told = refl;
        numbered = mid.2;
        grown = turned-own tells h.mid b (op.Await tag) answered (λ zero_is. kept.real (sym agent ∙ zero_is)) h.awaited.turned (ap (λ (x : AgentSeen O). x.pass.agent) rest) (ap (λ (x : AgentSeen O). x.pending) rest);
        next = ap (λ (x : AgentSeen O). x.number) rest ∙ ap (λ n. n + 1) mid.2;
      }

  -- ---- all calls

  called-done : (answered : Reply) → IsCalled tells a b o answered → IsDone a b o answered
  called-done answered (inl h) = record {
    goes = record {
      same = ap (λ (x : AgentSeen O). x.pass) h.1.rest;
      key = ap (λ (x : AgentSeen O). x.key) h.1.rest;
      few = let count = ap (λ (x : AgentSeen O). x.entries) h.1.rest in omega (arith, count);
    };
    before = own_entries a;
    waited = inl refl;
    entry = told_entry (call_of a o) answered;
    asked = refl;
    told = refl;
    numbered = refl;
    grown = entered-own tells a b kept o answered h.0 h.1;
    next = ap (λ (x : AgentSeen O). x.number) h.1.rest;
  }
  called-done answered (inr (inl h)) = record {
    goes = record {
      same = ap (λ (x : AgentSeen O). x.pass) h.1.kept ∙ (λ i. record a.pass { base = (sym h.1.kept i).pass.base });
      key = ap (λ (x : AgentSeen O). x.key) h.1.kept;
      few = let count = ap (λ (x : AgentSeen O). x.entries) h.1.kept in omega (arith, count);
    };
    before = own_entries a;
    waited = inl refl;
    entry = kept_entry a o answered;
    asked = refl;
    told = refl;
    numbered = refl;
    grown = made-own tells a b o answered h.0 h.1;
    next = ap (λ (x : AgentSeen O). x.number) h.1.kept;
  }
  called-done answered (inr (inr h)) = awaited-done answered h.0 h.1 h.2

  still-not : IsStill tells a b o → IsNotDone a b o
  still-not (inl h) = record { goes = looked-goes b h; waited = inl (looked-own a b h); next = ap (λ (x : AgentSeen O). x.number) h.rest }
  still-not (inr (inl same)) = record {
    goes = record {
      same = ap (λ (x : AgentSeen O). x.pass) same ∙ (λ i. record a.pass { base = (sym same i).pass.base });
      key = ap (λ (x : AgentSeen O). x.key) same;
      few = let count = ap (λ (x : AgentSeen O). x.entries) same in omega (arith, count);
    };
    waited = inl (ap (λ (x : AgentSeen O). own_entries x) same);
    next = ap (λ (x : AgentSeen O). x.number) same;
  }
  still-not (inr (inr h)) =
      let mid = waited-goes b h.0 h.2 in
      record { goes = record { same = mid.0; key = mid.1; few = omega (arith, mid.3) }; waited = waited-for b h.0 h.1 h.2; next = mid.2 }

some-same : {X : Type 0} {x y : X} → Some x ≡ Some y → x ≡ y
some-same e = cc

module _ {O : Type 0} (tells : Type 0) (a b : AgentSeen O) (kept : IsAgent tells a) (old new : List AgentRow) (h then_h : Hand) (s : Step) (o : Op) (asked : o ≡ op_of h s)
    (table : HasTable tells b new) where
  noted : (r : Reply) → IsCalled tells a b o r → kinds_of new ≡ kinds_after (kinds_of old) o r → IsNoted tells a b old new h s
  noted r called kinds = record {
    answered = r;
    done = subst (λ x. IsDone a b x r) asked (called-done tells a b kept o r called);
    table = table;
    kinds = kinds ∙ ap (λ x. kinds_after (kinds_of old) x r) asked;
  }

  taken : (r x : Reply) → r ≡ x → then_h ≡ hand_then h s o x → then_h ≡ hand_then h s (op_of h s) r
  taken r x same is = is ∙ (λ i. hand_then h s (asked i) (sym same i))

  -- A step, by what its call answered and whether the hand has taken note.
  pub stepped : (answer : Result Reply Stop) (flag : Bool) → Calls tells a b o answer → kinds_of new ≡ kinds_told (kinds_of old) o answer → (flag ≡ true → IsTaken h then_h s o answer)
      → IsTried tells a b old new h then_h s flag
  unfolding noted
  stepped (Ok r) true called kinds take = let t = take refl in (noted r called kinds, taken r t.answered (some-same t.told) t.noted)
  stepped (Ok r) false called kinds take = inl (noted r called kinds)
  stepped (Err (stop.No r)) true called kinds take = let t = take refl in (noted (reply.No r) called kinds, taken (reply.No r) t.answered (some-same t.told) t.noted)
  stepped (Err (stop.No r)) false called kinds take = inl (noted (reply.No r) called kinds)
  stepped (Err stop.NoMemory) true called kinds take = absurd (none-some (take refl).told)
    where
      none-some : {x : Reply} → None ≡ Some x → ⊥
      none-some e = cc
  stepped (Err stop.NoMemory) false called kinds take = inr (record { done = subst (IsNotDone a b) asked (still-not tells a b kept o called); table = table; kinds = kinds })

-- Nothing was asked.
pub not-asked : {O : Type 0} (tells : Type 0) (a : AgentSeen O) (agent_rows : List AgentRow) (h : Hand) (s : Step) → HasTable tells a agent_rows → IsTried tells a a agent_rows agent_rows h h s false
not-asked tells a agent_rows h s table = inr (record {
  done = record { goes = record { same = refl; key = refl; few = omega arith }; waited = inl refl; next = refl };
  table = table;
  kinds = refl;
})

-- ---- the whole step

left-fits : (kinds : List RowKind) (x : Option ℕ) → ((n : ℕ) → x ≡ Some n → sort_at kinds n ≡ Some rows.snapshot) → IfSome x (λ n. sort_at kinds n ≡ Some rows.snapshot)
left-fits kinds None each = tt
left-fits kinds (Some n) each = each n refl

module _ {O : Type 0} (tells : Type 0) (a b : AgentSeen O) (old mid : List AgentRow) (h then_h : Hand) (s : Step) (tried : IsTried tells a b old mid h then_h s true) where
  -- What is left is a snapshot's row.
  pub left-there : Agrees h (kinds_of old) → keeps_bounds s ≡ true → (before now row : Option ℕ) → before ≡ snapshot_bound h s → row ≡ row_left before now
      → IfSome row (λ n. sort_at (kinds_of mid) n ≡ Some rows.snapshot)
  left-there agrees bounds before now row was is =
      left-fits (kinds_of mid) row (λ n some.
      ap (λ ks. sort_at ks n) tried.0.kinds
      ∙ leaves h (kinds_of old) agrees s tried.0.answered bounds now n (ap (λ x. row_left x now) (sym was) ∙ sym is ∙ some))
