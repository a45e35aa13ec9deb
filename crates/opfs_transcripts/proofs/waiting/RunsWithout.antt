-- The run of a script without its waits.
use Rattle.std.proofs.Common.{◌≡◌, ℕ, ◌+◌, ◌==◌, not, Bool, true, false, cond, List, [], ◌∷◌, ◌++◌, refl, sym, ap, subst, ◌∙◌}
use Rattle.opfs_base.specs.Texts.{Text}
use Rattle.opfs_hist.specs.declared.entry.Entry.{Entry}
use Rattle.opfs_hist.specs.declared.op.Op.{Op}
use Rattle.opfs_machine.specs.Histories.{asks_stuck}
use Rattle.opfs_print.specs.Lines.{line_by, line_of, text_of}
use Rattle.opfs_script_run.specs.declared.runs.hand.Hand.{Hand}
use Rattle.opfs_script_run.specs.declared.runs.hand.Open.{Open}
use Rattle.opfs_script_run.specs.declared.runs.hand.Open.TheVariants as opened
use Rattle.opfs_script_run.specs.Runs.Running.{ending, entries_of, hand_then, is_wait, op_of, IsEnd, IsRunFrom, IsStep, IsWait}
use Rattle.opfs_script.specs.declared.step.Step.{Step}
use Rattle.opfs_script.specs.declared.step.Step.TheVariants as step
use Rattle.opfs_transcripts.proofs.told.CallKinds.{Kind, kind_of, a_wait, an_eviction, an_await, a_call}
use Rattle.opfs_transcripts.specs.Waiting.Waiting.{without_waits}

abbrev pub left_by : Bool → Entry → List Entry → List Entry
left_by b e es = cond (not b) (e ∷ es) es

pub without-wait : (e : Entry) (es : List Entry) → is_wait e.op ≡ true → without_waits (e ∷ es) ≡ without_waits es
without-wait e es is = ap (λ b. left_by b e (without_waits es)) is

pub without-call : (e : Entry) (es : List Entry) → is_wait e.op ≡ false → without_waits (e ∷ es) ≡ e ∷ without_waits es
without-call e es is = ap (λ b. left_by b e (without_waits es)) is

ending-moves : (o : Open) → is_wait (ending o) ≡ false
ending-moves (opened.Stream n) = refl
ending-moves (opened.Handle n) = refl

end-plain : (n : ℕ) (rows : List Open) (es : List Entry) → IsEnd n rows es → without_waits es ≡ es
end-plain n rows [] h = refl
end-plain n [] (e ∷ es) h =
    without-call e es (ap is_wait h.1) ∙ ap (λ xs. e ∷ xs) (ap without_waits h.2 ∙ sym h.2)
end-plain n (o ∷ rows) (e ∷ es) h =
    without-call e es (ap is_wait h.1 ∙ ending-moves o) ∙ ap (λ xs. e ∷ xs) (end-plain (n + 1) rows es h.2)

abbrev StepBy : Hand → ℕ → Bool → Step → List Step → Entry → List Entry → Bool → Type 0
StepBy h n waited s steps e es waits = elim waits [
  | true ↦ (waited ≡ false) × IsWait h n s e × IsRunFrom h n true (s ∷ steps) es
  | false ↦ IsStep h n s e × IsRunFrom (hand_then h s e.op e.reply) (n + 1) false steps es
]

pub run-without : (h : Hand) (n : ℕ) (waited : Bool) (steps : List Step) (es : List Entry) → IsRunFrom h n waited steps es → IsRunFrom h n false steps (without_waits es)
run-without h n waited steps [] run = absurd run
run-without h n waited [] (e ∷ es) run = subst (IsRunFrom h n false []) (sym (end-plain n h.opened (e ∷ es) run)) run
run-without h n waited (s ∷ steps) (e ∷ es) run =
    elim (is_wait e.op) as (λ b. is_wait e.op ≡ b → StepBy h n waited s steps e es b → IsRunFrom h n false (s ∷ steps) (without_waits (e ∷ es))) [
      | true ↦ λ is step. subst (IsRunFrom h n false (s ∷ steps)) (sym (without-wait e es is)) (run-without h n true (s ∷ steps) es step.2)
      | false ↦ λ is step.
          subst (IsRunFrom h n false (s ∷ steps)) (sym (without-call e es is))
          (subst (StepBy h n false s steps e (without_waits es)) (sym is) (step.0, run-without (hand_then h s e.op e.reply) (n + 1) false steps es step.1))
    ] refl run

-- An agent that has begun to wait asks its await next, and begins no other wait.
abbrev pub WaitsWell : Bool → List Entry → Type 0
WaitsWell waited [] = Unit {0}
WaitsWell waited (e ∷ es) = elim (is_wait e.op) [
  | true ↦ (waited ≡ false) × WaitsWell true es
  | false ↦ (waited ≡ true → asks_stuck e.op ≡ true) × WaitsWell false es
]

abbrev WellBy : Bool → Entry → List Entry → Bool → Type 0
WellBy waited e es waits = elim waits [
  | true ↦ (waited ≡ false) × WaitsWell true es
  | false ↦ (waited ≡ true → asks_stuck e.op ≡ true) × WaitsWell false es
]

false-true : {A : Type 0} → false ≡ true → A
false-true e = absurd (no e)
  where
    no : false ≡ true → ⊥
    no e = cc

end-well : (n : ℕ) (rows : List Open) (es : List Entry) → IsEnd n rows es → WaitsWell false es
end-well n rows [] h = tt
end-well n [] (e ∷ es) h = subst (WellBy false e es) (sym (ap is_wait h.1)) (false-true, subst (WaitsWell false) (sym h.2) tt)
end-well n (o ∷ rows) (e ∷ es) h = subst (WellBy false e es) (sym (ap is_wait h.1 ∙ ending-moves o)) (false-true, end-well (n + 1) rows es h.2)

-- A step that an agent may wait for is an await.
abbrev pub IsForAwait : Bool → Step → Type 0
IsForAwait waited s = waited ≡ true → (tag : Text) × (s ≡ step.Await tag)

waits-for-await : (h : Hand) (n : ℕ) (s : Step) (e : Entry) → IsWait h n s e → (tag : Text) × (s ≡ step.Await tag)
waits-for-await h n (step.Await tag) e is = (tag, refl)
waits-for-await h n (step.GetDirectory bucket bind) e is = absurd is
waits-for-await h n (step.GetDirectoryHandle dir name create bind) e is = absurd is
waits-for-await h n (step.GetFileHandle dir name create bind) e is = absurd is
waits-for-await h n (step.RemoveEntry dir name recursive) e is = absurd is
waits-for-await h n (step.Values dir bind) e is = absurd is
waits-for-await h n (step.Next from bind) e is = absurd is
waits-for-await h n (step.Resolve dir entry) e is = absurd is
waits-for-await h n (step.IsSameEntry entry other) e is = absurd is
waits-for-await h n (step.GetFile file bind) e is = absurd is
waits-for-await h n (step.Slice snapshot at len) e is = absurd is
waits-for-await h n (step.CreateWritable file keep bind) e is = absurd is
waits-for-await h n (step.Write stream bytes position) e is = absurd is
waits-for-await h n (step.Seek stream position) e is = absurd is
waits-for-await h n (step.Truncate stream size) e is = absurd is
waits-for-await h n (step.Close stream) e is = absurd is
waits-for-await h n (step.Abort stream) e is = absurd is
waits-for-await h n (step.CreateSyncAccessHandle file read_only bind) e is = absurd is
waits-for-await h n (step.SyncRead sync len at) e is = absurd is
waits-for-await h n (step.SyncWrite sync bytes at) e is = absurd is
waits-for-await h n (step.SyncTruncate sync size) e is = absurd is
waits-for-await h n (step.SyncGetSize sync) e is = absurd is
waits-for-await h n (step.SyncFlush sync) e is = absurd is
waits-for-await h n (step.SyncClose sync) e is = absurd is
waits-for-await h n (step.Persist bucket) e is = absurd is
waits-for-await h n (step.Persisted bucket) e is = absurd is
waits-for-await h n step.Estimate e is = absurd is
waits-for-await h n (step.Moment ms) e is = absurd is
waits-for-await h n (step.Post tag) e is = absurd is

-- The step that comes next, if any, is one that an agent may wait for.
abbrev pub MayWait : Bool → List Step → Type 0
MayWait waited [] = Unit {0}
MayWait waited (s ∷ steps) = IsForAwait waited s

pub never : (steps : List Step) → MayWait false steps
never [] = tt
never (s ∷ steps) = false-true

asks-await : (h : Hand) (s : Step) (o : Op) → o ≡ op_of h s → (tag : Text) × (s ≡ step.Await tag) → asks_stuck o ≡ true
asks-await h s o is await = ap asks_stuck (is ∙ ap (op_of h) await.1)

pub run-well : (h : Hand) (n : ℕ) (waited : Bool) (steps : List Step) (es : List Entry) → (steps ≡ [] → waited ≡ false) → MayWait waited steps → IsRunFrom h n waited steps es → WaitsWell waited es
run-well h n waited steps [] none may run = tt
run-well h n waited [] (e ∷ es) none may run = subst (λ w. WaitsWell w (e ∷ es)) (sym (none refl)) (end-well n h.opened (e ∷ es) run)
run-well h n waited (s ∷ steps) (e ∷ es) none may run =
    elim (is_wait e.op) as (λ b. is_wait e.op ≡ b → StepBy h n waited s steps e es b → WellBy waited e es b) [
      | true ↦ λ is step. (step.0, run-well h n true (s ∷ steps) es some-step (λ so. waits-for-await h n s e step.1) step.2)
      | false ↦ λ is step. (
        (λ so. asks-await h s e.op step.0.1 (may so)),
        run-well (hand_then h s e.op e.reply) (n + 1) false steps es (λ none. refl) (never steps) step.1,
      )
    ] refl run
  where
    some-step : s ∷ steps ≡ [] → true ≡ false
    some-step h = absurd (no h)
      where
        no : s ∷ steps ≡ [] → ⊥
        no h = cc

-- Taking an agent's entries and leaving out waits commute.
cond-swap : (a b : Bool) (e : Entry) (xs : List Entry) (k : ℕ) → (e.agent == k) ≡ a → is_wait e.op ≡ b → without_waits (entries_of k xs) ≡ entries_of k (without_waits xs)
    → without_waits (cond a (e ∷ entries_of k xs) (entries_of k xs)) ≡ entries_of k (left_by b e (without_waits xs))
cond-swap true true e xs k own is same = without-wait e (entries_of k xs) is ∙ same
cond-swap true false e xs k own is same =
    without-call e (entries_of k xs) is ∙ ap (λ ys. e ∷ ys) same ∙ sym (ap (λ a. cond a (e ∷ entries_of k (without_waits xs)) (entries_of k (without_waits xs))) own)
cond-swap false true e xs k own is same = same
cond-swap false false e xs k own is same =
    same ∙ sym (ap (λ a. cond a (e ∷ entries_of k (without_waits xs)) (entries_of k (without_waits xs))) own)

pub entries-without : (k : ℕ) (es : List Entry) → without_waits (entries_of k es) ≡ entries_of k (without_waits es)
entries-without k [] = refl
entries-without k (e ∷ es) = cond-swap (e.agent == k) (is_wait e.op) e es k refl refl (entries-without k es)

-- A wait has no line.
no-line : (o : Op) → Kind o → is_wait o ≡ true → (e : Entry) → line_by o e ≡ []
no-line _ (a_wait tag) is e = refl
no-line _ (an_eviction unit) is e = false-true is
no-line _ (an_await tag) is e = false-true is
no-line o (a_call t) is e = false-true (sym t.moves ∙ is)

pub text-without : (es : List Entry) → text_of (without_waits es) ≡ text_of es
text-without [] = refl
text-without (e ∷ es) =
    elim (is_wait e.op) as (λ b. is_wait e.op ≡ b → text_of (left_by b e (without_waits es)) ≡ text_of (e ∷ es)) [
      | true ↦ λ is. text-without es ∙ sym (ap (λ l. l ++ text_of es) (no-line e.op (kind_of e.op) is e))
      | false ↦ λ is. ap (λ t. line_of e ++ t) (text-without es)
    ] refl
