-- Entries that are told one by one are those of a front of a script's run.
use Rattle.std.proofs.Common.{◌≡◌, ℕ, zero, suc, ◌+◌, Bool, true, false, List, [], ◌∷◌, ◌++◌, length, refl, sym, ap, ◌∙◌, subst, arith, append_assoc}
use Rattle.std.proofs.lemmas.Bool.{false≢true}
use Rattle.opfs_hist.specs.declared.entry.Entry.{Entry}
use Rattle.opfs_hist.specs.declared.op.Op.{Op}
use Rattle.opfs_script.specs.declared.step.Step.{Step}
use Rattle.opfs_script.specs.declared.step.Step.TheVariants as step
use Rattle.opfs_script.specs.Scripts.{Asked}
use Rattle.opfs_script_run.specs.declared.runs.hand.Hand.{Hand}
use Rattle.opfs_script_run.specs.declared.runs.hand.Open.{Open}
use Rattle.opfs_script_run.specs.declared.runs.hand.Open.TheVariants as opened
use Rattle.opfs_script_run.specs.Runs.Running.{IsCut, IsCutFrom, IsRun, IsRunFrom, IsEnd, IsStep, IsWait, empty_hand, ending, hand_then, is_wait}
use Rattle.opfs_script_run.specs.Runs.Cuts.{Cuts}
use Rattle.opfs_script_run.proofs.runs.Waits.{never_waits}

-- The cut from an entry on that begins to wait, or not, where no step more is run, or one at least.
abbrev CutBy : Hand → ℕ → Bool → ℕ → Step → List Step → Entry → List Entry → Bool → Type 0
CutBy h n waited left s steps e es true = (waited ≡ false) × IsWait h n s e × IsCutFrom h n true (suc left) (s ∷ steps) es
CutBy h n waited left s steps e es false = IsStep h n s e × IsCutFrom (hand_then h s e.op e.reply) (n + 1) false left steps es

abbrev EndBy : Hand → ℕ → Bool → Step → Entry → List Entry → Bool → Type 0
EndBy h n waited s e es true = (waited ≡ false) × IsWait h n s e × IsEnd n h.opened es
EndBy h n waited s e es false = IsEnd n h.opened (e ∷ es)

abbrev RunBy : Hand → ℕ → Bool → Step → List Step → Entry → List Entry → Bool → Type 0
RunBy h n waited s steps e es true = (waited ≡ false) × IsWait h n s e × IsRunFrom h n true (s ∷ steps) es
RunBy h n waited s steps e es false = IsStep h n s e × IsRunFrom (hand_then h s e.op e.reply) (n + 1) false steps es

-- The entry of a step, in front of the rest of a cut.
step_cut : (h : Hand) (n : ℕ) (waited : Bool) (left : ℕ) (s : Step) (steps : List Step) (e : Entry) (es : List Entry) → is_wait e.op ≡ false
    → IsStep h n s e → IsCutFrom (hand_then h s e.op e.reply) (n + 1) false left steps es → IsCutFrom h n waited (suc left) (s ∷ steps) (e ∷ es)
step_cut h n waited left s steps e es plain is rest =
    let cut : CutBy h n waited left s steps e es false = (is, rest) in
    subst (CutBy h n waited left s steps e es) (sym plain) cut

-- What begins to wait for a step.
waiting : (h : Hand) (n : ℕ) (s : Step) (e : Entry) → IsWait h n s e → is_wait e.op ≡ true
waiting h n (step.Await tag) e wait = ap is_wait wait.1
waiting h n (step.GetDirectory bucket bind) e wait = elim wait [ ]
waiting h n (step.GetDirectoryHandle dir name create bind) e wait = elim wait [ ]
waiting h n (step.GetFileHandle dir name create bind) e wait = elim wait [ ]
waiting h n (step.RemoveEntry dir name recursive) e wait = elim wait [ ]
waiting h n (step.Values dir bind) e wait = elim wait [ ]
waiting h n (step.Next from bind) e wait = elim wait [ ]
waiting h n (step.Resolve dir entry) e wait = elim wait [ ]
waiting h n (step.IsSameEntry entry other) e wait = elim wait [ ]
waiting h n (step.GetFile file bind) e wait = elim wait [ ]
waiting h n (step.Slice snapshot at len) e wait = elim wait [ ]
waiting h n (step.CreateWritable file keep bind) e wait = elim wait [ ]
waiting h n (step.Write stream bytes position) e wait = elim wait [ ]
waiting h n (step.Seek stream position) e wait = elim wait [ ]
waiting h n (step.Truncate stream size) e wait = elim wait [ ]
waiting h n (step.Close stream) e wait = elim wait [ ]
waiting h n (step.Abort stream) e wait = elim wait [ ]
waiting h n (step.CreateSyncAccessHandle file read_only bind) e wait = elim wait [ ]
waiting h n (step.SyncRead sync len at) e wait = elim wait [ ]
waiting h n (step.SyncWrite sync bytes at) e wait = elim wait [ ]
waiting h n (step.SyncTruncate sync size) e wait = elim wait [ ]
waiting h n (step.SyncGetSize sync) e wait = elim wait [ ]
waiting h n (step.SyncFlush sync) e wait = elim wait [ ]
waiting h n (step.SyncClose sync) e wait = elim wait [ ]
waiting h n (step.Persist bucket) e wait = elim wait [ ]
waiting h n (step.Persisted bucket) e wait = elim wait [ ]
waiting h n step.Estimate e wait = elim wait [ ]
waiting h n (step.Moment ms) e wait = elim wait [ ]
waiting h n (step.Post tag) e wait = elim wait [ ]

-- Where a wait stands already and no step more is run, the end is what is left.
end_by : (h : Hand) (n : ℕ) (s : Step) (e : Entry) (es : List Entry) (test : Bool) → EndBy h n true s e es test → IsEnd n h.opened (e ∷ es)
end_by h n s e es true cut = absurd (false≢true (sym cut.0))
end_by h n s e es false cut = cut

end_left : (h : Hand) (n : ℕ) (s : Step) (steps : List Step) (es : List Entry) → IsCutFrom h n true zero (s ∷ steps) es → IsEnd n h.opened es
end_left h n s steps [] cut = elim cut [ ]
end_left h n s steps (e ∷ es) cut = end_by h n s e es (is_wait e.op) cut

-- A wait, in front of the rest of a cut.
wait_cut : (h : Hand) (n left : ℕ) (s : Step) (steps : List Step) (e : Entry) (es : List Entry) → IsWait h n s e
    → IsCutFrom h n true left (s ∷ steps) es → IsCutFrom h n false left (s ∷ steps) (e ∷ es)
wait_cut h n zero s steps e es wait rest =
    let cut : EndBy h n false s e es true = (refl, wait, end_left h n s steps es rest) in
    subst (EndBy h n false s e es) (sym (waiting h n s e wait)) cut
wait_cut h n (suc left) s steps e es wait rest =
    let cut : CutBy h n false left s steps e es true = (refl, wait, rest) in
    subst (CutBy h n false left s steps e es) (sym (waiting h n s e wait)) cut

-- No entry of an end begins to wait.
ending_waits : (row : Open) → is_wait (ending row) ≡ false
ending_waits (opened.Stream n) = refl
ending_waits (opened.Handle n) = refl

end_waits : (n : ℕ) (rows : List Open) (e : Entry) (es : List Entry) → IsEnd n rows (e ∷ es) → is_wait e.op ≡ false
end_waits n [] e es end = ap is_wait end.1
end_waits n (row ∷ rows) e es end = ap is_wait end.1 ∙ ending_waits row

no_end : (n : ℕ) (rows : List Open) → IsEnd n rows [] → ⊥
no_end n [] end = end
no_end n (row ∷ rows) end = end

-- The end stands where any step may.
end_cut : (h : Hand) (n : ℕ) (waited : Bool) (steps : List Step) (es : List Entry) → IsEnd n h.opened es → IsCutFrom h n waited zero steps es
end_cut h n waited steps [] end = absurd (no_end n h.opened end)
end_cut h n waited [] (e ∷ es) end = end
end_cut h n waited (s ∷ steps) (e ∷ es) end =
    subst (EndBy h n waited s e es) (sym (end_waits n h.opened e es end)) end

-- Before the first step.
pub cuts_begin : (asked : Asked) → Cuts asked [] (empty_hand asked.key) 1 false 0 asked.steps
cuts_begin asked left rest cut =
    let count : left ≡ 0 + left = omega arith in
    subst (λ t. IsCutFrom (empty_hand asked.key) 1 false t asked.steps rest) count cut

-- A step's entry more.
pub cuts_more : (asked : Asked) (so_far now : List Entry) (h new : Hand) (n : ℕ) (waited : Bool) (done : ℕ) (s : Step) (steps : List Step) (e : Entry)
    → Cuts asked so_far h n waited done (s ∷ steps) → IsStep h n s e → now ≡ so_far ++ e ∷ []
    → new ≡ hand_then h s e.op e.reply → Cuts asked now new (n + 1) false (done + 1) steps
cuts_more asked so_far now h new n waited done s steps e cuts is grown hand left rest cut =
    let plain : is_wait e.op ≡ false = ap is_wait is.1 ∙ never_waits h s in
    let from : IsCutFrom (hand_then h s e.op e.reply) (n + 1) false left steps rest = subst (λ t. IsCutFrom t (n + 1) false left steps rest) hand cut in
    let whole : IsCutFrom (empty_hand asked.key) 1 false (done + suc left) asked.steps (so_far ++ e ∷ rest) =
    cuts (suc left) (e ∷ rest) (step_cut h n waited left s steps e rest plain is from) in
    let count : done + suc left ≡ (done + 1) + left = omega arith in
    let list : so_far ++ e ∷ rest ≡ now ++ rest = sym (append_assoc so_far (e ∷ []) rest) ∙ ap (λ t. t ++ rest) (sym grown) in
    subst (IsCutFrom (empty_hand asked.key) 1 false ((done + 1) + left) asked.steps) list
    (subst (λ t. IsCutFrom (empty_hand asked.key) 1 false t asked.steps (so_far ++ e ∷ rest)) count whole)

-- A wait more, before a step's entry.
pub cuts_wait : (asked : Asked) (so_far now : List Entry) (h : Hand) (n done : ℕ) (s : Step) (steps : List Step) (e : Entry)
    → Cuts asked so_far h n false done (s ∷ steps) → IsWait h n s e → now ≡ so_far ++ e ∷ []
    → Cuts asked now h n true done (s ∷ steps)
cuts_wait asked so_far now h n done s steps e cuts wait grown left rest cut =
    let whole : IsCutFrom (empty_hand asked.key) 1 false (done + left) asked.steps (so_far ++ e ∷ rest) =
    cuts left (e ∷ rest) (wait_cut h n left s steps e rest wait cut) in
    let list : so_far ++ e ∷ rest ≡ now ++ rest = sym (append_assoc so_far (e ∷ []) rest) ∙ ap (λ t. t ++ rest) (sym grown) in
    subst (IsCutFrom (empty_hand asked.key) 1 false (done + left) asked.steps) list whole

-- The end here makes a cut.
pub cuts_end : (asked : Asked) (so_far rest : List Entry) (h : Hand) (n : ℕ) (waited : Bool) (done : ℕ) (steps : List Step)
    → Cuts asked so_far h n waited done steps → IsEnd n h.opened rest → IsCut asked (so_far ++ rest)
cuts_end asked so_far rest h n waited done steps cuts end = (done + zero, cuts zero rest (end_cut h n waited steps rest end))

-- A cut of all steps is a run.
cut_by : (h : Hand) (n : ℕ) (waited : Bool) (s : Step) (steps : List Step) (e : Entry) (es : List Entry)
    → (IsCutFrom h n true (length (s ∷ steps)) (s ∷ steps) es → IsRunFrom h n true (s ∷ steps) es)
    → (IsCutFrom (hand_then h s e.op e.reply) (n + 1) false (length steps) steps es → IsRunFrom (hand_then h s e.op e.reply) (n + 1) false steps es)
    → (test : Bool) → CutBy h n waited (length steps) s steps e es test → RunBy h n waited s steps e es test
cut_by h n waited s steps e es waits goes true cut = (cut.0, cut.1, waits cut.2)
cut_by h n waited s steps e es waits goes false cut = (cut.0, goes cut.1)

pub cut_run : (h : Hand) (n : ℕ) (waited : Bool) (steps : List Step) (es : List Entry)
    → IsCutFrom h n waited (length steps) steps es → IsRunFrom h n waited steps es
cut_run h n waited [] [] cut = cut
cut_run h n waited (s ∷ steps) [] cut = cut
cut_run h n waited [] (e ∷ es) cut = cut
cut_run h n waited (s ∷ steps) (e ∷ es) cut =
    cut_by h n waited s steps e es (cut_run h n true (s ∷ steps) es) (cut_run (hand_then h s e.op e.reply) (n + 1) false steps es) (is_wait e.op) cut

run_by : (h : Hand) (n : ℕ) (waited : Bool) (s : Step) (steps : List Step) (e : Entry) (es : List Entry)
    → (IsRunFrom h n true (s ∷ steps) es → IsCutFrom h n true (length (s ∷ steps)) (s ∷ steps) es)
    → (IsRunFrom (hand_then h s e.op e.reply) (n + 1) false steps es → IsCutFrom (hand_then h s e.op e.reply) (n + 1) false (length steps) steps es)
    → (test : Bool) → RunBy h n waited s steps e es test → CutBy h n waited (length steps) s steps e es test
run_by h n waited s steps e es waits goes true run = (run.0, run.1, waits run.2)
run_by h n waited s steps e es waits goes false run = (run.0, goes run.1)

-- A run is a cut of all steps.
pub run_cut : (h : Hand) (n : ℕ) (waited : Bool) (steps : List Step) (es : List Entry)
    → IsRunFrom h n waited steps es → IsCutFrom h n waited (length steps) steps es
run_cut h n waited [] [] run = run
run_cut h n waited (s ∷ steps) [] run = run
run_cut h n waited [] (e ∷ es) run = run
run_cut h n waited (s ∷ steps) (e ∷ es) run =
    run_by h n waited s steps e es (run_cut h n true (s ∷ steps) es) (run_cut (hand_then h s e.op e.reply) (n + 1) false steps es) (is_wait e.op) run

-- The end behind all steps makes a run.
pub cuts_run : (asked : Asked) (so_far rest : List Entry) (h : Hand) (n : ℕ) (waited : Bool)
    → Cuts asked so_far h n waited (length asked.steps) [] → IsEnd n h.opened rest → IsRun asked (so_far ++ rest)
cuts_run asked so_far rest h n waited cuts end =
    let whole : IsCutFrom (empty_hand asked.key) 1 false (length asked.steps + zero) asked.steps (so_far ++ rest) =
    cuts zero rest (end_cut h n waited [] rest end) in
    let count : length asked.steps + zero ≡ length asked.steps = omega arith in
    cut_run (empty_hand asked.key) 1 false asked.steps (so_far ++ rest)
    (subst (λ t. IsCutFrom (empty_hand asked.key) 1 false t asked.steps (so_far ++ rest)) count whole)
