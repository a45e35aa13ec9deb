-- A text that is read, and an image that is made from it.
use Rattle.std.proofs.Common.{◌≡◌, ◌⊎◌, ℕ, ◌-◌, ◌^◌, ◌<◌, ◌≤◌, Bool, true, false, List, length, inl, inr, refl, sym, ap, subst, ◌∙◌, arith}
use Rattle.std.specs.Prelude.{nat_lt, Option, Some, Result, Ok, Err, IfOk, IfErr, IsErrOf, IsOk, OnOk, if◌then◌else◌}
use Rattle.std.proofs.lemmas.Bool.{false≢true}
use Rattle.std.proofs.lemmas.List.{length-map, take_all}
use Rattle.std.proofs.lemmas.Result.{IfOk-weaker}
use Rattle.std.specs.Cmp.Lexicographic.{same_text as equal_texts, nat_list_eq_equiv}
use Rattle.std.specs.declared.alloc.AllocError.{AllocError}
use Rattle.opfs_base.specs.Texts.{Text, same_text}
use Rattle.opfs_dump.specs.Text.Reading.{Dump, Read, if_json, most_bytes, reads_dump}
use Rattle.opfs_dump.specs.Loading.Laid.{StandsAs}
use Rattle.opfs_dump.specs.Text.Seen.{row_of}
use Rattle.opfs_dump.specs.Text.Texts.{loaded_line, refused_line}
use Rattle.opfs_dump.specs.Text.Whole.{dump_of}
use Rattle.opfs_dump.specs.declared.text.dumped.Dumped.{Dumped}
use Rattle.opfs_dump.specs.declared.loading.stop.LayStop.{LayStop}
use Rattle.opfs_dump.specs.declared.loading.stop.LayStop.TheVariants as lay_stop
use Rattle.opfs_dump.specs.declared.text.refusal.DumpRefusal.TheVariants as refusal
use Rattle.opfs_outside.specs.Bytes.{window}
use Rattle.opfs_outside.specs.Windows.{window_is}
use Rattle.opfs_outside.specs.Faults.{Rose, RoseBy}
use Rattle.opfs_outside.specs.Turns.{HostTurn, AsBefore, HostFailed, ImageStays, of_host}
use Rattle.opfs_outside.specs.declared.host.Host.{Ghosts as HostWords}
use Rattle.opfs_print.specs.Status.{status_text}
use Rattle.opfs_print.specs.declared.end.End.TheVariants as end
use Rattle.opfs_script.specs.Reading.{json_of}
use Rattle.opfs_commands.proofs.Hosting.{rose_later}
use Rattle.opfs_commands.specs.Kinds.{FaultsLater, LeavesText}
use Rattle.opfs_commands.specs.Telling.{IsAnswer, IsDumpAt, IsLaid, IsNoDump}
use Rattle.opfs_commands.specs.declared.answers.ToolAnswer.{ToolAnswer}
use Rattle.opfs_commands.specs.declared.answers.ToolEnd.{ToolEnd}
use Rattle.opfs_commands.specs.declared.answers.ToolEnd.TheVariants as tool_end

refused_by : (b : Bool) (x : Read Dump) → b ≡ true → (if b then Err refusal.TooLong else x) ≡ Err refusal.TooLong
refused_by b x is = ap (λ (t : Bool). if t then Err refusal.TooLong else x) is

below : (m n : ℕ) → m < n → nat_lt m n ≡ true
below m n less = grind (arith, less)

-- more bytes than a text may have
pub too_long : (bytes : Text) → most_bytes < length bytes → reads_dump bytes ≡ Err refusal.TooLong
unfolding reads_dump
too_long bytes long = refused_by (nat_lt most_bytes (length bytes)) (if_json (json_of bytes)) (below most_bytes (length bytes) long)

-- all bytes of a disk
pub whole_window : (c : List ℕ) (n : ℕ) → n ≡ length c → window c 0 n ≡ c
whole_window c n is = window_is c 0 n (omega (arith, is)) ∙ take_all n c (omega (arith, is))

-- an answer by other words
module _ (tells : Type 0) (Done Done' Refused Refused' : Text → Type 0) (Cause Cause' : Type 0) (done : tells → (t : Text) → Done t → Done' t) (refused : tells → (t : Text) → Refused t → Refused' t) (cause : Cause → Cause') where
  wider_end : (e : ToolEnd) (text : Text) → IsAnswer tells Done Refused Cause e text → IsAnswer tells Done' Refused' Cause' e text
  wider_end tool_end.Done text is = λ told. done told text (is told)
  wider_end tool_end.Image text is = λ told. refused told text (is told)
  wider_end tool_end.Host text is = (cause is.0, is.1)
  wider_end tool_end.Sink text is = is

  pub wider_answer : (r : Result ToolAnswer AllocError) → IfOk r (λ a. IsAnswer tells Done Refused Cause a.end a.text) → IfOk r (λ a. IsAnswer tells Done' Refused' Cause' a.end a.text)
  wider_answer r is = IfOk-weaker r _ _ (λ a e. wider_end a.end a.text e) is

-- ---- a call of a host and then another

rose_on : (old mid new top : ℕ) → (old ≤ mid) ⊎ (mid ≡ top) → new ≤ top → top ≡ 2 ^ 64 - 1 → Rose mid new → Rose old new
rose_on old mid new top (inl le) most is (inl less) = inl (omega (arith, le, less))
rose_on old mid new top (inl le) most is (inr full) = inr full
rose_on old mid new top (inr full) most is (inl less) = absurd (omega (arith, full, most, less))
rose_on old mid new top (inr full) most is (inr end) = inr end

module _ {H D M : Type 0} (w : HostWords H D M) (old mid new : H) (first : FaultsLater (of_host w old mid)) (counted : w.faults new ≤ 2 ^ 64 - 1) where
  pub failed_on : HostFailed (of_host w mid new) → HostFailed (of_host w old new)
  failed_on (inl own) = inl (rose_later (w.own_faults old) (w.own_faults mid) (w.own_faults new) first.own own)
  failed_on (inr all) = inr (rose_on (w.faults old) (w.faults mid) (w.faults new) (2 ^ 64 - 1) first.all counted refl all)

-- a path that was left alone twice, and one that was read and then left alone
module _ {H D M : Type 0} (w : HostWords H D M) (old mid new : H) where
  pub before_on : (path : Text) → AsBefore (of_host w old mid) path → AsBefore (of_host w mid new) path → AsBefore (of_host w old new) path
  before_on path a b = record { image = b.image ∙ a.image; trail = λ c. (λ x. (a.trail c).0 ((b.trail c).0 x), λ x. (b.trail c).1 ((a.trail c).1 x)) }

  pub stays_on : (path : Text) → ImageStays (of_host w old mid) path → AsBefore (of_host w mid new) path → ImageStays (of_host w old new) path
  stays_on path a b = record { image = b.image ∙ a.image; trail = λ c x. a.trail c ((b.trail c).0 x) }

-- what is so anyway is so where a text was refused
pub refused_stays : (P : Type 0) (r : Result ToolAnswer AllocError) → P → IfOk r (λ a. a.end ≡ tool_end.Image → P)
refused_stays P (Ok a) is = λ same. is
refused_stays P (Err e) is = tt

-- where an image is made, no text is refused
pub never_refused : (tells Cause P : Type 0) (Done : Text → Type 0) (r : Result ToolAnswer AllocError) → IfOk r (λ a. IsAnswer tells Done (λ t. ⊥) Cause a.end a.text) → IfOk r (λ a. a.end ≡ tool_end.Image → tells → P)
never_refused tells Cause P Done r is = IfOk-weaker r _ _ (λ a e same told. absurd ((subst (λ x. IsAnswer tells Done (λ t. ⊥) Cause x a.text) same e) told)) is

-- a path that was only read leaves every path its image
pub all_stay : (h : HostTurn) (path : Text) → LeavesText h path → (p : Text) → ImageStays h p
all_stay h path left p = elim (same_text p path) as (λ t. same_text p path ≡ t → ImageStays h p) [
  | true ↦ λ same. subst (λ x. ImageStays h x) (sym (equal_texts p path (sym same))) left.stays
  | false ↦ λ apart.
      let b = left.others p (λ one. absurd (false≢true (sym apart ∙ ap (λ x. same_text x path) one ∙ nat_list_eq_equiv.refl path))) in
      record { image = b.image; trail = λ c x. inl ((b.trail c).0 x) }
] refl

-- an answer of a fault
pub host_answered : (tells : Type 0) (Done Refused : Text → Type 0) (Cause : Type 0) (r : Result ToolAnswer AllocError) → Cause → IfOk r (λ a. (a.end ≡ tool_end.Host) × (a.text ≡ status_text end.Host))
    → IfOk r (λ a. IsAnswer tells Done Refused Cause a.end a.text)
host_answered tells Done Refused Cause r cause is = IfOk-weaker r _ _ (λ a e. subst (λ x. IsAnswer tells Done Refused Cause x a.text) (sym e.0) (cause, e.1)) is

pub both_ok : {A E : Type 0} (P Q : A → Type 0) (r : Result A E) → IfOk r P → IfOk r Q → IfOk r (λ a. P a × Q a)
both_ok P Q (Ok a) p q = (p, q)
both_ok P Q (Err e) p q = tt

-- the counts of two calls
pub later_twice : (n m old mid new : ℕ) → RoseBy n old mid → RoseBy m mid new → new ≤ 2 ^ 64 - 1 → (old ≤ new) ⊎ (new ≡ 2 ^ 64 - 1)
later_twice n m old mid new (inl a) (inl b) most = inl (omega (arith, a, b))
later_twice n m old mid new (inl a) (inr full) most = inr full
later_twice n m old mid new (inr top) (inl b) most = inr (omega (arith, top, b, most))
later_twice n m old mid new (inr top) (inr full) most = inr full

-- a text that is no dump
pub no_dump_told : (tells : Type 0) (Done : Text → Type 0) (source : Text) (Cause : Type 0) (r : Result ToolAnswer AllocError) → (tells → reads_dump source ≡ Err refusal.TooLong) → IfOk r (λ a. a.end ≡ tool_end.Image)
    → IfOk r (λ a. a.text ≡ refused_line refusal.TooLong) → IfOk r (λ a. IsAnswer tells Done (IsNoDump source) Cause a.end a.text)
no_dump_told tells Done source Cause (Ok a) refused e t =
    subst (λ x. IsAnswer tells Done (IsNoDump source) Cause x a.text) (sym e) (λ told. record { why = refusal.TooLong; refused = refused told; line = t })
no_dump_told tells Done source Cause (Err x) refused e t = tt

-- what was read of the bytes of a disk was read of the disk
pub read_told : (tells : Type 0) (bytes source : Text) (r : Result Dumped (Result ToolAnswer AllocError)) → (tells → bytes ≡ source) → IfOk r (λ d. reads_dump bytes ≡ Ok (dump_of d)) → IfOk r (λ d. tells → reads_dump source ≡ Ok (dump_of d))
read_told tells bytes source (Ok d) same is = λ told. ap reads_dump (sym (same told)) ∙ is
read_told tells bytes source (Err e) same is = tt

pub refused_told : (tells : Type 0) (Done : Text → Type 0) (bytes source : Text) (Cause : Type 0) (r : Result Dumped (Result ToolAnswer AllocError)) → (tells → bytes ≡ source)
    → IfErr r (λ x. IfOk x (λ a. (a.end ≡ tool_end.Image) × IsNoDump bytes a.text)) → IfErr r (λ x. IfOk x (λ a. IsAnswer tells Done (IsNoDump source) Cause a.end a.text))
refused_told tells Done bytes source Cause (Ok d) same is = tt
refused_told tells Done bytes source Cause (Err x) same is =
    IfOk-weaker x _ _ (λ a e. subst (λ y. IsAnswer tells Done (IsNoDump source) Cause y a.text) (sym e.0) (λ told. subst (λ (t : Text). IsNoDump t a.text) (same told) e.1)) is

-- what is said of a result at its value
pub ok_at : {A E : Type 0} (P : A → Type 0) (r : Result A E) (a : A) → r ≡ Ok a → IfOk r P → P a
ok_at P r a is p = subst (λ x. IfOk x P) is p

pub err_at : {A E : Type 0} (P : E → Type 0) (r : Result A E) (e : E) → r ≡ Err e → IfErr r P → P e
err_at P r e is p = subst (λ x. IfErr x P) is p

-- a dump that was read of a path
pub dump_at_told : (tells : Type 0) (found : Option Text) (source : Text) (d : Dumped) (r : Result Dumped (Result ToolAnswer AllocError)) → (tells → found ≡ Some source) → (tells → reads_dump source ≡ Ok (dump_of d)) → IfOk r (λ x. x ≡ d)
    → IfOk r (λ x. tells → IsDumpAt (dump_of x) found)
dump_at_told tells found source d (Ok x) there reads same = λ told. record { source = source; there = there told; reads = reads told ∙ ap (λ (y : Dumped). Ok (dump_of y)) (sym same) }
dump_at_told tells found source d (Err e) there reads same = tt

-- a disk that was not given back
pub failed_told : (tells : Type 0) (Done Refused : Text → Type 0) (Cause Fault : Type 0) (r : Result Dumped (Result ToolAnswer AllocError)) → (Fault → Cause)
    → IfErr r (λ x. Fault × IfOk x (λ a. (a.end ≡ tool_end.Host) × (a.text ≡ status_text end.Host))) → IfErr r (λ x. IfOk x (λ a. IsAnswer tells Done Refused Cause a.end a.text))
failed_told tells Done Refused Cause Fault (Ok d) to is = tt
failed_told tells Done Refused Cause Fault (Err x) to is = host_answered tells Done Refused Cause x (to is.0) is.1

-- how an image was made, over the disk
pub laid_told : (dtells : Type 0) (Done : Text → Type 0) (Cause : Type 0) (line : Text) (laid : Result (Unit {0}) LayStop) (r : Result ToolAnswer AllocError) → OnOk laid (dtells → Done line) → (IsErrOf laid lay_stop.DiskFault → Cause)
    → (IsOk laid → IfOk r (λ a. (a.end ≡ tool_end.Done) × (a.text ≡ line))) → (IsErrOf laid lay_stop.DiskFault → IfOk r (λ a. (a.end ≡ tool_end.Host) × (a.text ≡ status_text end.Host))) → (IsErrOf laid lay_stop.NoMemory → IfOk r (λ a. ⊥))
    → IfOk r (λ a. IsAnswer dtells Done (λ t. ⊥) Cause a.end a.text)
laid_told dtells Done Cause line (Ok u) r stands cause done fault memory =
    IfOk-weaker r _ _ (λ a e. subst (λ x. IsAnswer dtells Done (λ t. ⊥) Cause x a.text) (sym e.0) (λ told. subst Done (sym e.1) (stands told))) (done refl)
laid_told dtells Done Cause line (Err lay_stop.DiskFault) r stands cause done fault memory =
    IfOk-weaker r _ _ (λ a e. subst (λ x. IsAnswer dtells Done (λ t. ⊥) Cause x a.text) (sym e.0) (cause refl, e.1)) (fault refl)
laid_told dtells Done Cause line (Err lay_stop.NoMemory) r stands cause done fault memory = IfOk-weaker r _ _ (λ a never. absurd never) (memory refl)

-- the line of an image that was made has the number of its rows
pub laid_as : (laid : Result (Unit {0}) LayStop) (tells : Type 0) (d : Dumped) (c : Text) (n : ℕ) → n ≡ length d.rows.items → OnOk laid (tells → StandsAs d.geometry (dump_of d).map c) → OnOk laid (tells → IsLaid (dump_of d) c (loaded_line n))
laid_as (Ok u) tells d c n count stands = λ t. record { stands = stands t; printed = ap loaded_line (count ∙ sym (length-map d.rows.items row_of)) }
laid_as (Err e) tells d c n count stands = tt
