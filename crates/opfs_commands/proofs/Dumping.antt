-- A text that a command puts out itself.
use Rattle.std.proofs.Common.{◌≡◌, [], ◌++◌, inl, inr, refl, sym, subst, ◌∙◌}
use Rattle.std.specs.Prelude.{◌⊎◌, Result, Ok, Err, IfOk, IsOk, IsErrOf}
use Rattle.std.proofs.lemmas.List.{append-nil}
use Rattle.std.proofs.lemmas.Result.{IfOk-weaker}
use Rattle.std.specs.declared.alloc.AllocError.{AllocError}
use Rattle.opfs_base.specs.Texts.{Text}
use Rattle.opfs_codec.specs.declared.change.Format.TheVariants.{New}
use Rattle.opfs_data.specs.Calls.{Reads}
use Rattle.opfs_dump.specs.Dumping.Putting.{Dumps}
use Rattle.opfs_dump.specs.declared.dumping.stop.DumpStop.{DumpStop}
use Rattle.opfs_dump.specs.declared.dumping.stop.DumpStop.TheVariants as stop
use Rattle.opfs_dump.specs.Text.Texts.{dump_text}
use Rattle.opfs_image.specs.Filling.{filled}
use Rattle.opfs_image.specs.Reading.{read_as}
use Rattle.opfs_image.specs.Superblock.{data_base}
use Rattle.opfs_image.specs.declared.geometry.Geometry.{Geometry}
use Rattle.opfs_journal.specs.Seen.{Seen}
use Rattle.opfs_journal.specs.Walking.{OnlyRead}
use Rattle.opfs_outside.specs.Faults.{Rose}
use Rattle.opfs_outside.specs.Turns.{SinkTurn, of_sink}
use Rattle.opfs_outside.specs.declared.disk.Disk.{Ghosts as DiskWords}
use Rattle.opfs_outside.specs.declared.stream.Sink.{Ghosts as SinkWords}
use Rattle.opfs_print.specs.Status.{status_text}
use Rattle.opfs_print.specs.declared.end.End.TheVariants as end
use Rattle.opfs_records.specs.Replay.Built.{Built}
use Rattle.opfs_commands.specs.Telling.{IsAnswer, IsBegun, IsBehind, IsDumped, IsPut}
use Rattle.opfs_commands.specs.declared.answers.ToolAnswer.{ToolAnswer}
use Rattle.opfs_commands.specs.declared.answers.ToolEnd.{ToolEnd}
use Rattle.opfs_commands.specs.declared.answers.ToolEnd.TheVariants as tool_end

-- a journal that was only read
pub reads_only : {D : Type 0} (w : DiskWords D) (old new : Seen D) (back : D) → Reads w old new → back ≡ new.disk → OnlyRead w old.disk back
reads_only w old new back r same = subst (λ d. OnlyRead w old.disk d) (sym same) (record {
  length = r.stays.length;
  later = r.later;
  told = λ t. record { same = (r.told t).same; time = (r.told t).time; moments = (r.told t).moments };
})

-- ---- a command that put out nothing

module _ {K : Type 0} (k : SinkWords K) (s : K) (tells : Type 0) (Begun Done Refused : Text → Type 0) (Cause : Type 0) (r : Result ToolAnswer AllocError) where
  abbrev Told : Text → Type 0
  Told text = tells → Done text

  abbrev Line : Text → Type 0
  Line text = tells → Refused text

  nothing_begun : IsBegun (of_sink k s s) Begun []
  nothing_begun = record { took = λ t. sym (append-nil (k.written s)); begun = inl refl }

  behind_nothing : (e : ToolEnd) (text : Text) → IsAnswer tells Done Refused Cause e text → IsBehind (of_sink k s s) Told Line Cause [] e text
  behind_nothing tool_end.Done text is = is
  behind_nothing tool_end.Image text is = (refl, is)
  behind_nothing tool_end.Host text is = is
  behind_nothing tool_end.Sink text is = absurd is

  pub put_nothing : IfOk r (λ a. IsAnswer tells Done Refused Cause a.end a.text) → IsPut (of_sink k s s) Begun Told Line Cause r
  put_nothing answer = record { front = []; begun = nothing_begun; ended = IfOk-weaker r _ _ (λ a is. behind_nothing a.end a.text is) answer }

  -- there was no memory at once
  pub put_none : IfOk r (λ a. ⊥) → IsPut (of_sink k s s) Begun Told Line Cause r
  put_none none = put_nothing (IfOk-weaker r _ _ (λ a never. absurd never) none)

  -- the host failed at once
  pub put_fault : Cause → IfOk r (λ a. a.end ≡ tool_end.Host) → IfOk r (λ a. a.text ≡ status_text end.Host) → IsPut (of_sink k s s) Begun Told Line Cause r
  put_fault cause e t = put_nothing (both r e t)
    where
      both : (x : Result ToolAnswer AllocError) → IfOk x (λ a. a.end ≡ tool_end.Host) → IfOk x (λ a. a.text ≡ status_text end.Host) → IfOk x (λ a. IsAnswer tells Done Refused Cause a.end a.text)
      both (Ok a) e' t' = subst (λ y. IsAnswer tells Done Refused Cause y a.text) (sym e') (cause, t')
      both (Err e0) e' t' = tt

-- ---- the same by other words

module _ (k : SinkTurn) (Begun Begun' Whole Whole' Refused Refused' : Text → Type 0) (Cause Cause' : Type 0) (begun : (t : Text) → Begun t → Begun' t) (whole : (t : Text) → Whole t → Whole' t) (refused : (t : Text) → Refused t → Refused' t) (cause : Cause → Cause') where
  wider_begun : (front : Text) → IsBegun k Begun front → IsBegun k Begun' front
  wider_begun front is = record { took = is.took; begun = elim is.begun [ inl none ↦ inl none | inr more ↦ inr (more.0, begun (front ++ more.0) more.1) ] }

  wider_end : (front : Text) (e : ToolEnd) (text : Text) → IsBehind k Whole Refused Cause front e text → IsBehind k Whole' Refused' Cause' front e text
  wider_end front tool_end.Done text is = whole (front ++ text) is
  wider_end front tool_end.Image text is = (is.0, refused text is.1)
  wider_end front tool_end.Host text is = (cause is.0, is.1)
  wider_end front tool_end.Sink text is = (is.0, is.1, (is.2.0, whole (front ++ is.2.0) is.2.1))

  pub put_wider : (r : Result ToolAnswer AllocError) → IsPut k Begun Whole Refused Cause r → IsPut k Begun' Whole' Refused' Cause' r
  put_wider r is = record { front = is.front; begun = wider_begun is.front is.begun; ended = IfOk-weaker r _ _ (λ a e. wider_end is.front a.end a.text e) is.ended }

  -- a disk was given back behind it
  pub put_back : (r first : Result ToolAnswer AllocError) (Fault Back : Type 0) → (Fault → Cause') → IsPut k Begun Whole Refused Cause first
      → IfOk r (λ a. ((first ≡ Ok a) × Back) ⊎ (Fault × (a.end ≡ tool_end.Host) × (a.text ≡ status_text end.Host))) → IsPut k Begun' Whole' Refused' Cause' r
  put_back r first Fault Back fault is kept = record {
    front = is.front;
    begun = wider_begun is.front is.begun;
    ended = IfOk-weaker r _ _ (λ a how. elim how [
      | inl same ↦ wider_end is.front a.end a.text (subst (λ x. IfOk x (λ a'. IsBehind k Whole Refused Cause is.front a'.end a'.text)) same.0 is.ended)
      | inr failed ↦ subst (λ e. IsBehind k Whole' Refused' Cause' is.front e a.text) (sym failed.1) (fault failed.0, failed.2)
    ]) kept;
  }

-- ---- an image's text

module _ {D K : Type 0} (w : DiskWords D) (k : SinkWords K) (old new : Seen D) (back : D) (s0 s1 : K) (g : Geometry) (b : Built) (a : Result ToolAnswer AllocError) where
  abbrev Whole : Text → Type 0
  Whole text = w.tells → IsDumped (w.content old.disk) text

  abbrev Cause : Type 0
  Cause = Rose (w.faults old.disk) (w.faults back)

  abbrev Says : ToolEnd → Text → Type 0
  Says e line = IfOk a (λ x. (x.end ≡ e) × (x.text ≡ line))

  stood : (w.tells → read_as New New (w.content old.disk) ≡ Ok (record { geometry = g; built = b })) → (text : Text) → (w.tells → text ≡ dump_text g (filled (data_base g) (w.content old.disk) b)) → Whole text
  stood reads text same = λ told. record {
    geometry = g;
    map = filled (data_base g) (w.content old.disk) b;
    stands = record { built = b; reads = reads told; stands = refl };
    printed = same told;
  }

  pub put_image : (w.tells → read_as New New (w.content old.disk) ≡ Ok (record { geometry = g; built = b })) → back ≡ new.disk
      → (r : Result (Unit {0}) DumpStop) → Dumps w k old new s0 s1 (λ c. dump_text g (filled (data_base g) c b)) r
      → (IsOk r → Says tool_end.Done []) → (IsErrOf r stop.DiskFault → Says tool_end.Host (status_text end.Host)) → (IsErrOf r stop.SinkFault → Says tool_end.Sink [])
      → (IsErrOf r stop.NoMemory → IfOk a (λ x. ⊥)) → IsPut (of_sink k s0 s1) Whole Whole (λ text. ⊥) Cause a
  put_image reads same (Ok x) d done fault sink memory =
      let whole : Whole (d.whole ++ []) = stood reads (d.whole ++ []) (λ told. append-nil d.whole ∙ d.told told) in
      record {
        front = d.whole;
        begun = record { took = d.put; begun = inr ([], whole) };
        ended = IfOk-weaker a _ _ (λ y is. subst (λ e. IsBehind (of_sink k s0 s1) Whole (λ text. ⊥) Cause d.whole e y.text) (sym is.0) (subst (λ t. Whole (d.whole ++ t)) (sym is.1) whole)) (done refl);
      }
  put_image reads same (Err stop.DiskFault) d done fault sink memory =
      let f = d.put.front in
      let whole : Whole (f.front ++ d.put.rest) = stood reads (f.front ++ d.put.rest) (λ told. sym f.whole ∙ d.told told) in
      let rose : Cause = subst (λ x. Rose (w.faults old.disk) (w.faults x)) (sym same) (d.disk refl) in
      record {
        front = f.front;
        begun = record { took = f.took; begun = inr (d.put.rest, whole) };
        ended = IfOk-weaker a _ _ (λ y is. subst (λ e. IsBehind (of_sink k s0 s1) Whole (λ text. ⊥) Cause f.front e y.text) (sym is.0) (rose, is.1)) (fault refl);
      }
  put_image reads same (Err stop.SinkFault) d done fault sink memory =
      let f = d.put.front in
      let whole : Whole (f.front ++ d.put.rest) = stood reads (f.front ++ d.put.rest) (λ told. sym f.whole ∙ d.told told) in
      record {
        front = f.front;
        begun = record { took = f.took; begun = inr (d.put.rest, whole) };
        ended = IfOk-weaker a _ _ (λ y is. subst (λ e. IsBehind (of_sink k s0 s1) Whole (λ text. ⊥) Cause f.front e y.text) (sym is.0) (d.sink refl, is.1, (d.put.rest, whole))) (sink refl);
      }
  put_image reads same (Err stop.NoMemory) d done fault sink memory =
      let f = d.put.front in
      let whole : Whole (f.front ++ d.put.rest) = stood reads (f.front ++ d.put.rest) (λ told. sym f.whole ∙ d.told told) in
      record {
        front = f.front;
        begun = record { took = f.took; begun = inr (d.put.rest, whole) };
        ended = IfOk-weaker a _ _ (λ y none. absurd none) (memory refl);
      }
