-- An image that is made beside a path, and takes its place or is thrown away.
use Rattle.std.proofs.Common.{◌≡◌, ◌⊎◌, ◌↔◌, ℕ, ◌≤◌, inl, inr, refl, sym, ◌∙◌, subst}
use Rattle.std.specs.Prelude.{Option, Some, Result, Ok, IfOk}
use Rattle.std.proofs.lemmas.Result.{IfOk-weaker}
use Rattle.std.specs.declared.alloc.AllocError.{AllocError}
use Rattle.opfs_base.specs.Texts.{Text}
use Rattle.opfs_dump.specs.Loading.Laid.{StandsAs}
use Rattle.opfs_image.specs.declared.geometry.Geometry.{Geometry}
use Rattle.opfs_machine.specs.Openings.{empty_map}
use Rattle.opfs_records.specs.Replay.Built.{nothing_built}
use Rattle.opfs_outside.specs.Turns.{AsBefore, HostServed, HostTurn, ImageStays, IsOldOrNew, IsReturned, of_host}
use Rattle.opfs_outside.specs.declared.host.Host.{Ghosts as HostWords}
use Rattle.opfs_print.specs.Status.{status_text}
use Rattle.opfs_print.specs.declared.end.End.TheVariants as end
use Rattle.opfs_commands.proofs.Hosting.{rose_later, one_since}
use Rattle.opfs_commands.specs.Kinds.{IsDoneBy, LeavesMade, LeavesText}
use Rattle.opfs_commands.specs.Telling.{IsAnswer, IsFormatted, IsLaid, IsDumpAt, StandsForText}
use Rattle.opfs_dump.specs.Text.Reading.{Dump}
use Rattle.opfs_commands.specs.declared.answers.ToolAnswer.{ToolAnswer}
use Rattle.opfs_commands.specs.declared.answers.ToolEnd.{ToolEnd}
use Rattle.opfs_commands.specs.declared.answers.ToolEnd.TheVariants as tool_end

-- ---- a path that is as before

pub stays_before : (h : HostTurn) (p : Text) → AsBefore h p → ImageStays h p
stays_before h p b = record { image = b.image; trail = λ c x. inl ((b.trail c).0 x) }

pub none_made : (h : HostTurn) (p : Text) (New : Text → Type 0) → AsBefore h p → IsOldOrNew h p New
none_made h p New b = record { image = inl b.image; trail = λ c x. inl ((b.trail c).0 x) }

pub leaves_none : (h : HostTurn) (p : Text) (New : Text → Type 0) (U : Type 0) → AsBefore h p → LeavesMade h p New U
leaves_none h p New U b = record { whole = none_made h p New b; stays = λ u quiet. stays_before h p b }

pub leaves_stays : (h : HostTurn) (p : Text) (New : Text → Type 0) (U : Type 0) → ImageStays h p → LeavesMade h p New U
leaves_stays h p New U s = record {
  whole = record { image = inl s.image; trail = λ c x. elim (s.trail c x) [ inl was ↦ inl was | inr stood ↦ inr (inl stood) ] };
  stays = λ u quiet. s;
}

pub whole_wider : (h : HostTurn) (p : Text) (New New' : Text → Type 0) → ((c : Text) → New c → New' c) → IsOldOrNew h p New → IsOldOrNew h p New'
whole_wider h p New New' new is = record {
  image = elim is.image [ inl same ↦ inl same | inr made ↦ inr (made.0, made.1, new made.0 made.2) ];
  trail = λ c x. elim (is.trail c x) [ inl was ↦ inl was | inr more ↦ inr (elim more [ inl stood ↦ inl stood | inr made ↦ inr (new c made) ]) ];
}

-- ---- what is made after a path was only read

module _ {H D M : Type 0} (w : HostWords H D M) (old mid new : H) (path : Text) where
  pub stays_twice : ImageStays (of_host w old mid) path → ImageStays (of_host w mid new) path → ImageStays (of_host w old new) path
  stays_twice a b = record {
    image = b.image ∙ a.image;
    trail = λ c x. elim (b.trail c x) [ inl was ↦ a.trail c was | inr stood ↦ inr (sym a.image ∙ stood) ];
  }

  pub whole_after : (New : Text → Type 0) → ImageStays (of_host w old mid) path → IsOldOrNew (of_host w mid new) path New → IsOldOrNew (of_host w old new) path New
  whole_after New a b = record {
    image = elim b.image [ inl same ↦ inl (same ∙ a.image) | inr made ↦ inr made ];
    trail = λ c x. elim (b.trail c x) [
      | inl was ↦ elim (a.trail c was) [ inl first ↦ inl first | inr stood ↦ inr (inl stood) ]
      | inr more ↦ inr (elim more [ inl stood ↦ inl (sym a.image ∙ stood) | inr made ↦ inr made ])
    ];
  }

  pub served_after : w.own_faults old ≤ w.own_faults mid → HostServed (of_host w old new) → HostServed (of_host w mid new)
  served_after later quiet = λ rose. quiet (rose_later (w.own_faults old) (w.own_faults mid) (w.own_faults new) later rose)

  pub made_after : (New New' : Text → Type 0) (U U' : Type 0) → w.own_faults old ≤ w.own_faults mid → ((c : Text) → New c → New' c) → (U' → U) → ImageStays (of_host w old mid) path → LeavesMade (of_host w mid new) path New U → LeavesMade (of_host w old new) path New' U'
  made_after New New' U U' later wider unmade a b = record {
    whole = whole_wider (of_host w old new) path New New' wider (whole_after New a b.whole);
    stays = λ u quiet. stays_twice a (b.stays (unmade u) (served_after later quiet));
  }

  -- a disk that was made ended so
  pub made_ended : (New Made : Text → Type 0) (U : Type 0) → w.own_faults old ≤ w.own_faults mid → ((c : Text) → Made c → New c) → AsBefore (of_host w old mid) path
      → IsOldOrNew (of_host w mid new) path Made → (HostServed (of_host w mid new) → U → AsBefore (of_host w mid new) path) → LeavesMade (of_host w old new) path New U
  made_ended New Made U later wider a whole unmade = record {
    whole = whole_wider (of_host w old new) path Made New wider (whole_after Made (stays_before (of_host w old mid) path a) whole);
    stays = λ u quiet. stays_twice (stays_before (of_host w old mid) path a) (stays_before (of_host w mid new) path (unmade (served_after later quiet) u));
  }

  -- a disk that was fetched, only read, and given back or not
  read_returned : (content back : Text) (left : Text → Type 0) → ((p : Text) → w.image mid p ≡ w.image old p) → ((p c : Text) → w.trail mid p c ↔ w.trail old p c) → w.image mid path ≡ Some content → back ≡ content → ((c : Text) → left c → c ≡ content)
      → IsReturned (of_host w mid new) path back left → LeavesText (of_host w old new) path
  read_returned content back left images trails there same only is = record {
    stays = record {
      image = elim is.image [ inl stays ↦ stays ∙ images path | inr back_is ↦ back_is ∙ subst (λ (x : Text). Some x ≡ Some content) (sym same) refl ∙ sym there ∙ images path ];
      trail = λ c x. elim (is.trail c x) [
        | inl was ↦ inl ((trails path c).0 was)
        | inr l ↦ inr (sym (images path) ∙ there ∙ subst (λ (x : Text). Some content ≡ Some x) (sym (only c l)) refl)
      ];
    };
    others = λ p other. record {
      image = (is.others p other).image ∙ images p;
      trail = λ c. (λ x. (trails p c).0 (((is.others p other).trail c).0 x), λ x. ((is.others p other).trail c).1 ((trails p c).1 x));
    };
  }

  -- the same, where each image since it was fetched is the one that it had then
  pub read_back : (content back : Text) (moment : ℕ) (since0 since1 : ℕ → Text → Type 0) → ((p : Text) → w.image mid p ≡ w.image old p) → ((p c : Text) → w.trail mid p c ↔ w.trail old p c) → w.image mid path ≡ Some content
      → moment ≡ 0 → ((c : Text) → since0 0 c → c ≡ content) → back ≡ content → ((c : Text) → since1 moment c → since0 moment c) → IsReturned (of_host w mid new) path back (since1 0) → LeavesText (of_host w old new) path
  read_back content back moment since0 since1 images trails there first one same moves is = read_returned content back (since1 0) images trails there same (one_since content moment since0 since1 first one moves) is

-- ---- the answer over the disk is the answer over the host, where the disk takes its place

module _ (tells dtells : Type 0) (to : tells → dtells) (There : Type 0) (Done Done' : Text → Type 0) (Cause Cause' : Type 0) (done : tells → There → (t : Text) → Done t → Done' t) (cause : Cause → Cause') where
  made_at : (e : ToolEnd) (text : Text) → (e ≡ tool_end.Done → tells → There) → IsAnswer dtells Done (λ t. ⊥) Cause e text → IsAnswer tells Done' (λ t. ⊥) Cause' e text
  made_at tool_end.Done text there is = λ told. done told (there refl told) text (is (to told))
  made_at tool_end.Image text there is = λ told. is (to told)
  made_at tool_end.Host text there is = (cause is.0, is.1)
  made_at tool_end.Sink text there is = is

  pub made_answer : (r first : Result ToolAnswer AllocError) (Fault : Type 0) → (Fault → Cause') → IfOk first (λ a. IsAnswer dtells Done (λ t. ⊥) Cause a.end a.text)
      → IfOk r (λ a. ((first ≡ Ok a) × (a.end ≡ tool_end.Done → tells → There)) ⊎ (Fault × (a.end ≡ tool_end.Host) × (a.text ≡ status_text end.Host))) → IfOk r (λ a. IsAnswer tells Done' (λ t. ⊥) Cause' a.end a.text)
  made_answer r first Fault fault_cause answer kept = IfOk-weaker r _ _ (λ a is. elim is [
    | inl same ↦ made_at a.end a.text same.1 (subst (λ x. IfOk x (λ a. IsAnswer dtells Done (λ t. ⊥) Cause a.end a.text)) same.0 answer)
    | inr fault ↦ subst (λ e. IsAnswer tells Done' (λ t. ⊥) Cause' e a.text) (sym fault.1) (fault_cause fault.0, fault.2)
  ]) kept

-- an answer that says that all was done, with its text
pub done_text : (dtells : Type 0) (Done : Text → Type 0) (Cause : Type 0) (r : Result ToolAnswer AllocError) → IsDoneBy r → IfOk r (λ a. IsAnswer dtells Done (λ t. ⊥) Cause a.end a.text) → dtells → (t : Text) × Done t
done_text dtells Done Cause r by is told =
    let at : IsAnswer dtells Done (λ t. ⊥) Cause by.answer.end by.answer.text = subst (λ x. IfOk x (λ a. IsAnswer dtells Done (λ t. ⊥) Cause a.end a.text)) by.is is in
    let done : dtells → Done by.answer.text = subst (λ e. IsAnswer dtells Done (λ t. ⊥) Cause e by.answer.text) by.done at in
    (by.answer.text, done told)

pub formatted_stands : (g : Geometry) (c : Text) → (t : Text) × IsFormatted g c t → StandsAs g empty_map c
formatted_stands g c is = record { built = nothing_built; reads = is.1.reads; stands = refl }

pub laid_stands : (d : Dump) (c : Text) → (t : Text) × IsLaid d c t → StandsAs d.geometry d.map c
laid_stands d c is = is.1.stands

pub stands_for : (from : Option Text) (d : Dump) → IsDumpAt d from → (c : Text) → StandsAs d.geometry d.map c → StandsForText from c
stands_for from d read c is = record { dump = d; read = read; stands = is }
