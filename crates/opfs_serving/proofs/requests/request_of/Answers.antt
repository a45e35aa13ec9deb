use Rattle.std.proofs.Common.{◌≡◌, ◌⊎◌, ℕ, ◌-◌, length, Ok, Err, refl, sym, ◌∙◌, subst}
use Rattle.std.proofs.lemmas.Option.{slice_get_read}
use Rattle.opfs_script.specs.Lines.{asked_by}
use Rattle.opfs_script.specs.declared.refusal.ScriptRefusal.TheVariants as script
use Rattle.opfs_serving.specs.Lines.{Names}
use Rattle.opfs_serving.specs.Requests.{nobody}
use Rattle.opfs_serving.proofs.Named.{held-nothing, named-place, unread-nothing}
use Rattle.opfs_serving.proofs.requests.request_of.Goals as goal

pub returns-in_default-clause-nothing : goal.returns-in_default-clause-nothing
returns-in_default-clause-nothing g c = λ seen. nobody (sym c.in_default.ensures)

pub returns-in-Some-held_back-clause-nothing : goal.returns-in-Some-held_back-clause-nothing
returns-in-Some-held_back-clause-nothing g c = λ seen.
    let place = named-place (length c.args.seats.now) c.args.line.now c.in-Some.part.agent c.in-Some.part.text.now (sym c.in-Some.ensures) in
    held-nothing seen c.args.line.now c.args.seats.now (c.in-Some.part.agent - 1) c.index-seats-place.result c.in-Some.part.text.now
    (record {
      there = slice_get_read c.args.seats.now (length c.args.seats.now) (c.in-Some.part.agent - 1) c.index-seats-place.result refl place.1 c.index-seats-place.is;
      names = subst (λ k. Names (length c.args.seats.now) c.args.line.now k c.in-Some.part.text.now) (sym place.0) (sym c.in-Some.ensures);
    })
    c.in-Some-held_back.why c.in-Some-held_back.ensures

pub returns-in-Ok-clause-asked : goal.returns-in-Ok-clause-asked
returns-in-Ok-clause-asked g c =
    let place = named-place (length c.args.seats.now) c.args.line.now c.in-Some.part.agent c.in-Some.part.text.now (sym c.in-Some.ensures) in
    record {
      seat = c.index-seats-place.result;
      rest = c.in-Some.part.text.now;
      at = record {
        there = slice_get_read c.args.seats.now (length c.args.seats.now) (c.in-Some.part.agent - 1) c.index-seats-place.result refl place.1 c.index-seats-place.is;
        names = subst (λ k. Names (length c.args.seats.now) c.args.line.now k c.in-Some.part.text.now) (sym place.0) (sym c.in-Some.ensures);
      };
      free = c.in_default-held_back.ensures;
      asks = subst (λ (x : ℕ × ℕ). asked_by x.0 x.1 c.in-Some.part.text.now ≡ Ok c.in-Ok.asking)
          (λ i. ((c.from.ensures ∙ sym place.0) i, c.next_number.ensures c.in_default-held_back.ensures i)) c.in-Ok.ensures.asked;
      bounded = c.in-Ok.ensures.bounded;
    }

pub returns-in-Err-clause-nothing : goal.returns-in-Err-clause-nothing
returns-in-Err-clause-nothing g c = λ seen.
    let place = named-place (length c.args.seats.now) c.args.line.now c.in-Some.part.agent c.in-Some.part.text.now (sym c.in-Some.ensures) in
    unread-nothing seen c.args.line.now c.args.seats.now (c.in-Some.part.agent - 1) c.index-seats-place.result c.in-Some.part.text.now
    (record {
      there = slice_get_read c.args.seats.now (length c.args.seats.now) (c.in-Some.part.agent - 1) c.index-seats-place.result refl place.1 c.index-seats-place.is;
      names = subst (λ k. Names (length c.args.seats.now) c.args.line.now k c.in-Some.part.text.now) (sym place.0) (sym c.in-Some.ensures);
    })
    c.in_default-held_back.ensures c.in-Err.why
    (subst (λ (x : ℕ × ℕ). (asked_by x.0 x.1 c.in-Some.part.text.now ≡ Err c.in-Err.why) ⊎ (c.in-Err.why ≡ script.NoMemory))
    (λ i. ((c.from.ensures ∙ sym place.0) i, c.next_number.ensures c.in_default-held_back.ensures i)) c.in-Err.ensures.asked)
    c.told_as.result c.told_as.ensures
