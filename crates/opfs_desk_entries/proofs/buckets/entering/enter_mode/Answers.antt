use Rattle.std.proofs.Common.{ap, subst}
use Rattle.opfs_codec.specs.Fields.{plain}
use Rattle.opfs_codec.specs.declared.change.Change.{Change as Spelled}
use Rattle.opfs_machine.specs.Steps.{is_refusal}
use Rattle.opfs_desk_entries.specs.KeptBack.Changing.{HasChanged, HasNotChanged}
use Rattle.opfs_desk_entries.proofs.buckets.Stored.{own-is, may-be-stored, may-store-call, spelled-own, quiet-own, fits-own}
use Rattle.opfs_desk_entries.proofs.buckets.entering.enter_mode.Goals as goal

pub enter_change-requires-clause-may : goal.enter_change-requires-clause-may
enter_change-requires-clause-may g c =
    may-store-call g.D.Disk c.args.ledger.now c.args.last.entry c.args.sizes c.requires.may c.requires.word c.requires.text c.requires.keys c.args.unit.now c.requires.unit (plain c.spelled-own.result) c.spelled-own.ensures

pub enter_change-requires-clause-answered : goal.enter_change-requires-clause-answered
enter_change-requires-clause-answered g c = ap is_refusal c.requires.flag

pub enter_change-requires-clause-spelled : goal.enter_change-requires-clause-spelled
enter_change-requires-clause-spelled g c =
    spelled-own g.D.Disk c.args.ledger.now c.args.last.entry c.args.sizes c.requires.may c.requires.word c.requires.text c.requires.keys c.args.unit.now c.requires.unit (plain c.spelled-own.result) c.spelled-own.ensures

pub enter_change-requires-clause-quiet : goal.enter_change-requires-clause-quiet
enter_change-requires-clause-quiet g c =
    quiet-own g.D.Disk c.args.ledger.now c.args.last.entry c.args.sizes c.requires.may c.requires.word c.requires.text c.requires.keys c.args.unit.now c.requires.unit (plain c.spelled-own.result) c.spelled-own.ensures

pub enter_change-requires-clause-fits : goal.enter_change-requires-clause-fits
enter_change-requires-clause-fits g c =
    fits-own g.D.Disk c.args.ledger.now c.args.last.entry c.args.sizes c.requires.may c.requires.word c.requires.text c.requires.keys c.args.unit.now c.requires.unit (plain c.spelled-own.result) c.spelled-own.ensures

pub returns-in-Ok-clause-done : goal.returns-in-Ok-clause-done
returns-in-Ok-clause-done g c f recorded base gone p are answered =
    let w = g.D.Disk in
    let l = c.args.ledger.now in
    let e = c.args.last.entry in
    let own = plain c.spelled-own.result in
    let is = c.spelled-own.ensures in
    subst (λ (x : Spelled). HasChanged w f recorded base gone l c.enter_change.new.ledger p e c.args.sizes x)
    (own-is w l e c.args.sizes c.requires.may c.requires.word c.requires.text c.requires.keys c.args.unit.now c.requires.unit own is)
    (c.in-Ok.ensures.done f recorded base gone p are answered (may-be-stored w l e c.args.sizes c.requires.may c.requires.word c.requires.text c.requires.keys c.args.unit.now c.requires.unit own is f))

pub returns-in-Err-clause-failed : goal.returns-in-Err-clause-failed
returns-in-Err-clause-failed g c f recorded base gone p are answered =
    let w = g.D.Disk in
    let l = c.args.ledger.now in
    let e = c.args.last.entry in
    let own = plain c.spelled-own.result in
    let is = c.spelled-own.ensures in
    subst (λ (x : Spelled). HasNotChanged w f recorded base gone l c.enter_change.new.ledger p e x)
    (own-is w l e c.args.sizes c.requires.may c.requires.word c.requires.text c.requires.keys c.args.unit.now c.requires.unit own is)
    (c.in-Err.ensures.failed f recorded base gone p are answered (may-be-stored w l e c.args.sizes c.requires.may c.requires.word c.requires.text c.requires.keys c.args.unit.now c.requires.unit own is f))

pub returns-in-Ok-clause-tidy : goal.returns-in-Ok-clause-tidy
returns-in-Ok-clause-tidy g c = record { lines = c.know_rows_match_tree.ensures; order = c.know_order.ensures }

pub returns-in-Err-clause-tidy : goal.returns-in-Err-clause-tidy
returns-in-Err-clause-tidy g c = record { lines = c.know_rows_match_tree.ensures; order = c.know_order.ensures }
