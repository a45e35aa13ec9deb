use Rattle.std.proofs.Common.{◌≡◌, Option, Some, sym, ap, ◌∙◌}
use Rattle.std.specs.Option.{option_copied}
use Rattle.opfs_base.specs.Texts.{Text}
use Rattle.opfs_register.specs.Registers.{Registered}
use Rattle.opfs_machine.specs.Contents.{in_lengths}
use Rattle.opfs_machine.specs.Victims.{candidates, victims}
use Rattle.opfs_state.proofs.verdicts.PoolVictims.{front-at-once, pool-victims}
use Rattle.opfs_state.proofs.verdicts.room.victims.Goals as goal

pub returns-then-fits_pool : goal.returns-then-fits_pool
returns-then-fits_pool c =
    let m = c.args.standing.now.machine in
    ap Some (c.from_vec.ensures ∙ c.new.ensures.items) ∙ sym (front-at-once m c.args.need (candidates m (option_copied c.args.caller)) (sym c.fits_pool.ensures ∙ c.if-fits_pool.true))

pub returns : goal.returns
returns c =
    let m = c.args.standing.now.machine in
    let key = c.in-Some.key.now in
    let caller : option_copied c.args.caller ≡ Some key = ap option_copied c.in-Some.is in
    let used = c.as_slice.ensures.value ∙ c.in_ok-uses.ensures ∙ ap (λ (r : Registered). r.used) c.register.ensures in
    c.in_ok-units.ensures.units
    ∙ pool-victims m c.pool.result.now c.pool.ensures c.requires.kept.untaken c.as_slice.result.now key c.args.need c.requires.kept.order (c.requires.origin key caller) used (sym c.fits_pool.ensures ∙ c.if-fits_pool.false)
    ∙ sym (ap (λ (o : Option Text). victims in_lengths m o c.args.need) caller)
