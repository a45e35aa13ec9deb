use Rattle.std.proofs.Common.{sym, subst, ◌∙◌, arith}
use Rattle.opfs_base.specs.Texts.{Text}
use Rattle.opfs_dump.specs.Dumping.Putting.{Puts}
use Rattle.opfs_dump.proofs.dumping.Digits.{digits_plain}
use Rattle.opfs_dump.proofs.dumping.files.put_digits.Goals as goal

pub returns : goal.returns
returns g c =
    let bytes = c.type_inv.piece in
    subst (λ (t : Text). Puts g.K.Sink c.args.sink.now c.put_text.new.sink t c.put_text.result)
    (c.in-Ok.ensures.written ∙ sym (digits_plain c.args.piece.now (λ i. omega (arith, bytes i)))) c.put_text.ensures
