use Rattle.std.proofs.Common.{◌≡◌, ◌∙◌, [], ◌∷◌, ◌++◌, ap, ap₂, arith, rules}
use Rattle.opfs_script_kept.specs.Packed.Texts.{cut}
use Rattle.opfs_script_kept.proofs.packed.Cutting.{cut-push, sum_of-push}
use Rattle.opfs_script_kept.proofs.packed.texts.Texts.push.Goals as goal

pub invariant_of-self-2 : goal.invariant_of-self-2
invariant_of-self-2 c = grind (arith, sum_of-push)

pub returns-clause-ok : goal.returns-clause-ok
returns-clause-ok c =
    let lengths : c.push_reserved.new.self.items ≡ c.self.inside.lengths.items ++ c.in_ok-length.length ∷ [] = search rules in
    let bytes : c.extend_from_slice.new.self.items ≡ c.self.inside.bytes.items ++ c.args.text.now = search rules in
    ap₂ cut lengths bytes
    ∙ cut-push c.self.inside.lengths.items c.in_ok-length.length c.self.inside.bytes.items c.args.text.now c.self.invariant c.in_ok-length.ensures
    ∙ ap (λ old. old ++ c.args.text.now ∷ []) c.self.view_is
