use Rattle.std.proofs.Common.{◌≡◌, ◌++◌, ◌&&◌, List, ap, subst, ◌∙◌}
use Rattle.std.specs.Map.{keys_of}
use Rattle.std.specs.Ordering.{is_le, is_lt}
use Rattle.opfs_base.specs.Texts.{Text}
use Rattle.opfs_kv.specs.Records.Indexes.{Places}
use Rattle.opfs_kv.specs.Records.Maps.{key_cmp, keys_between}
use Rattle.opfs_kv.proofs.records.Listed.{picked-next}
use Rattle.opfs_kv.proofs.records.listing.between_in.Goals as goal

pub loop-key-preserved : goal.loop-key-preserved
loop-key-preserved c =
    let whole : List Text = keys_between c.args.from.now c.args.to.now (keys_of c.args.places.now.entries) in
    ap (λ (xs : List Text). xs ++ keys_between c.args.from.now c.args.to.now (keys_of c.next.new.self)) c.in_ok-add.ensures
    ∙ picked-next (λ (k : Text). is_le (key_cmp c.args.from.now k) && is_lt (key_cmp k c.args.to.now)) c.in-Some.key.now (keys_of c.next.new.self) c.loop-key.keys.items whole c.is_between.result c.is_between.ensures
    (subst (λ (es : Places). c.loop-key.keys.items ++ keys_between c.args.from.now c.args.to.now (keys_of es) ≡ whole) c.in-Some.ensures.steps c.loop-key.invariant)
