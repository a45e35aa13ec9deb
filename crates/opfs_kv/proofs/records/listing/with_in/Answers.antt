use Rattle.std.proofs.Common.{◌≡◌, ◌++◌, List, ap, subst, ◌∙◌}
use Rattle.std.specs.Map.{keys_of}
use Rattle.std.specs.List.{starts_with}
use Rattle.std.specs.Prelude.{nat_eq}
use Rattle.opfs_base.specs.Texts.{Text}
use Rattle.opfs_kv.specs.Records.Indexes.{Places}
use Rattle.opfs_kv.specs.Records.Maps.{keys_with}
use Rattle.opfs_kv.proofs.records.Listed.{picked-next}
use Rattle.opfs_kv.proofs.records.listing.with_in.Goals as goal

pub loop-key-preserved : goal.loop-key-preserved
loop-key-preserved c =
    let whole : List Text = keys_with c.args.front.now (keys_of c.args.places.now.entries) in
    ap (λ (xs : List Text). xs ++ keys_with c.args.front.now (keys_of c.next.new.self)) c.in_ok-add.ensures
    ∙ picked-next (λ (k : Text). starts_with nat_eq k c.args.front.now) c.in-Some.key.now (keys_of c.next.new.self) c.loop-key.keys.items whole c.is_with.result c.is_with.ensures
    (subst (λ (es : Places). c.loop-key.keys.items ++ keys_with c.args.front.now (keys_of es) ≡ whole) c.in-Some.ensures.steps c.loop-key.invariant)
