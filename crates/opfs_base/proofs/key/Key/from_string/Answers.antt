use Rattle.std.proofs.lemmas.Str.{IsUtf8-string_bytes}
use Rattle.opfs_base.proofs.key.Key.from_string.Goals as goal

pub invariant_of-result : goal.invariant_of-result
invariant_of-result c =
    rw c.from_vec-text.ensures (rw c.into_bytes.ensures.value (IsUtf8-string_bytes c.args.text))
