use Rattle.opfs_base.proofs.KeyLemmas.{is_origin-origin_text, is_one_line-origin_text}
use Rattle.opfs_base.proofs.key.Key.of_url.Goals as goal

pub returns-clause-origin : goal.returns-clause-origin
returns-clause-origin c =
    rw (c.from_string.ensures, c.in-Ok-origin_text.ensures) (is_origin-origin_text _ c.scheme.ensures.valid)

pub returns-clause-line : goal.returns-clause-line
returns-clause-line c =
    rw (c.from_string.ensures, c.in-Ok-origin_text.ensures) (is_one_line-origin_text _ c.scheme.ensures.valid)
