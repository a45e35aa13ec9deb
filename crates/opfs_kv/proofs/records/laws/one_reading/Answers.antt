use Rattle.std.proofs.Common.{sym, ap, ◌∙◌, length, drop, refl}
use Rattle.std.proofs.lemmas.List.{drop_at}
use Rattle.opfs_kv.specs.Records.Records.{log_of}
use Rattle.opfs_kv.proofs.records.Spelled.{one-record, one-list, no-bad}
use Rattle.opfs_kv.proofs.records.laws.one_reading.Goals as goal

pub returns-clause-first : goal.returns-clause-first
returns-clause-first c a b x y good fine is = one-record a b x y good fine is

pub returns-clause-all : goal.returns-clause-all
returns-clause-all c bytes some others p q = one-list some others p.good q.good (sym p.are ∙ q.are)

pub returns-clause-bad : goal.returns-clause-bad
returns-clause-bad c bytes records front rest log good is some bad =
    no-bad records front rest log.good good (sym log.are ∙ is) some
    (λ r x fine e. bad r x fine (ap (drop (length (log_of front))) is ∙ drop_at (log_of front) rest (length (log_of front)) refl ∙ e))
