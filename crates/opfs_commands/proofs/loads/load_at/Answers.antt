use Rattle.opfs_outside.specs.Turns.{of_host}
use Rattle.opfs_commands.proofs.Loading.{all_stay, before_on, failed_on, never_refused, refused_stays, stays_on, wider_answer}
use Rattle.opfs_commands.proofs.Making.{leaves_stays, made_after, stands_for}
use Rattle.opfs_commands.proofs.loads.load_at.Goals as goal

pub returns-in-Ok-clause-answer : goal.returns-in-Ok-clause-answer
returns-in-Ok-clause-answer g c =
    wider_answer g.H.Host.tells _ _ _ _ _ _ (λ told t is. record { dump = _; read = c.in-Ok.ensures.read told; laid = is }) (λ told t never. absurd never)
    (λ failed. failed_on g.H.Host c.args.host.now c.text_at.new.host c.lay_at.new.host c.text_at.ensures.later (g.met.H.Host.counted _) failed) c.lay_at.result c.lay_at.ensures.answer

pub returns-in-Ok-clause-others : goal.returns-in-Ok-clause-others
returns-in-Ok-clause-others g c = λ told path image text.
    before_on g.H.Host c.args.host.now c.text_at.new.host c.lay_at.new.host path ((c.text_at.ensures.stays told).others path text)
    (c.lay_at.ensures.others told path image)

pub returns-in-Ok-clause-reads : goal.returns-in-Ok-clause-reads
returns-in-Ok-clause-reads g c = λ told apart.
    stays_on g.H.Host c.args.host.now c.text_at.new.host c.lay_at.new.host c.args.text.now (c.text_at.ensures.stays told).stays
    (c.lay_at.ensures.others told c.args.text.now apart)

pub returns-in-Ok-clause-refused : goal.returns-in-Ok-clause-refused
returns-in-Ok-clause-refused g c = never_refused g.H.Host.tells _ _ _ c.lay_at.result c.lay_at.ensures.answer

pub returns-in-Err-clause-answer : goal.returns-in-Err-clause-answer
returns-in-Err-clause-answer g c =
    wider_answer g.H.Host.tells _ _ _ _ _ _ (λ told t never. absurd never) (λ told t is. is) (λ failed. failed) c.in-Err.answer c.in-Err.ensures.not

pub returns-in-Err-clause-others : goal.returns-in-Err-clause-others
returns-in-Err-clause-others g c = λ told path image text. (c.text_at.ensures.stays told).others path text

pub returns-in-Err-clause-reads : goal.returns-in-Err-clause-reads
returns-in-Err-clause-reads g c = λ told apart. (c.text_at.ensures.stays told).stays

pub returns-in-Err-clause-refused : goal.returns-in-Err-clause-refused
returns-in-Err-clause-refused g c =
    refused_stays _ c.in-Err.answer
    (λ told path. all_stay (of_host g.H.Host c.args.host.now c.text_at.new.host) c.args.text.now (c.text_at.ensures.stays told) path)

pub returns-in-Ok-clause-made : goal.returns-in-Ok-clause-made
returns-in-Ok-clause-made g c = λ told.
    made_after g.H.Host c.args.host.now c.text_at.new.host c.lay_at.new.host c.args.image.now _ _ _ _ c.text_at.ensures.later.own
    (λ d is. stands_for _ _ (c.in-Ok.ensures.read told) d is) (λ u. u)
    (all_stay (of_host g.H.Host c.args.host.now c.text_at.new.host) c.args.text.now (c.text_at.ensures.stays told) c.args.image.now) (c.lay_at.ensures.made told)

pub returns-in-Err-clause-made : goal.returns-in-Err-clause-made
returns-in-Err-clause-made g c = λ told.
    leaves_stays (of_host g.H.Host c.args.host.now c.text_at.new.host) c.args.image.now _ _
    (all_stay (of_host g.H.Host c.args.host.now c.text_at.new.host) c.args.text.now (c.text_at.ensures.stays told) c.args.image.now)
