use Rattle.std.proofs.Common.{◌⊎◌, inl, sym, subst}
use Rattle.std.proofs.lemmas.Result.{IfOk-weaker}
use Rattle.opfs_commands.specs.Commands.{meant, on_image, running, IsAsked}
use Rattle.opfs_commands.specs.Telling.{IsStoodFor}
use Rattle.opfs_migrate.specs.Migrating.{StandsEither}
use Rattle.opfs_outside.specs.Turns.{of_host, of_sink, of_source, ImageStays}
use Rattle.opfs_top.specs.Doing.{Ended}
use Rattle.opfs_top.proofs.Hosts.{image_ends, image_migrated, image_named, image_told, judgement_ends, large_run_told, load_ends, load_no_migration, load_told, not_image, not_named, not_text, nothing_ends, takes_image, takes_load, trial_ends}
use Rattle.opfs_top.proofs.Running.{image_never_early, left_of_image, left_of_load, left_of_run, load_late, not_run, not_run_path, refused_stays, run_named, run_no_migration, run_tells_none, run_told, takes_run}
use Rattle.opfs_top.proofs.Telling.{told_nothing, told_wider, usage_ended}
use Rattle.opfs_top.proofs.Made.{image_makes, load_makes, none_makes}
use Rattle.opfs_top.proofs.tool.answer_to.Goals as goal

pub returns-in-Some-OnImage-clause-told : goal.returns-in-Some-OnImage-clause-told
returns-in-Some-OnImage-clause-told g c =
    let asked = (subst (λ r. IsAsked c.args.words.now (meant r)) c.in-Some-OnImage.field-0-is c.in-Some-OnImage.ensures.some) in
    told_wider (of_sink g.K.Sink c.args.sink.now c.answer_image.new.sink) _ _ _ _
    (λ t is. record { command = on_image c.in-Some-OnImage.path.now c.in-Some-OnImage.action; asked = asked; holds = is })
    (λ e t is. image_ends c.args.words.now (of_source g.S.Source c.args.source.now c.args.source.now) (of_host g.H.Host c.args.host.now c.answer_image.new.host) c.in-Some-OnImage.path.now c.in-Some-OnImage.action asked e t is)
    c.answer_image.result c.answer_image.ensures.told

pub returns-in-Some-OnImage-clause-others : goal.returns-in-Some-OnImage-clause-others
returns-in-Some-OnImage-clause-others g c = λ told path other. c.answer_image.ensures.others told path (not_named c.args.words.now c.in-Some-OnImage.path.now c.in-Some-OnImage.action (subst (λ r. IsAsked c.args.words.now (meant r)) c.in-Some-OnImage.field-0-is c.in-Some-OnImage.ensures.some) path other)

pub returns-in-Some-OnImage-clause-reads : goal.returns-in-Some-OnImage-clause-reads
returns-in-Some-OnImage-clause-reads g c = λ told path is.
    let asked = image_told c.args.words.now c.in-Some-OnImage.path.now c.in-Some-OnImage.action (subst (λ r. IsAsked c.args.words.now (meant r)) c.in-Some-OnImage.field-0-is c.in-Some-OnImage.ensures.some) path is in
    subst (λ p. ImageStays (of_host g.H.Host c.args.host.now c.answer_image.new.host) p) (sym asked.0) (c.answer_image.ensures.reads asked.1 told)

pub returns-in-Some-OnImage-clause-trail : goal.returns-in-Some-OnImage-clause-trail
returns-in-Some-OnImage-clause-trail g c = λ told path is m stood c' left.
    let asked = image_migrated c.args.words.now c.in-Some-OnImage.path.now c.in-Some-OnImage.action (subst (λ r. IsAsked c.args.words.now (meant r)) c.in-Some-OnImage.field-0-is c.in-Some-OnImage.ensures.some) path is in
    subst (λ p. g.H.Host.trail c.answer_image.new.host p c' → g.H.Host.trail c.args.host.now p c' ⊎ StandsEither m c') (sym asked.0)
    (λ l. c.answer_image.ensures.trail asked.1 told m (subst (λ p. IsStoodFor m (g.H.Host.image c.args.host.now p)) asked.0 stood) c' l) left

pub returns-in-Some-OnImage-clause-refused : goal.returns-in-Some-OnImage-clause-refused
returns-in-Some-OnImage-clause-refused g c =
    let asked = (subst (λ r. IsAsked c.args.words.now (meant r)) c.in-Some-OnImage.field-0-is c.in-Some-OnImage.ensures.some) in
    IfOk-weaker c.answer_image.result _ _
    (λ a is same told path names. subst (λ p. ImageStays (of_host g.H.Host c.args.host.now c.answer_image.new.host) p) (sym (image_named c.args.words.now c.in-Some-OnImage.path.now c.in-Some-OnImage.action asked path names)) (is same told))
    c.answer_image.ensures.refused

pub returns-in-Some-OnImage-clause-left : goal.returns-in-Some-OnImage-clause-left
returns-in-Some-OnImage-clause-left g c = left_of_image c.args.words.now (of_source g.S.Source c.args.source.now c.args.source.now) (of_host g.H.Host c.args.host.now c.answer_image.new.host) c.in-Some-OnImage.path.now c.in-Some-OnImage.action (subst (λ r. IsAsked c.args.words.now (meant r)) c.in-Some-OnImage.field-0-is c.in-Some-OnImage.ensures.some)

pub returns-in-Some-OnImage-clause-early : goal.returns-in-Some-OnImage-clause-early
returns-in-Some-OnImage-clause-early g c = image_never_early (of_sink g.K.Sink c.args.sink.now c.answer_image.new.sink) (of_host g.H.Host c.args.host.now c.answer_image.new.host) c.in-Some-OnImage.path.now c.in-Some-OnImage.action _ c.answer_image.result c.answer_image.ensures.told _

pub returns-in-Some-OnImage-clause-none : goal.returns-in-Some-OnImage-clause-none
returns-in-Some-OnImage-clause-none g c = λ none. absurd (none (takes_image c.args.words.now c.in-Some-OnImage.path.now c.in-Some-OnImage.action (subst (λ r. IsAsked c.args.words.now (meant r)) c.in-Some-OnImage.field-0-is c.in-Some-OnImage.ensures.some)))

pub returns-in-Some-Load-clause-told : goal.returns-in-Some-Load-clause-told
returns-in-Some-Load-clause-told g c =
    told_nothing g.K.Sink c.args.sink.now _ (Ended c.args.words.now (of_source g.S.Source c.args.source.now c.args.source.now) (of_host g.H.Host c.args.host.now c.answer_load.new.host)) (λ t x. x) c.answer_load.result
    (IfOk-weaker c.answer_load.result _ _ (λ a is. load_ends c.args.words.now (of_source g.S.Source c.args.source.now c.args.source.now) (of_host g.H.Host c.args.host.now c.answer_load.new.host) c.in-Some-Load.image.now c.in-Some-Load.text.now (subst (λ r. IsAsked c.args.words.now (meant r)) c.in-Some-Load.field-0-is c.in-Some-Load.ensures.some) a.status a.text is) c.answer_load.ensures.ended)

pub returns-in-Some-Load-clause-others : goal.returns-in-Some-Load-clause-others
returns-in-Some-Load-clause-others g c = λ told path other. c.answer_load.ensures.others told path (not_image c.args.words.now c.in-Some-Load.image.now c.in-Some-Load.text.now (subst (λ r. IsAsked c.args.words.now (meant r)) c.in-Some-Load.field-0-is c.in-Some-Load.ensures.some) path other) (not_text c.args.words.now c.in-Some-Load.image.now c.in-Some-Load.text.now (subst (λ r. IsAsked c.args.words.now (meant r)) c.in-Some-Load.field-0-is c.in-Some-Load.ensures.some) path other)

pub returns-in-Some-Load-clause-reads : goal.returns-in-Some-Load-clause-reads
returns-in-Some-Load-clause-reads g c = λ told path is.
    let asked = load_told c.args.words.now c.in-Some-Load.image.now c.in-Some-Load.text.now (subst (λ r. IsAsked c.args.words.now (meant r)) c.in-Some-Load.field-0-is c.in-Some-Load.ensures.some) path is in
    subst (λ p. ImageStays (of_host g.H.Host c.args.host.now c.answer_load.new.host) p) (sym asked.0) (c.answer_load.ensures.reads told asked.1)

pub returns-in-Some-Load-clause-refused : goal.returns-in-Some-Load-clause-refused
returns-in-Some-Load-clause-refused g c = IfOk-weaker c.answer_load.result _ _ (λ a is same told path asked. is same told path) c.answer_load.ensures.refused

pub returns-in-Some-Load-clause-trail : goal.returns-in-Some-Load-clause-trail
returns-in-Some-Load-clause-trail g c = λ told path is. absurd (load_no_migration c.args.words.now c.in-Some-Load.image.now c.in-Some-Load.text.now (subst (λ r. IsAsked c.args.words.now (meant r)) c.in-Some-Load.field-0-is c.in-Some-Load.ensures.some) path is)

pub returns-in-Some-Load-clause-none : goal.returns-in-Some-Load-clause-none
returns-in-Some-Load-clause-none g c = λ none. absurd (none (takes_load c.args.words.now c.in-Some-Load.image.now c.in-Some-Load.text.now (subst (λ r. IsAsked c.args.words.now (meant r)) c.in-Some-Load.field-0-is c.in-Some-Load.ensures.some)))

pub returns-in-Some-Load-clause-left : goal.returns-in-Some-Load-clause-left
returns-in-Some-Load-clause-left g c = left_of_load c.args.words.now (of_source g.S.Source c.args.source.now c.args.source.now) (of_host g.H.Host c.args.host.now c.answer_load.new.host) c.in-Some-Load.image.now c.in-Some-Load.text.now (subst (λ r. IsAsked c.args.words.now (meant r)) c.in-Some-Load.field-0-is c.in-Some-Load.ensures.some)

pub returns-in-Some-Load-clause-early : goal.returns-in-Some-Load-clause-early
returns-in-Some-Load-clause-early g c = IfOk-weaker c.answer_load.result _ _ (λ a is early. absurd (load_late (of_host g.H.Host c.args.host.now c.answer_load.new.host) c.in-Some-Load.image.now c.in-Some-Load.text.now a.status a.text is early)) c.answer_load.ensures.ended

pub returns-in-Some-Run-clause-told : goal.returns-in-Some-Run-clause-told
returns-in-Some-Run-clause-told g c = run_told c.args.words.now (of_source g.S.Source c.args.source.now c.run_script_at.new.source) (of_host g.H.Host c.args.host.now c.run_script_at.new.host) (of_sink g.K.Sink c.args.sink.now c.run_script_at.new.sink) c.in-Some-Run.path.now (subst (λ r. IsAsked c.args.words.now (meant r)) c.in-Some-Run.field-0-is c.in-Some-Run.ensures.some) c.run_script_at.result c.run_script_at.ensures.told

pub returns-in-Some-Run-clause-others : goal.returns-in-Some-Run-clause-others
returns-in-Some-Run-clause-others g c = λ told path other. c.run_script_at.ensures.others told path (not_run_path c.args.words.now c.in-Some-Run.path.now (subst (λ r. IsAsked c.args.words.now (meant r)) c.in-Some-Run.field-0-is c.in-Some-Run.ensures.some) path other)

pub returns-in-Some-Run-clause-reads : goal.returns-in-Some-Run-clause-reads
returns-in-Some-Run-clause-reads g c = λ told path is. absurd (run_tells_none c.args.words.now c.in-Some-Run.path.now (subst (λ r. IsAsked c.args.words.now (meant r)) c.in-Some-Run.field-0-is c.in-Some-Run.ensures.some) path is)

pub returns-in-Some-Run-clause-refused : goal.returns-in-Some-Run-clause-refused
returns-in-Some-Run-clause-refused g c =
    IfOk-weaker c.run_script_at.result _ _
    (λ a is same told path names. subst (λ p. ImageStays (of_host g.H.Host c.args.host.now c.run_script_at.new.host) p) (sym (run_named c.args.words.now c.in-Some-Run.path.now (subst (λ r. IsAsked c.args.words.now (meant r)) c.in-Some-Run.field-0-is c.in-Some-Run.ensures.some) path names)) (is same told))
    (refused_stays (of_source g.S.Source c.args.source.now c.run_script_at.new.source) (of_host g.H.Host c.args.host.now c.run_script_at.new.host) (of_sink g.K.Sink c.args.sink.now c.run_script_at.new.sink) c.in-Some-Run.path.now c.run_script_at.result c.run_script_at.ensures.told)

pub returns-in-Some-Run-clause-trail : goal.returns-in-Some-Run-clause-trail
returns-in-Some-Run-clause-trail g c = λ told path is. absurd (run_no_migration c.args.words.now c.in-Some-Run.path.now (subst (λ r. IsAsked c.args.words.now (meant r)) c.in-Some-Run.field-0-is c.in-Some-Run.ensures.some) path is)

pub returns-in-Some-Run-clause-left : goal.returns-in-Some-Run-clause-left
returns-in-Some-Run-clause-left g c = left_of_run c.args.words.now (of_source g.S.Source c.args.source.now c.run_script_at.new.source) (of_host g.H.Host c.args.host.now c.run_script_at.new.host) c.in-Some-Run.path.now (subst (λ r. IsAsked c.args.words.now (meant r)) c.in-Some-Run.field-0-is c.in-Some-Run.ensures.some) c.run_script_at.ensures.left

pub returns-in-Some-Run-clause-none : goal.returns-in-Some-Run-clause-none
returns-in-Some-Run-clause-none g c = λ none. absurd (none (takes_run c.args.words.now c.in-Some-Run.path.now (subst (λ r. IsAsked c.args.words.now (meant r)) c.in-Some-Run.field-0-is c.in-Some-Run.ensures.some)))

pub returns-in-Some-Try-clause-told : goal.returns-in-Some-Try-clause-told
returns-in-Some-Try-clause-told g c =
    told_nothing g.K.Sink c.args.sink.now _ (Ended c.args.words.now (of_source g.S.Source c.args.source.now c.answer_script.new.source) (of_host g.H.Host c.args.host.now c.args.host.now)) (λ t x. x) c.answer_script.result
    (IfOk-weaker c.answer_script.result _ _ (λ a is. trial_ends c.args.words.now (of_source g.S.Source c.args.source.now c.answer_script.new.source) (of_host g.H.Host c.args.host.now c.args.host.now) (subst (λ r. IsAsked c.args.words.now (meant r)) c.in-Some-Try.field-0-is c.in-Some-Try.ensures.some) a.status a.text is) c.answer_script.ensures)

pub returns-in-Some-Judge-clause-told : goal.returns-in-Some-Judge-clause-told
returns-in-Some-Judge-clause-told g c =
    told_nothing g.K.Sink c.args.sink.now _ (Ended c.args.words.now (of_source g.S.Source c.args.source.now c.answer_script-in-Some-Judge.new.source) (of_host g.H.Host c.args.host.now c.args.host.now)) (λ t x. x) c.answer_script-in-Some-Judge.result
    (IfOk-weaker c.answer_script-in-Some-Judge.result _ _ (λ a is. judgement_ends c.args.words.now (of_source g.S.Source c.args.source.now c.answer_script-in-Some-Judge.new.source) (of_host g.H.Host c.args.host.now c.args.host.now) (subst (λ r. IsAsked c.args.words.now (meant r)) c.in-Some-Judge.field-0-is c.in-Some-Judge.ensures.some) a.status a.text is) c.answer_script-in-Some-Judge.ensures)

pub returns-in-Some-Try-clause-left : goal.returns-in-Some-Try-clause-left
returns-in-Some-Try-clause-left g c = λ path is. inl (not_run g.H.Host c.args.host.now path)

pub returns-in-Some-Judge-clause-left : goal.returns-in-Some-Judge-clause-left
returns-in-Some-Judge-clause-left g c = λ path is. inl (not_run g.H.Host c.args.host.now path)

pub returns-in-Some-Generate-clause-told : goal.returns-in-Some-Generate-clause-told
returns-in-Some-Generate-clause-told g c =
    told_nothing g.K.Sink c.args.sink.now _ (Ended c.args.words.now (of_source g.S.Source c.args.source.now c.args.source.now) (of_host g.H.Host c.args.host.now c.args.host.now)) (λ t x. x) c.answer_large_run.result
    (large_run_told c.args.words.now (of_source g.S.Source c.args.source.now c.args.source.now) (of_host g.H.Host c.args.host.now c.args.host.now) c.in-Some-Generate.numbers (subst (λ r. IsAsked c.args.words.now (meant r)) c.in-Some-Generate.field-0-is c.in-Some-Generate.ensures.some) c.answer_large_run.result c.answer_large_run.ensures.status c.answer_large_run.ensures.text)

pub returns-in-Some-Generate-clause-left : goal.returns-in-Some-Generate-clause-left
returns-in-Some-Generate-clause-left g c = λ path is. inl (not_run g.H.Host c.args.host.now path)

pub returns-in-None-clause-left : goal.returns-in-None-clause-left
returns-in-None-clause-left g c = λ path is. inl (not_run g.H.Host c.args.host.now path)

pub returns-in-None-clause-told : goal.returns-in-None-clause-told
returns-in-None-clause-told g c =
    told_nothing g.K.Sink c.args.sink.now _ (Ended c.args.words.now (of_source g.S.Source c.args.source.now c.args.source.now) (of_host g.H.Host c.args.host.now c.args.host.now)) (λ t x. x) c.answer_nothing.result
    (usage_ended (Ended c.args.words.now (of_source g.S.Source c.args.source.now c.args.source.now) (of_host g.H.Host c.args.host.now c.args.host.now)) _ c.answer_nothing.result (λ e t is line. nothing_ends c.args.words.now (of_source g.S.Source c.args.source.now c.args.source.now) (of_host g.H.Host c.args.host.now c.args.host.now) c.in-None.ensures.none e t is line) c.answer_nothing.ensures.status c.answer_nothing.ensures.text)

pub returns-in-Some-OnImage-clause-made : goal.returns-in-Some-OnImage-clause-made
returns-in-Some-OnImage-clause-made g c = λ told path is.
    image_makes c.args.words.now (of_host g.H.Host c.args.host.now c.answer_image.new.host) c.in-Some-OnImage.path.now c.in-Some-OnImage.action (subst (λ r. IsAsked c.args.words.now (meant r)) c.in-Some-OnImage.field-0-is c.in-Some-OnImage.ensures.some) path _ is (λ making. c.answer_image.ensures.made making told)

pub returns-in-Some-Load-clause-made : goal.returns-in-Some-Load-clause-made
returns-in-Some-Load-clause-made g c = λ told path is.
    load_makes c.args.words.now (of_host g.H.Host c.args.host.now c.answer_load.new.host) c.in-Some-Load.image.now c.in-Some-Load.text.now (subst (λ r. IsAsked c.args.words.now (meant r)) c.in-Some-Load.field-0-is c.in-Some-Load.ensures.some) path _ is (c.answer_load.ensures.made told)

pub returns-in-Some-Run-clause-made : goal.returns-in-Some-Run-clause-made
returns-in-Some-Run-clause-made g c = λ told path is. absurd (none_makes c.args.words.now (running c.in-Some-Run.path.now) path (subst (λ r. IsAsked c.args.words.now (meant r)) c.in-Some-Run.field-0-is c.in-Some-Run.ensures.some) (λ never. never) is)
