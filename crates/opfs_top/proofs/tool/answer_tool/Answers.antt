use Rattle.std.proofs.Common.{◌⊎◌, sym, subst}
use Rattle.std.proofs.lemmas.Result.{IfOk-weaker}
use Rattle.opfs_commands.specs.Commands.{meant, on_image, IsAsked}
use Rattle.opfs_commands.specs.Telling.{IsStoodFor}
use Rattle.opfs_migrate.specs.Migrating.{StandsEither}
use Rattle.opfs_outside.specs.Turns.{of_host, of_sink, ImageStays}
use Rattle.opfs_top.specs.Doing.{ToolEnded}
use Rattle.opfs_top.proofs.Hosts.{image_migrated, image_named, image_told, load_no_migration, load_told, load_tool_ends, no_tool_ends, no_tool_of, no_tool_of_nothing, not_image, not_named, not_text, tool_ends, tool_image, tool_load}
use Rattle.opfs_top.proofs.Telling.{told_nothing, told_wider, usage_ended}
use Rattle.opfs_top.proofs.Made.{image_makes, load_makes}
use Rattle.opfs_top.proofs.tool.answer_tool.Goals as goal

pub returns-in-Some-OnImage-clause-told : goal.returns-in-Some-OnImage-clause-told
returns-in-Some-OnImage-clause-told g c =
    let asked = (subst (λ r. IsAsked c.args.words.now (meant r)) c.in-Some-OnImage.field-0-is c.in-Some-OnImage.ensures.some) in
    told_wider (of_sink g.K.Sink c.args.sink.now c.answer_image.new.sink) _ _ _ _
    (λ t is. record { command = on_image c.in-Some-OnImage.path.now c.in-Some-OnImage.action; asked = asked; holds = is })
    (λ e t is. tool_ends c.args.words.now (of_host g.H.Host c.args.host.now c.answer_image.new.host) c.in-Some-OnImage.path.now c.in-Some-OnImage.action asked e t is)
    c.answer_image.result c.answer_image.ensures.told

pub returns-in-Some-OnImage-clause-others : goal.returns-in-Some-OnImage-clause-others
returns-in-Some-OnImage-clause-others g c = λ told path other. c.answer_image.ensures.others told path (not_named c.args.words.now c.in-Some-OnImage.path.now c.in-Some-OnImage.action (subst (λ r. IsAsked c.args.words.now (meant r)) c.in-Some-OnImage.field-0-is c.in-Some-OnImage.ensures.some) path other)

pub returns-in-Some-OnImage-clause-reads : goal.returns-in-Some-OnImage-clause-reads
returns-in-Some-OnImage-clause-reads g c = λ told path is.
    let asked = image_told c.args.words.now c.in-Some-OnImage.path.now c.in-Some-OnImage.action (subst (λ r. IsAsked c.args.words.now (meant r)) c.in-Some-OnImage.field-0-is c.in-Some-OnImage.ensures.some) path is in
    subst (λ p. ImageStays (of_host g.H.Host c.args.host.now c.answer_image.new.host) p) (sym asked.0) (c.answer_image.ensures.reads asked.1 told)

pub returns-in-Some-OnImage-clause-trail : goal.returns-in-Some-OnImage-clause-trail
returns-in-Some-OnImage-clause-trail g c = λ told path is m stood c' left.
    let asked = image_migrated c.args.words.now c.in-Some-OnImage.path.now c.in-Some-OnImage.action (subst (λ r. IsAsked c.args.words.now (meant r)) c.in-Some-OnImage.field-0-is c.in-Some-OnImage.ensures.some) path is in
    subst (λ p. g.H.Host.trail c.answer_image.new.host p c' → g.H.Host.trail c.args.host.now p c' ⊎ StandsEither m c') (sym asked.0)
    (λ l. c.answer_image.ensures.trail asked.1 told m (subst (λ p. IsStoodFor m (g.H.Host.image c.args.host.now p)) asked.0 stood) c' l) left

pub returns-in-Some-OnImage-clause-refused : goal.returns-in-Some-OnImage-clause-refused
returns-in-Some-OnImage-clause-refused g c =
    let asked = (subst (λ r. IsAsked c.args.words.now (meant r)) c.in-Some-OnImage.field-0-is c.in-Some-OnImage.ensures.some) in
    IfOk-weaker c.answer_image.result _ _
    (λ a is same told path names. subst (λ p. ImageStays (of_host g.H.Host c.args.host.now c.answer_image.new.host) p) (sym (image_named c.args.words.now c.in-Some-OnImage.path.now c.in-Some-OnImage.action asked path names)) (is same told))
    c.answer_image.ensures.refused

pub returns-in-Some-OnImage-clause-none : goal.returns-in-Some-OnImage-clause-none
returns-in-Some-OnImage-clause-none g c = λ none. absurd (none (tool_image c.args.words.now c.in-Some-OnImage.path.now c.in-Some-OnImage.action (subst (λ r. IsAsked c.args.words.now (meant r)) c.in-Some-OnImage.field-0-is c.in-Some-OnImage.ensures.some)))

pub returns-in-Some-Load-clause-told : goal.returns-in-Some-Load-clause-told
returns-in-Some-Load-clause-told g c =
    told_nothing g.K.Sink c.args.sink.now _ (ToolEnded c.args.words.now (of_host g.H.Host c.args.host.now c.answer_load.new.host)) (λ t x. x) c.answer_load.result
    (IfOk-weaker c.answer_load.result _ _ (λ a is. load_tool_ends c.args.words.now (of_host g.H.Host c.args.host.now c.answer_load.new.host) c.in-Some-Load.image.now c.in-Some-Load.text.now (subst (λ r. IsAsked c.args.words.now (meant r)) c.in-Some-Load.field-0-is c.in-Some-Load.ensures.some) a.status a.text is) c.answer_load.ensures.ended)

pub returns-in-Some-Load-clause-others : goal.returns-in-Some-Load-clause-others
returns-in-Some-Load-clause-others g c = λ told path other. c.answer_load.ensures.others told path (not_image c.args.words.now c.in-Some-Load.image.now c.in-Some-Load.text.now (subst (λ r. IsAsked c.args.words.now (meant r)) c.in-Some-Load.field-0-is c.in-Some-Load.ensures.some) path other) (not_text c.args.words.now c.in-Some-Load.image.now c.in-Some-Load.text.now (subst (λ r. IsAsked c.args.words.now (meant r)) c.in-Some-Load.field-0-is c.in-Some-Load.ensures.some) path other)

pub returns-in-Some-Load-clause-reads : goal.returns-in-Some-Load-clause-reads
returns-in-Some-Load-clause-reads g c = λ told path is.
    let asked = load_told c.args.words.now c.in-Some-Load.image.now c.in-Some-Load.text.now (subst (λ r. IsAsked c.args.words.now (meant r)) c.in-Some-Load.field-0-is c.in-Some-Load.ensures.some) path is in
    subst (λ p. ImageStays (of_host g.H.Host c.args.host.now c.answer_load.new.host) p) (sym asked.0) (c.answer_load.ensures.reads told asked.1)

pub returns-in-Some-Load-clause-refused : goal.returns-in-Some-Load-clause-refused
returns-in-Some-Load-clause-refused g c = IfOk-weaker c.answer_load.result _ _ (λ a is same told path asked. is same told path) c.answer_load.ensures.refused

pub returns-in-Some-Load-clause-trail : goal.returns-in-Some-Load-clause-trail
returns-in-Some-Load-clause-trail g c = λ told path is. absurd (load_no_migration c.args.words.now c.in-Some-Load.image.now c.in-Some-Load.text.now (subst (λ r. IsAsked c.args.words.now (meant r)) c.in-Some-Load.field-0-is c.in-Some-Load.ensures.some) path is)

pub returns-in-Some-Load-clause-none : goal.returns-in-Some-Load-clause-none
returns-in-Some-Load-clause-none g c = λ none. absurd (none (tool_load c.args.words.now c.in-Some-Load.image.now c.in-Some-Load.text.now (subst (λ r. IsAsked c.args.words.now (meant r)) c.in-Some-Load.field-0-is c.in-Some-Load.ensures.some)))

pub returns-in-Some-Run-clause-told : goal.returns-in-Some-Run-clause-told
returns-in-Some-Run-clause-told g c =
    told_nothing g.K.Sink c.args.sink.now _ (ToolEnded c.args.words.now (of_host g.H.Host c.args.host.now c.args.host.now)) (λ t x. x) c.answer_nothing.result
    (usage_ended (ToolEnded c.args.words.now (of_host g.H.Host c.args.host.now c.args.host.now)) _ c.answer_nothing.result (λ e t is line. no_tool_ends c.args.words.now (of_host g.H.Host c.args.host.now c.args.host.now) (no_tool_of c.args.words.now _ (λ x. x) (subst (λ r. IsAsked c.args.words.now (meant r)) c.in-Some-Run.field-0-is c.in-Some-Run.ensures.some)) e t is line) c.answer_nothing.ensures.status c.answer_nothing.ensures.text)

pub returns-in-Some-Try-clause-told : goal.returns-in-Some-Try-clause-told
returns-in-Some-Try-clause-told g c =
    told_nothing g.K.Sink c.args.sink.now _ (ToolEnded c.args.words.now (of_host g.H.Host c.args.host.now c.args.host.now)) (λ t x. x) c.answer_nothing-in-Some-Try.result
    (usage_ended (ToolEnded c.args.words.now (of_host g.H.Host c.args.host.now c.args.host.now)) _ c.answer_nothing-in-Some-Try.result (λ e t is line. no_tool_ends c.args.words.now (of_host g.H.Host c.args.host.now c.args.host.now) (no_tool_of c.args.words.now _ (λ x. x) (subst (λ r. IsAsked c.args.words.now (meant r)) c.in-Some-Try.field-0-is c.in-Some-Try.ensures.some)) e t is line) c.answer_nothing-in-Some-Try.ensures.status c.answer_nothing-in-Some-Try.ensures.text)

pub returns-in-Some-Judge-clause-told : goal.returns-in-Some-Judge-clause-told
returns-in-Some-Judge-clause-told g c =
    told_nothing g.K.Sink c.args.sink.now _ (ToolEnded c.args.words.now (of_host g.H.Host c.args.host.now c.args.host.now)) (λ t x. x) c.answer_nothing-in-Some-Judge.result
    (usage_ended (ToolEnded c.args.words.now (of_host g.H.Host c.args.host.now c.args.host.now)) _ c.answer_nothing-in-Some-Judge.result (λ e t is line. no_tool_ends c.args.words.now (of_host g.H.Host c.args.host.now c.args.host.now) (no_tool_of c.args.words.now _ (λ x. x) (subst (λ r. IsAsked c.args.words.now (meant r)) c.in-Some-Judge.field-0-is c.in-Some-Judge.ensures.some)) e t is line) c.answer_nothing-in-Some-Judge.ensures.status c.answer_nothing-in-Some-Judge.ensures.text)

pub returns-in-Some-Generate-clause-told : goal.returns-in-Some-Generate-clause-told
returns-in-Some-Generate-clause-told g c =
    told_nothing g.K.Sink c.args.sink.now _ (ToolEnded c.args.words.now (of_host g.H.Host c.args.host.now c.args.host.now)) (λ t x. x) c.answer_nothing-in-Some-Generate.result
    (usage_ended (ToolEnded c.args.words.now (of_host g.H.Host c.args.host.now c.args.host.now)) _ c.answer_nothing-in-Some-Generate.result (λ e t is line. no_tool_ends c.args.words.now (of_host g.H.Host c.args.host.now c.args.host.now) (no_tool_of c.args.words.now _ (λ x. x) (subst (λ r. IsAsked c.args.words.now (meant r)) c.in-Some-Generate.field-0-is c.in-Some-Generate.ensures.some)) e t is line) c.answer_nothing-in-Some-Generate.ensures.status c.answer_nothing-in-Some-Generate.ensures.text)

pub returns-in-None-clause-told : goal.returns-in-None-clause-told
returns-in-None-clause-told g c =
    told_nothing g.K.Sink c.args.sink.now _ (ToolEnded c.args.words.now (of_host g.H.Host c.args.host.now c.args.host.now)) (λ t x. x) c.answer_nothing-in-None.result
    (usage_ended (ToolEnded c.args.words.now (of_host g.H.Host c.args.host.now c.args.host.now)) _ c.answer_nothing-in-None.result (λ e t is line. no_tool_ends c.args.words.now (of_host g.H.Host c.args.host.now c.args.host.now) (no_tool_of_nothing c.args.words.now c.in-None.ensures.none) e t is line) c.answer_nothing-in-None.ensures.status c.answer_nothing-in-None.ensures.text)

pub returns-in-Some-OnImage-clause-made : goal.returns-in-Some-OnImage-clause-made
returns-in-Some-OnImage-clause-made g c = λ told path is.
    image_makes c.args.words.now (of_host g.H.Host c.args.host.now c.answer_image.new.host) c.in-Some-OnImage.path.now c.in-Some-OnImage.action (subst (λ r. IsAsked c.args.words.now (meant r)) c.in-Some-OnImage.field-0-is c.in-Some-OnImage.ensures.some) path _ is (λ making. c.answer_image.ensures.made making told)

pub returns-in-Some-Load-clause-made : goal.returns-in-Some-Load-clause-made
returns-in-Some-Load-clause-made g c = λ told path is.
    load_makes c.args.words.now (of_host g.H.Host c.args.host.now c.answer_load.new.host) c.in-Some-Load.image.now c.in-Some-Load.text.now (subst (λ r. IsAsked c.args.words.now (meant r)) c.in-Some-Load.field-0-is c.in-Some-Load.ensures.some) path _ is (c.answer_load.ensures.made told)
