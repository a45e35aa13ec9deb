use Rattle.opfs_outside.specs.Turns.{of_sink}
use Rattle.opfs_commands.proofs.Dumping.{put_nothing, put_wider}
use Rattle.opfs_commands.proofs.running.run_command.Goals as goal

pub returns-in-Format-clause-put : goal.returns-in-Format-clause-put
returns-in-Format-clause-put g c = rw c.in-Format.is (put_nothing g.K.Sink c.args.sink.now g.H.Host.tells _ _ _ _ c.format_at.result c.format_at.ensures.answer)

pub returns-in-List-clause-put : goal.returns-in-List-clause-put
returns-in-List-clause-put g c = rw c.in-List.is (put_nothing g.K.Sink c.args.sink.now g.H.Host.tells _ _ _ _ c.read_at.result c.read_at.ensures.answer)

pub returns-in-Check-clause-put : goal.returns-in-Check-clause-put
returns-in-Check-clause-put g c = rw c.in-Check.is (put_nothing g.K.Sink c.args.sink.now g.H.Host.tells _ _ _ _ c.read_at-in-Check.result c.read_at-in-Check.ensures.answer)

pub returns-in-Migrate-clause-put : goal.returns-in-Migrate-clause-put
returns-in-Migrate-clause-put g c = rw c.in-Migrate.is (put_nothing g.K.Sink c.args.sink.now g.H.Host.tells _ _ _ _ c.migrate_at.result c.migrate_at.ensures.answer)

pub returns-in-Dump-clause-put : goal.returns-in-Dump-clause-put
returns-in-Dump-clause-put g c = rw c.in-Dump.is
    (put_wider (of_sink g.K.Sink c.args.sink.now c.dump_at.new.sink) _ _ _ _ _ _ _ _ (λ t is. (tt, is)) (λ t is. is) (λ t is. is) (λ rose. rose) c.dump_at.result c.dump_at.ensures.put)

pub returns-in-Format-clause-others : goal.returns-in-Format-clause-others
returns-in-Format-clause-others g c = c.format_at.ensures.others
