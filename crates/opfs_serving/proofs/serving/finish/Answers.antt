use Rattle.opfs_runner.proofs.Joining.{owners}
use Rattle.opfs_serving.proofs.Greeting.{serving-ends, serving-gone, serving-has_all}
use Rattle.opfs_serving.specs.Served.{words}
use Rattle.opfs_serving.proofs.serving.finish.Goals as goal

pub end_all-last-requires : goal.end_all-last-requires
end_all-last-requires g c =
    let s = c.requires.serves in
    record { serves = record { agents = s.agents; begun = s.begun; is = c.end_idle-idle.ensures.on_with s.agents s.begun s.is } }

pub clear-requires : goal.clear-requires
clear-requires g c =
    let w = words g.S.Chronicle.opening g.S.Store.opened g.S.Chronicle.entries g.S.Store.keeps g.S.Chronicle.goes_on g.S.Store.tells g.P.Port.tells g.P.Port.said g.P.Port.faults in
    let s = c.requires.serves in
    let last = c.end_all-last.ensures.on_with s.agents s.begun (c.end_idle-idle.ensures.on_with s.agents s.begun s.is) in
    record {
      gone = serving-gone w g.S.Chronicle.lasts g.S.Chronicle.stays c.args.hall s.agents s.begun c.end_all-last.new.port c.end_all-last.result c.end_all-last.new.table.seats.items c.end_all-last.new.table.progress last c.end_all-last.ensures.all;
    }

pub close-store-requires-clause-own : goal.close-store-requires-clause-own
close-store-requires-clause-own g c =
    let s = c.requires.serves in
    (c.end_all-last.ensures.on_with s.agents s.begun (c.end_idle-idle.ensures.on_with s.agents s.begun s.is)).stands.hall

pub close-store-requires-clause-all : goal.close-store-requires-clause-all
close-store-requires-clause-all g c =
    let w = words g.S.Chronicle.opening g.S.Store.opened g.S.Chronicle.entries g.S.Store.keeps g.S.Chronicle.goes_on g.S.Store.tells g.P.Port.tells g.P.Port.said g.P.Port.faults in
    let s = c.requires.serves in
    let last = c.end_all-last.ensures.on_with s.agents s.begun (c.end_idle-idle.ensures.on_with s.agents s.begun s.is) in
    serving-has_all w g.S.Chronicle.lasts g.S.Chronicle.stays c.args.hall s.agents s.begun c.end_all-last.new.port c.end_all-last.result c.end_all-last.new.table.seats.items c.end_all-last.new.table.progress last c.end_all-last.ensures.all

pub returns-clause-served : goal.returns-clause-served
returns-clause-served g c = λ agents begun is.
    let w = words g.S.Chronicle.opening g.S.Store.opened g.S.Chronicle.entries g.S.Store.keeps g.S.Chronicle.goes_on g.S.Store.tells g.P.Port.tells g.P.Port.said g.P.Port.faults in
    let last = c.end_all-last.ensures.on_with agents begun (c.end_idle-idle.ensures.on_with agents begun is) in
    serving-ends w g.S.Chronicle.lasts g.S.Chronicle.stays c.args.hall agents begun c.end_all-last.new.port c.end_all-last.result c.end_all-last.new.table.seats.items c.end_all-last.new.table.progress last c.end_all-last.ensures.all
    c.close-store.result c.tell_entries.new.store c.tell_entries.ensures.store c.close-store.ensures.opening c.close-store.ensures.goes c.close-store.ensures.kept c.know_kept.ensures
    (owners g.S.Chronicle.owner g.met.S.Store.owned (g.S.Chronicle.entries c.close-store.result) c.end_all-last.result.pass.ended c.close-store.ensures.ended)
    c.tell_entries.new.port c.tell_entries.new.progress c.tell_entries.ensures.told
