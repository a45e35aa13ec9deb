-- `of` makes a value of no bytes, and the proof chooses what clauses see of it: what the history shows.
use Rattle.std.proofs.Common.{[], ◌∷◌, refl}
use mir.Syntax.{named}
use mir.Val.{Val, vptr, vstruct, vcons, vnil}
use base.Fml.{Fml}
use contract.Running.{tables}
use types.Kit.{‵, raw, ◌⊛◌, ◌$◌, ◌∵◌, !, qed, done, move, keep, use0, split, join, fjoin, suffices}
use types.Run.{enter, no_more, and_then, returns}
use types.Part.{agg}
use types.ByLocal.{alloc_all, pass_all, free_all, look_at, get, sets}
use denote.RattleType.{owns}
use denote.Builtin.{RefOf}
use denote.Exit.{yes}
use denote.Ref.{shr_vals, shr_Tells}
use denote.Shadow.{makes_shadow}
use denote.Signature.{types_at, type_at, plain}
use denote.Steps.{nothing}
use denote.Triple.Entry.{alive, Res}
use denote.Triple.Walked.{says, Stays, stay_dropped, walk_of, ends_at, Goes-dropped}
use Rattle.std.proofs.raw_atomic.Walks.{proved}
use Rattle.opfs_hist.specs.contracts.history.History.{the_row}
use Rattle.opfs_hist.specs.contracts.front.Front.of as promised
use Rattle.opfs_hist.proofs.front.Front.of.Statement.{statement}
use Rattle.opfs_hist.proofs.front.Front.of.Code as code

-- a struct of one field of no bytes
abbrev empty_struct : Val
empty_struct = vstruct vnil

abbrev front_value : Val
front_value = vstruct (vcons empty_struct vnil)

pub of_spec : {M : Type 1} → statement M
of_spec 𝓤 𝓛 𝓜 𝓡 wired =
    let ended = promised.ended in
    let clauses = promised.clauses 𝓛 𝓜.mem 𝓡.returns in
    let borrowed = RefOf (0 ∷ []) tt (plain (λ _. the_row)) (λ _. tt) in
    let stays : Stays ended.signature.params ended.kept = (stay_dropped borrowed yes, tt) in
    let W = walk_of 𝓛 ended stays clauses in
    let 𝓣 = tables 𝓤 𝓛.H 𝓜 𝓡 𝓡.env in
    proved 𝓛 ended stays clauses 𝓜 𝓡 (Goes-dropped 𝓛 1 borrowed yes (λ κs x w. refl), tt)
    promised.Key.name code.function (code.unfolded 𝓤 𝓛.H 𝓜 𝓡 wired)
    (λ κs. (shr_vals, tt)) (λ κs. (shr_Tells (named 0) κs.0 the_row, tt)) (λ κs qs bounds a none are.
    let pointer : Val = vptr a.0.ref_ptr.0 a.0.ref_ptr.1 in
    let y : W.Ghost = ((κs, qs, bounds, a, (pointer ∷ [], tt)), none) in
    let made : Res ended.signature κs = record { marker = record {}; entries = a.0.now } in
    let Made : Fml = (type_at ended.signature.result κs).own_val made (front_value ∷ []) in
    qed 𝓛 ((raw (alive 𝓛 ended.signature κs qs) ⊛ ‵ (owns (types_at ended.signature.params κs) a y.0.4)) ∷ raw ((clauses κs a).requires none) ∷ []) ∵
    split ! $ keep ! (0 ∷ []) $
    -- [the token]
    enter ! _ _ _ _ _ $ alloc_all ! (λ l. pass_all ! refl ((tt, tt), tt) $
    sets ! (agg ! (no_more !)) refl (tt, tt) $
    sets ! (agg ! (and_then ! (get ! refl) (no_more !))) refl (tt, (tt, tt)) $
    returns ! (look_at ! 0 refl) $ free_all ! refl $
    use0 𝓛 (‵ Made) (makes_shadow 𝓛 Made ((λ outer. (tt, ((λ inner. (tt, tt)), tt))), tt) (((empty_struct ∷ [], tt), (refl, ((tt, (refl, tt)), tt))), tt)) $
    -- [the value; the token]
    suffices ! _ (ends_at 𝓛 ended stays clauses y front_value made (tt, tt) (tt, tt)) $ says ! refl $
    nothing ! $ nothing ! $ fjoin ! $ join ! $ move ! (1 ∷ 0 ∷ []) $ join ! $ done !))
