-- `such` makes a value of no bytes, at a value that has the property.
use Rattle.std.proofs.Common.{[], ◌∷◌, refl}
use mir.Syntax.{a_type, dcons, dnil, named}
use mir.Val.{Val, vptr, vstruct, vcons, vnil}
use mir.MapTy.{inst_fn}
use base.Logic.{SProp, emp}
use base.Fml.{Fml, ftrue}
use types.Kit.{‵, raw, given, ◌⊛◌, ◌$◌, ◌∵◌, !, qed, by, keep, drop, learn, use0, split, fjoin}
use types.Run.{no_more, and_then, returns, enter}
use types.ByLocal.{alloc_all, pass_all, free_all, look_at, get, sets}
use types.Part.{agg}
use contract.Running.{tables}
use contract.Monad.{fact, fact_i}
use denote.Exit.{yes}
use denote.RattleType.{RattleType, owns}
use denote.Signature.{types_at, plain}
use denote.Steps.{nothing}
use denote.Param.{param, bounded}
use denote.Builtin.{RefOf}
use denote.Ref.{shr_vals, shr_Tells}
use denote.Shadow.{makes_shadow}
use denote.Triple.Entry.{alive}
use denote.Triple.Walked.{Stays, stay_dropped, walk_of, Goes-dropped}
use Rattle.atomic_table.proofs.Walks.{proved, leaves}
use Rattle.turn_lock.specs.contracts.said.Said as Said
use Rattle.turn_lock.specs.contracts.said.Said.such.{ended, clauses}
use Rattle.turn_lock.specs.contracts.said.Said.such.Key.{name as #self}
use Rattle.turn_lock.proofs.said.Said.such.Statement.{statement}
use Rattle.turn_lock.proofs.said.Said.such.Code as code

abbrev token_val : Val
token_val = vstruct (vcons (vstruct vnil) vnil)

pub such_spec : {M : Type 1} → statement M
such_spec 𝓤 𝓛 𝓜 𝓡 wired A X P LA LX LP g d _ =
    let H = 𝓛.H in let 𝓣 = tables 𝓤 H 𝓜 𝓡 𝓡.env in let R : RattleType = param 0 A in let En = ended A X P g d in
    let inst = bounded (a_type ∷ a_type ∷ a_type ∷ []) (A, (X, (P, tt))) (dcons d dnil) in let fn = inst_fn inst code.function in let c = clauses A X P g d 𝓛 𝓜.mem 𝓡.returns in
    let arg = RefOf (0 ∷ []) tt (plain (λ _. param 1 X)) (λ _. tt) in let hs : Stays En.signature.params En.kept = (stay_dropped arg yes, tt) in
    proved 𝓛 En hs c 𝓜 𝓡 (Goes-dropped 𝓛 4 arg yes (λ κs x f. refl), tt) (#self inst) fn (code.unfolded 𝓤 H 𝓜 𝓡 wired (A, (X, (P, tt))) d)
    (λ κs. (shr_vals, tt)) (λ κs. (shr_Tells (named 0) κs.0 (param 1 X), tt)) (λ κs qs bounds a gh are.
    let p : Val = vptr a.0.ref_ptr.0 a.0.ref_ptr.1 in
    let y : (walk_of 𝓛 En hs c).Ghost = ((κs, qs, bounds, a, (p ∷ [], tt)), gh) in let Post : Val → SProp 𝓤 = (walk_of 𝓛 En hs c).post y in
    qed 𝓛 ((raw (alive 𝓛 En.signature κs qs) ⊛ ‵ (owns (types_at En.signature.params κs) a y.0.4)) ∷ raw (fact 𝓤 _) ∷ raw (fact 𝓤 _) ∷ raw (fact 𝓤 _)
    ∷ given ((v : A.Denot) × g.holds a.0.now v) (‵ ftrue) ∷ []) ∵ keep ! (4 ∷ 0 ∷ []) $
    learn ! (λ asked. let r : (Said.the_row R).Denot = record { marker = record {}; value = asked.0 } in let F : Fml = (Said.the_row R).own_val r (token_val ∷ []) in
    let Has : Type 0 = g.holds a.0.now asked.0 in drop ! $ split ! $ keep ! (0 ∷ []) $
    enter ! 𝓣.C 𝓣.Λ fn (p ∷ []) Post $ alloc_all ! (λ l. pass_all ! refl ((tt, tt), tt) $
    sets ! (agg ! (no_more !)) refl (tt, tt) $ sets ! (agg ! (and_then ! (get ! refl) (no_more !))) refl (tt, (tt, tt)) $
    use0 𝓛 (raw (fact 𝓤 Has)) (fact_i 𝓤 Has (emp 𝓤) asked.1) $
    use0 𝓛 (‵ F) (makes_shadow 𝓛 F ((λ vss. (tt, ((λ uss. (tt, tt)), tt))), tt) (((vstruct vnil ∷ [], tt), (refl, ((tt, (refl, tt)), tt))), tt)) $ nothing ! $ nothing ! $ fjoin ! $
    returns ! (look_at ! 0 refl) $ free_all ! refl $ keep ! (3 ∷ 0 ∷ 1 ∷ 2 ∷ []) $ by ! (leaves 𝓛 En hs c y token_val r (tt, tt) (tt, tt)))))
