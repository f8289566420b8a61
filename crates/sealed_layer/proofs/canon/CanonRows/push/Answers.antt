use Rattle.std.proofs.Common.{◌≡◌, ℕ, ◌+◌, ◌^◌, ◌<◌, ◌≤◌, Bool, cond, subst, vec_len, vec_capacity, true, false, [], ◌∷◌, ◌++◌, length, ap, sym, ◌∙◌, arith, rules, length-append}
use Rattle.std.specs.Prelude.{Some, None, MatchOption}
use Rattle.sector_extent.specs.Rows.{rows_for}
use Rattle.flat_image.specs.CanonicalFiles.{Stretch, parts_of, rows_from}
use Rattle.flat_image.specs.Stretches.{EndsBefore}
use Rattle.sealed_layer.specs.contracts.canon.CanonRows.{the_view}
use Rattle.sealed_layer.specs.Canon.{CanonState, rows_ahead, last_end}
use Rattle.sealed_layer.proofs.CanonLaws.{ahead_first, ahead_joined, ahead_fixed, length-rows_to}
use Rattle.sealed_layer.proofs.canon.CanonRows.push.Goals as goal
use Rattle.sealed_layer.proofs.canon.CanonRows.push.Goals.{else-run-zeroed-via-then-run-zeroed+else-run-extent, else-run-zeroed-via-else-run-zeroed}

cond_most : (zeroed : Bool) (place count : ℕ) → cond zeroed place (place + count) ≤ place + count
cond_most true place count = omega arith
cond_most false place count = omega arith

-- the sectors before the last run
before_run : (c : goal.After-self-else-run-zeroed-2-1) → c.self.inside.place ≤ 2 ^ 54 + c.in-Some.run'.at
before_run c = (subst (λ o. MatchOption o (c.self.inside.place ≤ 2 ^ 54)
    (λ r. (0 < r.count) × (r.at + r.count ≤ 2 ^ 31) × (vec_len c.self.inside.rows + rows_for r.count ≤ vec_capacity c.self.inside.rows) × (c.self.inside.place ≤ 2 ^ 54 + r.at)))
    c.in-Some.is c.self.invariant).3

pub invariant_of-self-else-run-zeroed : goal.invariant_of-self-else-run-zeroed
invariant_of-self-else-run-zeroed c =
    let run : Stretch = record { at = c.in-Some.run'.at; count = c.in-Some.run'.count; zeroed = c.in-Some.run'.zeroed } in
    let rows = c.close_run-self-inside.ensures.rows in
    let long : length c.close_run-self-inside.new.rows.items ≡ length c.reserve-in-Some.new.self.items + rows_for run.count =
    ap length rows ∙ length-append c.reserve-in-Some.new.self.items (rows_from c.self.inside.place (parts_of run))
    ∙ ap (λ (k : ℕ). length c.reserve-in-Some.new.self.items + k) (length-rows_to run c.self.inside.place (rows_for run.count)) in
    let end : last_end c.args.self.now ≡ run.at + run.count =
    sym (ap last_end c.self.view_is) ∙ ap (λ o. last_end (the_view (record c.self.inside { latest = o }))) c.in-Some.is in (
      c.requires.some,
      c.args.extent.in_image,
      omega (arith, long, c.close_run-self-inside.ensures.room, c.in_ok-reserve-in-Some.ensures, c.rows_needed-in-Some.ensures, c.rows_needed-in-Some-2.ensures),
      omega (arith, before_run c, end, c.requires.order, c.close_run-self-inside.ensures.place, cond_most run.zeroed c.self.inside.place run.count),
    )

pub returns-in_ok-reserve-in-None-clause-ok : goal.returns-in_ok-reserve-in-None-clause-ok
returns-in_ok-reserve-in-None-clause-ok c = λ more.
    let next : Stretch = record { at = c.args.extent.at; count = c.args.extent.count; zeroed = c.args.zeroed } in
    let none : (the_view c.self.inside).open_run ≡ None = ap (λ o. (the_view (record c.self.inside { latest = o })).open_run) c.in-None.is in
    ahead_first (the_view c.self.inside) c.reserve.new.self.items next more none c.reserve.ensures.items ∙ ap (λ (v : CanonState). rows_ahead v (next ∷ more)) c.self.view_is

pub returns-then-run-extent-clause-ok : goal.returns-then-run-extent-clause-ok
returns-then-run-extent-clause-ok c = λ more.
    let next : Stretch = record { at = c.args.extent.at; count = c.args.extent.count; zeroed = c.args.zeroed } in
    let run : Stretch = record { at = c.in-Some.run'.at; count = c.in-Some.run'.count; zeroed = c.in-Some.run'.zeroed } in
    let some : (the_view c.self.inside).open_run ≡ Some run = ap (λ o. (the_view (record c.self.inside { latest = o })).open_run) c.in-Some.is in
    let place : next.at ≡ run.at + run.count = search rules in
    let kind : next.zeroed ≡ run.zeroed = search rules in
    ahead_joined (the_view c.self.inside) c.reserve-in-Some.new.self.items run next more some c.reserve-in-Some.ensures.items place kind
    ∙ ap (λ (v : CanonState). rows_ahead v (next ∷ more)) c.self.view_is

pub returns-else-run-zeroed-clause-ok : goal.returns-else-run-zeroed-clause-ok
returns-else-run-zeroed-clause-ok c = λ more.
    let next : Stretch = record { at = c.args.extent.at; count = c.args.extent.count; zeroed = c.args.zeroed } in
    let run : Stretch = record { at = c.in-Some.run'.at; count = c.in-Some.run'.count; zeroed = c.in-Some.run'.zeroed } in
    let some : (the_view c.self.inside).open_run ≡ Some run = ap (λ o. (the_view (record c.self.inside { latest = o })).open_run) c.in-Some.is in
    let ends : EndsBefore run (next ∷ []) = elim c.else-run-zeroed.branch [
      | else-run-zeroed-via-then-run-zeroed+else-run-extent w ↦ λ place same. (let no : ⊥ = grind (arith, w.if-run-extent.false, place) in no)
      | else-run-zeroed-via-else-run-zeroed w ↦ λ place same. (let no : ⊥ = grind (arith, w.if-run-zeroed.false, same) in no)
    ] in
    ahead_fixed (the_view c.self.inside) c.close_run-self-inside.new.rows.items c.close_run-self-inside.result run next more some
    (c.close_run-self-inside.ensures.rows ∙ ap (λ rows. rows ++ rows_from c.self.inside.place (parts_of run)) c.reserve-in-Some.ensures.items) c.close_run-self-inside.ensures.place ends
    ∙ ap (λ (v : CanonState). rows_ahead v (next ∷ more)) c.self.view_is
