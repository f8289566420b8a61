use Rattle.std.proofs.Common.{◌≡◌, List, [], ap, ◌∙◌}
use Rattle.std.specs.Prelude.{Some, None}
use Rattle.std.specs.List.{flat_map}
use Rattle.flat_image.specs.Sheets.{Cell}
use Rattle.flat_image.specs.CanonicalFiles.{Stretch, parts_of, rows_from, canonical_rows}
use Rattle.flat_image.specs.Stretches.{AreStretches}
use Rattle.flat_image.proofs.JoinedStretches.{joined-are_longest}
use Rattle.sealed_layer.specs.contracts.canon.CanonRows.{the_view}
use Rattle.sealed_layer.specs.Canon.{CanonState, rows_ahead, rows_for_all}
use Rattle.sealed_layer.proofs.CanonLaws.{ahead_last, ahead_none}
use Rattle.sealed_layer.proofs.canon.CanonRows.finish.Goals as goal

pub returns-in-Some-clause-rows : goal.returns-in-Some-clause-rows
returns-in-Some-clause-rows c =
    let run : Stretch = record { at = c.in-Some.run'.at; count = c.in-Some.run'.count; zeroed = c.in-Some.run'.zeroed } in
    let some : (the_view c.self.inside).open_run ≡ Some run = ap (λ o. (the_view (record c.self.inside { latest = o })).open_run) c.in-Some.is in
    c.close_run.ensures.rows ∙ ahead_last (the_view c.self.inside) run some ∙ ap (λ (v : CanonState). rows_ahead v []) c.self.view_is

pub returns-in_default-clause-rows : goal.returns-in_default-clause-rows
returns-in_default-clause-rows c =
    let none : (the_view c.self.inside).open_run ≡ None = ap (λ o. (the_view (record c.self.inside { latest = o })).open_run) c.in_default.is in
    ahead_none (the_view c.self.inside) none ∙ ap (λ (v : CanonState). rows_ahead v []) c.self.view_is

-- joined, stretches of a sheet are its longest ones
canonical : (sheet : List Cell) (list : List Stretch) → AreStretches 0 sheet list → rows_for_all 8 list ≡ canonical_rows sheet
canonical sheet list are = ap (λ (l : List Stretch). rows_from 8 (flat_map parts_of l)) (joined-are_longest sheet list are)

pub returns-in-Some-clause-canonical : goal.returns-in-Some-clause-canonical
returns-in-Some-clause-canonical c = λ sheet list are same. returns-in-Some-clause-rows c ∙ same ∙ canonical sheet list are

pub returns-in_default-clause-canonical : goal.returns-in_default-clause-canonical
returns-in_default-clause-canonical c = λ sheet list are same. returns-in_default-clause-rows c ∙ same ∙ canonical sheet list are
