use Rattle.std.proofs.Common.{map, ◌≡◌, ℕ, ◌∙◌, ◌++◌, ◌∷◌, [], List, All, sym, ap, subst}
use Rattle.std.proofs.lemmas.List.{map-append}
use Rattle.range_shelf.specs.CachedReads.{CachedState}
use Rattle.lane_export.specs.Caching.{HasFiles, bare}
use Rattle.lane_export.proofs.Rows.{all-more}
use Rattle.lane_export.proofs.caching.+uncached.Goals as goal

pub returns-clause-files : goal.returns-clause-files
returns-clause-files g n c =
    let P : g.row.S.Denot × g.row.L.Denot → Type 0 = λ pair. HasFiles g.S.Shelf g.F.Files.told g.F.Files.count pair.0 in
    let rest = c.pop.new.self.items in
    let inner = c.into_inner.ensures in
    let same : c.into_inner.result ≡ c.in-Some.shelf.shelf = inner.shelf ∙ c.into_parts-shelf.ensures.parts.0 in
    subst (All P) (sym (ap (λ (l : List (CachedState g.row.S.Denot × g.row.L.Denot)). map bare l) c.in-Some.ensures.items ∙ map-append bare rest ((c.in-Some.shelf, c.in-Some.listener) ∷ [])))
    (all-more P (map bare rest) (c.in-Some.shelf.shelf, c.in-Some.listener) c.uncached.ensures.files (subst (λ (s : g.row.S.Denot). HasFiles g.S.Shelf g.F.Files.told g.F.Files.count s) same inner.files))
