use Rattle.std.proofs.Common.{subst}
use Rattle.http_range.specs.Fetching.{FetcherState}
use Rattle.http_range.specs.Serving.{Serves}
use Rattle.http_range.proofs.fetcher.Fetcher.law.Goals as goal

pub returns : goal.returns
returns g c = subst (λ (s : FetcherState). Serves s.link) c.self.view_is (g.met.L.Link.serves c.self.inside.link)
