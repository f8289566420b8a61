-- The link's own law, at its beginning.
use Rattle.http_range.proofs.Served.{fresh_served}
use Rattle.http_range.proofs.fetcher.Fetcher.new.Goals as goal

pub returns-in-Ok-clause-serves : goal.returns-in-Ok-clause-serves
returns-in-Ok-clause-serves g c = g.met.L.Link.serves c.args.link

pub returns-in-Ok-clause-served : goal.returns-in-Ok-clause-served
returns-in-Ok-clause-served g c blobs told = fresh_served blobs (g.L.Link.state c.args.link) told (g.met.L.Link.serves c.args.link) c.requires

pub returns-in-Err-clause-served : goal.returns-in-Err-clause-served
returns-in-Err-clause-served g c blobs told = fresh_served blobs (g.L.Link.state c.args.link) told (g.met.L.Link.serves c.args.link) c.requires
