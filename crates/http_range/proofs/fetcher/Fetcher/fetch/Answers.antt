-- The count of the link's faults, from what the fetch did.
use Rattle.std.proofs.Common.{◌+◌, ◌-◌, length, arith}
use Rattle.http_range.specs.Requests.{request_text}
use Rattle.http_range.proofs.Fetches.{fetches_later, fetches_rose, fetches_calm}
use Rattle.http_range.proofs.Served.{fetch_served, fetches_blobs}
use Rattle.http_range.proofs.fetcher.Fetcher.fetch.Goals as goal

pub returns-clause-failed : goal.returns-clause-failed
returns-clause-failed g c =
    let last = c.args.first + (length c.args.out.now - 1) in
    fetches_rose (request_text c.args.target.now c.args.first last) c.args.first last c.args.self.now c.fetch_range-answer.new.self c.fetch_range-answer.new.out
    c.fetch_range-answer.result c.fetch_range-answer.ensures.fetches

pub returns-clause-later : goal.returns-clause-later
returns-clause-later g c =
    let last = c.args.first + (length c.args.out.now - 1) in
    fetches_later (request_text c.args.target.now c.args.first last) c.args.first last c.args.self.now c.fetch_range-answer.new.self c.fetch_range-answer.new.out
    c.fetch_range-answer.result c.fetch_range-answer.ensures.fetches

pub returns-clause-calm : goal.returns-clause-calm
returns-clause-calm g c =
    let last = c.args.first + (length c.args.out.now - 1) in
    fetches_calm (request_text c.args.target.now c.args.first last) c.args.first last c.args.self.now c.fetch_range-answer.new.self c.fetch_range-answer.new.out
    c.fetch_range-answer.result c.fetch_range-answer.ensures.fetches

pub returns-clause-blobs : goal.returns-clause-blobs
returns-clause-blobs g c =
    let last = c.args.first + (length c.args.out.now - 1) in
    fetches_blobs (request_text c.args.target.now c.args.first last) c.args.first last c.args.self.now c.fetch_range-answer.new.self c.fetch_range-answer.new.out
    c.fetch_range-answer.result c.fetch_range-answer.ensures.fetches

pub returns-clause-served : goal.returns-clause-served
returns-clause-served g c blobs bytes told file before =
    let last = c.args.first + (length c.args.out.now - 1) in
    fetch_served blobs bytes c.args.target.now c.args.first last c.args.self.now c.fetch_range-answer.new.self c.fetch_range-answer.new.out c.fetch_range-answer.result
    told c.law.ensures c.law-2.ensures before c.path.ensures.sound file (omega arith) (omega (arith, c.requires.some, c.requires.small)) c.fetch_range-answer.ensures.fetches c.fetch_range-answer.ensures.after.1
