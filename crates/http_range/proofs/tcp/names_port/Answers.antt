-- What was found from the end, or that nothing was.
use Rattle.std.proofs.Common.{◌≡◌, ◌+◌, ◌-◌, subst, refl, arith}
use Rattle.http_range.proofs.HostLaws.{AreOthers, port_behind, no_port, no_colon}
use Rattle.http_range.proofs.tcp.names_port.Goals as goal

pub returns-then-host-at-eq93 : goal.returns-then-host-at-eq93
returns-then-host-at-eq93 c =
    let host = c.args.host.now in
    let at = c.loop-at.at in
    let one : at ≡ (at - 1) + 1 = omega arith in
    let others : AreOthers host ((at - 1) + 1) = subst (λ i. AreOthers host i) one c.loop-at.invariant in
    ((λ no. absurd (let h = no in cc)), (λ named. absurd (no_port host (at - 1) (omega arith) c.if-host-at-eq93.true others named)))

pub returns-then-host-at-eq58 : goal.returns-then-host-at-eq58
returns-then-host-at-eq58 c =
    let host = c.args.host.now in
    let at = c.loop-at.at in
    let one : at ≡ (at - 1) + 1 = omega arith in
    let others : AreOthers host ((at - 1) + 1) = subst (λ i. AreOthers host i) one c.loop-at.invariant in
    ((λ is. port_behind host (at - 1) (omega arith) c.if-host-at-eq58.true others), (λ named. refl))

pub returns : goal.returns
returns c =
    let host = c.args.host.now in
    let none : c.loop-at.at ≡ 0 = omega arith in
    ((λ no. absurd (let h = no in cc)), (λ named. absurd (no_colon host (subst (λ i. AreOthers host i) none c.loop-at.invariant) named)))
