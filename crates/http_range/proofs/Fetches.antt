-- What a fetch did, from its askings and its redials.
use Rattle.std.proofs.Common.{◌≡◌, ℕ, ◌<◌, ◌≤◌, inl, inr, Bool, true, false, ◌&&◌, List, [], refl, sym, ap, ◌∙◌, subst, arith}
use Rattle.std.specs.Prelude.{Result, Ok, Err}
use Rattle.http_range.specs.declared.reason.FetchFault.{FetchFault}
use Rattle.http_range.specs.declared.reason.FetchFault.TheVariants.{Failed, BadReply}
use Rattle.http_range.specs.Links.{LinkState}
use Rattle.http_range.specs.Fetching.{FetcherState, AsksWell, Stops, Asks, AsksAfter, AsksOn, FailsDialing, DialsWell, Fetches}

pub again_well : (text : List ℕ) (first last : ℕ) (a b c : LinkState) (held out more : List ℕ) (total : ℕ) → DialsWell a b → held ≡ []
    → AsksWell text held first last b c out more total → AsksAfter text first last a c out more (Ok total)
again_well text first last a b c held out more total dials none well =
    inr (b, false, dials, (refl, subst (λ (l : List ℕ). AsksWell text l first last b c out more total) none well))

pub again_stops : (text : List ℕ) (first last : ℕ) (a b c : LinkState) (held out more : List ℕ) (early : Bool) (fault : FetchFault) → DialsWell a b → held ≡ []
    → Stops text held first last b c early fault → AsksAfter text first last a c out more (Err fault)
again_stops text first last a b c held out more early fault dials none stops =
    inr (b, early, dials, subst (λ (l : List ℕ). Stops text l first last b c early fault) none stops)

pub again_fails : (text : List ℕ) (first last : ℕ) (a c : LinkState) (out more : List ℕ) (fault : FetchFault) → fault ≡ Failed → FailsDialing a c
    → AsksAfter text first last a c out more (Err fault)
again_fails text first last a c out more fault is fails = inl (fails, ap Err is)

pub on_well : (text held : List ℕ) (first last : ℕ) (used : Bool) (a c : LinkState) (out more : List ℕ) (total : ℕ)
    → AsksWell text held first last a c out more total → AsksOn text held first last used a c out more (Ok total)
on_well text held first last used a c out more total well = inl (record { early = false; asks = (refl, well); enough = and_false used })
  where
    and_false : (b : Bool) → (b && false) ≡ false
    and_false true = refl
    and_false false = refl

pub on_stops : (text held : List ℕ) (first last : ℕ) (used : Bool) (a c : LinkState) (out more : List ℕ) (early : Bool) (fault : FetchFault)
    → (used && early) ≡ false → Stops text held first last a c early fault → AsksOn text held first last used a c out more (Err fault)
on_stops text held first last used a c out more early fault enough stops = inl (record { early = early; asks = stops; enough = enough })

both : (a b : Bool) → (a && b) ≡ true → (a ≡ true) × (b ≡ true)
both true b is = (refl, is)
both false b is = absurd (let h = is in cc)

pub on_again : (text held : List ℕ) (first last : ℕ) (used : Bool) (a b c : LinkState) (out more : List ℕ) (early : Bool) (fault : FetchFault)
    (result : Result ℕ FetchFault) → (used && early) ≡ true → Stops text held first last a b early fault → AsksAfter text first last b c out more result
    → AsksOn text held first last used a c out more result
on_again text held first last used a b c out more early fault result is stops again =
    let two = both used early is in
    inr (record {
      used_is = two.0;
      lost = b;
      fault = fault;
      stops = subst (λ (e : Bool). Stops text held first last a b e fault) two.1 stops;
      again = again;
    })

pub anew_on : (text : List ℕ) (first last : ℕ) (old mid new : FetcherState) (out : List ℕ) (result : Result ℕ FetchFault) → old.refused ≡ true
    → DialsWell old.link mid.link → mid.held ≡ [] → mid.used ≡ false
    → AsksOn text mid.held first last mid.used mid.link new.link out new.held result → Fetches text first last old new out result
anew_on text first last old mid new out result is dials none unused asks =
    inr (inr (
      is,
      mid.link,
      dials,
      subst (λ (u : Bool). AsksOn text [] first last u mid.link new.link out new.held result) unused
          (subst (λ (l : List ℕ). AsksOn text l first last mid.used mid.link new.link out new.held result) none asks),
    ))

pub anew_fails : (text : List ℕ) (first last : ℕ) (old new : FetcherState) (out : List ℕ) (fault : FetchFault) → old.refused ≡ true → fault ≡ Failed
    → FailsDialing old.link new.link → Fetches text first last old new out (Err fault)
anew_fails text first last old new out fault refused is fails = inr (inl (refused, fails, ap Err is))

-- ---- when the count of faults rises

stops_rose : (text held : List ℕ) (first last : ℕ) (a b : LinkState) (early : Bool) → Stops text held first last a b early Failed → a.faults < b.faults
stops_rose text held first last a b early (inl sending) = sending.1.rose
stops_rose text held first last a b early (inr receiving) = receiving.rose

stops_later : (text held : List ℕ) (first last : ℕ) (a b : LinkState) (early : Bool) (fault : FetchFault) → Stops text held first last a b early fault
    → a.faults ≤ b.faults
stops_later text held first last a b early fault (inl sending) = let rose = sending.1.rose in omega arith
stops_later text held first last a b early Failed (inr receiving) = let rose = receiving.rose in omega arith
stops_later text held first last a b early (BadReply status reason) (inr bad) = let calm = bad.carried.calm in omega arith

asks_later : (text held : List ℕ) (first last : ℕ) (a b : LinkState) (out more : List ℕ) (early : Bool) (result : Result ℕ FetchFault)
    → Asks text held first last a b out more early result → a.faults ≤ b.faults
asks_later text held first last a b out more early (Ok total) asks = let calm = asks.1.carried.calm in omega arith
asks_later text held first last a b out more early (Err fault) asks = stops_later text held first last a b early fault asks

asks_rose : (text held : List ℕ) (first last : ℕ) (a b : LinkState) (out more : List ℕ) (early : Bool) (result : Result ℕ FetchFault)
    → Asks text held first last a b out more early result → result ≡ Err Failed → a.faults < b.faults
asks_rose text held first last a b out more early result asks is =
    stops_rose text held first last a b early (subst (λ (r : Result ℕ FetchFault). Asks text held first last a b out more early r) is asks)

asks_calm : (text held : List ℕ) (first last : ℕ) (a b : LinkState) (out more : List ℕ) (early : Bool) (result : Result ℕ FetchFault)
    → Asks text held first last a b out more early result → (result ≡ Err Failed → ⊥) → b.faults ≡ a.faults
asks_calm text held first last a b out more early (Ok total) asks other = asks.1.carried.calm
asks_calm text held first last a b out more early (Err fault) (inl sending) other = absurd (other (ap Err sending.0))
asks_calm text held first last a b out more early (Err Failed) (inr receiving) other = absurd (other refl)
asks_calm text held first last a b out more early (Err (BadReply status reason)) (inr bad) other = bad.carried.calm

after_later : (text : List ℕ) (first last : ℕ) (a c : LinkState) (out more : List ℕ) (result : Result ℕ FetchFault)
    → AsksAfter text first last a c out more result → a.faults ≤ c.faults
after_later text first last a c out more result (inl fails) = let rose = fails.0.rose in omega arith
after_later text first last a c out more result (inr asked) =
    let calm = asked.2.calm in let later = asks_later text [] first last asked.0 c out more asked.1 result asked.3 in omega arith

after_rose : (text : List ℕ) (first last : ℕ) (a c : LinkState) (out more : List ℕ) (result : Result ℕ FetchFault)
    → AsksAfter text first last a c out more result → result ≡ Err Failed → a.faults < c.faults
after_rose text first last a c out more result (inl fails) is = fails.0.rose
after_rose text first last a c out more result (inr asked) is =
    let calm = asked.2.calm in let rose = asks_rose text [] first last asked.0 c out more asked.1 result asked.3 is in omega arith

on_later : (text held : List ℕ) (first last : ℕ) (used : Bool) (a c : LinkState) (out more : List ℕ) (result : Result ℕ FetchFault)
    → AsksOn text held first last used a c out more result → a.faults ≤ c.faults
on_later text held first last used a c out more result (inl once) = asks_later text held first last a c out more once.early result once.asks
on_later text held first last used a c out more result (inr again) =
    let one = stops_later text held first last a again.lost true again.fault again.stops in
    let two = after_later text first last again.lost c out more result again.again in omega arith

on_rose : (text held : List ℕ) (first last : ℕ) (used : Bool) (a c : LinkState) (out more : List ℕ) (result : Result ℕ FetchFault)
    → AsksOn text held first last used a c out more result → result ≡ Err Failed → a.faults < c.faults
on_rose text held first last used a c out more result (inl once) is = asks_rose text held first last a c out more once.early result once.asks is
on_rose text held first last used a c out more result (inr again) is =
    let one = stops_later text held first last a again.lost true again.fault again.stops in
    let two = after_rose text first last again.lost c out more result again.again is in omega arith

on_calm : (text held : List ℕ) (first last : ℕ) (used : Bool) (a c : LinkState) (out more : List ℕ) (result : Result ℕ FetchFault)
    → AsksOn text held first last used a c out more result → used ≡ false → (result ≡ Err Failed → ⊥) → c.faults ≡ a.faults
on_calm text held first last used a c out more result (inl once) unused other = asks_calm text held first last a c out more once.early result once.asks other
on_calm text held first last used a c out more result (inr again) unused other = absurd (let e = sym again.used_is ∙ unused in cc)

pub fetches_later : (text : List ℕ) (first last : ℕ) (old new : FetcherState) (out : List ℕ) (result : Result ℕ FetchFault)
    → Fetches text first last old new out result → old.link.faults ≤ new.link.faults
fetches_later text first last old new out result (inl on) = on_later text old.held first last old.used old.link new.link out new.held result on.1
fetches_later text first last old new out result (inr (inl fails)) = let rose = fails.1.rose in omega arith
fetches_later text first last old new out result (inr (inr anew)) =
    let calm = anew.2.calm in let later = on_later text [] first last false anew.1 new.link out new.held result anew.3 in omega arith

pub fetches_rose : (text : List ℕ) (first last : ℕ) (old new : FetcherState) (out : List ℕ) (result : Result ℕ FetchFault)
    → Fetches text first last old new out result → result ≡ Err Failed → old.link.faults < new.link.faults
fetches_rose text first last old new out result (inl on) is = on_rose text old.held first last old.used old.link new.link out new.held result on.1 is
fetches_rose text first last old new out result (inr (inl fails)) is = fails.1.rose
fetches_rose text first last old new out result (inr (inr anew)) is =
    let calm = anew.2.calm in let rose = on_rose text [] first last false anew.1 new.link out new.held result anew.3 is in omega arith

pub fetches_calm : (text : List ℕ) (first last : ℕ) (old new : FetcherState) (out : List ℕ) (result : Result ℕ FetchFault)
    → Fetches text first last old new out result → old.used ≡ false → (result ≡ Err Failed → ⊥) → new.link.faults ≡ old.link.faults
fetches_calm text first last old new out result (inl on) unused other =
    on_calm text old.held first last old.used old.link new.link out new.held result on.1 unused other
fetches_calm text first last old new out result (inr (inl fails)) unused other = absurd (other fails.2)
fetches_calm text first last old new out result (inr (inr anew)) unused other =
    on_calm text [] first last false anew.1 new.link out new.held result anew.3 refl other ∙ anew.2.calm
