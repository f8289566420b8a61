-- What a port notes, call after call.
use Rattle.std.proofs.Common.{◌≡◌, ℕ, List, [], ◌∷◌, ◌++◌, length, map, refl, sym, ap, ◌∙◌, arith, append_assoc, append-nil, length-append, suc}
use Rattle.std.proofs.lemmas.List.{map-append}
use Rattle.flat_image.specs.declared.act.Act.{Act}
use Rattle.flat_image.specs.declared.act.Act.TheVariants.{Flush}
use Rattle.flat_image.specs.Entries.{entry, calls_by}
use Rattle.flat_image.specs.History.{History, kept}
use Rattle.flat_image.specs.Ports.{PortState, Notes, Flushes}
use Rattle.flat_image.proofs.Entries.{calls_by-append}
use Rattle.flat_image.proofs.HistoryLaws.{kept-entry}

-- the port with that history seen and that count of faults
abbrev seen_by : PortState → History → ℕ → PortState
seen_by p seen faults = record p { seen = seen; faults = faults }

-- a port that was not called noted nothing
pub Notes-none : (p : PortState) → Notes p p []
Notes-none p = record
    { more = []; is = ap (λ l. seen_by p l p.faults) (sym (append-nil p.seen)); own = refl; later = omega arith; limit = λ le. le }

-- one call after another
pub Notes-trans : (p q r : PortState) (acts others : List Act) → Notes p q acts → Notes q r others → Notes p r (acts ++ others)
Notes-trans p q r acts others first second =
    record {
      more = first.more ++ second.more;
      is = second.is ∙ (ap (λ s. seen_by s (s.seen ++ second.more) r.faults) first.is
          ∙ ap (λ l. seen_by p l r.faults) (append_assoc p.seen first.more second.more));
      own = calls_by-append p.number first.more second.more
          ∙ (ap (λ l. l ++ calls_by p.number second.more) first.own
          ∙ (ap (λ l. map (entry p.number) acts ++ l) (ap (λ s. calls_by s.number second.more) (sym first.is) ∙ (second.own ∙ ap (λ s. map (entry s.number) others) first.is))
          ∙ sym (map-append (entry p.number) acts others)));
      later = omega (arith, first.later, second.later);
      limit = λ le. second.limit (first.limit le);
    }

-- after a flush all that was seen is kept
pub flush-keeps : (p q : PortState) → Flushes p q → kept q.seen ≡ length q.seen
flush-keeps p q f =
    ap kept f.seen ∙ (kept-entry (p.seen ++ f.before) p.number Flush refl
    ∙ (sym (let long : length ((p.seen ++ f.before) ++ entry p.number Flush ∷ []) ≡ suc (length (p.seen ++ f.before)) = omega (arith, length-append (p.seen ++ f.before) (entry p.number Flush ∷ [])) in long)
    ∙ ap length (sym f.seen)))
