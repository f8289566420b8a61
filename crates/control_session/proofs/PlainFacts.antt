-- A control port in memory, commit after commit.
use Rattle.std.proofs.Common.{◌≡◌, ℕ, ◌+◌, ◌*◌, ◌-◌, ◌^◌, ◌<◌, inl, List, [], ◌∷◌, ◌++◌, length, replicate, refl, sym, ap, ◌∙◌, arith, append_assoc, length-append}
use Rattle.std.specs.Prelude.{None, option_map}
use Rattle.flat_image.specs.declared.act.Act.TheVariants.{Freeze, Seal}
use Rattle.flat_image.specs.declared.base.Base.{Base}
use Rattle.flat_image.specs.Base.{fresh}
use Rattle.flat_image.specs.Entries.{entry}
use Rattle.flat_image.specs.History.{now, step}
use Rattle.flat_image.specs.Ports.{PortState, IsWorn}
use Rattle.flat_image.proofs.PortLaws.{Notes-none}
use Rattle.control_session.specs.declared.answer.CommitAnswer.TheVariants as commit
use Rattle.control_session.specs.declared.answer.StatusAnswer.TheVariants as status
use Rattle.control_session.specs.ControlTable.{CommitFits, StatusFits}
use Rattle.control_session.specs.PlainControls.{noted, plain_control}

noted-more : (sealed : List (List ℕ)) (uuid : List ℕ) → noted (sealed ++ uuid ∷ []) ≡ noted sealed ++ (entry 0 (Freeze uuid) ∷ entry 0 (Seal uuid) ∷ [])
noted-more [] uuid = refl
noted-more (u ∷ sealed) uuid = ap (λ l. entry 0 (Freeze u) ∷ entry 0 (Seal u) ∷ l) (noted-more sealed uuid)

length-noted : (sealed : List (List ℕ)) → length (noted sealed) ≡ 2 * length sealed
length-noted [] = refl
length-noted (u ∷ sealed) = omega (arith, length-noted sealed)

-- each commit adds a layer, leaves nothing in progress, and keeps the size
now-noted : (b : Base) (sealed : List (List ℕ)) → b.frozen ≡ None → ((now b (noted sealed)).frozen ≡ None) × (length (now b (noted sealed)).done ≡ length b.done + length sealed) × ((now b (noted sealed)).sectors ≡ b.sectors)
now-noted b [] none = (none, omega arith, refl)
now-noted b (u ∷ sealed) none =
    let next = step (step b (Freeze u)) (Seal u) in
    let rest = now-noted next sealed refl in
    let one : length next.done ≡ length b.done + 1 = length-append b.done _ in
    (rest.0, omega (arith, rest.1, one), rest.2)

module _ (sectors lower : ℕ) (sealed : List (List ℕ)) where
  abbrev port : PortState
  port = plain_control sectors lower sealed

  pub worn-full : length sealed ≡ 255 → IsWorn port
  worn-full full = omega (arith, full, length-noted sealed)

  pub worn-only : IsWorn port → length sealed < 255 → ⊥
  worn-only worn few = omega (arith, worn, few, length-noted sealed)

  pub commits-worn : (uuid : List ℕ) → length sealed ≡ 255 → CommitFits port port uuid commit.Worn
  commits-worn uuid full = (worn-full full, inl (Notes-none port))

  pub tells-worn : length sealed ≡ 255 → StatusFits port port status.Worn
  tells-worn full = (worn-full full, Notes-none port, refl)

  pub commits-done : (uuid : List ℕ) (more : List (List ℕ)) → length sealed < 255 → more ≡ sealed ++ uuid ∷ [] → CommitFits port (plain_control sectors lower more) uuid commit.Done
  commits-done uuid more few is =
      let longer : noted more ≡ noted sealed ++ (entry 0 (Freeze uuid) ∷ entry 0 (Seal uuid) ∷ []) = ap noted is ∙ noted-more sealed uuid in
      let size : length more ≡ length sealed + 1 = ap length is ∙ length-append sealed (uuid ∷ []) in (
        record {
          before = entry 0 (Freeze uuid) ∷ [];
          number = 0;
          behind = [];
          seen = longer ∙ sym (append_assoc (noted sealed) (entry 0 (Freeze uuid) ∷ []) (entry 0 (Seal uuid) ∷ []));
        },
        inl (record {
          more = entry 0 (Freeze uuid) ∷ entry 0 (Seal uuid) ∷ [];
          is = ap (λ l. record port { seen = l; faults = 0 }) longer;
          own = refl;
          later = omega arith;
          limit = λ le. omega (arith, few, size, length-noted more);
        }),
      )

  pub tells-now : (count layers entries : ℕ) → count ≡ length sealed → layers ≡ count + 1 → entries ≡ 2 ^ 62 - 510 + 2 * count → StatusFits port port (status.Now sectors layers entries None)
  tells-now count layers entries size is total =
      let made = now-noted (fresh sectors (replicate lower 0 ∷ [])) sealed refl in
      (Notes-none port, refl, sym made.2, omega (arith, size, is, made.1), omega (arith, size, total, length-noted sealed), sym (ap (λ f. option_map (λ x. x.uuid) f) made.0))
