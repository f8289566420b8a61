-- What the port of one thread keeps, and how its calls end.
use Rattle.std.proofs.Common.{◌≡◌, ℕ, ◌+◌, ◌*◌, ◌^◌, ◌<◌, ◌≤◌, List, [], ◌∷◌, ◌++◌, length, take, drop, refl, sym, ap, ◌∙◌, subst, arith, length-append}
use Rattle.std.proofs.Math.ListN.{replicate}
use Rattle.std.proofs.lemmas.List.{length-replicate}
use Rattle.std.proofs.lemmas.List.Elements.{All-nil, All-cons, All-drop}
use Rattle.std.specs.Prelude.{fold}
use Rattle.sector_extent.specs.Rows.{rows_for}
use Rattle.flat_image.specs.declared.act.Act.{Act}
use Rattle.flat_image.specs.declared.act.Act.TheVariants.{Read, Write, Zero, Flush, Freeze, Seal, Grow, Fault}
use Rattle.flat_image.specs.declared.act.Asked.TheVariants.{Nothing}
use Rattle.flat_image.specs.declared.base.Base.{Base}
use Rattle.flat_image.specs.declared.stands.Entry.{Entry}
use Rattle.flat_image.specs.Sheets.{Hole, IsSector, zero_sector, bytes_of}
use Rattle.flat_image.specs.Sectors.{sectors_in, sector_count, put_at}
use Rattle.flat_image.specs.Base.{holes, fresh, image_of}
use Rattle.flat_image.specs.Entries.{entry}
use Rattle.flat_image.specs.History.{History, step, now, after, changed, reply, HasRoom, IsWithin}
use Rattle.flat_image.specs.PlainPorts.{IsPlain}
use Rattle.flat_image.proofs.Painting.{FitsIn, flat-over, AreWhole-lengthened, AreWhole, AreWhole-zeros, AreWhole-put_at, whole-sectors_in, bytes_of-take, bytes_of-drop, bytes_of-put_at, bytes_of-image_in, bytes_of-zeros, length-put_at, paint-holes}
use Rattle.flat_image.proofs.HistoryLaws.{now-entry, after-entry}

-- the sectors of an image are whole along every history
changed-whole : (image : List (List ℕ)) (act : Act) → AreWhole image → AreWhole (changed image act)
changed-whole image (Read at count) whole = whole
changed-whole image (Write at bytes) whole = AreWhole-put_at at (sectors_in bytes) image (whole-sectors_in bytes) whole
changed-whole image (Zero at count) whole = AreWhole-put_at at (replicate count zero_sector) image (AreWhole-zeros count) whole
changed-whole image Flush whole = whole
changed-whole image (Freeze uuid) whole = whole
changed-whole image (Seal uuid) whole = whole
changed-whole image (Grow sectors) whole = AreWhole-lengthened sectors image whole
changed-whole image (Fault asked) whole = whole

along-whole : (image : List (List ℕ)) (h : History) → AreWhole image → AreWhole (fold (λ i (e : Entry Act). changed i e.act) image h)
along-whole image [] whole = whole
along-whole image (e ∷ h) whole = along-whole (changed image e.act) h (changed-whole image e.act whole)

-- an image without layers begins as zeros
pub image-fresh : (n : ℕ) → image_of (fresh n []) ≡ replicate n zero_sector
image-fresh n =
    flat-over n (holes n ∷ []) (All-cons (FitsIn n) (holes n) [] (omega (arith, length-replicate n Hole)) (All-nil (FitsIn n)))
    ∙ paint-holes (replicate n zero_sector) n (omega (arith, length-replicate n zero_sector))

pub whole-after : (n : ℕ) (h : History) → AreWhole (after (fresh n []) h)
whole-after n h = along-whole (image_of (fresh n [])) h (subst AreWhole (sym (image-fresh n)) (AreWhole-zeros n))

-- one entry more
plain-entry : (n : ℕ) (bytes : List ℕ) (seen : History) (rows filled : ℕ) (act : Act) (bytes' : List ℕ) (rows' filled' : ℕ)
    → IsPlain n bytes seen rows filled → length seen < 2 ^ 62 → HasRoom rows' filled'
    → bytes' ≡ bytes_of (changed (after (fresh n []) seen) act)
    → rows' ≡ (step (now (fresh n []) seen) act).rows → filled' ≡ (step (now (fresh n []) seen) act).filled
    → length bytes' ≡ 512 * n
    → IsPlain n bytes' (seen ++ entry 0 act ∷ []) rows' filled'
plain-entry n bytes seen rows filled act bytes' rows' filled' p below room content rows_are filled_are size = record {
  some = p.some;
  small = p.small;
  size = size;
  content = content ∙ ap bytes_of (sym (after-entry (fresh n []) seen 0 act));
  rows_are = rows_are ∙ ap (λ (b : Base). b.rows) (sym (now-entry (fresh n []) seen 0 act));
  filled_are = filled_are ∙ ap (λ (b : Base). b.filled) (sym (now-entry (fresh n []) seen 0 act));
  room = room;
  limit = omega (arith, length-append seen (entry 0 act ∷ []));
}

-- a read, a flush and a fault change nothing
pub plain-read : (n : ℕ) (bytes : List ℕ) (seen : History) (rows filled at count : ℕ) → IsPlain n bytes seen rows filled → length seen < 2 ^ 62
    → IsPlain n bytes (seen ++ entry 0 (Read at count) ∷ []) rows filled
plain-read n bytes seen rows filled at count p below =
    plain-entry n bytes seen rows filled (Read at count) bytes rows filled p below p.room p.content p.rows_are p.filled_are p.size

pub plain-flush : (n : ℕ) (bytes : List ℕ) (seen : History) (rows filled : ℕ) → IsPlain n bytes seen rows filled → length seen < 2 ^ 62
    → IsPlain n bytes (seen ++ entry 0 Flush ∷ []) rows filled
plain-flush n bytes seen rows filled p below =
    plain-entry n bytes seen rows filled Flush bytes rows filled p below p.room p.content p.rows_are p.filled_are p.size

pub plain-fault : (n : ℕ) (bytes : List ℕ) (seen : History) (rows filled : ℕ) → IsPlain n bytes seen rows filled → length seen < 2 ^ 62
    → IsPlain n bytes (seen ++ entry 0 (Fault Nothing) ∷ []) rows filled
plain-fault n bytes seen rows filled p below =
    plain-entry n bytes seen rows filled (Fault Nothing) bytes rows filled p below p.room p.content p.rows_are p.filled_are p.size

-- a write puts its bytes, and a zero zeros
pub plain-write : (n : ℕ) (bytes : List ℕ) (seen : History) (rows filled at : ℕ) (new : List ℕ) → IsPlain n bytes seen rows filled → length seen < 2 ^ 62
    → IsWithin n at new → HasRoom (rows + rows_for (sector_count new)) (filled + sector_count new)
    → IsPlain n (put_at (512 * at) new bytes) (seen ++ entry 0 (Write at new) ∷ []) (rows + rows_for (sector_count new)) (filled + sector_count new)
unfolding sectors_in
plain-write n bytes seen rows filled at new p below within room =
    let content : put_at (512 * at) new bytes ≡ bytes_of (changed (after (fresh n []) seen) (Write at new)) =
    ap (λ l. put_at (512 * at) l bytes) (sym (bytes_of-image_in (sector_count new) new within.whole))
    ∙ (ap (λ l. put_at (512 * at) (bytes_of (sectors_in new)) l) p.content
    ∙ sym (bytes_of-put_at at (sectors_in new) (after (fresh n []) seen) (whole-sectors_in new) (whole-after n seen))) in
    plain-entry n bytes seen rows filled (Write at new) (put_at (512 * at) new bytes) (rows + rows_for (sector_count new)) (filled + sector_count new) p below room
    content (ap (λ k. k + rows_for (sector_count new)) p.rows_are) (ap (λ k. k + sector_count new) p.filled_are)
    (length-put_at (512 * at) new bytes (omega (arith, within.whole, within.within, p.size)) ∙ p.size)

pub plain-zero : (n : ℕ) (bytes : List ℕ) (seen : History) (rows filled at count : ℕ) → IsPlain n bytes seen rows filled → length seen < 2 ^ 62
    → at + count ≤ n → HasRoom (rows + rows_for count) filled
    → IsPlain n (put_at (512 * at) (replicate (512 * count) 0) bytes) (seen ++ entry 0 (Zero at count) ∷ []) (rows + rows_for count) filled
plain-zero n bytes seen rows filled at count p below within room =
    let zeros : List ℕ = replicate {A = ℕ} (512 * count) 0 in
    let content : put_at (512 * at) zeros bytes ≡ bytes_of (changed (after (fresh n []) seen) (Zero at count)) =
    ap (λ l. put_at (512 * at) l bytes) (sym (bytes_of-zeros count))
    ∙ (ap (λ l. put_at (512 * at) (bytes_of (replicate count zero_sector)) l) p.content
    ∙ sym (bytes_of-put_at at (replicate count zero_sector) (after (fresh n []) seen) (AreWhole-zeros count) (whole-after n seen))) in
    plain-entry n bytes seen rows filled (Zero at count) (put_at (512 * at) zeros bytes) (rows + rows_for count) filled p below room
    content (ap (λ k. k + rows_for count) p.rows_are) p.filled_are
    (length-put_at (512 * at) zeros bytes (omega (arith, length-replicate {A = ℕ} (512 * count) 0, p.size)) ∙ p.size)

-- what a read gives
pub plain-reply : (n : ℕ) (bytes : List ℕ) (seen : History) (rows filled at count : ℕ) → IsPlain n bytes seen rows filled
    → take (512 * count) (drop (512 * at) bytes) ≡ reply (fresh n []) seen at count
plain-reply n bytes seen rows filled at count p =
    let image : List (List ℕ) = after (fresh n []) seen in
    ap (λ l. take (512 * count) (drop (512 * at) l)) p.content
    ∙ sym (bytes_of-take count (drop at image) (All-drop IsSector at image (whole-after n seen))
    ∙ ap (take (512 * count)) (bytes_of-drop at image (whole-after n seen)))

-- before the first entry the image is zeros
pub plain-fresh : (n : ℕ) (bytes : List ℕ) (seen : History) → 1 ≤ n → n ≤ 2 ^ 31 → bytes ≡ replicate {A = ℕ} (512 * n) 0 → seen ≡ []
    → IsPlain n bytes seen 0 0
plain-fresh n bytes seen some small zeros none =
    subst (λ (l : History). IsPlain n bytes l 0 0) (sym none) (record {
      some = some;
      small = small;
      size = ap length zeros ∙ length-replicate {A = ℕ} (512 * n) 0;
      content = zeros ∙ (sym (bytes_of-zeros n) ∙ ap bytes_of (sym (image-fresh n)));
      rows_are = refl;
      filled_are = refl;
      room = record { rows_fit = omega arith; sectors_fit = omega arith };
      limit = omega arith;
    })
