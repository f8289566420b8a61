-- A head's block has no fault, and a block that passes each test is that of a head.
use Rattle.std.proofs.Common.{◌≡◌, ℕ, ◌<◌, List, refl, sym, ap, subst, ◌∙◌, arith, bit_and}
use Rattle.std.proofs.lemmas.List.{get_or-replicate, length-replicate}
use Rattle.lsmt_header.specs.declared.head.Head.{Head}
use Rattle.lsmt_header.specs.declared.head.Kind.{Kind}
use Rattle.lsmt_header.specs.declared.head.Kind.TheVariants.{SealedHead, SealedEnd, TopBytes, TopRows}
use Rattle.lsmt_header.specs.declared.head.HeadFault.{HeadFault}
use Rattle.lsmt_header.specs.declared.head.HeadFault.TheVariants.{BadMagic, BadVersion, Compressed, BadFlags, BadSize, NilUuid, BadTag, Unclean}
use Rattle.lsmt_header.specs.Blocks.{RawHead, raw_block, IsSized, flags_of, IsSealed, IsVersion, IsSize, Fits, IsValid, raw_of, BlockOf}
use Rattle.lsmt_header.specs.Faults.{IsClean, IsFault}

-- no kind's flags say compressed
flags_of-plain : (kind : Kind) → bit_and (flags_of kind) 8 ≡ 0
flags_of-plain SealedHead = refl
flags_of-plain SealedEnd = refl
flags_of-plain TopBytes = refl
flags_of-plain TopRows = refl

pub no_fault : (kind : Kind) (head : Head) (fault : HeadFault) → head.kind ≡ kind → IsValid head → Fits head → IsFault kind (raw_of head) fault → ⊥
no_fault kind head BadMagic same valid fits h = h refl
no_fault kind head (BadVersion version) same valid fits h = h.2 (subst (IsVersion kind) (sym h.1) (subst (λ (k : Kind). IsVersion k head.version) same valid.version))
no_fault kind head Compressed same valid fits h = h.1 (flags_of-plain head.kind)
no_fault kind head (BadFlags flags) same valid fits h = h.2 (h.1 ∙ ap flags_of same)
no_fault kind head (BadSize sectors) same valid fits h = h.2 (subst IsSize (sym h.1) valid.size)
no_fault kind head NilUuid same valid fits h = valid.named (subst IsSealed (sym same) h.1) h.2
no_fault kind head BadTag same valid fits h = h.1 head.tag fits.tag refl
no_fault kind head (Unclean place) same valid fits h =
    let within : h.1.0 < 3768 = omega (arith, h.1.2.within, length-replicate {A = ℕ} 3768 0) in
    h.1.2.here (get_or-replicate 3768 h.1.0 0 0 within)

-- the head that fields have
abbrev pub head_of : Kind → RawHead → List ℕ → Head
head_of kind raw text = record { version = raw.version; kind = kind; index_at = raw.index_at; rows = raw.rows; sectors = raw.sectors; uuid = raw.uuid; parent = raw.parent; tag = text }

pub clean_block : (kind : Kind) (bytes : List ℕ) (raw : RawHead) (text : List ℕ) → bytes ≡ raw_block raw → IsSized raw → IsClean kind raw text → BlockOf bytes (head_of kind raw text)
clean_block kind bytes raw text e sized clean =
    let tagged = clean.0 in
    let named = tagged.0 in
    let has_size = named.0 in
    let of_kind = has_size.0 in
    let plain = of_kind.0 in
    let version = plain.0 in
    let fields : raw ≡ raw_of (head_of kind raw text) =
    λ i. record { magic = version.0 i; version = raw.version; flags = of_kind.1 i; index_at = raw.index_at; rows = raw.rows; sectors = raw.sectors; uuid = raw.uuid; parent = raw.parent; tag = tagged.2 i; rest = clean.1 i } in
    record {
      spelled = e ∙ ap raw_block fields;
      valid = record { version = version.1; size = has_size.1; named = named.1 };
      fits = record { index_at = sized.index_at; rows = sized.rows; uuid = sized.uuid; parent = sized.parent; tag = tagged.1 };
    }
