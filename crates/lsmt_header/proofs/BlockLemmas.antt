-- The fields of a block stand at their places, and a block is that of one head.
use Rattle.std.proofs.Common.{subst, ◌≡◌, ℕ, ◌+◌, ◌^◌, ◌<◌, List, [], ◌∷◌, ◌++◌, length, take, drop, refl, sym, ap, ◌∙◌, inl, inr, arith}
use Rattle.std.specs.List.{concat}
use Rattle.std.specs.Prelude.{slice_set}
use Rattle.std.specs.Int.{w32, w64, to_le_bytes, from_le_bytes}
use Rattle.std.proofs.Math.Seq.{drop-append-add}
use Rattle.std.proofs.lemmas.List.{take_at, length-replicate}
use Rattle.std.proofs.lemmas.Nat.{from_le_bytes-to_le_bytes_4, from_le_bytes-to_le_bytes_8}
use Rattle.lsmt_header.specs.declared.head.Head.{Head}
use Rattle.lsmt_header.specs.declared.head.Kind.{Kind}
use Rattle.lsmt_header.specs.declared.head.Kind.TheVariants.{SealedHead, SealedEnd, TopBytes, TopRows}
use Rattle.lsmt_header.specs.Blocks.{RawHead, fields_of, raw_block, part, raw_head, IsSized, flags_of, IsSealed, IsVersion, Fits, IsValid, raw_of, BlockOf}
use Rattle.lsmt_header.proofs.TagLemmas.{length-padded, padded-same}

total : List (List ℕ) → ℕ
total [] = 0
total (x ∷ xs) = length x + total xs

-- a piece stands behind those before it
part-concat : (front : List (List ℕ)) (piece : List ℕ) (behind : List (List ℕ)) (at size : ℕ) → at ≡ total front → length piece ≡ size → part at size (concat (front ++ piece ∷ behind)) ≡ piece
unfolding total
part-concat [] piece behind at size e len = ap (λ (n : ℕ). take size (drop n (piece ++ concat behind))) e ∙ take_at piece (concat behind) size len
part-concat (x ∷ xs) piece behind at size e len =
    ap (λ (n : ℕ). take size (drop n (x ++ concat (xs ++ piece ∷ behind)))) e
    ∙ ap (take size) (drop-append-add x (concat (xs ++ piece ∷ behind)) (total xs))
    ∙ part-concat xs piece behind (total xs) size refl len

-- the fields at their places are those that the block was made of
pub raw_head-raw_block : (raw : RawHead) → IsSized raw → raw_head (raw_block raw) ≡ raw
unfolding raw_head raw_block total
raw_head-raw_block raw sized =
    let all = fields_of raw in
    let magic = part-concat [] raw.magic (drop 1 (fields_of raw)) 0 8 refl sized.magic in
    let version = ap (from_le_bytes w32) (part-concat (take 1 (fields_of raw)) (to_le_bytes w32 raw.version) (drop 2 (fields_of raw)) 8 4 (omega (arith, sized.magic)) refl) ∙ from_le_bytes-to_le_bytes_4 raw.version sized.version in
    let flags = ap (from_le_bytes w32) (part-concat (take 2 (fields_of raw)) (to_le_bytes w32 raw.flags) (drop 3 (fields_of raw)) 12 4 (omega (arith, sized.magic)) refl) ∙ from_le_bytes-to_le_bytes_4 raw.flags sized.flags in
    let index_at = ap (from_le_bytes w64) (part-concat (take 3 (fields_of raw)) (to_le_bytes w64 raw.index_at) (drop 4 (fields_of raw)) 16 8 (omega (arith, sized.magic)) refl) ∙ from_le_bytes-to_le_bytes_8 raw.index_at sized.index_at in
    let rows = ap (from_le_bytes w64) (part-concat (take 4 (fields_of raw)) (to_le_bytes w64 raw.rows) (drop 5 (fields_of raw)) 24 8 (omega (arith, sized.magic)) refl) ∙ from_le_bytes-to_le_bytes_8 raw.rows sized.rows in
    let sectors = ap (from_le_bytes w64) (part-concat (take 5 (fields_of raw)) (to_le_bytes w64 raw.sectors) (drop 6 (fields_of raw)) 32 8 (omega (arith, sized.magic)) refl) ∙ from_le_bytes-to_le_bytes_8 raw.sectors sized.sectors in
    let uuid = part-concat (take 6 (fields_of raw)) raw.uuid (drop 7 (fields_of raw)) 40 16 (omega (arith, sized.magic)) sized.uuid in
    let parent = part-concat (take 7 (fields_of raw)) raw.parent (drop 8 (fields_of raw)) 56 16 (omega (arith, sized.magic, sized.uuid)) sized.parent in
    let tag = part-concat (take 8 (fields_of raw)) raw.tag (drop 9 (fields_of raw)) 72 256 (omega (arith, sized.magic, sized.uuid, sized.parent)) sized.tag in
    let rest = part-concat (take 9 (fields_of raw)) raw.rest [] 328 3768 (omega (arith, sized.magic, sized.uuid, sized.parent, sized.tag)) sized.rest in
    λ i. record { magic = magic i; version = version i; flags = flags i; index_at = index_at i; rows = rows i; sectors = sectors i; uuid = uuid i; parent = parent i; tag = tag i; rest = rest i }

flags_of-below : (kind : Kind) → flags_of kind < 2 ^ 32
flags_of-below SealedHead = omega arith
flags_of-below SealedEnd = omega arith
flags_of-below TopBytes = omega arith
flags_of-below TopRows = omega arith

-- a version fits in its four bytes
version_fits : (kind : Kind) (version : ℕ) → IsVersion kind version → version < 2 ^ 32
version_fits kind version is =
    elim is [
      | inl one ↦ omega (arith, one)
      | inr two ↦ omega (arith, two.1)
    ]

-- the fields of a head have their sizes
pub raw_of-sized : (head : Head) → IsValid head → Fits head → IsSized (raw_of head)
raw_of-sized head valid fits = record {
  magic = refl;
  version = version_fits head.kind head.version valid.version;
  flags = flags_of-below head.kind;
  index_at = fits.index_at;
  rows = fits.rows;
  sectors = omega (arith, valid.size.1);
  uuid = fits.uuid;
  parent = fits.parent;
  tag = length-padded head.tag fits.tag.short;
  rest = length-replicate {A = ℕ} 3768 0;
}

-- what the block of a head says
pub raw_of-block : (bytes : List ℕ) (head : Head) → BlockOf bytes head → raw_head bytes ≡ raw_of head
raw_of-block bytes head of = ap raw_head of.spelled ∙ raw_head-raw_block (raw_of head) (raw_of-sized head of.valid of.fits)

-- a kind has its own flags
same_kind : (a b : Kind) → flags_of a ≡ flags_of b → a ≡ b
same_kind SealedHead SealedHead e = refl
same_kind SealedHead SealedEnd e = absurd (omega (arith, e))
same_kind SealedHead TopBytes e = absurd (omega (arith, e))
same_kind SealedHead TopRows e = absurd (omega (arith, e))
same_kind SealedEnd SealedHead e = absurd (omega (arith, e))
same_kind SealedEnd SealedEnd e = refl
same_kind SealedEnd TopBytes e = absurd (omega (arith, e))
same_kind SealedEnd TopRows e = absurd (omega (arith, e))
same_kind TopBytes SealedHead e = absurd (omega (arith, e))
same_kind TopBytes SealedEnd e = absurd (omega (arith, e))
same_kind TopBytes TopBytes e = refl
same_kind TopBytes TopRows e = absurd (omega (arith, e))
same_kind TopRows SealedHead e = absurd (omega (arith, e))
same_kind TopRows SealedEnd e = absurd (omega (arith, e))
same_kind TopRows TopBytes e = absurd (omega (arith, e))
same_kind TopRows TopRows e = refl

-- bytes are the block of one head
pub one_head : (bytes : List ℕ) (one other : Head) → BlockOf bytes one → BlockOf bytes other → one ≡ other
one_head bytes one other h k =
    let fields : raw_of one ≡ raw_of other = sym (raw_of-block bytes one h) ∙ raw_of-block bytes other k in
    let version = ap (λ (raw : RawHead). raw.version) fields in
    let kind = same_kind one.kind other.kind (ap (λ (raw : RawHead). raw.flags) fields) in
    let index_at = ap (λ (raw : RawHead). raw.index_at) fields in
    let rows = ap (λ (raw : RawHead). raw.rows) fields in
    let sectors = ap (λ (raw : RawHead). raw.sectors) fields in
    let uuid = ap (λ (raw : RawHead). raw.uuid) fields in
    let parent = ap (λ (raw : RawHead). raw.parent) fields in
    let tag = padded-same one.tag other.tag h.fits.tag k.fits.tag (ap (λ (raw : RawHead). raw.tag) fields) in
    λ i. record { version = version i; kind = kind i; index_at = index_at i; rows = rows i; sectors = sectors i; uuid = uuid i; parent = parent i; tag = tag i }

-- the block at the front of a sealed layer, with the flags of the one at its end
end_spelled : (head : Head) → slice_set (raw_block (raw_of (record head { kind = SealedHead }))) 12 6 ≡ raw_block (raw_of (record head { kind = SealedEnd }))
unfolding raw_block
end_spelled head = refl

pub end_block : (bytes : List ℕ) (head : Head) → head.kind ≡ SealedHead → BlockOf bytes head → BlockOf (slice_set bytes 12 6) (record head { kind = SealedEnd })
end_block bytes head same of =
    let front : head ≡ record head { kind = SealedHead } = λ i. record head { kind = same i } in
    record {
      spelled = ap (λ (x : List ℕ). slice_set x 12 6) (of.spelled ∙ ap (λ (h : Head). raw_block (raw_of h)) front) ∙ end_spelled head;
      valid = record { version = subst (λ (kind : Kind). IsVersion kind head.version) same of.valid.version; size = of.valid.size; named = λ sealed. of.valid.named (subst IsSealed (sym same) tt) };
      fits = record { index_at = of.fits.index_at; rows = of.fits.rows; uuid = of.fits.uuid; parent = of.fits.parent; tag = of.fits.tag };
    }
