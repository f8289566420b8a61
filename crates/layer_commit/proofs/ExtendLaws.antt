-- One source more, or a longer last one.
use Rattle.std.proofs.Common.{◌≡◌, ℕ, zero, suc, ◌+◌, ◌*◌, List, [], ◌∷◌, ◌++◌, length, take, drop, sym, ap, subst, ◌∙◌, arith, get_or, append_assoc, append-nil, take-add}
use Rattle.std.specs.Prelude.{slice_set}
use Rattle.std.proofs.lemmas.List.{drop-drop, take_more, drop_all, take_all, set_split}
use Rattle.std.proofs.lemmas.List.Elements.{All-nil, All-cons, All-take, All-append}
use Rattle.block_disk.specs.Changes.{piece}
use Rattle.layer_commit.specs.declared.source.Source.{Source}
use Rattle.layer_commit.specs.Sources.{copied, counted, IsSource, AreSources, Extends, IsBehind}
use Rattle.layer_commit.proofs.FileLaws.{IsLong}
use Rattle.layer_commit.proofs.SourceLaws.{source_at, counted-append, copied-append}

-- a piece of a file in two parts
pub piece_parts : (at m n : ℕ) (file : List ℕ) → piece at (m + n) file ≡ piece at m file ++ piece (at + m) n file
piece_parts at m n file = take-add m n (drop at file) ∙ ap (λ (l : List ℕ). piece at m file ++ take n l) (drop-drop m at file)

are-front : (to n : ℕ) (sources : List Source) → AreSources to sources → AreSources to (take n sources)
are-front to zero sources are = tt
are-front to (suc n) [] are = tt
are-front to (suc n) (source ∷ rest) are = (are.0, are-front (to + source.count) n rest are.1)

are-behind : (to : ℕ) (sources : List Source) (source : Source) → AreSources to sources → IsSource (to + counted sources) source → AreSources to (sources ++ source ∷ [])
are-behind to [] source are is = (subst (λ (k : ℕ). IsSource k source) (let e : to + 0 ≡ to = omega arith in e) is, tt)
are-behind to (first ∷ rest) source are is = (
  are.0,
  are-behind (to + first.count) rest source are.1
      (subst (λ (k : ℕ). IsSource k source) (let e : to + (first.count + counted rest) ≡ to + first.count + counted rest = omega arith in e) is),
)

counted-behind : (sources : List Source) (source : Source) → counted (sources ++ source ∷ []) ≡ counted sources + source.count
counted-behind sources source = counted-append sources (source ∷ []) ∙ (let e : counted sources + (source.count + 0) ≡ counted sources + source.count = omega arith in e)

copied-behind : (stored : List ℕ) (sources : List Source) (source : Source)
    → copied stored (sources ++ source ∷ []) ≡ copied stored sources ++ piece (512 * source.from) (512 * source.count) stored
copied-behind stored sources source =
    copied-append stored sources (source ∷ []) ∙ ap (λ (l : List ℕ). copied stored sources ++ l) (append-nil (piece (512 * source.from) (512 * source.count) stored))

pub extends-new : (sources : List Source) (source : Source) → IsBehind source sources → Extends source sources (sources ++ source ∷ [])
extends-new sources source behind = record {
  are = are-behind 8 sources source behind.are behind.is;
  counted = counted-behind sources source;
  bytes = λ stored. copied-behind stored sources source;
  within = λ stored within long. All-append (IsLong stored) sources (source ∷ []) within (All-cons (IsLong stored) source [] long (All-nil (IsLong stored)));
}

-- the last of the sources
split_last : (sources : List Source) (n : ℕ) (d : Source) → length sources ≡ n + 1 → sources ≡ take n sources ++ get_or sources n d ∷ []
split_last sources n d long = sym (take_all (n + 1) sources (omega (arith, long))) ∙ take_more sources n d (omega (arith, long))

set_last : (sources : List Source) (n : ℕ) (source : Source) → length sources ≡ n + 1 → slice_set sources n source ≡ take n sources ++ source ∷ []
set_last sources n source long =
    set_split sources n source (omega (arith, long))
    ∙ ap (λ (l : List Source). take n sources ++ source ∷ l) (drop_all (suc n) sources (omega (arith, long)))

pub last_is : (sources : List Source) (n : ℕ) (last : Source) → length sources ≡ n + 1 → last ≡ get_or sources n last → AreSources 8 sources → IsSource (8 + counted (take n sources)) last
last_is sources n last long is are = subst (IsSource (8 + counted (take n sources))) (sym is) (source_at 8 sources n last are (omega (arith, long)))

pub extends-last : (sources : List Source) (n : ℕ) (last source : Source) → length sources ≡ n + 1 → last ≡ get_or sources n last → IsBehind source sources → last.from + last.count ≡ source.from
    → Extends source sources (slice_set sources n (record last { count = last.count + source.count }))
extends-last sources n last source long is behind goes_on =
    let longer : Source = record last { count = last.count + source.count } in
    let front : List Source = take n sources in
    let here : IsSource (8 + counted front) last = last_is sources n last long is behind.are in
    let split : sources ≡ front ++ last ∷ [] = split_last sources n last long ∙ ap (λ (s : Source). front ++ s ∷ []) (sym is) in
    subst (Extends source sources) (sym (set_last sources n longer long)) (record {
      are = are-behind 8 front longer (are-front 8 n sources behind.are) (record { place = here.place; some = omega (arith, here.some); low = omega (arith, goes_on, behind.is.low) });
      counted = counted-behind front longer
          ∙ (let e : counted front + (last.count + source.count) ≡ counted front + last.count + source.count = omega arith in e)
          ∙ ap (λ (k : ℕ). k + source.count) (sym (ap counted split ∙ counted-behind front last));
      bytes = λ stored.
          copied-behind stored front longer
          ∙ ap (λ (k : ℕ). copied stored front ++ piece (512 * last.from) k stored) (let e : 512 * (last.count + source.count) ≡ 512 * last.count + 512 * source.count = omega arith in e)
          ∙ ap (λ (l : List ℕ). copied stored front ++ l) (piece_parts (512 * last.from) (512 * last.count) (512 * source.count) stored)
          ∙ ap (λ (k : ℕ). copied stored front ++ (piece (512 * last.from) (512 * last.count) stored ++ piece k (512 * source.count) stored))
          (let e : 512 * last.from + 512 * last.count ≡ 512 * source.from = omega (arith, goes_on) in e)
          ∙ sym (append_assoc (copied stored front) (piece (512 * last.from) (512 * last.count) stored) (piece (512 * source.from) (512 * source.count) stored))
          ∙ ap (λ (l : List ℕ). l ++ piece (512 * source.from) (512 * source.count) stored) (sym (ap (copied stored) split ∙ copied-behind stored front last));
      within = λ stored within long. All-append (IsLong stored) front (longer ∷ []) (All-take (IsLong stored) n sources within)
          (All-cons (IsLong stored) longer [] (omega (arith, long, goes_on)) (All-nil (IsLong stored)));
    })
