-- Runs that are put one after another, and the flat image of one layer as its runs.
use Rattle.std.proofs.Common.{◌≡◌, ℕ, ◌+◌, ◌-◌, ◌*◌, ◌<◌, ◌≤◌, Bool, true, false, List, [], ◌∷◌, ◌++◌, length, take, drop, get_or, refl, sym, ap, ◌∙◌, subst, arith, append_assoc, append-nil}
use Rattle.std.specs.Prelude.{Option, replicate}
use Rattle.std.specs.Io.KnownBytes.{Appends}
use Rattle.std.proofs.KnownBytes.{Appends-trans, Appends-nil}
use Rattle.std.proofs.lemmas.List.{take-replicate, take_all, length-replicate, replicate-append-replicate, drop_more, drop_all}
use Rattle.byte_ports.specs.Ports.{AppendsFront}
use Rattle.byte_ports.proofs.Chains.{AppendsFront-after, AppendsFront-more}
use Rattle.seg_mapping.specs.declared.Row.{Row}
use Rattle.flat_image.specs.Sheets.{Cell, Hole, Filled}
use Rattle.flat_image.specs.RowCells.{cell_of, covers, sector_at, AreLayerRows}
use Rattle.flat_image.specs.LayerFiles.{LayerOf}
use Rattle.flat_image.proofs.Runs.{run, run-same, run-holes, run-zeros, run-filled}
use Rattle.flat_image.proofs.CellLaws.{covers-behind, covers-within, hole_before}
use Rattle.sealed_layer.specs.Layers.{LayerIndex}
use Rattle.layer_commands.specs.Flattening.{FitIn, told_flat}
use Rattle.layer_commands.specs.Runs.{HasPut, Puts, PutsFront, zeros, row_bytes}
use Rattle.layer_commands.proofs.Overlays.{over_run, run-parts, zeros-parts, whole_is}
use Rattle.std.proofs.lemmas.List.Elements.{All-cons, All-nil}

-- ---- what is put

pub puts_none : (a : Option (List ℕ)) (kept bytes : List ℕ) → bytes ≡ [] → Puts a a kept kept bytes
puts_none a kept bytes none start put has =
    subst (HasPut start a kept) (sym (append-nil put) ∙ ap (λ (l : List ℕ). put ++ l) (sym none)) has

pub puts_more : (a b c : Option (List ℕ)) (k l m xs ys : List ℕ) → Puts a b k l xs → Puts b c l m ys → Puts a c k m (xs ++ ys)
puts_more a b c k l m xs ys first second start put has =
    subst (HasPut start c m) (append_assoc put xs ys) (second start (put ++ xs) (first start put has))

pub puts_front : (a b c : Option (List ℕ)) (k l xs ys : List ℕ) → Puts a b k l xs → PutsFront b c l ys → PutsFront a c k (xs ++ ys)
puts_front a b c k l xs ys first second start put has =
    subst (AppendsFront start c) (append_assoc put xs ys) (second start (put ++ xs) (first start put has))

pub front_more : (a b : Option (List ℕ)) (k xs ys : List ℕ) → PutsFront a b k xs → PutsFront a b k (xs ++ ys)
front_more a b k xs ys front start put has =
    subst (AppendsFront start b) (append_assoc put xs ys) (AppendsFront-more start b (put ++ xs) ys (front start put has))

-- what is kept is written, and then a run
flushed : (start a b : Option (List ℕ)) (kept put : List ℕ) → HasPut start a kept put → Appends a b kept → Appends start b put
flushed start a b kept put has written = subst (Appends start b) has.is (Appends-trans start a b has.done kept has.written written)

pub long_put : (a b c : Option (List ℕ)) (kept none run : List ℕ) → none ≡ [] → Appends a b kept → Appends b c run → Puts a c kept none run
long_put a b c kept none run empty before written start put has = record {
  done = put ++ run;
  written = Appends-trans start b c put run (flushed start a b kept put has before) written;
  is = ap (λ (l : List ℕ). (put ++ run) ++ l) empty ∙ append-nil (put ++ run);
}

pub long_front : (a b c : Option (List ℕ)) (kept run : List ℕ) → Appends a b kept → AppendsFront b c run → PutsFront a c kept run
long_front a b c kept run before front start put has = AppendsFront-after start b c put run (flushed start a b kept put has before) front

pub kept_front : (a b : Option (List ℕ)) (kept run : List ℕ) → AppendsFront a b kept → PutsFront a b kept run
kept_front a b kept run front start put has =
    AppendsFront-more start b put run (subst (AppendsFront start b) has.is (AppendsFront-after start a b has.done kept has.written front))

-- all that was put is written at the end
put_all : (a : Option (List ℕ)) → HasPut a a [] []
put_all a = record { done = []; written = Appends-nil a; is = refl }

pub all_put : (a b c : Option (List ℕ)) (none kept bytes : List ℕ) → none ≡ [] → Puts a b none kept bytes → Appends b c kept → Appends a c bytes
all_put a b c none kept bytes empty puts written =
    let from : Puts a b [] kept bytes = subst (λ (l : List ℕ). Puts a b l kept bytes) empty puts in
    flushed a b c kept bytes (from a [] (put_all a)) written

pub all_front : (a b c : Option (List ℕ)) (none kept bytes : List ℕ) → none ≡ [] → Puts a b none kept bytes → AppendsFront b c kept → AppendsFront a c bytes
all_front a b c none kept bytes empty puts front =
    let from : Puts a b [] kept bytes = subst (λ (l : List ℕ). Puts a b l kept bytes) empty puts in
    let has = from a [] (put_all a) in
    subst (AppendsFront a c) has.is (AppendsFront-after a b c has.done kept has.written front)

pub front_put : (a b : Option (List ℕ)) (none bytes : List ℕ) → none ≡ [] → PutsFront a b none bytes → AppendsFront a b bytes
front_put a b none bytes empty front =
    let from : PutsFront a b [] bytes = subst (λ (l : List ℕ). PutsFront a b l bytes) empty front in from a [] (put_all a)

-- ---- zeros

pub blank_front : (blank : List ℕ) (size : ℕ) → blank ≡ replicate {A = ℕ} (length blank) 0 → size ≤ length blank → take size blank ≡ replicate {A = ℕ} size 0
blank_front blank size is fits = ap (take size) is ∙ take-replicate size (length blank) 0 fits

pub zeros_more : (total left size : ℕ) → size ≤ left → left ≤ total
    → replicate {A = ℕ} (total - left) 0 ++ replicate {A = ℕ} size 0 ≡ replicate {A = ℕ} (total - (left - size)) 0
zeros_more total left size fits within =
    replicate-append-replicate (total - left) size 0
    ∙ ap (λ (k : ℕ). replicate {A = ℕ} k 0) (let e : total - left + size ≡ total - (left - size) = omega arith in e)

pub zeros_rest : (total left : ℕ) → left ≤ total → replicate {A = ℕ} (total - left) 0 ++ replicate {A = ℕ} left 0 ≡ replicate {A = ℕ} total 0
zeros_rest total left within =
    replicate-append-replicate (total - left) left 0 ∙ ap (λ (k : ℕ). replicate {A = ℕ} k 0) (let e : total - left + left ≡ total = omega arith in e)

pub no_zeros : (total : ℕ) → replicate {A = ℕ} (total - total) 0 ≡ []
no_zeros total = ap (λ (k : ℕ). replicate {A = ℕ} k 0) (let e : total - total ≡ 0 = omega arith in e)

-- ---- a row

pub zeroed_bytes : (file : List ℕ) (row : Row) → row.zeroed ≡ true → row_bytes file row ≡ zeros row.count
zeroed_bytes file row is = rw is refl

pub filled_bytes : (file : List ℕ) (row : Row) → row.zeroed ≡ false → row_bytes file row ≡ take (512 * row.count) (drop (512 * row.place) file)
filled_bytes file row is = rw is refl

-- ---- the image

-- the bytes of the sectors from `low` to n, run after run
abbrev pub run_bytes : List ℕ → ℕ → ℕ → List Row → List ℕ
run_bytes file n low [] = zeros (n - low)
run_bytes file n low (row ∷ rows) = zeros (row.offset - low) ++ (row_bytes file row ++ run_bytes file n (row.offset + row.count) rows)

zeros_under : (f : ℕ → Cell) (at n : ℕ) → ((k : ℕ) → at ≤ k → k < at + n → f k ≡ Hole) → run f at n (zeros n) ≡ zeros n
zeros_under f at n holes = run-holes f at n (zeros n) holes ∙ take_all (512 * n) (zeros n) (omega (arith, length-replicate {A = ℕ} (512 * n) 0))

-- a row's cells over zeros
row_run : (file : List ℕ) (row : Row) (rows : List Row) (zeroed : Bool) → row.zeroed ≡ zeroed
    → run (cell_of file (row ∷ rows)) row.offset row.count (zeros row.count) ≡ row_bytes file row
row_run file row rows true is =
    run-zeros (cell_of file (row ∷ rows)) row.offset row.count (zeros row.count)
    (λ k from to. let on : covers row k ≡ true = covers-within row k from to in rw (on, is) refl)
    ∙ sym (zeroed_bytes file row is)
row_run file row rows false is =
    run-filled (cell_of file (row ∷ rows)) file row.offset row.place row.count (zeros row.count)
    (λ k below.
    let on : covers row (row.offset + k) ≡ true = covers-within row (row.offset + k) (omega arith) (omega arith) in
    let place : row.place + (row.offset + k - row.offset) ≡ row.place + k = omega arith in
    rw (on, is) (ap (λ (p : ℕ). Filled (sector_at file p)) place))
    ∙ sym (filled_bytes file row is)

run_rows : (file : List ℕ) (n index_at low : ℕ) (rows : List Row) → AreLayerRows n index_at low rows → low ≤ n
    → run (cell_of file rows) low (n - low) (zeros (n - low)) ≡ run_bytes file n low rows
run_rows file n index_at low [] are within = zeros_under (cell_of file []) low (n - low) (λ k from to. refl)
run_rows file n index_at low (row ∷ rows) are within =
    let f : ℕ → Cell = cell_of file (row ∷ rows) in
    let order = are.0.order in
    let range = are.0.range in
    let gap : ℕ = row.offset - low in
    let end : ℕ = row.offset + row.count in
    let rest : ℕ = n - end in
    let sum : n - low ≡ gap + (row.count + rest) = omega (arith, order, range) in
    let at : low + gap ≡ row.offset = omega (arith, order) in
    let here : AreLayerRows n index_at row.offset (row ∷ rows) = (record { fits = are.0.fits; order = omega arith; range = range; place = are.0.place }, are.1) in
    let size : (k : ℕ) → length (zeros k) ≡ 512 * k = λ k. length-replicate {A = ℕ} (512 * k) 0 in
    let first : run f low gap (zeros gap) ≡ zeros gap =
    zeros_under f low gap (λ k from to. hole_before file n index_at row.offset (row ∷ rows) k here (omega (arith, to, at))) in
    let last : run f end rest (zeros rest) ≡ run_bytes file n end rows =
    run-same f (cell_of file rows) end rest (zeros rest)
    (λ k from to. let off : covers row k ≡ false = covers-behind row k from in rw off refl)
    ∙ run_rows file n index_at end rows are.1 range in
    ap (λ (k : ℕ). run f low k (zeros k)) sum
    ∙ (ap (run f low (gap + (row.count + rest))) (zeros-parts gap (row.count + rest))
    ∙ (run-parts f low gap (row.count + rest) (zeros gap) (zeros (row.count + rest)) (size gap)
    ∙ (ap (λ (bytes : List ℕ). bytes ++ run f (low + gap) (row.count + rest) (zeros (row.count + rest))) first
    ∙ (ap (λ (k : ℕ). zeros gap ++ run f k (row.count + rest) (zeros (row.count + rest))) at
    ∙ (ap (λ (bytes : List ℕ). zeros gap ++ run f row.offset (row.count + rest) bytes) (zeros-parts row.count rest)
    ∙ (ap (λ (bytes : List ℕ). zeros gap ++ bytes) (run-parts f row.offset row.count rest (zeros row.count) (zeros rest) (size row.count))
    ∙ (ap (λ (bytes : List ℕ). zeros gap ++ (bytes ++ run f end rest (zeros rest))) (row_run file row rows row.zeroed refl)
    ∙ ap (λ (bytes : List ℕ). zeros gap ++ (row_bytes file row ++ bytes)) last)))))))

-- the flat image of a layer
pub layer_runs : (file : List ℕ) (layer : LayerIndex) → LayerOf file layer.head layer.rows
    → run_bytes file layer.head.sectors 0 layer.rows ≡ told_flat layer.head.sectors (file ∷ []) (layer ∷ [])
layer_runs file layer of =
    let n : ℕ = layer.head.sectors in
    let P : LayerIndex → Type 0 = λ other. other.head.sectors ≤ n in
    let fits : FitIn n (layer ∷ []) = All-cons P layer [] (omega arith) (All-nil P) in
    sym (run_rows file n layer.head.index_at 0 layer.rows of.sound (omega arith))
    ∙ (ap (λ (k : ℕ). run (cell_of file layer.rows) 0 k (zeros k)) (let e : n - 0 ≡ n = omega arith in e)
    ∙ (sym (over_run file layer.rows 0 n (zeros n))
    ∙ sym (whole_is n (file ∷ []) (layer ∷ []) (of, tt) fits)))

-- ---- along the rows

-- what was put before row i, and what is still to be put
pub record Along (file : List ℕ) (n index_at : ℕ) (rows : List Row) (a b : Option (List ℕ)) (kept kept_now : List ℕ) (i at : ℕ) : Type 0 where
  pub before : List ℕ
  pub puts : Puts a b kept kept_now before
  pub rest : before ++ run_bytes file n at (drop i rows) ≡ run_bytes file n 0 rows
  pub are : AreLayerRows n index_at at (drop i rows)
  pub within : at ≤ n

pub along_start : (file : List ℕ) (n index_at : ℕ) (rows : List Row) (a : Option (List ℕ)) (kept : List ℕ) → AreLayerRows n index_at 0 rows → Along file n index_at rows a a kept kept 0 0
along_start file n index_at rows a kept are = record {
  before = [];
  puts = puts_none a kept [] refl;
  rest = refl;
  are = are;
  within = omega arith;
}

module _ (file : List ℕ) (n index_at : ℕ) (rows : List Row) (a b : Option (List ℕ)) (kept kept_now : List ℕ) (i at : ℕ) (row d : Row) where
  abbrev next : List Row
  next = drop (i + 1) rows

  pub next_row : i < length rows → row ≡ get_or rows i d → drop i rows ≡ row ∷ drop (i + 1) rows
  next_row below is = drop_more rows i d below ∙ ap (λ (r : Row). r ∷ drop (i + 1) rows) (sym is)

  pub row_next : Along file n index_at rows a b kept kept_now i at → i < length rows → row ≡ get_or rows i d → AreLayerRows n index_at at (row ∷ drop (i + 1) rows)
  row_next along below is = subst (AreLayerRows n index_at at) (next_row below is) along.are

  rest_is : (along : Along file n index_at rows a b kept kept_now i at) → i < length rows → row ≡ get_or rows i d
      → along.before ++ (zeros (row.offset - at) ++ (row_bytes file row ++ run_bytes file n (row.offset + row.count) (drop (i + 1) rows))) ≡ run_bytes file n 0 rows
  rest_is along below is = ap (λ (l : List Row). along.before ++ run_bytes file n at l) (sym (next_row below is)) ∙ along.rest

  pub along_next : (b' c : Option (List ℕ)) (mid now : List ℕ) → Along file n index_at rows a b kept kept_now i at → i < length rows → row ≡ get_or rows i d
      → Puts b b' kept_now mid (zeros (row.offset - at)) → Puts b' c mid now (row_bytes file row)
      → Along file n index_at rows a c kept now (i + 1) (row.offset + row.count)
  along_next b' c mid now along below is gap said =
      let here = row_next along below is in
      record {
        before = (along.before ++ zeros (row.offset - at)) ++ row_bytes file row;
        puts = puts_more a b' c kept mid now (along.before ++ zeros (row.offset - at)) (row_bytes file row)
            (puts_more a b b' kept kept_now mid along.before (zeros (row.offset - at)) along.puts gap) said;
        rest = append_assoc (along.before ++ zeros (row.offset - at)) (row_bytes file row) (run_bytes file n (row.offset + row.count) (drop (i + 1) rows))
            ∙ (append_assoc along.before (zeros (row.offset - at)) (row_bytes file row ++ run_bytes file n (row.offset + row.count) (drop (i + 1) rows))
            ∙ rest_is along below is);
        are = here.1;
        within = here.0.range;
      }

  pub gap_front : (c : Option (List ℕ)) → Along file n index_at rows a b kept kept_now i at → i < length rows → row ≡ get_or rows i d
      → PutsFront b c kept_now (zeros (row.offset - at)) → PutsFront a c kept (run_bytes file n 0 rows)
  gap_front c along below is front =
      subst (PutsFront a c kept) (rest_is along below is)
      (puts_front a b c kept kept_now along.before _ along.puts (front_more b c kept_now (zeros (row.offset - at)) _ front))

  pub row_front : (b' c : Option (List ℕ)) (mid : List ℕ) → Along file n index_at rows a b kept kept_now i at → i < length rows → row ≡ get_or rows i d
      → Puts b b' kept_now mid (zeros (row.offset - at)) → PutsFront b' c mid (row_bytes file row) → PutsFront a c kept (run_bytes file n 0 rows)
  row_front b' c mid along below is gap front =
      subst (PutsFront a c kept) (rest_is along below is)
      (puts_front a b c kept kept_now along.before _ along.puts
      (puts_front b b' c kept_now mid (zeros (row.offset - at)) _ gap (front_more b' c mid (row_bytes file row) _ front)))

-- behind the last row
end_is : (file : List ℕ) (n index_at : ℕ) (rows : List Row) (a b : Option (List ℕ)) (kept kept_now : List ℕ) (i at : ℕ)
    (along : Along file n index_at rows a b kept kept_now i at) → length rows ≤ i → along.before ++ zeros (n - at) ≡ run_bytes file n 0 rows
end_is file n index_at rows a b kept kept_now i at along past =
    ap (λ (l : List Row). along.before ++ run_bytes file n at l) (sym (drop_all i rows past)) ∙ along.rest

pub end_puts : (file : List ℕ) (n index_at : ℕ) (rows : List Row) (a b c : Option (List ℕ)) (kept kept_now now : List ℕ) (i at : ℕ)
    → Along file n index_at rows a b kept kept_now i at → length rows ≤ i → Puts b c kept_now now (zeros (n - at)) → Puts a c kept now (run_bytes file n 0 rows)
end_puts file n index_at rows a b c kept kept_now now i at along past gap =
    subst (Puts a c kept now) (end_is file n index_at rows a b kept kept_now i at along past)
    (puts_more a b c kept kept_now now along.before (zeros (n - at)) along.puts gap)

pub end_front : (file : List ℕ) (n index_at : ℕ) (rows : List Row) (a b c : Option (List ℕ)) (kept kept_now : List ℕ) (i at : ℕ)
    → Along file n index_at rows a b kept kept_now i at → length rows ≤ i → PutsFront b c kept_now (zeros (n - at)) → PutsFront a c kept (run_bytes file n 0 rows)
end_front file n index_at rows a b c kept kept_now i at along past front =
    subst (PutsFront a c kept) (end_is file n index_at rows a b kept kept_now i at along past)
    (puts_front a b c kept kept_now along.before (zeros (n - at)) along.puts front)

-- all of it is the flat image
pub flat_puts : (file : List ℕ) (layer : LayerIndex) (rows : List Row) (a b : Option (List ℕ)) (kept now : List ℕ) → LayerOf file layer.head layer.rows → rows ≡ layer.rows
    → Puts a b kept now (run_bytes file layer.head.sectors 0 rows) → Puts a b kept now (told_flat layer.head.sectors (file ∷ []) (layer ∷ []))
flat_puts file layer rows a b kept now of same puts =
    subst (Puts a b kept now) (ap (run_bytes file layer.head.sectors 0) same ∙ layer_runs file layer of) puts

pub flat_front : (file : List ℕ) (layer : LayerIndex) (rows : List Row) (a b : Option (List ℕ)) (kept : List ℕ) → LayerOf file layer.head layer.rows → rows ≡ layer.rows
    → PutsFront a b kept (run_bytes file layer.head.sectors 0 rows) → PutsFront a b kept (told_flat layer.head.sectors (file ∷ []) (layer ∷ []))
flat_front file layer rows a b kept of same front =
    subst (PutsFront a b kept) (ap (run_bytes file layer.head.sectors 0) same ∙ layer_runs file layer of) front
