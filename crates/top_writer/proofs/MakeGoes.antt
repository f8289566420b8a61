-- A new top.
use Rattle.std.proofs.Common.{◌≡◌, ℕ, zero, suc, ◌+◌, ◌*◌, ◌≤◌, List, [], ◌∷◌, length, map, take, drop, refl, sym, ap, subst, ◌∙◌, arith, Some, None, Bool}
use Rattle.std.specs.Prelude.{All, replicate}
use Rattle.std.specs.List.{range_with_len}
use Rattle.std.proofs.lemmas.List.{take_all}
use Rattle.block_disk.specs.Changes.{put}
use Rattle.block_disk.specs.DiskState.{DiskState, Files}
use Rattle.block_disk.specs.Claims.{Beside, Run, FileRun}
use Rattle.block_disk.proofs.Moments.{by_widened, run_weakened, run_joined}
use Rattle.gate_mark.specs.declared.mark.Mark.{Mark}
use Rattle.gate_mark.specs.Mark.{file_of, sequence_in, body_in, IsKept, MayHold}
use Rattle.gate_mark.proofs.SlotWrites.{put_nil}
use Rattle.lsmt_header.specs.declared.head.Kind.{Kind}
use Rattle.lsmt_header.specs.declared.head.Kind.TheVariants.{TopBytes, TopRows}
use Rattle.lsmt_header.specs.Blocks.{BlockOf, nil, raw_head}
use Rattle.lsmt_header.proofs.BlockLemmas.{raw_of-block}
use Rattle.seg_mapping.specs.declared.Row.{Row}
use Rattle.seg_table.specs.declared.segment.Segment.{Segment}
use Rattle.seg_table.specs.declared.segment.What.TheVariants as what
use Rattle.seg_table.specs.Cells.{cell_in}
use Rattle.flat_image.specs.Left.{fresh_stand}
use Rattle.flat_image.specs.RowCells.{cell_of, AreSpelled}
use Rattle.flat_image.specs.Sheets.{Cell, Hole}
use Rattle.top_writer.specs.Files.{data_file, index_file, mark_file, TopFiles, HasBlock, HasSectors, asked_of, size_said, parent_said, new_head, rows_said, sectors_said}
use Rattle.top_writer.specs.Fitting.{IsIndex, ViewFits}
use Rattle.top_writer.specs.Making.{IsMade, IsNewMark}
use Rattle.top_writer.specs.Rows.{IsTopRow}
use Rattle.top_writer.specs.View.{TopView, cell_at}

nothing : (xs : List ℕ) → take 0 xs ≡ []
nothing [] = refl
nothing (x ∷ xs) = refl

take_none : {X : Type 0} (k : ℕ) → take {0} {A = X} k [] ≡ []
take_none zero = refl
take_none (suc k) = refl

none_is_some : (place : ℕ) → None ≡ Some (what.Place place) → ⊥
none_is_some place e = cc

spelled_nothing : (bytes : List ℕ) (k : ℕ) → AreSpelled bytes 0 (drop {0} {A = Row} k [])
spelled_nothing bytes zero = tt
spelled_nothing bytes (suc k) = tt

-- a file that was cut to nothing and written
pub made_seen : (block start cut written : List ℕ) → cut ≡ take 0 start → written ≡ put cut 0 block → written ≡ block
made_seen block start cut written first second = second ∙ ap (λ (f : List ℕ). put f 0 block) (first ∙ nothing start) ∙ put_nil block

-- nothing is claimed of what a crash leaves while a top is made
pub any_wide : (epoch file number : ℕ) (old new : DiskState) → number ≡ file → TopFiles epoch file → FileRun number old new (λ c. Unit {0}) → Run (TopFiles epoch) old new (λ files. Unit {0})
any_wide epoch file number old new same touched run =
    run_weakened (TopFiles epoch) old new (λ (u : Unit {0}) (files : Files). Beside (λ f. f ≡ number) old (λ (x : Files). Unit {0}) files) (λ (files : Files). Unit {0})
    (by_widened (λ f. f ≡ number) (TopFiles epoch) old new (λ (u : Unit {0}) (files : Files). Unit {0}) run (λ f e. subst (TopFiles epoch) (sym (e ∙ same)) touched))
    (λ u files beside. tt)

pub any_then : (epoch file number : ℕ) (old mid new : DiskState) → number ≡ file → TopFiles epoch file → Run (TopFiles epoch) old mid (λ files. Unit {0})
    → FileRun number mid new (λ c. Unit {0}) → Run (TopFiles epoch) old new (λ files. Unit {0})
any_then epoch file number old mid new same touched first run =
    run_joined (TopFiles epoch) old mid new (λ (files : Files). Unit {0}) first (any_wide epoch file number mid new same touched run)

pub mark_made : (now : DiskState) (file number : ℕ) (mark : Mark) (body : List ℕ) → number ≡ file
    → (file_of mark ≡ number) × (sequence_in mark ≡ 1) × (body_in mark ≡ body) → ((b : List ℕ) → MayHold mark b → b ≡ body) → IsKept now mark
    → rows_said body ≡ 0 → sectors_said body ≡ 0 → IsNewMark now file mark
mark_made now file number mark body same is bodies kept rows sectors = record {
  file_is = is.0 ∙ same;
  sequence = is.1;
  kept = kept;
  settled = λ b may_hold. bodies b may_hold ∙ sym is.2;
  counts = λ b may_hold. let e = bodies b may_hold in record {
    rows_are = ap rows_said e ∙ rows;
    sectors_are = ap sectors_said e ∙ sectors;
    room = record { rows_fit = omega arith; sectors_fit = omega arith };
  };
}

-- no rows make no cells
sheet_none : (file : List ℕ) (at n : ℕ) → replicate n Hole ≡ map (cell_of file []) (range_with_len at n)
sheet_none file at zero = refl
sheet_none file at (suc n) = ap (λ (cells : List Cell). Hole ∷ cells) (sheet_none file (at + 1) n)

-- the head of a file that was made
made_head : (kind : Kind) (n : ℕ) (parent block file : List ℕ) → BlockOf block (new_head kind n parent) → length block ≡ 4096 → take 4096 file ≡ block → HasBlock kind file
made_head kind n parent block file is long same = (new_head kind n parent, subst (λ (b : List ℕ). BlockOf b (new_head kind n parent)) (sym same) is, refl)

made_size : (kind : Kind) (n : ℕ) (exact : Bool) (parent block file : List ℕ) → BlockOf block (new_head kind n parent) → take 4096 file ≡ block → HasSectors exact n file
unfolding size_said
made_size kind n exact parent block file is same =
    let e : size_said file ≡ n = ap (λ (b : List ℕ). (raw_head b).sectors) same ∙ ap (λ r. r.sectors) (raw_of-block block (new_head kind n parent) is) in
    record { within = omega (arith, e); same = λ is_exact. e }

made_parent : (kind : Kind) (n : ℕ) (parent block file : List ℕ) → BlockOf block (new_head kind n parent) → take 4096 file ≡ block → parent_said file ≡ parent
unfolding parent_said
made_parent kind n parent block file is same = ap (λ (b : List ℕ). (raw_head b).parent) same ∙ ap (λ r. r.parent) (raw_of-block block (new_head kind n parent) is)

none_there : (segments : List Segment) (i place : ℕ) → cell_in segments i ≡ None → cell_in segments i ≡ Some (what.Place place) → ⊥
none_there segments i place none some = none_is_some place (sym none ∙ some)

all_none : {X : Type 0} (P : X → Type 0) → All P []
all_none P = λ k d lt. absurd (omega (arith, lt))

pub made_fits : (tells : Bool) (now : DiskState) (n : ℕ) (exact : Bool) (parent : List ℕ) (v : TopView) (mark : Mark)
    → v.epoch ≤ 255 → v.sectors ≡ n → v.mark ≡ mark → v.synced ≡ 0 → v.rows ≡ 0 → v.filled ≡ 0 → v.waiting ≡ []
    → ((i : ℕ) → cell_in v.segments i ≡ None)
    → IsMade tells now (data_file v.epoch) (new_head TopBytes n parent) → IsMade tells now (index_file v.epoch) (new_head TopRows n nil) → IsNewMark now (mark_file v.epoch) mark
    → ViewFits tells now n (asked_of exact (Some parent)) v (fresh_stand n) (fresh_stand n ∷ [])
made_fits tells now n exact parent v mark epoch sectors mark_same synced rows filled waiting cells data_made index_made new =
    let file : List ℕ = data_made.block in
    let none : List Row = [] in
    let whole : take 4096 file ≡ file = take_all 4096 file (omega (arith, data_made.long)) in
    let no_rows : (k : ℕ) → take k none ≡ none = take_none in
    record {
      file = file;
      rows = none;
      holds = record {
        epoch = epoch;
        sectors = sectors;
        head = record {
          head = made_head TopBytes n parent file file data_made.is data_made.long whole;
          size = made_size TopBytes n exact parent file file data_made.is whole;
          parent_is = made_parent TopBytes n parent file file data_made.is whole;
        };
        long = omega (arith, data_made.long, filled);
        number = sym rows;
        sound = all_none (IsTopRow n v.filled);
        room = record { rows_fit = omega (arith, rows); sectors_fit = omega (arith, filled) };
        rows_are = sym rows;
        filled_are = sym filled;
        cells = sheet_none file 0 n;
        table = record {
          same = λ i lt. ap (cell_at file) (cells i);
          within = λ i past. cells i;
          from = λ i place e. absurd (none_there v.segments i place (cells i) e);
          to = λ i place e. absurd (none_there v.segments i place (cells i) e);
        };
        waiting = spelled_nothing v.waiting v.synced;
        waiting_size = omega (arith, ap length waiting, synced, rows);
      };
      lasts = record {
        synced_sectors = 0;
        within = omega arith;
        mark_is = ap (λ (m : Mark). m.file) mark_same ∙ new.file_is;
        mark = subst (λ (m : Mark). IsKept now m) (sym mark_same) new.kept;
        bytes_left = λ c left. let same = data_made.left c left in record { long = omega (arith, ap length same, data_made.long); same = ap (take 4096) same };
        index_left = λ c left. let same = index_made.left c left in
            let front : take 4096 c ≡ index_made.block = ap (take 4096) same ∙ take_all 4096 index_made.block (omega (arith, index_made.long)) in
            subst (IsIndex n (asked_of exact (Some parent)) c) (sym (no_rows v.synced)) (record {
              head = made_head TopRows n nil index_made.block c index_made.is index_made.long front;
              size = made_size TopRows n exact nil index_made.block c index_made.is front;
              long = omega (arith, ap length same, index_made.long);
              spelled = tt;
            });
        seen = λ told. let same = data_made.seen told in record {
          long = omega (arith, ap length same, data_made.long, filled);
          same = ap (take (4096 + 512 * v.filled)) same;
        };
        bodies = λ body may_hold. (
          fresh_stand n,
          (0, omega arith, refl),
          record {
            counts = new.counts body (subst (λ (m : Mark). MayHold m body) mark_same may_hold);
            rows_synced = omega arith;
            sectors_synced = omega arith;
            sound = all_none (IsTopRow n 0);
            cells = sheet_none file 0 n;
          },
        );
      };
    }
