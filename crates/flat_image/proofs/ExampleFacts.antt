-- What the definitions give of the small histories.
use Rattle.std.proofs.Common.{◌≡◌, ℕ, false, ◌∷◌, [], List, refl, inl, inr, arith, lit<, lit≤, ap, take, drop}
use Rattle.std.proofs.lemmas.List.Elements.{All-nil, All-cons}
use Rattle.std.specs.Prelude.{Some, None}
use Rattle.flat_image.specs.declared.act.Act.{Act}
use Rattle.flat_image.specs.declared.act.Act.TheVariants.{Write, Fault}
use Rattle.flat_image.specs.declared.act.Asked.TheVariants.{Sectors}
use Rattle.flat_image.specs.declared.stands.Entry.{Entry}
use Rattle.flat_image.specs.Sheets.{Cell, Hole, Filled, zero_sector, paint, lengthened, bytes_of}
use Rattle.flat_image.specs.Sectors.{sectors_in, put_at}
use Rattle.flat_image.specs.CanonicalFiles.{file_of}
use Rattle.flat_image.specs.LayerReading.{uuid_in}
use Rattle.flat_image.specs.Base.{holes}
use Rattle.flat_image.specs.Entries.{entry}
use Rattle.flat_image.specs.History.{keeps}
use Rattle.flat_image.specs.Left.{ends_blame}
use Rattle.flat_image.specs.Examples.{sector, uuid, flushed, WritesAndCommit, FlushAndCrash, LanesOverLayer, FullTop, FaultsAndOrder, tall_sheet, GrowOverLayer, ImageOverLayer, SizesAndOrder}

pub writes_and_commit : WritesAndCommit
unfolding sectors_in put_at zero_sector
writes_and_commit = record {
  read = refl;
  rows = refl;
  sectors = refl;
  kept_none = refl;
  frozen_sheet = refl;
  used_again = refl;
  in_progress = refl;
  over = refl;
  layer = refl;
  read_again = refl;
}

abbrev IsUnkept : Entry Act → Type 0
IsUnkept e = keeps e.act ≡ false

abbrev StaysPut : Entry Act → Type 0
StaysPut e = ends_blame e.act ≡ false

pub flush_and_crash : FlushAndCrash
unfolding sectors_in put_at zero_sector
flush_and_crash = record {
  place = refl;
  kept_read = refl;
  whole_read = refl;
  first_alone = record {
    front = take 2 flushed;
    kept = record {
      rest = entry 0 (Write 1 (sector 0x62)) ∷ [];
      splits = refl;
      unkept = All-cons IsUnkept (entry 0 (Write 1 (sector 0x62))) [] refl (All-nil IsUnkept);
    };
    is = inl refl;
  };
  both = record { front = flushed; kept = record { rest = []; splits = refl; unkept = All-nil IsUnkept }; is = inl refl };
}

-- an image of four sectors over a sheet
over_sheet : List Cell → List (List ℕ)
over_sheet sheet = lengthened 4 (paint (paint [] sheet) (holes 4))

pub lanes_and_commit : LanesOverLayer
unfolding sectors_in put_at zero_sector over_sheet
lanes_and_commit layer size e = record {
  before = ap (λ s. bytes_of (take 1 (drop 1 (over_sheet s)))) e;
  behind = ap (λ s. bytes_of (take 2 (drop 1 (put_at 1 (sectors_in (sector 0x7A)) (over_sheet s))))) e;
  place = refl;
  sheet = refl;
  layers = ap (λ (n : ℕ). file_of (uuid 0x22) (uuid_in layer) n (Hole ∷ Filled (sector 0x7A) ∷ Hole ∷ Hole ∷ []) ∷ []) size;
  own = refl;
}

pub full_top : FullTop
unfolding sectors_in
full_top = record {
  large = refl;
  larger = refl;
  over = inl (lit< tt);
  room = record { rows_fit = lit≤ tt; sectors_fit = lit≤ tt };
  data_over = inr (lit< tt);
  data_room = record { rows_fit = lit≤ tt; sectors_fit = lit≤ tt };
}

pub faults_and_order : FaultsAndOrder
unfolding sectors_in put_at zero_sector
faults_and_order = record {
  place = refl;
  failed = refl;
  read = refl;
  busy = λ may. absurd (let none : Some (record { uuid = uuid 0x11; sheet = holes 8 }) ≡ None = may.free in cc);
  many = λ layers is may. absurd (omega (arith, is, may.few));
  worn = refl;
}

grown_sheet : List Cell → List (List ℕ)
grown_sheet sheet = put_at 5 (sectors_in (sector 0x64)) (lengthened 6 (lengthened 4 (paint (paint [] sheet) (holes 4))))

pub grow_and_commit : GrowOverLayer
unfolding sectors_in put_at zero_sector grown_sheet
grow_and_commit layer size e = record {
  sectors = refl;
  place = refl;
  old_part = ap (λ s. bytes_of (take 3 (drop 1 (grown_sheet s)))) e;
  new_part = ap (λ s. bytes_of (take 2 (drop 4 (grown_sheet s)))) e;
  layers = ap (λ (n : ℕ). file_of (uuid 0x22) (uuid_in layer) n tall_sheet ∷ []) size;
  version = refl;
  old_version = refl;
  may_be_left = record {
    front = [];
    kept = record { rest = entry 0 (Fault (Sectors 6)) ∷ []; splits = refl; unkept = All-cons IsUnkept (entry 0 (Fault (Sectors 6))) [] refl (All-nil IsUnkept) };
    is = inr (Sectors 6, record { front = []; number = 0; rest = []; splits = refl; since = All-nil StaysPut }, (refl, refl));
  };
}

tall_image : List Cell → List (List ℕ)
tall_image sheet = lengthened 8 (paint (paint [] sheet) (holes 8))

pub taller_image : ImageOverLayer
unfolding zero_sector tall_image
taller_image layer size e = record {
  fits = (omega arith, omega (arith, size));
  smaller = λ rising. omega (arith, size, rising.1);
  front = ap (λ s. bytes_of (take 4 (tall_image s))) e;
  behind = ap (λ s. bytes_of (take 4 (drop 4 (tall_image s)))) e;
}

pub sizes_and_order : SizesAndOrder
unfolding zero_sector
sizes_and_order = record {
  painted = refl;
  same = λ may. omega (arith, may.more);
  busy = λ may. absurd (let none : Some (record { uuid = uuid 0x11; sheet = holes 4 }) ≡ None = may.free in cc);
  shrinks = λ may. omega (arith, may.more);
}
