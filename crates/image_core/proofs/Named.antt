-- Files that the manifest does not name are not looked at.
use Rattle.std.proofs.Common.{◌≡◌, ℕ, inl, inr, Bool, List, length, refl, sym, ◌∙◌, subst}
use Rattle.std.specs.Prelude.{Option, Some, None}
use Rattle.block_disk.specs.DiskState.{Files}
use Rattle.gate_mark.specs.MarkFile as marks
use Rattle.flat_image.specs.declared.base.Base.{Base}
use Rattle.flat_image.specs.Frozen.{Frozen}
use Rattle.flat_image.specs.Left.{Stand, stand}
use Rattle.top_writer.specs.Files.{data_file, index_file, mark_file, TopFiles, stored_in}
use Rattle.top_writer.specs.Showing.{ShowsTop}
use Rattle.image_core.specs.Numbers.{manifest_file, sealed_file}
use Rattle.image_core.specs.Manifest.{exact_said}
use Rattle.image_core.specs.Shows.{epoch_of, heads_asked, ShowsStand, ShowsFrozen, IsFrozenFile}
use Rattle.image_core.specs.Laws.{ShowsByNamed}

pub stored-same : (epoch : ℕ) (files other : Files) → ((f : ℕ) → TopFiles epoch f → other f ≡ files f) → stored_in epoch files ≡ stored_in epoch other
stored-same epoch files other same =
    let bytes : files (data_file epoch) ≡ other (data_file epoch) = sym (same (data_file epoch) (inl refl)) in
    let index : files (index_file epoch) ≡ other (index_file epoch) = sym (same (index_file epoch) (inr (inl refl))) in
    let mark : files (mark_file epoch) ≡ other (mark_file epoch) = sym (same (mark_file epoch) (inr (inr refl))) in
    λ i. record { bytes = bytes i; index = index i; mark = mark i }

stand-named : (exact : Bool) (epoch n : ℕ) (lowers : List (List ℕ)) (s : Stand) (files other : Files) → ((f : ℕ) → TopFiles epoch f → other f ≡ files f)
    → ShowsStand exact epoch n lowers s files → ShowsStand exact epoch n lowers s other
stand-named exact epoch n lowers s files other same shows = subst (ShowsTop n (heads_asked exact epoch lowers) s) (stored-same epoch files other same) shows

frozen-named : (exact : Bool) (epoch n : ℕ) (lowers : List (List ℕ)) (frozen : Option Frozen) (files other : Files)
    → ((f : ℕ) → IsFrozenFile epoch frozen f → other f ≡ files f) → ShowsFrozen exact epoch n lowers frozen files → ShowsFrozen exact epoch n lowers frozen other
frozen-named exact epoch n lowers None files other same shows = tt
frozen-named exact epoch n lowers (Some f) files other same shows = record {
  rows = shows.rows;
  filled = shows.filled;
  shows = stand-named exact epoch n lowers (record { cells = f.sheet; rows = shows.rows; filled = shows.filled }) files other same shows.shows;
}

pub shows-by_named : (files other : Files) (base : Base) → ShowsByNamed files other base
shows-by_named files other base shows same = record {
  sequence = shows.sequence;
  body = shows.body;
  manifest = subst (marks.Shows shows.sequence shows.body) (sym (same manifest_file (inl refl))) shows.manifest;
  names = shows.names;
  sound = shows.sound;
  done = λ k below. same (sealed_file k) (inr (inl (k, below, refl))) ∙ shows.done k below;
  frozen = frozen-named (exact_said shows.body) (length base.done) base.sectors base.lowers base.frozen files other (λ f is. same f (inr (inr (inl is)))) shows.frozen;
  top = stand-named (exact_said shows.body) (epoch_of base) base.sectors base.lowers (stand base) files other (λ f is. same f (inr (inr (inr is)))) shows.top;
}
