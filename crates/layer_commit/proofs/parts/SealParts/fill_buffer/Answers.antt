use Rattle.std.proofs.Common.{◌≡◌, ℕ, ◌-◌, ◌*◌, List, take, min, subst, ap, sym, ◌∙◌}
use Rattle.block_disk.specs.Changes.{piece}
use Rattle.flat_image.specs.CanonicalFiles.{file_with}
use Rattle.layer_commit.specs.declared.source.Source.{Source}
use Rattle.layer_commit.specs.Sources.{copied, AreWithin}
use Rattle.layer_commit.specs.View.{view_of, length_of}
use Rattle.layer_commit.proofs.FileLaws.{copied-front, within_more}
use Rattle.layer_commit.proofs.parts.SealParts.fill_buffer.Goals as goal

pub returns-in_err-fill_vec-clause-same : goal.returns-in_err-fill_vec-clause-same
returns-in_err-fill_vec-clause-same g c = ap (λ (n : ℕ). record (view_of c.args.self.now) { room = n }) c.fill_vec.ensures.size

pub returns-clause-same : goal.returns-clause-same
returns-clause-same g c = ap (λ (n : ℕ). record (view_of c.args.self.now) { room = n }) c.fill_vec.ensures.size

pub returns-clause-filled : goal.returns-clause-filled
returns-clause-filled g c = λ told stored fits.
    let v = view_of c.args.self.now in
    let seen : List ℕ = (g.D.Disk.state c.args.disk.now).seen v.from_file in
    let n : ℕ = min 131072 (length_of v.head - 131072 * v.done) in
    let bytes : List ℕ = c.fill_vec.new.buffer.items in
    let size : c.piece_size-size.result ≡ n = c.piece_size-size.ensures.size in
    let sources_are : c.as_slice.result.now ≡ v.sources = c.as_slice.ensures.value in
    let within : AreWithin seen c.as_slice.result.now = subst (AreWithin seen) (sym sources_are) (within_more stored seen v.sources fits.within (fits.source told)) in
    subst (λ (k : ℕ). take k bytes ≡ piece (131072 * v.done) k (file_with v.head (copied seen c.as_slice.result.now) v.rows)) size (c.in_ok-fill_vec.ensures.filled told within)
    ∙ ap (λ (sources : List Source). piece (131072 * v.done) n (file_with v.head (copied seen sources) v.rows)) sources_are
    ∙ ap (λ (l : List ℕ). piece (131072 * v.done) n (file_with v.head l v.rows)) (copied-front stored seen v.sources fits.within (fits.source told))
