use Rattle.std.proofs.Common.{◌≡◌, ℕ, ◌+◌, ◌*◌, List, map, subst, arith}
use Rattle.std.specs.List.{concat}
use Rattle.seg_mapping.specs.declared.Row.{Row}
use Rattle.seg_mapping.specs.Rows.{spelling}
use Rattle.lsmt_header.specs.declared.head.Head.{Head}
use Rattle.lsmt_header.specs.declared.head.Kind.TheVariants.{SealedEnd}
use Rattle.lsmt_header.specs.Blocks.{raw_block, raw_of}
use Rattle.flat_image.specs.CanonicalFiles.{padding_after}
use Rattle.flat_image.specs.LayerFiles.{whole_blocks}
use Rattle.layer_commit.specs.Laying.{Lays}
use Rattle.layer_commit.proofs.FileLaws.{lays_parts}
use Rattle.layer_commit.proofs.laying.fill.Goals as goal

pub returns-clause-filled : goal.returns-clause-filled
returns-clause-filled g c = λ told within.
    let head = c.args.layer.now.head in
    lays_parts head c.args.layer.now.rows ((g.D.Disk.state c.args.disk.now).seen c.args.file) c.args.sources.now c.args.from
    c.args.out.now c.lay_front.new.out c.lay_data.new.out c.lay_rows.new.out c.lay_padding.new.out c.lay_end.new.out
    c.requires.layer c.requires.index within c.requires.within
    (subst (λ (h : Head). Lays c.args.from 0 (raw_block (raw_of h)) c.args.out.now c.lay_front.new.out) c.head-head.ensures c.lay_front.ensures)
    (c.in_ok-lay_data.ensures.laid told within)
    (subst (λ (h : Head). Lays c.args.from h.index_at (concat (map spelling c.args.layer.now.rows)) c.lay_data.new.out c.lay_rows.new.out) c.head-head.ensures
    (subst (λ (rows : List Row). Lays c.args.from c.head-head.result.now.index_at (concat (map spelling rows)) c.lay_data.new.out c.lay_rows.new.out) c.rows.ensures.value c.lay_rows.ensures))
    (subst (λ (h : Head). Lays c.args.from (h.index_at + 16 * h.rows) (padding_after (h.index_at + 16 * h.rows)) c.lay_rows.new.out c.lay_padding.new.out) c.head-head.ensures c.lay_padding.ensures)
    (subst (λ (h : Head). Lays c.args.from (whole_blocks (h.index_at + 16 * h.rows)) (raw_block (raw_of (record h { kind = SealedEnd }))) c.lay_padding.new.out c.lay_end.new.out) c.head-head.ensures
    (subst (λ (k : ℕ). Lays c.args.from k (raw_block (raw_of (record c.head-head.result.now { kind = SealedEnd }))) c.lay_padding.new.out c.lay_end.new.out)
    (let e : c.div_ceil-end.result * 4096 ≡ whole_blocks (c.head-head.result.now.index_at + 16 * c.head-head.result.now.rows) = omega (arith, c.div_ceil-end.ensures) in e) c.lay_end.ensures))
