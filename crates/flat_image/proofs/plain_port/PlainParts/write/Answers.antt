use Rattle.std.proofs.Common.{◌≡◌, ◌+◌, ◌*◌, ◌/◌, ◌++◌, ◌∷◌, [], ℕ, false, List, length, refl, ap, ◌∙◌, subst}
use Rattle.std.specs.Vec.{with_items}
use Rattle.std.proofs.lemmas.List.{with_items_is}
use Rattle.std.proofs.lemmas.Result.{err_from_is_err_and}
use Rattle.flat_image.specs.declared.act.Act.TheVariants.{Write}
use Rattle.flat_image.specs.Sectors.{put_at}
use Rattle.flat_image.specs.Entries.{entry}
use Rattle.flat_image.specs.History.{HasRoom, IsOver}
use Rattle.flat_image.specs.PlainParts.{view_of}
use Rattle.flat_image.proofs.PlainExits.{change-worn, change-full, change-memory, change-refused, write-done}
use Rattle.flat_image.proofs.plain_port.PlainParts.write.Goals as goal

pub returns-in_err-fails : goal.returns-in_err-fails
returns-in_err-fails c =
    let p = err_from_is_err_and c.from_residual.result c.from_residual.ensures.1 in
    let worn = c.in_err-fails.ensures.worn in
    rw (p.1, p.2, worn.0)
    (change-worn (view_of c.args.self.now) c.begin.new.plan c.requires.plain c.in_err-fails.ensures.counted (Write c.args.at c.args.bytes.now) _ worn.1)

pub returns-in_err-test_room : goal.returns-in_err-test_room
returns-in_err-test_room c =
    let b = c.in_ok-fails.ensures in
    let p = err_from_is_err_and c.from_residual-in_err-test_room.result c.from_residual-in_err-test_room.ensures.1 in
    let over = c.in_err-test_room.ensures.room in
    rw (p.1, p.2)
    (change-full (view_of c.args.self.now) c.begin.new.plan c.requires.plain b.counted (Write c.args.at c.args.bytes.now) _ _ b.open.0
    (over.0, subst (λ k. IsOver (c.args.self.now.rows + k) (c.args.self.now.filled + length c.args.bytes.now / 512)) c.rows_needed-rows.ensures over.1))

pub returns-in_err-from_slice : goal.returns-in_err-from_slice
returns-in_err-from_slice c =
    let b = c.in_ok-fails.ensures in
    let p = err_from_is_err_and c.from_residual-in_err-from_slice.result c.from_residual-in_err-from_slice.ensures.1 in
    let room = c.in_ok-test_room.ensures.room in
    rw (p.1, p.2)
    (change-memory (view_of c.args.self.now) c.begin.new.plan c.requires.plain b.counted (Write c.args.at c.args.bytes.now) _ b.open.0
    (subst (λ k. HasRoom (c.args.self.now.rows + k) (c.args.self.now.filled + length c.args.bytes.now / 512)) c.rows_needed-rows.ensures room))

pub returns-in_err-note : goal.returns-in_err-note
returns-in_err-note c =
    let b = c.in_ok-fails.ensures in
    let p = err_from_is_err_and c.from_residual-in_err-note.result c.from_residual-in_err-note.ensures.1 in
    let room = c.in_ok-test_room.ensures.room in
    rw (p.1, p.2)
    (change-refused (view_of c.args.self.now) c.begin.new.plan c.requires.plain b.counted c.in_ok-fails.fails b.open.0 b.open.1
    c.note.new.entries.items c.note.new.faults.count (Write c.args.at c.args.bytes.now) _ _
    (subst (λ k. HasRoom (c.args.self.now.rows + k) (c.args.self.now.filled + length c.args.bytes.now / 512)) c.rows_needed-rows.ensures room)
    c.in_err-note.ensures.noted)

pub returns : goal.returns
returns c =
    let b = c.in_ok-fails.ensures in
    let room = c.in_ok-test_room.ensures.room in
    write-done (view_of c.args.self.now) c.begin.new.plan c.requires.plain b.counted c.in_ok-fails.fails b.open.0 b.open.1
    c.note.new.entries.items c.note.new.faults.count c.args.at c.args.bytes.now (with_items c.args.self.now.image c.put.new.image).items _ (c.args.self.now.filled + length c.args.bytes.now / 512) c.requires.within
    (subst (λ k. HasRoom (c.args.self.now.rows + k) (c.args.self.now.filled + length c.args.bytes.now / 512)) c.rows_needed-rows.ensures room)
    (subst (λ (l : List ℕ). (c.in_ok-fails.fails ≡ false) × (c.note.new.entries.items ≡ c.args.self.now.entries.items ++ entry 0 (Write c.args.at l) ∷ [])
    × (c.note.new.faults.count ≡ c.args.self.now.faults.count))
    (c.from_vec-copy.ensures ∙ c.in_ok-from_slice.ensures.items) c.in_ok-note.ensures.noted)
    (with_items_is c.args.self.now.image c.put.new.image (c.put.auto.image ∙ c.as_mut_slice.ensures.len)
    ∙ (c.put.ensures ∙ ap (λ l. put_at (512 * c.args.at) c.args.bytes.now l) c.as_mut_slice.ensures.value))
    (ap (λ k. c.args.self.now.rows + k) c.rows_needed-rows.ensures) refl
