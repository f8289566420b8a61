-- What a warming does to the port.
use Rattle.std.proofs.Common.{◌≡◌, ℕ, ◌≤◌, ◌&&◌, Bool, true, false, IsTrue, is_some, List, [], Option, Some, None, IfSome, get_or, refl, sym, ap, subst, arith, append-nil}
use Rattle.std.specs.Option.{ForSome}
use Rattle.flat_image.specs.declared.act.Act.{Act}
use Rattle.flat_image.specs.declared.base.Base.{Base}
use Rattle.flat_image.specs.History.{History}
use Rattle.flat_image.specs.Ports.{PortState, Notes}
use Rattle.layer_shelf.specs.Shelves.{file_at}
use Rattle.turn_lock.specs.Locks.{Lock, Place}
use Rattle.shared_image.specs.Turns.{seat_port}
use Rattle.control_session.specs.ControlTable.{blocks_of}

-- a port that has seen this
abbrev seen_by : PortState → History → PortState
seen_by p seen = record p { seen = seen }

shelf-notes : (tells : Bool) (lock : Lock Base) (seat : Place Act) (before after : ℕ) → before ≤ after → Notes (seat_port tells lock seat before) (seat_port tells lock seat after) []
shelf-notes tells lock seat before after le = record {
  more = [];
  is = ap (λ (l : History). seen_by (seat_port tells lock seat after) l) (sym (append-nil seat.seen));
  own = refl;
  later = omega (arith, le);
  limit = λ within. within;
}

-- only the shelf was asked
pub warm-notes : (disk : Bool) (files files_now : Option (List (List ℕ))) (lock : Lock Base) (seat : Place Act) (before after : ℕ) → files_now ≡ files → before ≤ after
    → Notes (seat_port (disk && is_some files) lock seat before) (seat_port (disk && is_some files_now) lock seat after) []
warm-notes disk files files_now lock seat before after same le =
    subst (λ (f : Option (List (List ℕ))). Notes (seat_port (disk && is_some files) lock seat before) (seat_port (disk && is_some f) lock seat after) []) (sym same)
    (shelf-notes (disk && is_some files) lock seat before after le)

-- the blocks of a file that is told are those of the lower layer
pub warm-blocks : (disk : Bool) (files : Option (List (List ℕ))) (lowers : List (List ℕ)) (layer blocks : ℕ) → ForSome files (λ f. f ≡ lowers) → IfSome files (λ list. blocks ≡ blocks_of (file_at list layer))
    → IsTrue (disk && is_some files) → blocks ≡ blocks_of (get_or lowers layer [])
warm-blocks true None lowers layer blocks are told tells = absurd (cc tells)
warm-blocks false None lowers layer blocks are told tells = absurd (cc tells)
warm-blocks disk (Some list) lowers layer blocks are told tells = subst (λ (f : List (List ℕ)). blocks ≡ blocks_of (get_or f layer [])) (are list refl) told
