-- What the commands over layers say of all objects.
use Rattle.std.proofs.Common.{ℕ, true, false, List, [], arith}
use Rattle.std.specs.Prelude.{Option}
use Rattle.std.proofs.KnownBytes.{Consumes-nil}
use Rattle.tool_setup.specs.declared.command.Command.TheVariants.{Flatten, Info, Stack}
use Rattle.layer_commands.specs.declared.refusal.Refusal.{Refusal}
use Rattle.layer_commands.specs.declared.refusal.Refusal.TheVariants as refused
use Rattle.layer_commands.specs.Ports.{TakesAtMost, source_ports, shelf_ports}
use Rattle.layer_commands.specs.Causes.{Cause}

-- the objects that a command does not use do not count
pub from_source : (l l' w w' : Option (List ℕ)) (f f' : Option (List (List ℕ))) (a a' s s' n n' h h' : ℕ) (refusal : Refusal)
    → Cause (Flatten true) (source_ports l a w s) (source_ports l' a' w' s') refusal
    → Cause (Flatten true) (record { left = l; source_faults = a; written = w; sink_faults = s; files = f; count = n; shelf_faults = h })
    (record { left = l'; source_faults = a'; written = w'; sink_faults = s'; files = f'; count = n'; shelf_faults = h' }) refusal
from_source l l' w w' f f' a a' s s' n n' h h' refused.SourceFault cause = cause
from_source l l' w w' f f' a a' s s' n n' h h' refused.SinkFault cause = cause
from_source l l' w w' f f' a a' s s' n n' h h' refused.TooLong cause = cause
from_source l l' w w' f f' a a' s s' n n' h h' refused.Memory cause = cause
from_source l l' w w' f f' a a' s s' n n' h h' (refused.Layer number fault) cause = cause
from_source l l' w w' f f' a a' s s' n n' h h' refused.ShelfFault cause = absurd (cause.0 tt)
from_source l l' w w' f f' a a' s s' n n' h h' refused.NoLayer cause = absurd cause.0
from_source l l' w w' f f' a a' s s' n n' h h' (refused.Stack fault) cause = absurd cause.0
from_source l l' w w' f f' a a' s s' n n' h h' other cause = absurd cause

pub none_taken : (left : Option (List ℕ)) → TakesAtMost left left 0
none_taken left = ([], Consumes-nil left, omega arith)

pub from_flatten : (l w w' : Option (List ℕ)) (f f' : Option (List (List ℕ))) (a s s' n n' h h' : ℕ) (refusal : Refusal)
    → Cause (Flatten false) (shelf_ports f n h w s) (shelf_ports f' n' h' w' s') refusal
    → Cause (Flatten false) (record { left = l; source_faults = a; written = w; sink_faults = s; files = f; count = n; shelf_faults = h })
    (record { left = l; source_faults = a; written = w'; sink_faults = s'; files = f'; count = n'; shelf_faults = h' }) refusal
from_flatten l w w' f f' a s s' n n' h h' refused.SinkFault cause = cause
from_flatten l w w' f f' a s s' n n' h h' refused.ShelfFault cause = cause
from_flatten l w w' f f' a s s' n n' h h' refused.NoLayer cause = cause
from_flatten l w w' f f' a s s' n n' h h' refused.Memory cause = (none_taken l, cause.1)
from_flatten l w w' f f' a s s' n n' h h' refused.SourceFault cause = absurd cause.0
from_flatten l w w' f f' a s s' n n' h h' refused.TooLong cause = absurd cause.0
from_flatten l w w' f f' a s s' n n' h h' (refused.Layer number fault) cause = cause
from_flatten l w w' f f' a s s' n n' h h' (refused.Stack fault) cause = cause
from_flatten l w w' f f' a s s' n n' h h' other cause = absurd cause

pub from_stack : (l w w' : Option (List ℕ)) (f f' : Option (List (List ℕ))) (a s s' n n' h h' : ℕ) (refusal : Refusal)
    → Cause Stack (shelf_ports f n h w s) (shelf_ports f' n' h' w' s') refusal
    → Cause Stack (record { left = l; source_faults = a; written = w; sink_faults = s; files = f; count = n; shelf_faults = h })
    (record { left = l; source_faults = a; written = w'; sink_faults = s'; files = f'; count = n'; shelf_faults = h' }) refusal
from_stack l w w' f f' a s s' n n' h h' refused.SinkFault cause = cause
from_stack l w w' f f' a s s' n n' h h' refused.ShelfFault cause = cause
from_stack l w w' f f' a s s' n n' h h' refused.NoLayer cause = cause
from_stack l w w' f f' a s s' n n' h h' refused.Memory cause = (none_taken l, cause.1)
from_stack l w w' f f' a s s' n n' h h' refused.SourceFault cause = absurd cause.0
from_stack l w w' f f' a s s' n n' h h' refused.TooLong cause = absurd cause.0
from_stack l w w' f f' a s s' n n' h h' (refused.Layer number fault) cause = cause
from_stack l w w' f f' a s s' n n' h h' (refused.Stack fault) cause = cause
from_stack l w w' f f' a s s' n n' h h' other cause = absurd cause

pub from_info : (l w w' : Option (List ℕ)) (f f' : Option (List (List ℕ))) (a s s' n n' h h' : ℕ) (k : ℕ) (refusal : Refusal)
    → Cause (Info k) (shelf_ports f n h w s) (shelf_ports f' n' h' w' s') refusal
    → Cause (Info k) (record { left = l; source_faults = a; written = w; sink_faults = s; files = f; count = n; shelf_faults = h })
    (record { left = l; source_faults = a; written = w'; sink_faults = s'; files = f'; count = n'; shelf_faults = h' }) refusal
from_info l w w' f f' a s s' n n' h h' k refused.SinkFault cause = cause
from_info l w w' f f' a s s' n n' h h' k refused.ShelfFault cause = cause
from_info l w w' f f' a s s' n n' h h' k refused.NoLayer cause = cause
from_info l w w' f f' a s s' n n' h h' k refused.Memory cause = (none_taken l, cause.1)
from_info l w w' f f' a s s' n n' h h' k refused.SourceFault cause = absurd cause.0
from_info l w w' f f' a s s' n n' h h' k refused.TooLong cause = absurd cause.0
from_info l w w' f f' a s s' n n' h h' k (refused.Layer number fault) cause = cause
from_info l w w' f f' a s s' n n' h h' k (refused.Stack fault) cause = cause
from_info l w w' f f' a s s' n n' h h' k other cause = absurd cause
