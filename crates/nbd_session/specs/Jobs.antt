-- What a request asks of the port, or why it is refused before the port is asked.
use Rattle.std.specs.Prelude.{◌≡◌, ℕ, ◌≤◌, ◌+◌, ◌*◌, ◌/◌, ◌%◌, Bool, ◌&&◌, ◌||◌, not, nat_lt, ◌==◌, if◌then◌else◌, Result, Ok, Err}
use Rattle.nbd_wire.specs.declared.request.Request.{Request}
use Rattle.nbd_wire.specs.Requests.{data_length}
use Rattle.nbd_session.specs.declared.export.Export.{Export}
use Rattle.nbd_session.specs.declared.job.Job.{Job}
use Rattle.nbd_session.specs.declared.job.Job.TheVariants.{Read, Write, Zero, Flush}
use Rattle.nbd_session.specs.declared.errno.Errno.{Errno}
use Rattle.nbd_session.specs.declared.errno.Errno.TheVariants.{Permission, Invalid, Space}

-- the commands but DISC: READ 0, WRITE 1, FLUSH 3, TRIM 4 and WRITE_ZEROES 6
abbrev pub is_known : ℕ → Bool
is_known command = command == 0 || command == 1 || command == 3 || command == 4 || command == 6

-- flags below this number are allowed: FUA, which is 1, and with WRITE_ZEROES also NO_HOLE, which is 2
abbrev pub flags_limit : ℕ → ℕ
flags_limit command = if command == 6 then 4 else 2

-- WRITE, TRIM and WRITE_ZEROES
abbrev pub is_change : ℕ → Bool
is_change command = command == 1 || command == 4 || command == 6

-- the request is of whole sectors
abbrev pub is_whole : Request → Bool
is_whole r = r.offset % 512 == 0 && r.length % 512 == 0

-- the request reaches behind the last of n sectors
abbrev pub is_past : ℕ → Request → Bool
is_past n r = nat_lt (512 * n) (r.offset + r.length)

-- with FUA, a flush behind the change is asked for
abbrev pub has_fua : Request → Bool
has_fua r = r.flags % 2 == 1

-- the job of a request that meets no check: TRIM and WRITE_ZEROES make sectors zero
abbrev pub the_job : Request → Job
the_job r =
    if r.command == 0 then Read (r.offset / 512) (r.length / 512) else (
    if r.command == 1 then Write (r.offset / 512) (r.length / 512) (has_fua r) else (
    if r.command == 3 then Flush else
    Zero (r.offset / 512) (r.length / 512) (has_fua r)))

-- the first check that a request meets gives its error: the command is unknown; a flag is not allowed; offset or length
-- is not of whole sectors; a READ is too long; READ or TRIM past the end; WRITE or WRITE_ZEROES past the end; a change
-- of an export that is read only
unfoldable pub job_of : Export → ℕ → Request → Result Job Errno
job_of export n r =
    if not (is_known r.command) then Err Invalid else (
    if not (nat_lt r.flags (flags_limit r.command)) then Err Invalid else (
    if not (r.command == 3) && not (is_whole r) then Err Invalid else (
    if r.command == 0 && nat_lt 33554432 r.length then Err Invalid else (
    if (r.command == 0 || r.command == 4) && is_past n r then Err Invalid else (
    if (r.command == 1 || r.command == 6) && is_past n r then Err Space else (
    if is_change r.command && export.read_only then Err Permission else
    Ok (the_job r)))))))

-- a job lies within n sectors, and its data are those of the request
abbrev pub IsInside : ℕ → Request → Job → Type 0
IsInside n r (Read at count) = (at + count ≤ n) × (r.length ≡ 512 * count) × (data_length r ≡ 0)
IsInside n r (Write at count fua) = (at + count ≤ n) × (r.length ≡ 512 * count) × (data_length r ≡ r.length)
IsInside n r (Zero at count fua) = (at + count ≤ n) × (data_length r ≡ 0)
IsInside n r Flush = data_length r ≡ 0
