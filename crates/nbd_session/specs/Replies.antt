-- The numbers of errors, and the reply to a request.
use Rattle.std.specs.Prelude.{ℕ, List, [], ◌++◌, Result, Ok, Err}
use Rattle.flat_image.specs.declared.port_fault.PortFault.{PortFault}
use Rattle.flat_image.specs.declared.port_fault.PortFault.TheVariants as fault
use Rattle.nbd_wire.specs.Requests.{simple_reply_bytes}
use Rattle.nbd_session.specs.declared.errno.Errno.{Errno}
use Rattle.nbd_session.specs.declared.errno.Errno.TheVariants.{Permission, InputOutput, Memory, Invalid, Space, Shutdown}

-- EPERM, EIO, ENOMEM, EINVAL, ENOSPC and ESHUTDOWN
abbrev pub errno_number : Errno → ℕ
errno_number Permission = 1
errno_number InputOutput = 5
errno_number Memory = 12
errno_number Invalid = 22
errno_number Space = 28
errno_number Shutdown = 108

-- what is answered to a request that was put to the port: the data of a READ and no bytes for the others, or an error
pub data Answer : Type 0 where
  Good : List ℕ → Answer
  Bad : Errno → Answer

-- the reply to the request with that cookie
abbrev pub reply_of : ℕ → Answer → List ℕ
reply_of cookie (Good bytes) = simple_reply_bytes 0 cookie ++ bytes
reply_of cookie (Bad errno) = simple_reply_bytes (errno_number errno) cookie

-- a call that was made has no bytes to answer with
abbrev pub answer_of : {T : Type 0} → Result T Errno → Answer
answer_of (Ok value) = Good []
answer_of (Err errno) = Bad errno

-- what is answered where the port refuses
abbrev pub errno_of : PortFault → Errno
errno_of fault.Memory = Memory
errno_of fault.Failed = InputOutput
errno_of (fault.Full rows sectors) = Space
errno_of fault.Worn = Shutdown
