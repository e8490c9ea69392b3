-- What an error of a lower layer means for a script: a line's fault, or the end of the program. This project's own choice.
use Rattle.std.specs.Prelude.{◌≡◌, ◌⊎◌, ℕ}
use Rattle.std.specs.declared.io.ErrorKind.{ErrorKind}
use Rattle.std.specs.declared.io.ErrorKind.TheVariants.{OutOfMemory}
use Rattle.http.specs.declared.method.MethodError.{MethodError}
use Rattle.http.specs.declared.method.MethodError.TheVariants as method
use Rattle.http_header.specs.declared.name.HeaderNameError.{HeaderNameError}
use Rattle.http_header.specs.declared.name.HeaderNameError.TheVariants as name
use Rattle.http_header.specs.declared.value.HeaderValueError.{HeaderValueError}
use Rattle.http_header.specs.declared.value.HeaderValueError.TheVariants as value
use Rattle.http_header.specs.declared.map.HeaderMapError.{HeaderMapError}
use Rattle.http_header.specs.declared.map.HeaderMapError.TheVariants as map
use Rattle.dav_script.specs.declared.faults.Fault.TheVariants as fault
use Rattle.dav_script.specs.declared.faults.LineError.{LineError}
use Rattle.dav_script.specs.declared.faults.LineError.TheVariants as line
use Rattle.dav_script.specs.declared.faults.ScriptError.{ScriptError}
use Rattle.dav_script.specs.declared.faults.ScriptError.TheVariants as script
use Rattle.dav_script.specs.declared.trouble.Stopped.{Stopped}
use Rattle.dav_script.specs.declared.trouble.Stopped.TheVariants as stopped
use Rattle.dav_script.specs.declared.trouble.Trouble.{Trouble}
use Rattle.dav_script.specs.declared.trouble.Trouble.TheVariants as trouble

-- an invalid method, or out of memory
abbrev pub from_method : MethodError → LineError
from_method method.Invalid = line.Fault fault.BadRequestLine
from_method method.OutOfMemory = line.Memory

-- an invalid header name, or out of memory
abbrev pub from_name : HeaderNameError → LineError
from_name name.Invalid = line.Fault fault.BadHeader
from_name name.OutOfMemory = line.Memory

-- an invalid header value, or out of memory
abbrev pub from_value : HeaderValueError → LineError
from_value value.Invalid = line.Fault fault.BadHeader
from_value value.OutOfMemory = line.Memory

-- too many headers, or out of memory
abbrev pub from_map : HeaderMapError → LineError
from_map map.MaxSizeReached = line.Fault fault.BadHeader
from_map map.OutOfMemory = line.Memory

-- the errors of a line of an outline, except OutlineTooDeep
abbrev pub IsOutlineError : LineError → Type 0
IsOutlineError e = (e ≡ line.Memory) ⊎ (e ≡ line.Fault fault.BadOutline)

-- a line's error becomes the script's, with the line's number
abbrev pub at_line : ℕ → LineError → ScriptError
at_line number (line.Fault fault) = script.Fault number fault
at_line number line.Memory = script.Memory

-- the line and its fault stay the same
abbrev pub from_script : ScriptError → Trouble
from_script (script.Fault number fault) = trouble.Fault number fault
from_script script.Memory = trouble.Stopped stopped.Memory

-- by the kind of the input or output error
abbrev pub from_kind : ErrorKind → Stopped
from_kind OutOfMemory = stopped.Memory
from_kind _ = stopped.InputOutput
