-- The messages about a script that was not served; this project's own choice.
use Rattle.std.specs.Prelude.{ℕ, List, ◌++◌, codes}
use Rattle.std.specs.Fmt.{decimal}
use Rattle.dav_script.specs.declared.faults.Fault.{Fault}
use Rattle.dav_script.specs.declared.faults.Fault.TheVariants as fault
use Rattle.dav_script.specs.declared.trouble.Trouble.{Trouble}
use Rattle.dav_script.specs.declared.trouble.Trouble.TheVariants as trouble
use Rattle.dav_script.specs.declared.trouble.Stopped.TheVariants as stopped

-- a line's fault
abbrev pub fault_text : Fault → List ℕ
fault_text fault.NotUtf8 = codes "not UTF-8"
fault_text fault.BadRequestLine = codes "bad request line"
fault_text fault.StarPath = codes "star path without OPTIONS"
fault_text fault.BadHeader = codes "bad header"
fault_text fault.UnknownDirective = codes "unknown directive"
fault_text fault.BadValue = codes "bad value"
fault_text fault.BadOutline = codes "bad outline"
fault_text fault.OutlineTooDeep = codes "outline too deep"

-- why the program with this name did not serve a script
abbrev pub trouble_text : List ℕ → Trouble → List ℕ
trouble_text program trouble.Usage = codes "usage: " ++ (program ++ codes " [PREFIX]")
trouble_text program (trouble.Fault line fault) = codes "line " ++ (decimal line ++ (codes ": " ++ fault_text fault))
trouble_text program (trouble.Stopped stopped.InputOutput) = program ++ codes ": input or output failed"
trouble_text program (trouble.Stopped stopped.Memory) = program ++ codes ": no memory"
