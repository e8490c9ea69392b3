-- The exit status of a program, by why it ends, and the message that it writes; this project's own choice.
use Rattle.std.specs.Prelude.{◌≡◌, ℕ, List, [], ◌∷◌, ◌++◌, Option}
use Rattle.std.specs.Io.KnownBytes.{Appends}
use Rattle.dav_script.specs.Arguments.{AreUsable}
use Rattle.dav_script.specs.Texts.{trouble_text}
use Rattle.dav_script.specs.declared.trouble.Trouble.{Trouble}
use Rattle.dav_script.specs.declared.trouble.Trouble.TheVariants.{Usage, Fault, Stopped}

-- 2 for a fault in the arguments or the script, 3 for what stopped the program
abbrev pub status_of : Trouble → ℕ
status_of Usage = 2
status_of (Fault line fault) = 2
status_of (Stopped stopped) = 3

-- the message of the program with this name, as a line
abbrev pub trouble_line : List ℕ → Trouble → List ℕ
trouble_line program trouble = trouble_text program trouble ++ (10 ∷ [])

-- a fault in the arguments or the script was written, as one line; the usage only if the arguments cannot be used
abbrev pub SaysFault : List ℕ → List (List ℕ) → Option (List ℕ) → Option (List ℕ) → Type 0
SaysFault program arguments old new =
    (trouble : Trouble) × (status_of trouble ≡ 2) × (trouble ≡ Usage → ¬ (AreUsable arguments)) × Appends old new (trouble_line program trouble)
