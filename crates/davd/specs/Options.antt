-- What the arguments of the program mean: this project's own choice.
use Rattle.std.specs.Prelude.{◌≡◌, ◌⊎◌, ℕ, ◌^◌, Bool, true, false, List, [], ◌∷◌, codes, bytes_eq, ◌==◌, nat_lt, length, ◌&&◌, not, if◌then◌else◌, is_ok, string_bytes, Option, Some, None}
use Rattle.std.specs.Option.{option_map, option_and_then}
use Rattle.std.specs.List.{list_all}
use Rattle.std.specs.Char.{is_ascii_digit}
use Rattle.std.specs.Str.Parse.{digits_value}
use Rattle.dav_resource.specs.PathText.{read_prefix}
use Rattle.dav_headers.specs.Number.{number_in}
use Rattle.davd.specs.declared.options.ProgramOptions.{ProgramOptions}
use Rattle.davd.specs.declared.program.Stopped.{Stopped}
use Rattle.davd.specs.declared.program.Stopped.TheVariants.{Memory, Usage}

-- the options of a run: the path prefix, whether anyone may remove and refresh a lock, how many bytes the content of a batch may have, the quota, the
-- folder in which everything is kept, whether it is served if it has lost its last batches, the key of a new folder, the seed of this start and its part in
-- each entity tag, which the caller draws, and whether the folder is checked and not served
pub record OptionsValue : Type 0 where
  pub prefix : List ℕ
  pub anyone_unlocks : Bool
  pub max_batch : ℕ
  pub quota : Option ℕ
  pub folder : Option (List ℕ)
  pub accepts_loss : Bool
  pub key : ℕ
  pub seed : ℕ
  pub tag_part : Option ℕ
  pub checks : Bool

-- the options without arguments
abbrev pub first_options : OptionsValue
first_options = record { prefix = []; anyone_unlocks = false; max_batch = 2 ^ 30; quota = None; folder = None; accepts_loss = false; key = 0; seed = 0; tag_part = None; checks = false }

abbrev pub is_unlocks : List ℕ → Bool
is_unlocks name = bytes_eq name (codes "-anyone-unlocks")

-- the options after `-anyone-unlocks`
abbrev pub unlocking : OptionsValue → OptionsValue
unlocking options = record options { anyone_unlocks = true }

abbrev pub is_loss : List ℕ → Bool
is_loss name = bytes_eq name (codes "-accept-loss")

-- the options after `-accept-loss`
abbrev pub accepting : OptionsValue → OptionsValue
accepting options = record options { accepts_loss = true }

-- a key: a decimal number below 2 ^ 63
abbrev pub key_in : List ℕ → Option ℕ
key_in text = option_and_then (λ n. if nat_lt n (2 ^ 63) then Some n else None) (number_in text)

-- a part of entity tags: a decimal number below 2 ^ 128
abbrev pub is_tag_part : List ℕ → Bool
is_tag_part text = nat_lt 0 (length text) && (list_all is_ascii_digit text && nat_lt (digits_value 10 text) (2 ^ 128))

abbrev pub tag_part_in : List ℕ → Option ℕ
tag_part_in text = if is_tag_part text then Some (digits_value 10 text) else None

-- the options after an option with a value: a prefix is one that can be parsed, and bytes and a seed are a decimal number below 2 ^ 64
abbrev pub with_value : List ℕ → List ℕ → OptionsValue → Option OptionsValue
with_value name value options =
    if bytes_eq name (codes "-prefix") then (if is_ok (read_prefix value) then Some (record options { prefix = value }) else None)
    else (if bytes_eq name (codes "-max-batch") then option_map (λ bytes. record options { max_batch = bytes }) (number_in value)
    else (if bytes_eq name (codes "-quota") then option_map (λ bytes. record options { quota = Some bytes }) (number_in value)
    else (if bytes_eq name (codes "-key") then option_map (λ key. record options { key = key }) (key_in value)
    else (if bytes_eq name (codes "-seed") then option_map (λ seed. record options { seed = seed }) (number_in value)
    else (if bytes_eq name (codes "-tags") then option_map (λ part. record options { tag_part = Some part }) (tag_part_in value) else None)))))

-- the name of a folder is not empty, and does not begin with `-`
abbrev pub is_folder : List ℕ → Bool
is_folder [] = false
is_folder (byte ∷ bytes) = not (byte == 45)

-- the options with a folder
abbrev pub with_folder : List ℕ → OptionsValue → Option OptionsValue
with_folder name options = if is_folder name then Some (record options { folder = Some name }) else None

-- the options after all these arguments, from left to right, unless one of them is wrong: of an option that is given twice the last one counts, and the
-- last argument may be a folder
abbrev pub with_arguments : List (List ℕ) → OptionsValue → Option OptionsValue
with_arguments [] options = Some options
with_arguments (name ∷ []) options =
    if is_unlocks name then Some (unlocking options) else (if is_loss name then Some (accepting options) else with_folder name options)
with_arguments (name ∷ value ∷ rest) options =
    if is_unlocks name then with_arguments (value ∷ rest) (unlocking options)
    else (if is_loss name then with_arguments (value ∷ rest) (accepting options)
    else option_and_then (with_arguments rest) (with_value name value options))

-- the options of a server that the arguments say, unless they are wrong
abbrev pub server_options_of : List (List ℕ) → Option OptionsValue
server_options_of arguments = with_arguments arguments first_options

-- the options of a check of this folder, unless it may not be the name of one
abbrev pub check_of : List ℕ → Option OptionsValue
check_of folder = option_map (λ (options : OptionsValue). record options { checks = true }) (with_folder folder first_options)

abbrev pub is_check : List ℕ → Bool
is_check name = bytes_eq name (codes "--check")

-- the options that the arguments say, unless they are wrong: two of which the first is `--check` say a check of the folder that is the second
abbrev pub options_of : List (List ℕ) → Option OptionsValue
options_of [] = server_options_of []
options_of (name ∷ []) = server_options_of (name ∷ [])
options_of (name ∷ folder ∷ []) = if is_check name then check_of folder else server_options_of (name ∷ folder ∷ [])
options_of (name ∷ folder ∷ next ∷ rest) = server_options_of (name ∷ folder ∷ next ∷ rest)

-- the options that the program has read
abbrev pub value_of : ProgramOptions → OptionsValue
value_of options =
    record { prefix = string_bytes options.server.prefix; anyone_unlocks = options.server.anyone_unlocks; max_batch = options.server.max_batch; quota = options.quota; folder = option_map string_bytes options.folder; accepts_loss = options.accepts_loss; key = options.key; seed = options.seed; tag_part = options.tag_part; checks = options.checks }

-- why arguments are not read: memory runs out, or they are wrong as `Wrong` says
abbrev pub IsFault : Type 0 → Stopped → Type 0
IsFault Wrong e = (e ≡ Memory) ⊎ ((e ≡ Usage) × Wrong)
