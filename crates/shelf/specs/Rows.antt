-- Rows out of bytes.
--   row_count calls   == K, the number of rows of a call table
--   α, ω, β, ω'      == input module, its channel, output module, its channel of call row i
--   call_at calls i   == call row i as the code's record has it
--   module_of, channel_of calls output == β and ω' where `output`, else α and ω: so that what is said of one side is said of both
--   is_output side    == a side as these take it
--   ModulesBelow α β r k == the modules of the rows below k are numbers below r
--   x, γ, y          == wavelength after the input module, central module, wavelength after it of settings row i
--   CallRead, SettingsRead == what the code's row records hold: these numbers, and each is a byte
use Rattle.std.specs.Prelude.{◌≡◌, Bool, true, false, List, ℕ, ◌+◌, ◌*◌, ◌/◌, ◌<◌, length, get_or}
use Rattle.shelf.specs.declared.CallRow.{CallRow}
use Rattle.shelf.specs.declared.SettingsRow.{SettingsRow}
use Rattle.shelf.specs.declared.Side.{Side}
use Rattle.shelf.specs.declared.Side.TheVariants.{Input, Output}

-- "A call row is 4 bytes: α (input module), ω (its channel), β (output module), ω' (its channel)."
unfoldable pub row_count : List ℕ → ℕ
row_count calls = length calls / 4

unfoldable pub α : List ℕ → ℕ → ℕ
α calls i = get_or calls (4 * i) 0

unfoldable pub ω : List ℕ → ℕ → ℕ
ω calls i = get_or calls (4 * i + 1) 0

unfoldable pub β : List ℕ → ℕ → ℕ
β calls i = get_or calls (4 * i + 2) 0

unfoldable pub ω' : List ℕ → ℕ → ℕ
ω' calls i = get_or calls (4 * i + 3) 0

abbrev pub call_at : List ℕ → ℕ → CallRow
call_at calls i = record { input_module = α calls i; input_channel = ω calls i; output_module = β calls i; output_channel = ω' calls i }

-- the module and the channel of row i on one side: of its outlet where `output`, else of its inlet
abbrev pub module_of : List ℕ → Bool → ℕ → ℕ
module_of calls true = β calls
module_of calls false = α calls

abbrev pub channel_of : List ℕ → Bool → ℕ → ℕ
channel_of calls true = ω' calls
channel_of calls false = ω calls

abbrev pub is_output : Side → Bool
is_output Input = false
is_output Output = true

abbrev pub ModulesBelow : (α β : ℕ → ℕ) (r k : ℕ) → Type 0
ModulesBelow α β r k = (i : ℕ) → i < k → (α i < r) × (β i < r)

-- "A settings row is 3 bytes: x, γ, y: the wavelength after the input module, the central module, the wavelength after
-- the central module."
unfoldable pub x : List ℕ → ℕ → ℕ
x settings i = get_or settings (3 * i) 0

unfoldable pub γ : List ℕ → ℕ → ℕ
γ settings i = get_or settings (3 * i + 1) 0

unfoldable pub y : List ℕ → ℕ → ℕ
y settings i = get_or settings (3 * i + 2) 0

pub record CallRead (calls : List ℕ) (i : ℕ) (call : CallRow) : Type 0 where
  pub input_module : call.input_module ≡ α calls i
  pub input_channel : call.input_channel ≡ ω calls i
  pub output_module : call.output_module ≡ β calls i
  pub output_channel : call.output_channel ≡ ω' calls i
  pub small_input_module : call.input_module < 256
  pub small_input_channel : call.input_channel < 256
  pub small_output_module : call.output_module < 256
  pub small_output_channel : call.output_channel < 256

pub record SettingsRead (settings : List ℕ) (i : ℕ) (row : SettingsRow) : Type 0 where
  pub to_central : row.to_central ≡ x settings i
  pub central : row.central ≡ γ settings i
  pub from_central : row.from_central ≡ y settings i
  pub small_to_central : row.to_central < 256
  pub small_central : row.central < 256
  pub small_from_central : row.from_central < 256
