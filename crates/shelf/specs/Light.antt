-- How light travels through the shelf, and which settings are lawful, with W for the scope's Λ. Nothing here mentions the acceptance of
-- settings.
--   Row, row_at, row_of  == what the light of one row goes by: α and β of its call, x, γ and y of its settings
--   port_below top port == the port, or none where nothing stands there and the light is lost
--   first net ρ        == the port p at which the row's light leaves the first grating, or none where it is lost there
--   second net ρ       == the port q at which it leaves the second grating, or none where it is lost before or there
--   Kind, kinds        == the four kinds of link, and all of them in a list
--   Lit                == a link, by its port, and the wavelength that it carries
--   link net ρ kind    == the link of that kind which the row's light passes, with its wavelength; same tells whether two are the same
--   collide_on net ρ σ kind == two rows share a link of that kind and its wavelength
--   collide, Collide net ρ σ == they do so on one of the four kinds
--   is o port          == the light is at that port
--   arrives net ρ      == the row uses the shelf's own wavelengths and centrals, and its light comes through its named central
--                         to its output module
--   row_for_each_call, every_row_arrives, no_two_rows_collide == what makes settings lawful
--   lawful, Lawful net calls settings == the settings are lawful for the calls
use Rattle.std.specs.Prelude.{Bool, false, not, cond, ◌&&◌, List, [], ◌∷◌, map, ℕ, ◌*◌, T, eqb, ltb, length}
use Rattle.std.proofs.Math.Option
use Rattle.std.proofs.Math.Option.{Option, none, some}
use Rattle.ground.specs.Truth.{all, any}
use Rattle.ground.specs.Below.{every_below}
use Rattle.grating.specs.Grating.{exit_port}
use Rattle.shelf.specs.declared.Network.{Network}
use Rattle.shelf.specs.declared.CallRow.{CallRow}
use Rattle.shelf.specs.declared.SettingsRow.{SettingsRow}
use Rattle.shelf.specs.Network.{cycle, own_wavelength, own_central}
use Rattle.shelf.specs.Rows as rows
use Rattle.shelf.specs.Rows.{row_count}

pub record Row : Type 0 where
  pub α : ℕ
  pub β : ℕ
  pub x : ℕ
  pub γ : ℕ
  pub y : ℕ

-- "Settings row i belongs to call row i."
unfoldable pub row_at : List ℕ → List ℕ → ℕ → Row
row_at calls settings i = record { α = rows.α calls i; β = rows.β calls i; x = rows.x settings i; γ = rows.γ settings i; y = rows.y settings i }

-- the same row, out of the code's own records of a call row and a settings row
abbrev pub row_of : CallRow → SettingsRow → Row
row_of call set = record { α = call.input_module; β = call.output_module; x = set.to_central; γ = set.central; y = set.from_central }

-- a port where something stands only below `top`: there, or the light is lost
unfoldable pub port_below : ℕ → ℕ → Option ℕ
port_below top port = cond (ltb port top) (some port) none

-- "First grating: wavelength x entering at port α leaves at port p = [x − α]. If p ≥ m there is no central module and
-- the light is lost."
unfoldable pub first : Network → Row → Option ℕ
first net ρ = port_below net.m (exit_port (cycle net) ρ.x ρ.α)

-- "Central module p turns x into y. Second grating: y entering at port p leaves at port q = [y − p]. If q ≥ r the light
-- is lost."
unfoldable pub second : Network → Row → Option ℕ
second net ρ = elim (first net ρ) [ none ↦ none | some p ↦ port_below net.r (exit_port (cycle net) ρ.y p) ]

-- "Four kinds of link: input module to first grating (α, carrying x); first grating to central (p, x); central to second
-- grating (p, y); second grating to output module (q, y)."
pub data Kind : Type 0 where
  to_first to_central to_second to_output : Kind

abbrev pub kinds : List Kind
kinds = to_first ∷ to_central ∷ to_second ∷ to_output ∷ []

pub record Lit : Type 0 where
  pub port : ℕ
  pub wavelength : ℕ

unfoldable pub link : Network → Row → Kind → Option Lit
link net ρ to_first = some (record { port = ρ.α; wavelength = ρ.x })
link net ρ to_central = Option.map (λ p. record { port = p; wavelength = ρ.x }) (first net ρ)
link net ρ to_second = Option.map (λ p. record { port = p; wavelength = ρ.y }) (first net ρ)
link net ρ to_output = Option.map (λ q. record { port = q; wavelength = ρ.y }) (second net ρ)

-- "Two rows collide when they share a link and its wavelength."
unfoldable pub same : Option Lit → Option Lit → Bool
same none other = false
same (some s) none = false
same (some s) (some t) = eqb s.port t.port && eqb s.wavelength t.wavelength

unfoldable pub collide_on : Network → Row → Row → Kind → Bool
collide_on net ρ σ kind = same (link net ρ kind) (link net σ kind)

unfoldable pub collide : Network → Row → Row → Bool
collide net ρ σ = any (map (collide_on net ρ σ) kinds)

abbrev pub Collide : Network → Row → Row → Type 0
Collide net ρ σ = T (collide net ρ σ)

unfoldable pub is : Option ℕ → ℕ → Bool
is none port = false
is (some p) port = eqb p port

-- "every row has x < Λ, y < Λ, γ < m, p = γ, q = β"
unfoldable pub arrives : Network → Row → Bool
arrives net ρ =
    all (own_wavelength net ρ.x ∷ own_wavelength net ρ.y ∷ own_central net ρ.γ ∷ is (first net ρ) ρ.γ ∷ is (second net ρ) ρ.β ∷ [])

-- "Settings are lawful when every row has x < Λ, y < Λ, γ < m, p = γ, q = β, and no two rows collide on any of the four
-- kinds of link." Settings that lack a row for some call, or have one too many, are none for these calls.
unfoldable pub row_for_each_call : List ℕ → List ℕ → Bool
row_for_each_call calls settings = eqb (length settings) (3 * row_count calls)

unfoldable pub every_row_arrives : Network → List ℕ → List ℕ → Bool
every_row_arrives net calls settings = every_below (row_count calls) (λ i. arrives net (row_at calls settings i))

unfoldable pub no_two_rows_collide : Network → List ℕ → List ℕ → Bool
no_two_rows_collide net calls settings =
    every_below (row_count calls) (λ j. every_below j (λ i. not (collide net (row_at calls settings i) (row_at calls settings j))))

unfoldable pub lawful : Network → List ℕ → List ℕ → Bool
lawful net calls settings = all (row_for_each_call calls settings ∷ every_row_arrives net calls settings ∷ no_two_rows_collide net calls settings ∷ [])

abbrev pub Lawful : Network → List ℕ → List ℕ → Type 0
Lawful net calls settings = T (lawful net calls settings)
