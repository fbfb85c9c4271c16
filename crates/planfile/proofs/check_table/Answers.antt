-- `planfile::check_table` meets its contract: the checks of the calls alone, or for a planned file those of acceptance.
use Rattle.std.proofs.Common.{sym, ◌∙◌, rules}
use Rattle.trailer.specs.File.{settings_per_call, settings_distance}
use Rattle.planfile.specs.Checks.{table_checks}
use Rattle.planfile.proofs.check_table.Goals as goal

pub check_rows-requires : goal.check_rows-requires
unfolding settings_distance settings_per_call
check_rows-requires c =
    (c.requires.0, rw (sym c.has_settings.ensures ∙ c.if-has_settings.true) at c.requires.1)

pub returns-then-has_settings : goal.returns-then-has_settings
unfolding table_checks
returns-then-has_settings c = rw (sym c.has_settings.ensures ∙ c.if-has_settings.true) (search rules)

pub returns-else-has_settings : goal.returns-else-has_settings
unfolding table_checks
returns-else-has_settings c = rw (sym c.has_settings.ensures ∙ c.if-has_settings.false) (search rules)
