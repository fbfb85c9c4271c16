-- The checks of rows that reader and writers share.
--   table_checks net kind calls settings == 5, 6 and 7, and for a planned file 9 to 13 row by row
use Rattle.std.specs.Prelude.{cond, List, ℕ}
use Rattle.shelf.specs.declared.Network.{Network}
use Rattle.calls.specs.declared.Verdict.{Verdict}
use Rattle.calls.specs.Table.{call_checks}
use Rattle.acceptance.specs.Acceptance.{row_checks}
use Rattle.trailer.specs.File.{has_settings}

-- "then as acceptance from 5"; "Calls-only files skip 9 to 13"
unfoldable pub table_checks : Network → ℕ → List ℕ → List ℕ → Verdict
table_checks net kind calls settings = cond (has_settings kind) (row_checks net calls settings) (call_checks net calls)
