-- `lines::list` meets its contract: a file that is too long, and any other.
use Rattle.std.proofs.Common.{sym, ◌∙◌, rules}
use Rattle.shelf.specs.Network.{most_calls}
use Rattle.trailer.proofs.FileLaws.{longest_is}
use Rattle.lines.specs.TextLaws.{too_long_is}
use Rattle.lines.specs.Writing.{byte_digits, row_digits, number_digits, most_sizes, most_first_line, most_row_line, longest_listing}
use Rattle.lines.specs.Listing.{long_listing, told_listing, lists}
use Rattle.lines.proofs.list.Goals as goal

pub returns-then-file-gt-LONGEST_FILE : goal.returns-then-file-gt-LONGEST_FILE
returns-then-file-gt-LONGEST_FILE c = lists c.bytes.ensures.adds (sym too_long_is ∙ long_listing _ (rw longest_is c.if-file-gt-LONGEST_FILE.true))

pub list_told-requires : goal.list_told-requires
unfolding longest_listing most_first_line most_row_line most_sizes byte_digits row_digits number_digits most_calls
list_told-requires c = search rules

pub returns : goal.returns
returns c = lists c.list_told.ensures.adds (told_listing _ (rw longest_is c.if-file-gt-LONGEST_FILE.false))
