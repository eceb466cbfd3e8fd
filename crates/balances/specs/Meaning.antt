-- What a book of balances means.
use Rattle.book.specs.Holdings.{Holdings}
use Rattle.balances.specs.declared.table.Balances.{Balances}
use Rattle.balances.specs.Rows.{amounts}

abbrev pub meaning : Balances → Holdings
meaning b = amounts b.rows
