-- What a book of lots means.
use Rattle.book.specs.Holdings.{Holdings}
use Rattle.lots.specs.declared.table.Lots.{Lots}
use Rattle.lots.specs.Owners.{amounts}

abbrev pub meaning : Lots → Holdings
meaning b = amounts b.lots
