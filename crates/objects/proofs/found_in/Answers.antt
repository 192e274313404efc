use borrow.Author.Rules.{rules}
use Rattle.objects.proofs.Objects.{found_get, found-set}
use Rattle.objects.proofs.found_in.Goals as goal

pub returns-in-Get : goal.returns-in-Get
returns-in-Get c = search (rules, found_get)

pub returns-in-Set : goal.returns-in-Set
returns-in-Set c = search (rules, found-set)
