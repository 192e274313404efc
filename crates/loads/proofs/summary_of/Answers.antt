use borrow.Author.Rules.{rules}
use Rattle.objects.proofs.Objects.{bytes_low}
use Rattle.loads.proofs.SummaryLaws.{summed}
use Rattle.loads.proofs.summary_of.Goals as goal

pub count_of-requires : goal.count_of-requires
count_of-requires c = (search (rules, bytes_low), search rules, search rules)

pub count_of-requires-2 : goal.count_of-requires-2
count_of-requires-2 c = (search (rules, bytes_low), search rules, search rules)

pub returns : goal.returns
returns c = search (rules, summed)
