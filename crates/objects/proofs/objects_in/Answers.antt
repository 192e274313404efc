use borrow.Author.Rules.{rules}
use Rattle.objects.proofs.Arrays.{filled_on, filled}
use Rattle.objects.proofs.objects_in.Goals as goal

pub loop-i-preserved : goal.loop-i-preserved
loop-i-preserved c = search (rules, filled_on)

pub returns : goal.returns
returns c = search (rules, filled)
