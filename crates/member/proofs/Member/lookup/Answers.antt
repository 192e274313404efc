use borrow.Author.Rules.{rules}
use Rattle.objects.proofs.Arrays.{unmapped}
use Rattle.member.proofs.Objects.{lookup-in, lookup-out}
use Rattle.member.proofs.Member.lookup.Goals as goal

pub returns-then-id-ge-IDS : goal.returns-then-id-ge-IDS
returns-then-id-ge-IDS c = search (rules, unmapped, lookup-out)

pub returns : goal.returns
returns c = search (rules, lookup-in)
