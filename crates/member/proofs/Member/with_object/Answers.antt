use borrow.Author.Rules.{rules}
use Rattle.objects.proofs.Arrays.{unmapped}
use Rattle.member.proofs.Objects.{object-in, object-out}
use Rattle.member.proofs.Member.with_object.Goals as goal

pub returns-then-id-ge-IDS : goal.returns-then-id-ge-IDS
returns-then-id-ge-IDS c = search (rules, unmapped, object-out)

pub returns : goal.returns
returns c = search (rules, object-in)
