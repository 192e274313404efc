use Rattle.std.proofs.Common.{rules}
use Rattle.message.proofs.Acted.{read_none, read-ends, read-inside}
use borrow.Author.Rules.{rules}
use Rattle.message.proofs.readable.Goals as goal

pub returns-then-not-is_inside : goal.returns-then-not-is_inside
returns-then-not-is_inside c = search (rules, read_none)

pub slice_bounds-result-end-2 : goal.slice_bounds-result-end-2
slice_bounds-result-end-2 c = search (rules, read-ends)

pub returns : goal.returns
returns c = search (rules, read-inside)
