use borrow.Author.Rules.{rules}
use Rattle.frame.proofs.Lengths.{fixed-inside, whole_long, whole-read}
use Rattle.frame.proofs.fields.fields.Goals as goal

pub padded-short-requires : goal.padded-short-requires
padded-short-requires c = search (rules, fixed-inside)

pub slice_bounds-complete-end : goal.slice_bounds-complete-end
slice_bounds-complete-end c = search (rules, fixed-inside)

pub whole_fields-requires : goal.whole_fields-requires
whole_fields-requires c = (search rules, search (rules, whole_long))

pub returns : goal.returns
returns c = search whole-read
