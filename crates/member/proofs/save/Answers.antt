-- The fields are stored one after the other.
use borrow.Author.Rules.{rules}
use Rattle.member.proofs.Record.{Shaped, values-fit, member-saved}
use Rattle.member.proofs.save.Goals.{Start}
use Rattle.member.proofs.save.Goals as goal

shaped : (s : Start) → Shaped s.args.m
shaped s = record {
  ids = search rules;
  low = search rules;
  long = search rules;
}

pub copy-requires : goal.copy-requires
copy-requires c = search (rules, shaped, values-fit)

pub returns : goal.returns
returns c = search (rules, shaped, member-saved)
