use borrow.Author.Rules.{rules}
use Rattle.member.proofs.Record.{Shaped}
use Rattle.card.proofs.WriteLaws.{record-written}
use Rattle.card.proofs.write_record.Goals.{Start}
use Rattle.card.proofs.write_record.Goals as goal

shaped : (s : Start) → Shaped s.args.x
shaped s = record {
  ids = search rules;
  low = search rules;
  long = search rules;
}

pub returns : goal.returns
returns c = search (rules, shaped, record-written)
