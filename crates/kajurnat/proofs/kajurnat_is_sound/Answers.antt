use borrow.Author.Rules.{rules}
use Rattle.theory.proofs.Tests.{bool-byte-is}
use Rattle.kajurnat.proofs.kajurnat_is_sound.Goals as goal

pub returns : goal.returns
returns c = search (rules, bool-byte-is)
